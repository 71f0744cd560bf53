use Rattle.std.proofs.Common.{length, ◌++◌}
use Rattle.std.proofs.lemmas.Result.{err_from_is_err_and}
use Rattle.cap_fm_spec.specs.Elimination.{eliminated}
use Rattle.cap_fm_spec.proofs.Lists.{each-join}
use Rattle.cap_fm_elimination.specs.Views.{stage_view, entries_of}
use Rattle.cap_fm_elimination.proofs.Walks.{reach-err}
use Rattle.cap_fm_elimination.proofs.Wholes.{inputs-explain, inputs-contradict, units-explain, units-contradict, variables-reach, are-rows}
use Rattle.cap_fm_elimination.proofs.eliminate.eliminated.Goals as goal

pub returns-in_err-row : goal.returns-in_err-row
returns-in_err-row c = λ f. reach-err (length (c.args.rows.now ++ c.args.more.now)) c.inputs.new.stage (eliminated (c.args.rows.now ++ c.args.more.now) (stage_view c.args.stage.now)) c.from_residual.result c.in_err-row.field-0.0 (err_from_is_err_and c.from_residual.result c.from_residual.ensures.1) (inputs-explain _ _ c.in_err-row.field-0.0 (c.in_err-row.ensures f))

pub returns-in_err-row-in-Rows : goal.returns-in_err-row-in-Rows
returns-in_err-row-in-Rows c = λ f.
    let a = rw c.in-Rows.is at (c.in_ok-row.ensures f) in
    reach-err (length (c.args.rows.now ++ c.args.more.now)) c.by_units.new.stage (eliminated (c.args.rows.now ++ c.args.more.now) (stage_view c.args.stage.now)) c.from_residual-in_err-row-in-Rows.result c.in_err-row-in-Rows.field-0.0 (err_from_is_err_and c.from_residual-in_err-row-in-Rows.result c.from_residual-in_err-row-in-Rows.ensures.1) (units-explain _ _ _ (entries_of c.inputs.new.stage c.in-Rows.rows.items) c.in_err-row-in-Rows.field-0.0 a.0 (c.in_err-row-in-Rows.ensures _ a.1))

pub returns-in-Contradiction : goal.returns-in-Contradiction
returns-in-Contradiction c = λ f.
    let a = rw c.in-Contradiction.is at (c.in_ok-row.ensures f) in
    (inputs-contradict _ _ _ _ a.0, a.1)

pub returns-in-Contradiction-2 : goal.returns-in-Contradiction-2
returns-in-Contradiction-2 c = λ f.
    let a = rw c.in-Rows.is at (c.in_ok-row.ensures f) in
    let b = rw c.in-Contradiction-2.is at (c.in_ok-row-in-Rows.ensures _ a.1) in
    (units-contradict _ _ _ _ (entries_of c.inputs.new.stage c.in-Rows.rows.items) _ a.0 b.0, b.1)

pub returns-in-Rows-2 : goal.returns-in-Rows-2
returns-in-Rows-2 c = λ f.
    let a = rw c.in-Rows.is at (c.in_ok-row.ensures f) in
    let b = rw c.in-Rows-2.is at (c.in_ok-row-in-Rows.ensures _ a.1) in
    variables-reach (length (c.args.rows.now ++ c.args.more.now)) c.by_variables.new.stage _ _ _ _ (entries_of c.inputs.new.stage c.in-Rows.rows.items) (entries_of c.by_units.new.stage c.in-Rows-2.rows.items) c.by_variables.result a.0 b.0 (c.by_variables.ensures _ b.1 (are-rows _ _ _ _ (entries_of c.inputs.new.stage c.in-Rows.rows.items) (entries_of c.by_units.new.stage c.in-Rows-2.rows.items) (each-join _ c.args.rows.now c.args.more.now c.requires.ascend c.terms_ascend.ensures) a.0 b.0))
