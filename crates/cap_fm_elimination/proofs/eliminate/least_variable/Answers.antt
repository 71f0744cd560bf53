use Rattle.std.proofs.Common.{arith, length, ◌<◌, ◌≤◌, take, get_or, [], ◌∷◌, subst}
use Rattle.std.proofs.lemmas.List.{take_all}
use Rattle.cap_lin.specs.Linear.{Linear, IsLeastFrom}
use Rattle.cap_fm_elimination.specs.Views.{entry_of, entries_of}
use Rattle.cap_fm_elimination.specs.Answers.{IsLeast}
use Rattle.cap_fm_elimination.proofs.Terms.{no_row, entry-in, below-of, past-of}
use Rattle.cap_fm_elimination.proofs.Walks.{least-one, least-more}
use Rattle.cap_fm_elimination.proofs.eliminate.least_variable.Goals as goal

pub loop-row-preserved : goal.loop-row-preserved
loop-row-preserved c =
    let s = c.args.stage.now in
    let rows = c.args.rows.now in
    let i = c.loop-row.row-index in
    let l : i < length rows = omega arith in
    let d = entry_of s (get_or rows i no_row) in
    let v = subst (λ (t : Linear). IsLeastFrom c.args.low t.parts c.variable_from.result) c.term.ensures c.variable_from.ensures in
    least-more c.args.low (entries_of s rows) i d _ (below-of s rows i l) (entry-in s rows i l) (c.lesser-least.ensures c.args.low (take i (entries_of s rows)) (d ∷ []) c.loop-row.invariant (least-one c.args.low d _ v))

pub returns : goal.returns
returns c =
    let s = c.args.stage.now in
    let rows = c.args.rows.now in
    let l : length rows ≤ c.loop-row.row-index = omega arith in
    subst (λ ds. IsLeast c.args.low ds c.loop-row.least) (take_all c.loop-row.row-index (entries_of s rows) (past-of s rows _ l)) c.loop-row.invariant
