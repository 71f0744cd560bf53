use Rattle.std.proofs.Common.{get_or}
use Rattle.cap_fm_elimination.specs.Views.{entry_of, entries_of}
use Rattle.cap_fm_elimination.proofs.Terms.{no_row, entry-in, below-of, past-of}
use Rattle.cap_fm_elimination.proofs.Pivots.{found, passed-more, passed-all}
use Rattle.cap_fm_elimination.proofs.equations.unit_pivot.Goals as goal

pub returns-in-Some-clause-first : goal.returns-in-Some-clause-first
returns-in-Some-clause-first c =
    let s = c.args.stage.now in
    let rows = c.args.rows.now in
    let i = c.loop-place.place in
    let d = entry_of s (get_or rows i no_row) in
    found _ (entries_of s rows) i _ d (below-of s rows i c.loop-place-test.true) (entry-in s rows i c.loop-place-test.true) c.loop-place.invariant c.in-Some.ensures.choice c.in-Some.ensures.has

pub loop-place-preserved : goal.loop-place-preserved
loop-place-preserved c =
    let s = c.args.stage.now in
    let rows = c.args.rows.now in
    let i = c.loop-place.place in
    let d = entry_of s (get_or rows i no_row) in
    passed-more _ (entries_of s rows) i d (below-of s rows i c.loop-place-test.true) (entry-in s rows i c.loop-place-test.true) c.in_default.ensures.choice c.loop-place.invariant

pub returns-clause-first : goal.returns-clause-first
returns-clause-first c = passed-all _ _ _ (past-of c.args.stage.now c.args.rows.now _ c.loop-place-test.false) c.loop-place.invariant
