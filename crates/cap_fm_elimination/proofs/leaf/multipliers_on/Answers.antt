use Rattle.std.proofs.Common.{◌<◌, ◌≤◌, length, map, arith, ap, sym}
use Rattle.std.proofs.lemmas.Result.{err_from_is_err_and}
use Rattle.cap_lin.specs.Steps.{first_wide}
use Rattle.cap_fm_elimination.specs.Views.{origin_view}
use Rattle.cap_fm_elimination.specs.Way.{IsWay}
use Rattle.cap_fm_elimination.proofs.LeavesUp.{begun, rows-here, stops, passes, passes-by, ends}
use Rattle.cap_fm_elimination.proofs.leaf.multipliers_on.Goals.{then-way-place+in_ok-term, else-way-place}
use Rattle.cap_fm_elimination.proofs.leaf.multipliers_on.Goals as goal

pub loop-place-init : goal.loop-place-init
loop-place-init c = begun _ _ _ _ c.requires.history c.requires.way c.in_ok-terms.ensures.items

pub own_slot-requires : goal.own_slot-requires
own_slot-requires c = rows-here _ _ _ _ _ _ _ c.loop-place.invariant c.loop-place-test.true c.deref.ensures.value

pub returns-in_err-term : goal.returns-in_err-term
returns-in_err-term c =
    let w : IsWay (map origin_view c.args.history.now) c.args.last c.args.way.now = c.requires.way in
    let p = err_from_is_err_and c.from_residual-in_err-term.result c.from_residual-in_err-term.ensures.1 in
    rw (p.1, p.2) (stops _ _ _ _ _ _ _ _ _ c.loop-place.invariant c.loop-place-test.true c.if-way-place.true c.deref.ensures.value c.in_err-term.ensures (ap first_wide (sym w.steps)))

pub loop-place-preserved : goal.loop-place-preserved
loop-place-preserved c = elim c.if-way-place.branch [
  | then-way-place+in_ok-term v ↦ passes _ _ _ _ _ _ _ _ _ _ c.loop-place.invariant c.loop-place-test.true v.if-way-place.true v.deref.ensures.value v.in_ok-term.ensures.0 v.in_ok-term.ensures.1 v.term-is c.in_ok-push.ensures.items
  | else-way-place v ↦ passes-by _ _ _ _ _ _ _ _ c.loop-place.invariant c.loop-place-test.true v.if-way-place.false c.in_ok-push.ensures.items
]

pub returns : goal.returns
returns c =
    let l : length c.args.history.now ≤ c.loop-place.place = omega arith in
    let k : c.args.last < length c.loop-place.terms.items = omega (arith, c.loop-place.invariant.count) in
    ends _ _ _ _ _ _ c.requires.way c.loop-place.invariant l k (rw c.into_term.ensures c.swap_remove.ensures.value)
