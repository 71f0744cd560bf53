use Rattle.std.proofs.Common.{ℕ, Option, subst, sym, ap, ◌∙◌}
use Rattle.std.proofs.lemmas.Result.{err_from_is_err_and}
use Rattle.cap_prog.specs.Views.{program_view}
use Rattle.cap_owners_spec.specs.Steps.{interpreted}
use Rattle.cap_owners_spec.specs.Walks.{descends}
use Rattle.cap_owners_places.specs.Views.{placed_view, proved_of}
use Rattle.cap_owners_walks.proofs.Walking.{walk_at, walk_on, IsPlacedAhead, ahead-placed, fewer-ahead, walk-ahead, fails-from}
use Rattle.cap_owners_walks.proofs.frame.descend.Goals as goal

pub loop-next-preserved : goal.loop-next-preserved
loop-next-preserved c =
    let p = program_view c.args.program.now in
    let q = c.in-Some.here.now in
    let a = subst (IsPlacedAhead p) c.in-Some.is c.loop-next.invariant.placed in
    record {
      placed = ahead-placed p q c.in_ok-child.child c.child_at-next.result a c.child_at-next.ensures;
      walked =
          λ ts are. let enter = interpreted (proved_of p ts) in
          sym (walk-ahead enter p c.args.seating q c.in_ok-child.child c.child_at-next.result c.loop-next.walk c.pass_node.new.walk a (sym c.stops.ensures ∙ c.if-stops.false) (c.in_ok-child.ensures ts are) c.child_at-next.ensures)
          ∙ (ap (λ o. walk_on enter p c.args.seating o c.loop-next.walk) (sym c.in-Some.is) ∙ c.loop-next.invariant.walked ts are);
    }

pub loop-next-smaller : goal.loop-next-smaller
loop-next-smaller c = rw c.in-Some.is (fewer-ahead c.in-Some.here.now c.in_ok-child.child c.child_at-next.result c.child_at-next.ensures)

pub returns-in_err-child-clause-walked : goal.returns-in_err-child-clause-walked
returns-in_err-child-clause-walked c = λ ts are.
    let p = program_view c.args.program.now in
    let enter = interpreted (proved_of p ts) in
    let q = placed_view c.in-Some.here.now in
    let e = err_from_is_err_and c.from_residual.result c.from_residual.ensures.1 in
    let a = subst (IsPlacedAhead p) c.in-Some.is c.loop-next.invariant.placed in
    let walked = ap (λ o. walk_on enter p c.args.seating o c.loop-next.walk) (sym c.in-Some.is) ∙ c.loop-next.invariant.walked ts are in
    rw (e.1, e.2)
    (fails-from enter p c.args.seating (walk_at enter p c.args.seating (placed_view c.args.place.now) c.args.walk.now) q c.loop-next.walk c.in_err-child.field-0.0 (λ (n : Option ℕ). descends n c.pass_node.new.walk) _
    walked a (sym c.stops.ensures ∙ c.if-stops.false) (c.in_err-child.ensures ts are))
