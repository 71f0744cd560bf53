use Rattle.std.proofs.Common.{ℕ, Option, false, subst, sym, ap, ◌∙◌}
use Rattle.std.proofs.lemmas.Result.{err_from_is_err_and}
use Rattle.cap_prog.specs.Views.{program_view}
use Rattle.cap_owners_spec.specs.Steps.{none_entered}
use Rattle.cap_owners_spec.specs.Walks.{descends}
use Rattle.cap_owners_places.specs.Views.{placed_view}
use Rattle.cap_owners_walks.proofs.Walking.{walk_at, walk_on, IsPlacedAhead, ahead-placed, fewer-ahead, walk-ahead, fails-from}
use Rattle.cap_owners_walks.proofs.quiet.descend.Goals as goal

pub loop-next-preserved : goal.loop-next-preserved
loop-next-preserved c = λ at.
    let p = program_view c.args.program.now in
    let q = c.in-Some.here.now in
    let i = c.loop-next.invariant at in
    let a = subst (IsPlacedAhead p) c.in-Some.is i.0 in (
      ahead-placed p q c.in_ok-child.child c.child_at-next.result a c.child_at-next.ensures,
      sym (walk-ahead none_entered p false q c.in_ok-child.child c.child_at-next.result c.loop-next.walk c.pass_quiet.new.walk a (sym c.stops.ensures ∙ c.if-stops.false) c.in_ok-child.ensures c.child_at-next.ensures)
          ∙ (ap (λ o. walk_on none_entered p false o c.loop-next.walk) (sym c.in-Some.is) ∙ i.1),
    )

pub loop-next-smaller : goal.loop-next-smaller
loop-next-smaller c = rw c.in-Some.is (fewer-ahead c.in-Some.here.now c.in_ok-child.child c.child_at-next.result c.child_at-next.ensures)

pub returns-in_err-child : goal.returns-in_err-child
returns-in_err-child c = λ at.
    let p = program_view c.args.program.now in
    let q = placed_view c.in-Some.here.now in
    let e = err_from_is_err_and c.from_residual.result c.from_residual.ensures.1 in
    let i = c.loop-next.invariant at in
    rw (e.1, e.2)
    (fails-from none_entered p false (walk_at none_entered p false (placed_view c.args.place.now) c.args.walk.now) q c.loop-next.walk c.in_err-child.field-0.0 (λ (n : Option ℕ). descends n c.pass_quiet.new.walk) _
    (ap (λ o. walk_on none_entered p false o c.loop-next.walk) (sym c.in-Some.is) ∙ i.1) (subst (IsPlacedAhead p) c.in-Some.is i.0) (sym c.stops.ensures ∙ c.if-stops.false) c.in_err-child.ensures)
