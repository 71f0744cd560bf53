use Rattle.std.proofs.Common.{rules, sym}
use mir.Val.{SFits}
use mir.Syntax.{w128}
use Rattle.std.proofs.lemmas.Int.{to_z-of_z}
use Rattle.cap_owners_parts.specs.Views.{guard_view}
use Rattle.cap_owners_parts.proofs.Maps.{copy_goes, copy_ends}
use Rattle.cap_owners_parts.proofs.part.copy_guards.Goals as goal

pub loop-region-preserved : goal.loop-region-preserved
loop-region-preserved c =
    let f : SFits w128 c.in-Some.region.now = search rules in
    let u = rw (to_z-of_z w128 _ f) at c.in_ok-put_copy.ensures in
    copy_goes guard_view c.loop-region.copies c.put_copy.new.guards _ _ _ _ _ _ u (sym c.in_ok-copy.ensures.same) c.in-Some.ensures.steps c.loop-region.invariant

pub returns : goal.returns
returns c = copy_ends guard_view c.loop-region.copies _ c.args.guards.now.entries c.in-None.ensures.steps.0 c.iter-region-items.ensures.ordered c.loop-region.invariant
