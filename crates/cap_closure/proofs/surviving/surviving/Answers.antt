use Rattle.std.proofs.Common.{◌≡◌, ◌∷◌, arith}
use Rattle.std.specs.Vec.Iter.{into_iter_items}
use Rattle.std.proofs.lemmas.Grind.{common_steps}
use Rattle.cap_prog.specs.Views.{region_view}
use Rattle.cap_offer_spec.specs.Closures.{surviving}
use Rattle.cap_closure.specs.Views.{list_view}
use Rattle.cap_closure.proofs.Starts.{surviving-keeps}
use Rattle.cap_closure.proofs.surviving.surviving.Goals as goal

pub loop-listed-preserved-in-Continue-branch-2 : goal.loop-listed-preserved-in-Continue-branch-2
loop-listed-preserved-in-Continue-branch-2 c =
    let a = c.args in
    let k = region_view a.region.now in
    let x = c.in-Some.listed in
    let all = into_iter_items c.loop-listed.listed-iterator in
    let more = into_iter_items c.next.new.self in
    let q : all ≡ x ∷ more = grind (arith, common_steps) in
    let i = c.loop-listed.invariant in
    let on = surviving-keeps k a.state.now a.fact.now a.known.now c.loop-listed.rest.items
    c.push.new.self.items all more x c.loop-listed.notes c.survives.new.notes
    c.in_ok-survives.field-0
    (surviving k a.state.now a.fact.now a.known.now (list_view a.list.items) a.notes.now) q
    c.in_ok-push.ensures.items c.in_ok-survives.ensures.survives c.if-branch.true (i.0, i.1) in
    (on.0, on.1, c.in_ok-survives.ensures.asked)
