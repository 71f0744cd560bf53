use Rattle.std.specs.Prelude.{option_map, Some, None}
use mir.Syntax.{w128}
use Rattle.std.proofs.lemmas.Int.{to_z-of_z}
use Rattle.std.proofs.lemmas.Result.{err_from_is_err_and}
use Rattle.cap_owners_parts.specs.Views.{guard_view}
use Rattle.cap_owners_parts.proofs.Putting.{held_is, put_stops, put_goes, put_none, put_some}
use Rattle.cap_owners_parts.proofs.part.Part.put_guard.Goals as goal

pub returns-in_err-join : goal.returns-in_err-join
returns-in_err-join c =
    let v = rw (to_z-of_z w128 _ c.ranges.region) at c.get.ensures.value in
    let is = held_is c.self.inside.cells c.self.inside.guards c.args.self.now c.args.region c.get.result c.self.view_is v in
    let p = err_from_is_err_and c.from_residual.result c.from_residual.ensures.1 in
    rw (p.1, p.2) (put_stops _ (option_map guard_view) _ c.args.self.now c.args.region _ _ is c.in_err-join.ensures)

pub returns-in-None : goal.returns-in-None
returns-in-None c =
    let v = rw (to_z-of_z w128 _ c.ranges.region) at c.get.ensures.value in
    let is = held_is c.self.inside.cells c.self.inside.guards c.args.self.now c.args.region c.get.result c.self.view_is v in
    let u = rw (to_z-of_z w128 _ c.ranges.region) at c.remove.ensures.updates in
    let j = rw c.in-None.is at c.in_ok-join.ensures in
    put_goes c.args.self.now _ c.args.region _ _ None is j (put_none c.self.inside.cells c.self.inside.guards c.remove.new.self c.args.self.now c.args.region c.self.view_is u)

pub returns-in_ok-insert-in-Some : goal.returns-in_ok-insert-in-Some
returns-in_ok-insert-in-Some c =
    let v = rw (to_z-of_z w128 _ c.ranges.region) at c.get.ensures.value in
    let is = held_is c.self.inside.cells c.self.inside.guards c.args.self.now c.args.region c.get.result c.self.view_is v in
    let u = rw (to_z-of_z w128 _ c.ranges.region) at c.in_ok-insert-in-Some.ensures.updates in
    let j = rw c.in-Some.is at c.in_ok-join.ensures in
    put_goes c.args.self.now _ c.args.region _ _ (Some (guard_view c.in-Some.guard)) is j (put_some c.self.inside.cells c.self.inside.guards c.insert.new.self c.args.self.now c.args.region c.in-Some.guard c.self.view_is u)
