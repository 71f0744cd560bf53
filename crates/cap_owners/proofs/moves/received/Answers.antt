use Rattle.std.proofs.Common.{ap, ◌∙◌}
use mir.Syntax.{w128}
use Rattle.std.specs.Prelude.{map}
use Rattle.std.proofs.lemmas.Int.{to_z-of_z}
use Rattle.cap_goal_spec.specs.Roots.{function_unit}
use Rattle.cap_machine_accounts.specs.Assertions.{a_number}
use Rattle.cap_owners_places.specs.Views.{proved_of}
use Rattle.cap_owners_spec.specs.Steps.{ensures_root, root_at}
use Rattle.cap_owners.specs.Tracks.{frame_view}
use Rattle.cap_owners.proofs.Placing.{root-placed, root-seen}
use Rattle.cap_owners.proofs.Returning.{received-same}
use Rattle.cap_owners.proofs.moves.received.Goals as goal

pub returns-clause-received : goal.returns-clause-received
returns-clause-received c = λ p ts m are sees.
    let d = proved_of p ts in
    let s = c.args.stepping.now in
    received-same d m c.args.fixed.now c.args.value (frame_view c.args.caller) c.args.fill _ _ _ _ _
    (rw (to_z-of_z w128 _ c.ranges.value) at c.put.ensures)
    (root-seen p (root_at d (function_unit s.function) ensures_root) c.at.result (c.at.ensures p ts are) ∙ ap (λ n. root_at d (function_unit n) ensures_root) sees.function)
    (c.in_ok-known.ensures ∙ ap (map a_number) (c.deref.ensures.value ∙ sees.arguments))
    c.in_ok-append.ensures.appended
    (rw (to_z-of_z w128 _ c.ranges.value) at c.in_ok-push.ensures.pushed)

pub returns-clause-placed : goal.returns-clause-placed
returns-clause-placed c = λ p ts are h. record {
  seat = h.seat;
  given = root-placed p (root_at (proved_of p ts) (function_unit c.args.stepping.now.function) ensures_root) c.at.result (c.at.ensures p ts are);
}
