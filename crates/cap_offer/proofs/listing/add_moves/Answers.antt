use Rattle.std.proofs.Common.{◌≡◌, suc, ◌++◌, map, length, refl, ap, ◌∙◌, arith}
use Rattle.std.specs.List.{range_with_len}
use Rattle.std.proofs.lemmas.List.{length-map}
use Rattle.cap_prog.specs.Views.{action_view, region_view}
use Rattle.cap_goal_spec.specs.Choices.{by_pick}
use Rattle.cap_offer.specs.Views.{choices_view}
use Rattle.cap_offer.proofs.Listed.{one-more}
use Rattle.cap_offer.proofs.listing.add_moves.Goals as goal

pub loop-action-preserved : goal.loop-action-preserved
loop-action-preserved c =
    one-more (λ m. by_pick c.args.opened c.args.case m) _ _ _ _ _ c.loop-action.invariant c.in_ok-push.ensures.items refl

pub returns : goal.returns
returns c =
    let k = region_view c.args.region.now in
    let e : c.loop-action.action ≡ suc (length k.actions) = omega (arith, length-map c.args.region.now.actions.items action_view) in
    c.loop-action.invariant ∙ ap (λ n. choices_view c.args.all.now.items ++ map (λ m. by_pick c.args.opened c.args.case m) (range_with_len 0 n)) e
