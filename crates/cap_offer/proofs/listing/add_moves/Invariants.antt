use Rattle.std.proofs.Common.{◌≡◌, ◌++◌, map}
use Rattle.std.specs.List.{range_with_len}
use Rattle.cap_goal_spec.specs.Choices.{by_pick}
use Rattle.cap_offer.specs.Views.{choices_view}
use Rattle.cap_offer.proofs.listing.add_moves.Given as goal

abbrev pub invariant-loop-action : goal.invariant-loop-action
invariant-loop-action l =
    choices_view l.all.items ≡ choices_view l.fn.all.items ++ map (λ m. by_pick l.opened l.case m) (range_with_len 0 l.action)
