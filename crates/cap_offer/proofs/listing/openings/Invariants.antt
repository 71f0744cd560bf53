use Rattle.std.proofs.Common.{◌≡◌, [], map}
use Rattle.std.specs.List.{range_with_len}
use Rattle.cap_goal_spec.specs.Choices.{by_enter}
use Rattle.cap_offer.specs.Views.{choices_view}
use Rattle.cap_offer.proofs.listing.openings.Given as goal

abbrev pub invariant-loop-fact : goal.invariant-loop-fact
invariant-loop-fact l = choices_view l.all.items ≡ map (λ i. by_enter i []) (range_with_len 0 l.fact)
