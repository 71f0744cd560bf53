use Rattle.std.proofs.Common.{◌≡◌, [], ◌∷◌}
use Rattle.std.specs.List.{range_with_len, flat_map}
use Rattle.cap_goal_spec.specs.Choices.{by_guard}
use Rattle.cap_offer.specs.Views.{choices_view}
use Rattle.cap_offer.proofs.listing.cuts.Given as goal

abbrev pub invariant-loop-piece : goal.invariant-loop-piece
invariant-loop-piece l =
    choices_view l.all.items ≡ flat_map (λ j. by_guard j 0 [] ∷ by_guard j 1 [] ∷ []) (range_with_len 0 l.piece)
