use Rattle.std.proofs.Common.{[], ◌∷◌, ◌++◌, List, ap, ◌∙◌}
use Rattle.cap_goal_spec.specs.Choices.{PlainChoice, by_guard}
use Rattle.cap_offer.specs.Views.{choices_view}
use Rattle.cap_offer.proofs.Listed.{part-more, two-pushed}
use Rattle.cap_offer.proofs.listing.cuts.Goals as goal

pub loop-piece-preserved : goal.loop-piece-preserved
loop-piece-preserved c =
    let j = c.loop-piece.piece in
    let all : List PlainChoice = choices_view c.loop-piece.all.items in
    part-more (λ i. by_guard i 0 [] ∷ by_guard i 1 [] ∷ []) [] _ _ _ c.loop-piece.invariant
    (two-pushed _ _ _ _ _ c.in_ok-push.ensures.items c.in_ok-push-2.ensures.items
    ∙ (ap (λ cs. all ++ by_guard j 0 cs ∷ by_guard j 1 c.new-in-loop-piece.result.items ∷ []) c.new.ensures.items
    ∙ ap (λ cs. all ++ by_guard j 0 [] ∷ by_guard j 1 cs ∷ []) c.new-in-loop-piece.ensures.items))
