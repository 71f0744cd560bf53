-- Choices that are listed one after the other.
use Rattle.std.proofs.Common.{◌≡◌, ℕ, ◌+◌, List, [], ◌∷◌, ◌++◌, map, reverse, sym, ap, ◌∙◌, append_assoc, append-nil}
use Rattle.std.specs.List.{range_with_len, flat_map}
use Rattle.std.proofs.lemmas.List.{map-append, reverse-append}
use Rattle.std.proofs.lemmas.List.Concat.{flat_map-append}
use Rattle.cap_goal_spec.specs.Choices.{PlainChoice}
use Rattle.cap_goal.specs.Views.{choice_view}
use Rattle.cap_goal.specs.declared.choice.Choice.{Choice}
use Rattle.cap_offer.specs.Views.{choices_view}
use Rattle.cap_offer.proofs.Numbers.{range-more}

-- one choice more
pub pushed : (all next : List Choice) (x : Choice) → next ≡ all ++ x ∷ [] → choices_view next ≡ choices_view all ++ choice_view x ∷ []
pushed all next x e = ap choices_view e ∙ map-append choice_view all (x ∷ [])

-- one choice for each number
pub one-more : (f : ℕ → PlainChoice) (old : List PlainChoice) (all next : List Choice) (x : Choice) (i : ℕ) → choices_view all ≡ old ++ map f (range_with_len 0 i) → next ≡ all ++ x ∷ [] → choice_view x ≡ f i → choices_view next ≡ old ++ map f (range_with_len 0 (i + 1))
one-more f old all next x i h e v =
    pushed all next x e
    ∙ (ap (λ xs. xs ++ choice_view x ∷ []) h
    ∙ (append_assoc old (map f (range_with_len 0 i)) (choice_view x ∷ [])
    ∙ ap (λ xs. old ++ xs) (ap (λ y. map f (range_with_len 0 i) ++ y ∷ []) v ∙ (sym (map-append f (range_with_len 0 i) (i ∷ [])) ∙ ap (map f) (sym (range-more i))))))

flat-more : (f : ℕ → List PlainChoice) (i : ℕ) → flat_map f (range_with_len 0 i) ++ f i ≡ flat_map f (range_with_len 0 (i + 1))
flat-more f i =
    ap (λ xs. flat_map f (range_with_len 0 i) ++ xs) (sym (append-nil (f i)))
    ∙ (sym (flat_map-append f (range_with_len 0 i) (i ∷ [])) ∙ ap (flat_map f) (sym (range-more i)))

-- a list of choices for each number
pub part-more : (f : ℕ → List PlainChoice) (old all next : List PlainChoice) (i : ℕ) → all ≡ old ++ flat_map f (range_with_len 0 i) → next ≡ all ++ f i → next ≡ old ++ flat_map f (range_with_len 0 (i + 1))
part-more f old all next i h e =
    e ∙ (ap (λ xs. xs ++ f i) h ∙ (append_assoc old (flat_map f (range_with_len 0 i)) (f i) ∙ ap (λ xs. old ++ xs) (flat-more f i)))

-- from the last number down
pub last-first : (f : ℕ → List PlainChoice) (i : ℕ) → flat_map f (reverse (range_with_len 0 (i + 1))) ≡ f i ++ flat_map f (reverse (range_with_len 0 i))
last-first f i =
    ap (λ ns. flat_map f (reverse ns)) (range-more i) ∙ ap (flat_map f) (reverse-append (range_with_len 0 i) (i ∷ []))

pub part-down : (f : ℕ → List PlainChoice) (all next whole : List PlainChoice) (i : ℕ) → all ++ flat_map f (reverse (range_with_len 0 (i + 1))) ≡ whole → next ≡ all ++ f i → next ++ flat_map f (reverse (range_with_len 0 i)) ≡ whole
part-down f all next whole i h e =
    ap (λ xs. xs ++ flat_map f (reverse (range_with_len 0 i))) e
    ∙ (append_assoc all (f i) (flat_map f (reverse (range_with_len 0 i)))
    ∙ (ap (λ xs. all ++ xs) (sym (last-first f i)) ∙ h))

-- two choices more
pub two-pushed : (all mid next : List Choice) (x y : Choice) → mid ≡ all ++ x ∷ [] → next ≡ mid ++ y ∷ [] → choices_view next ≡ choices_view all ++ choice_view x ∷ choice_view y ∷ []
two-pushed all mid next x y e d =
    pushed mid next y d ∙ (ap (λ xs. xs ++ choice_view y ∷ []) (pushed all mid x e) ∙ append_assoc (choices_view all) (choice_view x ∷ []) (choice_view y ∷ []))
