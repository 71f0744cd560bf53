-- Sets of indices as elements.
use Rattle.std.proofs.Common.{◌≡◌, ℕ, refl, sym, ap, ◌∙◌, inl, inr, Bool, true, false, List, [], ◌∷◌, Option, Some, None}
use Rattle.std.specs.Prelude.{if◌then◌else◌}
use Rattle.cap_galg_indices.specs.Sets.{AreBounds, is_empty, is_within, composed}
use Rattle.cap_galg_indices.specs.Laws.Members.{first-in}
use Rattle.cap_galg_indices.specs.Laws.Tests.{within-from, within-has}
use Rattle.cap_galg_indices.specs.Laws.Composition.{composed-commutes, composed-unit}
use Rattle.cap_galg_spec.specs.Elements.{nothing, indices, index_set, bind, compose, is_wide, at_most}
use Rattle.cap_galg_spec.specs.Laws.Composition.{true_or_false, composed-some}

set-some : (xs : List ℕ) → is_empty xs ≡ false → indices xs ≡ index_set xs
set-some xs e = sym (ap (λ b. if b then nothing else indices xs) e)

sets-made : (o : Option (List ℕ)) → ((zs : List ℕ) → o ≡ Some zs → is_empty zs ≡ false)
    → bind o (λ zs. Some (indices zs)) ≡ bind o (λ zs. Some (index_set zs))
sets-made None h = refl
sets-made (Some zs) h = ap (λ w. Some w) (set-some zs (h zs refl))

-- parts compose as their sets of indices do
pub sets-compose : (xs ys : List ℕ) → AreBounds xs → AreBounds ys
    → compose (index_set xs) (index_set ys) ≡ bind (composed xs ys) (λ zs. Some (index_set zs))
sets-compose [] ys h k =
    sym (ap (λ o. bind o (λ zs. Some (index_set zs))) (composed-commutes [] ys h k ∙ composed-unit ys k))
sets-compose (x ∷ xs) [] h k =
    sym (ap (λ o. bind o (λ zs. Some (index_set zs))) (composed-unit (x ∷ xs) h))
sets-compose (x ∷ xs) (y ∷ ys) h k =
    sets-made (composed (x ∷ xs) (y ∷ ys)) (λ zs e. composed-some (x ∷ xs) (y ∷ ys) zs h refl e)

pub sets-narrow : (xs ys : List ℕ) → is_wide (index_set xs) (index_set ys) ≡ false
sets-narrow [] ys = refl
sets-narrow (x ∷ xs) [] = refl
sets-narrow (x ∷ xs) (y ∷ ys) = refl

pub sets-within : (xs ys : List ℕ) → AreBounds xs
    → is_within xs ys ≡ at_most (index_set xs) (index_set ys)
sets-within [] ys h = within-from [] ys (λ n i. cc)
sets-within (x ∷ xs) [] h = elim (true_or_false (is_within (x ∷ xs) [])) [
  | inr f ↦ f
  | inl t ↦ absurd (let q : false ≡ true = within-has (x ∷ xs) [] t x (first-in x xs h.1) in cc)
]
sets-within (x ∷ xs) (y ∷ ys) h = refl
