-- Results on the way of several terms.
use Rattle.std.proofs.Common.{◌≡◌, ◌∙◌, refl, sym, ap, subst, ℕ, zero, suc, ◌+◌, ◌<◌, ◌≤◌, Bool, true, false, cond, ◌&&◌, List, [], ◌∷◌, ◌++◌, map, drop, length, get_or, arith, add-one, append_assoc, drop-cons}
use Rattle.std.specs.Prelude.{ℤ, ◌+ℤ◌, ◌*ℤ◌, Option, Some, is_none}
use Rattle.cap_lin.specs.Linear.{Linear}
use Rattle.cap_lin.specs.Steps.{Step, sum_of, product_of, first_wide, fits}
use Rattle.cap_machine.specs.declared.event.StepError.{StepError}
use Rattle.cap_machine.specs.declared.event.StepError.TheVariants.{NotEnabled, Wide, OutOfMemory}
use Rattle.cap_machine.specs.Machine.{value_in}
use Rattle.cap_machine.specs.Results.{are_narrow, term_steps, terms_steps}
use Rattle.cap_machine.specs.Errors.{Explains}
use Rattle.cap_machine.proofs.Enabled.{and_both}

choice : (b : Bool) (w : ℤ × ℤ) (o u : Option (ℤ × ℤ)) (n : Bool) → is_none o ≡ (is_none u && n) → is_none (cond b o (Some w)) ≡ (is_none (cond b u (Some w)) && n)
choice true w o u n h = h
choice false w o u n h = refl

pub narrow_append : (xs ys : List Step) → are_narrow (xs ++ ys) ≡ (are_narrow xs && are_narrow ys)
unfolding first_wide
narrow_append [] ys = refl
narrow_append (sum_of a b ∷ xs) ys = choice (fits (a +ℤ b)) (a, b) (first_wide (xs ++ ys)) (first_wide xs) (are_narrow ys) (narrow_append xs ys)
narrow_append (product_of a b ∷ xs) ys = choice (fits (a *ℤ b)) (a, b) (first_wide (xs ++ ys)) (first_wide xs) (are_narrow ys) (narrow_append xs ys)

pub explained_front : (e : StepError) (xs ys : List Step) → Explains e xs → Explains e (xs ++ ys)
explained_front NotEnabled xs ys h = h
explained_front Wide xs ys h = narrow_append xs ys ∙ ap (λ b. b && are_narrow ys) h
explained_front OutOfMemory xs ys h = tt

pub explained_back : (e : StepError) (xs ys : List Step) → are_narrow xs ≡ true → Explains e ys → Explains e (xs ++ ys)
explained_back NotEnabled xs ys n h = h
explained_back Wide xs ys n h = narrow_append xs ys ∙ (ap (λ b. b && are_narrow ys) n ∙ h)
explained_back OutOfMemory xs ys n h = tt

pub narrow_both : (xs ys : List Step) → are_narrow xs ≡ true → are_narrow ys ≡ true → are_narrow (xs ++ ys) ≡ true
narrow_both xs ys n m = narrow_append xs ys ∙ and_both (are_narrow xs) (are_narrow ys) n m

-- ---- the terms of a list, one after the other

drop_at : (ts : List Linear) (i : ℕ) (t : Linear) → i < length ts → t ≡ get_or ts i t → drop i ts ≡ t ∷ drop (i + 1) ts
drop_at ts i t l e = rw add-one (drop-cons ts i t l ∙ ap (λ x. x ∷ drop (suc i) ts) (sym e))

drop_end : (ts : List Linear) (i : ℕ) → length ts ≤ i → drop i ts ≡ []
drop_end [] zero l = refl
drop_end [] (suc i) l = refl
drop_end (t ∷ ts) zero l = absurd (omega arith)
drop_end (t ∷ ts) (suc i) l = drop_end ts i (omega arith)

-- the values so far are in front of those to come, and so far each result is narrow
pub record IsSoFar (store : List ℤ) (ts : List Linear) (i : ℕ) (vs : List ℤ) : Type 0 where
  pub values : vs ++ map (value_in store) (drop i ts) ≡ map (value_in store) ts
  pub narrow : are_narrow (terms_steps store (drop i ts)) ≡ are_narrow (terms_steps store ts)

pub so_far_first : (store : List ℤ) (ts : List Linear) (i : ℕ) (vs : List ℤ) → vs ≡ [] → i ≡ 0 → IsSoFar store ts i vs
so_far_first store ts i vs e z =
    let P : ℕ → Type 0 = λ k. IsSoFar store ts k vs in
    subst P (sym z) (record { values = ap (λ x. x ++ map (value_in store) ts) e; narrow = refl })

pub so_far_next : (store : List ℤ) (ts : List Linear) (i : ℕ) (t : Linear) (vs ws : List ℤ) (v : ℤ) → i < length ts → t ≡ get_or ts i t → IsSoFar store ts i vs → are_narrow (term_steps store t) ≡ true → v ≡ value_in store t → ws ≡ vs ++ v ∷ [] → IsSoFar store ts (i + 1) ws
so_far_next store ts i t vs ws v l e h n f g =
    let d = drop_at ts i t l e in
    record {
      values =
          ap (λ x. x ++ map (value_in store) (drop (i + 1) ts)) (g ∙ ap (λ z. vs ++ z ∷ []) f)
          ∙ (append_assoc vs (value_in store t ∷ []) (map (value_in store) (drop (i + 1) ts)) ∙ (ap (λ x. vs ++ map (value_in store) x) (sym d) ∙ h.values));
      narrow =
          sym (narrow_append (term_steps store t) (terms_steps store (drop (i + 1) ts)) ∙ ap (λ b. b && are_narrow (terms_steps store (drop (i + 1) ts))) n)
          ∙ (ap (λ x. are_narrow (terms_steps store x)) (sym d) ∙ h.narrow);
    }

pub so_far_wide : (store : List ℤ) (ts : List Linear) (i : ℕ) (t : Linear) (vs : List ℤ) (e : StepError) → i < length ts → t ≡ get_or ts i t → IsSoFar store ts i vs → Explains e (term_steps store t) → Explains e (terms_steps store ts)
so_far_wide store ts i t vs NotEnabled l is h x = x
so_far_wide store ts i t vs Wide l is h x =
    sym h.narrow ∙ (ap (λ y. are_narrow (terms_steps store y)) (drop_at ts i t l is) ∙ explained_front Wide (term_steps store t) (terms_steps store (drop (i + 1) ts)) x)
so_far_wide store ts i t vs OutOfMemory l is h x = tt

pub so_far_all : (store : List ℤ) (ts : List Linear) (i : ℕ) (vs : List ℤ) → length ts ≤ i → IsSoFar store ts i vs → (are_narrow (terms_steps store ts) ≡ true) × (vs ≡ map (value_in store) ts)
unfolding first_wide
so_far_all store ts i vs l h =
    let d = drop_end ts i l in
    (sym h.narrow ∙ ap (λ y. are_narrow (terms_steps store y)) d, sym (append_nil vs) ∙ (ap (λ y. vs ++ map (value_in store) y) (sym d) ∙ h.values))
  where
    append_nil : (xs : List ℤ) → xs ++ [] ≡ xs
    append_nil [] = refl
    append_nil (x ∷ xs) = ap (λ ys. x ∷ ys) (append_nil xs)
