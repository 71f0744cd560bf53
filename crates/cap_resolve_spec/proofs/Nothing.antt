-- What follows where nothing is found.
use Rattle.std.proofs.Common.{◌≡◌, ℕ, zero, suc, ◌≤◌, Bool, true, false, true≢false, cond, List, [], ◌∷◌, ◌++◌, map, length, filter, flat_map, refl, ap, ◌∙◌, arith}
use Rattle.std.specs.List.{AllByRecursion}
use Rattle.cap_syntax.specs.declared.place.Place.{Place}
use Rattle.cap_parse_tree.specs.declared.word.Word.{Word}
use Rattle.cap_resolve_spec.specs.Finding.{Cause, Limit, found_if}
use Rattle.cap_resolve_spec.specs.Names.{past}

pub cons_not_nil : {A : Type 0} {x : A} {xs : List A} {B : Type 0} → x ∷ xs ≡ [] → B
cons_not_nil e = absurd (true≢false (ap is_cons e))
  where
    is_cons : {A : Type 0} → List A → Bool
    is_cons [] = false
    is_cons (x ∷ xs) = true

pub nothing_front : {A : Type 0} (xs ys : List A) → xs ++ ys ≡ [] → xs ≡ []
nothing_front [] ys e = refl
nothing_front (x ∷ xs) ys e = cons_not_nil e

pub nothing_behind : {A : Type 0} (xs ys : List A) → xs ++ ys ≡ [] → ys ≡ []
nothing_behind [] ys e = e
nothing_behind (x ∷ xs) ys e = cons_not_nil e

pub nothing_both : {A : Type 0} (xs ys : List A) → xs ≡ [] → ys ≡ [] → xs ++ ys ≡ []
nothing_both xs ys a b = ap (λ zs. zs ++ ys) a ∙ b

pub nothing_mapped : {A B : Type 0} (f : A → B) (xs : List A) → map f xs ≡ [] → xs ≡ []
nothing_mapped f [] e = refl
nothing_mapped f (x ∷ xs) e = cons_not_nil e

pub nothing_flat : {A B : Type 0} (f : A → List B) (xs : List A) → flat_map f xs ≡ [] → AllByRecursion (λ x. f x ≡ []) xs
nothing_flat f [] e = tt
nothing_flat f (x ∷ xs) e = (nothing_front (f x) (flat_map f xs) e, nothing_flat f xs (nothing_behind (f x) (flat_map f xs) e))

pub nothing_kept : {A : Type 0} (p : A → Bool) (xs : List A) → filter p xs ≡ [] → AllByRecursion (λ x. p x ≡ false) xs
nothing_kept p [] e = tt
nothing_kept {A} p (x ∷ xs) e = by (p x) refl e (λ d. nothing_kept p xs d)
  where
    by : (b : Bool) → p x ≡ b → cond b (x ∷ filter p xs) (filter p xs) ≡ [] → (filter p xs ≡ [] → AllByRecursion (λ y. p y ≡ false) xs) → (p x ≡ false) × AllByRecursion (λ y. p y ≡ false) xs
    by true h d rest = cons_not_nil d
    by false h d rest = (h, rest d)

pub not_found : (b : Bool) (p : Place) (c : Cause) → found_if b p c ≡ [] → b ≡ false
not_found true p c e = cons_not_nil e
not_found false p c e = refl

pub not_past : (n : ℕ) (l : Limit) (ws : List Word) → past n l ws ≡ [] → length ws ≤ n
not_past zero l [] e = omega arith
not_past zero l (w ∷ ws) e = cons_not_nil e
not_past (suc n) l [] e = omega arith
not_past (suc n) l (w ∷ ws) e = let h : length ws ≤ n = not_past n l ws e in omega arith
