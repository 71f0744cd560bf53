-- The tests at the bounds of two sets tell what is so of all indices.
use Rattle.std.proofs.Common.{◌≡◌, ◌≢◌, ℕ, zero, suc, arith, refl, sym, ap, ◌∙◌, subst}
use Rattle.std.proofs.Common.{inl, inr, Bool, true, false, List, [], ◌∷◌, ◌++◌}
use Rattle.std.specs.Prelude.{nat_le, not, ◌&&◌, ◌||◌, ◌==◌}
use Rattle.std.specs.List.{list_any}
use Rattle.std.proofs.lemmas.Bool.{cases_lt, cases_Bool, or_parts, or_from, not-true, eqb-true}
use Rattle.std.proofs.lemmas.Bool.{eqb-false, not_from_false}
use Rattle.std.proofs.lemmas.List.Folds.{list_any-append}
use Rattle.cap_galg_indices.specs.Sets.{AreBounds, has, all_indices, is_empty, is_full}
use Rattle.cap_galg_indices.specs.Sets.{are_disjoint, is_within}
use Rattle.cap_galg_indices.specs.Laws.Members.{le-true, le-false, same-members, all-has}
use Rattle.cap_galg_indices.specs.Laws.Members.{all-ascends, empty-is, full-is}

-- a test that fails at all bounds fails at each
fails-at : (t : ℕ → Bool) (n : ℕ) (xs : List ℕ) → list_any t xs ≡ false
    → list_any (λ x. x == n) xs ≡ true → t n ≡ false
fails-at t n [] h e = cc
fails-at t n (x ∷ xs) h e =
    let r = or_parts (t x) (list_any t xs) h in
    elim (cases_Bool (x == n)) [
      | inl i ↦ subst (λ m. t m ≡ false) (eqb-true x n i) r.0
      | inr i ↦ fails-at t n xs r.1 (ap (λ b. b || list_any (λ x. x == n) xs) (sym i) ∙ e)
    ]

-- one that fails everywhere fails at all bounds
pub fails-throughout : (t : ℕ → Bool) (xs : List ℕ) → ((n : ℕ) → t n ≡ false) → list_any t xs ≡ false
fails-throughout t [] h = refl
fails-throughout t (x ∷ xs) h = or_from (t x) (list_any t xs) (h x) (fails-throughout t xs h)

-- 0 is in no set of which it is no bound
zero-out : (xs : List ℕ) → list_any (λ x. x == 0) xs ≡ false → has xs 0 ≡ false
zero-out [] h = refl
zero-out (x ∷ xs) h =
    let r = or_parts (x == 0) (list_any (λ x. x == 0) xs) h in
    let i : x ≢ 0 = eqb-false x 0 r.0 in
    rw (le-false x 0 (omega arith), zero-out xs r.1) refl

le-next : (x n : ℕ) → x ≢ suc n → nat_le x (suc n) ≡ nat_le x n
le-next x n i = elim (cases_lt n x) [
  | inl l ↦ le-false x (suc n) (omega arith) ∙ sym (le-false x n l)
  | inr l ↦ le-true x (suc n) (omega arith) ∙ sym (le-true x n l)
]

-- and an index that is no bound is in a set exactly where the one before it is
as-before : (n : ℕ) (xs : List ℕ) → list_any (λ x. x == suc n) xs ≡ false → has xs (suc n) ≡ has xs n
as-before n [] h = refl
as-before n (x ∷ xs) h =
    let r = or_parts (x == suc n) (list_any (λ x. x == suc n) xs) h in
    rw (le-next x n (eqb-false x (suc n) r.0), as-before n xs r.1) refl

-- so what fails outside both sets and at all their bounds fails everywhere
pub fails-everywhere : (f : Bool → Bool → Bool) (xs ys : List ℕ) → f false false ≡ false
    → list_any (λ n. f (has xs n) (has ys n)) (xs ++ ys) ≡ false
    → (n : ℕ) → f (has xs n) (has ys n) ≡ false
fails-everywhere f xs ys z h zero = elim (cases_Bool (list_any (λ x. x == 0) (xs ++ ys))) [
  | inl e ↦ fails-at (λ n. f (has xs n) (has ys n)) 0 (xs ++ ys) h e
  | inr e ↦
      let r = or_parts (list_any (λ x. x == 0) xs) (list_any (λ x. x == 0) ys)
      (sym (list_any-append (λ x. x == 0) xs ys) ∙ e) in
      rw (zero-out xs r.0, zero-out ys r.1) z
]
fails-everywhere f xs ys z h (suc n) = elim (cases_Bool (list_any (λ x. x == suc n) (xs ++ ys))) [
  | inl e ↦ fails-at (λ m. f (has xs m) (has ys m)) (suc n) (xs ++ ys) h e
  | inr e ↦
      let r = or_parts (list_any (λ x. x == suc n) xs) (list_any (λ x. x == suc n) ys)
      (sym (list_any-append (λ x. x == suc n) xs ys) ∙ e) in
      rw (as-before n xs r.0, as-before n ys r.1) (fails-everywhere f xs ys z h n)
]

-- ---- disjoint sets, and sets within others

pub disjoint-has : (xs ys : List ℕ) → are_disjoint xs ys ≡ true → (n : ℕ)
    → (has xs n && has ys n) ≡ false
disjoint-has xs ys e = fails-everywhere (λ a b. a && b) xs ys refl (not-true _ e)

pub disjoint-from : (xs ys : List ℕ) → ((n : ℕ) → (has xs n && has ys n) ≡ false)
    → are_disjoint xs ys ≡ true
disjoint-from xs ys h = not_from_false _ (fails-throughout (λ n. has xs n && has ys n) (xs ++ ys) h)

and-not : (a b : Bool) → (a && not b) ≡ false → a ≡ true → b ≡ true
and-not true true e i = refl
and-not true false e i = cc
and-not false b e i = cc

not-and : (a b : Bool) → (a ≡ true → b ≡ true) → (a && not b) ≡ false
not-and true b h = ap not (h refl)
not-and false b h = refl

pub within-has : (xs ys : List ℕ) → is_within xs ys ≡ true → (n : ℕ) → has xs n ≡ true
    → has ys n ≡ true
within-has xs ys e n = and-not (has xs n) (has ys n)
    (fails-everywhere (λ a b. a && not b) xs ys refl (not-true _ e) n)

pub within-from : (xs ys : List ℕ) → ((n : ℕ) → has xs n ≡ true → has ys n ≡ true)
    → is_within xs ys ≡ true
within-from xs ys h = not_from_false _ (fails-throughout (λ n. has xs n && not (has ys n)) (xs ++ ys)
    (λ n. not-and (has xs n) (has ys n) (h n)))

-- ---- empty sets, and full ones

pub empty-has : (xs : List ℕ) → is_empty xs ≡ true → (n : ℕ) → has xs n ≡ false
empty-has xs e n = ap (λ l. has l n) (empty-is xs e)

pub empty-from : (xs : List ℕ) → AreBounds xs → ((n : ℕ) → has xs n ≡ false) → is_empty xs ≡ true
empty-from xs p h = ap is_empty (same-members 0 xs [] p tt h)

pub full-has : (xs : List ℕ) → is_full xs ≡ true → (n : ℕ) → has xs n ≡ true
full-has xs e n = ap (λ l. has l n) (full-is xs e) ∙ all-has n

pub full-from : (xs : List ℕ) → AreBounds xs → ((n : ℕ) → has xs n ≡ true) → is_full xs ≡ true
full-from xs p h =
    ap is_full (same-members 0 xs all_indices p all-ascends (λ n. h n ∙ sym (all-has n)))
