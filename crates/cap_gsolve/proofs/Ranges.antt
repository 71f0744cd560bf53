-- Spans as sets of indices.
use Rattle.std.proofs.Common.{◌≡◌, ℕ, ◌+◌, ◌≤◌, ◌<◌, ℤ, pos, negsuc, ◌+ℤ◌, ◌<ℤ◌, arith, refl, sym, ap, ◌∙◌, List, [], ◌∷◌, Bool, true, false, Some}
use Rattle.std.specs.Prelude.{◌&&◌, int_lt, if◌then◌else◌}
use Rattle.std.proofs.lemmas.Int.{ints}
use Rattle.std.proofs.lemmas.Bool.Decides.{nat_tests}
use Rattle.cap_lin.specs.Linear.{Linear, same_number, same_parts, same_term}
use Rattle.cap_lin.specs.Values.{Valuation, parts_value, value}
use Rattle.cap_lin.specs.Laws.Sameness.{same_term-decides}
use Rattle.cap_galg_indices.specs.Sets.{AreBounds, has, is_empty, index_range, composed}
use Rattle.cap_galg_indices.specs.Laws.Members.{lt-true, lt-false, range-ascends}
use Rattle.cap_galg_indices.specs.Laws.Composition.{composed-parts}
use Rattle.cap_galg.specs.Elements.{Element, nothing, indices, index_set, compose}
use Rattle.cap_galg.specs.Laws.Composition.{le-true, le-false, and-true, bind-is, IsSound}
use Rattle.cap_gsolve.specs.Pieces.{has_indices, is_single}

pub range-some : (i j : ℕ) → i < j → index_set (index_range i j) ≡ indices (i ∷ (j ∷ []))
range-some i j l = rw (lt-true i j l) refl

pub range-none : (i j : ℕ) → j ≤ i → index_set (index_range i j) ≡ nothing
range-none i j l = rw (lt-false i j l) refl

set-sound : (b : Bool) (xs : List ℕ) → is_empty xs ≡ b → AreBounds xs → IsSound (if b then nothing else indices xs)
set-sound true xs e h = tt
set-sound false xs e h = (h, e)

pub range-sound : (i j : ℕ) → IsSound (index_set (index_range i j))
range-sound i j = set-sound (is_empty (index_range i j)) (index_range i j) refl (range-ascends i j)

pub open-has : (i n : ℕ) → i ≤ n → has (i ∷ []) n ≡ true
open-has i n l = rw (le-true i n l) refl

pub range-has : (i j n : ℕ) → i ≤ n → n < j → has (i ∷ (j ∷ [])) n ≡ true
range-has i j n l m = rw (le-true i n l, le-false j n m) refl

-- sets that compose have no index in common
pub not-both : (xs ys : List ℕ) (s : Element) (n : ℕ) → compose (indices xs) (indices ys) ≡ Some s
    → has xs n ≡ true → has ys n ≡ true → ⊥
not-both xs ys s n e h k =
    let r = bind-is (composed xs ys) (λ zs. Some (indices zs)) s e in
    let d : true ≡ false = sym (ap (λ b. b && has ys n) h ∙ k) ∙ (composed-parts xs ys r.0 r.1 n).0 in
    absurd (let t = d in cc)

-- ---- terms that differ by a constant

number-self : (a : ℤ) → same_number a a ≡ true
number-self (pos m) = grind (arith, nat_tests)
number-self (negsuc m) = grind (arith, nat_tests)

pub same-parts : (ps qs : List (ℕ × ℤ)) → same_parts ps qs ≡ true → ps ≡ qs
unfolding same_term
same-parts ps qs e =
    let s : Linear = record { constant = pos 0; parts = ps } in
    let t : Linear = record { constant = pos 0; parts = qs } in
    ap (λ (u : Linear). u.parts) ((same_term-decides s t).0 (rw (number-self (pos 0)) e))

number-same : (a b : ℤ) → same_number a b ≡ true → a ≡ b
unfolding same_term
number-same a b e =
    let s : Linear = record { constant = a; parts = [] } in
    let t : Linear = record { constant = b; parts = [] } in
    ap (λ (u : Linear). u.constant) ((same_term-decides s t).0 (rw e refl))

less-is : (a b : ℤ) → int_lt a b ≡ true → a <ℤ b
less-is a b e = grind (arith, ints)

values-same : (v : Valuation) (a e : Linear) → same_parts a.parts e.parts ≡ true
    → parts_value v.whole a.parts ≡ parts_value v.whole e.parts
values-same v a e h = ap (parts_value v.whole) (same-parts a.parts e.parts h)

pub indices-below : (v : Valuation) (a e : Linear) (i j : ℕ) → has_indices a (Some e) ≡ true
    → value v.whole a ≡ pos i → value v.whole e ≡ pos j → i < j
unfolding value
indices-below v a e i j h p q =
    let s = and-true (same_parts a.parts e.parts) (int_lt a.constant e.constant) h in
    let t = values-same v a e s.0 in
    let l = less-is a.constant e.constant s.1 in
    omega (arith, ints, t, l, p, q)

pub single-next : (v : Valuation) (a e : Linear) (i j : ℕ) → is_single a (Some e) ≡ true
    → value v.whole a ≡ pos i → value v.whole e ≡ pos j → j ≡ i + 1
unfolding value
single-next v a e i j h p q =
    let s = and-true (same_parts a.parts e.parts) (same_number (a.constant +ℤ pos 1) e.constant) h in
    let t = values-same v a e s.0 in
    let l = number-same (a.constant +ℤ pos 1) e.constant s.1 in
    omega (arith, ints, t, l, p, q)
