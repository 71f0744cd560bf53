-- A set is known by its members.
use Rattle.std.proofs.Common.{◌≡◌, ℕ, ◌+◌, ◌≤◌, ◌<◌, arith, refl, sym, ap, ◌∙◌, subst}
use Rattle.std.proofs.Common.{inl, inr, Bool, true, false, List, [], ◌∷◌}
use Rattle.std.specs.Prelude.{nat_le, nat_lt, ◌&&◌, ◌||◌, ◌==◌}
use Rattle.std.proofs.lemmas.Bool.{cases_lt}
use Rattle.std.proofs.lemmas.Bool.Decides.{nat_tests}
use Rattle.std.specs.Coded.{Unit-prop, le_prop}
use Rattle.std.proofs.Props.{props}
use Rattle.cap_galg_indices.specs.Sets.{AscendFrom, AreBounds, exactly_one, has, is_empty, is_full}
use Rattle.cap_galg_indices.specs.Sets.{all_indices, one_index, indices_from, index_range}

-- ---- tests of numbers

pub le-true : (a b : ℕ) → a ≤ b → nat_le a b ≡ true
le-true a b h = grind (arith, nat_tests)

pub le-false : (a b : ℕ) → b < a → nat_le a b ≡ false
le-false a b h = grind (arith, nat_tests)

pub lt-true : (a b : ℕ) → a < b → nat_lt a b ≡ true
lt-true a b h = grind (arith, nat_tests)

pub lt-false : (a b : ℕ) → b ≤ a → nat_lt a b ≡ false
lt-false a b h = grind (arith, nat_tests)

-- ---- truth values

pub and-commutes : (a b : Bool) → (a && b) ≡ (b && a)
and-commutes true true = refl
and-commutes true false = refl
and-commutes false true = refl
and-commutes false false = refl

pub or-commutes : (a b : Bool) → (a || b) ≡ (b || a)
or-commutes true true = refl
or-commutes true false = refl
or-commutes false true = refl
or-commutes false false = refl

pub one-or : (a b : Bool) → (a && b) ≡ false → exactly_one a b ≡ (a || b)
one-or true true e = sym e
one-or true false e = refl
one-or false b e = refl

pub one-cancels : (a b c : Bool) → exactly_one a b ≡ exactly_one a c → b ≡ c
one-cancels true true true e = refl
one-cancels true true false e = sym e
one-cancels true false true e = sym e
one-cancels true false false e = refl
one-cancels false b c e = e

pub one-twice : (a b : Bool) → exactly_one a (exactly_one a b) ≡ b
one-twice true true = refl
one-twice true false = refl
one-twice false b = refl

-- the first two change places
pub one-changes : (a b c : Bool) → exactly_one a (exactly_one b c) ≡ exactly_one b (exactly_one a c)
one-changes true true c = refl
one-changes true false c = refl
one-changes false true c = refl
one-changes false false c = refl

pub one-associates : (a b c : Bool) → exactly_one a (exactly_one b c) ≡ exactly_one (exactly_one a b) c
one-associates true true true = refl
one-associates true true false = refl
one-associates true false c = refl
one-associates false b c = refl

pub one-commutes : (a b : Bool) → exactly_one a b ≡ exactly_one b a
one-commutes true true = refl
one-commutes true false = refl
one-commutes false true = refl
one-commutes false false = refl

-- ---- bounds that ascend

-- that bounds ascend has one proof
pub ascend-prop : (low : ℕ) (xs : List ℕ) → IsProp (AscendFrom low xs)
ascend-prop low [] = Unit-prop
ascend-prop low (x ∷ xs) = hlevel (props, le_prop, ascend-prop (x + 1) xs)

pub ascend-lower : (low high : ℕ) (xs : List ℕ) → low ≤ high → AscendFrom high xs → AscendFrom low xs
ascend-lower low high [] l h = tt
ascend-lower low high (x ∷ xs) l h = (let m = h.0 in omega arith, h.1)

pub rest-ascends : (x : ℕ) (xs : List ℕ) → AreBounds (x ∷ xs) → AreBounds xs
rest-ascends x xs h = ascend-lower 0 (x + 1) xs (omega arith) h.1

-- ---- members

-- an index below all bounds is not in the set
pub below-out : (n low : ℕ) (xs : List ℕ) → n < low → AscendFrom low xs → has xs n ≡ false
below-out n low [] l h = refl
below-out n low (x ∷ xs) l h =
    let m = h.0 in
    rw (le-false x n (omega arith), below-out n (x + 1) xs (omega arith) h.1) refl

-- the first bound is in the set
pub first-in : (x : ℕ) (xs : List ℕ) → AscendFrom (x + 1) xs → has (x ∷ xs) x ≡ true
first-in x xs h = rw (le-true x x (omega arith), below-out x (x + 1) xs (omega arith) h) refl

-- sets with the same members have the same bounds
pub same-members : (low : ℕ) (xs ys : List ℕ) → AscendFrom low xs → AscendFrom low ys
    → ((n : ℕ) → has xs n ≡ has ys n) → xs ≡ ys
same-members low [] [] h k e = refl
same-members low [] (y ∷ ys) h k e =
    absurd (let t : false ≡ true = e y ∙ first-in y ys k.1 in cc)
same-members low (x ∷ xs) [] h k e =
    absurd (let t : true ≡ false = sym (first-in x xs h.1) ∙ e x in cc)
same-members low (x ∷ xs) (y ∷ ys) h k e = elim (cases_lt x y) [
  | inl l ↦ absurd (
      let t : true ≡ false = sym (first-in x xs h.1) ∙ e x
      ∙ below-out x (x + 1) (y ∷ ys) (omega arith) (omega arith, k.1) in cc)
  | inr l ↦ elim (cases_lt y x) [
    | inl m ↦ absurd (
        let t : false ≡ true = sym (below-out y (y + 1) (x ∷ xs) (omega arith) (omega arith, h.1))
        ∙ e y ∙ first-in y ys k.1 in cc)
    | inr m ↦
        let s : y ≡ x = omega arith in
        let same-rest : (n : ℕ) → has xs n ≡ has ys n = λ n. one-cancels (nat_le x n) (has xs n) (has ys n)
        (e n ∙ ap (λ c. exactly_one (nat_le c n) (has ys n)) s) in
        let r = same-members (x + 1) xs ys h.1 (subst (λ c. AscendFrom (c + 1) ys) s k.1) same-rest in
        ap (λ zs. x ∷ zs) r ∙ ap (λ c. c ∷ ys) (sym s)
  ]
]

-- ---- the sets that have names

pub all-has : (n : ℕ) → has all_indices n ≡ true
all-has n = rw (le-true 0 n (omega arith)) refl

pub one-has : (i n : ℕ) → has (one_index i) n ≡ (n == i)
one-has i n = grind (arith, nat_tests)

pub from-has : (i n : ℕ) → has (indices_from i) n ≡ nat_le i n
from-has i n = grind (arith, nat_tests)

pub range-has : (i j n : ℕ) → has (index_range i j) n ≡ (nat_le i n && nat_lt n j)
range-has i j n = grind (arith, nat_tests)

pub all-ascends : AreBounds all_indices
all-ascends = (omega arith, tt)

pub one-ascends : (i : ℕ) → AreBounds (one_index i)
one-ascends i = (omega arith, (omega arith, tt))

pub from-ascends : (i : ℕ) → AreBounds (indices_from i)
from-ascends i = (omega arith, tt)

pub range-ascends : (i j : ℕ) → AreBounds (index_range i j)
range-ascends i j = elim (cases_lt i j) [
  | inl l ↦ rw (lt-true i j l) (omega arith, (omega arith, tt))
  | inr l ↦ rw (lt-false i j l) tt
]

-- a set that has no index has no bounds
pub empty-is : (xs : List ℕ) → is_empty xs ≡ true → xs ≡ []
empty-is [] e = refl
empty-is (x ∷ xs) e = cc

pub full-is : (xs : List ℕ) → is_full xs ≡ true → xs ≡ all_indices
full-is [] e = cc
full-is (x ∷ []) e = let z : x ≡ 0 = grind (arith, nat_tests, e) in ap (λ c. c ∷ []) z
full-is (x ∷ (y ∷ ys)) e = cc
