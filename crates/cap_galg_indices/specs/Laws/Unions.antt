-- The union of disjoint sets, as a merge of their bounds.
use Rattle.std.proofs.Common.{◌≡◌, ℕ, ◌+◌, ◌≤◌, ◌<◌, arith, refl, sym, ap, ◌∙◌}
use Rattle.std.proofs.Common.{inl, inr, List, [], ◌∷◌}
use Rattle.std.specs.Prelude.{nat_le}
use Rattle.std.proofs.lemmas.Bool.{cases_lt}
use Rattle.cap_galg_indices.specs.Sets.{AscendFrom, AreBounds, exactly_one, has, with_bound}
use Rattle.cap_galg_indices.specs.Sets.{disjoint_union}
use Rattle.cap_galg_indices.specs.Laws.Members.{lt-true, lt-false, one-twice, one-changes}
use Rattle.cap_galg_indices.specs.Laws.Members.{one-associates, ascend-lower}
use Rattle.cap_galg_indices.specs.Laws.Members.{same-members}

-- ---- one bound more

-- from a bound on, membership turns
with-has : (x : ℕ) (ys : List ℕ) (n : ℕ) → has (with_bound x ys) n ≡ exactly_one (nat_le x n) (has ys n)
unfolding with_bound
with-has x [] n = refl
with-has x (y ∷ ys) n = elim (cases_lt x y) [
  | inl l ↦ rw (lt-true x y l) refl
  | inr l ↦ elim (cases_lt y x) [
    | inl m ↦ rw (lt-false x y l, lt-true y x m)
        (ap (exactly_one (nat_le y n)) (with-has x ys n) ∙ one-changes (nat_le y n) (nat_le x n) (has ys n))
    | inr m ↦
        let s : y ≡ x = omega arith in
        rw (lt-false x y l, lt-false y x m)
        (sym (one-twice (nat_le x n) (has ys n))
        ∙ ap (λ c. exactly_one (nat_le x n) (exactly_one (nat_le c n) (has ys n))) (sym s))
  ]
]

with-ascends : (low x : ℕ) (ys : List ℕ) → low ≤ x → AscendFrom low ys → AscendFrom low (with_bound x ys)
unfolding with_bound
with-ascends low x [] l h = (l, tt)
with-ascends low x (y ∷ ys) l h = elim (cases_lt x y) [
  | inl i ↦ rw (lt-true x y i) (l, (omega arith, h.1))
  | inr i ↦ elim (cases_lt y x) [
    | inl m ↦ rw (lt-false x y i, lt-true y x m) (h.0, with-ascends (y + 1) x ys (omega arith) h.1)
    | inr m ↦ rw (lt-false x y i, lt-false y x m) (ascend-lower low (y + 1) ys (omega arith) h.1)
  ]
]

-- a bound below all others comes first
with-first : (x : ℕ) (ys : List ℕ) → AscendFrom (x + 1) ys → with_bound x ys ≡ x ∷ ys
unfolding with_bound
with-first x [] h = refl
with-first x (y ∷ ys) h = let l : x < y = let m = h.0 in omega arith in rw (lt-true x y l) refl

-- an equal one that comes first goes
with-same : (x : ℕ) (ys : List ℕ) → with_bound x (x ∷ ys) ≡ ys
unfolding with_bound
with-same x ys = rw (lt-false x x (omega arith)) refl

-- a lesser one stays first
with-behind : (x y : ℕ) (ys : List ℕ) → y < x → with_bound x (y ∷ ys) ≡ y ∷ with_bound x ys
unfolding with_bound
with-behind x y ys l = rw (lt-false x y (omega arith), lt-true y x l) refl

-- ---- the union

-- an index is in it where it is in just one of the sets
pub union-has : (xs ys : List ℕ) (n : ℕ) → has (disjoint_union xs ys) n ≡ exactly_one (has xs n) (has ys n)
unfolding disjoint_union
union-has [] ys n = refl
union-has (x ∷ xs) ys n =
    with-has x (disjoint_union xs ys) n ∙ ap (exactly_one (nat_le x n)) (union-has xs ys n)
    ∙ one-associates (nat_le x n) (has xs n) (has ys n)

pub union-ascends : (low : ℕ) (xs ys : List ℕ) → AscendFrom low xs → AscendFrom low ys
    → AscendFrom low (disjoint_union xs ys)
unfolding disjoint_union
union-ascends low [] ys h k = k
union-ascends low (x ∷ xs) ys h k =
    let l = h.0 in
    with-ascends low x (disjoint_union xs ys) h.0
    (union-ascends low xs ys (ascend-lower low (x + 1) xs (omega arith) h.1) k)

-- with the empty set
pub nothing-union : (ys : List ℕ) → disjoint_union [] ys ≡ ys
unfolding disjoint_union
nothing-union ys = refl

pub union-nothing : (low : ℕ) (xs : List ℕ) → AscendFrom low xs → disjoint_union xs [] ≡ xs
unfolding disjoint_union
union-nothing low [] h = refl
union-nothing low (x ∷ xs) h =
    ap (with_bound x) (union-nothing (x + 1) xs h.1) ∙ with-first x xs h.1

-- a set is what completes another to the union
pub union-back : (xs ys : List ℕ) → AreBounds xs → AreBounds ys
    → disjoint_union xs (disjoint_union xs ys) ≡ ys
union-back xs ys h k =
    same-members 0 _ ys (union-ascends 0 xs _ h (union-ascends 0 xs ys h k)) k
    (λ n. union-has xs (disjoint_union xs ys) n ∙ ap (exactly_one (has xs n)) (union-has xs ys n)
    ∙ one-twice (has xs n) (has ys n))

-- ---- the union as a merge

-- where the first bound of the left set comes first
pub union-left : (x y : ℕ) (xs ys : List ℕ) → AreBounds (x ∷ xs) → AreBounds (y ∷ ys) → x < y
    → disjoint_union (x ∷ xs) (y ∷ ys) ≡ x ∷ disjoint_union xs (y ∷ ys)
unfolding disjoint_union
union-left x y xs ys h k l =
    with-first x _ (union-ascends (x + 1) xs (y ∷ ys) h.1 (omega arith, k.1))

behind-first : (y : ℕ) (xs ys : List ℕ) → AscendFrom (y + 1) xs
    → disjoint_union xs (y ∷ ys) ≡ y ∷ disjoint_union xs ys
unfolding disjoint_union
behind-first y [] ys h = refl
behind-first y (x ∷ xs) ys h =
    let l = h.0 in
    ap (with_bound x) (behind-first y xs ys (ascend-lower (y + 1) (x + 1) xs (omega arith) h.1))
    ∙ with-behind x y (disjoint_union xs ys) (omega arith)

-- where that of the right set does
pub union-right : (x y : ℕ) (xs ys : List ℕ) → AreBounds (x ∷ xs) → AreBounds (y ∷ ys) → y < x
    → disjoint_union (x ∷ xs) (y ∷ ys) ≡ y ∷ disjoint_union (x ∷ xs) ys
union-right x y xs ys h k l = behind-first y (x ∷ xs) ys (omega arith, h.1)

-- where both are equal
pub union-both : (x : ℕ) (xs ys : List ℕ) → AreBounds (x ∷ xs) → AreBounds (x ∷ ys)
    → disjoint_union (x ∷ xs) (x ∷ ys) ≡ disjoint_union xs ys
unfolding disjoint_union
union-both x xs ys h k =
    ap (with_bound x) (behind-first x xs ys h.1) ∙ with-same x (disjoint_union xs ys)
