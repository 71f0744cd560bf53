-- Sums, multiples and rests of terms have their variables in ascending order, and no coefficient of 0.
use Rattle.std.proofs.Common.{ℕ, zero, suc, ℤ, pos, negsuc, ◌+ℤ◌, ◌*ℤ◌, List, [], ◌∷◌, ◌+◌, ◌≤◌, arith, inl, inr, map, Bool, true, false}
use Rattle.std.specs.Prelude.{if◌then◌else◌, ◌==◌, not}
use Rattle.std.proofs.lemmas.Bool.{cases_lt}
use Rattle.cap_lin.specs.Linear.{AscendFrom, merged, only_right, put_part, sums, multiples, parts_without}
use Rattle.cap_lin.specs.declared.term.Pair.{Pair}
use Rattle.cap_lin.proofs.Merge.{merged-lt, merged-gt, merged-eq, merged-left}

abbrev pub PairsAscend : ℕ → List Pair → Type 0
PairsAscend low [] = Unit {0}
PairsAscend low (j ∷ js) = (low ≤ j.variable) × PairsAscend (j.variable + 1) js

pub weaken : (low high : ℕ) (ps : List (ℕ × ℤ)) → low ≤ high → AscendFrom high ps → AscendFrom low ps
weaken low high [] h a = tt
weaken low high (p ∷ ps) h a = let l = a.0 in (omega arith, a.1, a.2)

right-ascends : (low : ℕ) (qs : List (ℕ × ℤ)) → AscendFrom low qs → PairsAscend low (map only_right qs)
right-ascends low [] a = tt
right-ascends low (q ∷ qs) a = (a.0, right-ascends (q.0 + 1) qs a.2)

nil-ascends : (low : ℕ) (qs : List (ℕ × ℤ)) → AscendFrom low qs → PairsAscend low (merged [] qs)
unfolding merged
nil-ascends low qs a = right-ascends low qs a

cons-ascends : (p : ℕ × ℤ) (ps : List (ℕ × ℤ)) → ((low : ℕ) (qs : List (ℕ × ℤ)) → AscendFrom low ps → AscendFrom low qs → PairsAscend low (merged ps qs)) → (low : ℕ) (qs : List (ℕ × ℤ)) → AscendFrom low (p ∷ ps) → AscendFrom low qs → PairsAscend low (merged (p ∷ ps) qs)
cons-ascends p ps ih low [] a b = rw (merged-left p ps) (a.0, ih (p.0 + 1) [] a.2 tt)
cons-ascends p ps ih low (q ∷ qs) a b =
    elim (cases_lt p.0 q.0) [
      | inl lt ↦ rw (merged-lt p q ps qs lt) (a.0, ih (p.0 + 1) (q ∷ qs) a.2 (omega arith, b.1, b.2))
      | inr ge ↦ elim (cases_lt q.0 p.0) [
        | inl gt ↦ rw (merged-gt p q ps qs gt) (b.0, cons-ascends p ps ih (q.0 + 1) qs (omega arith, a.1, a.2) b.2)
        | inr le ↦ rw (merged-eq p q ps qs ge le) (a.0, ih (p.0 + 1) qs a.2 (weaken _ _ qs (omega arith) b.2))
      ]
    ]

pub merged-ascends : (low : ℕ) (ps qs : List (ℕ × ℤ)) → AscendFrom low ps → AscendFrom low qs → PairsAscend low (merged ps qs)
merged-ascends low [] qs a b = nil-ascends low qs b
merged-ascends low (p ∷ ps) qs a b = cons-ascends p ps (λ l rs c d. merged-ascends l ps rs c d) low qs a b

pub put-ascends : (x : ℕ) (k : ℤ) (low : ℕ) (ps : List (ℕ × ℤ)) → low ≤ x → AscendFrom (x + 1) ps → AscendFrom low (put_part x k ps)
put-ascends x (pos zero) low ps h a = weaken low (x + 1) ps (omega arith) a
put-ascends x (pos (suc n)) low ps h a = (h, λ e. cc, a)
put-ascends x (negsuc n) low ps h a = (h, λ e. cc, a)

sums-ascend : (low : ℕ) (js : List Pair) → PairsAscend low js → AscendFrom low (sums js)
unfolding sums
sums-ascend low [] a = tt
sums-ascend low (j ∷ js) a = put-ascends j.variable (j.left +ℤ j.right) low (sums js) a.0 (sums-ascend (j.variable + 1) js a.1)

pub sum-ascends : (low : ℕ) (ps qs : List (ℕ × ℤ)) → AscendFrom low ps → AscendFrom low qs → AscendFrom low (sums (merged ps qs))
sum-ascends low ps qs a b = sums-ascend low (merged ps qs) (merged-ascends low ps qs a b)

pub multiple-ascends : (low : ℕ) (k : ℤ) (ps : List (ℕ × ℤ)) → AscendFrom low ps → AscendFrom low (multiples k ps)
unfolding multiples
multiple-ascends low k [] a = tt
multiple-ascends low k (p ∷ ps) a = put-ascends p.0 (k *ℤ p.1) low (multiples k ps) a.0 (multiple-ascends (p.0 + 1) k ps a.2)

pub without-ascends : (low x : ℕ) (ps : List (ℕ × ℤ)) → AscendFrom low ps → AscendFrom low (parts_without x ps)
without-ascends low x [] a = tt
without-ascends low x (p ∷ ps) a = by_test (not (p.0 == x)) (a.0, a.1, without-ascends (p.0 + 1) x ps a.2) (let l = a.0 in weaken low (p.0 + 1) _ (omega arith) (without-ascends (p.0 + 1) x ps a.2))
  where
    by_test : (b : Bool) → AscendFrom low (p ∷ parts_without x ps) → AscendFrom low (parts_without x ps) → AscendFrom low (if b then p ∷ parts_without x ps else parts_without x ps)
    by_test true g h = g
    by_test false g h = h
