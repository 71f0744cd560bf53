-- Farkas' lemma, the sound half: no valuation solves rows that a certificate refutes.
use Rattle.std.proofs.Common.{◌≡◌, ℕ, zero, suc, ℤ, pos, ◌+ℤ◌, ◌*ℤ◌, ◌≤ℤ◌, ◌<ℤ◌, List, [], ◌∷◌, ◌++◌, ◌+◌, ◌<◌, length, arith, refl, subst, ap, sym, ◌∙◌, inl, inr}
use Rattle.std.proofs.lemmas.Int.{ints}
use Rattle.cap_numbers.proofs.Ring.{expand, product3}
use Rattle.cap_numbers.proofs.Order.{mul-le, mul-lt, mul-pos}
use Rattle.cap_lin.specs.Linear.{Linear, coefficient, multiples, parts_without}
use Rattle.cap_lin.specs.Values.{RationalValuation, denominator, parts_value, amount}
use Rattle.cap_lin.specs.Rows.{below_zero, above_zero}
use Rattle.cap_lin.specs.Solves.{HoldsAs, HoldsRationally, SolvesRationally, HasNoRational, kept, without_ne, SplitsToNone, Infeasible}
use Rattle.cap_lin.specs.declared.row.Row.{Row}
use Rattle.cap_lin.specs.declared.row.Sort.{Sort}
use Rattle.cap_lin.specs.declared.row.Sort.TheVariants.{Int, Perm}
use Rattle.cap_lin.specs.declared.row.Kind.{Kind}
use Rattle.cap_lin.specs.declared.row.Kind.TheVariants.{Le, Lt, Eq, Ne}
use Rattle.cap_lin.proofs.Values.{value-nil, value-cons, multiples-value, without-value, coefficient-multiples}
use Rattle.cap_lin.proofs.Places.{coefficient-nil, coefficient-append, coefficient-without, without-shorter}
use Rattle.cap_farkas.specs.Farkas.{MayMultiply, row_at, Names, constant_of, coefficient_of, column_sum, HasStrict, RefutesLeaf}
use Rattle.cap_farkas.specs.Refutes.{RefutesSplit, Refutes, Excludes}
use Rattle.cap_farkas.specs.declared.cert.Cert.{Cert}
use Rattle.cap_farkas.specs.declared.cert.Cert.TheVariants.{Leaf, Split}

-- ---- parts whose coefficients are all 0 have the value 0
vanish : (bound : ℕ) (n : ℕ → ℤ) (ps : List (ℕ × ℤ)) → length ps < bound → ((x : ℕ) → coefficient x ps ≡ pos 0) → parts_value n ps ≡ pos 0
vanish zero n ps h z = absurd (omega arith)
vanish (suc bound) n [] h z = value-nil n
vanish (suc bound) n (p ∷ ps) h z =
    let e = without-value n p.0 (p ∷ ps) in
    let l = without-shorter p ps in
    let i = vanish bound n (parts_without p.0 (p ∷ ps)) (omega arith) (λ x. coefficient-without p.0 x (p ∷ ps) (z x)) in
    e ∙ rw (z p.0, i) (omega (arith, ints))

-- ---- a weighted sum of rows
abbrev weigh : (Linear → ℤ) → List Row → List (ℕ × ℤ) → ℤ
weigh of rows [] = pos 0
weigh of rows (p ∷ ps) = p.1 *ℤ of (row_at rows p.0).term +ℤ weigh of rows ps

sum-is : (of : Linear → ℤ) (rows : List Row) (s : ℤ) (leaf : List (ℕ × ℤ)) → column_sum of rows s leaf ≡ s +ℤ weigh of rows leaf
unfolding column_sum
sum-is of rows s [] = omega (arith, ints)
sum-is of rows s (p ∷ ps) = sum-is of rows (s +ℤ p.1 *ℤ of (row_at rows p.0).term) ps ∙ omega (arith, ints)

abbrev all_parts : List Row → List (ℕ × ℤ) → List (ℕ × ℤ)
all_parts rows [] = []
all_parts rows (p ∷ ps) = multiples p.1 (row_at rows p.0).term.parts ++ all_parts rows ps

value-append : (n : ℕ → ℤ) (xs ys : List (ℕ × ℤ)) → parts_value n (xs ++ ys) ≡ parts_value n xs +ℤ parts_value n ys
value-append n [] ys = rw (value-nil n) (omega (arith, ints))
value-append n (x ∷ xs) ys = rw (value-cons n x (xs ++ ys), value-cons n x xs, value-append n xs ys) (omega (arith, ints))

all_parts-value : (n : ℕ → ℤ) (rows : List Row) (leaf : List (ℕ × ℤ)) → parts_value n (all_parts rows leaf) ≡ weigh (λ t. parts_value n t.parts) rows leaf
all_parts-value n rows [] = value-nil n
all_parts-value n rows (p ∷ ps) = rw (value-append n (multiples p.1 (row_at rows p.0).term.parts) (all_parts rows ps), multiples-value n p.1 (row_at rows p.0).term.parts, all_parts-value n rows ps) refl

all_parts-coefficient : (x : ℕ) (rows : List Row) (leaf : List (ℕ × ℤ)) → coefficient x (all_parts rows leaf) ≡ weigh (coefficient_of x) rows leaf
all_parts-coefficient x rows [] = coefficient-nil x
all_parts-coefficient x rows (p ∷ ps) = rw (coefficient-append x (multiples p.1 (row_at rows p.0).term.parts) (all_parts rows ps), coefficient-multiples x p.1 (row_at rows p.0).term.parts, all_parts-coefficient x rows ps) refl

weigh-amount : (q : RationalValuation) (rows : List Row) (leaf : List (ℕ × ℤ)) → weigh (amount q) rows leaf ≡ weigh constant_of rows leaf *ℤ denominator q +ℤ weigh (λ t. parts_value q.numerator t.parts) rows leaf
unfolding amount
weigh-amount q rows [] = omega (arith, ints)
weigh-amount q rows (p ∷ ps) = rw (weigh-amount q rows ps) (simp expand (omega (arith, ints, product3)))

-- ---- a row that holds, multiplied
at_most : (k : Kind) (m z : ℤ) → MayMultiply k m → HoldsAs k z → (m *ℤ z) ≤ℤ pos 0
at_most Le m z a h = let l = mul-le m z (pos 0) (omega (arith, ints)) h in omega (arith, ints)
at_most Lt m z a h = let l = mul-lt m z (pos 0) a h in omega (arith, ints)
at_most Eq m z a h = rw h (omega (arith, ints))
at_most Ne m z a h = absurd a

below : (k : Kind) (m z : ℤ) → k ≡ Lt → MayMultiply k m → HoldsAs k z → (m *ℤ z) <ℤ pos 0
below Le m z e a h = cc
below Lt m z e a h = let l = mul-lt m z (pos 0) a h in omega (arith, ints)
below Eq m z e a h = cc
below Ne m z e a h = cc

-- a row that may be multiplied is one of those that are not Ne
head-holds : (q : RationalValuation) (k : Kind) (r : Row) (rows : List Row) (m : ℤ) → MayMultiply k m → SolvesRationally q (kept k r rows) → HoldsRationally q r
head-holds q Le r rows m a h = h.0
head-holds q Lt r rows m a h = h.0
head-holds q Eq r rows m a h = h.0
head-holds q Ne r rows m a h = absurd a

tail-holds : (q : RationalValuation) (k : Kind) (r : Row) (rows : List Row) → SolvesRationally q (kept k r rows) → SolvesRationally q rows
tail-holds q Le r rows h = h.1
tail-holds q Lt r rows h = h.1
tail-holds q Eq r rows h = h.1
tail-holds q Ne r rows h = h

row-holds : (q : RationalValuation) (rows : List Row) (i : ℕ) (m : ℤ) → SolvesRationally q (without_ne rows) → i < length rows → MayMultiply (row_at rows i).kind m → HoldsRationally q (row_at rows i)
row-holds q [] i m h l a = absurd (omega arith)
row-holds q (r ∷ rs) zero m h l a = head-holds q r.kind r (without_ne rs) m a h
row-holds q (r ∷ rs) (suc i) m h l a = row-holds q rs i m (tail-holds q r.kind r (without_ne rs) h) (omega arith) a

weigh-at_most : (q : RationalValuation) (rows : List Row) (low : ℕ) (leaf : List (ℕ × ℤ)) → SolvesRationally q (without_ne rows) → Names low rows leaf → weigh (amount q) rows leaf ≤ℤ pos 0
unfolding Names
weigh-at_most q rows low [] s a = omega (arith, ints)
weigh-at_most q rows low (p ∷ ps) s a =
    let h = at_most (row_at rows p.0).kind p.1 (amount q (row_at rows p.0).term) a.2 (row-holds q rows p.0 p.1 s a.1 a.2) in
    let ih = weigh-at_most q rows (p.0 + 1) ps s a.3 in
    omega (arith, ints, h, ih)

weigh-below : (q : RationalValuation) (rows : List Row) (low : ℕ) (leaf : List (ℕ × ℤ)) → SolvesRationally q (without_ne rows) → Names low rows leaf → HasStrict rows leaf → weigh (amount q) rows leaf <ℤ pos 0
unfolding Names HasStrict
weigh-below q rows low [] s a t = absurd t
weigh-below q rows low (p ∷ ps) s a (inl e) =
    let h = below (row_at rows p.0).kind p.1 (amount q (row_at rows p.0).term) e a.2 (row-holds q rows p.0 p.1 s a.1 a.2) in
    let ih = weigh-at_most q rows (p.0 + 1) ps s a.3 in
    omega (arith, ints, h, ih)
weigh-below q rows low (p ∷ ps) s a (inr t) =
    let h = at_most (row_at rows p.0).kind p.1 (amount q (row_at rows p.0).term) a.2 (row-holds q rows p.0 p.1 s a.1 a.2) in
    let ih = weigh-below q rows (p.0 + 1) ps s a.3 t in
    omega (arith, ints, h, ih)

-- where every variable cancels, the rows add up to the constant alone
weigh-constant : (q : RationalValuation) (rows : List Row) (leaf : List (ℕ × ℤ)) → ((x : ℕ) → column_sum (coefficient_of x) rows (pos 0) leaf ≡ pos 0) → weigh (amount q) rows leaf ≡ column_sum constant_of rows (pos 0) leaf *ℤ denominator q
weigh-constant q rows leaf z =
    let none : (x : ℕ) → coefficient x (all_parts rows leaf) ≡ pos 0 = λ x. all_parts-coefficient x rows leaf ∙ omega (arith, ints, sum-is (coefficient_of x) rows (pos 0) leaf, z x) in
    let zero_parts : weigh (λ t. parts_value q.numerator t.parts) rows leaf ≡ pos 0 = sym (all_parts-value q.numerator rows leaf) ∙ vanish (suc (length (all_parts rows leaf))) q.numerator (all_parts rows leaf) (omega arith) none in
    let c : column_sum constant_of rows (pos 0) leaf ≡ weigh constant_of rows leaf = omega (arith, ints, sum-is constant_of rows (pos 0) leaf) in
    weigh-amount q rows leaf ∙ rw (zero_parts, c) (omega (arith, ints))

times-zero : (c d : ℤ) → c ≡ pos 0 → c *ℤ d ≡ pos 0
times-zero c d e = rw e (omega (arith, ints))

pub leaf-excludes : (rows : List Row) (leaf : List (ℕ × ℤ)) → RefutesLeaf rows leaf → HasNoRational (without_ne rows)
leaf-excludes rows leaf r q s =
    let e = weigh-constant q rows leaf (λ x. (r.cancels x).zero_sum) in
    let h = weigh-at_most q rows 0 leaf s r.names in
    elim r.contradicts [
      | inl positive ↦ let p = mul-pos (column_sum constant_of rows (pos 0) leaf) (denominator q) positive (omega (arith, ints)) in omega (arith, ints)
      | inr strict ↦ let b = weigh-below q rows 0 leaf s r.names strict.1 in let z = times-zero (column_sum constant_of rows (pos 0) leaf) (denominator q) strict.0 in omega (arith, ints)
    ]

-- ---- a split
push-kept : (rows : List Row) (r : Row) → kept r.kind r [] ≡ r ∷ [] → without_ne (rows ++ r ∷ []) ≡ without_ne rows ++ r ∷ []
push-kept [] r e = e
push-kept (x ∷ xs) r e = by_kind x.kind (push-kept xs r e)
  where
    by_kind : (k : Kind) → without_ne (xs ++ r ∷ []) ≡ without_ne xs ++ r ∷ [] → kept k x (without_ne (xs ++ r ∷ [])) ≡ kept k x (without_ne xs) ++ r ∷ []
    by_kind Le i = ap (λ rs. x ∷ rs) i
    by_kind Lt i = ap (λ rs. x ∷ rs) i
    by_kind Eq i = ap (λ rs. x ∷ rs) i
    by_kind Ne i = i

below-kept : (s : Sort) (t : Linear) → kept (below_zero s t).kind (below_zero s t) [] ≡ below_zero s t ∷ []
below-kept Int t = refl
below-kept Perm t = refl

side-excludes : (rows : List Row) (r : Row) (leaf : List (ℕ × ℤ)) → kept r.kind r [] ≡ r ∷ [] → RefutesLeaf (rows ++ r ∷ []) leaf → HasNoRational (without_ne rows ++ r ∷ [])
side-excludes rows r leaf e h = subst HasNoRational (push-kept rows r e) (leaf-excludes (rows ++ r ∷ []) leaf h)

split-excludes : (rows : List Row) (place : ℕ) (l m : List (ℕ × ℤ)) → RefutesSplit rows place l m → SplitsToNone rows place
split-excludes rows place l m r = record {
  term = r.term;
  sort = r.sort;
  is = r.is;
  below = side-excludes rows (below_zero r.sort r.term) l (below-kept r.sort r.term) r.below_refuted;
  above = side-excludes rows (above_zero r.sort r.term) m (below-kept r.sort _) r.above_refuted;
}

-- ---- a certificate
pub refuted-excludes : (rows : List Row) (c : Cert) → Refutes rows c → Excludes rows c
refuted-excludes rows (Leaf leaf) r = leaf-excludes rows leaf r
refuted-excludes rows (Split place l m) r = split-excludes rows place l m r

pub excluded-infeasible : (rows : List Row) (c : Cert) → Excludes rows c → Infeasible rows
excluded-infeasible rows (Leaf leaf) n = inl n
excluded-infeasible rows (Split place l m) n = inr (place, n)
