-- Heaps as counts of cells: writing, removing, allocating.
use Rattle.cap_account_resources.proofs.Order.{same-or, same-int, same-refl}
use Rattle.std.proofs.Common.{◌≡◌, ◌≢◌, ℕ, zero, suc, ◌+◌, ◌≤◌, ℤ, pos, ◌+ℤ◌, ◌<ℤ◌, arith, refl, sym, ap, ◌∙◌, cond, Option, Some, None, inl, inr, Bool, true, false}
use Rattle.std.specs.Prelude.{◌&&◌, is_none}
use Rattle.std.specs.Ordering.{int_cmp, MatchOrdering, is_eq}
use Rattle.std.specs.declared.cmp.Ordering.{Ordering}
use Rattle.std.specs.declared.cmp.Ordering.TheVariants.{Less, Equal, Greater}
use Rattle.std.specs.Cmp.{int_cmp_total, int_ranks}
use Rattle.std.specs.FinMap.{FinMap, get, insert, remove, get-insert, get-remove}
use Rattle.std.proofs.lemmas.Int.{ints}
use Rattle.cap_lin.specs.Linear.{same_number}
use Rattle.cap_machine.specs.Machine.{Heap, with_cells, are_free}
use Rattle.cap_account_resources.specs.Parts.{Cells, once, one_cell, count_of, cells_of}

-- ---- what an address holds once a heap has changed

test-equal :
    (b a : ℤ) (o : Ordering) → MatchOrdering o (b <ℤ a) (b ≡ a) (a <ℤ b) → b ≡ a → is_eq o ≡ true
test-equal b a Less m e = absurd (omega (arith, ints, m, e))
test-equal b a Equal m e = refl
test-equal b a Greater m e = absurd (omega (arith, ints, m, e))

test-other :
    (b a : ℤ) (o : Ordering) → MatchOrdering o (b <ℤ a) (b ≡ a) (a <ℤ b) → b ≢ a → is_eq o ≡ false
test-other b a Less m e = refl
test-other b a Equal m e = absurd (e m)
test-other b a Greater m e = refl

pub insert-same :
    {X : Type 0} (h : FinMap int_cmp X) (a : ℤ) (w : X) (b : ℤ) → b ≡ a →
    get (insert h a w) b ≡ Some w
insert-same h a w b e =
    get-insert int_cmp_total h a w b
    ∙ ap (λ t. cond t (Some w) (get h b)) (test-equal b a (int_cmp b a) (int_ranks b a) e)

pub insert-other :
    {X : Type 0} (h : FinMap int_cmp X) (a : ℤ) (w : X) (b : ℤ) → b ≢ a →
    get (insert h a w) b ≡ get h b
insert-other h a w b e =
    get-insert int_cmp_total h a w b
    ∙ ap (λ t. cond t (Some w) (get h b)) (test-other b a (int_cmp b a) (int_ranks b a) e)

pub remove-same :
    {X : Type 0} (h : FinMap int_cmp X) (a b : ℤ) → b ≡ a → get (remove h a) b ≡ None
remove-same h a b e =
    get-remove int_cmp_total h a b
    ∙ ap (λ t. cond t None (get h b)) (test-equal b a (int_cmp b a) (int_ranks b a) e)

pub remove-other :
    {X : Type 0} (h : FinMap int_cmp X) (a b : ℤ) → b ≢ a → get (remove h a) b ≡ get h b
remove-other h a b e =
    get-remove int_cmp_total h a b
    ∙ ap (λ t. cond t None (get h b)) (test-other b a (int_cmp b a) (int_ranks b a) e)

-- ---- one cell, at its address and elsewhere

pub one-same : (a z b y : ℤ) → b ≡ a → one_cell a z b y ≡ count_of (Some z) y
one-same a z b y e = ap (λ t. once (t && same_number z y)) (ap (same_number a) e ∙ same-refl a)

pub one-other : (a z b y : ℤ) → b ≢ a → one_cell a z b y ≡ 0
one-other a z b y ne = by (same_number a b) refl
  where
    by : (t : Bool) → same_number a b ≡ t → once (t && same_number z y) ≡ 0
    by true q = absurd (ne (sym (same-int a b q)))
    by false q = refl

pub one-itself : (a z : ℤ) → one_cell a z a z ≡ 1
one-itself a z =
    ap (λ t. once (t && same_number z z)) (same-refl a) ∙ ap once (same-refl z)

pub count-at-most : (o : Option ℤ) (z : ℤ) → count_of o z ≤ 1
count-at-most None z = omega arith
count-at-most (Some w) z = by (same_number w z)
  where
    by : (t : Bool) → once t ≤ 1
    by true = omega arith
    by false = omega arith

pub counted-is : (o : Option ℤ) (z : ℤ) → 1 ≤ count_of o z → o ≡ Some z
counted-is None z h = absurd (omega (arith, h))
counted-is (Some w) z h = by (same_number w z) refl h
  where
    by : (t : Bool) → same_number w z ≡ t → 1 ≤ once t → Some w ≡ Some z
    by true q h = ap Some (same-int w z q)
    by false q h = absurd (omega (arith, h))

pub count-one : (h : Heap) (a z : ℤ) → get h a ≡ Some z → cells_of h a z ≡ 1
count-one h a z e = ap (λ o. count_of o z) e ∙ ap once (same-refl z)

-- a cell that is counted in a heap is in it
pub there-in :
    (heap : Heap) (a z : ℤ) → ((b y : ℤ) → one_cell a z b y ≤ cells_of heap b y) →
    get heap a ≡ Some z
there-in heap a z h =
    counted-is (get heap a) z (let q = h a z in let r = one-itself a z in omega (arith, q, r))

-- ---- changes, counted

pub written :
    (heap : Heap) (a z w b y : ℤ) → get heap a ≡ Some z →
    cells_of (insert heap a w) b y + one_cell a z b y ≡ cells_of heap b y + one_cell a w b y
written heap a z w b y e = elim (same-or b a) [
  | inl q ↦
      let i = ap (λ o. count_of o y) (insert-same heap a w b q) in
      let j = ap (λ o. count_of o y) (ap (get heap) q ∙ e) in
      let k = one-same a z b y q in
      let l = one-same a w b y q in
      omega (arith, i, j, k, l)
  | inr ne ↦
      let i = ap (λ o. count_of o y) (insert-other heap a w b ne) in
      let k = one-other a z b y ne in
      let l = one-other a w b y ne in
      omega (arith, i, k, l)
]

pub removed :
    (heap : Heap) (a z b y : ℤ) → get heap a ≡ Some z →
    cells_of (remove heap a) b y + one_cell a z b y ≡ cells_of heap b y
removed heap a z b y e = elim (same-or b a) [
  | inl q ↦
      let i = ap (λ o. count_of o y) (remove-same heap a b q) in
      let j = ap (λ o. count_of o y) (ap (get heap) q ∙ e) in
      let k = one-same a z b y q in
      omega (arith, i, j, k)
  | inr ne ↦
      let i = ap (λ o. count_of o y) (remove-other heap a b ne) in
      let k = one-other a z b y ne in
      omega (arith, i, k)
]

pub added :
    (heap : Heap) (a z b y : ℤ) → get heap a ≡ None →
    cells_of (insert heap a z) b y ≡ cells_of heap b y + one_cell a z b y
added heap a z b y e = elim (same-or b a) [
  | inl q ↦
      let i = ap (λ o. count_of o y) (insert-same heap a z b q) in
      let j = ap (λ o. count_of o y) (ap (get heap) q ∙ e) in
      let k = one-same a z b y q in
      omega (arith, i, j, k)
  | inr ne ↦
      let i = ap (λ o. count_of o y) (insert-other heap a z b ne) in
      let k = one-other a z b y ne in
      omega (arith, i, k)
]

-- ---- new cells

abbrev pub fresh_cells : ℤ → ℕ → Cells
fresh_cells a zero b y = 0
fresh_cells a (suc n) b y = fresh_cells a n b y + one_cell (a +ℤ pos n) (pos 0) b y

pub both-true : (a b : Bool) → (a && b) ≡ true → (a ≡ true) × (b ≡ true)
both-true true b e = (refl, e)
both-true false b e = absurd (cc)

none-is : (o : Option ℤ) → is_none o ≡ true → o ≡ None
none-is None e = refl
none-is (Some z) e = absurd (cc)

-- addresses below another one are as free once that is taken
free-below :
    (heap : Heap) (a : ℤ) (n m : ℕ) → n ≤ m → are_free heap a n ≡ true →
    are_free (insert heap (a +ℤ pos m) (pos 0)) a n ≡ true
free-below heap a zero m l h = refl
free-below heap a (suc n) m l h =
    let f = both-true (are_free heap a n) (is_none (get heap (a +ℤ pos n))) h in
    let below = free-below heap a n m (omega (arith, l)) f.0 in
    let other = insert-other heap (a +ℤ pos m) (pos 0) (a +ℤ pos n)
    (λ e. omega (arith, ints, e, l)) in
    ap (λ t. t && is_none (get (insert heap (a +ℤ pos m) (pos 0)) (a +ℤ pos n))) below
    ∙ (ap is_none other ∙ f.1)

pub allocated :
    (heap : Heap) (a : ℤ) (n : ℕ) → are_free heap a n ≡ true → (b y : ℤ) →
    cells_of (with_cells heap a n) b y ≡ cells_of heap b y + fresh_cells a n b y
allocated heap a zero h b y = omega arith
allocated heap a (suc n) h b y =
    let f = both-true (are_free heap a n) (is_none (get heap (a +ℤ pos n))) h in
    let next = insert heap (a +ℤ pos n) (pos 0) in
    let i = allocated next a n (free-below heap a n n (omega arith) f.0) b y in
    let j = added heap (a +ℤ pos n) (pos 0) b y (none-is (get heap (a +ℤ pos n)) f.1) in
    omega (arith, i, j)
