-- Parts and stocks: what a stock within a heap and a table's room holds is a part, its guards are
-- guards of their types, and the cells of parts that are together within a heap are apart.
use Rattle.cap_account_resources.proofs.Tables.{fits-composes, AreListed, FitsRoom}
use Rattle.cap_account_resources.proofs.Order.{same-or, same-refl}
use Rattle.std.proofs.Common.{◌≡◌, ◌≢◌, ◌⊎◌, inl, inr, ℕ, zero, suc, ◌≤◌, ℤ, Bool, true, false, List, [], ◌∷◌, Option, Some, None, refl, sym, ap, ◌∙◌, subst, arith, cond}
use Rattle.std.specs.List.{AllByRecursion}
use Rattle.std.specs.Ordering.{int_cmp}
use Rattle.std.specs.FinMap.{FinMap, get, empty, insert, retain_keys, get-empty, get-retain_keys, int_cmp-IsAntisymmetric}
use Rattle.cap_lin.specs.Linear.{same_number}
use Rattle.cap_prog.specs.Program.{PlainProgram}
use Rattle.cap_machine.specs.Machine.{Heap}
use Rattle.cap_machine_accounts.specs.Parts.{Guard, IsGuard, Part, guard_at}
use Rattle.cap_machine_accounts.specs.Accounts.{EachTwo, CellsApart, CellsWithin}
use Rattle.cap_machine_accounts.specs.Following.{SomeHasCell}
use Rattle.cap_account_resources.specs.Parts.{Cells, once, count_of, cells_of, Known, Table}
use Rattle.cap_account_resources.proofs.Lists.{some-same, none-some, all-more, Among}
use Rattle.cap_account_resources.proofs.Heaps.{insert-same, insert-other, count-at-most, counted-is, count-one}
use Rattle.cap_account_resources.proofs.Marks.{Mark, is-element, is-present}
use Rattle.cap_account_resources.proofs.Covering.{IsPartOf}
use Rattle.cap_account_resources.proofs.Room.{room, InRoom, in-room}
use Rattle.cap_account_resources.proofs.Stocks.{Stock, both, Inside, same-stock, inside-cells}
use Rattle.cap_account.proofs.Stocked.{part_stock}
use Rattle.cap_account.proofs.Totals.{parts_stock, sum-each}

-- ---- finite maps of listed keys

abbrev entered : {X : Type 0} → FinMap int_cmp X → ℤ → Option X → FinMap int_cmp X
entered m n None = m
entered m n (Some x) = insert m n x

abbrev pub tabled : {X : Type 0} → List ℤ → (ℤ → Option X) → FinMap int_cmp X
tabled [] g = empty
tabled (n ∷ ns) g = entered (tabled ns g) n (g n)

entered-here :
    {X : Type 0} (m : FinMap int_cmp X) (n k : ℤ) (o : Option X) → k ≡ n →
    (get (entered m n o) k ≡ o) ⊎ ((o ≡ None) × (get (entered m n o) k ≡ get m k))
entered-here m n k None e = inr (refl, refl)
entered-here m n k (Some x) e = inl (insert-same m n x k e)

entered-away :
    {X : Type 0} (m : FinMap int_cmp X) (n k : ℤ) (o : Option X) → k ≢ n →
    get (entered m n o) k ≡ get m k
entered-away m n k None ne = refl
entered-away m n k (Some x) ne = insert-other m n x k ne

-- at a key it has the value, or nothing where the key is not listed
tabled-or :
    {X : Type 0} (ns : List ℤ) (g : ℤ → Option X) (k : ℤ) →
    (get (tabled ns g) k ≡ g k) ⊎ ((Among k ns → ⊥) × (get (tabled ns g) k ≡ None))
tabled-or [] g k = inr (λ m. m, get-empty int_cmp k)
tabled-or (n ∷ ns) g k = elim (same-or k n) [
  | inl e ↦ elim (entered-here (tabled ns g) n k (g n) e) [
    | inl h ↦ inl (h ∙ ap g (sym e))
    | inr h ↦ elim (tabled-or ns g k) [
      | inl r ↦ inl (h.1 ∙ r)
      | inr r ↦ inl (h.1 ∙ r.1 ∙ sym (ap g e ∙ h.0))
    ]
  ]
  | inr ne ↦
      let same = entered-away (tabled ns g) n k (g n) ne in
      elim (tabled-or ns g k) [
        | inl r ↦ inl (same ∙ r)
        | inr r ↦ inr (λ m. elim m [ inl q ↦ ne (sym q) | inr d ↦ r.0 d ], same ∙ r.1)
      ]
]

pub tabled-is :
    {X : Type 0} (ns : List ℤ) (g : ℤ → Option X) →
    ((k : ℤ) → (Among k ns → ⊥) → g k ≡ None) → (k : ℤ) → get (tabled ns g) k ≡ g k
tabled-is ns g f k = elim (tabled-or ns g k) [ inl h ↦ h | inr h ↦ h.1 ∙ sym (f k h.0) ]

-- ---- cells that are held of a heap

abbrev above_zero : ℕ → Bool
above_zero zero = false
above_zero (suc n) = true

abbrev is_held : (ℤ → ℕ) → Option ℤ → Bool
is_held c None = false
is_held c (Some z) = above_zero (c z)

abbrev pub held_cells : Heap → Cells → Heap
held_cells heap c = retain_keys heap (λ a. is_held (c a) (get heap a))

count-same : (w z : ℤ) → w ≡ z → count_of (Some w) z ≡ 1
count-same w z e = ap (λ y. once (same_number w y)) (sym e) ∙ ap once (same-refl w)

count-other : (w z : ℤ) → w ≢ z → count_of (Some w) z ≡ 0
count-other w z ne = by (count_of (Some w) z) refl
  where
    by : (n : ℕ) → count_of (Some w) z ≡ n → n ≡ 0
    by zero e = refl
    by (suc n) e = absurd (ne (some-same w z (counted-is (Some w) z (omega (arith, e)))))

count-held :
    (c : ℤ → ℕ) (o : Option ℤ) → ((z : ℤ) → c z ≤ count_of o z) → (z : ℤ) →
    count_of (cond (is_held c o) o None) z ≡ c z
count-held c None le z = let q = le z in omega (arith, q)
count-held c (Some w) le z = by (c w) refl (same-or w z)
  where
    by :
        (n : ℕ) → c w ≡ n → (w ≡ z) ⊎ (w ≢ z) →
        count_of (cond (above_zero n) (Some w) None) z ≡ c z
    by zero d (inl e) = sym (ap c (sym e) ∙ d)
    by zero d (inr ne) = let q = le z in let k = count-other w z ne in omega (arith, q, k)
    by (suc n) d (inl e) =
        let q = le z in let k = count-same w z e in let r = ap c e in omega (arith, q, k, r, d)
    by (suc n) d (inr ne) = let q = le z in let k = count-other w z ne in omega (arith, q, k)

pub held-are :
    (heap : Heap) (c : Cells) → ((a z : ℤ) → c a z ≤ cells_of heap a z) → (a z : ℤ) →
    cells_of (held_cells heap c) a z ≡ c a z
held-are heap c le a z =
    ap (λ o. count_of o z)
    (get-retain_keys heap (λ b. is_held (c b) (get heap b)) a
    (λ b t. ap (λ b. is_held (c b) (get heap b)) (sym (int_cmp-IsAntisymmetric a b t))))
    ∙ count-held (c a) (get heap a) (le a) z

-- ---- a part that has what a stock says

abbrev pub plain : Option Mark → Option Guard
plain None = None
plain (Some m) = m

pub plain-is : (o : Option Mark) → o ≢ None → Some (plain o) ≡ o
plain-is None ne = absurd (ne refl)
plain-is (Some m) ne = refl

abbrev pub part_for : Heap → List ℤ → Stock → Part
part_for heap ns q = record {
  cells = held_cells heap q.cells;
  guards = tabled ns (λ n. plain (q.guards n));
}

module _ (p : PlainProgram) (T : Table) where
  fits-free : (n : ℤ) (o : Option Mark) → IsPartOf p o (room p T n) → T n ≡ None → plain o ≡ None
  fits-free n None h e = refl
  fits-free n (Some None) h e = refl
  fits-free n (Some (Some g)) h e =
      absurd (none-some (sym e ∙ (in-room p T n g.kind g.element h).is_known))

  not-listed :
      (ns : List ℤ) → AreListed ns T → (n : ℤ) → (Among n ns → ⊥) → (o : Option Known) → T n ≡ o →
      o ≡ None
  not-listed ns h n f None e = refl
  not-listed ns h n f (Some k) e = absurd (f (h n k e))

  pub part-has :
      (heap : Heap) (ns : List ℤ) (q : Stock) → AreListed ns T → FitsRoom p T q →
      ((a z : ℤ) → q.cells a z ≤ cells_of heap a z) → part_stock (part_for heap ns q) ≡ q
  part-has heap ns q listed roomy le =
      same-stock (part_stock (part_for heap ns q)) q (held-are heap q.cells le) (λ n.
      ap Some (tabled-is ns (λ k. plain (q.guards k))
      (λ k f. fits-free k (q.guards k) (roomy k) (not-listed ns listed k f (T k) refl)) n)
      ∙ plain-is (q.guards n) (fits-composes p T q roomy n))

  -- ---- guards within the room

  pub guard-in-room :
      (q : Part) → FitsRoom p T (part_stock q) → (n : ℤ) (g : Guard) → guard_at q n ≡ Some g →
      InRoom p T n g.kind g.element
  guard-in-room q h n g e =
      in-room p T n g.kind g.element
      (subst (λ o. IsPartOf p (Some o) (room p T n)) e (h n))

abbrev pub AreGuards : PlainProgram → Part → Type 0
AreGuards p q = (n : ℤ) → IsGuard p (guard_at q n)

pub room-is-guard :
    (p : PlainProgram) (T : Table) (n : ℤ) (g : Guard) → InRoom p T n g.kind g.element →
    IsGuard p (Some g)
room-is-guard p T n g i =
    (is-element p g.kind g.element i.is_guard, is-present p g.kind g.element i.is_guard)

pub fits-guards :
    (p : PlainProgram) (T : Table) (q : Part) → FitsRoom p T (part_stock q) → AreGuards p q
fits-guards p T q h n = by (guard_at q n) refl
  where
    by : (o : Option Guard) → guard_at q n ≡ o → IsGuard p o
    by None e = tt
    by (Some g) e = room-is-guard p T n g (guard-in-room p T q h n g e)

-- ---- cells of parts that are together within a heap

abbrev pub Together : Heap → Stock → Type 0
Together heap q = (a z : ℤ) → q.cells a z ≤ cells_of heap a z

pub part-within : (heap : Heap) (q : Part) → Together heap (part_stock q) → CellsWithin heap q
part-within heap q le a z e =
    counted-is (get heap a) z
    (let i = le a z in let k = count-one q.cells a z e in omega (arith, i, k))

pub part-apart :
    (p : PlainProgram) (heap : Heap) (q r : Part) →
    Together heap (both p (part_stock q) (part_stock r)) → CellsApart q r
part-apart p heap q r le a x y =
    let i = count-one q.cells a x.0 x.1 in
    let j = count-one r.cells a y.0 y.1 in
    let both_in = λ (z : ℤ) (k : 1 ≤ cells_of heap a z). counted-is (get heap a) z k in
    let m = le a x.0 in
    let n = le a y.0 in
    let same : x.0 ≡ y.0 = some-same x.0 y.0
    (sym (both_in x.0 (omega (arith, i, m))) ∙ both_in y.0 (omega (arith, j, n))) in
    let k = ap (cells_of r.cells a) same in
    let most = count-at-most (get heap a) x.0 in
    absurd (omega (arith, i, j, k, m, most))

module _ (p : PlainProgram) (heap : Heap) where
  pub all-within :
      (qs : List Part) → Together heap (parts_stock p qs) → AllByRecursion (CellsWithin heap) qs
  all-within qs le =
      all-more (λ q. Inside p (part_stock q) (parts_stock p qs)) (CellsWithin heap)
      (λ q i. part-within heap q (λ a z.
      let k = inside-cells p (part_stock q) (parts_stock p qs) i a z in
      let m = le a z in omega (arith, k, m))) qs (sum-each p part_stock qs)

  pub all-apart :
      (qs : List Part) → Together heap (parts_stock p qs) → EachTwo CellsApart qs
  all-apart [] le = tt
  all-apart (q ∷ qs) le = (
    all-more (λ r. Inside p (part_stock r) (parts_stock p qs)) (CellsApart q)
        (λ r i. part-apart p heap q r (λ a z.
        let k = inside-cells p (part_stock r) (parts_stock p qs) i a z in
        let m = le a z in omega (arith, k, m))) qs (sum-each p part_stock qs),
    all-apart qs (λ a z. let m = le a z in omega (arith, m)),
  )

  -- a cell of some part is counted, and what is counted is a cell of some part
  pub cell-counted :
      (qs : List Part) (a : ℤ) → SomeHasCell qs a → (z : ℤ) × (1 ≤ (parts_stock p qs).cells a z)
  cell-counted [] a h = absurd h
  cell-counted (q ∷ qs) a (inl h) =
      (h.0, let i = count-one q.cells a h.0 h.1 in omega (arith, i))
  cell-counted (q ∷ qs) a (inr h) =
      let k = cell-counted qs a h in (k.0, let i = k.1 in omega (arith, i))

  pub counted-cell :
      (qs : List Part) (a z : ℤ) → 1 ≤ (parts_stock p qs).cells a z → SomeHasCell qs a
  counted-cell [] a z h = absurd (omega (arith, h))
  counted-cell (q ∷ qs) a z h = by (cells_of q.cells a z) refl (λ k. counted-cell qs a z k)
    where
      by :
          (n : ℕ) → cells_of q.cells a z ≡ n →
          (1 ≤ (parts_stock p qs).cells a z → SomeHasCell qs a) → SomeHasCell (q ∷ qs) a
      by zero e f = inr (f (omega (arith, h, e)))
      by (suc n) e f = inl (z, counted-is (get q.cells a) z (omega (arith, e)))
