-- Cells that are put into a part: it has them, or gets them.
use Rattle.std.proofs.Common.{◌≡◌, ◌⊎◌, inl, inr, ℕ, zero, suc, ◌+◌, ◌<◌, ◌≤◌, ℤ, pos, ◌+ℤ◌, List, [], ◌∷◌, Option, Some, None, refl, sym, ap, ◌∙◌, arith}
use Rattle.std.specs.List.{AllByRecursion}
use Rattle.std.specs.FinMap.{get, insert, same_map, int_cmp-IsAntisymmetric}
use Rattle.std.specs.Cmp.{int_cmp_total}
use Rattle.cap_lin.specs.Linear.{Linear}
use Rattle.cap_lin.specs.Values.{Valuation, value}
use Rattle.cap_machine.specs.Machine as machine
use Rattle.cap_machine.specs.Machine.{Heap}
use Rattle.cap_machine_accounts.specs.Parts.{Part}
use Rattle.cap_machine_accounts.specs.Assertions.{NameValue}
use Rattle.cap_account_resources.specs.Parts.{one_cell, cells_of}
use Rattle.cap_account_resources.proofs.Lists.{some-same}
use Rattle.cap_account_resources.proofs.Order.{same-or}
use Rattle.cap_account_resources.proofs.Heaps.{insert-same, insert-other, one-itself, count-at-most, counted-is, count-one, there-in, added}
use Rattle.cap_account_states.proofs.Meets.{need}
use Rattle.cap_owners_spec.specs.Traced.{Traced, traced, past_width, untold, ◌>>=◌, valuation, number_in}
use Rattle.cap_owners_spec.specs.Filling.{with_cells}
use Rattle.cap_owners_laws.specs.Owned.{IsTold}
use Rattle.cap_owners_walks_laws.proofs.Values.Numbers.{number-is}
use Rattle.cap_owners_walks_laws.proofs.Values.More.{number-told}
use Rattle.cap_owners_walks_laws.proofs.Parts.Telling.{told-more}

-- each of these cells is in the heap
abbrev pub AreIn : Valuation → Heap → List (Linear × Linear) → Type 0
AreIn v h cs = AllByRecursion (λ c. get h (value v.whole c.0) ≡ Some (value v.whole c.1)) cs

-- one of them is at this address
abbrev pub IsCellAt : Valuation → ℤ → List (Linear × Linear) → Type 0
IsCellAt v a [] = ⊥
IsCellAt v a (c ∷ cs) = (value v.whole c.0 ≡ a) ⊎ IsCellAt v a cs

pub needed-in :
    (v : Valuation) (h : Heap) (cs : List (Linear × Linear)) →
    ((a z : ℤ) → need v cs a z ≤ cells_of h a z) → AreIn v h cs
needed-in v h [] le = tt
needed-in v h (c ∷ cs) le = (
  there-in h (value v.whole c.0) (value v.whole c.1)
      (λ a z. (let i = le a z in omega (arith, i))),
  needed-in v h cs (λ a z. (let i = le a z in omega (arith, i))),
)

module _ (vs : List NameValue) (h : Heap) where
  -- with the first cell a heap has still what the later ones don't bring
  still-brought :
      (k : Heap) (a z : ℤ) (x y : ℤ) (cs : List (Linear × Linear)) → a ≡ x → z ≡ y →
      get h x ≡ Some y → (b : ℤ) →
      (get k b ≡ get h b) ⊎ ((x ≡ b) ⊎ IsCellAt (valuation vs) b cs) →
      (get (insert k a z) b ≡ get h b) ⊎ IsCellAt (valuation vs) b cs
  still-brought k a z x y cs e f has b there = elim (same-or b a) [
    | inl q ↦ inl (insert-same k a z b q ∙ ap Some f ∙ sym has ∙ ap (get h) (sym (q ∙ e)))
    | inr ne ↦ elim there [
      | inl old ↦ inl (insert-other k a z b ne ∙ old)
      | inr (inl here) ↦ absurd (ne (sym here ∙ sym e))
      | inr (inr later) ↦ inr later
    ]
  ]

  -- Where the heap has all of the cells, and what it has else was there, the part gets its cells,
  -- unless a number leaves its bounds.
  pub put-told :
      (cs : List (Linear × Linear)) (q : Part) → AreIn (valuation vs) h cs →
      ((a : ℤ) → (get q.cells a ≡ get h a) ⊎ IsCellAt (valuation vs) a cs) →
      IsTold (λ r. r ≡ record { cells = h; guards = q.guards }) (with_cells vs q cs)
  put-told [] q are there = λ i. record {
    cells =
        same_map int_cmp_total int_cmp-IsAntisymmetric q.cells h
        (λ a. elim (there a) [ inl e ↦ e | inr k ↦ absurd k ]) i;
    guards = q.guards;
  }
  put-told (c ∷ cs) q are there =
      by (number_in vs c.0) (number_in vs c.1) refl refl
      (λ a z e f. put-told cs (record q { cells = insert q.cells a z }) are.1
      (λ b. still-brought q.cells a z (value (valuation vs).whole c.0)
      (value (valuation vs).whole c.1) cs (number-is vs c.0 a e) (number-is vs c.1 z f) are.0 b
      (there b)))
    where
      by :
          (m n : Traced ℤ) → number_in vs c.0 ≡ m → number_in vs c.1 ≡ n →
          ((a z : ℤ) → number_in vs c.0 ≡ traced a → number_in vs c.1 ≡ traced z →
          IsTold (λ r. r ≡ record { cells = h; guards = q.guards })
          (with_cells vs (record q { cells = insert q.cells a z }) cs)) →
          IsTold (λ r. r ≡ record { cells = h; guards = q.guards })
          (m >>= λ a. n >>= λ z. with_cells vs (record q { cells = insert q.cells a z }) cs)
      by (traced a) (traced z) e f later = later a z e f
      by (traced a) past_width e f later = tt
      by (traced a) untold e f later = absurd (number-told vs c.1 f)
      by past_width n e f later = tt
      by untold n e f later = absurd (number-told vs c.0 e)

-- ---- cells that are put into a part which has none of them

-- an address that is to get a cell has none yet, where all of them together are within a heap
none-yet :
    (q h : Heap) (a z : ℤ) → ((b y : ℤ) → cells_of q b y + one_cell a z b y ≤ cells_of h b y) →
    get q a ≡ None
none-yet q h a z le = by (get q a) refl
  where
    by : (o : Option ℤ) → get q a ≡ o → o ≡ None
    by None e = refl
    by (Some y) e =
        let one = count-one q a y e in
        let here = le a y in
        let there = le a z in
        let it = one-itself a z in
        let first = counted-is (get h a) y (omega (arith, one, here)) in
        let second = counted-is (get h a) z (omega (arith, it, there)) in
        let same : y ≡ z = some-same y z (sym first ∙ second) in
        let twice = ap (λ x. cells_of q a x) same in
        let most = count-at-most (get h a) z in
        absurd (omega (arith, one, twice, it, there, most))

-- it gets just these cells
pub cells-told :
    (vs : List NameValue) (h : Heap) (cs : List (Linear × Linear)) (q : Part) →
    ((a z : ℤ) → cells_of q.cells a z + need (valuation vs) cs a z ≤ cells_of h a z) →
    IsTold (λ r. (r.guards ≡ q.guards)
    × ((a z : ℤ) → cells_of r.cells a z ≡ cells_of q.cells a z + need (valuation vs) cs a z))
    (with_cells vs q cs)
cells-told vs h [] q le = (refl, λ a z. omega arith)
cells-told vs h (c ∷ cs) q le =
    by (number_in vs c.0) (number_in vs c.1) refl refl
    (λ a z e f.
    let k = record q { cells = insert q.cells a z } in
    let none = none-yet q.cells h a z (λ b y.
    let l = le b y in
    let s = same-cell a z (number-is vs c.0 a e) (number-is vs c.1 z f) b y in
    omega (arith, l, s)) in
    let now = λ (b y : ℤ). added q.cells a z b y none in
    told-more
    (λ r. (r.guards ≡ q.guards)
    × ((b y : ℤ) → cells_of r.cells b y ≡ cells_of k.cells b y + need (valuation vs) cs b y))
    (λ r. (r.guards ≡ q.guards)
    × ((b y : ℤ) → cells_of r.cells b y ≡ cells_of q.cells b y + need (valuation vs) (c ∷ cs) b y))
    (with_cells vs k cs)
    (λ r m. (
      m.0,
      λ b y.
          let i = m.1 b y in
          let j = now b y in
          let s = same-cell a z (number-is vs c.0 a e) (number-is vs c.1 z f) b y in
          omega (arith, i, j, s),
    ))
    (cells-told vs h cs k (λ b y.
    let l = le b y in
    let j = now b y in
    let s = same-cell a z (number-is vs c.0 a e) (number-is vs c.1 z f) b y in
    omega (arith, l, j, s))))
  where
    same-cell :
        (a z : ℤ) → a ≡ value (valuation vs).whole c.0 → z ≡ value (valuation vs).whole c.1 →
        (b y : ℤ) →
        one_cell a z b y
        ≡ one_cell (value (valuation vs).whole c.0) (value (valuation vs).whole c.1) b y
    same-cell a z e f b y = λ i. one_cell (e i) (f i) b y

    by :
        (m n : Traced ℤ) → number_in vs c.0 ≡ m → number_in vs c.1 ≡ n →
        ((a z : ℤ) → number_in vs c.0 ≡ traced a → number_in vs c.1 ≡ traced z →
        IsTold (λ r. (r.guards ≡ q.guards)
        × ((a z : ℤ) →
        cells_of r.cells a z ≡ cells_of q.cells a z + need (valuation vs) (c ∷ cs) a z))
        (with_cells vs (record q { cells = insert q.cells a z }) cs)) →
        IsTold (λ r. (r.guards ≡ q.guards)
        × ((a z : ℤ) →
        cells_of r.cells a z ≡ cells_of q.cells a z + need (valuation vs) (c ∷ cs) a z))
        (m >>= λ a. n >>= λ z. with_cells vs (record q { cells = insert q.cells a z }) cs)
    by (traced a) (traced z) e f later = later a z e f
    by (traced a) past_width e f later = tt
    by (traced a) untold e f later = absurd (number-told vs c.1 f)
    by past_width n e f later = tt
    by untold n e f later = absurd (number-told vs c.0 e)

-- ---- new cells

-- an address has what it had, or it is one of those that are new
pub new-or-old :
    (heap : Heap) (base : ℤ) (n : ℕ) (a : ℤ) →
    (get heap a ≡ get (machine.with_cells heap base n) a)
    ⊎ ((i : ℕ) × (i < n) × (base +ℤ pos i ≡ a))
new-or-old heap base zero a = inl refl
new-or-old heap base (suc n) a =
    elim (new-or-old (insert heap (base +ℤ pos n) (pos 0)) base n a) [
      | inl e ↦ elim (same-or a (base +ℤ pos n)) [
        | inl q ↦ inr (n, omega arith, sym q)
        | inr ne ↦ inl (sym (insert-other heap (base +ℤ pos n) (pos 0) a ne) ∙ e)
      ]
      | inr m ↦ inr (m.0, (let l = m.1 in omega (arith, l)), m.2)
    ]
