-- Cells that are counted in a part are cells of it, each at an address of its own.
use Rattle.std.proofs.Common.{◌≡◌, ℕ, ◌+◌, ◌≤◌, ℤ, pos, ◌<ℤ◌, List, [], ◌∷◌, refl, sym, ap, ◌∙◌, Some, arith}
use Rattle.std.specs.List.{AllByRecursion}
use Rattle.std.specs.FinMap.{get}
use Rattle.cap_lin.specs.Linear.{Linear}
use Rattle.cap_lin.specs.Values.{Valuation, value}
use Rattle.cap_machine_accounts.specs.Parts.{Part}
use Rattle.cap_machine_accounts.specs.Accounts.{EachTwo}
use Rattle.cap_account_resources.specs.Parts.{one_cell, cells_of}
use Rattle.cap_account_resources.proofs.Lists.{some-same}
use Rattle.cap_account_resources.proofs.Heaps.{one-itself, counted-is, count-one}
use Rattle.cap_account_states.proofs.Meets.{need}
use Rattle.cap_outline_laws.specs.Holding.{IsCellOf, AtOtherAddresses}

module _ (v : Valuation) (part : Part) where
  abbrev pub HasCells : List (Linear × Linear) → Type 0
  HasCells cs = (a z : ℤ) → need v cs a z ≤ cells_of part.cells a z

  later : (c : Linear × Linear) (cs : List (Linear × Linear)) → HasCells (c ∷ cs) → HasCells cs
  later c cs le a z = let q = le a z in omega (arith, q)

  first-there :
      (c : Linear × Linear) (cs : List (Linear × Linear)) → HasCells (c ∷ cs) →
      get part.cells (value v.whole c.0) ≡ Some (value v.whole c.1)
  first-there c cs le =
      let a = value v.whole c.0 in
      let z = value v.whole c.1 in
      let q = le a z in
      let r = one-itself a z in
      counted-is (get part.cells a) z (omega (arith, q, r))

  pub cells-there :
      (cs : List (Linear × Linear)) → HasCells cs →
      AllByRecursion (λ c. pos 0 <ℤ value v.whole c.0) cs → AllByRecursion (IsCellOf v part) cs
  cells-there [] le h = tt
  cells-there (c ∷ cs) le h = (
    record { positive = h.0; there = first-there c cs le },
    cells-there cs (later c cs le) h.1,
  )

  -- a cell that is counted once is not there again
  not-again :
      (c : Linear × Linear) (cs : List (Linear × Linear)) → HasCells (c ∷ cs) →
      AllByRecursion (AtOtherAddresses v c) cs
  not-again c [] le = tt
  not-again c (d ∷ cs) le =
      (apart, not-again c cs (λ a z. (let q = le a z in omega (arith, q))))
    where
      apart : AtOtherAddresses v c d
      apart e =
          let a = value v.whole c.0 in
          let z = value v.whole c.1 in
          let b = value v.whole d.0 in
          let y = value v.whole d.1 in
          let here = first-there c cs (λ x w. (let q = le x w in omega (arith, q))) in
          let there = first-there d cs (later c (d ∷ cs) le) in
          let same : z ≡ y = some-same z y (sym here ∙ (ap (get part.cells) e ∙ there)) in
          let u : one_cell b y a z ≡ 1 =
          ap (λ k. one_cell k y a z) (sym e) ∙ (ap (λ k. one_cell a k a z) (sym same) ∙ one-itself a z) in
          let q = le a z in
          let r = one-itself a z in
          let w = count-one part.cells a z here in
          omega (arith, q, r, u, w)

  pub cells-differ :
      (cs : List (Linear × Linear)) → HasCells cs → EachTwo (AtOtherAddresses v) cs
  cells-differ [] le = tt
  cells-differ (c ∷ cs) le = (not-again c cs le, cells-differ cs (later c cs le))
