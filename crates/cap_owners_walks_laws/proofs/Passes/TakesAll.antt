-- A walk takes items one after the other, by the size of the trees.
use Rattle.std.proofs.Common.{◌≡◌, ◌⊎◌, inl, inr, ℕ, zero, suc, ◌≤◌, ℤ, List, ◌∷◌, refl, sym, subst, arith}
use Rattle.cap_lin.specs.Values.{Valuation}
use Rattle.cap_syntax.specs.declared.place.Place.{Place}
use Rattle.cap_farkas.specs.declared.cert.Cert.{Cert}
use Rattle.cap_prog.specs.declared.assertion.Asked.{Asked}
use Rattle.cap_prog.specs.declared.assertion.Slot.{Slot}
use Rattle.cap_prog.specs.Program.{PlainItem, compare, choose, fact, atom, cell, Items, none, item}
use Rattle.cap_goal_spec.specs.States.{PlainState, to_take}
use Rattle.cap_goal_spec.specs.Choices.{PlainTree, node, PlainTrees, no_trees, tree, by_absurd, by_fact, by_cases, by_cell, by_region, by_guard, by_convert, by_create}
use Rattle.cap_machine_accounts.specs.Assertions.{NameValue}
use Rattle.cap_account_resources.specs.Parts.{Table}
use Rattle.cap_account_resources.proofs.Interference.{Holding}
use Rattle.cap_account_resources.proofs.Stocks.{Stock}
use Rattle.cap_account_states.specs.Nodes.{Open}
use Rattle.cap_account_states.proofs.Checked.{Checked, lone-child}
use Rattle.cap_account_states.proofs.Meets.{solves}
use Rattle.cap_account_assertions.proofs.TreeSizes.{tree_size, trees_size}
use Rattle.cap_account_assertions.proofs.TakeSteps.{Job, tasks_of, with_items}
use Rattle.cap_owners_spec.specs.Traced.{valuation}
use Rattle.cap_owners_spec.specs.Walks.{Taking}
use Rattle.cap_owners_walks_laws.proofs.Passes.Takes.{TakesFrom, IsWide, TakesTo, AlongLaw}
use Rattle.cap_owners_walks_laws.proofs.Passes.Steps.{from-there, step-to, none-to}
use Rattle.cap_owners_walks_laws.proofs.Passes.Plain.{Starting, Wide, Steps, compare-step, cell-step}
use Rattle.cap_owners_walks_laws.proofs.Passes.Facts.{fact-step}
use Rattle.cap_owners_walks_laws.proofs.Passes.Sides.{choose-step}
use Rattle.cap_owners_walks_laws.proofs.Passes.Converts.{convert-step}

-- guards that are taken out of a piece, or none
abbrev pub GuardSteps : Checked → List ℕ → Type 0
GuardSteps p ks =
    (T : Table) (next : ℤ) (lim : Holding) (j : Job) (vs : List NameValue) (s : PlainState)
    (c : Stock) (top : Taking) (i way : ℕ) (cs : List Cert) (place : Place) (n k m : ℕ)
    (asked : Asked) (more : Items) (kids : PlainTrees) →
    Starting p ks T next lim j vs s c top (item (atom place n k m asked) more) →
    p.N (node (by_guard i way cs) kids) s
    (tasks_of (with_items j (item (atom place n k m asked) more))) →
    Wide p ks T next lim j vs s c top (item (atom place n k m asked) more)
    (tree (node (by_guard i way cs) kids) no_trees)
    ⊎ Steps p ks T next lim j vs s c top (item (atom place n k m asked) more)
    (tree (node (by_guard i way cs) kids) no_trees)

-- a region is created, where the law holds of smaller trees
abbrev pub CreateTakes : Checked → List ℕ → Type 0
CreateTakes p ks =
    (size : ℕ) → AlongLaw p ks size → (T : Table) (next : ℤ) (lim : Holding) (j : Job)
    (vs : List NameValue) (s : PlainState) (c : Stock) (top : Taking) (case : ℕ) (place : Place)
    (n k : ℕ) (args : List Slot) (x : Slot) (more : Items) (kids : PlainTrees) →
    trees_size kids ≤ size →
    Starting p ks T next lim j vs s c top (item (fact place n k args x) more) →
    p.N (node (by_create case) kids) s
    (tasks_of (with_items j (item (fact place n k args x) more))) →
    IsWide p ks next (with_items j (item (fact place n k args x) more))
    (tree (node (by_create case) kids) no_trees) vs s top
    ⊎ TakesTo p ks T next (with_items j (item (fact place n k args x) more))
    (tree (node (by_create case) kids) no_trees) vs (valuation vs) s c top (suc size)

module _ (p : Checked) (ks : List ℕ) (guards : GuardSteps p ks) (creates : CreateTakes p ks) where
  module _ (size : ℕ) (law : AlongLaw p ks size) (T : Table) (next : ℤ) (lim : Holding) (j : Job)
      (vs : List NameValue) (s : PlainState) (c : Stock) (top : Taking) where
    abbrev Comes : Items → PlainTrees → Type 0
    Comes items trees =
        IsWide p ks next (with_items j items) trees vs s top
        ⊎ TakesTo p ks T next (with_items j items) trees vs (valuation vs) s c top (suc size)

    -- a step, and then the others
    finish :
        (items : Items) (trees : PlainTrees) → Starting p ks T next lim j vs s c top items →
        trees_size trees ≤ suc size →
        (Wide p ks T next lim j vs s c top items trees
        ⊎ Steps p ks T next lim j vs s c top items trees) → Comes items trees
    finish items trees f le (inl wide) = inl wide
    finish items trees f le (inr x) =
        let l = x.no_larger in
        step-to p ks T next (with_items j items) trees vs (valuation vs) s c top x size (suc size)
        (omega arith)
        (law T next lim (with_items j x.rest) x.children x.values x.head.w x.head.after x.head.left
        x.now (omega (arith, l, le)) x.goes
        (from-there p ks T next (with_items j items) trees vs (valuation vs) s c top x lim f))

    takes-node :
        (i : PlainItem) (more : Items) (d : PlainTree) →
        Starting p ks T next lim j vs s c top (item i more) → tree_size d ≤ suc size →
        p.N d s (tasks_of (with_items j (item i more))) →
        Comes (item i more) (tree d no_trees)
    takes-node i more (node (by_absurd x) kids) f le h =
        absurd ((p.step h).0.0 (valuation vs)
        (solves ks (valuation vs) s f.start.ready.grounded.meets))
    takes-node (compare x) more (node (by_fact cs) kids) f le h =
        finish (item (compare x) more) (tree (node (by_fact cs) kids) no_trees) f
        (omega (arith, le)) (compare-step p ks T next lim j vs s c top cs x more kids f h)
    takes-node (choose x y z) more (node by_cases kids) f le h =
        finish (item (choose x y z) more) (tree (node by_cases kids) no_trees) f
        (omega (arith, le)) (choose-step p ks T next lim j vs s c top x y z more kids f h)
    takes-node (cell place x y) more (node (by_cell k cs) kids) f le h =
        finish (item (cell place x y) more) (tree (node (by_cell k cs) kids) no_trees) f
        (omega (arith, le))
        (cell-step p ks T next lim j vs s c top k cs place x y more kids f h)
    takes-node (fact place n k args x) more (node (by_region i cs) kids) f le h =
        finish (item (fact place n k args x) more) (tree (node (by_region i cs) kids) no_trees) f
        (omega (arith, le))
        (fact-step p ks T next lim j vs s c top i cs place n k args x more kids f h)
    takes-node (fact place n k args x) more (node (by_create case) kids) f le h =
        creates size law T next lim j vs s c top case place n k args x more kids
        (omega (arith, le)) f h
    takes-node (atom place n k m asked) more (node (by_guard i way cs) kids) f le h =
        finish (item (atom place n k m asked) more) (tree (node (by_guard i way cs) kids) no_trees)
        f (omega (arith, le))
        (guards T next lim j vs s c top i way cs place n k m asked more kids f h)
    takes-node (atom place n k m asked) more (node (by_convert o side cs) kids) f le h =
        finish (item (atom place n k m asked) more)
        (tree (node (by_convert o side cs) kids) no_trees) f (omega (arith, le))
        (convert-step p ks T next lim j vs s c top o side cs place n k m asked more kids f h)
    takes-node i more d f le h = absurd (p.step h).1

  -- all items, where the law holds of smaller trees
  takes-items :
      (size : ℕ) → ((less : ℕ) → size ≡ suc less → AlongLaw p ks less) → (T : Table) (next : ℤ)
      (lim : Holding) (j : Job) (trees : PlainTrees) (vs : List NameValue) (v : Valuation)
      (s : PlainState) (c : Stock) (top : Taking) → trees_size trees ≤ size → (is : Items) →
      Open p.N trees s (tasks_of (with_items j is)) →
      TakesFrom p ks T next lim (with_items j is) vs v s c top.part →
      IsWide p ks next (with_items j is) trees vs s top
      ⊎ TakesTo p ks T next (with_items j is) trees vs v s c top size
  takes-items size law T next lim j trees vs v s c top le none h f =
      inr (none-to p ks T next lim j trees vs v s c top size le h f)
  takes-items size law T next lim j trees vs v s c top le (item i more) h f =
      let d = lone-child p.N trees s (to_take (item i more) j.env j.most j.statement ∷ j.tasks) h in
      subst (λ ts. IsWide p ks next (with_items j (item i more)) ts vs s top
      ⊎ TakesTo p ks T next (with_items j (item i more)) ts vs v s c top size) (sym d.2)
      (by size law d.0 (subst (λ ts. trees_size ts ≤ size) d.2 le) d.1 v f.valued f)
    where
      by :
          (size : ℕ) → ((less : ℕ) → size ≡ suc less → AlongLaw p ks less) → (d : PlainTree) →
          trees_size (tree d no_trees) ≤ size → p.N d s (tasks_of (with_items j (item i more))) →
          (v : Valuation) → v ≡ valuation vs →
          TakesFrom p ks T next lim (with_items j (item i more)) vs v s c top.part →
          IsWide p ks next (with_items j (item i more)) (tree d no_trees) vs s top
          ⊎ TakesTo p ks T next (with_items j (item i more)) (tree d no_trees) vs v s c top size
      by zero law (node x below) le k v e f = absurd (omega (arith, le))
      by (suc less) law d le k v e f =
          subst (λ u. TakesFrom p ks T next lim (with_items j (item i more)) vs u s c top.part →
          IsWide p ks next (with_items j (item i more)) (tree d no_trees) vs s top
          ⊎ TakesTo p ks T next (with_items j (item i more)) (tree d no_trees) vs u s c top
          (suc less)) (sym e)
          (λ g. takes-node less (law less refl) T next lim j vs s c top i more d g
          (omega (arith, le)) k) f

  pub takes : (size : ℕ) → AlongLaw p ks size
  takes zero T next lim j trees vs v s c top le h f =
      takes-items zero (λ less e. absurd (no-zero less e)) T next lim j trees vs v s c top le
      j.items h f
    where
      no-zero : (n : ℕ) → 0 ≡ suc n → ⊥
      no-zero n e = omega (arith, e)
  takes (suc size) T next lim j trees vs v s c top le h f =
      takes-items (suc size) (λ less e. subst (AlongLaw p ks) (same size less e) (takes size)) T
      next lim j trees vs v s c top le j.items h f
    where
      same : (m n : ℕ) → suc m ≡ suc n → m ≡ n
      same m n e = omega (arith, e)
