-- Items are taken one after the other, by the size of the trees.
use Rattle.std.proofs.Common.{◌≡◌, ℕ, zero, suc, ◌≤◌, ℤ, List, ◌∷◌, arith, refl, subst}
use Rattle.std.specs.Prelude.{slice_get}
use Rattle.std.specs.List.{AllByRecursion}
use Rattle.cap_lin.specs.Values.{Valuation}
use Rattle.cap_syntax.specs.declared.place.Place.{Place}
use Rattle.cap_prog.specs.declared.assertion.Slot.{Slot}
use Rattle.cap_prog.specs.declared.assertion.Asked.{Asked}
use Rattle.cap_prog.specs.declared.assertion.Asked.TheVariants.{One, Share, Src, Tok, At, From}
use Rattle.cap_prog.specs.Program.{PlainItem, compare, choose, fact, atom, cell, Items, none, item}
use Rattle.cap_prog.specs.WellFormed.{ItemFits, RegionFits}
use Rattle.cap_goal_spec.specs.States.{PlainState, to_take}
use Rattle.cap_goal_spec.specs.Choices.{PlainTree, node, PlainTrees, by_absurd, by_fact, by_cases, by_cell, by_region, by_guard, by_convert, by_create}
use Rattle.cap_rules.specs.Making.{env_at}
use Rattle.cap_rules.specs.Rules.{at_guard, at_convert, creates}
use Rattle.cap_account_resources.specs.Parts.{Table}
use Rattle.cap_account_resources.proofs.Interference.{Holding}
use Rattle.cap_account_resources.proofs.Stocks.{Stock}
use Rattle.cap_account_states.specs.Nodes.{Comes, Children, Open}
use Rattle.cap_account_states.proofs.Brought.{Bring, piece_brings}
use Rattle.cap_account_states.proofs.Guarding.{is_open}
use Rattle.cap_account_states.proofs.Meets.{solves}
use Rattle.cap_account_states.proofs.Checked.{Checked}
use Rattle.cap_account_states.proofs.Items.{AreFit, fits-more}
use Rattle.cap_account_assertions.proofs.TreeSizes.{tree_size, trees_size}
use Rattle.cap_account_assertions.proofs.TakeSteps.{Job, remaining, TakeStart, Took, TookLaw, took-none}
use Rattle.cap_account_assertions.proofs.TakeHeads.{ItemTaken, ItemsTurned, took-taken, took-turned}
use Rattle.cap_account_assertions.proofs.TakeComps.{compare-taken, choose-taken}
use Rattle.cap_account_assertions.proofs.TakeCells.{cell-taken}
use Rattle.cap_account_assertions.proofs.TakeFacts.{fact-taken}
use Rattle.cap_account_assertions.proofs.TakeAtoms.{none-taken, piece-taken}
use Rattle.cap_account_assertions.proofs.Creating.{one-tree, take-create}

-- what rule `convert` leads to
abbrev pub ConvertLaw : Checked → List ℕ → Type 0
ConvertLaw p ks =
    (T : Table) (next : ℤ) (lim : Holding) (j : Job) (v : Valuation) (s : PlainState) (c : Stock)
    (trees : PlainTrees) → TakeStart p.program ks T next lim j v s c → (m side : ℕ) (place : Place)
    (n k i : ℕ) (asked : Asked) (more : Items) → j.items ≡ item (atom place n k i asked) more →
    Comes (at_convert p.program s m side n k (atom place n k i asked) (remaining j more))
    (Children p.N trees) → ItemsTurned p.program ks T j v s c (Children p.N trees)

-- fewer trees are left than may be
took-within :
    (p : Checked) (ks : List ℕ) (T : Table) (next : ℤ) (j : Job) (v : Valuation) (s : PlainState)
    (c : Stock) (few many : ℕ) → few ≤ many → Took p ks T next j v s c few →
    Took p ks T next j v s c many
took-within p ks T next j v s c few many le t = record {
  w = t.w;
  after = t.after;
  follows = t.follows;
  brings = t.brings;
  brought = t.brought;
  children = t.children;
  goes = t.goes;
  no_larger = (let l = t.no_larger in omega (arith, l, le));
  U = t.U;
  new = t.new;
  later = t.later;
  made = t.made;
  none_made = t.none_made;
  created = t.created;
  are_created = t.are_created;
  keeps = t.keeps;
  ready = t.ready;
  left = t.left;
  backed = t.backed;
  given = t.given;
  budget = t.budget;
  draws = t.draws;
}

module _ (p : Checked) (regions : AllByRecursion (RegionFits p.program) p.program.regions)
    (ks : List ℕ) (convert : ConvertLaw p ks) where
  -- ---- one item

  module _ (size : ℕ) (law : TookLaw p ks size) (T : Table) (next : ℤ) (lim : Holding) (j : Job)
      (v : Valuation) (s : PlainState) (c : Stock)
      (st : TakeStart p.program ks T next lim j v s c) where
    -- what is asked of an atom: no tokens, or something out of a piece
    guard-taken-by :
        (trees : PlainTrees) (i way : ℕ) (place : Place) (n k m : ℕ) (asked : Asked)
        (more : Items) → ItemFits p.program j.scope (atom place n k m asked) →
        Comes (at_guard s i way n k m asked (remaining j more)) (Children p.N trees) →
        ItemTaken p.program ks T j v s c (Children p.N trees)
        (piece_brings (is_open asked (env_at s j.env)) (slice_get s.guards i))
        (atom place n k m asked) more
    guard-taken-by trees i (suc (suc zero)) place n k m (Tok x) more f h =
        none-taken p.program ks T j v s c st.ready st.backed (Children p.N trees) i place n k m x
        more f h
    guard-taken-by trees i (suc (suc zero)) place n k m One more f h =
        piece-taken p.program ks T j v s c st.ready st.backed (Children p.N trees) i 2
        place n k m One more st.low f h
    guard-taken-by trees i (suc (suc zero)) place n k m (Share x) more f h =
        piece-taken p.program ks T j v s c st.ready st.backed (Children p.N trees) i 2
        place n k m (Share x) more st.low f h
    guard-taken-by trees i (suc (suc zero)) place n k m (Src x) more f h =
        piece-taken p.program ks T j v s c st.ready st.backed (Children p.N trees) i 2
        place n k m (Src x) more st.low f h
    guard-taken-by trees i (suc (suc zero)) place n k m (At x) more f h =
        piece-taken p.program ks T j v s c st.ready st.backed (Children p.N trees) i 2
        place n k m (At x) more st.low f h
    guard-taken-by trees i (suc (suc zero)) place n k m (From x) more f h =
        piece-taken p.program ks T j v s c st.ready st.backed (Children p.N trees) i 2
        place n k m (From x) more st.low f h
    guard-taken-by trees i zero place n k m asked more f h =
        piece-taken p.program ks T j v s c st.ready st.backed (Children p.N trees) i 0
        place n k m asked more st.low f h
    guard-taken-by trees i (suc zero) place n k m asked more f h =
        piece-taken p.program ks T j v s c st.ready st.backed (Children p.N trees) i 1
        place n k m asked more st.low f h
    guard-taken-by trees i (suc (suc (suc way))) place n k m asked more f h =
        piece-taken p.program ks T j v s c st.ready st.backed (Children p.N trees) i
        (suc (suc (suc way))) place n k m asked more st.low f h

    module _ (i : PlainItem) (more : Items) (are : j.items ≡ item i more) (trees : PlainTrees)
        (small : trees_size trees ≤ size) where
      fits : AreFit p.program j.scope (item i more)
      fits = subst (AreFit p.program j.scope) are st.fits

      -- the item goes
      goes-then :
          {bs : List Bring} → ItemTaken p.program ks T j v s c (Children p.N trees) bs i more →
          Took p ks T next j v s c (suc size)
      goes-then {bs} r =
          took-taken p ks T next lim j v s c st size law trees small i more are
          (fits-more p.program j.scope i more fits) r

    -- a region is created, where one may be
    created :
        (place : Place) (n k : ℕ) (args : List Slot) (x : Slot) (more : Items) →
        j.items ≡ item (fact place n k args x) more → (trees : PlainTrees) →
        trees_size trees ≤ size → (case left : ℕ) → j.most ≡ left →
        Comes (creates p.program s case n k args x (fact place n k args x) (remaining j more) left)
        (Children p.N trees) → Took p ks T next j v s c (suc size)
    created place n k args x more are trees small case zero e h = absurd h.1
    created place n k args x more are trees small case (suc left) e h =
        let i = fact place n k args x in
        take-create p ks size T next lim j v s c i more are k case left e st regions law trees small
        n args x h (subst (AreFit p.program j.scope) are st.fits).0.1

    took-node :
        (i : PlainItem) (more : Items) → j.items ≡ item i more → (d : PlainTree) →
        tree_size d ≤ suc size →
        p.N d s (to_take (item i more) j.env j.most j.statement ∷ j.tasks) →
        Took p ks T next j v s c (suc size)
    took-node i more are (node (by_absurd x) trees) le h =
        absurd ((p.step h).0.0 v (solves ks v s st.ready.grounded.meets))
    took-node (compare x) more are (node (by_fact cs) trees) le h =
        goes-then (compare x) more are trees (omega (arith, le))
        (compare-taken p.program ks T j v s c st.ready st.backed (Children p.N trees) x more
        (subst (AreFit p.program j.scope) are st.fits).0 (p.step h))
    took-node (choose x y z) more are (node by_cases trees) le h =
        choose-taken p ks T next lim j v s c st size law x y z more are trees (omega (arith, le))
        (p.step h)
    took-node (cell place x y) more are (node (by_cell i cs) trees) le h =
        let f = (subst (AreFit p.program j.scope) are st.fits).0 in
        goes-then (cell place x y) more are trees (omega (arith, le))
        (cell-taken p.program ks T j v s c st.ready st.backed (Children p.N trees) i place x y more
        f.0 f.1 (p.step h))
    took-node (fact place n k args x) more are (node (by_region i cs) trees) le h =
        goes-then (fact place n k args x) more are trees (omega (arith, le))
        (fact-taken p.program ks T j v s c st.ready st.backed (Children p.N trees) i place n k args
        x more
        (subst (AreFit p.program j.scope) are st.fits).0 (p.step h))
    took-node (fact place n k args x) more are (node (by_create case) trees) le h =
        created place n k args x more are trees (omega (arith, le)) case j.most refl (p.step h)
    took-node (atom place n k m asked) more are (node (by_guard i way cs) trees) le h =
        goes-then (atom place n k m asked) more are trees (omega (arith, le))
        (guard-taken-by trees i way place n k m asked more
        (subst (AreFit p.program j.scope) are st.fits).0 (p.step h))
    took-node (atom place n k m asked) more are (node (by_convert o side cs) trees) le h =
        took-turned p ks T next lim j v s c st size law trees (omega (arith, le))
        (convert T next lim j v s c trees st o side place n k m asked more are (p.step h))
    took-node i more are d le h = absurd (p.step h).1

  -- ---- all items

  took-items :
      (size : ℕ) → ((less : ℕ) → size ≡ suc less → TookLaw p ks less) → (T : Table) (next : ℤ)
      (lim : Holding) (j : Job) (trees : PlainTrees) (v : Valuation) (s : PlainState) (c : Stock) →
      trees_size trees ≤ size → (is : Items) → j.items ≡ is →
      Open p.N trees s (to_take is j.env j.most j.statement ∷ j.tasks) →
      TakeStart p.program ks T next lim j v s c → Took p ks T next j v s c size
  took-items size law T next lim j trees v s c le none are h st =
      took-within p ks T next j v s c (trees_size trees) size le
      (took-none p ks T next j v s c trees are h st.ready st.backed)
  took-items size law T next lim j trees v s c le (item i more) are h st =
      let d = one-tree p.N trees s (to_take (item i more) j.env j.most j.statement ∷ j.tasks) h in
      let l = d.2 in
      let m = some-tree d.0 in
      by size law (omega (arith, l, le, m)) d.0 (omega (arith, l, le)) d.1
    where
      some-tree : (d : PlainTree) → 1 ≤ tree_size d
      some-tree (node x below) = omega arith

      by :
          (size : ℕ) → ((less : ℕ) → size ≡ suc less → TookLaw p ks less) →
          1 ≤ size → (d : PlainTree) → tree_size d ≤ size →
          p.N d s (to_take (item i more) j.env j.most j.statement ∷ j.tasks) →
          Took p ks T next j v s c size
      by zero law some d le k = absurd (omega (arith, some))
      by (suc less) law some d le k =
          took-node less (law less refl) T next lim j v s c st i more are d le k

  pub took : (size : ℕ) → TookLaw p ks size
  took zero T next lim j trees v s c le h st =
      took-items zero (λ less e. absurd (no-zero less e)) T next lim j trees v s c le j.items refl h
      st
    where
      no-zero : (n : ℕ) → 0 ≡ suc n → ⊥
      no-zero n e = omega (arith, e)
  took (suc size) T next lim j trees v s c le h st =
      took-items (suc size) (λ less e. subst (TookLaw p ks) (same size less e) (took size)) T next
      lim j trees v s c le j.items refl h st
    where
      same : (m n : ℕ) → suc m ≡ suc n → m ≡ n
      same m n e = omega (arith, e)
