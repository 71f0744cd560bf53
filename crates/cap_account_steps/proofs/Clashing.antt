-- Two cells of a state aren't at one address.
use Rattle.std.proofs.Common.{◌≡◌, ℕ, ◌<◌, ◌≤◌, ℤ, List, [], arith, sym, ap, ◌∙◌, Some}
use Rattle.std.specs.Prelude.{slice_get, nat_lt}
use Rattle.std.specs.FinMap.{get}
use Rattle.std.proofs.lemmas.Bool.Decides.{nat_tests}
use Rattle.cap_lin.specs.Values.{Valuation, value}
use Rattle.cap_lin.specs.declared.row.Sort.TheVariants.{Int}
use Rattle.cap_lin.specs.declared.row.Op.TheVariants.{Eq as Equal}
use Rattle.cap_prog.specs.Program.{PlainAct}
use Rattle.cap_goal_spec.specs.States.{PlainState}
use Rattle.cap_goal_spec.specs.Choices.{PlainTrees}
use Rattle.cap_rules.specs.Attempts.{unit}
use Rattle.cap_rules.specs.Closing.{address_of}
use Rattle.cap_rules.specs.Rules.{at_clash}
use Rattle.cap_machine.specs.Machine.{Heap}
use Rattle.cap_account_states.specs.Nodes.{Comes, Children}
use Rattle.cap_account_resources.specs.Parts.{one_cell, cells_of}
use Rattle.cap_account_resources.proofs.Lists.{some-same, all-at}
use Rattle.cap_account_resources.proofs.Heaps.{one-itself, count-at-most, there-in}
use Rattle.cap_account_states.proofs.Attempts.{after-found, after-need, after-proved}
use Rattle.cap_account_states.proofs.Checked.{Checked}
use Rattle.cap_account_states.proofs.Meets.{Usable, CellOver, Meets, need}
use Rattle.cap_account_steps.proofs.Cells.{Cell, cell_here, need-one, need-two, equal-here}
use Rattle.cap_account_steps.proofs.Worlds.{regions_of}
use Rattle.cap_account_steps.proofs.HeapLaws.{ClashLaw}
use Rattle.cap_account_steps.proofs.OpenTables.{opened-there}

-- a heap counts no address twice
one-content :
    (heap : Heap) (v : Valuation) (cs : List Cell) (i j : ℕ) (c d : Cell) →
    ((a z : ℤ) → need v cs a z ≤ cells_of heap a z) → i < j → slice_get cs i ≡ Some c →
    slice_get cs j ≡ Some d → value v.whole c.0 ≡ value v.whole d.0 → ⊥
one-content heap v cs i j c d le l ci dj e =
    let a = value v.whole d.0 in
    let z = value v.whole d.1 in
    let in-heap = λ (k : ℕ) (x : Cell) (q : slice_get cs k ≡ Some x).
    there-in heap (value v.whole x.0) (value v.whole x.1)
    (λ b y. let one = need-one v cs k x b y q in let m = le b y in omega (arith, one, m)) in
    let same = some-same (value v.whole c.1) z
    (sym (in-heap i c ci) ∙ ap (get heap) e ∙ in-heap j d dj) in
    let two = need-two v cs i j c d a z l ci dj in
    let all = le a z in
    let second = one-itself a z in
    let first : cell_here v c a z ≡ 1 =
    ap (λ b. one_cell b (value v.whole c.1) a z) e ∙ ap (λ y. one_cell a y a z) same ∙ second in
    let most = count-at-most (get heap a) z in
    omega (arith, two, all, first, second, most)

module _ (p : Checked) where
  -- the rule that says that two are
  pub never-clashes :
      (heap : Heap) (v : Valuation) (s : PlainState) (i j : ℕ) (a : PlainAct) (ks : PlainTrees) →
      ((b z : ℤ) → need v s.cells b z ≤ cells_of heap b z) → Meets [] v s →
      Comes (at_clash s i j a) (Children p.N ks) → ⊥
  never-clashes heap v s i j a ks le m go =
      let N = Children p.N ks in
      let R = CellOver (Usable [] s.sorts) in
      let addressed = after-found (address_of a) _ N go in
      let less = after-need (nat_lt i j) _ N addressed.2 in
      let c = after-found (slice_get s.cells i) _ N less.1 in
      let d = after-found (slice_get s.cells j) _ N c.2 in
      let equal = after-proved s.rows c.0.0 Equal d.0.0 Int (λ u. unit []) N d.2 in
      let test = less.0 in
      one-content heap v s.cells i j c.0 d.0 le (grind (arith, nat_tests, test)) c.1 d.1
      (equal-here v s c.0.0 d.0.0 m equal.0 (all-at R s.cells i c.0 m.cells_over c.1).0
      (all-at R s.cells j d.0 m.cells_over d.1).0)

  pub clash-law : ClashLaw p
  clash-law V share part heap l a b world v s h o i j cs ks valid =
      let ns = regions_of v s.opened in
      never-clashes heap v s i j a ks
      (λ c z.
      let have = o.backed.cells c z in
      let in-heap = world.cells ns o.differ (opened-there v V s o.opened) c z in
      omega (arith, have, in-heap)) o.grounded.meets (p.step valid)
