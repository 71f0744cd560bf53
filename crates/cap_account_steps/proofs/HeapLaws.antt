-- The law of heap statements: up to two regions are opened, and then the statement acts.
use Rattle.std.proofs.Common.{◌≡◌, ℕ, zero, suc, ◌+◌, ℤ, List, [], length, arith, refl, sym, ap, subst, Option, Some}
use Rattle.std.specs.List.{AllByRecursion}
use Rattle.cap_lin.specs.Linear.{Linear}
use Rattle.cap_lin.specs.Values.{Valuation}
use Rattle.cap_lin.specs.declared.row.Sort.TheVariants.{Int}
use Rattle.cap_farkas.specs.declared.cert.Cert.{Cert}
use Rattle.cap_prog.specs.Program.{Label, PlainAct, set, read, write, cas, faa, dispose, alloc, call, fork, branch, loop, check, give_back, Block, first, PlainFunction}
use Rattle.cap_prog.specs.WellFormed.{IsWellFormed}
use Rattle.cap_goal_spec.specs.States.{PlainState, Home}
use Rattle.cap_goal_spec.specs.Choices.{PlainTree, node, by_absurd, by_clash, by_enter, by_act, PlainTrees}
use Rattle.cap_rules.specs.Closing.{address_of}
use Rattle.cap_machine.specs.Machine.{Heap, Frame, with_rest}
use Rattle.cap_machine_accounts.specs.Assertions.{NameValue}
use Rattle.cap_account_resources.specs.Parts.{Table}
use Rattle.cap_account_resources.proofs.Lists.{none-some}
use Rattle.cap_account_resources.proofs.Stocks.{Stock, both, all_of, none-right}
use Rattle.cap_account_states.proofs.Checked.{Checked}
use Rattle.cap_account_states.proofs.Meets.{Usable, solves}
use Rattle.cap_account_states.proofs.Roots.{values-length}
use Rattle.cap_account_states.proofs.Backed.{Backed}
use Rattle.cap_account_assertions.proofs.Laws.{GivenAlongLaw}
use Rattle.cap_account_steps.proofs.Points.{FrameOk}
use Rattle.cap_account_steps.proofs.Stores.{running}
use Rattle.cap_account_steps.proofs.Worlds.{Differ, World, Exact, AllOver, regions_of, Earlier, IfAny, Opening, after_act, HeapStep}
use Rattle.cap_account_steps.proofs.Statements.{Before, HeapLaw}
use Rattle.cap_account_steps.proofs.Entering.{Opened, Enters, entered}
use Rattle.cap_account_steps.proofs.Acting.{Acted, ActsLaw}

module _ (p : Checked) where
  -- two cells of a state aren't at one address
  abbrev pub ClashLaw : Type 0
  ClashLaw =
      (V : Table) (share : ℤ → Stock) (part : Stock) (heap : Heap) (l : Label) (a : PlainAct)
      (b : Block) → World p.program V share part heap → (v : Valuation) (s : PlainState)
      (h : Home) → Opening p.program V share part v s → (i j : ℕ) (cs : List Cert)
      (ks : PlainTrees) → p.N (node (by_clash i j cs) ks) s (running (first l a b) h) → ⊥

-- ---- the law

module _ (p : Checked) (program : IsWellFormed p.program) (give : GivenAlongLaw p) (acts : ActsLaw p)
    (clash : ClashLaw p) (V : Table) (share : ℤ → Stock) (part : Stock) (heap : Heap)
    (fn : PlainFunction) (fixed : List NameValue) (f : Frame) (l : Label) (b : Block)
    (world : World p.program V share part heap) (size : length fixed ≡ length fn.fixed)
    (h : Home) where
  abbrev Here : PlainAct → PlainTree → ℕ → Type 0
  Here a d n =
      Opened p program give V share part heap world fn fixed size
      (with_rest f (first l a b)) h d (running (first l a b) h) n

  abbrev Ready : PlainAct → Type 0
  Ready a = (z : ℤ) → FrameOk p.program fn fixed (after_act a f b z).1

  -- some regions are opened, each at values by name, and then the statement acts: from values, a state
  -- and its tree on
  pub data ActsBy (a : PlainAct) (x : Linear) (step : HeapStep p V share part heap fixed f a b x) :
      Valuation → PlainState → PlainTree → Type 0 where
    acts_now :
        (v : Valuation) (s : PlainState) (j : ℕ) (cs : List Cert) (ms : List (Option Cert))
        (ks : PlainTrees) (r : Acted p V share part heap fixed f l a b x v s h) →
        r.step ≡ step → ActsBy a x step v s (node (by_act j cs ms) ks)
    opens_first :
        (v : Valuation) (s : PlainState) (i : ℕ) (cs : List Cert) (ks : PlainTrees)
        (w : Valuation) (t : PlainState) (d : PlainTree) →
        Enters p program give V share part heap world fn fixed size (with_rest f (first l a b)) h v
        s i ks w t d →
        ActsBy a x step w t d → ActsBy a x step v s (node (by_enter i cs) ks)

  -- so many regions may still be opened
  acts-at :
      (fuel n : ℕ) → n + fuel ≡ 2 → (a : PlainAct) (x : Linear) → address_of a ≡ Some x →
      Ready a → (d : PlainTree) → (o : Here a d n) →
      (step : HeapStep p V share part heap fixed f a b x) × ActsBy a x step o.v o.s d
  acts-at fuel n e a x is ok (node (by_absurd c) ks) o =
      absurd ((p.step o.valid).0.0 o.v (solves [] o.v o.s o.opening.grounded.meets))
  acts-at fuel n e a x is ok (node (by_clash i j cs) ks) o =
      absurd (clash V share part heap l a b world o.v o.s h o.opening i j cs ks o.valid)
  acts-at fuel n e a x is ok (node (by_act j cs ms) ks) o =
      let few = o.are in
      let r = acts V share part heap fn fixed f l a b x is world ok o.v o.s h o.opening
      (omega (arith, few, e)) o.store size j cs ms ks o.valid in
      (r.step, acts_now o.v o.s j cs ms ks r refl)
  acts-at zero n e a x is ok (node (by_enter i cs) ks) o =
      let r = entered p program give V share part heap world fn fixed size
      (with_rest f (first l a b)) h o.v o.s o.opening o.store i l a b ks (p.step o.valid) in
      let low = r.0 in
      let few = o.are in
      absurd (omega (arith, low, few, e))
  acts-at (suc fuel) n e a x is ok (node (by_enter i cs) ks) o =
      let r = entered p program give V share part heap world fn fixed size
      (with_rest f (first l a b)) h o.v o.s o.opening o.store i l a b ks (p.step o.valid) in
      let few = o.are in
      let q = acts-at fuel (suc (length o.s.opened)) (omega (arith, few, e)) a x is ok r.1 r.2 in
      (q.0, opens_first o.v o.s i cs ks r.2.v r.2.s r.1 r.3 q.1)
  acts-at fuel n e (read y t) x is ok d o = absurd (p.step o.valid).1
  acts-at fuel n e (write t u) x is ok d o = absurd (p.step o.valid).1
  acts-at fuel n e (cas y t u w) x is ok d o = absurd (p.step o.valid).1
  acts-at fuel n e (faa y t u) x is ok d o = absurd (p.step o.valid).1
  acts-at fuel n e (dispose t) x is ok d o = absurd (p.step o.valid).1
  acts-at fuel n e (set y t) x is ok d o = absurd (none-some is)
  acts-at fuel n e (alloc y m) x is ok d o = absurd (none-some is)
  acts-at fuel n e (call y m us) x is ok d o = absurd (none-some is)
  acts-at fuel n e (fork m us) x is ok d o = absurd (none-some is)
  acts-at fuel n e (branch c y z) x is ok d o = absurd (none-some is)
  acts-at fuel n e (loop c i y) x is ok d o = absurd (none-some is)
  acts-at fuel n e (check c) x is ok d o = absurd (none-some is)
  acts-at fuel n e (give_back t) x is ok d o = absurd (none-some is)

pub heap-named :
    (p : Checked) (program : IsWellFormed p.program) (give : GivenAlongLaw p) (acts : ActsLaw p)
    (clash : ClashLaw p) (V : Table) (share : ℤ → Stock) (part : Stock) (heap : Heap)
    (fn : PlainFunction) (fixed : List NameValue) (f : Frame) (l : Label) (a : PlainAct) (b : Block)
    (x : Linear) → address_of a ≡ Some x → (world : World p.program V share part heap) →
    ((z : ℤ) → FrameOk p.program fn fixed (after_act a f b z).1) →
    (k : Before p part V fn fixed f l a b) →
    (step : HeapStep p V share part heap fixed f a b x)
    × ActsBy p program give acts clash V share part heap fn fixed f l b world
    (values-length fn.fixed fixed k.ok.values) k.sits.at_node.home a x step k.sits.at_node.v
    k.sits.at_node.state k.sits.tree
heap-named p program give acts clash V share part heap fn fixed f l a b x is world ok k =
    let n = k.sits.at_node in
    let s = n.state in
    acts-at p program give acts clash V share part heap fn fixed f l b world
    (values-length fn.fixed fixed k.ok.values) n.home 2 0 refl a x is ok k.sits.tree (record {
      s = s;
      v = n.v;
      valid = n.valid;
      opening = record {
        grounded = n.grounded;
        facts = n.facts;
        firm = n.firm;
        opened = subst (λ os. AllByRecursion
            (λ g. AllOver (Usable [] s.sorts Int) g × Exact n.v V g) os) (sym n.none_open) tt;
        differ = subst (λ os. Differ (regions_of n.v os)) (sym n.none_open) tt;
        backed = subst (λ os. Backed p.program n.v s
            (both p.program part (all_of p.program (regions_of n.v os) share))) (sym n.none_open)
            (subst (Backed p.program n.v s) (sym (none-right p.program part))
            (record { cells = n.backed.cells; guards = n.backed.guards }));
        earlier = subst (λ os. IfAny os (Earlier p.program [] n.v s part)) (sym n.none_open) tt;
      };
      store = record {
        home = n.store.home;
        store = n.store.store;
        fixed_are = n.store.fixed_are;
        fixed_known = n.store.fixed_known;
      };
      are = ap length n.none_open;
    })

pub heap-law :
    (p : Checked) → IsWellFormed p.program → GivenAlongLaw p → ActsLaw p → ClashLaw p → HeapLaw p
heap-law p program give acts clash V share part heap fn fixed f l a b x is world ok k =
    (heap-named p program give acts clash V share part heap fn fixed f l a b x is world ok k).0
