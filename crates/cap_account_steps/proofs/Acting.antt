-- A heap statement acts where up to two regions are open, and they are closed again.
use Rattle.std.proofs.Common.{◌≡◌, ℕ, ◌+◌, ◌≤◌, ℤ, List, [], ◌∷◌, ◌++◌, length, arith, sym, ap, ◌∙◌, subst, Some}
use Rattle.std.specs.Prelude.{slice_get, is_some, map, flat_map, Option, Bool}
use Rattle.std.specs.List.{AllByRecursion}
use Rattle.cap_lin.specs.Linear.{Linear}
use Rattle.cap_lin.specs.Values.{Valuation, value}
use Rattle.cap_lin.specs.declared.row.Sort.{Sort}
use Rattle.cap_lin.specs.declared.row.Sort.TheVariants.{Int}
use Rattle.cap_farkas.specs.declared.cert.Cert.{Cert}
use Rattle.cap_prog.specs.Program.{Label, PlainAct, Block, first, PlainFunction}
use Rattle.cap_goal_spec.specs.States.{PlainFact, PlainState, Home, PlainTask, PlainGoal, to_rest, goals_of}
use Rattle.cap_goal_spec.specs.Choices.{node, by_act, PlainTrees}
use Rattle.cap_rules.specs.Closing.{address_of}
use Rattle.cap_machine.specs.Machine.{Heap, Frame, value_in, with_rest}
use Rattle.cap_machine_accounts.specs.Assertions.{NameValue}
use Rattle.cap_account_states.specs.Nodes.{NodePredicate, Children, Open}
use Rattle.cap_account_resources.specs.Parts.{Table}
use Rattle.cap_account_resources.proofs.Lists.{map-length}
use Rattle.cap_account_resources.proofs.Heaps.{there-in}
use Rattle.cap_account_resources.proofs.Interference.{Relies}
use Rattle.cap_account_resources.proofs.Stocks.{Stock, no_stock, both, all_of, inside-first}
use Rattle.cap_account_resources.proofs.Tables.{TableFits, NoneOpen, FitsRoom, AreListed, fits-less}
use Rattle.cap_account_states.proofs.Terms.{Over}
use Rattle.cap_account_states.proofs.Checked.{Checked, children-split}
use Rattle.cap_account_states.proofs.Meets.{Free, Usable}
use Rattle.cap_account_steps.proofs.Points.{FrameOk}
use Rattle.cap_account_steps.proofs.Stores.{Store, running}
use Rattle.cap_account_assertions.proofs.Named.{rest_values}
use Rattle.cap_account_steps.proofs.Firming.{firm_values}
use Rattle.cap_account_steps.proofs.Marking.{mark_values}
use Rattle.cap_account_steps.proofs.Frames.{StandsAt}
use Rattle.cap_account_steps.proofs.Worlds.{World, Opening, HeapStep, regions_of, opened_table, Closing, SettlesBy, Closed, after_act, recelled}
use Rattle.cap_account_steps.proofs.OpenTables.{opened-there, open-fits, open-listed}
use Rattle.cap_account_steps.proofs.Changing.{holds-cell}
use Rattle.cap_account_steps.proofs.AtCell.{then_close, at-cell}
use Rattle.cap_account_steps.proofs.Acts.{statement-done}

-- ---- after the statement

-- the values once all is closed and the facts rest, by a table to which others lead from T
abbrev pub last_values :
    {p : Checked} {V W : Table} {part : Stock} {ks : List ℕ} {v : Valuation} {s : PlainState}
    {held : Stock} {ts : List PlainTask} → Table → Closed p V W part ks v s held ts → Table → Valuation
last_values T c U =
    rest_values U c.after.facts c.children (length c.after.sorts) (firm_values T c.w c.after.facts)

-- all open regions are closed, and the frame stands with what is kept
pub record Finished (p : Checked) (V W : Table) (part held : Stock) (ns : List ℤ) (ks : List ℕ)
    (v : Valuation) (s : PlainState) (n : ℕ) (h : Home) (fixed : List NameValue)
    (f : Frame) : Type 0 where
  pub closed : Closed p V W part ks v s held (to_rest 0 n ∷ running f.rest h)
  pub kept : Stock
  pub by : SettlesBy p.program V W part held ns kept
  pub table : by.U ≡ closed.by.U
  pub owners : by.closed ≡ closed.by.closed
  pub made : by.made ≡ closed.by.made
  pub stands : StandsAt p kept by.U fixed f (last_values by.U closed)

abbrev pub FinishingLaw : Checked → Type 0
FinishingLaw p =
    (V : Table) (part held : Stock) (ns : List ℤ) (ks : List ℕ) (v : Valuation) (s : PlainState)
    (n : ℕ) (h : Home) (fn : PlainFunction) (fixed : List NameValue) (f : Frame)
    (trees : PlainTrees) (bound : List ℤ) → regions_of v s.opened ≡ ns →
    FrameOk p.program fn fixed f → Open p.N trees s (then_close n (length s.opened) f.rest h) →
    TableFits p.program (opened_table ns V) → AreListed bound (opened_table ns V) → NoneOpen V →
    FitsRoom p.program V part → Closing p.program V (opened_table ns V) part ks v s held →
    AllByRecursion (Over (Usable ks s.sorts Int)) s.store →
    ((i : ℕ) (o : Sort) → slice_get fn.fixed i ≡ Some o → Free ks (h.fixed + i)) →
    Store v s h fn fixed f →
    Finished p V (opened_table ns V) part held ns ks v s n h fixed f

-- ---- the statement

-- the trees of one state, of several
state-trees :
    (N : NodePredicate) (f : PlainState → List PlainGoal) (ks : PlainTrees)
    (before : List PlainState) (t : PlainState) (behind : List PlainState) →
    Children N ks (flat_map f (before ++ t ∷ behind)) → (us : PlainTrees) × Children N us (f t)
state-trees N f ks [] t behind h =
    let k = children-split N ks (f t) (flat_map f behind) h in
    (k.left, k.first)
state-trees N f ks (u ∷ before) t behind h =
    let k = children-split N ks (f u) (flat_map f (before ++ t ∷ behind)) h in
    state-trees N f k.right before t behind k.second

-- a heap statement that acted: its state is that of the marks, and once all is closed and rests, the
-- frame's states hold at these values
pub record Acted (p : Checked) (V : Table) (share : ℤ → Stock) (part : Stock) (heap : Heap)
    (fixed : List NameValue) (f : Frame) (l : Label) (a : PlainAct) (b : Block) (x : Linear)
    (v : Valuation) (s : PlainState) (h : Home) : Type 0 where
  pub step : HeapStep p V share part heap fixed f a b x
  pub ms : List Bool
  pub marked : Valuation
  pub marks : marked ≡ mark_values v (length s.sorts) ms
  pub ks : List ℕ
  pub t : PlainState
  pub held : Stock
  pub closed :
      Closed p V (opened_table (regions_of v s.opened) V) part ks marked t held
      (to_rest 0 l.number ∷ running (after_act a f b step.content).1.rest h)
  pub table : step.by.U ≡ closed.by.U
  pub owners : step.by.closed ≡ closed.by.closed
  pub made : step.by.made ≡ closed.by.made
  pub named :
      (U : Table) (r : Relies p.program step.kept.guards step.by.U U) →
      (step.stands.all U r).at_node.v ≡ last_values step.by.U closed U

-- a heap statement acts where up to two regions are open
abbrev pub ActsLaw : Checked → Type 0
ActsLaw p =
    (V : Table) (share : ℤ → Stock) (part : Stock) (heap : Heap) (fn : PlainFunction)
    (fixed : List NameValue) (f : Frame) (l : Label) (a : PlainAct) (b : Block) (x : Linear) →
    address_of a ≡ Some x → World p.program V share part heap →
    ((z : ℤ) → FrameOk p.program fn fixed (after_act a f b z).1) → (v : Valuation)
    (s : PlainState) (h : Home) → Opening p.program V share part v s → length s.opened ≤ 2 →
    Store v s h fn fixed (with_rest f (first l a b)) → length fixed ≡ length fn.fixed → (j : ℕ)
    (cs : List Cert) (ms : List (Option Cert)) (ks : PlainTrees) →
    p.N (node (by_act j cs ms) ks) s (running (first l a b) h) →
    Acted p V share part heap fixed f l a b x v s h

pub acts-law : (p : Checked) → FinishingLaw p → ActsLaw p
acts-law p finish V share part heap fn fixed f l a b x is-address world ok v s h o two st size j cs
    ms ks valid =
    let ns = regions_of v s.opened in
    let held = both p.program part (all_of p.program ns share) in
    let there = opened-there v V s o.opened in
    let at = value_in f.store x in
    let k = at-cell p (Children p.N ks) V share part fn fixed f l a b h v s x is-address o
    (world.room ns o.differ there) st size j (map is_some ms) (p.step valid) in
    let z = value k.v.whole k.c.1 in
    let had = holds-cell p.program V (opened_table ns V) part k.ks k.v k.s held h fn fixed
    (with_rest f b) k.ready k.j k.c k.is at k.address in
    let done = statement-done p (Children p.N ks) V part held ns fn fixed f h l.number b x v s
    (map is_some ms) a is-address k in
    let r = after_act a f b z in
    let count = ap length done.opened in
    let own = state-trees p.N
    (λ u. goals_of u (then_close l.number (length k.s.opened) r.1.rest h)) ks done.before done.t
    done.behind done.goals in
    let room = fits-less p.program V part (both p.program part no_stock)
    (inside-first p.program part no_stock) (world.room [] tt tt) in
    let finished = finish V part (recelled held at z r.0) ns k.ks k.v done.t l.number h fn fixed r.1
    own.0 world.bound (ap (regions_of k.v) done.opened ∙ k.regions) (ok z)
    (subst (λ m. Open p.N own.0 done.t (then_close l.number m r.1.rest h)) (sym count) own.1)
    (open-fits p.program ns V world.fits) (open-listed p.program ns V world.bound world.listed)
    world.full room done.ready.closing done.ready.over k.names done.ready.store in
    let step : HeapStep p V share part heap fixed f a b x = record {
      content = z;
      is_cell = there-in heap at z (λ c y.
          let one = had c y in
          let le = world.cells ns o.differ there c y in
          omega (arith, one, le));
      entered = ns;
      differ = o.differ;
      there = there;
      two = (let e = map-length (λ (g : PlainFact). value v.whole g.region) s.opened in
          omega (arith, e, two));
      had = had;
      kept = finished.kept;
      by = finished.by;
      stands = finished.stands.stands;
    } in
    record {
      step = step;
      ms = map is_some ms;
      marked = k.v;
      marks = k.named;
      ks = k.ks;
      t = done.t;
      held = recelled held at z r.0;
      closed = finished.closed;
      table = finished.table;
      owners = finished.owners;
      made = finished.made;
      named = finished.stands.named;
    }
