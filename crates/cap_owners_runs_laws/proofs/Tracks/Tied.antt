-- The invariant of a run with its track: what soundness keeps of each frame, tied to where the frame's
-- walk stops and to the values there.
use Rattle.std.proofs.Common.{◌≡◌, ℕ, ◌+◌, ◌≤◌, ℤ, pos, false, List, [], ◌∷◌, ◌++◌, map, length, Option, Some}
use Rattle.std.specs.Prelude.{slice_get, slice_set}
use Rattle.std.specs.List.{AllByRecursion, AllZip}
use Rattle.cap_prog.specs.Program.{PlainFunction, PlainProgram}
use Rattle.cap_prog.specs.Scopes.{ensures_scope, region_scope, region_sorts}
use Rattle.cap_goal_spec.specs.States.{PlainState, Home, goal}
use Rattle.cap_goal_spec.specs.Choices.{PlainTree}
use Rattle.cap_goal_spec.specs.Roots.{function_unit}
use Rattle.cap_machine.specs.Machine.{Heap, Frame, Thread, Configuration, receives}
use Rattle.cap_machine_accounts.specs.Assertions.{NameValue, a_number}
use Rattle.cap_machine_accounts.specs.Accounts.{table}
use Rattle.cap_account_resources.specs.Parts.{cells_of, known_as, Table}
use Rattle.cap_account_resources.proofs.Interference.{Relies}
use Rattle.cap_account_resources.proofs.Stocks.{Stock, both}
use Rattle.cap_account_states.proofs.Alike.{Alike}
use Rattle.cap_account_states.proofs.Checked.{Checked}
use Rattle.cap_account_states.proofs.Meets.{Old}
use Rattle.cap_account_states.proofs.Facts.{Facts}
use Rattle.cap_account_states.proofs.Backed.{IsFirm, Backed, Grounded}
use Rattle.cap_account_states.proofs.Pieces.{AllFit}
use Rattle.cap_account_assertions.proofs.Asserted.{OwnsRegion, OwnsEnsures}
use Rattle.cap_account_assertions.proofs.Laws.{Reached}
use Rattle.cap_account_steps.proofs.Stores.{Store, running}
use Rattle.cap_account_steps.proofs.Frames.{Sits, Stands, Waits, Roomy}
use Rattle.cap_account.proofs.Stocked.{part_stock, account_table, Callee, callee_of, Sound}
use Rattle.cap_rules_nodes.specs.Nodes.{program_nodes}
use Rattle.cap_outline_laws.proofs.Listed.{listed}
use Rattle.cap_owners_spec.specs.Traced.{valuation}
use Rattle.cap_owners_spec.specs.Track.{Fill, Place, TrackedRegion, TrackedFrame, Track, account_of}
use Rattle.cap_owners_spec.specs.Walks.{Walk, Halt, stands, leaves}
use Rattle.cap_owners_spec.specs.Steps.{Proved, root_at, ensures_root, frame_walk}
use Rattle.cap_owners_laws.specs.Owned.{IsTold, IsWaiting, AreNumbered}
use Rattle.cap_owners_walks_laws.proofs.Values.More.{FitsSort}
use Rattle.cap_owners_walks_laws.proofs.Parts.Held.{IsOf}
use Rattle.cap_owners_walks_laws.proofs.Fills.Amounts.{items_drawn}
use Rattle.cap_owners_walks_laws.proofs.Fills.Drawn.{IsMetBy, IsMetOr, Tells}
use Rattle.cap_owners_walks_laws.proofs.Fills.Giving.{NamesFit}

-- nodes are those of valid derivations of the program, and are listed
abbrev pub nodes_of : PlainProgram → List (Option PlainTree) → Checked
nodes_of program trees = listed program (program_nodes program trees)

-- ---- where a walk stops

abbrev pub StopsSo : (Place → Walk → Type 0) → Halt → Type 0
StopsSo P (stands q w) = P q w
StopsSo P (leaves w) = ⊥

-- it has caught up with these regions and has no steps left; each variable has a value of its sort
pub record IsTidy (rs : List TrackedRegion) (s : PlainState) (w : Walk) : Type 0 where
  pub sorted : AllZip FitsSort s.sorts w.values
  pub regions : w.regions ≡ rs
  pub next : w.next ≡ pos (1 + length rs)
  pub events : w.events ≡ []

module _ (p : Checked) (trees : List (Option PlainTree)) where
  abbrev pub derivation : Proved
  derivation = record { program = p.program; trees = trees }

  -- at the node at which the frame sits, by values alike to those at which the state holds of it
  pub record IsAtNode (rs : List TrackedRegion) (part : Stock) (U : Table) (fn : PlainFunction)
      (fixed : List NameValue) (f : Frame) (s : Sits p part U fn fixed f) (q : Place) (w : Walk)
      : Type 0 where
    pub tree : q.tree ≡ s.tree
    pub goal_is : q.goal ≡ goal s.at_node.state (running f.rest s.at_node.home)
    pub alike : Alike (Old s.at_node.state) s.at_node.v (valuation w.values)
    pub tidy : IsTidy rs s.at_node.state w

  -- A frame that runs, with this part, its fixed names' values over the one denominator: whatever
  -- others do, its walk stops at the node at which it then sits, unless a number leaves its bounds.
  pub record Tied (part : Stock) (T : Table) (fixed : List NameValue) (f : Frame)
      (t : TrackedFrame) : Type 0 where
    pub stood : Stands p part T fixed f
    pub fits : AllZip FitsSort stood.fn.fixed fixed
    pub walks :
        (U : Table) (r : Relies p.program part.guards T U) (rs : List TrackedRegion) → Tells rs U →
        IsTold (StopsSo (IsAtNode rs part U stood.fn fixed f (stood.all U r)))
        (frame_walk derivation false rs t t.since)

  -- ---- a frame that waits

  -- it has got the result, and is given what was handed over, met by this
  abbrev pub received_by : Callee → ℤ → TrackedFrame → Fill → TrackedFrame
  received_by y v c x = record c {
    values = slice_set c.values c.awaited (a_number v);
    given = Some (record {
      stability = root_at derivation (function_unit y.function) ensures_root;
      values = map a_number y.arguments ++ (y.fixed ++ a_number v ∷ []);
      fill = x;
    });
  }

  -- the state of a node at which it waits holds of it, and has just its part
  pub record IsSeated (rs : List TrackedRegion) (part : Stock) (U : Table) (fn : PlainFunction)
      (fixed : List NameValue) (f : Frame) (q : Place) (w : Walk) : Type 0 where
    pub home : Home
    pub valid : p.N q.tree q.goal.state q.goal.tasks
    pub due : IsWaiting f home q.goal.tasks
    pub none_open : q.goal.state.opened ≡ []
    pub grounded : Grounded p.program [] (valuation w.values) q.goal.state
    pub facts : Facts [] (valuation w.values) U q.goal.state
    pub firm : AllByRecursion IsFirm q.goal.state.facts
    pub backed : Backed p.program (valuation w.values) q.goal.state part
    pub just : IsOf p.program (valuation w.values) q.goal.state part
    pub store : Store (valuation w.values) q.goal.state home fn fixed f
    pub tidy : IsTidy rs q.goal.state w

  -- a state has just this part
  pub record HasJust (part : Stock) (q : Place) (w : Walk) : Type 0 where
    pub pieces_fit : AllFit p.program q.goal.state.guards
    pub backed : Backed p.program (valuation w.values) q.goal.state part
    pub just : IsOf p.program (valuation w.values) q.goal.state part

  -- whatever others do, its walk stops where it waits, and with whatever the callee hands over, out
  -- of what some heap has, it is tied again, given by what that is met, at values of the names' sorts.
  -- Where that is all drawn, its state just then has its part and that, and no more.
  pub record WaitsTied (part : Stock) (T : Table) (fixed : List NameValue) (f : Frame) (y : Callee)
      (t : TrackedFrame) : Type 0 where
    pub waited : Waits p part T fixed f y.destination y.function y.arguments y.fixed
    pub seated :
        (U : Table) → Relies p.program part.guards T U → (rs : List TrackedRegion) → Tells rs U →
        IsTold (StopsSo (IsSeated rs part U waited.fn fixed f))
        (frame_walk derivation false rs t t.since)
    pub back :
        (U : Table) → Relies p.program part.guards T U → (handed : Stock) (v : ℤ)
        (g : PlainFunction) → slice_get p.program.functions y.function ≡ Some g →
        Roomy p.program U (both p.program part handed) → (heap : Heap) →
        ((a z : ℤ) → handed.cells a z ≤ cells_of heap a z) →
        (owns : OwnsEnsures p.program U handed g y.arguments y.fixed v) → (x : Fill) →
        IsMetOr p.program U owns.values g.ensures.items handed owns.met.0 owns.met.1 x →
        NamesFit (ensures_scope g g.ensures.names) x.names →
        Tied (both p.program part handed) U fixed (receives y.destination v f) (received_by y v t x)
    pub regains :
        (U : Table) → Relies p.program part.guards T U → (handed : Stock) (v : ℤ)
        (g : PlainFunction) → slice_get p.program.functions y.function ≡ Some g →
        Roomy p.program U (both p.program part handed) →
        (owns : OwnsEnsures p.program U handed g y.arguments y.fixed v) → (x : Fill) →
        IsMetOr p.program U owns.values g.ensures.items handed owns.met.0 owns.met.1 x →
        NamesFit (ensures_scope g g.ensures.names) x.names →
        items_drawn p.program U owns.values g.ensures.items handed owns.met.0 owns.met.1
        ≡ handed →
        (rs : List TrackedRegion) → Tells rs U →
        IsTold (StopsSo (HasJust (both p.program part handed)))
        (frame_walk derivation false rs (received_by y v t x) t.since)

  -- ---- stacks

  abbrev pub AllWaitTied : Table → Callee → List Frame → List TrackedFrame → Type 0
  AllWaitTied T y [] [] = Unit {0}
  AllWaitTied T y (f ∷ fs) (t ∷ ts) =
      WaitsTied (part_stock t.held.part) T t.held.fixed f y t
      × AllWaitTied T (callee_of f t.held) fs ts
  AllWaitTied T y fs ts = ⊥

  abbrev pub StackTied : Table → Thread → List TrackedFrame → Type 0
  StackTied T [] [] = Unit {0}
  StackTied T (f ∷ fs) (t ∷ ts) =
      Tied (part_stock t.held.part) T t.held.fixed f t × AllWaitTied T (callee_of f t.held) fs ts
  StackTied T fs ts = ⊥

  abbrev pub EachTied : Table → List Thread → List (List TrackedFrame) → Type 0
  EachTied T threads tracked =
      (i : ℕ) (t : Thread) (ts : List TrackedFrame) → slice_get threads i ≡ Some t →
      slice_get tracked i ≡ Some ts → StackTied T t ts

  -- ---- regions

  -- the region has its case by what it was closed with, by a table from which others led to this one
  pub record RegionTied (U : Table) (r : TrackedRegion) : Type 0 where
    pub T : Table
    pub reached : Reached p.program T U (part_stock r.owned.part)
    pub known :
        T r.owned.region.number
        ≡ Some (known_as r.owned.region.kind r.owned.region.args (Some r.owned.region.state))
    pub own :
        OwnsRegion p.program T r.owned.region.number r.owned.region.kind r.owned.region.args
        r.owned.region.state (part_stock r.owned.part)
    pub number : own.number ≡ r.case
    pub met :
        IsMetBy p.program T own.values own.case.items (part_stock r.owned.part) own.met.0 own.met.1
        r.fill
    pub fits : NamesFit (region_scope own.type own.case.names) r.fill.names
    pub sorted : AllZip FitsSort (region_sorts own.type own.case.names) r.fill.names

  -- ---- all together

  pub record Kept (c : Configuration) (k : Track) : Type 0 where
    pub sound : Sound p c (account_of k)
    pub stacks : EachTied (account_table (account_of k)) c.threads k.threads
    pub regions : AllByRecursion (RegionTied (account_table (account_of k))) k.regions
    pub numbered : AreNumbered (pos 1) (table (account_of k))
