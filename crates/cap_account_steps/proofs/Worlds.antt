-- A heap statement where regions are opened: what there is before it acts, once it acted, and after
-- the regions are closed again.
use Rattle.std.specs.Prelude.{◌≡◌, ◌≢◌, ◌⊎◌, ℕ, zero, suc, ◌+◌, ◌-◌, ◌<◌, ◌≤◌, ℤ, pos, ◌+ℤ◌, Bool, true, false, List, [], ◌∷◌, length, map, slice_get, Option, Some, None}
use Rattle.std.specs.List.{AllByRecursion, list_any}
use Rattle.std.specs.FinMap.{get}
use Rattle.cap_lin.specs.Linear.{Linear, same_number}
use Rattle.cap_lin.specs.Values.{Valuation, value}
use Rattle.cap_lin.specs.declared.row.Sort.{Sort}
use Rattle.cap_lin.specs.declared.row.Sort.TheVariants.{Int}
use Rattle.cap_prog.specs.Program.{PlainAct, read, write, cas, faa, dispose, Block, PlainProgram}
use Rattle.cap_goal_spec.specs.States.{PlainFact, PlainState, PlainTask, to_close}
use Rattle.cap_goal_spec.specs.Choices.{PlainTrees}
use Rattle.cap_machine.specs.Machine.{Heap, Frame, value_in, with_rest, with_value}
use Rattle.cap_machine_accounts.specs.Assertions.{NameValue}
use Rattle.cap_machine_accounts.specs.Accounts.{EachTwo}
use Rattle.cap_account_resources.specs.Parts.{one_cell, cells_of, Known, known_as, Table}
use Rattle.cap_account_resources.proofs.Lists.{Among}
use Rattle.cap_account_resources.proofs.Covering.{Covered}
use Rattle.cap_account_resources.proofs.Interference.{Can}
use Rattle.cap_account_resources.proofs.Stocks.{Stock, both, all_of, Inside}
use Rattle.cap_account_resources.proofs.Tables.{TableFits, NoneOpen, FitsRoom, AreListed, new_guards}
use Rattle.cap_account_resources.proofs.Owners.{Owner, owned, numbers_of}
use Rattle.cap_account_states.specs.Nodes.{Open}
use Rattle.cap_account_states.proofs.Terms.{Over}
use Rattle.cap_account_states.proofs.Alike.{Alike}
use Rattle.cap_account_states.proofs.Checked.{Checked}
use Rattle.cap_account_states.proofs.Meets.{Free, Usable}
use Rattle.cap_account_states.proofs.Adding.{PieceOver}
use Rattle.cap_account_states.proofs.Pieces.{AllFit}
use Rattle.cap_account_states.proofs.Facts.{Facts}
use Rattle.cap_account_states.proofs.Backed.{IsFirm, Backed, Grounded}
use Rattle.cap_account_assertions.proofs.Asserted.{OwnsRegion}
use Rattle.cap_account_assertions.proofs.Laws.{IsOwner}
use Rattle.cap_account_steps.proofs.Shutting.{Shut, shut_owner, Leads, KeepsCase, KeepsNew, new_owners}
use Rattle.cap_account_steps.proofs.Frames.{Stands}

-- ---- a table, and what each of its regions has

abbrev pub Differ : List ℤ → Type 0
Differ ns = EachTwo (λ m n. m ≢ n) ns

abbrev pub IsThere : Table → ℤ → Type 0
IsThere V n = (e : Known) × (V n ≡ Some e)

-- what the stepping frame has, together with any of the regions, is within the room and the heap
pub record World (p : PlainProgram) (V : Table) (share : ℤ → Stock) (part : Stock)
    (heap : Heap) : Type 0 where
  pub fits : TableFits p V
  pub full : NoneOpen V
  pub owns :
      (n : ℤ) (k : ℕ) (args : List ℤ) (b : ℤ) → V n ≡ Some (known_as k args (Some b)) →
      OwnsRegion p V n k args b (share n)
  pub room :
      (ns : List ℤ) → Differ ns → AllByRecursion (IsThere V) ns →
      FitsRoom p V (both p part (all_of p ns share))
  pub cells :
      (ns : List ℤ) → Differ ns → AllByRecursion (IsThere V) ns → (a z : ℤ) →
      (both p part (all_of p ns share)).cells a z ≤ cells_of heap a z
  pub bound : List ℤ
  pub listed : AreListed bound V

-- ---- facts that tell a state, loose or not

-- the table says just this of the fact's region
abbrev pub Exact : Valuation → Table → PlainFact → Type 0
Exact v T f =
    T (value v.whole f.region)
    ≡ Some (known_as f.kind (map (value v.whole) f.args) (Some (value v.whole f.state)))

-- region, arguments and state are over these variables
abbrev pub AllOver : (ℕ → Type 0) → PlainFact → Type 0
AllOver P f = Over P f.region × AllByRecursion (Over P) f.args × Over P f.state

-- ---- before the statement acts

abbrev pub regions_of : Valuation → List PlainFact → List ℤ
regions_of v fs = map (λ f. value v.whole f.region) fs

-- the guards that were held when the first region was opened
pub record Earlier (p : PlainProgram) (ks : List ℕ) (v : Valuation) (s : PlainState)
    (part : Stock) : Type 0 where
  pub over : AllByRecursion (PieceOver (Usable ks s.sorts)) s.before
  pub fit : AllFit p s.before
  pub covered : (n : ℤ) → Covered p v s.before n (part.guards n)

abbrev pub IfAny : {A : Type 0} → List A → Type 0 → Type 0
IfAny [] P = Unit {0}
IfAny (x ∷ xs) P = P

-- facts, also of opened regions, hold of the table before the step; the state has what the frame
-- and the opened regions have
pub record Opening (p : PlainProgram) (V : Table) (share : ℤ → Stock) (part : Stock) (v : Valuation)
    (s : PlainState) : Type 0 where
  pub grounded : Grounded p [] v s
  pub facts : Facts [] v V s
  pub firm : AllByRecursion IsFirm s.facts
  pub opened :
      AllByRecursion (λ f. AllOver (Usable [] s.sorts Int) f × Exact v V f) s.opened
  pub differ : Differ (regions_of v s.opened)
  pub backed : Backed p v s (both p part (all_of p (regions_of v s.opened) share))
  pub earlier : IfAny s.opened (Earlier p [] v s part)

-- ---- once it acted

-- these regions are open: they have no state
abbrev pub opened_at : Bool → Option Known → Option Known
opened_at true (Some e) = Some (known_as e.kind e.args None)
opened_at b o = o

abbrev pub opened_table : List ℤ → Table → Table
opened_table ns V n = opened_at (list_any (same_number n) ns) (V n)

-- the fact of an opened region says what the table V before the step does, and in W it is open
abbrev pub IsStillOpen : List ℕ → Valuation → Table → Table → PlainState → PlainFact → Type 0
IsStillOpen ks v V W s f =
    AllOver (Usable ks s.sorts Int) f
    × Exact v V f
    × (W (value v.whole f.region) ≡ Some (known_as f.kind (map (value v.whole) f.args) None))

pub record Closing (p : PlainProgram) (V W : Table) (part : Stock) (ks : List ℕ) (v : Valuation)
    (s : PlainState) (held : Stock) : Type 0 where
  pub grounded : Grounded p ks v s
  pub facts : Facts ks v W s
  pub old : AllByRecursion (λ k. k < length s.sorts) ks
  pub opened : AllByRecursion (IsStillOpen ks v V W s) s.opened
  pub differ : Differ (regions_of v s.opened)
  pub backed : Backed p v s held
  pub room : FitsRoom p W held
  pub earlier : IfAny s.opened (Earlier p ks v s part)

-- ---- regions that are closed again

-- the region had a state in V, and kept it or took an action whose guards the frame held
pub record HasMoved (p : PlainProgram) (V : Table) (part : Stock) (r : Owner) : Type 0 where
  pub state : ℤ
  pub was : V r.number ≡ Some (known_as r.kind r.args (Some state))
  pub moves :
      (r.state ≡ state) ⊎ Can p (part.guards r.number) r.kind r.number r.args state r.state

-- from W, in which some regions are open, to U: these are closed, and these are made
pub record Settles (p : PlainProgram) (V W U : Table) (part : Stock) (opened : List ℤ)
    (closed made : List Owner) : Type 0 where
  pub moved : AllByRecursion (HasMoved p V part) closed
  pub were_open : AllByRecursion (λ r. W r.number ≡ Some (known_as r.kind r.args None)) closed
  pub closed_owners : AllByRecursion (IsOwner p U) closed
  pub made_owners : AllByRecursion (IsOwner p U) made
  pub closed_differ : EachTwo (λ r s. r.number ≢ s.number) closed
  pub made_differ : EachTwo (λ r s. r.number ≢ s.number) made
  pub numbers : numbers_of closed ≡ opened
  pub absent : AllByRecursion (λ r. W r.number ≡ None) made
  pub others :
      (n : ℤ) → (Among n (numbers_of closed) → ⊥) → (Among n (numbers_of made) → ⊥) → U n ≡ W n

-- how the table and what is held settle: what closed and made regions own comes out of what was
-- held
pub record SettlesBy (p : PlainProgram) (V W : Table) (part held : Stock) (ns : List ℤ)
    (kept : Stock) : Type 0 where
  pub U : Table
  pub opened : List ℤ
  pub all_of_them : (n : ℤ) → Among n ns → Among n opened
  pub count : length opened ≡ length ns
  pub closed : List Owner
  pub made : List Owner
  pub settles : Settles p V W U part opened closed made
  pub budget :
      Inside p (both p kept (both p (owned p closed) (owned p made)))
      (both p held (new_guards p W U))

-- so many regions are to be closed before these tasks
abbrev pub closes : ℕ → ℕ → List PlainTask → List PlainTask
closes n zero ts = ts
closes n (suc m) ts = to_close true n ∷ closes n m ts

-- what closing them all leads to
pub record Closed (p : Checked) (V W : Table) (part : Stock) (ks : List ℕ) (v : Valuation)
    (s : PlainState) (held : Stock) (ts : List PlainTask) : Type 0 where
  pub left : Stock
  pub by : SettlesBy p.program V W part held (regions_of v s.opened) left
  pub w : Valuation
  pub alike : Alike (λ x. (x < length s.sorts) × Free ks x) v w
  pub after : PlainState
  pub children : PlainTrees
  pub goes : Open p.N children after ts
  pub js : List ℕ
  pub less : (x : ℕ) → x < length s.sorts → Free ks x → Free js x
  pub grounded : Grounded p.program js w after
  pub facts : Facts js w by.U after
  pub none_open : after.opened ≡ []
  pub store : after.store ≡ s.store
  pub sorts : (x : ℕ) (o : Sort) → slice_get s.sorts x ≡ Some o → slice_get after.sorts x ≡ Some o
  pub count : length s.sorts ≤ length after.sorts
  pub backed : Backed p.program w after left
  pub shuts : List Shut
  pub named : Leads (length s.sorts) v shuts (length after.sorts) w
  pub are_closed : by.closed ≡ map shut_owner shuts
  pub keeps : AllByRecursion (KeepsCase p.program by.U) shuts
  pub are_made : by.made ≡ new_owners shuts
  pub keeps_new : AllByRecursion (KeepsNew p.program by.U) shuts

-- closing them all, where the table's regions are listed
abbrev pub ClosingLaw : Checked → Type 0
ClosingLaw p =
    (V W : Table) (part held : Stock) (ks : List ℕ) (v : Valuation) (s : PlainState) (n : ℕ)
    (ts : List PlainTask) (trees : PlainTrees) (bound : List ℤ) →
    Open p.N trees s (closes n (length s.opened) ts) → TableFits p.program W → AreListed bound W →
    Closing p.program V W part ks v s held → FitsRoom p.program V part →
    Closed p V W part ks v s held ts

-- ---- the whole statement

-- what the cell has afterwards, and the frame
abbrev pub after_cas : Bool → Frame → ℕ → ℤ → ℤ → Option ℤ × Frame
after_cas true f y z w = (Some w, with_value f y (pos 1))
after_cas false f y z w = (Some z, with_value f y (pos 0))

abbrev pub after_act : PlainAct → Frame → Block → ℤ → Option ℤ × Frame
after_act (read y a) f b z = (Some z, with_value (with_rest f b) y z)
after_act (write a u) f b z = (Some (value_in f.store u), with_rest f b)
after_act (cas y a old new) f b z =
    after_cas (same_number z (value_in f.store old)) (with_rest f b) y z (value_in f.store new)
after_act (faa y a u) f b z =
    (Some (z +ℤ value_in f.store u), with_value (with_rest f b) y z)
after_act (dispose a) f b z = (None, with_rest f b)
after_act a f b z = (Some z, f)

-- the cell at a has another content, or is there no more
abbrev pub new_content : ℤ → Option ℤ → ℤ → ℤ → ℕ
new_content a None b y = 0
new_content a (Some w) b y = one_cell a w b y

abbrev pub recelled : Stock → ℤ → ℤ → Option ℤ → Stock
recelled q a z o = record {
  cells = λ b y. (q.cells b y - one_cell a z b y) + new_content a o b y;
  guards = q.guards;
}

pub record HeapStep (p : Checked) (V : Table) (share : ℤ → Stock) (part : Stock) (heap : Heap)
    (fixed : List NameValue) (f : Frame) (a : PlainAct) (b : Block) (x : Linear) : Type 0 where
  pub content : ℤ
  pub is_cell : get heap (value_in f.store x) ≡ Some content
  pub entered : List ℤ
  pub differ : Differ entered
  pub there : AllByRecursion (IsThere V) entered
  pub two : length entered ≤ 2
  pub had :
      (c y : ℤ) → one_cell (value_in f.store x) content c y
      ≤ (both p.program part (all_of p.program entered share)).cells c y
  pub kept : Stock
  pub by :
      SettlesBy p.program V (opened_table entered V) part
      (recelled (both p.program part (all_of p.program entered share)) (value_in f.store x) content
      (after_act a f b content).0) entered kept
  pub stands : Stands p kept by.U fixed (after_act a f b content).1
