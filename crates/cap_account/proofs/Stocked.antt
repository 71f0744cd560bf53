-- Accounts as stocks and tables, the invariant of a run, and what each of its steps is to lead to.
use Rattle.std.specs.Prelude.{◌≡◌, ◌≢◌, ℕ, ◌≤◌, ℤ, List, [], ◌∷◌, map, find, length, slice_get, Option, Some, None, option_map}
use Rattle.std.specs.List.{AllByRecursion}
use Rattle.cap_lin.specs.Linear.{same_number}
use Rattle.cap_prog.specs.Program.{PlainFunction, PlainProgram}
use Rattle.cap_machine.specs.Machine.{Frame, Thread, Configuration, Outcome, Spot, statement_step, start, Heap}
use Rattle.cap_machine_accounts.specs.Parts.{Part, guard_at}
use Rattle.cap_machine_accounts.specs.Assertions.{NameValue}
use Rattle.cap_machine_accounts.specs.Accounts.{Held, OwnedRegion, Account, EachTwo, IsValidAccount}
use Rattle.cap_machine_accounts.specs.Following.{Follows}
use Rattle.cap_machine_accounts.specs.Safety.{KeepsContracts, IfStepped, first_account, Start}
use Rattle.cap_account_resources.specs.Parts.{cells_of, Known, known_as, Table}
use Rattle.cap_account_resources.proofs.Stocks.{Stock, no_stock, both}
use Rattle.cap_account_resources.proofs.Tables.{FitsRoom}
use Rattle.cap_account_resources.proofs.Owners.{Owner, owned}
use Rattle.cap_account_states.proofs.Checked.{Checked}
use Rattle.cap_account_assertions.proofs.Asserted.{OwnsRegion}
use Rattle.cap_account_steps.proofs.Frames.{Sits, Stands, Waits}

-- ---- stocks and tables

-- a part's cells, counted, and its guards as marks
abbrev pub part_stock : Part → Stock
part_stock part =
    record { cells = cells_of part.cells; guards = λ n. Some (guard_at part n) }

-- what the elements of a list have, together
abbrev pub sum_by : {A : Type 0} → PlainProgram → (A → Stock) → List A → Stock
sum_by p f [] = no_stock
sum_by p f (x ∷ xs) = both p (f x) (sum_by p f xs)

-- a stack's, and all threads'
abbrev pub frames_stock : PlainProgram → List Held → Stock
frames_stock p hs = sum_by p (λ h. part_stock h.part) hs

abbrev pub threads_stock : PlainProgram → List (List Held) → Stock
threads_stock p hss = sum_by p (frames_stock p) hss

-- regions with what they own as stocks
abbrev pub owner_of : OwnedRegion → Owner
owner_of r = record {
  number = r.region.number;
  kind = r.region.kind;
  args = r.region.args;
  state = r.region.state;
  stock = part_stock r.part;
}

abbrev pub owners : List OwnedRegion → List Owner
owners rs = map owner_of rs

-- the first of this number
abbrev pub owner_at : List Owner → ℤ → Option Owner
owner_at rs n = find (λ r. same_number r.number n) rs

abbrev pub known_by : Owner → Known
known_by r = known_as r.kind r.args (Some r.state)

-- the table of these regions, and what the region of a number owns
abbrev pub table_by : List Owner → Table
table_by rs n = option_map known_by (owner_at rs n)

abbrev pub stock_or_none : Option Owner → Stock
stock_or_none None = no_stock
stock_or_none (Some r) = r.stock

abbrev pub share_by : List Owner → ℤ → Stock
share_by rs n = stock_or_none (owner_at rs n)

-- an account's table, and all that it accounts for
abbrev pub account_table : Account → Table
account_table a = table_by (owners a.regions)

abbrev pub account_stock : PlainProgram → Account → Stock
account_stock p a = both p (threads_stock p a.threads) (owned p (owners a.regions))

-- ---- the invariant of a run

-- whom a frame waits for: where the result goes, the callee and its arguments, and its fixed names'
-- values
pub record Callee : Type 0 where
  pub destination : Option ℕ
  pub function : ℕ
  pub arguments : List ℤ
  pub fixed : List NameValue

abbrev pub callee_of : Frame → Held → Callee
callee_of f h = record {
  destination = f.destination;
  function = f.function;
  arguments = f.arguments;
  fixed = h.fixed;
}

-- the first of these frames waits for the callee, and each later one for the one before it
abbrev pub AllWait : Checked → Table → Callee → List Frame → List Held → Type 0
AllWait p T y [] [] = Unit {0}
AllWait p T y (f ∷ fs) (h ∷ hs) =
    Waits p (part_stock h.part) T h.fixed f y.destination y.function y.arguments y.fixed
    × AllWait p T (callee_of f h) fs hs
AllWait p T y fs hs = ⊥

-- the top frame stands, and those below wait
abbrev pub StackStands : Checked → Table → Thread → List Held → Type 0
StackStands p T [] [] = Unit {0}
StackStands p T (f ∷ fs) (h ∷ hs) =
    Stands p (part_stock h.part) T h.fixed f × AllWait p T (callee_of f h) fs hs
StackStands p T fs hs = ⊥

-- each thread's stack stands
abbrev pub EachStands : Checked → Table → List Thread → List (List Held) → Type 0
EachStands p T ts hss =
    (i : ℕ) (t : Thread) (hs : List Held) → slice_get ts i ≡ Some t → slice_get hss i ≡ Some hs →
    StackStands p T t hs

-- a region owns what its type says at its state
abbrev pub OwnsItsOwn : PlainProgram → Table → Owner → Type 0
OwnsItsOwn p T r = OwnsRegion p T r.number r.kind r.args r.state r.stock

-- all that is accounted for is within the heap and within the room
pub record Sound (p : Checked) (config : Configuration) (a : Account) : Type 0 where
  pub count : length a.threads ≡ length config.threads
  pub heap : (x z : ℤ) → (account_stock p.program a).cells x z ≤ cells_of config.heap x z
  pub room : FitsRoom p.program (account_table a) (account_stock p.program a)
  pub differ : EachTwo (λ r s. r.number ≢ s.number) (owners a.regions)
  pub regions : AllByRecursion (OwnsItsOwn p.program (account_table a)) (owners a.regions)
  pub stacks : EachStands p (account_table a) config.threads a.threads

-- ---- steps

-- in a sound configuration, a thread that is to make a step
pub record Turn (p : Checked) : Type 0 where
  pub c : Configuration
  pub a : Account
  pub sound : Sound p c a
  pub thread : ℕ
  pub frame : Frame
  pub below : List Frame
  pub held : Held
  pub waiting : List Held
  pub has_frames : slice_get c.threads thread ≡ Some (frame ∷ below)
  pub has_parts : slice_get a.threads thread ≡ Some (held ∷ waiting)

abbrev pub spot_of : {p : Checked} → Turn p → Spot
spot_of x =
    record { thread = x.thread; frame = x.frame; below = x.below; configuration = x.c }

-- what is said of a configuration and its account
abbrev pub AccountProperty : Type 1
AccountProperty = Configuration → Account → Type 0

-- an account follows by the step of a thread and keeps the contracts, and this holds of it
abbrev pub Followed :
    PlainProgram → ℕ → Configuration → Account → AccountProperty → Outcome → Type 0
Followed p thread c a K o =
    IfStepped (λ d event.
    (b : Account) × (handed : Part)
    × Follows p c.heap thread event a b handed
    × KeepsContracts p thread event c d a b handed
    × K d b) o

-- each step leads to a sound account
abbrev pub Advances : Checked → Type 0
Advances p =
    (x : Turn p) (base : Option ℤ) →
    Followed p.program x.thread x.c x.a (Sound p)
    (statement_step p.program (spot_of x) base x.frame.rest)

-- whatever is sound has this
abbrev pub WhereSound : Checked → AccountProperty → Type 0
WhereSound p X = (c : Configuration) (a : Account) → Sound p c a → X c a

-- its account is valid
abbrev pub ValidLaw : Checked → Type 0
ValidLaw p = WhereSound p (IsValidAccount p.program)

-- main's start is sound
abbrev pub StartLaw : Checked → Type 0
StartLaw p =
    (heap : Heap) (main : PlainFunction) (fixed : List NameValue) (args : List ℤ)
    (s : Start p.program main args heap fixed) →
    Sound p (start p.program args heap) (first_account heap fixed)

-- each top frame sits at a node, of whatever the predicate of nodes says
abbrev pub AllSit : Checked → Configuration → Account → Type 0
AllSit p c a =
    (thread : ℕ) (f : Frame) (below : List Frame) (h : Held) (waiting : List Held) →
    slice_get c.threads thread ≡ Some (f ∷ below) →
    slice_get a.threads thread ≡ Some (h ∷ waiting) →
    (fn : PlainFunction) × Sits p (part_stock h.part) (account_table a) fn h.fixed f
