-- What a verdict promises of every run of a program.
use Rattle.std.specs.Prelude.{◌≡◌, ℕ, ℤ, List, [], ◌∷◌, length, slice_get, Option, Some, None}
use Rattle.std.specs.FinMap.{empty}
use Rattle.cap_prog.specs.Program.{PlainFunction, PlainProgram}
use Rattle.cap_machine.specs.declared.event.Entry.{Entry}
use Rattle.cap_machine.specs.declared.event.Event.{Event}
use Rattle.cap_machine.specs.declared.event.Event.TheVariants.{Call, Fork, Return, End}
use Rattle.cap_machine.specs.Machine.{Heap, Frame, Configuration, Outcome, next, fault, disabled, step, start, IsPositive}
use Rattle.cap_machine_accounts.specs.Parts.{Part}
use Rattle.cap_machine_accounts.specs.Assertions.{NameValue, ValuesFit, MeetsRequires, Met}
use Rattle.cap_machine_accounts.specs.Accounts.{Held, Account, table, IsValidAccount}
use Rattle.cap_machine_accounts.specs.Following.{Follows}

abbrev pub top_of : {A : Type 0} → Option (List A) → Option A
top_of (Some (x ∷ xs)) = Some x
top_of _ = None

-- the top frame of a thread, its function, and what it has
pub record TopFrame (p : PlainProgram) (c : Configuration) (a : Account) (thread : ℕ) : Type 0 where
  pub frame : Frame
  pub is_frame : top_of (slice_get c.threads thread) ≡ Some frame
  pub held : Held
  pub is_held : top_of (slice_get a.threads thread) ≡ Some held
  pub function : PlainFunction
  pub is_function : slice_get p.functions frame.function ≡ Some function

-- the new frame of a call or a fork, on top of this thread, meets its `requires`
abbrev pub Begins : PlainProgram → Configuration → Account → ℕ → Type 0
Begins p d b thread =
    (t : TopFrame p d b thread) × MeetsRequires p
    (table b) t.held.part t.function t.frame.arguments t.held.fixed

-- the part that the returning frame hands over meets its `ensures`, by the table after the step.
-- `Follows` says that it is cut out of what the frame had, with what the heap holds
abbrev pub MeetsAtReturn : PlainProgram → Configuration → Account → Account → ℕ → Part → ℤ → Type 0
MeetsAtReturn p c a b thread handed v =
    (t : TopFrame p c a thread)
    × Met p (table b) handed t.function t.frame.arguments t.held.fixed v

-- calls, forks and returns meet the contracts, also the last return of a thread
abbrev pub KeepsContracts :
    PlainProgram → ℕ → Event → Configuration → Configuration → Account → Account → Part → Type 0
KeepsContracts p thread Call c d a b handed = Begins p d b thread
KeepsContracts p thread (Fork n) c d a b handed = Begins p d b n
KeepsContracts p thread (Return v) c d a b handed = MeetsAtReturn p c a b thread handed v
KeepsContracts p thread (End v) c d a b handed = MeetsAtReturn p c a b thread handed v
KeepsContracts p thread event c d a b handed = Unit {0}

-- the step is no fault, and where there is one this holds of what it leaves
abbrev pub IfStepped : (Configuration → Event → Type 0) → Outcome → Type 0
IfStepped P (next c event) = P c event
IfStepped P (fault event) = ⊥
IfStepped P disabled = Unit {0}

-- the account is valid here, and after each step of the run an account follows
abbrev pub IsTracked : PlainProgram → List Entry → Configuration → Account → Type 0
IsTracked p [] c a = IsValidAccount p c a
IsTracked p (e ∷ es) c a =
    IsValidAccount p c a
    × IfStepped (λ d event. (b : Account) × (handed : Part)
    × Follows p c.heap e.thread event a b handed
    × KeepsContracts p e.thread event c d a b handed
    × IsTracked p es d b) (step p c e)

abbrev pub whole_part : Heap → Part
whole_part heap = record { cells = heap; guards = empty }

-- no regions, and the whole heap is main's
abbrev pub first_account : Heap → List NameValue → Account
first_account heap fixed =
    record { regions = []; threads = (record { part = whole_part heap; fixed = fixed } ∷ []) ∷ [] }

-- arguments, a heap of positive addresses, and values of main's fixed names, at which its
-- `requires` is met
pub record Start (p : PlainProgram) (main : PlainFunction) (args : List ℤ) (heap : Heap)
    (fixed : List NameValue) : Type 0 where
  pub is_main : slice_get p.functions p.main ≡ Some main
  pub arity : length args ≡ main.params
  pub values_fit : ValuesFit main.fixed fixed
  pub positive : IsPositive heap
  pub meets : MeetsRequires p [] (whole_part heap) main args fixed

-- every run from every start has accounts: it makes no memory fault, no assertion fails, regions
-- change only by actions whose guards the stepping frame held, and contracts are met: where a call,
-- a fork or a return, also the last one of a thread, promises a cell, the heap has it, with its
-- value, and promised guards are parts of what their region's owners had
abbrev pub Safe : PlainProgram → Type 0
Safe p =
    (main : PlainFunction) (args : List ℤ) (heap : Heap) (fixed : List NameValue) (es : List Entry)
    → Start p main args heap fixed
    → IsTracked p es (start p args heap) (first_account heap fixed)
