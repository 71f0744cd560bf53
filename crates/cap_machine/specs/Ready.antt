-- When a statement of a thread may be taken, and what the code's parts of a step promise.
use Rattle.std.specs.Prelude.{◌≡◌, ℕ, zero, suc, ◌<◌, true, false, List, [], ◌∷◌, ◌++◌, length, slice_get, Option, Some, None, IsSomeAnd, option_and_then, option_map}
use Rattle.std.specs.Global.{Vec}
use Rattle.cap_prog.specs.Program.{Label, PlainAct, alloc, Block, first, PlainStatement, PlainFunction, PlainProgram}
use Rattle.cap_prog.specs.Scopes.{fixed_start}
use Rattle.cap_prog.specs.WellFormed.{ActFits, IsWellFormed}
use Rattle.cap_machine.specs.declared.event.Entry.{Entry}
use Rattle.cap_machine.specs.declared.event.Ahead.{Ahead}
use Rattle.cap_machine.specs.declared.frame.Frame as code
use Rattle.cap_machine.specs.declared.machine.Machine.{Machine}
use Rattle.cap_machine.specs.Machine.{Frame, Thread, Configuration, takes_base}
use Rattle.cap_machine.specs.Laws.{first_statement, running, BaseFits}
use Rattle.cap_machine.specs.View.{configuration, is_stopped, AllArePlaced}

-- the program is well-formed, the statement is the next one of the entry's thread, and the base is as it takes it
pub record IsReady (p : PlainProgram) (m : Machine) (e : Entry) (s : PlainStatement) : Type 0 where
  pub function : PlainFunction
  pub frame : Frame
  pub below : List Frame
  pub rest : Block
  pub program : IsWellFormed p
  pub runs : is_stopped m ≡ false
  pub there : slice_get (configuration p m).threads e.thread ≡ Some (frame ∷ below)
  pub next : frame.rest ≡ first s.label s.act rest
  pub base : takes_base s.act e.base ≡ true
  pub suits : BaseFits (configuration p m).heap s.act e.base
  pub is : slice_get p.functions frame.function ≡ Some function
  pub act : ActFits p function s.act
  pub store : length frame.store ≡ fixed_start function
  pub places : AllArePlaced p m

abbrev pub IsReadyTo : PlainProgram → Machine → Entry → PlainAct → Type 0
IsReadyTo p m e a = (l : Label) × IsReady p m e (record { label = l; act = a })

-- the thread is there and has not ended
unfoldable pub HasTop : Machine → ℕ → Type 0
HasTop m thread = IsSomeAnd (slice_get m.threads.items thread) (λ (t : Vec code.Frame). 0 < length t.items)

abbrev pub update : (Thread → Thread) → List Thread → ℕ → List Thread
update f [] n = []
update f (t ∷ ts) zero = f t ∷ ts
update f (t ∷ ts) (suc n) = t ∷ update f ts n

-- one thread changes so
abbrev pub with_thread : (Thread → Thread) → Configuration → ℕ → Configuration
with_thread f c n = record { heap = c.heap; threads = update f c.threads n }

-- the thread's top frame may change
pub record CanChange (p : PlainProgram) (m : Machine) (thread : ℕ) : Type 0 where
  pub top : HasTop m thread
  pub places : AllArePlaced p m

-- one thread changed so, and the machine is not stopped by that
pub record HasChanged (p : PlainProgram) (change : Thread → Thread) (thread : ℕ) (before after : Machine) : Type 0 where
  pub configured : configuration p after ≡ with_thread change (configuration p before) thread
  pub stop : is_stopped after ≡ is_stopped before
  pub places : AllArePlaced p after

-- there is one more thread, of this frame
pub record HasThread (p : PlainProgram) (first : Frame) (before after : Machine) : Type 0 where
  pub configured : configuration p after ≡ record { heap = (configuration p before).heap; threads = (configuration p before).threads ++ (first ∷ []) ∷ [] }
  pub stop : is_stopped after ≡ is_stopped before
  pub places : AllArePlaced p after

-- nothing that is seen changed
pub record IsUnchanged (p : PlainProgram) (before after : Machine) : Type 0 where
  pub configured : configuration p after ≡ configuration p before
  pub stop : is_stopped after ≡ is_stopped before
  pub places : AllArePlaced p after

-- the cells of an allocation
abbrev pub cells_of : PlainAct → Option ℕ
cells_of (alloc x n) = Some n
cells_of _ = None

abbrev pub statement_ahead : ℕ → PlainStatement → Ahead
statement_ahead function s = record { function = function; number = s.label.number; place = s.label.place; cells = cells_of s.act }

-- the thread's next statement, with the number of its function
abbrev pub ahead : Configuration → ℕ → Option Ahead
ahead c thread = option_and_then (λ f. option_map (statement_ahead f.function) (first_statement f.rest)) (running c thread)
