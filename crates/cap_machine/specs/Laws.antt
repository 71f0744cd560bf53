-- What the definition of a step means: when there is one, when it is a fault, and what it keeps.
use Rattle.std.specs.Prelude.{◌≡◌, ◌↔◌, ℕ, ◌<◌, ℤ, pos, ◌+ℤ◌, ◌≤ℤ◌, Bool, true, false, List, length, slice_get, Option, Some, None, IsTrue, IsSome, IfSome, IsSomeAnd, option_and_then}
use Rattle.std.specs.FinMap.{get}
use Rattle.cap_prog.specs.Program.{PlainAct, read, write, cas, faa, dispose, alloc, check, Block, done, first, PlainStatement, PlainProgram}
use Rattle.cap_prog.specs.WellFormed.{IsWellFormed}
use Rattle.cap_machine.specs.declared.event.Entry.{Entry}
use Rattle.cap_machine.specs.declared.event.Event.{Event}
use Rattle.cap_machine.specs.declared.event.Event.TheVariants.{Bad, Failed}
use Rattle.cap_machine.specs.Machine.{Heap, Frame, Configuration, Outcome, next, fault, disabled, value_in, holds, step, start, top_frame}
use Rattle.cap_machine.specs.Fits.{ConfigurationFits}

abbrev pub first_statement : Block → Option PlainStatement
first_statement done = None
first_statement (first l a rest) = Some (record { label = l; act = a })

-- the top frame of a thread, which is there and has not ended
abbrev pub running : Configuration → ℕ → Option Frame
running c thread = top_frame (slice_get c.threads thread)

-- the thread's next statement
abbrev pub next_statement : Configuration → ℕ → Option PlainStatement
next_statement c thread = option_and_then (λ f. first_statement f.rest) (running c thread)

-- ---- when there is a step

abbrev pub AreFree : Heap → ℤ → ℕ → Type 0
AreFree heap base n = (k : ℕ) → k < n → get heap (base +ℤ pos k) ≡ None

-- a base is given exactly to an allocation; it is at least 1, and the addresses are absent
abbrev pub BaseFits : Heap → PlainAct → Option ℤ → Type 0
BaseFits heap (alloc x n) None = ⊥
BaseFits heap (alloc x n) (Some base) = (pos 1 ≤ℤ base) × AreFree heap base n
BaseFits heap _ base = base ≡ None

pub record IsEnabled (c : Configuration) (e : Entry) : Type 0 where
  pub runs : IsSome (running c e.thread)
  pub base : IfSome (next_statement c e.thread) (λ s. BaseFits c.heap s.act e.base)

abbrev pub is_step : Outcome → Bool
is_step (next c event) = true
is_step (fault event) = true
is_step disabled = false

-- an entry makes a step or a fault exactly where it is enabled
abbrev pub EnabledEntriesStep : Type 0
EnabledEntriesStep =
    (p : PlainProgram) (c : Configuration) (e : Entry) → IsWellFormed p → ConfigurationFits p c → IsTrue (is_step (step p c e)) ↔ IsEnabled c e

-- ---- when it is a fault

-- the address whose cell a statement reads or changes
abbrev pub accessed : List ℤ → PlainAct → Option ℤ
accessed store (read x a) = Some (value_in store a)
accessed store (write a t) = Some (value_in store a)
accessed store (cas x a old new) = Some (value_in store a)
accessed store (faa x a t) = Some (value_in store a)
accessed store (dispose a) = Some (value_in store a)
accessed store _ = None

-- an assertion that does not hold
abbrev pub IsFailing : List ℤ → PlainAct → Type 0
IsFailing store (check c) = holds store c ≡ false
IsFailing store _ = ⊥

-- a memory fault, or a failed assertion
abbrev pub FaultsAs : Heap → List ℤ → PlainStatement → Event → Type 0
FaultsAs heap store s (Bad a) = (accessed store s.act ≡ Some a) × (get heap a ≡ None)
FaultsAs heap store s (Failed place) = IsFailing store s.act × (s.label.place ≡ place)
FaultsAs heap store s _ = ⊥

abbrev pub FrameFaults : Heap → Frame → Event → Type 0
FrameFaults heap f event = IsSomeAnd (first_statement f.rest) (λ s. FaultsAs heap f.store s event)

pub record IsFault (c : Configuration) (e : Entry) (event : Event) : Type 0 where
  pub base : e.base ≡ None
  pub fault : IsSomeAnd (running c e.thread) (λ f. FrameFaults c.heap f event)

-- a step is a fault exactly where its statement accesses an absent address or asserts what does not hold
abbrev pub FaultsAreExact : Type 0
FaultsAreExact = (p : PlainProgram) (c : Configuration) (e : Entry) (event : Event) → (step p c e ≡ fault event) ↔ IsFault c e event

-- ---- what it keeps

abbrev pub StepsKeepFit : Type 0
StepsKeepFit =
    (p : PlainProgram) (c d : Configuration) (e : Entry) (event : Event) → IsWellFormed p → ConfigurationFits p c → step p c e ≡ next d event → ConfigurationFits p d

abbrev pub StartsFit : Type 0
StartsFit =
    (p : PlainProgram) (arguments : List ℤ) (heap : Heap) →
    IsWellFormed p → IsSomeAnd (slice_get p.functions p.main) (λ f. length arguments ≡ f.params) → ConfigurationFits p (start p arguments heap)
