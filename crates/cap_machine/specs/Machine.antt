-- The machine: configurations, and one step as one statement of one thread. Values have no bound.
use Rattle.std.specs.Prelude.{◌≡◌, ℕ, zero, suc, ℤ, pos, ◌+ℤ◌, ◌≤ℤ◌, int_lt, int_le, Bool, true, false, not, ◌&&◌, is_some, is_none, if◌then◌else◌, List, [], ◌∷◌, ◌++◌, length, map, replicate, slice_get, slice_set, Option, Some, None, option_map, option_to_list}
use Rattle.std.specs.Ordering.{int_cmp}
use Rattle.std.specs.FinMap.{FinMap, get, insert, remove}
use Rattle.cap_lin.specs.Linear.{Linear}
use Rattle.cap_lin.specs.Values.{number_at, value}
use Rattle.cap_lin.specs.declared.row.Op.{Op}
use Rattle.cap_lin.specs.declared.row.Op.TheVariants.{Eq as Equal, Ne as Unequal, Lt as Less, Le as AtMost, Gt as Greater, Ge as AtLeast}
use Rattle.cap_prog.specs.declared.assertion.Comp.{Comp}
use Rattle.cap_prog.specs.Program.{Label, PlainAct, set, read, write, cas, faa, dispose, alloc, call, fork, branch, loop, check, give_back, Block, done, first, append, PlainFunction, PlainProgram}
use Rattle.cap_machine.specs.declared.event.Entry.{Entry}
use Rattle.cap_machine.specs.declared.event.Event.{Event}
use Rattle.cap_machine.specs.declared.event.Event.TheVariants.{Set, Read, Write, Cas, Faa, Dispose, Alloc, Call, Fork, Branch, Assert, Return, End, Bad, Failed}

-- from positive addresses to whole numbers
abbrev pub Heap : Type 0
Heap = FinMap int_cmp ℤ

-- a function that runs: its number, its arguments at entry, its parameters and locals, its remaining statements, and where the caller's store
-- gets the result
pub record Frame : Type 0 where
  pub function : ℕ
  pub arguments : List ℤ
  pub store : List ℤ
  pub rest : Block
  pub destination : Option ℕ

-- the top frame comes first; a thread without frames has ended
abbrev pub Thread : Type 0
Thread = List Frame

pub record Configuration : Type 0 where
  pub heap : Heap
  pub threads : List Thread

-- a next configuration with its event, or a fault, or no step
pub data Outcome : Type 0 where
  next : Configuration → Event → Outcome
  fault : Event → Outcome
  disabled : Outcome

-- a term's value by a frame's store
abbrev pub value_in : List ℤ → Linear → ℤ
value_in store t = value (number_at store) t

abbrev pub compared : Op → ℤ → ℤ → Bool
compared Equal a b = int_le a b && int_le b a
compared Unequal a b = not (int_le a b && int_le b a)
compared Less a b = int_lt a b
compared AtMost a b = int_le a b
compared Greater a b = int_lt b a
compared AtLeast a b = int_le b a

abbrev pub holds : List ℤ → Comp → Bool
holds store c = compared c.op (value_in store c.left) (value_in store c.right)

-- the stepping thread, its top frame and those below, and the configuration
pub record Spot : Type 0 where
  pub thread : ℕ
  pub frame : Frame
  pub below : List Frame
  pub configuration : Configuration

-- the stepping thread has these frames now, over this heap
abbrev pub goes_on : Spot → Heap → List Frame → Event → Outcome
goes_on s heap frames event = next (record { heap = heap; threads = slice_set s.configuration.threads s.thread frames }) event

abbrev pub with_rest : Frame → Block → Frame
with_rest f rest = record f { rest = rest }

abbrev pub with_value : Frame → ℕ → ℤ → Frame
with_value f x v = record f { store = slice_set f.store x v }

-- the top frame has these statements left
abbrev pub passes : Spot → Heap → Block → Event → Outcome
passes s heap rest event = goes_on s heap (with_rest s.frame rest ∷ s.below) event

-- the top frame has these statements left, and a local of it this value
abbrev pub sets : Spot → Heap → Block → ℕ → ℤ → Event → Outcome
sets s heap rest x v event = goes_on s heap (with_value (with_rest s.frame rest) x v ∷ s.below) event

-- what is done with what an address holds, and a fault where it is absent
abbrev pub at_cell : ℤ → Option ℤ → (ℤ → Outcome) → Outcome
at_cell a None f = fault (Bad a)
at_cell a (Some v) f = f v

abbrev pub swaps : Spot → Block → ℕ → ℤ → ℤ → ℤ → ℤ → Outcome
swaps s rest x a old new v =
    if compared Equal v old
    then sets s (insert s.configuration.heap a new) rest x (pos 1) (Cas a true)
    else sets s s.configuration.heap rest x (pos 0) (Cas a false)

-- the local gets what the cell holds, and the cell that value plus what is added
abbrev pub adds : Spot → Block → ℕ → ℤ → ℤ → ℤ → Outcome
adds s rest x a added v = sets s (insert s.configuration.heap a (v +ℤ added)) rest x v (Faa a v)

-- whether the addresses from the base on are absent, as many as there are new cells
abbrev pub are_free : Heap → ℤ → ℕ → Bool
are_free heap base zero = true
are_free heap base (suc n) = are_free heap base n && is_none (get heap (base +ℤ pos n))

abbrev pub with_cells : Heap → ℤ → ℕ → Heap
with_cells heap base zero = heap
with_cells heap base (suc n) = with_cells (insert heap (base +ℤ pos n) (pos 0)) base n

-- whether the cells may be at this base
abbrev pub may_be_at : Heap → ℤ → ℕ → Bool
may_be_at heap base n = int_le (pos 1) base && are_free heap base n

abbrev pub allocates : Spot → Block → ℕ → ℕ → Option ℤ → Outcome
allocates s rest x n None = disabled
allocates s rest x n (Some base) =
    if may_be_at s.configuration.heap base n
    then sets s (with_cells s.configuration.heap base n) rest x base (Alloc base)
    else disabled

-- a function's first frame: its locals are 0
abbrev pub new_frame : ℕ → PlainFunction → List ℤ → Option ℕ → Frame
new_frame n f arguments destination = record {
  function = n;
  arguments = arguments;
  store = arguments ++ replicate f.locals (pos 0);
  rest = f.body;
  destination = destination;
}

abbrev pub calls : Spot → Block → ℕ → List ℤ → Option ℕ → Option PlainFunction → Outcome
calls s rest n arguments destination None = disabled
calls s rest n arguments destination (Some f) =
    goes_on s s.configuration.heap (new_frame n f arguments destination ∷ with_rest s.frame rest ∷ s.below) Call

-- the new thread is the last one
abbrev pub forks : Spot → Block → ℕ → List ℤ → Option PlainFunction → Outcome
forks s rest n arguments None = disabled
forks s rest n arguments (Some f) =
    next (record {
      heap = s.configuration.heap;
      threads = slice_set s.configuration.threads s.thread (with_rest s.frame rest ∷ s.below) ++ (new_frame n f arguments None ∷ []) ∷ [];
    })
    (Fork (length s.configuration.threads))

-- the caller, which gets the result
abbrev pub receives : Option ℕ → ℤ → Frame → Frame
receives None v f = f
receives (Some x) v f = with_value f x v

abbrev pub returns : Spot → ℤ → List Frame → Outcome
returns s v [] = goes_on s s.configuration.heap [] (End v)
returns s v (f ∷ fs) = goes_on s s.configuration.heap (receives s.frame.destination v f ∷ fs) (Return v)

-- a statement, what follows it, and the base that the entry gives. All of its terms are evaluated first; a block is put in front of what follows
abbrev pub does : PlainProgram → Spot → Label → PlainAct → Block → Option ℤ → Outcome
does p s l (set x t) rest base = let v = value_in s.frame.store t in sets s s.configuration.heap rest x v (Set v)
does p s l (read x address) rest base =
    let a = value_in s.frame.store address in
    at_cell a (get s.configuration.heap a) (λ v. sets s s.configuration.heap rest x v (Read a v))
does p s l (write address t) rest base =
    let a = value_in s.frame.store address in let v = value_in s.frame.store t in
    at_cell a (get s.configuration.heap a) (λ _. passes s (insert s.configuration.heap a v) rest (Write a v))
does p s l (cas x address old new) rest base =
    let a = value_in s.frame.store address in
    at_cell a (get s.configuration.heap a) (swaps s rest x a (value_in s.frame.store old) (value_in s.frame.store new))
does p s l (faa x address t) rest base =
    let a = value_in s.frame.store address in
    at_cell a (get s.configuration.heap a) (adds s rest x a (value_in s.frame.store t))
does p s l (dispose address) rest base =
    let a = value_in s.frame.store address in
    at_cell a (get s.configuration.heap a) (λ _. passes s (remove s.configuration.heap a) rest (Dispose a))
does p s l (alloc x n) rest base = allocates s rest x n base
does p s l (call x n args) rest base = calls s rest n (map (value_in s.frame.store) args) x (slice_get p.functions n)
does p s l (fork n args) rest base = forks s rest n (map (value_in s.frame.store) args) (slice_get p.functions n)
does p s l (branch c a b) rest base =
    if holds s.frame.store c
    then passes s s.configuration.heap (append a rest) (Branch true)
    else passes s s.configuration.heap (append b rest) (Branch false)
does p s l (loop c i a) rest base =
    if holds s.frame.store c
    then passes s s.configuration.heap (append a (first l (loop c i a) rest)) (Branch true)
    else passes s s.configuration.heap rest (Branch false)
does p s l (check c) rest base = if holds s.frame.store c then passes s s.configuration.heap rest Assert else fault (Failed l.place)
does p s l (give_back t) rest base = returns s (value_in s.frame.store t) s.below

-- a base is given exactly to an allocation
abbrev pub takes_base : PlainAct → Option ℤ → Bool
takes_base (alloc x n) base = is_some base
takes_base _ base = is_none base

abbrev pub statement_step : PlainProgram → Spot → Option ℤ → Block → Outcome
statement_step p s base done = disabled
statement_step p s base (first l a rest) = if takes_base a base then does p s l a rest base else disabled

abbrev pub thread_step : PlainProgram → Configuration → Entry → Option Thread → Outcome
thread_step p c e None = disabled
thread_step p c e (Some []) = disabled
thread_step p c e (Some (f ∷ fs)) = statement_step p (record { thread = e.thread; frame = f; below = fs; configuration = c }) e.base f.rest

abbrev pub step : PlainProgram → Configuration → Entry → Outcome
step p c e = thread_step p c e (slice_get c.threads e.thread)

-- the step is no fault, and where there is one this holds of the configuration that it leaves
abbrev pub AfterStep : (Configuration → Type 0) → Outcome → Type 0
AfterStep Q (next c event) = Q c
AfterStep Q (fault event) = ⊥
AfterStep Q disabled = Unit {0}

-- no step of the run along these entries is a fault; what follows an entry that is not enabled is no run
abbrev pub IsFaultless : PlainProgram → Configuration → List Entry → Type 0
IsFaultless p c [] = Unit {0}
IsFaultless p c (e ∷ es) = AfterStep (λ d. IsFaultless p d es) (step p c e)

-- there is a step, and this holds of the configuration that it leaves
abbrev pub IfNext : (Configuration → Type 0) → Outcome → Type 0
IfNext Q (next c event) = Q c
IfNext Q (fault event) = ⊥
IfNext Q disabled = ⊥

-- the run along these entries, each of which is enabled in its turn and is no fault, ends here
abbrev pub RunsTo : PlainProgram → Configuration → List Entry → Configuration → Type 0
RunsTo p c [] d = c ≡ d
RunsTo p c (e ∷ es) d = IfNext (λ b. RunsTo p b es d) (step p c e)

-- main's frame at these arguments
abbrev pub main_frame : PlainProgram → List ℤ → Option Frame
main_frame p arguments = option_map (λ f. new_frame p.main f arguments None) (slice_get p.functions p.main)

-- the configuration in which main begins
abbrev pub start : PlainProgram → List ℤ → Heap → Configuration
start p arguments heap = record { heap = heap; threads = option_to_list (main_frame p arguments) ∷ [] }

-- each address of the heap is positive
abbrev pub IsPositive : Heap → Type 0
IsPositive heap = (a : ℤ) (v : ℤ) → get heap a ≡ Some v → pos 1 ≤ℤ a

abbrev pub top_frame : Option Thread → Option Frame
top_frame (Some (f ∷ fs)) = Some f
top_frame _ = None
