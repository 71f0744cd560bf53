-- How the lines of a schedule are read, one after the other.
use Rattle.std.specs.Prelude.{◌≡◌, ℕ, suc, ◌^◌, ◌-◌, ℤ, pos, int_lt, nat_lt, if◌then◌else◌, List, [], ◌∷◌, ◌++◌, length, Option, Some, None, option_map, Result, Ok, Err, bytes_eq, codes}
use Rattle.cap_machine.specs.declared.event.Entry.{Entry}
use Rattle.cap_replay_schedules.specs.declared.entries.Schedule.{Schedule}
use Rattle.cap_replay_schedules.specs.declared.reading.Reader.{Reader}
use Rattle.cap_replay_schedules.specs.declared.reading.ScheduleError.{ScheduleError}
use Rattle.cap_replay_schedules.specs.declared.reading.ScheduleError.TheVariants.{BadLine, TooMany, OutOfMemory}
use Rattle.cap_replay_schedules.specs.declared.reading.Stage.{Stage}
use Rattle.cap_replay_schedules.specs.declared.reading.Stage.TheVariants.{Start, Cells, Steps, End}
use Rattle.cap_replay_schedules.specs.Pieces.{pieces}
use Rattle.cap_replay_schedules.specs.Numbers.{natural, number}

-- ---- what the words behind the first one of a line say

abbrev pub put_number : Option ℤ → Option (List ℤ) → Option (List ℤ)
put_number None vs = None
put_number (Some v) vs = option_map (λ xs. v ∷ xs) vs

abbrev pub numbers_of : List (List ℕ) → Option (List ℤ)
numbers_of [] = Some []
numbers_of (w ∷ ws) = put_number (number w) (numbers_of ws)

-- a number that is the last word
abbrev pub last_number : List (List ℕ) → Option ℤ
last_number [] = None
last_number (w ∷ []) = number w
last_number (w ∷ v ∷ ws) = None

abbrev pub address_of : List ℕ → Option ℤ
address_of w = option_map pos (natural (2 ^ 127 - 1) w)

abbrev pub cell_with : Option ℤ → Option ℤ → Option (ℤ × ℤ)
cell_with (Some a) (Some v) = Some (a, v)
cell_with _ _ = None

abbrev pub cell_of : List (List ℕ) → Option (ℤ × ℤ)
cell_of [] = None
cell_of (a ∷ ws) = cell_with (address_of a) (last_number ws)

-- an entry may have no base
abbrev pub base_of : List (List ℕ) → Option (Option ℤ)
base_of [] = Some None
base_of (w ∷ ws) = option_map Some (last_number (w ∷ ws))

abbrev pub entry_with : Option ℕ → Option (Option ℤ) → Option Entry
entry_with (Some t) (Some base) = Some (record { thread = t; base = base })
entry_with _ _ = None

abbrev pub entry_of : List (List ℕ) → Option Entry
entry_of [] = None
entry_of (t ∷ ws) = entry_with (natural (2 ^ 32 - 1) t) (base_of ws)

-- ---- lines

-- what was read so far, and the last address of the heap
pub record Progress : Type 0 where
  pub stage : Stage
  pub last : ℤ
  pub args : List ℤ
  pub heap : List (ℤ × ℤ)
  pub entries : List Entry

abbrev pub begins : Progress
begins = record { stage = Start; last = pos 0; args = []; heap = []; entries = [] }

abbrev pub bad_unless : ℕ → Option Progress → Result Progress ScheduleError
bad_unless n None = Err (BadLine n)
bad_unless n (Some p) = Ok p

abbrev pub takes_args : Progress → Option (List ℤ) → Option Progress
takes_args p None = None
takes_args p (Some vs) = Some (record p { stage = Cells; args = vs })

-- addresses ascend
abbrev pub takes_cell : Progress → Option (ℤ × ℤ) → Option Progress
takes_cell p None = None
takes_cell p (Some c) = if int_lt p.last c.0 then Some (record p { last = c.0; heap = p.heap ++ c ∷ [] }) else None

abbrev pub most_entries : ℕ
most_entries = 100000

abbrev pub takes_entry : ℕ → Progress → Option Entry → Result Progress ScheduleError
takes_entry n p None = Err (BadLine n)
takes_entry n p (Some e) = if nat_lt (length p.entries) most_entries then Ok (record p { stage = Steps; entries = p.entries ++ e ∷ [] }) else Err TooMany

abbrev pub takes_end : Progress → List (List ℕ) → Option Progress
takes_end p [] = Some (record p { stage = End })
takes_end p (w ∷ ws) = None

abbrev pub step_or_end : ℕ → Progress → List ℕ → List (List ℕ) → Result Progress ScheduleError
step_or_end n p w ws =
    if bytes_eq w (codes "step")
    then takes_entry n p (entry_of ws)
    else (if bytes_eq w (codes "end") then bad_unless n (takes_end p ws) else Err (BadLine n))

abbrev pub by_stage : Stage → ℕ → Progress → List ℕ → List (List ℕ) → Result Progress ScheduleError
by_stage Start n p w ws = if bytes_eq w (codes "start") then bad_unless n (takes_args p (numbers_of ws)) else Err (BadLine n)
by_stage Cells n p w ws = if bytes_eq w (codes "cell") then bad_unless n (takes_cell p (cell_of ws)) else step_or_end n p w ws
by_stage Steps n p w ws = step_or_end n p w ws
by_stage End n p w ws = Err (BadLine n)

abbrev pub of_words : ℕ → Progress → List (List ℕ) → Result Progress ScheduleError
of_words n p [] = Err (BadLine n)
of_words n p (w ∷ ws) = by_stage p.stage n p w ws

-- the line of this number, behind what was read
abbrev pub take_line : ℕ → Progress → List ℕ → Result Progress ScheduleError
take_line n p line = of_words n p (pieces 32 line)

-- ---- the whole

abbrev pub or_empty : Option (List ℕ) → List ℕ
or_empty None = []
or_empty (Some bs) = bs

-- nothing behind the last line feed is no line
abbrev pub lines_of : List (List ℕ) → List (List ℕ)
lines_of [] = []
lines_of ([] ∷ []) = []
lines_of (l ∷ ls) = l ∷ lines_of ls

abbrev pub then_read : Result Progress ScheduleError → (Progress → Result Progress ScheduleError) → Result Progress ScheduleError
then_read (Ok p) f = f p
then_read (Err e) f = Err e

abbrev pub ended : ℕ → Stage → Progress → Result Progress ScheduleError
ended n End p = Ok p
ended n _ p = Err (BadLine n)

abbrev pub read_from : ℕ → Progress → List (List ℕ) → Result Progress ScheduleError
read_from n p [] = ended n p.stage p
read_from n p (l ∷ ls) = then_read (take_line n p l) (λ q. read_from (suc n) q ls)

abbrev pub read : List ℕ → Result Progress ScheduleError
read bytes = read_from 1 begins (lines_of (pieces 10 bytes))

-- ---- what the code shows

abbrev pub reader_view : Reader → Progress
reader_view r = record { stage = r.stage; last = r.last; args = r.schedule.args.items; heap = r.schedule.heap.items; entries = r.schedule.entries.items }

-- the answer is what is read, unless memory runs out
abbrev pub GivesProgress : {T : Type 0} → Result T ScheduleError → (T → Progress) → Result Progress ScheduleError → Type 0
GivesProgress (Ok x) view r = r ≡ Ok (view x)
GivesProgress (Err (BadLine n)) view r = r ≡ Err (BadLine n)
GivesProgress (Err TooMany) view r = r ≡ Err TooMany
GivesProgress (Err OutOfMemory) view r = Unit {0}

-- the schedule that was read whole
abbrev pub IsReadAs : Result Schedule ScheduleError → Result Progress ScheduleError → Type 0
IsReadAs (Ok s) (Ok p) = (s.args.items ≡ p.args) × (s.heap.items ≡ p.heap) × (s.entries.items ≡ p.entries)
IsReadAs (Ok s) (Err e) = ⊥
IsReadAs (Err (BadLine n)) r = r ≡ Err (BadLine n)
IsReadAs (Err TooMany) r = r ≡ Err TooMany
IsReadAs (Err OutOfMemory) r = Unit {0}
