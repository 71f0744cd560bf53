-- The canonical text of a schedule, which is read as that schedule.
use Rattle.std.specs.Prelude.{◌≡◌, ◌≤◌, ◌<◌, ◌^◌, ℤ, pos, true, List, [], ◌∷◌, ◌++◌, map, flat_map, length, codes, ℕ, Option, Some, None, IfSome, Result, Ok, Err}
use Rattle.std.specs.List.{AllByRecursion}
use Rattle.std.specs.Fmt.{decimal, signed_decimal}
use Rattle.cap_lin.specs.Steps.{fits}
use Rattle.cap_machine.specs.declared.event.Entry.{Entry}
use Rattle.cap_machine.specs.Cells.{AscendsFrom}
use Rattle.cap_replay_schedules.specs.declared.entries.Schedule.{Schedule}
use Rattle.cap_replay_schedules.specs.declared.reading.ScheduleError.{ScheduleError}
use Rattle.cap_replay_schedules.specs.Reading.{Progress, most_entries, read}

-- a schedule as plain data
pub record PlainSchedule : Type 0 where
  pub args : List ℤ
  pub heap : List (ℤ × ℤ)
  pub entries : List Entry

abbrev pub schedule_view : Schedule → PlainSchedule
schedule_view s =
    record { args = s.args.items; heap = s.heap.items; entries = s.entries.items }

-- numbers, each behind a space
abbrev pub numbers_text : List ℤ → List ℕ
numbers_text [] = []
numbers_text (v ∷ vs) = codes " " ++ (signed_decimal v ++ numbers_text vs)

abbrev pub cell_text : ℤ × ℤ → List ℕ
cell_text c = codes "cell " ++ (signed_decimal c.0 ++ (codes " " ++ signed_decimal c.1))

abbrev pub base_text : Option ℤ → List ℕ
base_text None = []
base_text (Some b) = codes " " ++ signed_decimal b

abbrev pub entry_text : Entry → List ℕ
entry_text e = codes "step " ++ (decimal e.thread ++ base_text e.base)

abbrev pub schedule_lines : PlainSchedule → List (List ℕ)
schedule_lines s =
    (codes "start" ++ numbers_text s.args)
    ∷ (map cell_text s.heap ++ (map entry_text s.entries ++ codes "end" ∷ []))

-- a line feed behind each line
abbrev pub schedule_text : PlainSchedule → List ℕ
schedule_text s = flat_map (λ l. l ++ codes "\n") (schedule_lines s)

abbrev pub IsNarrowCell : ℤ × ℤ → Type 0
IsNarrowCell c = (fits c.0 ≡ true) × (fits c.1 ≡ true)

abbrev pub IsNarrowEntry : Entry → Type 0
IsNarrowEntry e = (e.thread < 2 ^ 32) × IfSome e.base (λ b. fits b ≡ true)

-- the numbers are within their bits, the addresses ascend, and there are no more entries than a
-- schedule may have
pub record IsWithinLimits (s : PlainSchedule) : Type 0 where
  pub args : AllByRecursion (λ v. fits v ≡ true) s.args
  pub cells : AllByRecursion IsNarrowCell s.heap
  pub addresses : AscendsFrom (pos 0) s.heap
  pub entries : AllByRecursion IsNarrowEntry s.entries
  pub few : length s.entries ≤ most_entries

-- it is read whole
abbrev pub IsReadWhole : PlainSchedule → Result Progress ScheduleError → Type 0
IsReadWhole s (Ok p) = (s.args ≡ p.args) × (s.heap ≡ p.heap) × (s.entries ≡ p.entries)
IsReadWhole s (Err e) = ⊥

-- what is written of a schedule is read as that schedule
abbrev pub SchedulesAreReadBack : Type 0
SchedulesAreReadBack = (s : PlainSchedule) → IsWithinLimits s → IsReadWhole s (read (schedule_text s))
