-- The text of a run along a schedule: a line for each step, and a last line.
use Rattle.std.specs.Prelude.{ℕ, suc, ℤ, Bool, true, false, List, [], ◌∷◌, ◌++◌, codes, Option, Some, None}
use Rattle.std.specs.Fmt.{decimal, signed_decimal}
use Rattle.std.specs.FinMap.{from_entries}
use Rattle.cap_syntax.specs.declared.place.Place.{Place}
use Rattle.cap_syntax.specs.Place.{place_text}
use Rattle.cap_prog.specs.Program.{PlainProgram}
use Rattle.cap_machine.specs.declared.event.Ahead.{Ahead}
use Rattle.cap_machine.specs.declared.event.Entry.{Entry}
use Rattle.cap_machine.specs.declared.event.Event.{Event}
use Rattle.cap_machine.specs.declared.event.Event.TheVariants.{Set, Read, Write, Cas, Faa, Dispose, Alloc, Call, Fork, Branch, Assert, Return, End as Ends, Bad, Failed}
use Rattle.cap_machine.specs.Machine.{Configuration, Outcome, next, fault, disabled, step, start}
use Rattle.cap_machine.specs.Ready.{ahead}
use Rattle.cap_machine.specs.Results.{entry_steps, are_narrow}
use Rattle.cap_replay.specs.declared.playing.End.{End}
use Rattle.cap_replay.specs.declared.playing.End.TheVariants.{Ended, Stopped, NotEnabled, Wide}
use Rattle.cap_replay.specs.declared.playing.Played.{Played}
use Rattle.cap_replay_schedules.specs.declared.entries.Schedule.{Schedule}

abbrev pub pair_text : ℤ → ℤ → List ℕ
pair_text a v = signed_decimal a ++ codes " " ++ signed_decimal v

-- addresses come before values
abbrev pub event_text : Event → List ℕ
event_text (Set v) = codes "set " ++ signed_decimal v
event_text (Read a v) = codes "read " ++ pair_text a v
event_text (Write a v) = codes "write " ++ pair_text a v
event_text (Cas a true) = codes "cas " ++ signed_decimal a ++ codes " 1"
event_text (Cas a false) = codes "cas " ++ signed_decimal a ++ codes " 0"
event_text (Faa a v) = codes "faa " ++ pair_text a v
event_text (Dispose a) = codes "dispose " ++ signed_decimal a
event_text (Alloc b) = codes "alloc " ++ signed_decimal b
event_text Call = codes "call"
event_text (Fork thread) = codes "fork " ++ decimal thread
event_text (Branch true) = codes "branch 1"
event_text (Branch false) = codes "branch 0"
event_text Assert = codes "assert"
event_text (Return v) = codes "return " ++ signed_decimal v
event_text (Ends v) = codes "end " ++ signed_decimal v
event_text (Bad a) = codes "fault " ++ signed_decimal a
event_text (Failed place) = codes "failed"

-- the step's number, its thread, and the place of its statement
abbrev pub head_text : ℕ → ℕ → Place → List ℕ
head_text number thread place = (decimal number ++ codes " ") ++ (decimal thread ++ codes " ") ++ (place_text place ++ codes " ")

-- the line of a step, by what was ahead of its thread
abbrev pub step_line : ℕ → ℕ → Option Ahead → Event → List ℕ
step_line number thread None event = []
step_line number thread (Some a) event = head_text number thread a.place ++ (event_text event ++ codes "\n")

abbrev pub last_line : End → List ℕ
last_line (Ended k) = codes "ended " ++ decimal k ++ codes "\n"
last_line (Stopped k) = codes "stopped " ++ decimal k ++ codes "\n"
last_line (NotEnabled k) = codes "not enabled " ++ decimal k ++ codes "\n"
last_line (Wide k) = codes "wide " ++ decimal k ++ codes "\n"

pub record RunText : Type 0 where
  pub text : List ℕ
  pub end : End

abbrev pub ends : End → RunText
ends e = record { text = last_line e; end = e }

abbrev pub in_front : List ℕ → RunText → RunText
in_front line r = record { text = line ++ r.text; end = r.end }

-- what an entry's step writes, and then what the run writes from the configuration that it leaves
abbrev pub taken : Bool → ℕ → (Event → List ℕ) → (Configuration → RunText) → Outcome → RunText
taken narrow number line more disabled = ends (NotEnabled number)
taken false number line more (next c event) = ends (Wide number)
taken true number line more (next c event) = in_front (line event) (more c)
taken false number line more (fault event) = ends (Wide number)
taken true number line more (fault event) = in_front (line event) (ends (Stopped number))

-- the run along these entries, after so many steps
abbrev pub run_from : PlainProgram → ℕ → Configuration → List Entry → RunText
run_from p k c [] = ends (Ended k)
run_from p k c (e ∷ es) =
    taken (are_narrow (entry_steps c e)) (suc k) (step_line (suc k) e.thread (ahead c e.thread)) (λ d. run_from p (suc k) d es) (step p c e)

abbrev pub run_text : PlainProgram → Schedule → RunText
run_text p s = run_from p 0 (start p s.args.items (from_entries s.heap.items)) s.entries.items

-- what the code gives
abbrev pub played_view : Played → RunText
played_view r = record { text = r.text.items; end = r.end }
