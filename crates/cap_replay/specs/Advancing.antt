-- One step of a run, as the work that remains.
use Rattle.std.specs.Prelude.{◌≡◌, ℕ, suc, Bool, true, false, List, ◌∷◌, Option, Some, None}
use Rattle.cap_prog.specs.Program.{PlainProgram}
use Rattle.cap_machine.specs.declared.event.Entry.{Entry}
use Rattle.cap_machine.specs.declared.event.Event.{Event}
use Rattle.cap_machine.specs.declared.event.Event.TheVariants.{Bad, Failed}
use Rattle.cap_machine.specs.declared.machine.Machine.{Machine}
use Rattle.cap_machine.specs.View.{configuration, is_stopped}
use Rattle.cap_replay.specs.declared.playing.End.{End}
use Rattle.cap_replay.specs.RunText.{ends, in_front, run_from}

abbrev pub is_fault : Event → Bool
is_fault (Bad a) = true
is_fault (Failed place) = true
is_fault _ = false

-- the run from here is what was written, and then the end, or the run from where the machine is now
abbrev pub Advances : PlainProgram → ℕ → Entry → Machine → Machine → List ℕ → List ℕ → Option End → Type 0
Advances p k e before after old new None =
    ((es : List Entry) → in_front old (run_from p k (configuration p before) (e ∷ es)) ≡ in_front new (run_from p (suc k) (configuration p after) es))
    × (is_stopped after ≡ false)
Advances p k e before after old new (Some end) = (es : List Entry) → in_front old (run_from p k (configuration p before) (e ∷ es)) ≡ in_front new (ends end)
