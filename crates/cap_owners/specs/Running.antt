-- What contracts see of a run with its accounts.
use Rattle.std.specs.Prelude.{◌≡◌, ℕ, suc, false, List, ◌∷◌}
use Rattle.std.specs.FinMap.{from_entries}
use Rattle.cap_prog.specs.Program.{PlainProgram}
use Rattle.cap_machine.specs.declared.event.Entry.{Entry}
use Rattle.cap_machine.specs.declared.machine.Machine.{Machine}
use Rattle.cap_machine.specs.Machine.{start}
use Rattle.cap_machine.specs.View.{configuration, is_stopped}
use Rattle.cap_replay_schedules.specs.declared.entries.Schedule.{Schedule}
use Rattle.cap_replay.specs.declared.playing.End.{End}
use Rattle.cap_replay.specs.declared.playing.End.TheVariants.{Stopped, Wide}
use Rattle.cap_replay.specs.RunText.{RunText, ends, in_front}
use Rattle.cap_owners_values.specs.declared.error.TraceError.{TraceError}
use Rattle.cap_owners_values.specs.declared.error.TraceError.TheVariants.{PastWidth, Untold, OutOfMemory}
use Rattle.cap_owners_spec.specs.Track.{Track}
use Rattle.cap_owners_spec.specs.Steps.{Proved}
use Rattle.cap_owners_spec.specs.Owners.{shown, owned_from, start_line}
use Rattle.cap_owners.specs.declared.owned.Advanced.{Advanced}
use Rattle.cap_owners.specs.declared.owned.Advanced.TheVariants.{On, Ends}
use Rattle.cap_owners.specs.Tracks.{track_view, TrackIsPlaced}

-- how a run ends whose step, by its number, comes to no track
abbrev pub EndsBy : ℕ → TraceError → End → Type 0
EndsBy number PastWidth end = end ≡ Wide number
EndsBy number Untold end = end ≡ Stopped number
EndsBy number OutOfMemory end = ⊥

-- the text that was written, with what is to come behind it, is the text from before the step on
abbrev pub Advances :
    Proved → ℕ → Entry → Track → Machine → Machine → List ℕ → List ℕ → Advanced → Type 0
Advances d count e k m m' text text' (On k') =
    (es : List Entry) →
    in_front text (owned_from d count (configuration d.program m) (e ∷ es) k)
    ≡ in_front text' (owned_from d (suc count) (configuration d.program m') es (track_view k'))
Advances d count e k m m' text text' (Ends end) =
    (es : List Entry) →
    in_front text (owned_from d count (configuration d.program m) (e ∷ es) k)
    ≡ in_front text' (ends end)

-- where the run goes on the next step may be taken
abbrev pub GoesOn : PlainProgram → Machine → Advanced → Type 0
GoesOn p m (On k) = (is_stopped m ≡ false) × TrackIsPlaced p k
GoesOn p m (Ends end) = Unit {0}

abbrev pub IsFinished : List ℕ → End → RunText → Type 0
IsFinished text end r = r ≡ in_front text (ends end)

-- what is written along a schedule, from the first track on
abbrev pub played_from : Proved → Schedule → Track → RunText
played_from d s k =
    let c = start d.program s.args.items (from_entries s.heap.items) in
    in_front start_line (shown d c (owned_from d 0 c s.entries.items) k)
