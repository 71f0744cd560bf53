-- The text of a run with its accounts: who owns what at its start and after each of its steps.
use Rattle.std.specs.Prelude.{ℕ, suc, Bool, true, false, List, [], ◌∷◌, codes, Option, Some, None}
use Rattle.std.specs.FinMap.{from_entries}
use Rattle.cap_rules.specs.cap_goal_spec.cap_prog.Program.{PlainProgram}
use Rattle.cap_rules.specs.cap_goal_spec.Choices.{PlainTree}
use Rattle.cap_machine.specs.declared.event.Entry.{Entry}
use Rattle.cap_machine.specs.declared.event.Event.{Event}
use Rattle.cap_machine.specs.Machine.{Heap, Configuration, Outcome, next, fault, disabled, step, start}
use Rattle.cap_machine.specs.Ready.{ahead}
use Rattle.cap_machine.specs.Results.{entry_steps, are_narrow}
use Rattle.cap_replay.specs.declared.playing.End.TheVariants.{Ended, Stopped, NotEnabled, Wide}
use Rattle.cap_replay.specs.cap_replay_schedules.declared.entries.Schedule.{Schedule}
use Rattle.cap_replay.specs.RunText.{step_line, RunText, ends, in_front}
use Rattle.cap_owners_spec.specs.Traced.{Traced, traced, past_width, untold}
use Rattle.cap_owners_spec.specs.Track.{Track, account_of}
use Rattle.cap_owners_spec.specs.Steps.{Proved, follow}
use Rattle.cap_owners_spec.specs.Start.{first_track}
use Rattle.cap_owners_spec.specs.Texts.{account_text}

-- the account of a track, and then what the run writes from there
abbrev pub shown : Proved → Configuration → (Track → RunText) → Track → RunText
shown d c more k = in_front (account_text d.program c (account_of k)) (more k)

-- step `number` comes to this track; or a number on its way leaves its bounds, which ends the run;
-- or the derivation doesn't tell of the step, which ends it as a fault does
abbrev pub told : ℕ → List ℕ → (Track → RunText) → Traced Track → RunText
told number line more (traced k) = in_front line (more k)
told number line more past_width = ends (Wide number)
told number line more untold = ends (Stopped number)

abbrev pub advanced :
    ℕ → Bool → (Event → List ℕ) → (Event → Configuration → Traced Track) →
    (Configuration → Track → RunText) → Outcome → RunText
advanced number narrow line track more disabled = ends (NotEnabled number)
advanced number false line track more (next c event) = ends (Wide number)
advanced number true line track more (next c event) =
    told number (line event) (more c) (track event c)
advanced number false line track more (fault event) = ends (Wide number)
advanced number true line track more (fault event) = in_front (line event) (ends (Stopped number))

-- the run along these entries, after so many steps, from a track whose account was shown
abbrev pub owned_from : Proved → ℕ → Configuration → List Entry → Track → RunText
owned_from d n c [] k = ends (Ended n)
owned_from d n c (e ∷ es) k =
    advanced (suc n) (are_narrow (entry_steps c e)) (step_line (suc n) e.thread (ahead c e.thread))
    (λ event after. follow d k e.thread event c after)
    (λ after. shown d after (owned_from d (suc n) after es)) (step d.program c e)

abbrev pub start_line : List ℕ
start_line = codes "start\n"

-- none where the start doesn't meet what main requires
abbrev pub begun : (Track → RunText) → Traced (Option Track) → Option RunText
begun more (traced None) = None
begun more (traced (Some k)) = Some (in_front start_line (more k))
begun more past_width = Some (ends (Wide 0))
begun more untold = Some (ends (Stopped 0))

-- the run along a schedule, by a derivation of the program
unfoldable pub owners_text :
    PlainProgram → List (Option PlainTree) → Schedule → Option RunText
owners_text p trees s =
    let d : Proved = record { program = p; trees = trees } in
    let heap : Heap = from_entries s.heap.items in
    let c = start p s.args.items heap in
    begun (shown d c (owned_from d 0 c s.entries.items)) (first_track d s.args.items heap)
