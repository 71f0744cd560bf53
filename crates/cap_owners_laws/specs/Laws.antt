-- What holds of the text of a run with its accounts, of its start and of a step of its track.
use Rattle.std.specs.Prelude.{◌≡◌, ◌≢◌, ◌⊎◌, ℕ, suc, ℤ, Bool, true, false, List, [], ◌∷◌, map, length, slice_get, Some, None}
use Rattle.cap_rules.specs.cap_goal_spec.cap_prog.Program.{PlainFunction, PlainProgram}
use Rattle.cap_machine.specs.declared.event.Entry.{Entry}
use Rattle.cap_machine.specs.declared.event.Event.{Event}
use Rattle.cap_machine.specs.declared.event.Event.TheVariants.{Call, Return, End}
use Rattle.cap_machine.specs.Machine.{Heap, Configuration, Outcome, next, fault, disabled, step, start, IsPositive}
use Rattle.cap_machine.specs.Ready.{ahead}
use Rattle.cap_machine.specs.Results.{entry_steps, are_narrow}
use Rattle.cap_machine_accounts.specs.Assertions.{NameValue}
use Rattle.cap_machine_accounts.specs.Accounts.{Account}
use Rattle.cap_machine_accounts.specs.Safety.{first_account, Start}
use Rattle.cap_replay.specs.declared.playing.End.TheVariants.{Ended, Stopped, NotEnabled, Wide}
use Rattle.cap_replay.specs.RunText.{step_line, RunText, ends, in_front}
use Rattle.cap_owners_spec.specs.Traced.{traced}
use Rattle.cap_owners_spec.specs.Track.{TrackedFrame, Track, account_of}
use Rattle.cap_owners_spec.specs.Steps.{Proved, follow}
use Rattle.cap_owners_spec.specs.Start.{first_track}
use Rattle.cap_owners_spec.specs.Texts.{account_text}
use Rattle.cap_owners_spec.specs.Owners.{owned_from}

-- the track has a frame for each of the machine's
abbrev pub FitsThreads : Configuration → Track → Type 0
FitsThreads c k = map length k.threads ≡ map length c.threads

-- ---- the run

-- the account says of each frame of the configuration what it has
abbrev pub HasFrames : Configuration → Account → Type 0
HasFrames c a = map length a.threads ≡ map length c.threads

-- behind a step comes an account of the configuration that it leaves, and then what is shown of the
-- run from there; or the run ends, as too wide or as not told of
abbrev pub IsStepShown :
    PlainProgram → ℕ → List ℕ → (RunText → Type 0) → Configuration → RunText → Type 0
IsStepShown p number line More after r =
    (r ≡ ends (Wide number))
    ⊎ ((r ≡ ends (Stopped number))
    ⊎ ((a : Account) × (more : RunText) × HasFrames after a × More more
    × (r ≡ in_front line (in_front (account_text p after a) more))))

abbrev pub IsOutcomeShown :
    PlainProgram → ℕ → Bool → (Event → List ℕ) → (Configuration → RunText → Type 0) → Outcome →
    RunText → Type 0
IsOutcomeShown p number narrow line More disabled r = r ≡ ends (NotEnabled number)
IsOutcomeShown p number false line More (next c event) r = r ≡ ends (Wide number)
IsOutcomeShown p number true line More (next c event) r =
    IsStepShown p number (line event) (More c) c r
IsOutcomeShown p number false line More (fault event) r = r ≡ ends (Wide number)
IsOutcomeShown p number true line More (fault event) r =
    r ≡ in_front (line event) (ends (Stopped number))

-- the text shows the machine's run along these entries, after so many steps
abbrev pub ShowsRun : PlainProgram → ℕ → Configuration → List Entry → RunText → Type 0
ShowsRun p n c [] r = r ≡ ends (Ended n)
ShowsRun p n c (e ∷ es) r =
    IsOutcomeShown p (suc n) (are_narrow (entry_steps c e))
    (step_line (suc n) e.thread (ahead c e.thread))
    (λ after more. ShowsRun p (suc n) after es more) (step p c e) r

-- whatever the derivation, from a track that fits the configuration
abbrev pub RunsAreTheMachines : Type 0
RunsAreTheMachines =
    (d : Proved) (n : ℕ) (c : Configuration) (es : List Entry) (k : Track) → FitsThreads c k →
    ShowsRun d.program n c es (owned_from d n c es k)

-- ---- the start

abbrev pub IsMet : Proved → List ℤ → Heap → PlainFunction → Track → Type 0
IsMet d args heap main k =
    (fixed : List NameValue)
    × Start d.program main args heap fixed
    × (account_of k ≡ first_account heap fixed)
    × FitsThreads (start d.program args heap) k

abbrev pub IsUnmet : Proved → List ℤ → Heap → PlainFunction → Type 0
IsUnmet d args heap main = (fixed : List NameValue) → ¬ Start d.program main args heap fixed

pub record StartsAreExact : Type 0 where
  pub met : (d : Proved) (main : PlainFunction) (args : List ℤ) (heap : Heap) (k : Track) →
      slice_get d.program.functions d.program.main ≡ Some main → length args ≡ main.params →
      IsPositive heap → first_track d args heap ≡ traced (Some k) → IsMet d args heap main k
  pub unmet : (d : Proved) (main : PlainFunction) (args : List ℤ) (heap : Heap) →
      slice_get d.program.functions d.program.main ≡ Some main → length args ≡ main.params →
      first_track d args heap ≡ traced None → IsUnmet d args heap main

-- ---- a step

abbrev pub OthersKeep : Type 0
OthersKeep =
    (d : Proved) (k k' : Track) (thread : ℕ) (event : Event) (before after : Configuration) →
    follow d k thread event before after ≡ traced k' →
    (i : ℕ) (fs : List TrackedFrame) → i ≢ thread → slice_get k.threads i ≡ Some fs →
    slice_get k'.threads i ≡ Some fs

-- the fixed names have the same values
abbrev pub SameNames : TrackedFrame → TrackedFrame → Type 0
SameNames f g = g.held.fixed ≡ f.held.fixed

-- the top frame stays, or the caller does, on those below it
abbrev pub StaysOn : TrackedFrame → List TrackedFrame → List TrackedFrame → Type 0
StaysOn f below fs = (g : TrackedFrame) × (fs ≡ g ∷ below) × SameNames f g

abbrev pub ReturnsTo : List TrackedFrame → List TrackedFrame → Type 0
ReturnsTo [] fs = fs ≡ []
ReturnsTo (c ∷ below) fs = StaysOn c below fs

-- what the step makes of the frames of its thread
abbrev pub FramesGo : Event → TrackedFrame → List TrackedFrame → List TrackedFrame → Type 0
FramesGo Call top below fs =
    (callee : TrackedFrame) × (caller : TrackedFrame) × (fs ≡ callee ∷ (caller ∷ below))
    × SameNames top caller
FramesGo (Return v) top below fs = ReturnsTo below fs
FramesGo (End v) top below fs = ReturnsTo below fs
FramesGo event top below fs = StaysOn top below fs

abbrev pub FramesKeep : Type 0
FramesKeep =
    (d : Proved) (k k' : Track) (thread : ℕ) (event : Event) (before after : Configuration) →
    follow d k thread event before after ≡ traced k' →
    (top : TrackedFrame) (below : List TrackedFrame) →
    slice_get k.threads thread ≡ Some (top ∷ below) →
    (fs : List TrackedFrame)
    × (slice_get k'.threads thread ≡ Some fs)
    × FramesGo event top below fs
