-- The text of a run, by what its first track comes to.
use Rattle.std.proofs.Common.{◌≡◌, ◌∙◌, ap, sym, List, ◌++◌, ℕ, Option, Some, None, Err}
use Rattle.std.specs.Prelude.{ℤ}
use Rattle.std.specs.FinMap.{from_entries}
use Rattle.cap_prog.specs.Program.{PlainProgram}
use Rattle.cap_goal_spec.specs.Choices.{PlainTree}
use Rattle.cap_machine.specs.declared.event.Entry.{Entry}
use Rattle.cap_machine.specs.Machine.{Configuration, start}
use Rattle.cap_replay_schedules.specs.declared.entries.Schedule.{Schedule}
use Rattle.cap_replay.specs.declared.playing.End.{End}
use Rattle.cap_replay.specs.RunText.{RunText, ends, in_front}
use Rattle.cap_owners_values.specs.declared.error.TraceError.{TraceError}
use Rattle.cap_owners_values.specs.declared.error.TraceError.TheVariants.{PastWidth, Untold, OutOfMemory}
use Rattle.cap_owners_values.specs.Views.{Traces}
use Rattle.cap_owners_spec.specs.Traced.{Traced, traced}
use Rattle.cap_owners_spec.specs.Track.{Track, account_of}
use Rattle.cap_owners_spec.specs.Texts.{account_text}
use Rattle.cap_owners_spec.specs.Start.{first_track}
use Rattle.cap_owners_spec.specs.Steps.{Proved}
use Rattle.cap_owners_spec.specs.Owners.{begun, owned_from, owners_text, shown, start_line}
use Rattle.cap_owners_places.specs.Views.{proved_of}
use Rattle.cap_owners.specs.Running.{played_from, EndsBy}
use Rattle.cap_owners.proofs.Running.{more-front}

-- the start and the first account, and the run behind them
pub played-same : (d : Proved) (s : Schedule) (k : Track) (c : Configuration) (text new : List ℕ) (es : List Entry) → c ≡ start d.program s.args.items (from_entries s.heap.items) → text ≡ start_line → new ≡ text ++ account_text d.program c (account_of k) → es ≡ s.entries.items → in_front new (owned_from d 0 c es k) ≡ played_from d s k
played-same d s k c text new es e f g h =
    let first = start d.program s.args.items (from_entries s.heap.items) in
    ap (λ t. in_front t (owned_from d 0 c es k)) (g ∙ ap (λ t. t ++ account_text d.program c (account_of k)) f)
    ∙ (sym (more-front start_line (account_text d.program c (account_of k)) (owned_from d 0 c es k))
    ∙ (ap (λ x. in_front start_line (shown d x (owned_from d 0 x es) k)) e
    ∙ ap (λ xs. in_front start_line (shown d first (owned_from d 0 first xs) k)) h))

module _ (p : PlainProgram) (ts : List (Option PlainTree)) (s : Schedule) where
  abbrev more : Track → RunText
  more k =
      let c = start p s.args.items (from_entries s.heap.items) in
      shown (proved_of p ts) c (owned_from (proved_of p ts) 0 c s.entries.items) k

  abbrev first_of : Traced (Option Track)
  first_of = first_track (proved_of p ts) s.args.items (from_entries s.heap.items)

  pub first-same : (args : List ℤ) (heap : List (ℤ × ℤ)) → args ≡ s.args.items → heap ≡ s.heap.items → first_track (proved_of p ts) args (from_entries heap) ≡ first_of
  first-same args heap e h =
      ap (λ a. first_track (proved_of p ts) a (from_entries heap)) e
      ∙ ap (λ x. first_track (proved_of p ts) s.args.items (from_entries x)) h

  pub text-none : first_of ≡ traced None → owners_text p ts s ≡ None
  unfolding owners_text
  text-none e = ap (begun more) e

  pub text-some : (k : Track) → first_of ≡ traced (Some k) → owners_text p ts s ≡ Some (played_from (proved_of p ts) s k)
  unfolding owners_text
  text-some k e = ap (begun more) e

  pub text-ends : {C : Type 0} (x : TraceError) (end : End) (view : C → Option Track) → Traces {A = Option Track} {B = C} (Err x) view first_of → EndsBy 0 x end → owners_text p ts s ≡ Some (ends end)
  unfolding owners_text
  text-ends PastWidth end view h e = ap (begun more) h ∙ ap (λ z. Some (ends z)) (sym e)
  text-ends Untold end view h e = ap (begun more) h ∙ ap (λ z. Some (ends z)) (sym e)
  text-ends OutOfMemory end view h e = absurd e
