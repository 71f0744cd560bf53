-- The track after a step, from what its thread's frames become.
use Rattle.std.proofs.Common.{◌≡◌, ◌∙◌, ap, sym, refl, ℕ, List, ◌∷◌, Option, Some, None, Err}
use Rattle.std.specs.Prelude.{slice_get}
use Rattle.cap_machine.specs.declared.event.Event.{Event}
use Rattle.cap_machine.specs.Machine.{Frame, Configuration, top_frame}
use Rattle.cap_owners_spec.specs.Traced.{Traced, traced, ◌>>=◌}
use Rattle.cap_owners_spec.specs.Track as plain
use Rattle.cap_owners_spec.specs.Steps.{Proved, Moved, after_move, followed, follow}
use Rattle.cap_owners_values.specs.declared.error.TraceError.{TraceError}
use Rattle.cap_owners_values.specs.Views.{Traces}
use Rattle.cap_owners_values.proofs.Tracing.{goes, stops, traces_same}
use Rattle.cap_owners.specs.declared.moves.Moved as code_moved
use Rattle.cap_owners.specs.declared.step.Stepping.{Stepping}
use Rattle.cap_owners.specs.declared.track.Track.{Track}
use Rattle.cap_owners.specs.declared.track.TrackedFrame.{TrackedFrame}
use Rattle.cap_owners.specs.Moves.{moved_view, noted, moves}
use Rattle.cap_owners.specs.Tracks.{frame_view, frames_view, track_view, Sees, SeesTopOf}
use Rattle.cap_owners.proofs.Moving.{moves-same}

-- the machine's frame of which something is kept
sees-some : (s : Stepping) (o : Option Frame) → SeesTopOf (Some s) o → (m : Frame) × (o ≡ Some m) × Sees s m
sees-some s None h = absurd h
sees-some s (Some m) h = (m, refl, h)

follows : (d : Proved) (k : plain.Track) (thread : ℕ) (event : Event) (before after : Configuration) (m : Frame) (top : plain.TrackedFrame) (below : List plain.TrackedFrame) → top_frame (slice_get before.threads thread) ≡ Some m → slice_get k.threads thread ≡ Some (top ∷ below) → follow d k thread event before after ≡ (moves d k.regions (noted top event) below m after thread event >>= λ x. traced (after_move k thread x))
follows d k thread event before after m top below e f =
    ap (λ o. followed d k thread event after o (slice_get k.threads thread)) e
    ∙ (ap (followed d k thread event after (Some m)) f
    ∙ ap (λ t. t >>= λ x. traced (after_move k thread x)) (sym (moves-same d k.regions top below m after thread event)))

-- by the frame that noted the event, and those below it
module _ (d : Proved) (k : plain.Track) (thread : ℕ) (event : Event) (before after : Configuration) (s : Stepping) (top noting : TrackedFrame) (below : List TrackedFrame) (sees : SeesTopOf (Some s) (top_frame (slice_get before.threads thread))) (there : slice_get k.threads thread ≡ Some (frame_view top ∷ frames_view below)) (notes : frame_view noting ≡ noted (frame_view top) event) where
  abbrev moves_with : Frame → Traced Moved
  moves_with m = moves d k.regions (frame_view noting) (frames_view below) m after thread event

  abbrev then : Moved → Traced plain.Track
  then x = traced (after_move k thread x)

  follows-noting : (m : Frame) → top_frame (slice_get before.threads thread) ≡ Some m → follow d k thread event before after ≡ (moves_with m >>= then)
  follows-noting m e =
      follows d k thread event before after m (frame_view top) (frames_view below) e there
      ∙ ap (λ f. moves d k.regions f (frames_view below) m after thread event >>= then) (sym notes)

  pub follow-stops : {C : Type 0} (e : TraceError) (view : C → plain.Track) → ((m : Frame) → Sees s m → Traces {A = Moved} {B = code_moved.Moved} (Err e) moved_view (moves_with m)) → Traces {A = plain.Track} {B = C} (Err e) view (follow d k thread event before after)
  follow-stops e view h =
      let x = sees-some s (top_frame (slice_get before.threads thread)) sees in
      traces_same (Err e) view (follow d k thread event before after) (moves_with x.0 >>= then) (follows-noting x.0 x.1) (stops e moved_view view (moves_with x.0) then (h x.0 x.2))

  pub follow-goes : (x : code_moved.Moved) (y : Track) → ((m : Frame) → Sees s m → moves_with m ≡ traced (moved_view x)) → track_view y ≡ after_move k thread (moved_view x) → follow d k thread event before after ≡ traced (track_view y)
  follow-goes x y h e =
      let z = sees-some s (top_frame (slice_get before.threads thread)) sees in
      follows-noting z.0 z.1 ∙ (goes x moved_view (moves_with z.0) then (h z.0 z.2) ∙ ap traced (sym e))
