-- The walk of a frame, by what was given to it.
use Rattle.std.proofs.Common.{◌≡◌, ◌∙◌, ap, sym, subst, Bool, List, [], Option, Result, Err}
use Rattle.cap_machine.specs.declared.event.Event.{Event}
use Rattle.cap_owners_spec.specs.Traced.{Traced, traced, ◌>>=◌}
use Rattle.cap_owners_spec.specs.Track.{Fill, GivenAssertion, TrackedRegion, TrackedFrame}
use Rattle.cap_owners_spec.specs.Walks.{Walk, Halt, walk_from}
use Rattle.cap_owners_spec.specs.Steps.{Proved, beginning, fill_now, frame_walk, interpreted}
use Rattle.cap_owners_values.specs.declared.error.TraceError.{TraceError}
use Rattle.cap_owners_values.specs.Views.{Traces}
use Rattle.cap_owners_values.proofs.Tracing as tracing

module _ (d : Proved) (seating : Bool) (rs : List TrackedRegion) (f : TrackedFrame) (events : List Event) (o : Option GivenAssertion) (from : o ≡ f.given) where
  abbrev walk_by : Option Fill → Traced Halt
  walk_by fill = walk_from (interpreted d) d.program seating f.seat (beginning rs f.values [] fill events)

  pub walk-stops : {C D : Type 0} (e : TraceError) (view : C → Option Fill) (other : D → Halt) → Traces {A = Option Fill} {B = C} (Err e) view (fill_now d rs o) → Traces {A = Halt} {B = D} (Err e) other (frame_walk d seating rs f events)
  walk-stops e view other h = tracing.stops e view other (fill_now d rs f.given) walk_by (subst (λ z. Traces (Err e) view (fill_now d rs z)) from h)

  pub walk-goes : {D : Type 0} (fill : Option Fill) (w : Walk) (r : Result D TraceError) (other : D → Halt) → fill_now d rs o ≡ traced fill → w ≡ beginning rs f.values [] fill events → Traces r other (walk_from (interpreted d) d.program seating f.seat w) → Traces r other (frame_walk d seating rs f events)
  walk-goes fill w r other g e h =
      tracing.traces_same r other (frame_walk d seating rs f events) (walk_from (interpreted d) d.program seating f.seat w)
      (ap (λ z. fill_now d rs z >>= walk_by) (sym from) ∙ (ap (λ t. t >>= walk_by) g ∙ ap (walk_from (interpreted d) d.program seating f.seat) (sym e)))
      h
