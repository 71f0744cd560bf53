-- What a step of a track leaves as it is.
use Rattle.std.proofs.Common.{◌≡◌, ℕ, zero, suc, List, [], ◌∷◌, ◌++◌, Option, Some, None, refl, ap, subst}
use Rattle.std.specs.Prelude.{◌≢◌, slice_get, slice_set}
use Rattle.cap_machine.specs.declared.event.Event.{Event}
use Rattle.cap_machine.specs.Machine.{Frame, Configuration, top_frame}
use Rattle.cap_owners_spec.specs.Traced.{Traced, traced, past_width, untold, ◌>>=◌}
use Rattle.cap_owners_spec.specs.Track.{TrackedFrame, Track}
use Rattle.cap_owners_spec.specs.Steps.{Proved, Scene, Moved, moved, new_thread, after_move, followed, follow}

-- what comes to something went through something
pub was-traced :
    {A B : Type 0} (o : Traced A) (f : A → Traced B) (y : B) → (o >>= f) ≡ traced y →
    (x : A) × (o ≡ traced x) × (f x ≡ traced y)
was-traced (traced x) f y e = (x, refl, e)
was-traced past_width f y e = absurd (cc)
was-traced untold f y e = absurd (cc)

pub traced-same : {A : Type 0} (x y : A) → traced x ≡ traced y → x ≡ y
traced-same x y e = cc

-- members of a list at other numbers
other-set :
    {A : Type 0} (xs : List A) (n i : ℕ) (x y : A) → i ≢ n → slice_get xs i ≡ Some y →
    slice_get (slice_set xs n x) i ≡ Some y
other-set [] n i x y ne e = absurd (cc)
other-set (z ∷ xs) zero zero x y ne e = absurd (ne refl)
other-set (z ∷ xs) zero (suc i) x y ne e = e
other-set (z ∷ xs) (suc n) zero x y ne e = e
other-set (z ∷ xs) (suc n) (suc i) x y ne e = other-set xs n i x y (λ q. ne (ap suc q)) e

pub in-front :
    {A : Type 0} (xs ys : List A) (i : ℕ) (y : A) → slice_get xs i ≡ Some y →
    slice_get (xs ++ ys) i ≡ Some y
in-front [] ys i y e = absurd (cc)
in-front (x ∷ xs) ys zero y e = e
in-front (x ∷ xs) ys (suc i) y e = in-front xs ys i y e

module _ (d : Proved) (k k' : Track) (thread : ℕ) (event : Event) (after : Configuration) where
  abbrev scene : Frame → TrackedFrame → List TrackedFrame → Scene
  scene m top below = record {
    frame = m;
    after = after;
    thread = thread;
    top = top;
    below = below;
    regions = k.regions;
  }

  kept-by :
      (m : Option Frame) (o : Option (List TrackedFrame)) →
      followed d k thread event after m o ≡ traced k' → (x : Moved) × (after_move k thread x ≡ k')
  kept-by None o e = absurd (cc)
  kept-by (Some m) None e = absurd (cc)
  kept-by (Some m) (Some []) e = absurd (cc)
  kept-by (Some m) (Some (top ∷ below)) e =
      let w = was-traced (moved d (scene m top below) event)
      (λ x. traced (after_move k thread x)) k' e in
      (w.0, traced-same (after_move k thread w.0) k' w.2)

pub others-keep :
    (d : Proved) (k k' : Track) (thread : ℕ) (event : Event) (before after : Configuration) →
    follow d k thread event before after ≡ traced k' →
    (i : ℕ) (fs : List TrackedFrame) → i ≢ thread → slice_get k.threads i ≡ Some fs →
    slice_get k'.threads i ≡ Some fs
others-keep d k k' thread event before after e i fs ne h =
    let w = kept-by d k k' thread event after (top_frame (slice_get before.threads thread))
    (slice_get k.threads thread) e in
    subst (λ t. slice_get t.threads i ≡ Some fs) w.1
    (in-front (slice_set k.threads thread w.0.frames) (new_thread w.0.forked) i fs
    (other-set k.threads thread i w.0.frames fs ne h))
