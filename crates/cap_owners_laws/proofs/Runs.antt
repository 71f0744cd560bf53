-- The text goes along the machine's own run.
use Rattle.std.proofs.Common.{◌≡◌, inl, inr, ℕ, suc, List, [], ◌∷◌, map, length, Bool, true, false, refl, ap, ◌∙◌}
use Rattle.cap_machine.specs.declared.event.Entry.{Entry}
use Rattle.cap_machine.specs.declared.event.Event.{Event}
use Rattle.cap_machine.specs.Machine.{Configuration, Outcome, next, fault, disabled, step}
use Rattle.cap_machine.specs.Ready.{ahead}
use Rattle.cap_machine.specs.Results.{entry_steps, are_narrow}
use Rattle.cap_replay.specs.RunText.{step_line, RunText}
use Rattle.cap_owners_spec.specs.Traced.{Traced, traced, past_width, untold}
use Rattle.cap_owners_spec.specs.Track.{Track, account_of}
use Rattle.cap_owners_spec.specs.Steps.{Proved, follow}
use Rattle.cap_owners_spec.specs.Owners.{shown, told, advanced, owned_from}
use Rattle.cap_owners_laws.specs.Laws.{FitsThreads, HasFrames, IsStepShown, IsOutcomeShown, ShowsRun}
use Rattle.cap_owners_laws.proofs.Meetings.{On}
use Rattle.cap_owners_laws.proofs.Fitting.{fits-after}

same-length : {A B : Type 0} (f : A → B) (xs : List A) → length (map f xs) ≡ length xs
same-length f [] = refl
same-length f (x ∷ xs) = ap suc (same-length f xs)

same-lengths :
    {A B : Type 0} (f : A → B) (xss : List (List A)) →
    map length (map (map f) xss) ≡ map length xss
same-lengths f [] = refl
same-lengths f (xs ∷ xss) =
    ap (λ n. n ∷ map length (map (map f) xss)) (same-length f xs)
    ∙ ap (λ ns. length xs ∷ ns) (same-lengths f xss)

on-each : {A : Type 0} (P : A → Type 0) (o : Traced A) → ((x : A) → o ≡ traced x → P x) → On P o
on-each P (traced x) f = f x refl
on-each P past_width f = tt
on-each P untold f = tt

module _ (d : Proved) where
  has-frames : (c : Configuration) (k : Track) → FitsThreads c k → HasFrames c (account_of k)
  has-frames c k h = same-lengths (λ f. f.held) k.threads ∙ h

  step-shown :
      (number : ℕ) (line : List ℕ) (More : RunText → Type 0) (more : Track → RunText)
      (c : Configuration) → ((k : Track) → FitsThreads c k → More (more k)) → (o : Traced Track) →
      On (FitsThreads c) o →
      IsStepShown d.program number line More c (told number line (shown d c more) o)
  step-shown number line More more c f (traced k) h =
      inr (inr (account_of k, more k, has-frames c k h, f k h, refl))
  step-shown number line More more c f past_width h = inl refl
  step-shown number line More more c f untold h = inr (inl refl)

  outcome-shown :
      (number : ℕ) (narrow : Bool) (line : Event → List ℕ)
      (track : Event → Configuration → Traced Track)
      (More : Configuration → RunText → Type 0) (more : Configuration → Track → RunText) →
      ((c : Configuration) (k : Track) → FitsThreads c k → More c (more c k)) → (o : Outcome) →
      ((c : Configuration) (event : Event) → o ≡ next c event → On (FitsThreads c) (track event c))
      → IsOutcomeShown d.program number narrow line More o
      (advanced number narrow line track (λ c. shown d c (more c)) o)
  outcome-shown number narrow line track More more f disabled h = refl
  outcome-shown number false line track More more f (next c event) h = refl
  outcome-shown number true line track More more f (next c event) h =
      step-shown number (line event) (More c) (more c) c (f c) (track event c) (h c event refl)
  outcome-shown number false line track More more f (fault event) h = refl
  outcome-shown number true line track More more f (fault event) h = refl

  pub runs-shown :
      (es : List Entry) (n : ℕ) (c : Configuration) (k : Track) → FitsThreads c k →
      ShowsRun d.program n c es (owned_from d n c es k)
  runs-shown [] n c k h = refl
  runs-shown (e ∷ es) n c k h =
      outcome-shown (suc n) (are_narrow (entry_steps c e))
      (step_line (suc n) e.thread (ahead c e.thread))
      (λ event after. follow d k e.thread event c after)
      (λ after more. ShowsRun d.program (suc n) after es more)
      (λ after. owned_from d (suc n) after es)
      (λ after k' fits. runs-shown es (suc n) after k' fits) (step d.program c e)
      (λ after event s. on-each (FitsThreads after) (follow d k e.thread event c after)
      (λ k' t. fits-after d k k' e event c after h s t))
