-- The text shows what is owned along a run.
use Rattle.std.proofs.Common.{◌≡◌, inl, inr, ℕ, suc, ℤ, List, [], ◌∷◌, length, Bool, true, false, Option, Some, None, refl, subst}
use Rattle.std.specs.Prelude.{slice_get}
use Rattle.cap_rules.specs.cap_goal_spec.cap_prog.Program.{PlainFunction, PlainProgram}
use Rattle.cap_rules.specs.cap_goal_spec.cap_prog.WellFormed.{IsWellFormed}
use Rattle.cap_rules.specs.cap_goal_spec.Choices.{PlainTree}
use Rattle.cap_rules.specs.Valid.{Valid}
use Rattle.cap_machine.specs.declared.event.Entry.{Entry}
use Rattle.cap_machine.specs.declared.event.Event.{Event}
use Rattle.cap_machine.specs.Machine.{Heap, Configuration, Outcome, next, fault, disabled, step, start, IsPositive}
use Rattle.cap_machine.specs.Ready.{ahead}
use Rattle.cap_machine.specs.Results.{entry_steps, are_narrow}
use Rattle.cap_machine_accounts.specs.Safety.{IfStepped, Start}
use Rattle.cap_replay.specs.RunText.{step_line, RunText}
use Rattle.cap_owners_spec.specs.Traced.{Traced, traced, past_width, untold}
use Rattle.cap_owners_spec.specs.Track.{Track}
use Rattle.cap_owners_spec.specs.Steps.{Proved, follow}
use Rattle.cap_owners_spec.specs.Start.{first_track}
use Rattle.cap_owners_spec.specs.Owners.{shown, told, advanced, owned_from, begun}
use Rattle.cap_owners_laws.specs.Laws.{StartsAreExact}
use Rattle.cap_owners_laws.specs.Owned.{IsTold, IsTrackOf, GoesOver, IsOwnedFrom, IsTextual, proved, RunsAreOwned, StartsAreTold, ShowsStep, ShowsOutcome, ShowsOwned, IsOwnedText, owned_text, TextsAreOwned}

module _ (d : Proved) where
  -- where a run is owned its first track is as said
  pub owned-here :
      (es : List Entry) (c : Configuration) (k : Track) → IsOwnedFrom d es c k → IsTrackOf d c k
  owned-here [] c k h = h
  owned-here (e ∷ es) c k h = h.0

  module _ (thread number : ℕ) (line : Event → List ℕ) (c : Configuration) (k : Track)
      (Owned : Configuration → Track → Type 0) (More : Configuration → Track → RunText → Type 0)
      (more : Configuration → Track → RunText) (track : Event → Configuration → Traced Track)
      (first : (after : Configuration) (later : Track) → Owned after later → IsTrackOf d after later)
      (rest : (after : Configuration) (later : Track) → Owned after later →
      More after later (more after later)) where
    abbrev Told : Configuration → Event → Type 0
    Told after event =
        IsTold (λ later. GoesOver d thread event c after k later × Owned after later)
        (track event after)

    step-shown :
        (after : Configuration) (event : Event) (o : Traced Track) →
        IsTold (λ later. GoesOver d thread event c after k later × Owned after later) o →
        ShowsStep d number thread line c k
        (told number (line event) (shown d after (more after)) o) More after event
    step-shown after event (traced later) h =
        inr (later, more after later, h.0, first after later h.1, rest after later h.1, refl)
    step-shown after event past_width h = inl refl
    step-shown after event untold h = absurd h

    pub outcome-owned :
        (narrow : Bool) (o : Outcome) → IfStepped Told o →
        ShowsOutcome number (advanced number narrow line track (λ after. shown d after (more after)) o)
        (ShowsStep d number thread line c k
        (advanced number narrow line track (λ after. shown d after (more after)) o) More) o
    outcome-owned narrow disabled h = refl
    outcome-owned false (next after event) h = inl refl
    outcome-owned true (next after event) h = step-shown after event (track event after) h
    outcome-owned narrow (fault event) h = absurd h

  pub owned-shown :
      (es : List Entry) (n : ℕ) (c : Configuration) (k : Track) → IsOwnedFrom d es c k →
      ShowsOwned d n c k es (owned_from d n c es k)
  owned-shown [] n c k h = refl
  owned-shown (e ∷ es) n c k h =
      outcome-owned e.thread (suc n) (step_line (suc n) e.thread (ahead c e.thread)) c k
      (λ after later. IsOwnedFrom d es after later)
      (λ after later more. ShowsOwned d (suc n) after later es more)
      (λ after. owned_from d (suc n) after es)
      (λ event after. follow d k e.thread event c after)
      (λ after later q. owned-here es after later q)
      (λ after later q. owned-shown es (suc n) after later q)
      (are_narrow (entry_steps c e)) (step d.program c e) h.1

-- ---- the whole text

-- which main a start has
same-main : (a b : PlainFunction) (o : Option PlainFunction) → o ≡ Some a → o ≡ Some b → a ≡ b
same-main a b o x y = cc

module _ (exact : StartsAreExact) (runs : RunsAreOwned) (starts : StartsAreTold) where
  module _ (p : PlainProgram) (trees : List (Option PlainTree)) (args : List ℤ) (heap : Heap)
      (es : List Entry) (well : IsWellFormed p) (textual : IsTextual p) (valid : Valid p trees)
      (main : PlainFunction) (is_main : slice_get p.functions p.main ≡ Some main)
      (arity : length args ≡ main.params) (positive : IsPositive heap) where
    abbrev d : Proved
    d = proved p trees

    abbrev c : Configuration
    c = start p args heap

    by-start :
        (o : Traced (Option Track)) → first_track d args heap ≡ o → IsTold (λ x. Unit {0}) o →
        IsOwnedText p trees args heap es (begun (shown d c (owned_from d 0 c es)) o)
    by-start (traced None) e h = λ m fixed x.
        exact.unmet d main args heap is_main arity e fixed
        (subst (λ f. Start p f args heap fixed)
        (same-main m main (slice_get p.functions p.main) x.is_main is_main) x)
    by-start (traced (Some k)) e h =
        let m = exact.met d main args heap k is_main arity positive e in
        let r = runs p trees well textual valid main args heap k es is_main arity positive e in
        inr (
          main,
          m.0,
          k,
          owned_from d 0 c es k,
          m.1,
          m.2,
          owned-here d es c k r,
          owned-shown d es 0 c k r,
          refl,
        )
    by-start past_width e h = inl refl
    by-start untold e h = absurd h

    text-owned : IsOwnedText p trees args heap es (owned_text (proved p trees) args heap es)
    text-owned =
        by-start (first_track d args heap) refl
        (starts p trees well textual valid main args heap is_main arity)

  pub texts-owned : TextsAreOwned
  texts-owned p trees args heap es well textual valid main is_main arity positive =
      text-owned p trees args heap es well textual valid main is_main arity positive
