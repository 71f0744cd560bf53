-- A run with its accounts, step by step.
use Rattle.std.proofs.Common.{◌≡◌, ◌∙◌, ap, sym, refl, subst, ℕ, suc, ◌+◌, ◌<◌, ◌≤◌, Bool, true, false, not, ◌&&◌, List, ◌∷◌, ◌++◌, drop, get_or, length, append_assoc, drop-cons, add-one, Option, Result, Ok, Err, arith}
use Rattle.std.specs.Prelude.{IfOk}
use Rattle.std.proofs.lemmas.List.{drop_all}
use Rattle.std.proofs.lemmas.Result.{IfOk-weaker}
use Rattle.cap_prog.specs.Program.{PlainProgram}
use Rattle.cap_goal_spec.specs.Choices.{PlainTree}
use Rattle.cap_machine.specs.declared.event.Ahead.{Ahead}
use Rattle.cap_machine.specs.declared.event.Entry.{Entry}
use Rattle.cap_machine.specs.declared.event.Event.{Event}
use Rattle.cap_machine.specs.declared.event.StepError.{StepError}
use Rattle.cap_machine.specs.declared.event.StepError.TheVariants.{NotEnabled as IsNotEnabled, Wide as IsWide}
use Rattle.cap_machine.specs.declared.machine.Machine.{Machine}
use Rattle.cap_machine.specs.Laws.{is_step}
use Rattle.cap_machine.specs.Machine.{Configuration, Outcome, next, fault, disabled, step}
use Rattle.cap_machine.specs.Ready.{ahead}
use Rattle.cap_machine.specs.Results.{entry_steps, are_narrow}
use Rattle.cap_machine.specs.View.{configuration, is_stopped, is_enabled, LeavesMachine, RunsProgram, Steps}
use Rattle.cap_replay.specs.declared.playing.End.{End}
use Rattle.cap_replay.specs.declared.playing.End.TheVariants.{Ended, Stopped, NotEnabled, Wide}
use Rattle.cap_replay.specs.RunText.{step_line, RunText, ends, in_front}
use Rattle.cap_replay.specs.Advancing.{is_fault}
use Rattle.cap_replay.proofs.RunLemmas.{Tells, step-tells}
use Rattle.cap_owners_values.specs.declared.error.TraceError.{TraceError}
use Rattle.cap_owners_values.specs.declared.error.TraceError.TheVariants.{PastWidth, Untold, OutOfMemory}
use Rattle.cap_owners_values.specs.Views.{Traces}
use Rattle.cap_owners_spec.specs.Traced.{Traced, traced}
use Rattle.cap_owners_spec.specs.Track.{Track, account_of}
use Rattle.cap_owners_spec.specs.Texts.{account_text}
use Rattle.cap_owners_spec.specs.Steps.{Proved, follow}
use Rattle.cap_owners_spec.specs.Owners.{shown, told, advanced, owned_from}
use Rattle.cap_owners_places.specs.declared.roots.Roots.{Roots}
use Rattle.cap_owners_places.specs.Views.{proved_of, AreRoots}
use Rattle.cap_owners.specs.declared.track.Track as code
use Rattle.cap_owners.specs.declared.owned.Advanced.{Advanced}
use Rattle.cap_owners.specs.declared.owned.Advanced.TheVariants.{On, Ends}
use Rattle.cap_owners.specs.declared.owned.Owned.{Owned}
use Rattle.cap_owners.specs.Running.{Advances, EndsBy, GoesOn, IsFinished}
use Rattle.cap_owners.specs.Tracks.{track_view, TrackIsPlaced}
use Rattle.cap_owners.specs.Views.{owned_view}

pub more-front : (old line : List ℕ) (r : RunText) → in_front old (in_front line r) ≡ in_front (old ++ line) r
more-front old line r = ap (λ t. record { text = t; end = r.end }) (sym (append_assoc old line r.text))

-- ---- a step

-- by the error of what the step comes to
pub told-ends : {C : Type 0} (x : TraceError) (number : ℕ) (end : End) (line : List ℕ) (more : Track → RunText) (view : C → Track) (t : Traced Track) → Traces {A = Track} {B = C} (Err x) view t → EndsBy number x end → told number line more t ≡ ends end
told-ends PastWidth number end line more view t h e = ap (told number line more) h ∙ ap ends (sym e)
told-ends Untold number end line more view t h e = ap (told number line more) h ∙ ap ends (sym e)
told-ends OutOfMemory number end line more view t h e = absurd e

module _ (d : Proved) (k : ℕ) (e : Entry) (t : Track) (m n : Machine) (text : List ℕ) where
  abbrev before : Configuration
  before = configuration d.program m

  abbrev line_at : Event → List ℕ
  line_at event = step_line (suc k) e.thread (ahead before e.thread) event

  abbrev taken_at : List Entry → Bool → Outcome → RunText
  taken_at es narrow o =
      advanced (suc k) narrow (step_line (suc k) e.thread (ahead before e.thread)) (λ event after. follow d t e.thread event before after) (λ after. shown d after (owned_from d (suc k) after es)) o

  owned-at : (es : List Entry) (b : Bool) (o : Outcome) → are_narrow (entry_steps before e) ≡ b → step d.program before e ≡ o → owned_from d k before (e ∷ es) t ≡ taken_at es b o
  owned-at es b o i j = ap (λ x. taken_at es x (step d.program before e)) i ∙ ap (taken_at es b) j

  -- an entry that is not enabled
  pub not-enabled : (number : ℕ) (x : StepError) → number ≡ suc k → x ≡ IsNotEnabled → is_stopped m ≡ false → Steps d.program e m n (Err x) → Advances d k e t m n text text (Ends (NotEnabled number))
  not-enabled number x i j r s es =
      let P : StepError → Type 0 = λ y. Steps d.program e m n (Err y) in
      go (step d.program before e) refl (subst P j s).0 ∙ ap (λ a. in_front text (ends (NotEnabled a))) (sym i)
    where
      go : (o : Outcome) → step d.program before e ≡ o → is_enabled d.program m e ≡ false → in_front text (owned_from d k before (e ∷ es) t) ≡ in_front text (ends (NotEnabled (suc k)))
      go disabled h f = ap (in_front text) (owned-at es _ disabled refl h)
      go (next c v) h f = let y : is_enabled d.program m e ≡ true = ap (λ b. not b && is_step (step d.program before e)) r ∙ ap is_step h in absurd (cc)
      go (fault v) h f = let y : is_enabled d.program m e ≡ true = ap (λ b. not b && is_step (step d.program before e)) r ∙ ap is_step h in absurd (cc)

  -- one that makes a number past its width
  pub is-wide : (number : ℕ) (x : StepError) → number ≡ suc k → x ≡ IsWide → Steps d.program e m n (Err x) → Advances d k e t m n text text (Ends (Wide number))
  is-wide number x i j s es =
      let P : StepError → Type 0 = λ y. Steps d.program e m n (Err y) in
      let q = subst P j s in
      go (step d.program before e) refl q.0 q.1 ∙ ap (λ a. in_front text (ends (Wide a))) (sym i)
    where
      never : (b : Bool) → b && false ≡ false
      never true = refl
      never false = refl

      go : (o : Outcome) → step d.program before e ≡ o → is_enabled d.program m e ≡ true → are_narrow (entry_steps before e) ≡ false → in_front text (owned_from d k before (e ∷ es) t) ≡ in_front text (ends (Wide (suc k)))
      go (next c v) h f g = ap (in_front text) (owned-at es false (next c v) g h)
      go (fault v) h f g = ap (in_front text) (owned-at es false (fault v) g h)
      go disabled h f g = let y : is_enabled d.program m e ≡ false = ap (λ o. not (is_stopped m) && is_step o) h ∙ never (not (is_stopped m)) in absurd (cc)

  written : (number : ℕ) (a : Option Ahead) (event : Event) (new : List ℕ) → number ≡ suc k → a ≡ ahead before e.thread → new ≡ text ++ step_line number e.thread a event → new ≡ text ++ line_at event
  written number a event new i h w =
      w ∙ (ap (λ x. text ++ step_line x e.thread a event) i ∙ ap (λ q. text ++ step_line (suc k) e.thread q event) h)

  -- a fault
  pub faults : (number : ℕ) (a : Option Ahead) (event : Event) (new : List ℕ) → number ≡ suc k → Steps d.program e m n (Ok event) → a ≡ ahead before e.thread → new ≡ text ++ step_line number e.thread a event → is_fault event ≡ true → Advances d k e t m n text new (Ends (Stopped number))
  faults number a event new i s h w f es = go (step d.program before e) refl (step-tells d.program before e) s.2
    where
      go : (o : Outcome) → step d.program before e ≡ o → Tells o → LeavesMachine d.program m n event o → in_front text (owned_from d k before (e ∷ es) t) ≡ in_front new (ends (Stopped number))
      go (fault v) j u l =
          ap (in_front text) (owned-at es true (fault v) s.1 j)
          ∙ (more-front text (line_at v) (ends (Stopped (suc k)))
          ∙ (ap (λ x. in_front (text ++ line_at x) (ends (Stopped (suc k)))) (sym l.0)
          ∙ (ap (λ z. in_front z (ends (Stopped (suc k)))) (sym (written number a event new i h w)) ∙ ap (λ z. in_front new (ends (Stopped z))) (sym i))))
      go (next c v) j u l = let y : is_fault event ≡ false = ap is_fault l.0 ∙ u in absurd (cc)
      go disabled j u l = absurd l

  pub not-stopped : (event : Event) → Steps d.program e m n (Ok event) → is_fault event ≡ false → is_stopped n ≡ false
  not-stopped event s f = go (step d.program before e) (step-tells d.program before e) s.2
    where
      go : (o : Outcome) → Tells o → LeavesMachine d.program m n event o → is_stopped n ≡ false
      go (next c v) u l = l.2
      go (fault v) u l = let y : is_fault event ≡ true = ap is_fault l.0 ∙ u in absurd (cc)
      go disabled u l = absurd l

  -- what is to come behind a step that is no fault
  abbrev ahead_of : List Entry → Track → RunText
  ahead_of es x = shown d (configuration d.program n) (owned_from d (suc k) (configuration d.program n) es) x

  stepped : (event : Event) (es : List Entry) → Steps d.program e m n (Ok event) → is_fault event ≡ false → owned_from d k before (e ∷ es) t ≡ told (suc k) (line_at event) (ahead_of es) (follow d t e.thread event before (configuration d.program n))
  stepped event es s f = go (step d.program before e) refl (step-tells d.program before e) s.2
    where
      go : (o : Outcome) → step d.program before e ≡ o → Tells o → LeavesMachine d.program m n event o → owned_from d k before (e ∷ es) t ≡ told (suc k) (line_at event) (ahead_of es) (follow d t e.thread event before (configuration d.program n))
      go (next c v) j u l =
          owned-at es true (next c v) s.1 j
          ∙ (ap (λ x. told (suc k) (line_at x) (shown d c (owned_from d (suc k) c es)) (follow d t e.thread x before c)) (sym l.0)
          ∙ ap (λ x. told (suc k) (line_at event) (shown d x (owned_from d (suc k) x es)) (follow d t e.thread event before x)) (sym l.1))
      go (fault v) j u l = let y : is_fault event ≡ true = ap is_fault l.0 ∙ u in absurd (cc)
      go disabled j u l = absurd l

  -- a step that comes to a track, whose account is written behind its line
  pub goes-on : (number : ℕ) (a : Option Ahead) (event : Event) (line new : List ℕ) (k' : code.Track) → number ≡ suc k → Steps d.program e m n (Ok event) → a ≡ ahead before e.thread → is_fault event ≡ false → line ≡ text ++ step_line number e.thread a event → new ≡ line ++ account_text d.program (configuration d.program n) (account_of (track_view k')) → follow d t e.thread event before (configuration d.program n) ≡ traced (track_view k') → Advances d k e t m n text new (On k')
  goes-on number a event line new k' i s h f w u g es =
      let account = account_text d.program (configuration d.program n) (account_of (track_view k')) in
      let rest = owned_from d (suc k) (configuration d.program n) es (track_view k') in
      ap (in_front text) (stepped event es s f ∙ ap (told (suc k) (line_at event) (ahead_of es)) g)
      ∙ (more-front text (line_at event) (in_front account rest)
      ∙ (more-front (text ++ line_at event) account rest
      ∙ ap (λ z. in_front z rest) (ap (λ z. z ++ account) (sym (written number a event line i h w)) ∙ sym u)))

  -- a step that comes to none
  pub stops : {C : Type 0} (number : ℕ) (event : Event) (x : TraceError) (end : End) (view : C → Track) → number ≡ suc k → Steps d.program e m n (Ok event) → is_fault event ≡ false → Traces {A = Track} {B = C} (Err x) view (follow d t e.thread event before (configuration d.program n)) → EndsBy number x end → Advances d k e t m n text text (Ends end)
  stops number event x end view i s f h b es =
      ap (in_front text) (stepped event es s f ∙ told-ends x (suc k) end (line_at event) (ahead_of es) view (follow d t e.thread event before (configuration d.program n)) h (subst (λ y. EndsBy y x end) i b))

-- ---- the run

-- what was written, with what is to come behind it, is the whole
pub record Goes (p : PlainProgram) (r : Roots) (es : List Entry) (first : Machine) (track : code.Track) (front : List ℕ) (m : Machine) (k : code.Track) (text : List ℕ) (count index : ℕ) : Type 0 where
  pub counted : count ≡ index
  pub fits : RunsProgram p m
  pub runs : is_stopped m ≡ false
  pub threads : length (configuration p m).threads ≤ suc index
  pub placed : TrackIsPlaced p k
  pub rest :
      (ts : List (Option PlainTree)) → AreRoots p ts r →
      in_front text (owned_from (proved_of p ts) index (configuration p m) (drop index es) (track_view k))
      ≡ in_front front (owned_from (proved_of p ts) 0 (configuration p first) es (track_view track))

module _ (p : PlainProgram) (r : Roots) (es : List Entry) (first : Machine) (track : code.Track) (front : List ℕ) (m n : Machine) (k : code.Track) (text : List ℕ) (count index : ℕ) (g : Goes p r es first track front m k text count index) where
  -- what is left at an entry
  left-at : (e : Entry) (ts : List (Option PlainTree)) → AreRoots p ts r → index < length es → e ≡ get_or es index e → in_front text (owned_from (proved_of p ts) count (configuration p m) (e ∷ drop (suc index) es) (track_view k)) ≡ in_front front (owned_from (proved_of p ts) 0 (configuration p first) es (track_view track))
  left-at e ts are l is =
      ap (λ c. in_front text (owned_from (proved_of p ts) c (configuration p m) (e ∷ drop (suc index) es) (track_view k))) g.counted
      ∙ (ap (λ xs. in_front text (owned_from (proved_of p ts) index (configuration p m) xs (track_view k))) (sym (drop-cons es index e l ∙ ap (λ x. x ∷ drop (suc index) es) (sym is)))
      ∙ g.rest ts are)

  pub run-ends : {E : Type 0} (e : Entry) (a : Advanced) (end : End) (new : List ℕ) (q : Result Owned E) (ts : List (Option PlainTree)) → AreRoots p ts r → index < length es → e ≡ get_or es index e → a ≡ Ends end → ((ts : List (Option PlainTree)) → AreRoots p ts r → Advances (proved_of p ts) count e (track_view k) m n text new a) → IfOk q (λ o. IsFinished new end (owned_view o)) → IfOk q (λ o. owned_view o ≡ in_front front (owned_from (proved_of p ts) 0 (configuration p first) es (track_view track)))
  run-ends e a end new q ts are l is i h f =
      let P : Advanced → Type 0 = λ y. Advances (proved_of p ts) count e (track_view k) m n text new y in
      IfOk-weaker q (λ o. IsFinished new end (owned_view o)) _ (λ o w. w ∙ (sym (subst P i (h ts are) (drop (suc index) es)) ∙ left-at e ts are l is)) f

  pub run-goes : (e : Entry) (a : Advanced) (k' : code.Track) (new : List ℕ) → index < length es → e ≡ get_or es index e → a ≡ On k' → ((ts : List (Option PlainTree)) → AreRoots p ts r → Advances (proved_of p ts) count e (track_view k) m n text new a) → GoesOn p n a → RunsProgram p n → length (configuration p n).threads ≤ suc (length (configuration p m).threads) → Goes p r es first track front n k' new (count + 1) (index + 1)
  run-goes e a k' new l is i h o f t =
      let on = subst (GoesOn p n) i o in
      record {
        counted = ap (λ x. x + 1) g.counted;
        fits = f;
        runs = on.0;
        threads = let b = g.threads in omega arith;
        placed = on.1;
        rest = λ ts are.
            let P : Advanced → Type 0 = λ y. Advances (proved_of p ts) count e (track_view k) m n text new y in
            let Q : ℕ → Type 0 = λ x. in_front new (owned_from (proved_of p ts) x (configuration p n) (drop x es) (track_view k')) ≡ in_front front (owned_from (proved_of p ts) 0 (configuration p first) es (track_view track)) in
            subst Q (sym (add-one index))
            (ap (λ x. in_front new (owned_from (proved_of p ts) x (configuration p n) (drop (suc index) es) (track_view k'))) (ap suc (sym g.counted))
            ∙ (sym (subst P i (h ts are) (drop (suc index) es)) ∙ left-at e ts are l is));
      }

-- after all entries
pub run-done : {E : Type 0} (p : PlainProgram) (r : Roots) (es : List Entry) (first : Machine) (track : code.Track) (front : List ℕ) (m : Machine) (k : code.Track) (text : List ℕ) (count index : ℕ) → Goes p r es first track front m k text count index → (q : Result Owned E) (ts : List (Option PlainTree)) → AreRoots p ts r → length es ≤ index → IfOk q (λ o. IsFinished text (Ended count) (owned_view o)) → IfOk q (λ o. owned_view o ≡ in_front front (owned_from (proved_of p ts) 0 (configuration p first) es (track_view track)))
run-done p r es first track front m k text count index g q ts are l f =
    let left = ap (λ xs. in_front text (owned_from (proved_of p ts) index (configuration p m) xs (track_view k))) (drop_all index es l) in
    IfOk-weaker q (λ o. IsFinished text (Ended count) (owned_view o)) _ (λ o w. w ∙ (ap (λ n. in_front text (ends (Ended n))) g.counted ∙ (sym left ∙ g.rest ts are))) f
