-- A choice that settles a fact, at the heads of goals.
use Rattle.std.proofs.Common.{◌≡◌, ℕ, zero, suc, ◌+◌, ◌<◌, ◌≤◌, Bool, List, [], ◌∷◌, ◌++◌, map, length, get_or, reverse, Option, Some, None, refl, sym, ap, subst, ◌∙◌, arith}
use Rattle.std.specs.Prelude.{slice_get, Ok, Err}
use Rattle.std.proofs.lemmas.List.{map-append, reverse-append}
use Rattle.cap_lin.specs.declared.row.Row.{Row}
use Rattle.cap_farkas.specs.declared.cert.Cert.{Cert}
use Rattle.cap_prog.specs.Program.{none, item, done, first, PlainRegionType, PlainProgram}
use Rattle.cap_goal_spec.specs.States.{PlainFact, PlainState, PlainTask, to_run, to_turn, to_give, to_take, to_make, to_close, to_shift, to_rest, PlainGoal, goals_of}
use Rattle.cap_goal_spec.specs.Choices.{PlainChoice, by_settle, by_keep}
use Rattle.cap_goal.specs.declared.task.Task.{Task}
use Rattle.cap_goal.specs.Views.{task_view, tasks_view}
use Rattle.cap_rules.specs.Attempts.{found, not_applicable}
use Rattle.cap_rules.specs.Rules.{at_tasks, rule}
use Rattle.cap_rules_steps.specs.Walks.{Makes, Claims}
use Rattle.cap_rules_steps.specs.declared.error.RuleError.{RuleError}
use Rattle.cap_rules_steps.specs.declared.error.RuleError.TheVariants.{NotApplicable}
use Rattle.cap_rules_steps.proofs.Walking.{there, lacking, inapplicable, weaker, made_claims, unmade_claims, claims_then, claims_fail, done_as}
use Rattle.cap_stab.proofs.Named.{beyond}
use Rattle.cap_stab.specs.Heads.{IsSettling, numbers_of, settled_by, rest_at, rest_by, rest_tasks}

pub pushed : (ts : List Task) (t : Task) → tasks_view (ts ++ t ∷ []) ≡ task_view t ∷ tasks_view ts
pushed ts t = ap reverse (map-append task_view ts (t ∷ [])) ∙ reverse-append (map task_view ts) (task_view t ∷ [])

settles : (p : PlainProgram) (s : PlainState) (marks : List Bool) (list : List ℕ) (cs : List Cert) (ts : List PlainTask) → rest_tasks p s (Some list) ts ≡ at_tasks p s marks (by_settle list cs) ts
settles p s marks list cs [] = refl
settles p s marks list cs (to_run h done ∷ ts) = refl
settles p s marks list cs (to_run h (first l a rest) ∷ ts) = refl
settles p s marks list cs (to_turn h done ∷ ts) = refl
settles p s marks list cs (to_turn h (first l a rest) ∷ ts) = refl
settles p s marks list cs (to_give items e n ∷ ts) = refl
settles p s marks list cs (to_take none e left n ∷ ts) = refl
settles p s marks list cs (to_take (item i more) e left n ∷ ts) = refl
settles p s marks list cs (to_make k c e t n ∷ ts) = refl
settles p s marks list cs (to_close any n ∷ ts) = refl
settles p s marks list cs (to_shift o c m e n ∷ ts) = refl
settles p s marks list cs (to_rest j n ∷ ts) = refl

keeps : (p : PlainProgram) (s : PlainState) (marks : List Bool) (cs : List Cert) (ts : List PlainTask) → rest_tasks p s None ts ≡ at_tasks p s marks (by_keep cs) ts
keeps p s marks cs [] = refl
keeps p s marks cs (to_run h done ∷ ts) = refl
keeps p s marks cs (to_run h (first l a rest) ∷ ts) = refl
keeps p s marks cs (to_turn h done ∷ ts) = refl
keeps p s marks cs (to_turn h (first l a rest) ∷ ts) = refl
keeps p s marks cs (to_give items e n ∷ ts) = refl
keeps p s marks cs (to_take none e left n ∷ ts) = refl
keeps p s marks cs (to_take (item i more) e left n ∷ ts) = refl
keeps p s marks cs (to_make k c e t n ∷ ts) = refl
keeps p s marks cs (to_close any n ∷ ts) = refl
keeps p s marks cs (to_shift o c m e n ∷ ts) = refl
keeps p s marks cs (to_rest j n ∷ ts) = refl

pub by_rule : (p : PlainProgram) (g : PlainGoal) (c : PlainChoice) (marks : List Bool) → IsSettling c → rest_tasks p g.state (numbers_of c) g.tasks ≡ rule p g c marks
by_rule p g (by_settle list cs) marks h = settles p g.state marks list cs g.tasks
by_rule p g (by_keep cs) marks h = keeps p g.state marks cs g.tasks
by_rule p g c marks h = absurd h

-- ---- the fact of a number

pub unsettled : {A : Type 0} (ls : List (List Row)) → Claims {A = A} (Err NotApplicable) ls ls not_applicable
unsettled ls = weaker (Err NotApplicable) not_applicable ls inapplicable

pub at_place : {A : Type 0} (xs : List A) (i : ℕ) (x : A) → i < length xs → x ≡ get_or xs i x → slice_get xs i ≡ Some x
at_place [] i x h e = absurd (omega arith)
at_place (y ∷ ys) zero x h e = ap Some (sym e)
at_place (y ∷ ys) (suc i) x h e = at_place ys i x (omega arith) e

pub no_fact : (p : PlainProgram) (s : PlainState) (c : Option (List ℕ)) (j n : ℕ) (ts : List PlainTask) (ls : List (List Row)) → length s.facts ≤ j → Claims (Err NotApplicable) ls ls (rest_at p s c j n ts)
no_fact p s c j n ts ls h =
    unmade_claims NotApplicable (found (slice_get s.facts j)) _ ls (lacking _ (beyond (λ f. f) (λ f. f) s.facts s.facts j refl h))

pub no_region : (p : PlainProgram) (s : PlainState) (c : Option (List ℕ)) (j n : ℕ) (ts : List PlainTask) (f : PlainFact) (e : RuleError) (ls : List (List Row)) → slice_get s.facts j ≡ Some f → Makes (Err e) (found (slice_get p.regions f.kind)) → Claims (Err e) ls ls (rest_at p s c j n ts)
no_region p s c j n ts f e ls q m =
    made_claims (Err e) (found (slice_get s.facts j)) _ f ls ls (there _ f q) (unmade_claims e (found (slice_get p.regions f.kind)) _ ls m)

pub not_settled : (p : PlainProgram) (s : PlainState) (c : Option (List ℕ)) (j n : ℕ) (ts : List PlainTask) (f : PlainFact) (k : PlainRegionType) (e : RuleError) (before after : List (List Row)) → slice_get s.facts j ≡ Some f → Makes (Ok k) (found (slice_get p.regions f.kind)) → Claims (Err e) before after (settled_by k s j f c) → Claims (Err e) before after (rest_at p s c j n ts)
not_settled p s c j n ts f k e before after q m d =
    made_claims (Err e) (found (slice_get s.facts j)) _ f before after (there _ f q) (made_claims (Err e) (found (slice_get p.regions f.kind)) _ k before after m (claims_fail e (settled_by k s j f c) _ before after d))

pub next_settled : (p : PlainProgram) (s s' : PlainState) (c : Option (List ℕ)) (j n : ℕ) (ts : List PlainTask) (f : PlainFact) (k : PlainRegionType) (gs : List PlainGoal) (before after : List (List Row)) → slice_get s.facts j ≡ Some f → Makes (Ok k) (found (slice_get p.regions f.kind)) → Claims (Ok s') before after (settled_by k s j f c) → gs ≡ goals_of s' (to_rest (j + 1) n ∷ ts) → Claims (Ok gs) before after (rest_at p s c j n ts)
next_settled p s s' c j n ts f k gs before after q m d e =
    made_claims (Ok gs) (found (slice_get s.facts j)) _ f before after (there _ f q) (made_claims (Ok gs) (found (slice_get p.regions f.kind)) _ k before after m (claims_then (Ok gs) (settled_by k s j f c) _ s' before after after d (weaker (Ok gs) _ after (done_as gs _ e))))

-- ---- the head

pub other_head : (p : PlainProgram) (s : PlainState) (list : Option (List ℕ)) (x : Option (ℕ × ℕ)) (ts : List PlainTask) (ls : List (List Row)) → x ≡ None → Claims (Err NotApplicable) ls ls (rest_by p s list x ts)
other_head p s list x ts ls e = subst (λ y. Claims (Err NotApplicable) ls ls (rest_by p s list y ts)) (sym e) (unsettled ls)

pub no_tasks : (p : PlainProgram) (s : PlainState) (list : Option (List ℕ)) (ts : List Task) (ls : List (List Row)) → length ts < 1 → Claims (Err NotApplicable) ls ls (rest_tasks p s list (tasks_view ts))
no_tasks p s list [] ls h = unsettled ls
no_tasks p s list (t ∷ ts) ls h = absurd (omega arith)
