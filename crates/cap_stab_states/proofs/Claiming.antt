-- Attempts that claim one thing for each member.
use Rattle.std.proofs.Common.{◌≡◌, ℕ, suc, ◌+◌, ◌<◌, ◌≤◌, List, [], ◌∷◌, ◌++◌, map, length, drop, get_or, drop-cons, Option, Some, None, refl, sym, ap, subst, ◌∙◌, arith, append_assoc}
use Rattle.std.specs.Prelude.{Ok, Err, Result}
use Rattle.std.proofs.lemmas.List.{drop_all}
use Rattle.cap_lin.specs.Linear.{Linear, replaced}
use Rattle.cap_lin.specs.Steps.{first_wide, replaced_steps}
use Rattle.cap_lin.specs.Exact.{Explains}
use Rattle.cap_lin.specs.declared.error.LinError.{LinError}
use Rattle.cap_lin.specs.declared.row.Row.{Row}
use Rattle.cap_prog.specs.Program.{PlainAction, PlainRegionType}
use Rattle.cap_goal_spec.specs.Terms.{term_over, term_over_steps}
use Rattle.cap_goal_spec.specs.States.{PlainFact, PlainState}
use Rattle.cap_rules_steps.specs.Errors.{rule_error}
use Rattle.cap_rules_steps.specs.Places.{term_among}
use Rattle.cap_rules.specs.Attempts.{Event, makes, Attempt, unit, behind, go_on, prove, prove_that}
use Rattle.cap_lin.specs.declared.row.Op.TheVariants.{Eq as Equal}
use Rattle.cap_lin.specs.declared.row.Sort.TheVariants.{Int}
use Rattle.cap_rules.specs.Resting.{action_names, system, prove_closed, prove_same, prove_at, prove_stable, prove_kept}
use Rattle.cap_rules_steps.specs.Walks.{Claims}
use Rattle.cap_rules_steps.specs.declared.error.RuleError.{RuleError}
use Rattle.cap_rules_steps.proofs.Walking.{done, weaker, claims_then, claims_fail, wide_claims, narrow_claims}
use Rattle.cap_stab_states.specs.Proving.{proved_one, stable_for, kept_for}

abbrev Lists : Type 0
Lists = List (List Row)

-- what is left, from these lists on, answers for the whole from others on
pub record Owes (now : Lists) (rest : Attempt (Unit {0})) (before : Lists) (whole : Attempt (Unit {0})) : Type 0 where
  pub owes : (r : Result (Unit {0}) RuleError) (last : Lists) → Claims r now last rest → Claims r before last whole

pub owes_starts : (ls : Lists) (o : Attempt (Unit {0})) → Owes ls o ls o
owes_starts ls o = record { owes = λ r last h. h }

-- one claim for each member
pub record Walks {X : Type 0} (F : List X → Attempt (Unit {0})) (step : X → Attempt (Unit {0})) : Type 0 where
  pub none : F [] ≡ unit tt
  pub more : (x : X) (xs : List X) → F (x ∷ xs) ≡ go_on (step x).events (step x).value (λ z. F xs)

member : {X : Type 0} (xs : List X) (i : ℕ) (x : X) → i < length xs → x ≡ get_or xs i x → drop i xs ≡ x ∷ drop (i + 1) xs
member xs i x h e = drop-cons xs i x h ∙ (ap (λ y. y ∷ drop (suc i) xs) (sym e) ∙ ap (λ j. x ∷ drop j xs) (more i))
  where
    more : (i : ℕ) → suc i ≡ i + 1
    more i = omega arith

unrolled : {X : Type 0} (F : List X → Attempt (Unit {0})) (step : X → Attempt (Unit {0})) → Walks F step → (xs : List X) (i : ℕ) (x : X) → i < length xs → x ≡ get_or xs i x → F (drop i xs) ≡ go_on (step x).events (step x).value (λ z. F (drop (i + 1) xs))
unrolled F step w xs i x h e = ap F (member xs i x h e) ∙ w.more x (drop (i + 1) xs)

pub owes_more : {X : Type 0} (F : List X → Attempt (Unit {0})) (step : X → Attempt (Unit {0})) → Walks F step → (xs : List X) (i : ℕ) (x : X) (now next before : Lists) (whole : Attempt (Unit {0})) → i < length xs → x ≡ get_or xs i x → Claims (Ok tt) now next (step x) → Owes now (F (drop i xs)) before whole → Owes next (F (drop (i + 1) xs)) before whole
owes_more F step w xs i x now next before whole h e m l =
    record { owes = λ r last k. l.owes r last (subst (Claims r now last) (sym (unrolled F step w xs i x h e)) (claims_then r (step x) (λ z. F (drop (i + 1) xs)) tt now next last m k)) }

pub owes_fails : {X : Type 0} (F : List X → Attempt (Unit {0})) (step : X → Attempt (Unit {0})) → Walks F step → (xs : List X) (i : ℕ) (x : X) (f : RuleError) (now next before : Lists) (whole : Attempt (Unit {0})) → i < length xs → x ≡ get_or xs i x → Claims (Err f) now next (step x) → Owes now (F (drop i xs)) before whole → Claims (Err f) before next whole
owes_fails F step w xs i x f now next before whole h e m l =
    l.owes (Err f) next (subst (Claims (Err f) now next) (sym (unrolled F step w xs i x h e)) (claims_fail f (step x) (λ z. F (drop (i + 1) xs)) now next m))

pub owes_ends : {X : Type 0} (F : List X → Attempt (Unit {0})) (step : X → Attempt (Unit {0})) → Walks F step → (xs : List X) (i : ℕ) (now before : Lists) (whole : Attempt (Unit {0})) → length xs ≤ i → Owes now (F (drop i xs)) before whole → Claims (Ok tt) before now whole
owes_ends F step w xs i now before whole h l =
    l.owes (Ok tt) now (subst (Claims (Ok tt) now now) (sym (ap F (drop_all i xs h) ∙ w.none)) (weaker (Ok tt) (unit tt) now (done tt)))

-- ---- the walks of settling

pub go-assoc : {A B C : Type 0} (es : List Event) (v : Option A) (f : A → Attempt B) (g : B → Attempt C) → go_on es v (λ x. go_on (f x).events (f x).value g) ≡ go_on (go_on es v f).events (go_on es v f).value g
go-assoc es None f g = refl
go-assoc es (Some x) f g = behind-go es (f x).events (f x).value g
  where
    behind-go : {B C : Type 0} (es more : List Event) (v : Option B) (g : B → Attempt C) → behind es (go_on more v g) ≡ go_on (es ++ more) v g
    behind-go es more None g = refl
    behind-go es more (Some y) g = ap (λ l. record { events = l; value = (g y).value }) (sym (append_assoc es more (g y).events))

pub at_walks : (s : PlainState) (rows : List Row) (t : Linear) → Walks (prove_at s rows t) (proved_one s rows t)
at_walks s rows t = record {
  none = refl;
  more = λ r rs. go-assoc (map makes (replaced_steps (length s.sorts) t r.term)) (Some (replaced (length s.sorts) t r.term)) (λ u. prove rows (record r { term = u })) (λ z. prove_at s rows t rs);
}

pub stable_walks : (k : PlainRegionType) (s : PlainState) (f : PlainFact) (named : List Row) → Walks (prove_stable k s f named) (stable_for k s f named)
stable_walks k s f named = record {
  none = refl;
  more = λ a as'. go-assoc (system k s f named a (action_names k s f a)).events (system k s f named a (action_names k s f a)).value (λ rows. prove_closed s named a (action_names k s f a) rows) (λ z. prove_stable k s f named as');
}

pub kept_walks : (k : PlainRegionType) (s : PlainState) (f : PlainFact) (same : Row) → Walks (prove_kept k s f same) (kept_for k s f same)
kept_walks k s f same = record {
  none = refl;
  more = λ a as'. go-assoc (system k s f (same ∷ []) a (action_names k s f a)).events (system k s f (same ∷ []) a (action_names k s f a)).value (λ rows. prove_same f a (action_names k s f a) rows) (λ z. prove_kept k s f same as');
}

pub mapped_walks : {X Y : Type 0} (F : List Y → Attempt (Unit {0})) (step : Y → Attempt (Unit {0})) (v : X → Y) → Walks F step → Walks (λ xs. F (map v xs)) (λ x. step (v x))
mapped_walks F step v w = record { none = w.none; more = λ x xs. w.more (v x) (map v xs) }

-- ---- nothing is to be proved, or the target is too wide

pub closed_nothing : (s : PlainState) (named : List Row) (a : PlainAction) (names : List Linear) (rows : Option (List Row)) (ls : Lists) → length named < 1 → Claims (Ok tt) ls ls (prove_closed s named a names rows)
closed_nothing s [] a names rows ls h = weaker (Ok tt) (unit tt) ls (done tt)
closed_nothing s (r ∷ rs) a names rows ls h = absurd (omega arith)

pub closed_alone : (s : PlainState) (named : List Row) (a : PlainAction) (names : List Linear) (ls : Lists) → Claims (Ok tt) ls ls (prove_closed s named a names None)
closed_alone s [] a names ls = weaker (Ok tt) (unit tt) ls (done tt)
closed_alone s (r ∷ rs) a names ls = weaker (Ok tt) (unit tt) ls (done tt)

pub closed_fails : (s : PlainState) (named : List Row) (a : PlainAction) (names : List Linear) (rows : List Row) (ls : Lists) (e : LinError) → 1 ≤ length named → Explains e (term_over_steps (term_among names) a.target) → Claims (Err (rule_error e)) ls ls (prove_closed s named a names (Some rows))
closed_fails s [] a names rows ls e h x = absurd (omega arith)
closed_fails s (r ∷ rs) a names rows ls e h x = wide_claims e (term_over_steps (term_among names) a.target) _ ls x

pub same_alone : (f : PlainFact) (a : PlainAction) (names : List Linear) (ls : Lists) → Claims (Ok tt) ls ls (prove_same f a names None)
same_alone f a names ls = weaker (Ok tt) (unit tt) ls (done tt)

pub same_fails : (f : PlainFact) (a : PlainAction) (names : List Linear) (rows : List Row) (ls : Lists) (e : LinError) → Explains e (term_over_steps (term_among names) a.target) → Claims (Err (rule_error e)) ls ls (prove_same f a names (Some rows))
same_fails f a names rows ls e x = wide_claims e (term_over_steps (term_among names) a.target) _ ls x

pub same_made : (f : PlainFact) (a : PlainAction) (names : List Linear) (rows : List Row) (t : Linear) (before after : Lists) (r : Result (Unit {0}) RuleError) → first_wide (term_over_steps (term_among names) a.target) ≡ None → t ≡ term_over (term_among names) a.target → Claims r before after (prove_that rows t Equal f.state Int) → Claims r before after (prove_same f a names (Some rows))
same_made f a names rows t before after r n e c =
    narrow_claims r (term_over_steps (term_among names) a.target) _ before after n (subst (λ u. Claims r before after (prove_that rows u Equal f.state Int)) e c)
