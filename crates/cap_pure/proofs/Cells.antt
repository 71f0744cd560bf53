-- New cells, one after the other.
use Rattle.std.proofs.Common.{◌≡◌, ℕ, suc, ◌+◌, ◌-◌, ◌<◌, ◌≤◌, pos, List, ◌++◌, map, Option, Some, None, add-one, subst, sym, arith, ap, ◌∙◌, length, get_or}
use Rattle.std.proofs.lemmas.List.{append_assoc}
use Rattle.std.proofs.lemmas.Option.{slice_get_past, slice_get-get_or}
use Rattle.std.specs.Prelude.{Result, Ok, Err, slice_get}
use Rattle.cap_lin.specs.Linear.{Linear, number, plus}
use Rattle.cap_lin.specs.Steps.{plus_steps}
use Rattle.cap_goal_spec.specs.States.{PlainState}
use Rattle.cap_goal_spec.specs.Environments.{zero_value}
use Rattle.cap_rules.specs.Attempts.{Attempt, Event, makes, go_on, behind, found}
use Rattle.cap_rules.specs.Making.{with_cell}
use Rattle.cap_rules.specs.Rules.{with_new_cells}
use Rattle.cap_rules_steps.specs.Walks.{Makes}
use Rattle.cap_rules_steps.specs.declared.error.RuleError.{RuleError}
use Rattle.cap_rules_steps.specs.declared.error.RuleError.TheVariants.{NotApplicable}
use Rattle.cap_rules_steps.proofs.Walking.{Leads, then_made, unmade, done, there, lacking}
use Rattle.cap_pure.specs.Statements.{with_new_cell}

left : (n i : ℕ) → i < n → n - i ≡ suc (n - (i + 1))
left n i h = omega arith

none-left : (n i : ℕ) → n ≤ i → n - i ≡ 0
none-left n i h = omega arith

regroup : {A B : Type 0} (r : Result B RuleError) (es fs : List Event) (v : Option A) (f : A → Attempt B) → Makes r (go_on (es ++ fs) v f) → Makes r (behind es (go_on fs v f))
regroup r es fs None f h = h
regroup r es fs (Some x) f h = subst (λ all. Makes r (record { events = all; value = (f x).value })) (append_assoc es fs (f x).events) h

pub cells-next : (b : Linear) (n i : ℕ) (s t : PlainState) (whole : Attempt PlainState) → i < n → Makes (Ok t) (with_new_cell b i s) → Leads (with_new_cells s b i (n - i)) whole → Leads (with_new_cells t b (i + 1) (n - (i + 1))) whole
cells-next b n i s t whole h m l =
    let o = with_cell s (plus b (number (pos i))) zero_value in
    let es = map makes (plus_steps b (number (pos i))) in
    let f : PlainState → Attempt PlainState = λ u. with_new_cells u b (suc i) (n - (i + 1)) in
    record { leads = λ r k. l.leads r (rw (left n i h) (regroup r es o.events o.value f (then_made r (with_new_cell b i s) f t m (rw (← add-one) k)))) }

pub cells-fail : (b : Linear) (n i : ℕ) (s : PlainState) (whole : Attempt PlainState) (e : RuleError) → i < n → Makes (Err e) (with_new_cell b i s) → Leads (with_new_cells s b i (n - i)) whole → Makes (Err e) whole
cells-fail b n i s whole e h m l =
    let o = with_cell s (plus b (number (pos i))) zero_value in
    let es = map makes (plus_steps b (number (pos i))) in
    let f : PlainState → Attempt PlainState = λ u. with_new_cells u b (suc i) (n - (i + 1)) in
    l.leads (Err e) (rw (left n i h) (regroup (Err e) es o.events o.value f (unmade e (with_new_cell b i s) f m)))

pub cells-end : (b : Linear) (n i : ℕ) (s : PlainState) (whole : Attempt PlainState) → n ≤ i → Leads (with_new_cells s b i (n - i)) whole → Makes (Ok s) whole
cells-end b n i s whole h l = l.leads (Ok s) (rw (none-left n i h) (done s))

-- ---- a member of a list, by its number

pub member-there : {X : Type 0} (xs : List X) (i : ℕ) (x : X) → i < length xs → x ≡ get_or xs i x → Makes (Ok x) (found (slice_get xs i))
member-there xs i x h e = there (slice_get xs i) x (slice_get-get_or xs i x h ∙ ap Some (sym e))

pub member-lacking : {X : Type 0} (xs : List X) (i : ℕ) → length xs ≤ i → Makes {A = X} (Err NotApplicable) (found (slice_get xs i))
member-lacking xs i h = lacking (slice_get xs i) (slice_get_past xs i h)
