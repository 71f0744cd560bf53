-- What is proved of several candidates is what is proved of each.
use Rattle.std.proofs.Common.{◌≡◌, List, [], ◌∷◌, ◌++◌, map, length, get_or, Option, Some, None, sym, subst}
use Rattle.std.specs.List.{AllByRecursion}
use Rattle.cap_lin.specs.Linear.{Linear, replaced}
use Rattle.cap_lin.specs.Steps.{replaced_steps, first_wide}
use Rattle.cap_lin.specs.Rows.{negations, negations_steps}
use Rattle.cap_lin.specs.Solves.{Infeasible}
use Rattle.cap_lin.specs.declared.row.Row.{Row}
use Rattle.cap_prog.specs.Program.{PlainAction, PlainRegionType}
use Rattle.cap_goal_spec.specs.Terms.{term_over, term_over_steps}
use Rattle.cap_goal_spec.specs.Environments.{zero_value}
use Rattle.cap_goal_spec.specs.States.{PlainFact, PlainState}
use Rattle.cap_rules.specs.Attempts.{Attempt, ◌>>=◌, computed, prove}
use Rattle.cap_rules.specs.Resting.{action_names, value_over, system, prove_at, prove_closed, prove_stable}
use Rattle.cap_offer_spec.specs.Claims.{keeps_after}
use Rattle.cap_offer_spec.specs.Members.{IsOneOf}
use Rattle.cap_closure_laws.proofs.Fewer.{AreIn, all-one, all-by, in-self, in-both, infeasible-more}
use Rattle.cap_closure_laws.proofs.Meeting.{Meets, meets-chain, halves, meets-unit, meets-computed, computed-value, computed-narrow, against, meets-prove, prove-narrow, prove-each}
use Rattle.cap_closure_laws.proofs.Systems.{HasMore, alike, system-like}

-- ---- with a term for the later state

abbrev pub here : PlainState → Linear → Row → Row
here s t r = record r { term = replaced (length s.sorts) t r.term }

pub record AtMeets (P : List Row → Type 0) (s : PlainState) (rows : List Row) (t : Linear) (r : Row) : Type 0 where
  pub narrow : first_wide (replaced_steps (length s.sorts) t r.term) ≡ None
  pub negated : first_wide (negations_steps (here s t r)) ≡ None
  pub each : AllByRecursion P (against rows (here s t r))

abbrev then_at : PlainState → List Row → Linear → Row → List Row → Linear → Attempt (Unit {0})
then_at s rows t r rs u = prove rows (record r { term = u }) >>= λ v. prove_at s rows t rs

pub record AtParts (P : List Row → Type 0) (s : PlainState) (rows : List Row) (t : Linear) (r : Row) (rs : List Row) : Type 0 where
  pub first : AtMeets P s rows t r
  pub done : Unit {0}
  pub rest : Meets P (prove_at s rows t rs) done

at-parts : (P : List Row → Type 0) (s : PlainState) (rows : List Row) (t : Linear) (r : Row) (rs : List Row) (x : Unit {0}) → Meets P (prove_at s rows t (r ∷ rs)) x → AtParts P s rows t r rs
at-parts P s rows t r rs x h =
    let u = replaced (length s.sorts) t r.term in
    let steps = replaced_steps (length s.sorts) t r.term in
    let p = halves P (computed u steps) (then_at s rows t r rs) x h in
    let e : u ≡ p.middle = computed-value P u p.middle steps p.first in
    let q = halves P (prove rows (record r { term = p.middle })) (λ v. prove_at s rows t rs) x p.second in
    let m : Meets P (prove rows (record r { term = u })) q.middle = subst (λ w. Meets P (prove rows (record r { term = w })) q.middle) (sym e) q.first in
    record {
      first = record { narrow = computed-narrow P u p.middle steps p.first; negated = prove-narrow P rows (here s t r) q.middle m; each = prove-each P rows (here s t r) q.middle m };
      done = x;
      rest = q.second;
    }

pub at-all : (P : List Row → Type 0) (s : PlainState) (rows : List Row) (t : Linear) (rs : List Row) (x : Unit {0}) → Meets P (prove_at s rows t rs) x → AllByRecursion (AtMeets P s rows t) rs
at-all P s rows t [] x h = tt
at-all P s rows t (r ∷ rs) x h = let p = at-parts P s rows t r rs x h in (p.first, at-all P s rows t rs p.done p.rest)

pub all-at : (P : List Row → Type 0) (s : PlainState) (rows : List Row) (t : Linear) (rs : List Row) → AllByRecursion (AtMeets P s rows t) rs → Meets P (prove_at s rows t rs) tt
all-at P s rows t [] h = meets-unit P tt
all-at P s rows t (r ∷ rs) h =
    let u = replaced (length s.sorts) t r.term in
    meets-chain P (computed u (replaced_steps (length s.sorts) t r.term)) (then_at s rows t r rs) u tt (meets-computed P u (replaced_steps (length s.sorts) t r.term) h.0.narrow)
    (meets-chain P (prove rows (here s t r)) (λ v. prove_at s rows t rs) tt tt (meets-prove P rows (here s t r) h.0.negated h.0.each) (all-at P s rows t rs h.1))

against-more : (rows more : List Row) (ns : List Row) → AreIn rows more → AllByRecursion Infeasible (map (λ n. rows ++ (n ∷ [])) ns) → AllByRecursion Infeasible (map (λ n. more ++ (n ∷ [])) ns)
against-more rows more [] m h = tt
against-more rows more (n ∷ ns) m h = (infeasible-more (rows ++ (n ∷ [])) (more ++ (n ∷ [])) (in-both rows (n ∷ []) more (n ∷ []) m (in-self (n ∷ []))) h.0, against-more rows more ns m h.1)

pub at-more : (s : PlainState) (rows more : List Row) (t : Linear) (r : Row) → AreIn rows more → AtMeets Infeasible s rows t r → AtMeets Infeasible s more t r
at-more s rows more t r m h = record { narrow = h.narrow; negated = h.negated; each = against-more rows more (negations (here s t r)) m h.each }

-- ---- after an action, from its system

abbrev pub target_of : List Linear → PlainAction → Linear
target_of names a = term_over (λ x. get_or names x zero_value) a.target

pub record TargetMeets (P : List Row → Type 0) (s : PlainState) (a : PlainAction) (names : List Linear) (rows : List Row) (r : Row) : Type 0 where
  pub narrow : first_wide (term_over_steps (λ x. get_or names x zero_value) a.target) ≡ None
  pub at : AtMeets P s rows (target_of names a) r

abbrev pub ClosedMeets : (List Row → Type 0) → PlainState → PlainAction → List Linear → Option (List Row) → Row → Type 0
ClosedMeets P s a names None r = Unit {0}
ClosedMeets P s a names (Some rows) r = TargetMeets P s a names rows r

any-closed : (P : List Row → Type 0) (s : PlainState) (a : PlainAction) (names : List Linear) (rs : List Row) → AllByRecursion (ClosedMeets P s a names None) rs
any-closed P s a names [] = tt
any-closed P s a names (r ∷ rs) = (tt, any-closed P s a names rs)

targets : (P : List Row → Type 0) (s : PlainState) (a : PlainAction) (names : List Linear) (rows : List Row) (rs : List Row) → first_wide (term_over_steps (λ x. get_or names x zero_value) a.target) ≡ None → AllByRecursion (AtMeets P s rows (target_of names a)) rs → AllByRecursion (TargetMeets P s a names rows) rs
targets P s a names rows [] n h = tt
targets P s a names rows (r ∷ rs) n h = (record { narrow = n; at = h.0 }, targets P s a names rows rs n h.1)

pub closed-all : (P : List Row → Type 0) (s : PlainState) (a : PlainAction) (names : List Linear) (o : Option (List Row)) (named : List Row) (x : Unit {0}) → Meets P (prove_closed s named a names o) x → AllByRecursion (ClosedMeets P s a names o) named
closed-all P s a names o [] x h = tt
closed-all P s a names None (r ∷ rs) x h = any-closed P s a names (r ∷ rs)
closed-all P s a names (Some rows) (r ∷ rs) x h =
    let t = target_of names a in
    let steps = term_over_steps (λ x. get_or names x zero_value) a.target in
    let p = halves P (value_over names a.target) (λ t. prove_at s rows t (r ∷ rs)) x h in
    let e : t ≡ p.middle = computed-value P t p.middle steps p.first in
    targets P s a names rows (r ∷ rs) (computed-narrow P t p.middle steps p.first) (at-all P s rows t (r ∷ rs) x (subst (λ w. Meets P (prove_at s rows w (r ∷ rs)) x) (sym e) p.second))

pub all-closed : (P : List Row → Type 0) (s : PlainState) (a : PlainAction) (names : List Linear) (o : Option (List Row)) (named : List Row) → AllByRecursion (ClosedMeets P s a names o) named → Meets P (prove_closed s named a names o) tt
all-closed P s a names o [] h = meets-unit P tt
all-closed P s a names None (r ∷ rs) h = meets-unit P tt
all-closed P s a names (Some rows) (r ∷ rs) h =
    let t = target_of names a in
    meets-chain P (value_over names a.target) (λ t. prove_at s rows t (r ∷ rs)) t tt (meets-computed P t (term_over_steps (λ x. get_or names x zero_value) a.target) h.0.narrow)
    (all-at P s rows t (r ∷ rs) (all-by (TargetMeets P s a names rows) (AtMeets P s rows t) (λ q m. m.at) (r ∷ rs) h))

pub closed-more : (s : PlainState) (a : PlainAction) (names : List Linear) (o p : Option (List Row)) (r : Row) → HasMore o p → ClosedMeets Infeasible s a names o r → ClosedMeets Infeasible s a names p r
closed-more s a names None None r m h = tt
closed-more s a names None (Some more) r m h = absurd m
closed-more s a names (Some rows) None r m h = absurd m
closed-more s a names (Some rows) (Some more) r m h = record { narrow = h.narrow; at = at-more s rows more (target_of names a) r m h.at }

-- ---- after all actions

pub record ActionMeets (P : List Row → Type 0) (k : PlainRegionType) (s : PlainState) (f : PlainFact) (named : List Row) (a : PlainAction) : Type 0 where
  pub rows : Option (List Row)
  pub system : Meets P (system k s f named a (action_names k s f a)) rows
  pub each : AllByRecursion (ClosedMeets P s a (action_names k s f a) rows) named

abbrev then_others : PlainRegionType → PlainState → PlainFact → List Row → PlainAction → List PlainAction → Option (List Row) → Attempt (Unit {0})
then_others k s f named a more rows = prove_closed s named a (action_names k s f a) rows >>= λ v. prove_stable k s f named more

pub stable-all : (P : List Row → Type 0) (k : PlainRegionType) (s : PlainState) (f : PlainFact) (named : List Row) (as' : List PlainAction) (x : Unit {0}) → Meets P (prove_stable k s f named as') x → AllByRecursion (ActionMeets P k s f named) as'
stable-all P k s f named [] x h = tt
stable-all P k s f named (a ∷ more) x h =
    let names = action_names k s f a in
    let p = halves P (system k s f named a names) (then_others k s f named a more) x h in
    let q = halves P (prove_closed s named a names p.middle) (λ v. prove_stable k s f named more) x p.second in
    (record { rows = p.middle; system = p.first; each = closed-all P s a names p.middle named q.middle q.first }, stable-all P k s f named more x q.second)

pub all-stable : (P : List Row → Type 0) (k : PlainRegionType) (s : PlainState) (f : PlainFact) (named : List Row) (as' : List PlainAction) → AllByRecursion (ActionMeets P k s f named) as' → Meets P (prove_stable k s f named as') tt
all-stable P k s f named [] h = meets-unit P tt
all-stable P k s f named (a ∷ more) h =
    let names = action_names k s f a in
    meets-chain P (system k s f named a names) (then_others k s f named a more) h.0.rows tt h.0.system
    (meets-chain P (prove_closed s named a names h.0.rows) (λ v. prove_stable k s f named more) tt tt (all-closed P s a names h.0.rows named h.0.each) (all-stable P k s f named more h.1))

-- ---- the test of one candidate

pub record TestMeets (P : List Row → Type 0) (k : PlainRegionType) (s : PlainState) (f : PlainFact) (known : List Row) (a : PlainAction) (r : Row) : Type 0 where
  pub rows : Option (List Row)
  pub system : Meets P (system k s f known a (action_names k s f a)) rows
  pub closed : ClosedMeets P s a (action_names k s f a) rows r

pub test-parts : (P : List Row → Type 0) (k : PlainRegionType) (s : PlainState) (f : PlainFact) (known : List Row) (a : PlainAction) (r : Row) (x : Unit {0}) → Meets P (keeps_after k s f known a (r ∷ [])) x → TestMeets P k s f known a r
test-parts P k s f known a r x h =
    let names = action_names k s f a in
    let p = halves P (system k s f known a names) (λ rows. prove_closed s (r ∷ []) a names rows) x h in
    record { rows = p.middle; system = p.first; closed = (closed-all P s a names p.middle (r ∷ []) x p.second).0 }

pub test-meets : (P : List Row → Type 0) (k : PlainRegionType) (s : PlainState) (f : PlainFact) (known : List Row) (a : PlainAction) (r : Row) → TestMeets P k s f known a r → Meets P (keeps_after k s f known a (r ∷ [])) tt
test-meets P k s f known a r h =
    let names = action_names k s f a in
    meets-chain P (system k s f known a names) (λ rows. prove_closed s (r ∷ []) a names rows) h.rows tt h.system (all-closed P s a names h.rows (r ∷ []) (h.closed, tt))

-- where more is known
pub test-more : (k : PlainRegionType) (s : PlainState) (f : PlainFact) (named known : List Row) (a : PlainAction) (r : Row) → AreIn named known → IsOneOf named r → ActionMeets Infeasible k s f named a → Meets Infeasible (keeps_after k s f known a (r ∷ [])) tt
test-more k s f named known a r m i h =
    let names = action_names k s f a in
    let l = alike HasMore (system k s f named a names) (system k s f known a names) h.rows h.system.lists (system-like k s f named known a names m) h.system.runs in
    test-meets Infeasible k s f known a r (record {
      rows = l.result;
      system = record { lists = h.system.lists; runs = l.runs; each = h.system.each };
      closed = closed-more s a names h.rows l.result r l.related (all-one (ClosedMeets Infeasible s a names h.rows) named r h.each i);
    })
