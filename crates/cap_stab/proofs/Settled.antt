-- A fact is settled: from part to part.
use Rattle.std.proofs.Common.{◌≡◌, ℕ, Bool, true, false, List, [], ◌∷◌, ◌++◌, length, Some, None, ap}
use Rattle.std.specs.Prelude.{nat_lt, slice_set, Result, Ok, Err}
use Rattle.cap_lin.specs.declared.row.Row.{Row}
use Rattle.cap_lin.specs.declared.row.Sort.{Sort}
use Rattle.cap_lin.specs.declared.row.Sort.TheVariants.{Int}
use Rattle.cap_prog.specs.Program.{PlainRegionType}
use Rattle.cap_goal_spec.specs.States.{PlainFact, PlainState, longest_list, with_state}
use Rattle.cap_goal_spec.specs.Candidates.{candidates, later_state}
use Rattle.cap_rules.specs.Attempts.{unit, need, go_on}
use Rattle.cap_rules.specs.Making.{with_sort}
use Rattle.cap_rules.specs.Resting.{named_candidates, prove_at, prove_stable, with_settled, settle}
use Rattle.cap_rules_steps.specs.Walks.{Makes, Claims}
use Rattle.cap_rules_steps.specs.declared.error.RuleError.{RuleError}
use Rattle.cap_rules_steps.proofs.Walking.{unmade, weaker, made_claims, unmade_claims, claims_then, claims_fail}

abbrev Lists : Type 0
Lists = List (List Row)

-- ---- a sort more

sort-value : (b : Bool) (s s' : PlainState) (sorts : List Sort) → (go_on (go_on (need b).events (need b).value (λ z. unit sorts)).events (go_on (need b).events (need b).value (λ z. unit sorts)).value (λ l. unit (record s { sorts = l }))).value ≡ Some s' → s' ≡ record s { sorts = sorts }
sort-value true s s' sorts e = same e
  where
    same : {x y : PlainState} → Some x ≡ Some y → y ≡ x
    same e = cc
sort-value false s s' sorts e = absurd (clash e)
  where
    clash : {x : PlainState} → None ≡ Some x → ⊥
    clash e = cc

pub sort_made : (s s' : PlainState) (o : Sort) → Makes (Ok s') (with_sort s o) → s' ≡ record s { sorts = s.sorts ++ (o ∷ []) }
sort_made s s' o h = sort-value (nat_lt (length s.sorts) longest_list) s s' (s.sorts ++ (o ∷ [])) (h.ends []).1

pub sort_facts : (s s' : PlainState) (o : Sort) → Makes (Ok s') (with_sort s o) → s'.facts ≡ s.facts
sort_facts s s' o h = ap (λ (x : PlainState). x.facts) (sort_made s s' o h)

-- ---- the settled state

abbrev settled_in : PlainState → PlainState → ℕ → PlainFact → PlainState
settled_in s s' j f = record s' { facts = slice_set s.facts j (with_state f (later_state s)) }

pub settled_fails : (s : PlainState) (j : ℕ) (f : PlainFact) (named : List Row) (e : RuleError) → Makes (Err e) (with_sort s Int) → Makes (Err e) (with_settled s j f named)
settled_fails s j f named e h = unmade e (with_sort s Int) _ h

-- ---- the rule

pub settle_unnamed : (k : PlainRegionType) (s : PlainState) (j : ℕ) (f : PlainFact) (list : List ℕ) (e : RuleError) (ls : Lists) → Makes (Err e) (named_candidates 1 (candidates k s f) list) → Claims (Err e) ls ls (settle k s j f list)
settle_unnamed k s j f list e ls h = unmade_claims e (named_candidates 1 (candidates k s f) list) _ ls h

-- candidates of these numbers are there
settle-named : (k : PlainRegionType) (s : PlainState) (j : ℕ) (f : PlainFact) (list : List ℕ) (named : List Row) (r : Result PlainState RuleError) (before after : Lists) → Makes (Ok named) (named_candidates 1 (candidates k s f) list) → Claims r before after (go_on (prove_at s s.rows f.state named).events (prove_at s s.rows f.state named).value (λ z. go_on (prove_stable k s f named k.actions).events (prove_stable k s f named k.actions).value (λ y. with_settled s j f named))) → Claims r before after (settle k s j f list)
settle-named k s j f list named r before after h c =
    made_claims r (named_candidates 1 (candidates k s f) list) (λ rows. go_on (prove_at s s.rows f.state rows).events (prove_at s s.rows f.state rows).value (λ z. go_on (prove_stable k s f rows k.actions).events (prove_stable k s f rows k.actions).value (λ y. with_settled s j f rows))) named before after h c

pub settle_unproved : (k : PlainRegionType) (s : PlainState) (j : ℕ) (f : PlainFact) (list : List ℕ) (named : List Row) (e : RuleError) (before after : Lists) → Makes (Ok named) (named_candidates 1 (candidates k s f) list) → Claims (Err e) before after (prove_at s s.rows f.state named) → Claims (Err e) before after (settle k s j f list)
settle_unproved k s j f list named e before after h c =
    settle-named k s j f list named (Err e) before after h (claims_fail e (prove_at s s.rows f.state named) _ before after c)

pub settle_unstable : (k : PlainRegionType) (s : PlainState) (j : ℕ) (f : PlainFact) (list : List ℕ) (named : List Row) (e : RuleError) (before middle after : Lists) → Makes (Ok named) (named_candidates 1 (candidates k s f) list) → Claims (Ok tt) before middle (prove_at s s.rows f.state named) → Claims (Err e) middle after (prove_stable k s f named k.actions) → Claims (Err e) before after (settle k s j f list)
settle_unstable k s j f list named e before middle after h c d =
    settle-named k s j f list named (Err e) before after h (claims_then (Err e) (prove_at s s.rows f.state named) _ tt before middle after c (claims_fail e (prove_stable k s f named k.actions) _ middle after d))

pub settle_made : (k : PlainRegionType) (s : PlainState) (j : ℕ) (f : PlainFact) (list : List ℕ) (named : List Row) (r : Result PlainState RuleError) (before middle after : Lists) → Makes (Ok named) (named_candidates 1 (candidates k s f) list) → Claims (Ok tt) before middle (prove_at s s.rows f.state named) → Claims (Ok tt) middle after (prove_stable k s f named k.actions) → Makes r (with_settled s j f named) → Claims r before after (settle k s j f list)
settle_made k s j f list named r before middle after h c d m =
    settle-named k s j f list named r before after h (claims_then r (prove_at s s.rows f.state named) _ tt before middle after c (claims_then r (prove_stable k s f named k.actions) _ tt middle after after d (weaker r _ after m)))
