-- What follows the index that goes out of a span, and the index behind it.
use Rattle.std.proofs.Common.{◌≡◌, List, [], ◌∷◌, Option, Some, None, subst}
use Rattle.std.specs.Prelude.{Result, Ok, Err}
use Rattle.cap_lin.specs.Linear.{Linear}
use Rattle.cap_lin.specs.Steps.{first_wide}
use Rattle.cap_lin.specs.declared.row.Row.{Row}
use Rattle.cap_lin.specs.declared.row.Sort.TheVariants.{Int}
use Rattle.cap_lin.specs.declared.row.Op.TheVariants.{Eq as Equal, Le as AtMost}
use Rattle.cap_gsolve.specs.declared.piece.Form.TheVariants as form
use Rattle.cap_goal_spec.specs.States.{PlainEnv, PlainState}
use Rattle.cap_goal_spec.specs.Environments.{one_value, settled, term_in, term_in_steps}
use Rattle.cap_rules.specs.Attempts.{Attempt, unit, ◌>>=◌, prove_that}
use Rattle.cap_rules.specs.Making.{sum}
use Rattle.cap_rules.specs.Taking.{Cut, cut, cut_index, prove_end}
use Rattle.cap_rules_steps.specs.Walks.{Makes, Claims}
use Rattle.cap_rules_steps.specs.declared.error.RuleError.{RuleError}
use Rattle.cap_rules_steps.proofs.Walking.{made_claims, unmade_claims, narrow_claims, claims_then, claims_fail}
use Rattle.cap_take_guards.specs.Cuts.{has_room}
use Rattle.cap_take_guards.proofs.Indices.{as-within}

abbrev Lists : Type 0
Lists = List (List Row)

-- the index of the term, which is within 128 bits
abbrev pub IsIndex : PlainEnv → Linear → Linear → Type 0
IsIndex env t i = (first_wide (term_in_steps env t) ≡ None) × (i ≡ term_in env t)

-- ---- all of a span

module _ (s : PlainState) (env : PlainEnv) (a e : Linear) where
  abbrev whole_behind : Linear → Attempt Cut
  whole_behind next = do
    _ ← prove_that s.rows e Equal next Int
    unit (cut env s [])

  abbrev whole_at : Linear → Attempt Cut
  whole_at i = do
    _ ← prove_that s.rows a Equal i Int
    next ← sum i one_value
    whole_behind next

  pub at-whole : (r : Result Cut RuleError) (t i : Linear) (before after : Lists) → IsIndex env t i → Claims r before after (whole_at i) → Claims r before after (cut_index s env a (Some e) 0 (settled t))
  at-whole r t i before after k h =
      narrow_claims r (term_in_steps env t) (whole_at (term_in env t)) before after k.0 (subst (λ x. Claims r before after (whole_at x)) k.1 h)

  pub next-whole : (r : Result Cut RuleError) (i next : Linear) (before after : Lists) → Makes (Ok next) (sum i one_value) → Claims r before after (whole_behind next) → Claims r before after (sum i one_value >>= λ n. whole_behind n)
  next-whole r i next before after m h = made_claims r (sum i one_value) (λ n. whole_behind n) next before after m h

  pub no-next-whole : (x : RuleError) (i : Linear) (before : Lists) → Makes (Err x) (sum i one_value) → Claims (Err x) before before (sum i one_value >>= λ n. whole_behind n)
  no-next-whole x i before m = unmade_claims x (sum i one_value) (λ n. whole_behind n) before m

-- ---- an index in a span

module _ (s : PlainState) (env : PlainEnv) (a : Linear) (e : Option Linear) (i : Linear) where
  abbrev within_left : Linear → Attempt Cut
  within_left next = unit (cut env s (form.Span a (Some i) ∷ form.Span next e ∷ []))

  abbrev within_room : Linear → Attempt Cut
  within_room next = do
    _ ← has_room s
    within_left next

  abbrev within_behind : Linear → Attempt Cut
  within_behind next = do
    _ ← prove_end s.rows e next
    within_room next

  pub next-within : (r : Result Cut RuleError) (next : Linear) (before after : Lists) → Makes (Ok next) (sum i one_value) → Claims r before after (within_behind next) → Claims r before after (sum i one_value >>= λ n. within_behind n)
  next-within r next before after m h = made_claims r (sum i one_value) (λ n. within_behind n) next before after m h

  pub no-next-within : (x : RuleError) (before : Lists) → Makes (Err x) (sum i one_value) → Claims (Err x) before before (sum i one_value >>= λ n. within_behind n)
  no-next-within x before m = unmade_claims x (sum i one_value) (λ n. within_behind n) before m

  pub end-within : (r : Result Cut RuleError) (next : Linear) (before middle after : Lists) → Claims (Ok tt) before middle (prove_end s.rows e next) → Claims r middle after (within_room next) → Claims r before after (within_behind next)
  end-within r next before middle after m h = claims_then r (prove_end s.rows e next) (λ _. within_room next) tt before middle after m h

  pub no-end-within : (x : RuleError) (next : Linear) (before after : Lists) → Claims (Err x) before after (prove_end s.rows e next) → Claims (Err x) before after (within_behind next)
  no-end-within x next before after m = claims_fail x (prove_end s.rows e next) (λ _. within_room next) before after m

  pub room-within : (r : Result Cut RuleError) (next : Linear) (before after : Lists) → Makes (Ok tt) (has_room s) → Claims r before after (within_left next) → Claims r before after (within_room next)
  room-within r next before after m h = made_claims r (has_room s) (λ _. within_left next) tt before after m h

  pub no-room-within : (x : RuleError) (next : Linear) (before : Lists) → Makes (Err x) (has_room s) → Claims (Err x) before before (within_room next)
  no-room-within x next before m = unmade_claims x (has_room s) (λ _. within_left next) before m

module _ (s : PlainState) (env : PlainEnv) (a : Linear) (e : Option Linear) where
  abbrev within_at : Linear → Attempt Cut
  within_at i = do
    _ ← prove_that s.rows a AtMost i Int
    next ← sum i one_value
    within_behind s env a e i next

  pub at-within : (r : Result Cut RuleError) (t i : Linear) (before after : Lists) → IsIndex env t i → Claims r before after (within_at i) → Claims r before after (cut_index s env a e 1 (settled t))
  at-within r t i before after k h =
      as-within r s env a e t before after
      (narrow_claims r (term_in_steps env t) (within_at (term_in env t)) before after k.0 (subst (λ x. Claims r before after (within_at x)) k.1 h))
