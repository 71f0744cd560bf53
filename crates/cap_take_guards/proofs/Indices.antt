-- An index that goes out of a span, with an end or without.
use Rattle.std.proofs.Common.{◌≡◌, ℕ, List, [], ◌∷◌, Option, Some, None}
use Rattle.std.specs.Prelude.{Result, Ok, Err}
use Rattle.cap_lin.specs.Linear.{Linear}
use Rattle.cap_lin.specs.declared.row.Row.{Row}
use Rattle.cap_lin.specs.declared.row.Sort.TheVariants.{Int}
use Rattle.cap_lin.specs.declared.row.Op.TheVariants.{Le as AtMost}
use Rattle.cap_gsolve.specs.declared.piece.Form.TheVariants as form
use Rattle.cap_goal_spec.specs.States.{PlainEnv, PlainState}
use Rattle.cap_goal_spec.specs.Environments.{one_value, settled, open_to, bind_open}
use Rattle.cap_rules.specs.Attempts.{Attempt, unit, ◌>>=◌, prove_that}
use Rattle.cap_rules.specs.Making.{sum, value_by}
use Rattle.cap_rules.specs.Taking.{Cut, cut, cut_index, prove_end}
use Rattle.cap_rules_steps.specs.Walks.{Makes, Claims}
use Rattle.cap_rules_steps.specs.declared.error.RuleError.{RuleError}
use Rattle.cap_rules_steps.proofs.Walking.{made_claims, unmade_claims, claims_then, claims_fail, weaker, done_as}
use Rattle.cap_take_guards.specs.Cuts.{has_room}

abbrev Lists : Type 0
Lists = List (List Row)

-- the index that a term stands for goes
abbrev pub within : PlainState → PlainEnv → Linear → Option Linear → Linear → Attempt Cut
within s env a e t = do
  i ← value_by env t
  _ ← prove_that s.rows a AtMost i Int
  next ← sum i one_value
  _ ← prove_end s.rows e next
  _ ← has_room s
  unit (cut env s (form.Span a (Some i) ∷ form.Span next e ∷ []))

pub as-within : (r : Result Cut RuleError) (s : PlainState) (env : PlainEnv) (a : Linear) (e : Option Linear) (t : Linear) (before after : List (List Row)) → Claims r before after (within s env a e t) → Claims r before after (cut_index s env a e 1 (settled t))
as-within r s env a None t before after h = h
as-within r s env a (Some x) t before after h = h

-- ---- the first index

abbrev pub behind_first : PlainState → PlainEnv → Linear → Option Linear → Option ℕ → Linear → Cut
behind_first s env a e x next = cut (bind_open env x a) s (form.Span next e ∷ [])

abbrev pub first-next : PlainState → PlainEnv → Linear → Option Linear → Option ℕ → Linear → Attempt Cut
first-next s env a e x next = do
  _ ← prove_end s.rows e next
  unit (behind_first s env a e x next)

as-first : (r : Result Cut RuleError) (s : PlainState) (env : PlainEnv) (a : Linear) (e : Option Linear) (x : Option ℕ) (before after : Lists) → Claims r before after (sum a one_value >>= first-next s env a e x) → Claims r before after (cut_index s env a e 1 (open_to x))
as-first r s env a None x before after h = h
as-first r s env a (Some y) x before after h = h

pub first-wide : (f : RuleError) (s : PlainState) (env : PlainEnv) (a : Linear) (e : Option Linear) (x : Option ℕ) (ls : Lists) → Makes (Err f) (sum a one_value) → Claims (Err f) ls ls (cut_index s env a e 1 (open_to x))
first-wide f s env a e x ls m = as-first (Err f) s env a e x ls ls (unmade_claims f (sum a one_value) (first-next s env a e x) ls m)

pub first-unproved : (f : RuleError) (s : PlainState) (env : PlainEnv) (a : Linear) (e : Option Linear) (x : Option ℕ) (next : Linear) (before after : Lists) → Makes (Ok next) (sum a one_value) → Claims (Err f) before after (prove_end s.rows e next) → Claims (Err f) before after (cut_index s env a e 1 (open_to x))
first-unproved f s env a e x next before after m k =
    as-first (Err f) s env a e x before after (made_claims (Err f) (sum a one_value) (first-next s env a e x) next before after m (claims_fail f (prove_end s.rows e next) (λ u. unit (behind_first s env a e x next)) before after k))

pub first-goes : (c : Cut) (s : PlainState) (env : PlainEnv) (a : Linear) (e : Option Linear) (x : Option ℕ) (next : Linear) (before after : Lists) → Makes (Ok next) (sum a one_value) → Claims (Ok tt) before after (prove_end s.rows e next) → c ≡ behind_first s env a e x next → Claims (Ok c) before after (cut_index s env a e 1 (open_to x))
first-goes c s env a e x next before after m k q =
    as-first (Ok c) s env a e x before after (made_claims (Ok c) (sum a one_value) (first-next s env a e x) next before after m (claims_then (Ok c) (prove_end s.rows e next) (λ u. unit (behind_first s env a e x next)) tt before after after k (weaker (Ok c) (unit (behind_first s env a e x next)) after (done_as c (behind_first s env a e x next) q))))
