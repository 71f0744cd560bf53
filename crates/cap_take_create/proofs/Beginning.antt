-- The parts of a creation, taken together.
use Rattle.std.proofs.Common.{◌≡◌, ℕ, List, length, subst, ◌∙◌}
use Rattle.std.specs.Prelude.{Result}
use Rattle.cap_lin.specs.Linear.{Linear}
use Rattle.cap_prog.specs.declared.assertion.Slot.{Slot}
use Rattle.cap_prog.specs.Program.{PlainItem, PlainCase, PlainRegionType, PlainProgram}
use Rattle.cap_goal_spec.specs.States.{PlainEnv, PlainState, PlainGoal}
use Rattle.cap_goal_spec.specs.Environments.{zero_value}
use Rattle.cap_rules.specs.Attempts.{Attempt, go_on}
use Rattle.cap_rules.specs.Making.{determined_slot, fresh, with_env, env_at, fact_of}
use Rattle.cap_rules.specs.Taking.{with_new_region, case_env}
use Rattle.cap_rules.specs.Rules.{Remaining, leaves}
use Rattle.cap_rules_steps.specs.Walks.{Makes}
use Rattle.cap_rules_steps.specs.declared.error.RuleError.{RuleError}
use Rattle.cap_take_create.specs.Creating.{begun_tasks, begun}
use Rattle.cap_take_create.proofs.Grouping.{same-after, grouped}

abbrev left-of : PlainState → PlainCase → ℕ → ℕ → PlainItem → ℕ → Remaining → PlainState → Attempt (List PlainGoal)
left-of s z c k i left r t = leaves t (begun_tasks s z.items k c (length s.envs) (fresh s) i left r)

abbrev case-of : PlainState → PlainRegionType → PlainCase → ℕ → List Linear → Slot → ℕ → Attempt PlainEnv
case-of s y z k us x e = case_env y z (fact_of (fresh s) k us zero_value) (determined_slot (env_at s e) x)

-- one step after another
abbrev pub stepwise : PlainProgram → PlainState → PlainRegionType → PlainCase → ℕ → ℕ → List Linear → Slot → PlainItem → ℕ → Remaining → Attempt (List PlainGoal)
stepwise p s y z c k us x i left r =
    let o = with_new_region p s y k in
    let q = case-of s y z k us x r.env in
    go_on o.events o.value (λ t. go_on q.events q.value (λ env. go_on (with_env t env).events (with_env t env).value (left-of s z c k i left r)))

pub begun-stepwise : (p : PlainProgram) (s : PlainState) (y : PlainRegionType) (z : PlainCase) (c k : ℕ) (us : List Linear) (x : Slot) (i : PlainItem) (left : ℕ) (r : Remaining) → begun p s y z c k us x i left r ≡ stepwise p s y z c k us x i left r
begun-stepwise p s y z c k us x i left r =
    let o = with_new_region p s y k in
    let q = case-of s y z k us x r.env in
    let go : PlainState → Attempt (List PlainGoal) = left-of s z c k i left r in
    grouped o.events o.value (λ t. go_on q.events q.value (λ env. with_env t env)) go ∙ same-after o.events o.value _ _ (λ t. grouped q.events q.value (λ env. with_env t env) go)

pub begun-rest : (p : PlainProgram) (s : PlainState) (y : PlainRegionType) (z : PlainCase) (c k : ℕ) (us : List Linear) (x : Slot) (i : PlainItem) (left : ℕ) (r : Remaining) (a : Result (List PlainGoal) RuleError) → Makes a (begun p s y z c k us x i left r) → Makes a (stepwise p s y z c k us x i left r)
begun-rest p s y z c k us x i left r a m = subst (Makes a) (begun-stepwise p s y z c k us x i left r) m
