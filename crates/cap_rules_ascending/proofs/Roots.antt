-- The roots of a program whose terms ascend.
use Rattle.std.proofs.Common.{ℕ, zero, suc, ◌+◌, ◌-◌, Bool, true, false, List, [], ◌∷◌, map, length, Option, Some, None}
use Rattle.std.specs.Prelude.{slice_get, replicate, if◌then◌else◌}
use Rattle.std.specs.List.{AllByRecursion}
use Rattle.cap_lin.specs.Linear.{Linear}
use Rattle.cap_prog.specs.declared.assertion.Comp.{Comp}
use Rattle.cap_prog.specs.Program.{Items, PlainCase, PlainRegionType, PlainFunction, PlainProgram, done}
use Rattle.cap_rules.specs.cap_goal_spec.Terms.{variables_from}
use Rattle.cap_rules.specs.cap_goal_spec.States.{PlainEnv, PlainState, PlainTask, to_run, to_turn, to_give, to_take, to_close, to_rest, PlainGoal, goal_of}
use Rattle.cap_rules.specs.cap_goal_spec.Environments.{zero_value, bound, unbound}
use Rattle.cap_rules.specs.cap_goal_spec.Roots.{PlainUnit, region_unit, function_unit, written_row, case_state, case_root, Knows, at_entry, at_exit, at_loop, home_of, root_locals, root_result, root_env, root_store, root_state, stability, from_given, LoopPoint, loops_in, loop_roots, region_roots, optional_roots, roots, units}
use Rattle.cap_rules_ascending.specs.Ascending.{TermAscends, RowAscends, NameAscends, EnvAscends, StateAscends, TaskAscends, GoalAscends, CompAscends, CaseAscends, TypeAscends, ProgramAscends}
use Rattle.cap_rules_ascending.specs.Laws.{RootAscends, RootsAscend}
use Rattle.cap_rules_ascending.proofs.Lists.{IfSome, all-join, all-get, all-map, all-flat, all-any}
use Rattle.cap_rules_ascending.proofs.Terms.{variable-ascends, row-ascends, bound-ascends, unbound-ascends, variables-ascend, own-ascends}
use Rattle.cap_rules_ascending.proofs.Givings.{goal-of-ascends}

root-is : (o : Option PlainGoal) → IfSome GoalAscends o → RootAscends o
root-is None h = tt
root-is (Some g) h = h

goal-root : (s : PlainState) (ts : List PlainTask) → StateAscends s → AllByRecursion TaskAscends ts → RootAscends (goal_of s ts)
goal-root s ts h k = root-is (goal_of s ts) (goal-of-ascends s ts h k)

written-ascend : (cs : List Comp) → AllByRecursion CompAscends cs → AllByRecursion RowAscends (map written_row cs)
written-ascend cs h = all-map CompAscends RowAscends written_row (λ c i. row-ascends c.left c.op c.right c.sort i.left i.right) cs h

case-ascends : (k : PlainRegionType) (n : ℕ) (c : PlainCase) → CaseAscends c → StateAscends (case_state k n c)
case-ascends k n c h = record {
  rows = written-ascend c.when h.when;
  store = tt;
  cells = tt;
  facts = tt;
  guards = tt;
  before = tt;
  opened = (record { region = variable-ascends 0; args = variables-ascend 1 (k.params - 1); state = h.state }, tt);
  envs = (bound-ascends (variables_from 0 (k.params + length c.names)) (variables-ascend 0 (k.params + length c.names)), tt);
}

case-roots-ascend : (o : Option PlainRegionType) (n : ℕ) → IfSome TypeAscends o → AllByRecursion RootAscends (region_roots o n)
case-roots-ascend None n h = tt
case-roots-ascend (Some k) n h = all-map CaseAscends RootAscends (case_root k n) (λ c i. goal-root (case_state k n c) (to_give c.items 0 0 ∷ to_rest 0 0 ∷ to_close false 0 ∷ []) (case-ascends k n c i) (tt, (tt, (tt, tt)))) k.cases h

terms-if : (b : Bool) (xs ys : List Linear) → AllByRecursion TermAscends xs → AllByRecursion TermAscends ys → AllByRecursion TermAscends (if b then xs else ys)
terms-if true xs ys h k = h
terms-if false xs ys h k = k

env-if : (b : Bool) (xs ys : PlainEnv) → EnvAscends xs → EnvAscends ys → EnvAscends (if b then xs else ys)
env-if true xs ys h k = h
env-if false xs ys h k = k

name-if : (b : Bool) (t : Linear) → TermAscends t → NameAscends (if b then Some t else None)
name-if true t h = h
name-if false t h = tt

zeros-ascend : (n : ℕ) → AllByRecursion TermAscends (replicate n zero_value)
zeros-ascend zero = tt
zeros-ascend (suc n) = (tt, zeros-ascend n)

store-ascends : (w : Knows) (f : PlainFunction) → AllByRecursion TermAscends (root_store w f)
store-ascends w f = all-join TermAscends (variables_from 0 f.params) (if w.locals then variables_from f.params f.locals else replicate f.locals zero_value) (variables-ascend 0 f.params) (terms-if w.locals (variables_from f.params f.locals) (replicate f.locals zero_value) (variables-ascend f.params f.locals) (zeros-ascend f.locals))

env-ascends : (w : Knows) (f : PlainFunction) (n new : ℕ) → EnvAscends (root_env w f n new)
env-ascends w f n new = own-ascends f (home_of w f n) (variables_from 0 f.params) (root_locals w f) (root_result w f n) new (variables-ascend 0 f.params) (env-if w.locals (bound (variables_from f.params f.locals)) (unbound f.locals) (bound-ascends (variables_from f.params f.locals) (variables-ascend f.params f.locals)) (unbound-ascends f.locals)) (name-if w.result _ (variable-ascends _))

root-state-ascends : (w : Knows) (f : PlainFunction) (n : ℕ) (envs : List PlainEnv) → AllByRecursion EnvAscends envs → StateAscends (root_state w f n envs)
root-state-ascends w f n envs h = record { rows = tt; store = store-ascends w f; cells = tt; facts = tt; guards = tt; before = tt; opened = tt; envs = h }

stability-ascends : (w : Knows) (f : PlainFunction) (n new : ℕ) (items : Items) → RootAscends (stability w f n new items)
stability-ascends w f n new items = goal-root (root_state w f n (root_env w f n new ∷ root_env w f n new ∷ [])) (to_give items 0 0 ∷ to_rest 0 0 ∷ to_take items 1 0 0 ∷ []) (root-state-ascends w f n (root_env w f n new ∷ root_env w f n new ∷ []) (env-ascends w f n new, (env-ascends w f n new, tt))) (tt, (tt, (tt, tt)))

given-ascends : (w : Knows) (f : PlainFunction) (n new : ℕ) (items : Items) (t : PlainTask) → TaskAscends t → RootAscends (from_given w f n new items t)
given-ascends w f n new items t h = goal-root (root_state w f n (root_env w f n new ∷ [])) (to_give items 0 0 ∷ t ∷ []) (root-state-ascends w f n (root_env w f n new ∷ []) (env-ascends w f n new, tt)) (tt, (h, tt))

loop-ascends : (f : PlainFunction) (n : ℕ) (w : LoopPoint) → AllByRecursion RootAscends (loop_roots f n w)
loop-ascends f n w = (stability-ascends at_loop f n (length w.invariant.names) w.invariant.items, (given-ascends at_loop f n (length w.invariant.names) w.invariant.items (to_turn (home_of at_loop f n) w.block) tt, tt))

function-ascends : (o : Option PlainFunction) (n : ℕ) → AllByRecursion RootAscends (optional_roots o n)
function-ascends None n = tt
function-ascends (Some f) n = (
  stability-ascends at_entry f n 0 f.requires,
  (
    stability-ascends at_exit f n (length f.ensures.names) f.ensures.items,
    (
      given-ascends at_entry f n 0 f.requires (to_run (home_of at_entry f n) f.body) tt,
      all-flat (λ (w : LoopPoint). Unit {0}) RootAscends (loop_roots f n) (λ w i. loop-ascends f n w) (loops_in f.body done) (all-any (λ (w : LoopPoint). Unit {0}) (λ w. tt) (loops_in f.body done)),
    ),
  ),
)

unit-ascends : (p : PlainProgram) (u : PlainUnit) → ProgramAscends p → AllByRecursion RootAscends (roots p u)
unit-ascends p (region_unit n) h = case-roots-ascend (slice_get p.regions n) n (all-get TypeAscends p.regions n h)
unit-ascends p (function_unit n) h = function-ascends (slice_get p.functions n) n

pub roots-ascend : RootsAscend
roots-ascend p h = all-flat (λ (u : PlainUnit). Unit {0}) RootAscends (roots p) (λ u i. unit-ascends p u h) (units p) (all-any (λ (u : PlainUnit). Unit {0}) (λ u. tt) (units p))
