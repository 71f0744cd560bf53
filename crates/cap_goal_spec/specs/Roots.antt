-- The goals from which the trees of a unit grow, and the results on the way to them.
use Rattle.std.specs.Prelude.{ℕ, ◌+◌, ◌-◌, Bool, true, false, if◌then◌else◌, List, [], ◌∷◌, ◌++◌, length, map, flat_map, replicate, slice_get, Option, Some, None}
use Rattle.std.specs.List.{range_with_len}
use Rattle.cap_fm_spec.specs.cap_lin.Linear.{Linear, variable}
use Rattle.cap_fm_spec.specs.cap_lin.Steps.{Step}
use Rattle.cap_fm_spec.specs.cap_lin.Rows.{row_of, row_of_steps}
use Rattle.cap_fm_spec.specs.cap_lin.declared.row.Row.{Row}
use Rattle.cap_fm_spec.specs.cap_lin.declared.row.Sort.TheVariants.{Int}
use Rattle.cap_prog.specs.declared.assertion.Comp.{Comp}
use Rattle.cap_prog.specs.Program.{Items, PlainAssertion, PlainCase, PlainRegionType, Label, PlainAct, set, read, write, cas, faa, dispose, alloc, call, fork, branch, loop, check, give_back, Block, done, first, append, PlainFunction, PlainProgram}
use Rattle.cap_prog.specs.Scopes.{region_sorts}
use Rattle.cap_goal_spec.specs.Terms.{variables_from}
use Rattle.cap_goal_spec.specs.States.{PlainFact, PlainEnv, PlainState, Home, PlainTask, to_run, to_turn, to_give, to_take, to_close, to_rest, PlainGoal, goal_of}
use Rattle.cap_goal_spec.specs.Environments.{zero_value, bound, unbound, own_env}

-- a region type or a function, by its number
pub data PlainUnit : Type 0 where
  region_unit : ℕ → PlainUnit
  function_unit : ℕ → PlainUnit

abbrev pub empty_state : PlainState
empty_state = record {
  sorts = [];
  rows = [];
  store = [];
  cells = [];
  facts = [];
  guards = [];
  before = [];
  opened = [];
  envs = [];
}

-- ---- region types

-- a comparison of terms as they are written
abbrev pub written_row : Comp → Row
written_row c = row_of c.left c.op c.right c.sort

abbrev pub written_steps : Comp → List Step
written_steps c = row_of_steps c.left c.op c.right c.sort

-- the region is open, in the case's state; variables are its parameters and then the case's names
abbrev pub case_fact : PlainRegionType → ℕ → PlainCase → PlainFact
case_fact k n c = record {
  region = variable 0;
  kind = n;
  args = variables_from 1 (k.params - 1);
  state = c.state;
  loose = false;
}

abbrev pub case_state : PlainRegionType → ℕ → PlainCase → PlainState
case_state k n c = record empty_state {
  sorts = region_sorts k c.names;
  rows = map written_row c.when;
  opened = case_fact k n c ∷ [];
  envs = bound (variables_from 0 (k.params + length c.names)) ∷ [];
}

-- a case's assertion, once given, can be given up again after steps of others
abbrev pub case_root : PlainRegionType → ℕ → PlainCase → Option PlainGoal
case_root k n c =
    goal_of (case_state k n c) (to_give c.items 0 0 ∷ to_rest 0 0 ∷ to_close false 0 ∷ [])

abbrev pub case_steps : PlainCase → List Step
case_steps c = flat_map written_steps c.when

-- ---- functions

-- beside parameters and fixed names, locals or the result may have variables at a root
pub record Knows : Type 0 where
  pub locals : Bool
  pub result : Bool

abbrev pub at_entry : Knows
at_entry = record { locals = false; result = false }

abbrev pub at_exit : Knows
at_exit = record { locals = false; result = true }

abbrev pub at_loop : Knows
at_loop = record { locals = true; result = false }

abbrev pub home_of : Knows → PlainFunction → ℕ → Home
home_of w f n = record { function = n; fixed = f.params + (if w.locals then f.locals else 0) }

abbrev pub root_locals : Knows → PlainFunction → PlainEnv
root_locals w f = if w.locals then bound (variables_from f.params f.locals) else unbound f.locals

abbrev pub root_result : Knows → PlainFunction → ℕ → Option Linear
root_result w f n =
    if w.result then Some (variable ((home_of w f n).fixed + length f.fixed)) else None

abbrev pub root_env : Knows → PlainFunction → ℕ → ℕ → PlainEnv
root_env w f n new =
    own_env f (home_of w f n) (variables_from 0 f.params) (root_locals w f) (root_result w f n) new

-- without variables locals are 0
abbrev pub root_store : Knows → PlainFunction → List Linear
root_store w f =
    variables_from 0 f.params ++
    (if w.locals then variables_from f.params f.locals else replicate f.locals zero_value)

abbrev pub root_state : Knows → PlainFunction → ℕ → List PlainEnv → PlainState
root_state w f n envs = record empty_state {
  sorts = replicate (home_of w f n).fixed Int ++ (f.fixed ++ (if w.result then Int ∷ [] else []));
  store = root_store w f;
  envs = envs;
}

-- an assertion, once given, can be given up again after steps of others; so many names are new in
-- it
abbrev pub stability : Knows → PlainFunction → ℕ → ℕ → Items → Option PlainGoal
stability w f n new items =
    goal_of (root_state w f n (root_env w f n new ∷ root_env w f n new ∷ []))
    (to_give items 0 0 ∷ to_rest 0 0 ∷ to_take items 1 0 0 ∷ [])

-- a task, once an assertion is given
abbrev pub from_given : Knows → PlainFunction → ℕ → ℕ → Items → PlainTask → Option PlainGoal
from_given w f n new items t =
    goal_of (root_state w f n (root_env w f n new ∷ [])) (to_give items 0 0 ∷ t ∷ [])

-- a loop: its invariant, and the statements from it on
pub record LoopPoint : Type 0 where
  pub invariant : PlainAssertion
  pub block : Block

-- the loops of a block in text order, where other statements run after the block
abbrev mutual
  pub loops_of : PlainAct → Label → Block → List LoopPoint
  loops_of (set x t) l after = []
  loops_of (read x a) l after = []
  loops_of (write a t) l after = []
  loops_of (cas x a old new) l after = []
  loops_of (faa x a t) l after = []
  loops_of (dispose a) l after = []
  loops_of (alloc x n) l after = []
  loops_of (call x f args) l after = []
  loops_of (fork f args) l after = []
  loops_of (branch c a b) l after = loops_in a after ++ loops_in b after
  loops_of (loop c i a) l after =
      record { invariant = i; block = first l (loop c i a) after }
      ∷ loops_in a (first l (loop c i a) after)
  loops_of (check c) l after = []
  loops_of (give_back t) l after = []

  pub loops_in : Block → Block → List LoopPoint
  loops_in done after = []
  loops_in (first l a rest) after = loops_of a l (append rest after) ++ loops_in rest after

abbrev pub loop_roots : PlainFunction → ℕ → LoopPoint → List (Option PlainGoal)
loop_roots f n w =
    stability at_loop f n (length w.invariant.names) w.invariant.items
    ∷ from_given at_loop f n (length w.invariant.names) w.invariant.items
    (to_turn (home_of at_loop f n) w.block)
    ∷ []

abbrev pub function_roots : PlainFunction → ℕ → List (Option PlainGoal)
function_roots f n =
    stability at_entry f n 0 f.requires
    ∷ stability at_exit f n (length f.ensures.names) f.ensures.items
    ∷ from_given at_entry f n 0 f.requires (to_run (home_of at_entry f n) f.body)
    ∷ flat_map (loop_roots f n) (loops_in f.body done)

-- ---- all units

abbrev pub region_roots : Option PlainRegionType → ℕ → List (Option PlainGoal)
region_roots None n = []
region_roots (Some k) n = map (case_root k n) k.cases

abbrev pub region_steps : Option PlainRegionType → List Step
region_steps None = []
region_steps (Some k) = flat_map case_steps k.cases

abbrev pub optional_roots : Option PlainFunction → ℕ → List (Option PlainGoal)
optional_roots None n = []
optional_roots (Some f) n = function_roots f n

-- a root without tasks is a tree without nodes
abbrev pub roots : PlainProgram → PlainUnit → List (Option PlainGoal)
roots p (region_unit n) = region_roots (slice_get p.regions n) n
roots p (function_unit n) = optional_roots (slice_get p.functions n) n

abbrev pub roots_steps : PlainProgram → PlainUnit → List Step
roots_steps p (region_unit n) = region_steps (slice_get p.regions n)
roots_steps p (function_unit n) = []

-- the region types in the order of the text, and then the functions
abbrev pub units : PlainProgram → List PlainUnit
units p =
    map region_unit (range_with_len 0 (length p.regions))
    ++ map function_unit (range_with_len 0 (length p.functions))

abbrev pub all_roots : PlainProgram → List (Option PlainGoal)
all_roots p = flat_map (roots p) (units p)

abbrev pub all_roots_steps : PlainProgram → List Step
all_roots_steps p = flat_map (roots_steps p) (units p)
