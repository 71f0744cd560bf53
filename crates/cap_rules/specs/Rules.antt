-- The 26 rules: what a choice makes of a goal. Each is said by the head of the goal's tasks; what
-- has no line here doesn't apply.
use Rattle.std.specs.Prelude.{ℕ, zero, suc, ◌+◌, ◌-◌, ◌==◌, ◌&&◌, Bool, true, false, not, is_none, nat_lt, List, [], ◌∷◌, ◌++◌, length, flat_map, take, drop, remove, slice_get, pos, Option, Some, None}
use Rattle.cap_goal_spec.specs.cap_lin.Linear.{Linear, number, variable}
use Rattle.cap_goal_spec.specs.cap_lin.declared.row.Sort.TheVariants.{Int}
use Rattle.cap_goal_spec.specs.cap_lin.declared.row.Op.TheVariants.{Ge as AtLeast}
use Rattle.cap_goal_spec.specs.cap_prog.declared.assertion.Comp.{Comp}
use Rattle.cap_goal_spec.specs.cap_prog.declared.assertion.Slot.{Slot}
use Rattle.cap_goal_spec.specs.cap_prog.declared.assertion.Slot.TheVariants.{Is}
use Rattle.cap_goal_spec.specs.cap_prog.declared.assertion.Asked.{Asked}
use Rattle.cap_goal_spec.specs.cap_prog.declared.assertion.Asked.TheVariants.{Tok}
use Rattle.cap_goal_spec.specs.cap_prog.Program.{PlainItem, compare, choose, fact, atom, cell, Items, item, append_items, Label, PlainAct, set, alloc, call, fork, branch, loop, check, give_back, Block, first, append, PlainFunction, PlainProgram}
use Rattle.cap_goal_spec.specs.States.{PlainEnv, PlainState, Home, PlainTask, to_run, to_turn, to_give, to_take, to_make, to_close, to_shift, to_rest, PlainGoal, goals_of}
use Rattle.cap_goal_spec.specs.Choices.{PlainChoice, by_absurd, by_clash, by_set, by_alloc, by_assert, by_if, by_loop, by_turn, by_call, by_fork, by_return, by_enter, by_act, by_pick, by_shift, by_settle, by_keep, by_give, by_fact, by_cases, by_cell, by_region, by_guard, by_convert, by_create, by_made}
use Rattle.cap_goal_spec.specs.Environments.{zero_value, one_value, term_of, bound, unbound, callee_env, own_env}
use Rattle.cap_rules.specs.Attempts.{refuted, claims, Attempt, unit, ◌>>=◌, found, not_applicable, need, each, prove}
use Rattle.cap_rules.specs.Making.{value_here, values_here, row_here, determined, determined_slot, row_by, prove_comparisons, prove_equal, match_slot, match_slots, opposite, fresh, with_sort, with_row, with_comparison, with_local, with_destination, with_cell, with_env, env_at, with_env_at, fact_of, with_fact, with_pieces, sum}
use Rattle.cap_rules.specs.Giving.{give}
use Rattle.cap_rules.specs.Taking.{cut_form, after_cut, sum_in, given_side, other_side, side_pieces, without_full, with_new_region, case_env}
use Rattle.cap_rules.specs.Closing.{address_of, of_type, prove_other, with_opened, case_goals, rivals, with_marks, acted, closing, may_move, move_target, prove_move, with_closed}
use Rattle.cap_rules.specs.Resting.{settle, keep}

-- one subgoal, of these tasks
abbrev pub leaves : PlainState → List PlainTask → Attempt (List PlainGoal)
leaves s ts = unit (goals_of s ts)

-- ---- shared by two rules each

-- a subgoal in which the comparison holds, and one in which its opposite does
abbrev pub branches : PlainState → Comp → List PlainTask → List PlainTask → Attempt (List PlainGoal)
branches s c then_tasks else_tasks = do
  q ← row_here s c.op c
  s' ← with_row s q
  r ← row_here s (opposite c.op) c
  s'' ← with_row s r
  unit (goals_of s' then_tasks ++ goals_of s'' else_tasks)

-- the callee's environment; the destination has the fresh result
abbrev pub called : PlainState → PlainFunction → List Linear → Option ℕ → Attempt PlainState
called s f args destination = do
  us ← values_here s args
  s' ← with_sort s Int
  with_env (with_destination s' destination (fresh s)) (callee_env f us (fresh s))

-- the parameters in the store
abbrev pub own_params : PlainState → PlainFunction → List Linear
own_params s f = take f.params s.store

-- ---- at a statement

-- cells of value 0 from this address on
abbrev pub with_new_cells : PlainState → Linear → ℕ → ℕ → Attempt PlainState
with_new_cells s b i zero = unit s
with_new_cells s b i (suc n) = do
  a ← sum b (number (pos i))
  s' ← with_cell s a zero_value
  with_new_cells s' b (suc i) n

abbrev pub at_clash : PlainState → ℕ → ℕ → PlainAct → Attempt (List PlainGoal)
at_clash s i j a = do
  _ ← found (address_of a)
  _ ← need (nat_lt i j)
  c ← found (slice_get s.cells i)
  d ← found (slice_get s.cells j)
  _ ← prove_equal s c.0 d.0
  unit []

abbrev pub at_alloc : PlainState → ℕ → ℕ → List PlainTask → Attempt (List PlainGoal)
at_alloc s x n ts = do
  s' ← with_sort s Int
  s'' ← with_comparison s' (fresh s) AtLeast one_value Int
  s''' ← with_new_cells s'' (fresh s) 0 n
  leaves (with_local s''' x (fresh s)) ts

abbrev pub at_enter :
    PlainProgram → PlainState → ℕ → Label → PlainAct → List PlainTask → Attempt (List PlainGoal)
at_enter p s i l a ts = do
  _ ← found (address_of a)
  _ ← need (nat_lt (length s.opened) 2)
  f ← found (slice_get s.facts i)
  k ← found (slice_get p.regions f.kind)
  _ ← prove_other s f (of_type f.kind s.opened)
  case_goals (with_opened s i f) f l.number ts k.cases

abbrev pub at_act :
    PlainState → ℕ → List Bool → Label → PlainAct → List PlainTask → Attempt (List PlainGoal)
at_act s j marks l a ts = do
  x ← found (address_of a)
  c ← found (slice_get s.cells j)
  t ← value_here s x
  _ ← prove_equal s c.0 t
  s' ← with_marks s (rivals s) marks
  states ← acted s' j c a
  unit (flat_map (λ s''. goals_of s'' (closing s.opened l.number ts)) states)

abbrev pub at_statement :
    PlainProgram → PlainState → List Bool → PlainChoice → Home → Label → PlainAct → Block →
    List PlainTask → Attempt (List PlainGoal)
at_statement p s marks (by_clash i j cs) h l a rest ts = at_clash s i j a
at_statement p s marks by_set h l (set x t) rest ts = do
  u ← value_here s t
  leaves (with_local s x u) (to_run h rest ∷ ts)
at_statement p s marks by_alloc h l (alloc x n) rest ts = at_alloc s x n (to_run h rest ∷ ts)
at_statement p s marks (by_assert cs) h l (check c) rest ts = do
  q ← row_here s c.op c
  _ ← prove s.rows q
  leaves s (to_run h rest ∷ ts)
at_statement p s marks by_if h l (branch c a b) rest ts =
    branches s c (to_run h (append a rest) ∷ ts) (to_run h (append b rest) ∷ ts)
at_statement p s marks by_loop h l (loop c i a) rest ts = do
  f ← found (slice_get p.functions h.function)
  s' ← with_env s
      (own_env f h (own_params s f) (bound (drop f.params s.store)) None (length i.names))
  leaves s' (to_take i.items (length s.envs) 3 l.number ∷ [])
at_statement p s marks by_call h l (call x n args) rest ts = do
  f ← found (slice_get p.functions n)
  s' ← called s f args x
  leaves s'
      (to_take f.requires (length s.envs) 3 l.number
      ∷ to_rest 0 l.number
      ∷ to_give f.ensures.items (length s.envs) l.number
      ∷ to_run h rest
      ∷ ts)
at_statement p s marks by_fork h l (fork n args) rest ts = do
  f ← found (slice_get p.functions n)
  s' ← called s f args None
  leaves s'
      (to_take f.requires (length s.envs) 3 l.number
      ∷ to_rest 0 l.number
      ∷ to_run h rest
      ∷ ts)
at_statement p s marks by_return h l (give_back t) rest ts = do
  f ← found (slice_get p.functions h.function)
  u ← value_here s t
  s' ← with_env s
      (own_env f h (own_params s f) (unbound f.locals) (Some u) (length f.ensures.names))
  leaves s' (to_take f.ensures.items (length s.envs) 3 l.number ∷ [])
at_statement p s marks (by_enter i cs) h l a rest ts =
    at_enter p s i l a (to_run h (first l a rest) ∷ ts)
at_statement p s marks (by_act j cs ms) h l a rest ts = at_act s j marks l a (to_run h rest ∷ ts)
at_statement p s marks _ h l a rest ts = not_applicable

-- ---- at the head of a loop

abbrev pub at_turn :
    PlainState → PlainChoice → Home → Label → PlainAct → Block → List PlainTask →
    Attempt (List PlainGoal)
at_turn s by_turn h l (loop c i a) rest ts =
    branches s c (to_run h (append a (first l (loop c i a) rest)) ∷ ts) (to_run h rest ∷ ts)
at_turn s _ h l a rest ts = not_applicable

-- ---- at an item that is to be given up

-- what is left of the items, in this environment
pub record Remaining : Type 0 where
  pub items : Items
  pub env : ℕ
  pub left : ℕ
  pub statement : ℕ
  pub tasks : List PlainTask

-- the item goes
abbrev pub goes : PlainState → Remaining → Attempt (List PlainGoal)
goes s r = leaves s (to_take r.items r.env r.left r.statement ∷ r.tasks)

-- the item stays, and so many creations are left
abbrev pub stays : PlainState → PlainItem → ℕ → Remaining → PlainTask
stays s i left r = to_take (item i r.items) r.env left r.statement

abbrev pub at_fact : PlainState → Comp → Remaining → Attempt (List PlainGoal)
at_fact s c r = do
  q ← row_by (env_at s r.env) c.op c
  _ ← prove s.rows q
  goes s r

abbrev pub at_cases : PlainState → Comp → Items → Items → Remaining → Attempt (List PlainGoal)
at_cases s c a b r = do
  q ← row_by (env_at s r.env) c.op c
  s' ← with_row s q
  o ← row_by (env_at s r.env) (opposite c.op) c
  s'' ← with_row s o
  left ← goes s' (record r { items = append_items a r.items })
  right ← goes s'' (record r { items = append_items b r.items })
  unit (left ++ right)

abbrev pub at_cell : PlainState → ℕ → Linear → Slot → Remaining → Attempt (List PlainGoal)
at_cell s j a x r = do
  c ← found (slice_get s.cells j)
  t ← determined (env_at s r.env) a
  _ ← prove_equal s t c.0
  env ← match_slot s.rows (env_at s r.env) x c.1
  goes (with_env_at (record s { cells = remove s.cells j }) r.env env) r

-- the fact stays; a loose one says too little
abbrev pub at_region :
    PlainState → ℕ → ℕ → ℕ → List Slot → Slot → Remaining → Attempt (List PlainGoal)
at_region s j n k args x r = do
  f ← found (slice_get s.facts j)
  _ ← need ((f.kind == k) && not f.loose)
  env ← match_slots s.rows (env_at s r.env) (Is (variable n) ∷ (args ++ x ∷ []))
      (f.region ∷ (f.args ++ f.state ∷ []))
  goes (with_env_at s r.env env) r

-- no token is no guard
abbrev pub at_no_tokens : PlainState → ℕ → Slot → Remaining → Attempt (List PlainGoal)
at_no_tokens s j x r = do
  _ ← need (j == 0)
  t ← determined_slot (env_at s r.env) x
  _ ← prove_equal s t zero_value
  goes s r

-- the guard is taken out of piece j
abbrev pub at_piece : PlainState → ℕ → ℕ → ℕ → ℕ → ℕ → Asked → Remaining → Attempt (List PlainGoal)
at_piece s j way n k i asked r = do
  q ← found (slice_get s.guards j)
  _ ← need ((q.kind == k) && (q.atom == i))
  t ← found (term_of (env_at s r.env) n)
  _ ← prove_equal s q.region t
  c ← cut_form s (env_at s r.env) asked q.form way
  goes (after_cut r.env j q c) r

abbrev pub at_guard : PlainState → ℕ → ℕ → ℕ → ℕ → ℕ → Asked → Remaining → Attempt (List PlainGoal)
at_guard s j (suc (suc zero)) n k i (Tok x) r = at_no_tokens s j x r
at_guard s j way n k i asked r = at_piece s j way n k i asked r

-- the full pieces of one side of a sum become those of the other side
abbrev pub at_convert :
    PlainProgram → PlainState → ℕ → ℕ → ℕ → ℕ → PlainItem → Remaining → Attempt (List PlainGoal)
at_convert p s m side n k i r = do
  y ← found (slice_get p.regions k)
  sides ← found (sum_in y.algebra 0 m)
  held ← found (given_side sides side)
  t ← found (term_of (env_at s r.env) n)
  guards ← without_full s.rows s.guards (side_pieces held t k)
  s' ← with_pieces p (record s { guards = guards }) (side_pieces (other_side sides side) t k)
  leaves s' (stays s i r.left r ∷ r.tasks)

-- a region is created, once its case is given up
abbrev pub at_create :
    PlainProgram → PlainState → ℕ → ℕ → ℕ → List Slot → Slot → PlainItem → ℕ → Remaining →
    Attempt (List PlainGoal)
at_create p s c n k args x i left r = do
  y ← found (slice_get p.regions k)
  z ← found (slice_get y.cases c)
  _ ← need (is_none (term_of (env_at s r.env) n))
  us ← each (determined_slot (env_at s r.env)) args
  s' ← with_new_region p s y k
  env ← case_env y z (fact_of (fresh s) k us zero_value) (determined_slot (env_at s r.env) x)
  s'' ← with_env s' env
  leaves s''
      (to_take z.items (length s.envs) left r.statement
      ∷ to_make k c (length s.envs) (fresh s) r.statement
      ∷ stays s i left r
      ∷ r.tasks)

abbrev pub creates :
    PlainProgram → PlainState → ℕ → ℕ → ℕ → List Slot → Slot → PlainItem → Remaining → ℕ →
    Attempt (List PlainGoal)
creates p s c n k args x i r zero = not_applicable
creates p s c n k args x i r (suc left) = at_create p s c n k args x i left r

abbrev pub at_item :
    PlainProgram → PlainState → PlainChoice → PlainItem → Remaining → Attempt (List PlainGoal)
at_item p s (by_fact cs) (compare c) r = at_fact s c r
at_item p s by_cases (choose c a b) r = at_cases s c a b r
at_item p s (by_cell j cs) (cell place a x) r = at_cell s j a x r
at_item p s (by_region j cs) (fact place n k args x) r = at_region s j n k args x r
at_item p s (by_guard j way cs) (atom place n k i asked) r = at_guard s j way n k i asked r
at_item p s (by_convert m side cs) (atom place n k i asked) r =
    at_convert p s m side n k (atom place n k i asked) r
at_item p s (by_create c) (fact place n k args x) r =
    creates p s c n k args x (fact place n k args x) r r.left
at_item p s _ i r = not_applicable

-- ---- at the other tasks

-- creations while a region is closed
abbrev pub creations : Bool → ℕ
creations true = 1
creations false = 0

abbrev pub at_close :
    PlainProgram → PlainState → ℕ → ℕ → ℕ → Bool → ℕ → List PlainTask → Attempt (List PlainGoal)
at_close p s o c m any n ts = do
  f ← found (slice_get s.opened o)
  k ← found (slice_get p.regions f.kind)
  x ← found (slice_get k.cases c)
  _ ← need (may_move any m k)
  env ← case_env k x f (move_target k f m)
  s' ← with_env s env
  leaves s'
      (to_take x.items (length s.envs) (creations any) n
      ∷ to_shift o c m (length s.envs) n
      ∷ ts)

abbrev pub at_shift :
    PlainProgram → PlainState → List ℕ → ℕ → ℕ → ℕ → ℕ → List PlainTask → Attempt (List PlainGoal)
at_shift p s spans o c m e ts = do
  f ← found (slice_get s.opened o)
  k ← found (slice_get p.regions f.kind)
  x ← found (slice_get k.cases c)
  _ ← prove_comparisons s.rows (env_at s e) x.when
  new ← determined (env_at s e) x.state
  _ ← prove_move k s f new m spans
  s' ← with_closed s o f new
  leaves s' ts

abbrev pub at_settle :
    PlainProgram → PlainState → List ℕ → ℕ → ℕ → List PlainTask → Attempt (List PlainGoal)
at_settle p s list j n ts = do
  f ← found (slice_get s.facts j)
  k ← found (slice_get p.regions f.kind)
  s' ← settle k s j f list
  leaves s' (to_rest (j + 1) n ∷ ts)

abbrev pub at_keep : PlainProgram → PlainState → ℕ → ℕ → List PlainTask → Attempt (List PlainGoal)
at_keep p s j n ts = do
  f ← found (slice_get s.facts j)
  k ← found (slice_get p.regions f.kind)
  s' ← keep k s j f
  leaves s' (to_rest (j + 1) n ∷ ts)

-- the region's arguments in the environment of its case
abbrev pub args_in : PlainEnv → ℕ → Attempt (List Linear)
args_in env params = each found (take (params - 1) (drop 1 env))

abbrev pub at_made :
    PlainProgram → PlainState → ℕ → ℕ → ℕ → Linear → List PlainTask → Attempt (List PlainGoal)
at_made p s k c e t ts = do
  y ← found (slice_get p.regions k)
  z ← found (slice_get y.cases c)
  _ ← prove_comparisons s.rows (env_at s e) z.when
  state ← determined (env_at s e) z.state
  args ← args_in (env_at s e) y.params
  s' ← with_fact s (fact_of t k args state)
  leaves s' ts

-- the rows contradict each other
abbrev pub at_absurd : PlainState → Attempt (List PlainGoal)
at_absurd s = record { events = claims (refuted s.rows) ∷ []; value = Some [] }

abbrev pub at_task :
    PlainProgram → PlainState → List Bool → PlainChoice → PlainTask → List PlainTask →
    Attempt (List PlainGoal)
at_task p s marks (by_absurd c) t ts = at_absurd s
at_task p s marks c (to_run h (first l a rest)) ts = at_statement p s marks c h l a rest ts
at_task p s marks c (to_turn h (first l a rest)) ts = at_turn s c h l a rest ts
at_task p s marks c (to_take (item i more) e left n) ts =
    at_item p s c i (record { items = more; env = e; left = left; statement = n; tasks = ts })
at_task p s marks by_give (to_give items e n) ts = give p s e n ts items
at_task p s marks (by_pick o c m) (to_close any n) ts = at_close p s o c m any n ts
at_task p s marks (by_shift cs spans) (to_shift o c m e n) ts = at_shift p s spans o c m e ts
at_task p s marks (by_settle list cs) (to_rest j n) ts = at_settle p s list j n ts
at_task p s marks (by_keep cs) (to_rest j n) ts = at_keep p s j n ts
at_task p s marks (by_made cs) (to_make k c e t n) ts = at_made p s k c e t ts
at_task p s marks c t ts = not_applicable

abbrev pub at_tasks :
    PlainProgram → PlainState → List Bool → PlainChoice → List PlainTask → Attempt (List PlainGoal)
at_tasks p s marks c [] = not_applicable
at_tasks p s marks c (t ∷ ts) = at_task p s marks c t ts

-- what the choice makes of the goal; of the marks it matters which are certificates
abbrev pub rule : PlainProgram → PlainGoal → PlainChoice → List Bool → Attempt (List PlainGoal)
rule p g c marks = at_tasks p g.state marks c g.tasks
