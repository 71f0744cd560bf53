-- Terms, rows, and changes of states.
use Rattle.std.specs.Prelude.{ℕ, Bool, true, false, List, [], ◌∷◌, length, get_or, slice_set, slice_get, find, Option, Some, None, not, ◌==◌, ◌&&◌, if◌then◌else◌}
use Rattle.std.specs.List.{list_any}
use Rattle.cap_goal_spec.specs.cap_lin.Linear.{Linear, variable, same_term, plus, minus}
use Rattle.cap_goal_spec.specs.cap_lin.Steps.{plus_steps, minus_steps}
use Rattle.cap_goal_spec.specs.cap_lin.declared.row.Row.{Row}
use Rattle.cap_goal_spec.specs.cap_lin.declared.row.Sort.{Sort}
use Rattle.cap_goal_spec.specs.cap_lin.declared.row.Sort.TheVariants.{Int}
use Rattle.cap_goal_spec.specs.cap_lin.declared.row.Op.{Op}
use Rattle.cap_goal_spec.specs.cap_lin.declared.row.Op.TheVariants.{Eq as Equal, Ne as Unequal, Le as AtMost, Lt as Less, Gt as Greater, Ge as AtLeast}
use Rattle.cap_goal_spec.specs.cap_gsolve.declared.piece.Piece.{Piece}
use Rattle.cap_goal_spec.specs.cap_gsolve.Merge.{place, joined, merge_rows, merge_steps}
use Rattle.cap_goal_spec.specs.cap_prog.declared.assertion.Comp.{Comp}
use Rattle.cap_goal_spec.specs.cap_prog.declared.assertion.Slot.{Slot}
use Rattle.cap_goal_spec.specs.cap_prog.declared.assertion.Slot.TheVariants.{Any, Is}
use Rattle.cap_goal_spec.specs.cap_prog.Program.{PlainProgram}
use Rattle.cap_goal_spec.specs.Terms.{term_over, term_over_steps}
use Rattle.cap_goal_spec.specs.States.{PlainFact, PlainEnv, PlainState}
use Rattle.cap_goal_spec.specs.Environments.{zero_value, one_value, is_determined, term_in, term_in_steps, Reading, settled, open_to, stuck, reading, bind_open}
use Rattle.cap_rules.specs.Attempts.{Attempt, unit, ◌>>=◌, computed, found, not_applicable, need, appended, comparison_row, prove, prove_that}

abbrev pub is_empty : {A : Type 0} → List A → Bool
is_empty [] = true
is_empty (x ∷ xs) = false

-- ---- terms and rows

-- holds exactly where the comparison doesn't
abbrev pub opposite : Op → Op
opposite Equal = Unequal
opposite Unequal = Equal
opposite Less = AtLeast
opposite AtMost = Greater
opposite Greater = AtMost
opposite AtLeast = Less

abbrev pub sum : Linear → Linear → Attempt Linear
sum s t = computed (plus s t) (plus_steps s t)

abbrev pub difference : Linear → Linear → Attempt Linear
difference s t = computed (minus s t) (minus_steps s t)

-- a term of a statement, by the store
abbrev pub in_store : PlainState → ℕ → Linear
in_store s x = get_or s.store x zero_value

abbrev pub value_here : PlainState → Linear → Attempt Linear
value_here s t = computed (term_over (in_store s) t) (term_over_steps (in_store s) t)

abbrev pub values_here : PlainState → List Linear → Attempt (List Linear)
values_here s [] = unit []
values_here s (t ∷ ts) = do
  u ← value_here s t
  us ← values_here s ts
  unit (u ∷ us)

abbrev pub row_here : PlainState → Op → Comp → Attempt Row
row_here s op c = do
  l ← value_here s c.left
  r ← value_here s c.right
  comparison_row l op r c.sort

-- a determined term of an assertion, by an environment
abbrev pub value_by : PlainEnv → Linear → Attempt Linear
value_by env t = computed (term_in env t) (term_in_steps env t)

abbrev pub determined : PlainEnv → Linear → Attempt Linear
determined env t = do
  _ ← need (is_determined env t)
  value_by env t

abbrev pub determined_slot : PlainEnv → Slot → Attempt Linear
determined_slot env Any = not_applicable
determined_slot env (Is t) = determined env t

abbrev pub row_by : PlainEnv → Op → Comp → Attempt Row
row_by env op c = do
  l ← determined env c.left
  r ← determined env c.right
  comparison_row l op r c.sort

abbrev pub rows_by : PlainEnv → List Comp → Attempt (List Row)
rows_by env [] = unit []
rows_by env (c ∷ cs) = do
  r ← row_by env c.op c
  rs ← rows_by env cs
  unit (r ∷ rs)

-- each comparison is proved, one after the other
abbrev pub prove_comparisons : List Row → PlainEnv → List Comp → Attempt (Unit {0})
prove_comparisons rows env [] = unit tt
prove_comparisons rows env (c ∷ cs) = do
  r ← row_by env c.op c
  _ ← prove rows r
  prove_comparisons rows env cs

abbrev pub prove_equal : PlainState → Linear → Linear → Attempt (Unit {0})
prove_equal s a b = prove_that s.rows a Equal b Int

abbrev pub prove_differ : PlainState → Linear → Linear → Attempt (Unit {0})
prove_differ s a b = prove_that s.rows a Unequal b Int

-- ---- matching

-- a slot against a term: what it stands for is proved equal, or its name is bound
abbrev pub match_reading : List Row → PlainEnv → Linear → Reading → Attempt PlainEnv
match_reading rows env t (settled u) = do
  l ← value_by env u
  _ ← prove_that rows l Equal t Int
  unit env
match_reading rows env t (open_to x) = unit (bind_open env x t)
match_reading rows env t stuck = not_applicable

abbrev pub match_slot : List Row → PlainEnv → Slot → Linear → Attempt PlainEnv
match_slot rows env x t = match_reading rows env t (reading env x)

abbrev pub match_slots : List Row → PlainEnv → List Slot → List Linear → Attempt PlainEnv
match_slots rows env [] [] = unit env
match_slots rows env (x ∷ xs) (t ∷ ts) = do
  env' ← match_slot rows env x t
  match_slots rows env' xs ts
match_slots rows env _ _ = not_applicable

-- ---- changes of a state

-- the next fresh variable, which is there once its sort is appended
abbrev pub fresh : PlainState → Linear
fresh s = variable (length s.sorts)

abbrev pub with_sort : PlainState → Sort → Attempt PlainState
with_sort s o = do
  sorts ← appended s.sorts o
  unit (record s { sorts = sorts })

abbrev pub with_sorts : PlainState → List Sort → Attempt PlainState
with_sorts s [] = unit s
with_sorts s (o ∷ os) = do
  s' ← with_sort s o
  with_sorts s' os

abbrev pub with_row : PlainState → Row → Attempt PlainState
with_row s r = do
  rows ← appended s.rows r
  unit (record s { rows = rows })

abbrev pub with_rows : PlainState → List Row → Attempt PlainState
with_rows s [] = unit s
with_rows s (r ∷ rs) = do
  s' ← with_row s r
  with_rows s' rs

-- the row of a comparison is made and added
abbrev pub with_comparison : PlainState → Linear → Op → Linear → Sort → Attempt PlainState
with_comparison s l op r o = do
  q ← comparison_row l op r o
  with_row s q

-- a row each for what this term differs from
abbrev pub with_differing : PlainState → Linear → List PlainFact → Attempt PlainState
with_differing s t [] = unit s
with_differing s t (f ∷ fs) = do
  s' ← with_comparison s t Unequal f.region Int
  with_differing s' t fs

abbrev pub with_local : PlainState → ℕ → Linear → PlainState
with_local s x t = record s { store = slice_set s.store x t }

abbrev pub with_destination : PlainState → Option ℕ → Linear → PlainState
with_destination s None t = s
with_destination s (Some x) t = with_local s x t

abbrev pub with_cell : PlainState → Linear → Linear → Attempt PlainState
with_cell s a t = do
  cells ← appended s.cells (a, t)
  unit (record s { cells = cells })

abbrev pub with_env : PlainState → PlainEnv → Attempt PlainState
with_env s env = do
  envs ← appended s.envs env
  unit (record s { envs = envs })

abbrev pub env_at : PlainState → ℕ → PlainEnv
env_at s e = get_or s.envs e []

abbrev pub with_env_at : PlainState → ℕ → PlainEnv → PlainState
with_env_at s e env = record s { envs = slice_set s.envs e env }

-- ---- facts

abbrev pub fact_of : Linear → ℕ → List Linear → Linear → PlainFact
fact_of r k args t = record { region = r; kind = k; args = args; state = t; loose = false }

abbrev pub is_of_region : PlainFact → PlainFact → Bool
is_of_region f g = same_term g.region f.region && (g.kind == f.kind)

abbrev pub is_of_other_type : PlainFact → PlainFact → Bool
is_of_other_type f g = same_term g.region f.region && not (g.kind == f.kind)

abbrev pub without_first : {A : Type 0} → (A → Bool) → List A → List A
without_first test [] = []
without_first test (x ∷ xs) = if test x then xs else x ∷ without_first test xs

-- the terms on the left equal those on the right, one row each
abbrev pub with_equalities : PlainState → List Linear → List Linear → Attempt PlainState
with_equalities s (a ∷ as') (b ∷ bs) = do
  s' ← with_comparison s a Equal b Int
  with_equalities s' as' bs
with_equalities s _ _ = unit s

abbrev pub with_same : PlainState → PlainFact → Option PlainFact → Attempt PlainState
with_same s f None = unit s
with_same s f (Some g) = do
  s' ← with_equalities s g.args f.args
  with_comparison s' g.state Equal f.state Int

abbrev pub with_false : PlainState → Bool → Attempt PlainState
with_false s true = with_comparison s zero_value Equal one_value Int
with_false s false = unit s

-- a fact takes the place of the one of its region and type, which equals it. A region of two types
-- is none
abbrev pub with_fact : PlainState → PlainFact → Attempt PlainState
with_fact s f = do
  s' ← with_same s f (find (is_of_region f) s.facts)
  s'' ← with_false s' (list_any (is_of_other_type f) s.facts)
  facts ← appended (without_first (is_of_region f) s.facts) f
  unit (record s'' { facts = facts })

-- ---- pieces

abbrev pub guards_with : List Piece → Piece → Option ℕ → Attempt (List Piece)
guards_with ps q None = appended ps q
guards_with ps q (Some i) = unit (joined ps q i)

abbrev pub with_piece : PlainProgram → PlainState → Piece → Attempt PlainState
with_piece p s q = do
  k ← found (slice_get p.regions q.kind)
  rows ← computed (merge_rows k.algebra s.guards q) (merge_steps k.algebra s.guards q)
  guards ← guards_with s.guards q (place s.guards q)
  with_rows (record s { guards = guards }) rows

abbrev pub with_pieces : PlainProgram → PlainState → List Piece → Attempt PlainState
with_pieces p s [] = unit s
with_pieces p s (q ∷ qs) = do
  s' ← with_piece p s q
  with_pieces p s' qs
