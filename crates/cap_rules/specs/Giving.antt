-- An assertion is given: its names get variables, and its items are assumed.
use Rattle.std.specs.Prelude.{ℕ, ℤ, List, [], ◌∷◌, ◌++◌, Option, Some, None}
use Rattle.cap_goal_spec.specs.cap_lin.Linear.{Linear, variable}
use Rattle.cap_goal_spec.specs.cap_lin.declared.row.Sort.{Sort}
use Rattle.cap_goal_spec.specs.cap_lin.declared.row.Sort.TheVariants.{Int, Perm}
use Rattle.cap_goal_spec.specs.cap_lin.declared.row.Op.TheVariants.{Ge as AtLeast}
use Rattle.cap_goal_spec.specs.cap_gsolve.declared.piece.Form.{Form}
use Rattle.cap_goal_spec.specs.cap_gsolve.declared.piece.Form.TheVariants as form
use Rattle.cap_goal_spec.specs.cap_gsolve.Pieces.{piece}
use Rattle.cap_goal_spec.specs.cap_prog.declared.assertion.Comp.{Comp}
use Rattle.cap_goal_spec.specs.cap_prog.declared.assertion.Slot.{Slot}
use Rattle.cap_goal_spec.specs.cap_prog.declared.assertion.Slot.TheVariants.{Any, Is}
use Rattle.cap_goal_spec.specs.cap_prog.declared.assertion.Asked.{Asked}
use Rattle.cap_goal_spec.specs.cap_prog.declared.assertion.Asked.TheVariants.{One, Share, Src, Tok, At, From}
use Rattle.cap_goal_spec.specs.cap_prog.Program.{PlainItem, compare, choose, fact, atom, cell, Items, none, item, append_items, PlainProgram}
use Rattle.cap_goal_spec.specs.States.{PlainState, PlainTask, to_give, PlainGoal, goals_of}
use Rattle.cap_goal_spec.specs.Environments.{one_value, term_of, with_name}
use Rattle.cap_rules.specs.Attempts.{Attempt, unit, ◌>>=◌}
use Rattle.cap_rules.specs.Making.{sum, value_by, fresh, with_sort, with_comparison, with_cell, env_at, with_env_at, fact_of, with_fact, with_piece, opposite}

-- an unbound name gets a fresh variable of the sort that its place wants
abbrev pub name_as : PlainState → ℕ → Sort → ℕ → Option Linear → Attempt PlainState
name_as s e o x (Some t) = unit s
name_as s e o x None = do
  s' ← with_sort s o
  unit (with_env_at s' e (with_name (env_at s e) x (fresh s)))

abbrev pub name_parts : PlainState → ℕ → Sort → List (ℕ × ℤ) → Attempt PlainState
name_parts s e o [] = unit s
name_parts s e o (p ∷ ps) = do
  s' ← name_as s e o p.0 (term_of (env_at s e) p.0)
  name_parts s' e o ps

-- what a term of the assertion stands for, in the state in which all of its names are bound
pub record Given (A : Type 0) : Type 0 where
  pub state : PlainState
  pub value : A

abbrev pub given : {A : Type 0} → PlainState → A → Given A
given s x = record { state = s; value = x }

abbrev pub give_term : PlainState → ℕ → Sort → Linear → Attempt (Given Linear)
give_term s e o t = do
  s' ← name_parts s e o t.parts
  u ← value_by (env_at s' e) t
  unit (given s' u)

-- `_` is a fresh variable
abbrev pub give_slot : PlainState → ℕ → Sort → Slot → Attempt (Given Linear)
give_slot s e o Any = do
  s' ← with_sort s o
  unit (given s' (fresh s))
give_slot s e o (Is t) = give_term s e o t

abbrev pub give_slots : PlainState → ℕ → List Slot → Attempt (Given (List Linear))
give_slots s e [] = unit (given s [])
give_slots s e (x ∷ xs) = do
  g ← give_slot s e Int x
  more ← give_slots g.state e xs
  unit (given more.state (g.value ∷ more.value))

abbrev pub give_form : PlainState → ℕ → Asked → Attempt (Given Form)
give_form s e One = unit (given s form.One)
give_form s e (Share x) = do
  g ← give_slot s e Perm x
  unit (given g.state (form.Share g.value))
give_form s e (Src x) = do
  g ← give_slot s e Int x
  unit (given g.state (form.Src g.value))
give_form s e (Tok x) = do
  g ← give_slot s e Int x
  unit (given g.state (form.Tok g.value))
give_form s e (At x) = do
  g ← give_slot s e Int x
  next ← sum g.value one_value
  unit (given g.state (form.Span g.value (Some next)))
give_form s e (From x) = do
  g ← give_slot s e Int x
  unit (given g.state (form.Span g.value None))

-- the two sides of a comparison
abbrev pub give_sides : PlainState → ℕ → Comp → Attempt (Given (Linear × Linear))
give_sides s e c = do
  l ← give_term s e c.sort c.left
  r ← give_term l.state e c.sort c.right
  unit (given r.state (l.value, r.value))

-- one item; at a conditional the rule splits
abbrev pub give_item : PlainProgram → PlainState → ℕ → PlainItem → Attempt PlainState
give_item p s e (compare c) = do
  g ← give_sides s e c
  with_comparison g.state g.value.0 c.op g.value.1 c.sort
give_item p s e (choose c a b) = unit s
give_item p s e (fact place r k args x) = do
  region ← give_term s e Int (variable r)
  values ← give_slots region.state e args
  state ← give_slot values.state e Int x
  with_fact state.state (fact_of region.value k values.value state.value)
give_item p s e (atom place r k i asked) = do
  region ← give_term s e Int (variable r)
  g ← give_form region.state e asked
  with_piece p g.state (piece region.value k i g.value)
give_item p s e (cell place a x) = do
  address ← give_term s e Int a
  content ← give_slot address.state e Int x
  s' ← with_cell content.state address.value content.value
  with_comparison s' address.value AtLeast one_value Int

-- the items up to the first conditional are given; there the goal splits
abbrev pub give :
    PlainProgram → PlainState → ℕ → ℕ → List PlainTask → Items → Attempt (List PlainGoal)
give p s e n ts none = unit (goals_of s ts)
give p s e n ts (item (choose c a b) more) = do
  g ← give_sides s e c
  s' ← with_comparison g.state g.value.0 c.op g.value.1 c.sort
  s'' ← with_comparison g.state g.value.0 (opposite c.op) g.value.1 c.sort
  unit (goals_of s' (to_give (append_items a more) e n ∷ ts) ++ goals_of s''
      (to_give (append_items b more) e n ∷ ts))
give p s e n ts (item i more) = do
  s' ← give_item p s e i
  give p s' e n ts more
