-- Items that are given, each by itself.
use Rattle.std.specs.Prelude.{ℕ, List, Result, Ok, Err}
use Rattle.cap_lin.specs.Linear.{Linear, variable}
use Rattle.cap_lin.specs.declared.row.Sort.TheVariants.{Int}
use Rattle.cap_lin.specs.declared.row.Op.TheVariants.{Ge as AtLeast}
use Rattle.cap_gsolve.specs.Pieces.{piece}
use Rattle.cap_prog.specs.declared.assertion.Comp.{Comp}
use Rattle.cap_prog.specs.declared.assertion.Slot.{Slot}
use Rattle.cap_prog.specs.declared.assertion.Asked.{Asked}
use Rattle.cap_prog.specs.Program.{PlainProgram}
use Rattle.cap_goal_spec.specs.States.{PlainState}
use Rattle.cap_goal_spec.specs.Environments.{one_value}
use Rattle.cap_rules.specs.Attempts.{Attempt, ◌>>=◌}
use Rattle.cap_rules.specs.Making.{with_comparison, with_cell, fact_of, with_fact, with_piece}
use Rattle.cap_rules.specs.Giving.{Given, given, give_term, give_slot, give_slots, give_form, give_sides}
use Rattle.cap_rules_steps.specs.declared.error.RuleError.{RuleError}

-- a call gives a value, and what the state becomes
abbrev pub gives : {A : Type 0} → Result A RuleError → PlainState → Result (Given A) RuleError
gives (Ok x) s = Ok (given s x)
gives (Err e) s = Err e

abbrev pub comparison_given : PlainState → ℕ → Comp → Attempt PlainState
comparison_given s e c = do
  g ← give_sides s e c
  with_comparison g.state g.value.0 c.op g.value.1 c.sort

abbrev pub fact_given : PlainState → ℕ → ℕ → ℕ → List Slot → Slot → Attempt PlainState
fact_given s e r k args x = do
  region ← give_term s e Int (variable r)
  values ← give_slots region.state e args
  state ← give_slot values.state e Int x
  with_fact state.state (fact_of region.value k values.value state.value)

abbrev pub atom_given : PlainProgram → PlainState → ℕ → ℕ → ℕ → ℕ → Asked → Attempt PlainState
atom_given p s e r k i asked = do
  region ← give_term s e Int (variable r)
  g ← give_form region.state e asked
  with_piece p g.state (piece region.value k i g.value)

abbrev pub cell_given : PlainState → ℕ → Linear → Slot → Attempt PlainState
cell_given s e a x = do
  address ← give_term s e Int a
  content ← give_slot address.state e Int x
  s' ← with_cell content.state address.value content.value
  with_comparison s' address.value AtLeast one_value Int
