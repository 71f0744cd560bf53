-- Which trees and moves of the examples are valid, and which aren't.
use Rattle.std.specs.Prelude.{ℕ, List, [], ◌∷◌, slice_get, unwrap_or, Option, Some, None}
use Rattle.cap_goal_spec.specs.cap_farkas.declared.cert.Cert.TheVariants.{Leaf}
use Rattle.cap_goal_spec.specs.States.{PlainGoal}
use Rattle.cap_goal_spec.specs.Choices.{by_set, by_return, PlainTree, node, no_trees}
use Rattle.cap_goal_spec.specs.Roots.{roots, function_unit}
use Rattle.cap_rules.specs.Answers.{Subgoals}
use Rattle.cap_rules.specs.Valid.{RootDerives, Valid}
use Rattle.cap_rules.specs.Example.{empty_program, assert_program, trees_of, leaf, above, once, assert_tree, dispose_program, dispose_tree, counter_program, make_tree, tickets_program, tickets_goal, taken_by}

-- the third root of a function is its body's
pub record ValidExamples : Type 0 where
  pub empty : Valid empty_program (trees_of leaf)
  pub assertion : Valid assert_program (trees_of (assert_tree (once 0 ∷ [])))
  pub disposal : Valid dispose_program (trees_of dispose_tree)
  pub make : RootDerives counter_program (Some make_tree)
      (unwrap_or (slice_get (roots counter_program (function_unit 0)) 2) None)
  pub ticket : Subgoals tickets_program tickets_goal (taken_by (0 ∷ [])) []

-- the move doesn't apply with these spans
abbrev pub NeverTaken : List ℕ → Type 0
NeverTaken spans =
    (gs : List PlainGoal) → ¬ Subgoals tickets_program tickets_goal (taken_by spans) gs

pub record BrokenExamples : Type 0 where
  pub no_tree : ¬ Valid empty_program (None ∷ None ∷ None ∷ [])
  pub too_few_trees : ¬ Valid empty_program (None ∷ None ∷ [])
  pub another_rule : ¬ Valid empty_program (trees_of (node by_set no_trees))
  pub node_left_over : ¬ Valid empty_program (trees_of (node by_return (above leaf)))
  pub no_certificate : ¬ Valid assert_program (trees_of (assert_tree []))
  pub empty_certificate : ¬ Valid assert_program (trees_of (assert_tree (Leaf [] ∷ [])))
  pub no_span : NeverTaken []
  pub span_that_is_not_there : NeverTaken (1 ∷ [])
  pub span_left_over : NeverTaken (0 ∷ 0 ∷ [])
