-- The states of a derivation at a statement of a function.
use Rattle.std.specs.Prelude.{ℕ, ◌==◌, ◌&&◌, Bool, if◌then◌else◌, List, [], ◌∷◌, flat_map, Option, Some, None}
use Rattle.cap_prog.specs.Program.{Block, done, first, PlainProgram}
use Rattle.cap_goal_spec.specs.States.{PlainFact, PlainState, Home, PlainTask, to_run, to_turn, PlainGoal}
use Rattle.cap_goal_spec.specs.Choices.{PlainTree}
use Rattle.cap_rules_nodes.specs.Nodes.{GoalNode, program_nodes}

-- a statement by its number, and a tree of its function
pub record Point : Type 0 where
  pub home : Home
  pub number : ℕ

-- the number of the first statement
abbrev pub first_number : Block → Option ℕ
first_number done = None
first_number (first l a rest) = Some l.number

abbrev pub point_at : Home → Option ℕ → Option Point
point_at h None = None
point_at h (Some k) = Some (record { home = h; number = k })

-- where statements are to be run, or where a loop stands once its invariant was given
abbrev pub point_of_task : PlainTask → Option Point
point_of_task (to_run h b) = point_at h (first_number b)
point_of_task (to_turn h b) = point_at h (first_number b)
point_of_task _ = None

abbrev pub point_of_first : List PlainTask → Option Point
point_of_first [] = None
point_of_first (t ∷ ts) = point_of_task t

-- where a region is open, a step is not at its end
abbrev pub unless_open : List PlainFact → Option Point → Option Point
unless_open [] o = o
unless_open (f ∷ fs) o = None

abbrev pub point_of : PlainGoal → Option Point
point_of g = unless_open g.state.opened (point_of_first g.tasks)

-- a state that stands at a statement; by the tree, variables stand for the function's fixed names
pub record Standing : Type 0 where
  pub home : Home
  pub state : PlainState

abbrev pub is_point : ℕ → ℕ → Point → Bool
is_point f k q = (q.home.function == f) && (q.number == k)

abbrev pub standing_if : ℕ → ℕ → PlainState → Option Point → List Standing
standing_if f k s None = []
standing_if f k s (Some q) =
    if is_point f k q then record { home = q.home; state = s } ∷ [] else []

-- the state of a node that stands at statement k of function f
abbrev pub standing_of : ℕ → ℕ → GoalNode → List Standing
standing_of f k n = standing_if f k n.goal.state (point_of n.goal)

abbrev pub standing_among : ℕ → ℕ → List GoalNode → List Standing
standing_among f k ns = flat_map (standing_of f k) ns

-- the states at statement k of function f, in preorder over all trees: the trees of its body and of
-- its loops have them
abbrev pub standing : PlainProgram → List (Option PlainTree) → ℕ → ℕ → List Standing
standing p trees f k = standing_among f k (program_nodes p trees)
