-- Trees with the goal of each of their nodes.
use Rattle.std.specs.Prelude.{◌≡◌, ℕ, zero, suc, ◌+◌, List, [], ◌∷◌, length, Option, Some, None}
use Rattle.cap_prog.specs.Program.{PlainProgram}
use Rattle.cap_goal_spec.specs.States.{PlainGoal}
use Rattle.cap_goal_spec.specs.Choices.{PlainChoice, PlainTree, node, PlainTrees, no_trees, tree}
use Rattle.cap_goal_spec.specs.Roots.{PlainUnit, region_unit, function_unit, roots}
use Rattle.cap_rules_nodes.specs.Nodes.{goals_left}
use Rattle.cap_owners_spec.specs.Track.{Place}
use Rattle.cap_owners_spec.specs.Steps.{place_of}

-- a node: its goal, the choice that is taken there, and its children
mutual
  pub data PlainPlaced : Type 0 where
    placed : PlainGoal → PlainChoice → PlainPlaces → PlainPlaced

  pub data PlainPlaces : Type 0 where
    no_places : PlainPlaces
    places : PlainPlaced → PlainPlaces → PlainPlaces

abbrev pub places_of : List PlainPlaced → PlainPlaces
places_of [] = no_places
places_of (q ∷ qs) = places q (places_of qs)

abbrev pub goal_in : PlainPlaced → PlainGoal
goal_in (placed g c qs) = g

abbrev pub choice_in : PlainPlaced → PlainChoice
choice_in (placed g c qs) = c

-- the child of this number
abbrev pub place_at : PlainPlaces → ℕ → Option PlainPlaced
place_at no_places i = None
place_at (places q qs) zero = Some q
place_at (places q qs) (suc i) = place_at qs i

abbrev pub child_in : PlainPlaced → Option ℕ → Option PlainPlaced
child_in q None = None
child_in (placed g c qs) (Some i) = place_at qs i

abbrev pub goals_in : PlainPlaces → List PlainGoal
goals_in no_places = []
goals_in (places q qs) = goal_in q ∷ goals_in qs

-- without the goals
abbrev mutual
  pub tree_in : PlainPlaced → PlainTree
  tree_in (placed g c qs) = node c (trees_in qs)

  pub trees_in : PlainPlaces → PlainTrees
  trees_in no_places = no_trees
  trees_in (places q qs) = tree (tree_in q) (trees_in qs)

abbrev pub place_in : PlainPlaced → Place
place_in q = record { goal = goal_in q; tree = tree_in q }

-- the children of each node are at the goals that its choice leaves
abbrev mutual
  pub IsAtGoals : PlainProgram → PlainPlaced → Type 0
  IsAtGoals p (placed g c qs) = (goals_in qs ≡ goals_left p g c) × AllAreAtGoals p qs

  pub AllAreAtGoals : PlainProgram → PlainPlaces → Type 0
  AllAreAtGoals p no_places = Unit {0}
  AllAreAtGoals p (places q qs) = IsAtGoals p q × AllAreAtGoals p qs

-- a tree at its goal, and trees beside goals
abbrev mutual
  pub placed_at : PlainProgram → PlainTree → PlainGoal → PlainPlaced
  placed_at p (node c ts) g = placed g c (all_placed_at p ts (goals_left p g c))

  pub all_placed_at : PlainProgram → PlainTrees → List PlainGoal → PlainPlaces
  all_placed_at p no_trees gs = no_places
  all_placed_at p (tree t ts) [] = no_places
  all_placed_at p (tree t ts) (g ∷ gs) = places (placed_at p t g) (all_placed_at p ts gs)

-- ---- roots

-- roots with their trees
abbrev pub root_places : List (Option PlainGoal) → List (Option PlainTree) → List (Option Place)
root_places [] ts = []
root_places (g ∷ gs) [] = []
root_places (g ∷ gs) (t ∷ ts) = place_of g t ∷ root_places gs ts

abbrev pub root_placed : PlainProgram → Option PlainGoal → Option PlainTree → Option PlainPlaced
root_placed p None t = None
root_placed p (Some g) None = None
root_placed p (Some g) (Some t) = Some (placed_at p t g)

abbrev pub all_roots_placed :
    PlainProgram → List (Option PlainGoal) → List (Option PlainTree) → List (Option PlainPlaced)
all_roots_placed p [] ts = []
all_roots_placed p (g ∷ gs) [] = []
all_roots_placed p (g ∷ gs) (t ∷ ts) = root_placed p g t ∷ all_roots_placed p gs ts

-- how many roots come before those of each unit, where so many come before them all
abbrev pub begins_from : PlainProgram → ℕ → List PlainUnit → List ℕ
begins_from p n [] = []
begins_from p n (u ∷ us) = n ∷ begins_from p (n + length (roots p u)) us

-- the number of a unit among all units, where there are so many region types
abbrev pub unit_number : ℕ → PlainUnit → ℕ
unit_number regions (region_unit n) = n
unit_number regions (function_unit n) = regions + n
