-- The first guided tree of a goal, and the visits of a search for it, in their order. Below a goal
-- there is room for so many levels.
use Rattle.std.specs.Prelude.{ℕ, zero, suc, Bool, true, false, is_some, List, [], ◌∷◌, ◌++◌, Option, Some, None, option_map}
use Rattle.cap_prog.specs.Program.{PlainProgram}
use Rattle.cap_goal_spec.specs.States.{PlainGoal}
use Rattle.cap_goal_spec.specs.Choices.{PlainChoice, PlainTree, node, PlainTrees, no_trees, tree}
use Rattle.cap_rules.specs.Answers.{marks_of}
use Rattle.cap_rules.specs.Rules.{rule}
use Rattle.cap_rules.specs.Valid.{deepest}
use Rattle.cap_offer_spec.specs.Offering.{offered}

-- ---- trees

abbrev pub trees_of : List PlainTree → PlainTrees
trees_of [] = no_trees
trees_of (t ∷ ts) = tree t (trees_of ts)

infixl 20 ◌>>=◌
abbrev pub ◌>>=◌ : {A B : Type 0} → Option A → (A → Option B) → Option B
◌>>=◌ None f = None
◌>>=◌ (Some x) f = f x

abbrev pub or_else : {A : Type 0} → Option A → (Unit {0} → Option A) → Option A
or_else None next = next tt
or_else (Some x) next = Some x

-- what an offered choice leaves: it applies, so there is something
unfoldable pub left_by : PlainProgram → PlainGoal → PlainChoice → Option (List PlainGoal)
left_by p g c = (rule p g c (marks_of c)).value

-- all goals have trees
unfoldable pub all_trees :
    (PlainGoal → Option PlainTree) → List PlainGoal → Option (List PlainTree)
all_trees tree_of [] = Some []
all_trees tree_of (g ∷ gs) = do
  t ← tree_of g
  ts ← all_trees tree_of gs
  Some (t ∷ ts)

abbrev pub node_of : PlainChoice → List PlainTree → PlainTree
node_of c ts = node c (trees_of ts)

-- by the first choice all of whose subgoals have trees
unfoldable pub first_tree :
    PlainProgram → (PlainGoal → Option PlainTree) → PlainGoal → List PlainChoice → Option PlainTree
first_tree p tree_of g [] = None
first_tree p tree_of g (c ∷ cs) =
    or_else (option_map (node_of c) (left_by p g c >>= all_trees tree_of))
    (λ _. first_tree p tree_of g cs)

unfoldable pub tree_within : PlainProgram → ℕ → PlainGoal → Option PlainTree
tree_within p zero g = None
tree_within p (suc room) g = first_tree p (tree_within p room) g (offered p g).value

-- ---- visits

pub record Visit : Type 0 where
  pub goal : PlainGoal
  pub too_deep : Bool

abbrev pub visit : Bool → PlainGoal → Visit
visit deep g = record { goal = g; too_deep = deep }

-- where there is a tree
abbrev pub if_found : {A : Type 0} → Bool → (Unit {0} → List A) → List A
if_found true more = more tt
if_found false more = []

abbrev pub unless_found : {A : Type 0} → Bool → (Unit {0} → List A) → List A
unless_found true more = []
unless_found false more = more tt

-- up to the first goal without a tree
unfoldable pub goals_visits :
    (PlainGoal → Option PlainTree) → (PlainGoal → List Visit) → List PlainGoal → List Visit
goals_visits tree_of visits_of [] = []
goals_visits tree_of visits_of (g ∷ gs) =
    visits_of g ++ if_found (is_some (tree_of g)) (λ _. goals_visits tree_of visits_of gs)

abbrev pub left_visits :
    (PlainGoal → Option PlainTree) → (PlainGoal → List Visit) → Option (List PlainGoal) → List Visit
left_visits tree_of visits_of None = []
left_visits tree_of visits_of (Some gs) = goals_visits tree_of visits_of gs

-- up to the first choice all of whose subgoals have trees
unfoldable pub choices_visits :
    PlainProgram → (PlainGoal → Option PlainTree) → (PlainGoal → List Visit) → PlainGoal →
    List PlainChoice → List Visit
choices_visits p tree_of visits_of g [] = []
choices_visits p tree_of visits_of g (c ∷ cs) =
    left_visits tree_of visits_of (left_by p g c)
    ++ unless_found (is_some (left_by p g c >>= all_trees tree_of))
    (λ _. choices_visits p tree_of visits_of g cs)

-- a goal that is too deep is visited, and has no tree
unfoldable pub visits_within : PlainProgram → ℕ → PlainGoal → List Visit
visits_within p zero g = visit true g ∷ []
visits_within p (suc room) g =
    visit false g
    ∷ choices_visits p (tree_within p room) (visits_within p room) g (offered p g).value

-- ---- a unit's trees, by its roots

abbrev pub root_tree : PlainProgram → Option PlainGoal → Option (Option PlainTree)
root_tree p None = Some None
root_tree p (Some g) = option_map Some (tree_within p deepest g)

abbrev pub root_visits : PlainProgram → Option PlainGoal → List Visit
root_visits p None = []
root_visits p (Some g) = visits_within p deepest g

unfoldable pub unit_trees :
    PlainProgram → List (Option PlainGoal) → Option (List (Option PlainTree))
unit_trees p [] = Some []
unit_trees p (r ∷ rs) = do
  t ← root_tree p r
  ts ← unit_trees p rs
  Some (t ∷ ts)

-- up to the first tree that isn't found; the cost of a unit is their number
unfoldable pub unit_visits : PlainProgram → List (Option PlainGoal) → List Visit
unit_visits p [] = []
unit_visits p (r ∷ rs) =
    root_visits p r ++ if_found (is_some (root_tree p r)) (λ _. unit_visits p rs)

-- of this root, or else of a later one
abbrev pub or_failing : {A : Type 0} → Bool → A → (Unit {0} → A) → A
or_failing true x later = later tt
or_failing false x later = x

-- of the tree that isn't found
unfoldable pub failing_visits : PlainProgram → List (Option PlainGoal) → List Visit
failing_visits p [] = []
failing_visits p (r ∷ rs) =
    or_failing (is_some (root_tree p r)) (root_visits p r) (λ _. failing_visits p rs)

-- its number
unfoldable pub failing_root : PlainProgram → List (Option PlainGoal) → ℕ
failing_root p [] = 0
failing_root p (r ∷ rs) = or_failing (is_some (root_tree p r)) 0 (λ _. suc (failing_root p rs))
