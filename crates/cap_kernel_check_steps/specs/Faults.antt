-- What is wrong with trees, by the numbers of nodes. The nodes of all trees are numbered from 1 in
-- preorder.
use Rattle.std.specs.Prelude.{◌≡◌, ◌≢◌, ◌⊎◌, ℕ, suc, ◌+◌, ◌≤◌, ◌<◌, List, [], ◌∷◌, length, Option, Some, None}
use Rattle.cap_prog.specs.Program.{PlainProgram}
use Rattle.cap_goal_spec.specs.States.{PlainGoal}
use Rattle.cap_goal_spec.specs.Choices.{PlainChoice, PlainTree, node, PlainTrees, no_trees, tree}
use Rattle.cap_goal_spec.specs.Roots.{all_roots}
use Rattle.cap_rules.specs.Answers.{Subgoals}
use Rattle.cap_rules.specs.Valid.{deepest}
use Rattle.cap_kernel_check_steps.specs.Starts.{PlainStart, no_tasks, at_goal, barred, starts}

-- how many nodes a tree has
abbrev mutual
  pub nodes_of : PlainTree → ℕ
  nodes_of (node c ts) = suc (all_nodes_of ts)

  pub all_nodes_of : PlainTrees → ℕ
  all_nodes_of no_trees = 0
  all_nodes_of (tree t ts) = nodes_of t + all_nodes_of ts

-- a node's choice doesn't apply or it stands too deep; a node has no goal; a goal has no node; or a
-- term of a unit's roots leaves 128 bits, which counts at the first node that the unit's trees have
-- or would have
pub data Fault : Type 0 where
  failed : Fault
  left_over : Fault
  missing : Fault
  unrooted : Fault

abbrev pub NeverApplies : PlainProgram → PlainGoal → PlainChoice → Type 0
NeverApplies p g c = (gs : List PlainGoal) → ¬ Subgoals p g c gs

abbrev pub Fails : PlainProgram → ℕ → PlainGoal → PlainChoice → Type 0
Fails p depth g c = (deepest < depth) ⊎ NeverApplies p g c

-- a node without a goal that also stands too deep is both
abbrev pub IsLeftOver : ℕ → Fault → Type 0
IsLeftOver depth f = (f ≡ left_over) ⊎ ((f ≡ failed) × (deepest < depth))

-- the fault shows at node k, where the tree stands at this depth behind so many nodes; where a node
-- is missing, it shows at the number behind that of the last node before
abbrev mutual
  pub HasFault : PlainProgram → ℕ → ℕ → PlainTree → PlainGoal → Fault → ℕ → Type 0
  HasFault p before depth (node c ts) g f k =
      ((f ≡ failed) × (k ≡ suc before) × Fails p depth g c)
      ⊎ ((gs : List PlainGoal) × Subgoals p g c gs × HaveFault p (suc before) (suc depth) ts gs f k)

  pub HaveFault : PlainProgram → ℕ → ℕ → PlainTrees → List PlainGoal → Fault → ℕ → Type 0
  HaveFault p before depth no_trees [] f k = ⊥
  HaveFault p before depth no_trees (g ∷ gs) f k = (f ≡ missing) × (k ≡ suc before)
  HaveFault p before depth (tree t ts) [] f k = IsLeftOver depth f × (k ≡ suc before)
  HaveFault p before depth (tree t ts) (g ∷ gs) f k =
      HasFault p before depth t g f k ⊎ HaveFault p (before + nodes_of t) depth ts gs f k

-- of the trees of all units, as many as there are roots; nothing shows behind a root at which no
-- choice applies
abbrev pub StartsFault :
    PlainProgram → ℕ → List (Option PlainTree) → List PlainStart → Fault → ℕ → Type 0
StartsFault p before [] ss f k = ⊥
StartsFault p before (o ∷ ts) [] f k = ⊥
StartsFault p before (o ∷ ts) (barred ∷ ss) f k = (f ≡ unrooted) × (k ≡ suc before)
StartsFault p before (None ∷ ts) (no_tasks ∷ ss) f k = StartsFault p before ts ss f k
StartsFault p before (Some t ∷ ts) (no_tasks ∷ ss) f k =
    ((f ≡ left_over) × (k ≡ suc before)) ⊎ StartsFault p (before + nodes_of t) ts ss f k
StartsFault p before (None ∷ ts) (at_goal g ∷ ss) f k =
    ((f ≡ missing) × (k ≡ suc before)) ⊎ StartsFault p before ts ss f k
StartsFault p before (Some t ∷ ts) (at_goal g ∷ ss) f k =
    HasFault p before 1 t g f k ⊎ StartsFault p (before + nodes_of t) ts ss f k

abbrev pub ShowsFault : PlainProgram → List (Option PlainTree) → Fault → ℕ → Type 0
ShowsFault p trees f k = StartsFault p 0 trees (starts p) f k

-- ---- which is told: the least number at which a fault shows, and there first that a node fails,
-- then that one is left over or missing, and then that a unit has no roots

abbrev pub IsFirst : (Fault → ℕ → Type 0) → Fault → ℕ → Type 0
IsFirst Shows f k = Shows f k × ((e : Fault) (j : ℕ) → Shows e j → k ≤ j)

abbrev pub IsNode : (Fault → ℕ → Type 0) → ℕ → Type 0
IsNode Shows k = IsFirst Shows failed k ⊎ (IsFirst Shows unrooted k × (¬ Shows missing k))

abbrev pub IsShape : (Fault → ℕ → Type 0) → ℕ → Type 0
IsShape Shows k = (IsFirst Shows left_over k ⊎ IsFirst Shows missing k) × (¬ Shows failed k)

-- another number of trees than that of the roots comes before all else
abbrev pub IsMiscounted : PlainProgram → List (Option PlainTree) → Type 0
IsMiscounted p trees = length trees ≢ length (all_roots p)

-- a node is told, by its number
abbrev pub TellsNode : PlainProgram → List (Option PlainTree) → ℕ → Type 0
TellsNode p trees k = (length trees ≡ length (all_roots p)) × IsNode (ShowsFault p trees) k

-- the shape is told, by the number of a node
abbrev pub TellsShape : PlainProgram → List (Option PlainTree) → ℕ → Type 0
TellsShape p trees k =
    ((k ≡ 1) × IsMiscounted p trees)
    ⊎ ((length trees ≡ length (all_roots p)) × IsShape (ShowsFault p trees) k)
