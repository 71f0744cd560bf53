-- The goals that are owed after choices, one choice after another in preorder.
use Rattle.std.specs.Prelude.{◌≡◌, ◌≢◌, ◌⊎◌, ℕ, suc, ◌<◌, List, [], ◌∷◌, ◌++◌, length, map, Option, Some, None}
use Rattle.cap_prog.specs.Program.{PlainProgram}
use Rattle.cap_goal_spec.specs.States.{PlainGoal}
use Rattle.cap_goal_spec.specs.Choices.{PlainChoice, PlainTree, node, PlainTrees, no_trees, tree}
use Rattle.cap_goal_spec.specs.Roots.{all_roots}
use Rattle.cap_rules.specs.Answers.{Subgoals}
use Rattle.cap_rules.specs.Valid.{deepest}
use Rattle.cap_kernel_check_steps.specs.Starts.{PlainStart, no_tasks, at_goal, barred, starts}

-- ---- trees in preorder

abbrev mutual
  pub choices_of : PlainTree → List PlainChoice
  choices_of (node c ts) = c ∷ all_choices_of ts

  pub all_choices_of : PlainTrees → List PlainChoice
  all_choices_of no_trees = []
  all_choices_of (tree t ts) = choices_of t ++ all_choices_of ts

-- of the trees of all roots
abbrev pub preorder : List (Option PlainTree) → List PlainChoice
preorder [] = []
preorder (None ∷ ts) = preorder ts
preorder (Some t ∷ ts) = choices_of t ++ preorder ts

-- ---- what is owed

-- a goal, or none where no choice applies at a root; so many nodes are above it in its tree
pub record PlainDebt : Type 0 where
  pub above : ℕ
  pub goal : Option PlainGoal

abbrev pub owes : ℕ → PlainGoal → PlainDebt
owes n g = record { above = n; goal = Some g }

abbrev pub owes_root : PlainDebt
owes_root = record { above = 0; goal = None }

-- the roots that have tasks
abbrev pub debts_of : List PlainStart → List PlainDebt
debts_of [] = []
debts_of (no_tasks ∷ ss) = debts_of ss
debts_of (at_goal g ∷ ss) = owes 0 g ∷ debts_of ss
debts_of (barred ∷ ss) = owes_root ∷ debts_of ss

-- the choice applies at the goal, which is not too deep, and leaves these goals
abbrev pub PaysAt : PlainProgram → ℕ → Option PlainGoal → PlainChoice → List PlainGoal → Type 0
PaysAt p above None c gs = ⊥
PaysAt p above (Some g) c gs = (above < deepest) × Subgoals p g c gs

abbrev pub Pays : PlainProgram → PlainDebt → PlainChoice → List PlainGoal → Type 0
Pays p d c gs = PaysAt p d.above d.goal c gs

-- the first is replaced by what the choice leaves
abbrev pub Replaces : PlainProgram → PlainChoice → List PlainDebt → List PlainDebt → Type 0
Replaces p c [] next = ⊥
Replaces p c (d ∷ ds) next =
    (gs : List PlainGoal) × Pays p d c gs × (next ≡ map (owes (suc d.above)) gs ++ ds)

abbrev pub OwedFrom : PlainProgram → List PlainDebt → List PlainChoice → List PlainDebt → Type 0
OwedFrom p ds [] end = ds ≡ end
OwedFrom p ds (c ∷ cs) end =
    (next : List PlainDebt) × Replaces p c ds next × OwedFrom p next cs end

-- after these choices these are owed
abbrev pub Owed : PlainProgram → List PlainChoice → List PlainDebt → Type 0
Owed p cs ds = OwedFrom p (debts_of (starts p)) cs ds

-- ---- where choices fail first

-- at what is owed the next choice fails, or there is none and none would apply
abbrev pub FailsNext : PlainProgram → List PlainDebt → List PlainChoice → Type 0
FailsNext p [] cs = ⊥
FailsNext p (d ∷ ds) [] = d.goal ≡ None
FailsNext p (d ∷ ds) (c ∷ cs) = (gs : List PlainGoal) → ¬ Pays p d c gs

-- a choice is left over, or one is missing
abbrev pub MisfitsNext : List PlainDebt → List PlainChoice → Type 0
MisfitsNext [] [] = ⊥
MisfitsNext [] (c ∷ cs) = Unit {0}
MisfitsNext (d ∷ ds) [] = d.goal ≢ None
MisfitsNext (d ∷ ds) (c ∷ cs) = ⊥

-- so many choices are passed; what is owed after them, and the choices that remain, are so
pub record StopsAt (p : PlainProgram) (cs : List PlainChoice)
    (P : List PlainDebt → List PlainChoice → Type 0) (k : ℕ) : Type 0 where
  pub passed : List PlainChoice
  pub rest : List PlainChoice
  pub owed : List PlainDebt
  pub parts : cs ≡ passed ++ rest
  pub number : k ≡ suc (length passed)
  pub follows : Owed p passed owed
  pub stops : P owed rest

abbrev pub FailsAt : PlainProgram → List PlainChoice → ℕ → Type 0
FailsAt p cs k = StopsAt p cs (FailsNext p) k

abbrev pub MisfitsAt : PlainProgram → List PlainChoice → ℕ → Type 0
MisfitsAt p cs k = StopsAt p cs MisfitsNext k

-- ---- what is judged of so many trees with these choices in preorder

abbrev pub JudgedOk : PlainProgram → ℕ → List PlainChoice → ℕ → Type 0
JudgedOk p trees cs n = (trees ≡ length (all_roots p)) × Owed p cs [] × (n ≡ length cs)

abbrev pub JudgedNode : PlainProgram → ℕ → List PlainChoice → ℕ → Type 0
JudgedNode p trees cs k = (trees ≡ length (all_roots p)) × FailsAt p cs k

-- another number of trees than that of the roots comes before all else
abbrev pub JudgedShape : PlainProgram → ℕ → List PlainChoice → ℕ → Type 0
JudgedShape p trees cs k =
    ((k ≡ 1) × (trees ≢ length (all_roots p)))
    ⊎ ((trees ≡ length (all_roots p)) × MisfitsAt p cs k)
