-- What faults say of trees, and what a walk over them tells.
use Rattle.std.specs.Prelude.{◌≡◌, ℕ, List, length, Option, Result}
use Rattle.cap_prog.specs.Program.{PlainProgram}
use Rattle.cap_goal_spec.specs.Choices.{PlainChoice, PlainTree}
use Rattle.cap_goal_spec.specs.Roots.{all_roots}
use Rattle.cap_rules.specs.Valid.{Valid}
use Rattle.cap_kernel_check_steps.specs.Starts.{starts}
use Rattle.cap_kernel_check_steps.specs.Owed.{preorder, JudgedOk, JudgedNode, JudgedShape}
use Rattle.cap_kernel_check_steps.specs.declared.error.CheckError.{CheckError}
use Rattle.cap_kernel_check_steps.specs.Judges.{Judged}
use Rattle.cap_kernel_check_steps.specs.Faults.{TellsNode, TellsShape}
use Rattle.cap_kernel_check_steps.specs.Walks.{Outcome, goes_on, at_node, at_shape, passed, After, ended, VisitsStarts}

-- trees at which a node or a shape is told are not valid
abbrev pub FaultyAreInvalid : Type 0
FaultyAreInvalid =
    (p : PlainProgram) (trees : List (Option PlainTree)) (k : ℕ) →
    (TellsNode p trees k → ¬ Valid p trees) × (TellsShape p trees k → ¬ Valid p trees)

-- what an outcome says of the trees
abbrev pub Tells : PlainProgram → List (Option PlainTree) → Outcome → Type 0
Tells p trees (goes_on w) = Valid p trees
Tells p trees (at_node k) = TellsNode p trees k
Tells p trees (at_shape k) = TellsShape p trees k

-- the walk beside all starts
abbrev pub WalksTell : Type 0
WalksTell =
    (p : PlainProgram) (trees : List (Option PlainTree)) (m o : Outcome) →
    length trees ≡ length (all_roots p) → VisitsStarts p (passed 0) trees (starts p) m →
    After m (λ w end. end ≡ ended w) o → Tells p trees o

-- valid trees with these choices in preorder
abbrev pub HasTrees : PlainProgram → ℕ → List PlainChoice → Type 0
HasTrees p count cs =
    (trees : List (Option PlainTree)) × Valid p trees × (length trees ≡ count)
    × (preorder trees ≡ cs)

-- nothing is owed after choices exactly where they are those of valid trees
pub record JudgedAreValid : Type 0 where
  pub sound :
      (p : PlainProgram) (trees n : ℕ) (cs : List PlainChoice) →
      JudgedOk p trees cs n → HasTrees p trees cs
  pub complete :
      (p : PlainProgram) (trees : ℕ) (cs : List PlainChoice) →
      HasTrees p trees cs → JudgedOk p trees cs (length cs)
  pub node :
      (p : PlainProgram) (trees k : ℕ) (cs : List PlainChoice) →
      JudgedNode p trees cs k → ¬ HasTrees p trees cs
  pub shape :
      (p : PlainProgram) (trees k : ℕ) (cs : List PlainChoice) →
      JudgedShape p trees cs k → ¬ HasTrees p trees cs

-- choices are judged in one way
abbrev pub JudgementsAreOne : Type 0
JudgementsAreOne =
    (p : PlainProgram) (trees : ℕ) (cs : List PlainChoice) (a b : Result ℕ CheckError) →
    Judged p trees cs a → Judged p trees cs b → a ≡ b

-- valid trees with the same choices in preorder are the same
abbrev pub ValidTreesAreOne : Type 0
ValidTreesAreOne =
    (p : PlainProgram) (a b : List (Option PlainTree)) →
    Valid p a → Valid p b → preorder a ≡ preorder b → a ≡ b
