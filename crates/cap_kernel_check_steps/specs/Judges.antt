-- A judge of choices, one after another in preorder.
use Rattle.std.specs.Prelude.{◌≡◌, ℕ, suc, List, [], ◌∷◌, ◌++◌, length, drop, Option, Some, None, Result, Ok, Err}
use Rattle.cap_prog.specs.Program.{PlainProgram}
use Rattle.cap_goal_spec.specs.Choices.{PlainChoice}
use Rattle.cap_goal_spec.specs.Roots.{all_roots}
use Rattle.cap_kernel_check_steps.specs.declared.error.CheckError.{CheckError}
use Rattle.cap_kernel_check_steps.specs.declared.error.CheckError.TheVariants.{Node, Shape, OutOfMemory}
use Rattle.cap_kernel_check_steps.specs.Owed.{PlainDebt, Owed, JudgedOk, JudgedNode, JudgedShape}

-- what is judged of so many trees with these choices in preorder; that is never want of memory
abbrev pub Judged : PlainProgram → ℕ → List PlainChoice → Result ℕ CheckError → Type 0
Judged p trees cs (Ok n) = JudgedOk p trees cs n
Judged p trees cs (Err (Node k)) = JudgedNode p trees cs k
Judged p trees cs (Err (Shape k)) = JudgedShape p trees cs k
Judged p trees cs (Err OutOfMemory) = ⊥

-- the number of the next node and what is owed, as long as no choice has failed
pub record PlainJudge : Type 0 where
  pub program : PlainProgram
  pub next : ℕ
  pub owed : List PlainDebt
  pub fault : Option CheckError

-- there are as many trees as roots, and after these choices these are owed
pub record AreOwed (p : PlainProgram) (trees : ℕ) (cs : List PlainChoice) (next : ℕ)
    (owed : List PlainDebt) : Type 0 where
  pub many : trees ≡ length (all_roots p)
  pub number : next ≡ suc (length cs)
  pub follows : Owed p cs owed

-- whatever choices follow, so it is judged
abbrev pub StaysJudged : PlainProgram → ℕ → List PlainChoice → CheckError → Type 0
StaysJudged p trees cs e = (more : List PlainChoice) → Judged p trees (cs ++ more) (Err e)

abbrev pub StandsBy : PlainProgram → ℕ → List PlainChoice → PlainJudge → Option CheckError → Type 0
StandsBy p trees cs j None = AreOwed p trees cs j.next j.owed
StandsBy p trees cs j (Some e) = StaysJudged p trees cs e

-- the judge of so many trees of this program has come behind these choices
pub record Judges (p : PlainProgram) (trees : ℕ) (cs : List PlainChoice) (j : PlainJudge) :
    Type 0 where
  pub program : j.program ≡ p
  pub stands : StandsBy p trees cs j j.fault

-- wherever it stood, it has come behind one more choice
abbrev pub JudgesNext : PlainJudge → PlainChoice → PlainJudge → Type 0
JudgesNext old c new =
    (p : PlainProgram) (trees : ℕ) (cs : List PlainChoice) →
    Judges p trees cs old → Judges p trees (cs ++ c ∷ []) new

-- it answers what is judged of the choices behind which it has come
abbrev pub AnswersFor : PlainJudge → Result ℕ CheckError → Type 0
AnswersFor j result =
    (p : PlainProgram) (trees : ℕ) (cs : List PlainChoice) →
    Judges p trees cs j → Judged p trees cs result

-- so it is judged, whatever follows
abbrev pub with_fault : PlainJudge → CheckError → PlainJudge
with_fault j e = record { program = j.program; next = j.next; owed = []; fault = Some e }

-- what is owed first is replaced
abbrev pub paid : PlainJudge → List PlainDebt → PlainJudge
paid j left =
    record { program = j.program; next = suc j.next; owed = left ++ drop 1 j.owed; fault = j.fault }

-- how many nodes are above the next node
abbrev pub above_first : List PlainDebt → ℕ
above_first [] = 0
above_first (d ∷ ds) = d.above

abbrev pub path_unless : Option CheckError → List PlainDebt → ℕ
path_unless None ds = above_first ds
path_unless (Some e) ds = 0

abbrev pub path_of : PlainJudge → ℕ
path_of j = path_unless j.fault j.owed
