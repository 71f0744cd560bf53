-- Choices in preorder that are passed one after another, and where they stop.
use Rattle.std.specs.Prelude.{◌≡◌, ℕ, suc, ◌+◌, List, ◌++◌, length}
use Rattle.cap_prog.specs.Program.{PlainProgram}
use Rattle.cap_goal_spec.specs.Choices.{PlainChoice}
use Rattle.cap_kernel_check_steps.specs.declared.error.CheckError.{CheckError}
use Rattle.cap_kernel_check_steps.specs.declared.error.CheckError.TheVariants.{Node, Shape, OutOfMemory}
use Rattle.cap_kernel_check_steps.specs.Owed.{PlainDebt, OwedFrom, FailsNext, MisfitsNext}

-- the choices that are left, and how many were passed before them
pub record PlainPreorder : Type 0 where
  pub passed : ℕ
  pub rest : List PlainChoice

-- the first of the choices that were left are these, and no more are passed
abbrev pub PassesOver : PlainPreorder → List PlainChoice → PlainPreorder → Type 0
PassesOver old cs new = (old.rest ≡ cs ++ new.rest) × (new.passed ≡ old.passed + length cs)

-- where this is owed before the choices that are left, so many are passed in all when this stops
-- them
pub record StopsFrom (p : PlainProgram) (ds : List PlainDebt) (w : PlainPreorder)
    (P : List PlainDebt → List PlainChoice → Type 0) (k : ℕ) : Type 0 where
  pub passed : List PlainChoice
  pub rest : List PlainChoice
  pub owed : List PlainDebt
  pub parts : w.rest ≡ passed ++ rest
  pub number : k ≡ suc (w.passed + length passed)
  pub follows : OwedFrom p ds passed owed
  pub stops : P owed rest

-- the choices that are left fail, or don't fit what is owed before them; want of memory may come in
-- any case
abbrev pub Halts : PlainProgram → List PlainDebt → PlainPreorder → CheckError → Type 0
Halts p ds w (Node k) = StopsFrom p ds w (FailsNext p) k
Halts p ds w (Shape k) = StopsFrom p ds w MisfitsNext k
Halts p ds w OutOfMemory = Unit {0}
