-- What a check answers.
use Rattle.std.specs.Prelude.{List, Option, Result, Ok, Err}
use Rattle.cap_prog.specs.Program.{PlainProgram}
use Rattle.cap_goal_spec.specs.Choices.{PlainTree}
use Rattle.cap_rules.specs.Valid.{Valid}
use Rattle.cap_kernel_check_steps.specs.declared.error.CheckError.{CheckError}
use Rattle.cap_kernel_check_steps.specs.declared.error.CheckError.TheVariants.{Node, Shape, OutOfMemory}
use Rattle.cap_kernel_check_steps.specs.Faults.{TellsNode, TellsShape}
use Rattle.cap_kernel_check_steps.specs.Walks.{PlainWalk, Outcome, goes_on, at_node, at_shape}

-- a walk is at its end; want of memory may come in any case
abbrev pub Concluded : Result (Unit {0}) CheckError → (Outcome → Type 0) → Type 0
Concluded (Ok x) P = (w : PlainWalk) × P (goes_on w)
Concluded (Err (Node k)) P = P (at_node k)
Concluded (Err (Shape k)) P = P (at_shape k)
Concluded (Err OutOfMemory) P = Unit {0}

-- the trees are valid, or they are not, and a node or the shape is told; want of memory may come in
-- either case
abbrev pub Checked :
    PlainProgram → List (Option PlainTree) → Result (Unit {0}) CheckError → Type 0
Checked p trees (Ok x) = Valid p trees
Checked p trees (Err (Node k)) = TellsNode p trees k × (¬ Valid p trees)
Checked p trees (Err (Shape k)) = TellsShape p trees k × (¬ Valid p trees)
Checked p trees (Err OutOfMemory) = Unit {0}
