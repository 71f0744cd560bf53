-- Each node of a derivation is one of the rules, and derivations are sound.
use Rattle.std.specs.Prelude.{List, Option}
use Rattle.cap_prog.specs.Program.{PlainProgram}
use Rattle.cap_prog.specs.WellFormed.{IsWellFormed}
use Rattle.cap_goal_spec.specs.States.{PlainState, PlainTask}
use Rattle.cap_goal_spec.specs.Choices.{PlainTree}
use Rattle.cap_rules.specs.Valid.{Valid}
use Rattle.cap_machine_accounts.specs.Safety.{Safe}
use Rattle.cap_account_states.specs.Nodes.{IsNode, Deriving}

-- at each node of a valid derivation the choice applies, what its certificates prove is true, and
-- the trees below it are valid derivations of its subgoals
abbrev pub DerivationsAreNodes : Type 0
DerivationsAreNodes =
    (p : PlainProgram) (d : PlainTree) (s : PlainState) (tasks : List PlainTask) →
    Deriving p d s tasks → IsNode p (Deriving p) d s tasks

-- a program all units of which have valid derivations is safe
abbrev pub DerivationsAreSound : Type 0
DerivationsAreSound =
    (p : PlainProgram) (trees : List (Option PlainTree)) → IsWellFormed p → Valid p trees → Safe p
