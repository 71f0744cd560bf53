-- A call's answer by what a choice proves.
use Rattle.std.specs.Prelude.{Result, Ok, Err}
use Rattle.cap_prog.specs.Program.{PlainProgram}
use Rattle.cap_goal_spec.specs.States.{PlainGoal}
use Rattle.cap_goal_spec.specs.Choices.{PlainChoice}
use Rattle.cap_rules_marks.specs.Proven.{ProvesOwed}
use Rattle.cap_rules_steps.specs.declared.error.RuleError.{RuleError}
use Rattle.cap_rules_steps.specs.declared.error.RuleError.TheVariants.{NotApplicable, Wide, OutOfMemory}

-- there is no error exactly where the choice proves what its rule owes; want of memory may come in
-- either case
abbrev pub DecidesProven :
    {A : Type 0} → Result A RuleError → PlainProgram → PlainGoal → PlainChoice → Type 0
DecidesProven (Ok x) p g c = ProvesOwed p g c
DecidesProven (Err NotApplicable) p g c = ¬ ProvesOwed p g c
DecidesProven (Err (Wide a b)) p g c = ¬ ProvesOwed p g c
DecidesProven (Err OutOfMemory) p g c = Unit {0}
