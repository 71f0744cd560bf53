-- What an error of exact arithmetic is to a rule.
use Rattle.cap_lin.specs.declared.error.LinError.{LinError}
use Rattle.cap_lin.specs.declared.error.LinError.TheVariants as lin
use Rattle.cap_rules_steps.specs.declared.error.RuleError.{RuleError}
use Rattle.cap_rules_steps.specs.declared.error.RuleError.TheVariants.{Wide, OutOfMemory}

abbrev pub rule_error : LinError → RuleError
rule_error (lin.Wide a b) = Wide a b
rule_error lin.OutOfMemory = OutOfMemory
