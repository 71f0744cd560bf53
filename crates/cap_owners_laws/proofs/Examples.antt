-- The examples, by computation.
use Rattle.std.proofs.Common.{refl}
use Rattle.std.specs.Fmt.{digits}
use Rattle.cap_rules.specs.cap_goal_spec.cap_lin.Values.{value, parts_value}
use Rattle.cap_rules.specs.cap_goal_spec.cap_lin.Steps.{first_wide, value_steps}
use Rattle.cap_rules.specs.cap_goal_spec.cap_galg.Fractions.{lowest, gcd}
use Rattle.cap_owners_laws.specs.Examples.{GuardExamples, StartExamples}

pub guards-shown : GuardExamples
unfolding lowest gcd digits
guards-shown = record {
  amount = refl;
  part = refl;
  source = refl;
  tokens = refl;
  spans = refl;
  all = refl;
  side = refl;
  share_of_name = refl;
  number_of_name = refl;
}

pub starts-refused : StartExamples
unfolding value parts_value first_wide value_steps
starts-refused = record {
  unmet = refl;
  wide = refl;
}
