use Rattle.std.proofs.Common.{◌≡◌, ◌+ℤ◌, drop}
use Rattle.cap_lin.specs.Steps.{first_wide, value_steps}
use Rattle.cap_lin.specs.Values.{number_at, parts_value, value}
use Rattle.cap_lin.proofs.term.Term.value.Given as goal

abbrev pub invariant-loop-part : goal.invariant-loop-part
invariant-loop-part l = record {
  steps : first_wide (value_steps (number_at l.values) l.total (drop l.part-index l.parts)) ≡ first_wide (value_steps (number_at l.values) l.self.constant l.self.parts);
  total : l.total +ℤ parts_value (number_at l.values) (drop l.part-index l.parts) ≡ value (number_at l.values) l.self;
}
