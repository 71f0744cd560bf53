use Rattle.std.proofs.Common.{◌≡◌, drop}
use Rattle.cap_lin.specs.Steps.{first_wide}
use Rattle.cap_rules.specs.cap_goal_spec.Terms.{with_multiples, with_multiples_steps, term_over, term_over_steps}
use Rattle.cap_rules.specs.cap_goal_spec.Environments.{bound_term, term_in, term_in_steps}
use Rattle.cap_rules_steps.proofs.bound.value_by.Given as goal

-- what is left to be added comes to the same as the whole
abbrev pub invariant-loop-part : goal.invariant-loop-part
invariant-loop-part l = record {
  term : with_multiples (bound_term l.env) l.sum (drop l.part-index l.term.parts) ≡ term_in l.env l.term;
  steps : first_wide (with_multiples_steps (bound_term l.env) l.sum (drop l.part-index l.term.parts)) ≡ first_wide (term_in_steps l.env l.term);
}
