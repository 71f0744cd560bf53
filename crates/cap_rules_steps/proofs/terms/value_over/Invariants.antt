use Rattle.std.proofs.Common.{◌≡◌, drop}
use Rattle.cap_lin.specs.Steps.{first_wide}
use Rattle.cap_rules.specs.cap_goal_spec.Terms.{with_multiples, with_multiples_steps, term_over, term_over_steps}
use Rattle.cap_rules_steps.specs.Places.{term_among}
use Rattle.cap_rules_steps.proofs.terms.value_over.Given as goal

-- what is left to be added comes to the same as the whole
abbrev pub invariant-loop-part : goal.invariant-loop-part
invariant-loop-part l = record {
  term : with_multiples (term_among l.terms) l.sum (drop l.part-index l.term.parts) ≡ term_over (term_among l.terms) l.term;
  steps : first_wide (with_multiples_steps (term_among l.terms) l.sum (drop l.part-index l.term.parts)) ≡ first_wide (term_over_steps (term_among l.terms) l.term);
}
