use Rattle.std.proofs.Common.{drop}
use Rattle.cap_rules.specs.Attempts.{each, found}
use Rattle.cap_rules_steps.proofs.Walking.{LeadsBehind}
use Rattle.cap_take_facts.proofs.stated.bound_terms.Given as goal

abbrev pub invariant-loop-name : goal.invariant-loop-name
invariant-loop-name l = LeadsBehind l.terms.items (each found (drop l.name-index l.names)) (each found l.names)
