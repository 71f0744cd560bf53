use Rattle.std.proofs.Common.{◌≡◌, drop}
use Rattle.std.specs.Prelude.{is_some}
use Rattle.std.specs.List.{list_all}
use Rattle.cap_goal_spec.specs.Environments.{term_of, is_determined}
use Rattle.cap_owners_fill.proofs.reading.is_determined.Given as goal

abbrev pub invariant-loop-part : goal.invariant-loop-part
invariant-loop-part l = is_determined l.env l.term ≡ list_all (λ p. is_some (term_of l.env p.0)) (drop l.part-index l.term.parts)
