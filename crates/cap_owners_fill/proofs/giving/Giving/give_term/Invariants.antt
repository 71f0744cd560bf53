use Rattle.std.proofs.Common.{◌≡◌, drop}
use Rattle.cap_owners_spec.specs.Filling.{give_parts}
use Rattle.cap_owners_fill.proofs.giving.Giving.give_term.Given as goal

abbrev pub invariant-loop-part : goal.invariant-loop-part
invariant-loop-part l = give_parts l.names (drop l.part-index l.term.parts) l.self ≡ give_parts l.names l.term.parts l.fn.self
