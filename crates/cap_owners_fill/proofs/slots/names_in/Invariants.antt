use Rattle.std.proofs.Common.{◌≡◌, drop}
use Rattle.cap_owners_spec.specs.Traced.{each}
use Rattle.cap_owners_spec.specs.Filling.{name_value, names_in}
use Rattle.cap_owners_fill.proofs.Meeting.{behind}
use Rattle.cap_owners_fill.proofs.slots.names_in.Given as goal

abbrev pub invariant-loop-term : goal.invariant-loop-term
invariant-loop-term l = behind l.names (each (name_value l.values) (drop l.term-index l.env)) ≡ names_in l.values l.env
