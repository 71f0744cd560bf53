use Rattle.std.proofs.Common.{◌≡◌, drop}
use Rattle.std.specs.List.{zip}
use Rattle.cap_rules.specs.Closing.{rivals}
use Rattle.cap_owners_spec.specs.Walks.{mark_values}
use Rattle.cap_owners_passes.specs.Views.{facts_lent}
use Rattle.cap_owners_passes.proofs.Marks.{marks_from}
use Rattle.cap_owners_passes.proofs.statement.mark_values.Given as goal

abbrev pub invariant-loop-number : goal.invariant-loop-number
invariant-loop-number l = mark_values l.walk (zip (rivals l.state) l.marks) ≡ marks_from l.walk (drop l.number (facts_lent l.rivals.items)) (drop l.number l.marks) l.values
