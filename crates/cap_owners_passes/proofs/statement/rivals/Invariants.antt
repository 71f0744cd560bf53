use Rattle.std.proofs.Common.{◌≡◌, ◌++◌, drop}
use Rattle.cap_owners_passes.specs.Views.{facts_lent}
use Rattle.cap_owners_passes.proofs.Marks.{all_of_types}
use Rattle.cap_owners_passes.proofs.statement.rivals.Given as goal

abbrev pub invariant-loop-opened : goal.invariant-loop-opened
invariant-loop-opened l = all_of_types l.state.facts l.state.opened ≡ facts_lent l.all.items ++ all_of_types l.state.facts (drop l.opened-index l.state.opened)
