use Rattle.cap_prog.specs.Views.{program_view}
use Rattle.cap_owners.proofs.Running.{Goes}
use Rattle.cap_owners.proofs.owned.run.Given as goal

abbrev pub invariant-loop-entry : goal.invariant-loop-entry
invariant-loop-entry l =
    Goes (program_view l.program) l.roots l.entries l.fn.machine l.fn.track l.fn.text.items l.machine l.track l.text.items l.count l.entry-index
