use Rattle.cap_prog.specs.Views.{program_view}
use Rattle.cap_replay.proofs.RunLemmas.{Goes}
use Rattle.cap_replay.proofs.playing.replay.Given as goal

abbrev pub invariant-loop-entry : goal.invariant-loop-entry
invariant-loop-entry l = Goes (program_view l.program) l.schedule l.machine l.text.items l.count l.entry-index
