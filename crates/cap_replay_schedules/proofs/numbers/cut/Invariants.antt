use Rattle.cap_replay_schedules.proofs.PieceLemmas.{IsFirst}
use Rattle.cap_replay_schedules.proofs.numbers.cut.Given as goal

abbrev pub invariant-loop-i : goal.invariant-loop-i
invariant-loop-i l = IsFirst l.separator l.bytes l.i
