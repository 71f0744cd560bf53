use Rattle.std.proofs.Common.{option_map}
use Rattle.cap_replay_schedules.specs.Pieces.{pieces_behind}
use Rattle.cap_replay_schedules.proofs.ReadLemmas.{IsSoFar, room}
use Rattle.cap_replay_schedules.proofs.reading.numbers.Given as goal

abbrev pub invariant-loop-rest : goal.invariant-loop-rest
invariant-loop-rest l = IsSoFar l.numbers.items (pieces_behind 32 (option_map (λ r. r.now) l.rest)) (pieces_behind 32 (option_map (λ r. r.now) l.fn.rest))

abbrev pub decreases-loop-rest : goal.decreases-loop-rest
decreases-loop-rest l = room (option_map (λ r. r.now) l.rest)
