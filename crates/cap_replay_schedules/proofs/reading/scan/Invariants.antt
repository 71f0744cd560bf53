use Rattle.std.proofs.Common.{◌+◌, ◌≤◌, length}
use Rattle.cap_replay_schedules.specs.Reading.{reader_view}
use Rattle.cap_replay_schedules.proofs.ReadLemmas.{IsLeft}
use Rattle.cap_replay_schedules.proofs.reading.scan.Given as goal

abbrev pub invariant-loop-rest : goal.invariant-loop-rest
invariant-loop-rest l = IsLeft l.number (reader_view l.reader) l.rest l.fn.bytes × (l.number + length l.rest ≤ length l.fn.bytes + 1)

abbrev pub decreases-loop-rest : goal.decreases-loop-rest
decreases-loop-rest l = length l.rest
