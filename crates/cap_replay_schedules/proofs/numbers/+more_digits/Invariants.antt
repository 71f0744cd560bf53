use Rattle.std.proofs.Common.{length}
use Rattle.cap_replay_schedules.proofs.numbers.+more_digits.Given as goal

abbrev pub decreases-more_digits : goal.decreases-more_digits
decreases-more_digits l = length l.digits.now
