use Rattle.std.proofs.Common.{ap, option_map}
use Rattle.cap_replay_schedules.proofs.ReadLemmas.{two_pieces}
use Rattle.cap_replay_schedules.proofs.reading.last_number.Goals as goal

pub returns-in-Some : goal.returns-in-Some
returns-in-Some c =
    two_pieces _ c.in_ok-rest.field-0.now _ _ _ (ap (option_map (λ r. r.now)) c.in_ok-rest.was) c.cut.ensures.cuts (ap (option_map (λ r. r.now)) c.in-Some.is)
