use Rattle.std.proofs.Common.{ap, option_map}
use Rattle.cap_replay_schedules.specs.Reading.{reader_view}
use Rattle.cap_replay_schedules.proofs.ReadLemmas.{no_end}
use Rattle.cap_replay_schedules.proofs.reading.Reader.take_end.Goals as goal

pub returns-in-Some : goal.returns-in-Some
returns-in-Some c = no_end c.args.number (reader_view c.args.self.now) _ c.in-Some.field-0.now (ap (option_map (λ r. r.now)) c.in-Some.is)
