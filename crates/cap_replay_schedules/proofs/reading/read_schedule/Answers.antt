use Rattle.cap_replay_schedules.proofs.Ascending.{addresses_ascend, entries_are_few}
use Rattle.cap_replay_schedules.proofs.reading.read_schedule.Goals as goal

pub returns-clause-addresses : goal.returns-clause-addresses
returns-clause-addresses c = addresses_ascend c.args.bytes.now _ c.scan.ensures

pub returns-clause-entries : goal.returns-clause-entries
returns-clause-entries c = entries_are_few c.args.bytes.now _ c.scan.ensures
