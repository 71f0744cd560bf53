use Rattle.std.proofs.Common.{◌<◌, length, rules, option_map}
use Rattle.std.proofs.lemmas.Result.{err_from_is_err_and}
use Rattle.cap_replay_schedules.specs.Reading.{reader_view}
use Rattle.cap_replay_schedules.proofs.ReadLemmas.{line_fails}
use Rattle.cap_replay_schedules.proofs.reading.scan.Goals as goal

pub returns-in_err-take_line : goal.returns-in_err-take_line
returns-in_err-take_line c =
    let p = err_from_is_err_and c.from_residual.result c.from_residual.ensures.1 in
    let l : 0 < length c.loop-rest.rest.now = search rules in
    rw (p.1, p.2) (line_fails c.loop-rest.number (reader_view c.loop-rest.reader) c.loop-rest.rest.now _ c.args.bytes.now (option_map (λ r. r.now) c.cut.result.1) _ _ c.loop-rest.invariant.0 l c.cut.ensures.cuts c.in_err-take_line.ensures)
