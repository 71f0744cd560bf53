use Rattle.std.proofs.Common.{◌<◌, length, arith}
use Rattle.cap_prog.specs.Views.{program_view}
use Rattle.cap_replay.proofs.RunLemmas.{run_ends, run_goes, entry_at}
use Rattle.cap_replay.proofs.playing.replay.Goals as goal

pub returns-in-Some : goal.returns-in-Some
returns-in-Some c =
    let l : c.loop-entry.entry-index < length c.deref-entry-items.result.now = omega arith in
    let v = c.deref-entry-items.ensures.value in
    run_ends (program_view c.args.program.now) c.args.schedule.now c.loop-entry.machine c.advance.new.machine c.loop-entry.text.items c.advance.new.text.items c.loop-entry.count c.loop-entry.entry-index _ c.in-Some.end _ c.finish.result c.loop-entry.invariant (rw v at l) (entry_at _ _ _ _ v l) c.in-Some.is c.in_ok-end.ensures.advances c.finish.ensures

pub loop-entry-preserved : goal.loop-entry-preserved
loop-entry-preserved c =
    let l : c.loop-entry.entry-index < length c.deref-entry-items.result.now = omega arith in
    let v = c.deref-entry-items.ensures.value in
    run_goes (program_view c.args.program.now) c.args.schedule.now c.loop-entry.machine c.advance.new.machine c.loop-entry.text.items c.advance.new.text.items c.loop-entry.count c.loop-entry.entry-index _ _ c.loop-entry.invariant (rw v at l) (entry_at _ _ _ _ v l) c.in-None.is c.in_ok-end.ensures.advances c.in_ok-end.ensures.fits c.in_ok-end.ensures.threads
