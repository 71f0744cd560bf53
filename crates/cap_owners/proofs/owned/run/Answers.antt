use Rattle.std.proofs.Common.{◌<◌, ◌≤◌, length, arith, refl}
use Rattle.cap_prog.specs.Views.{program_view}
use Rattle.cap_replay.proofs.RunLemmas.{entry_at}
use Rattle.cap_owners.proofs.Running.{run-done, run-ends, run-goes}
use Rattle.cap_owners.proofs.owned.run.Goals as goal

pub returns-in-Ends : goal.returns-in-Ends
returns-in-Ends c = λ ts are.
    let es = c.args.entries.now in
    let l : c.loop-entry.entry-index < length es = omega arith in
    run-ends (program_view c.args.program.now) c.args.roots.now es c.args.machine c.args.track c.args.text.items c.loop-entry.machine c.advance.new.machine c.loop-entry.track c.loop-entry.text.items c.loop-entry.count c.loop-entry.entry-index c.loop-entry.invariant _ c.in_ok-end.field-0 c.in-Ends.end c.advance.new.text.items c.finish.result ts are l (entry_at _ _ _ _ refl l) c.in-Ends.is c.in_ok-end.ensures.advances c.finish.ensures

pub loop-entry-preserved : goal.loop-entry-preserved
loop-entry-preserved c =
    let es = c.args.entries.now in
    let l : c.loop-entry.entry-index < length es = omega arith in
    run-goes (program_view c.args.program.now) c.args.roots.now es c.args.machine c.args.track c.args.text.items c.loop-entry.machine c.advance.new.machine c.loop-entry.track c.loop-entry.text.items c.loop-entry.count c.loop-entry.entry-index c.loop-entry.invariant _ c.in_ok-end.field-0 c.in-On.next c.advance.new.text.items l (entry_at _ _ _ _ refl l) c.in-On.is c.in_ok-end.ensures.advances c.in_ok-end.ensures.goes_on c.in_ok-end.ensures.fits c.in_ok-end.ensures.threads

pub returns : goal.returns
returns c = λ ts are.
    let es = c.args.entries.now in
    let l : length es ≤ c.loop-entry.entry-index = omega arith in
    run-done (program_view c.args.program.now) c.args.roots.now es c.args.machine c.args.track c.args.text.items c.loop-entry.machine c.loop-entry.track c.loop-entry.text.items c.loop-entry.count c.loop-entry.entry-index c.loop-entry.invariant c.finish-2.result ts are l c.finish-2.ensures
