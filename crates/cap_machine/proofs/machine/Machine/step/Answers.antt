use Rattle.cap_prog.specs.Views.{program_view}
use Rattle.cap_machine.proofs.ActLemmas.{enabled_now}
use Rattle.cap_machine.proofs.ReadyLemmas.{fits_after, grows_after}
use Rattle.cap_machine.proofs.machine.Machine.step.Goals as goal

pub returns-in-Some-clause-fits : goal.returns-in-Some-clause-fits
returns-in-Some-clause-fits c =
    let r = c.in-Some.ensures in
    fits_after (program_view c.args.program.now) c.args.self.now c.take.new.self c.args.entry.now _ r.program c.requires.fits c.take.ensures.steps c.take.ensures.places

pub returns-in-Some-clause-threads : goal.returns-in-Some-clause-threads
returns-in-Some-clause-threads c = grows_after (program_view c.args.program.now) c.args.self.now c.take.new.self c.args.entry.now _ c.take.ensures.steps

pub returns-in-Some-clause-disabled : goal.returns-in-Some-clause-disabled
returns-in-Some-clause-disabled c h =
    let r = c.in-Some.ensures in
    let e = enabled_now (program_view c.args.program.now) c.args.self.now c.args.entry.now _ r r.suits in
    absurd (cc)
