use Rattle.std.proofs.Common.{refl}
use Rattle.cap_prog.specs.Views.{program_view}
use Rattle.cap_gen_schedules.proofs.Schedules.{draws-first, draws-on, draws-fault, draws-end}
use Rattle.cap_gen_schedules.proofs.Schedules.{draws-all}
use Rattle.cap_gen_schedules.proofs.drawing.draw.Goals as goal

pub loop-init : goal.loop-init
loop-init c =
    draws-first (program_view c.args.program.now) _ c.in_ok-machine.machine c.args.words.now
    c.new-entries.result.items c.in_ok-machine.ensures.begins refl c.in_ok-machine.ensures.fits
    c.in_ok-machine.ensures.runs c.new-entries.ensures.items

pub returns-in-Faults : goal.returns-in-Faults
returns-in-Faults c =
    draws-fault (program_view c.args.program.now) _ c.loop.machine c.take_turn.new.machine
    c.loop.words c.take_turn.new.words c.loop.entries.items c.take_turn.new.entries.items
    c.loop.counter c.in_ok-take_turn.field-0 c.loop.invariant c.loop-test.true
    c.in_ok-take_turn.ensures.turns c.in-Faults.is

pub returns-in-Ends : goal.returns-in-Ends
returns-in-Ends c =
    draws-end (program_view c.args.program.now) _ c.loop.machine c.take_turn.new.machine
    c.loop.words c.take_turn.new.words c.loop.entries.items c.take_turn.new.entries.items
    c.loop.counter c.in_ok-take_turn.field-0 c.loop.invariant c.loop-test.true
    c.in_ok-take_turn.ensures.turns c.in-Ends.is

pub loop-preserved : goal.loop-preserved
loop-preserved c =
    draws-on (program_view c.args.program.now) _ c.loop.machine c.take_turn.new.machine
    c.loop.words c.take_turn.new.words c.loop.entries.items c.take_turn.new.entries.items
    c.loop.counter c.in_ok-take_turn.field-0 c.loop.invariant c.loop-test.true
    c.in_ok-take_turn.ensures.turns c.in-GoesOn.is c.in_ok-take_turn.ensures.continues
    c.in_ok-take_turn.ensures.fits c.in_ok-take_turn.ensures.threads

pub returns : goal.returns
returns c =
    draws-all (program_view c.args.program.now) _ c.loop.machine c.loop.words c.loop.entries.items
    c.loop.counter c.loop.invariant c.loop-test.false
