use Rattle.std.proofs.Common.{sym, add-one}
use Rattle.cap_prog.specs.Views.{program_view}
use Rattle.cap_replay.proofs.RunLemmas.{fault_ends, step_goes, stops_disabled}
use Rattle.cap_replay.proofs.playing.advance.Goals as goal

pub returns-then-is_fault-clause-advances : goal.returns-then-is_fault-clause-advances
returns-then-is_fault-clause-advances c =
    fault_ends (program_view c.args.program.now) c.args.count _ c.args.entry.now c.args.machine.now c.step.new.self c.args.text.now.items c.push_step.new.text.items _ c.in-Ok.event (add-one c.args.count) c.in-Ok.ensures.steps c.ahead-ahead.ensures.ahead c.in_ok-push_step-in-Ok.ensures (sym c.if-is_fault.ensures)

pub returns-else-is_fault-clause-advances : goal.returns-else-is_fault-clause-advances
returns-else-is_fault-clause-advances c =
    step_goes (program_view c.args.program.now) c.args.count _ c.args.entry.now c.args.machine.now c.step.new.self c.args.text.now.items c.push_step.new.text.items _ c.in-Ok.event (add-one c.args.count) c.in-Ok.ensures.steps c.ahead-ahead.ensures.ahead c.in_ok-push_step-in-Ok.ensures (sym c.if-is_fault.ensures)

pub returns-in-Err-NotEnabled-clause-advances : goal.returns-in-Err-NotEnabled-clause-advances
returns-in-Err-NotEnabled-clause-advances c =
    stops_disabled (program_view c.args.program.now) c.args.count _ c.args.entry.now c.args.machine.now c.step.new.self c.args.text.now.items c.in-Err-NotEnabled.field-0 (add-one c.args.count) c.in-Err-NotEnabled.field-0-is c.requires.runs c.in-Err-NotEnabled.ensures.steps
