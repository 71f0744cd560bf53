use Rattle.std.proofs.Common.{◌∙◌, ap, sym}
use Rattle.std.specs.Prelude.{Some}
use Rattle.cap_prog.specs.Views.{program_view}
use Rattle.cap_gen_schedules.proofs.Schedules.{left-on, left-found, left-none, drawn-fault}
use Rattle.cap_gen_schedules.proofs.Schedules.{drawn-none}
use Rattle.cap_gen_schedules.proofs.drawing.stray.Goals as goal

pub returns-in-Some : goal.returns-in-Some
returns-in-Some c = (
  left-found (program_view c.args.program.now) c.args.count c.loop.counter _ c.loop.words
      c.in-Some.entries.items c.loop.invariant c.loop-test.true
      (drawn-fault c.in_ok-entries.field-0 c.in-Some.entries _ c.draw.new.words
      c.in_ok-entries.ensures c.in-Some.is)
      ∙ ap Some (sym c.schedule_of.ensures.entries),
  c.schedule_of.ensures.args,
  c.schedule_of.ensures.heap,
)

pub loop-preserved : goal.loop-preserved
loop-preserved c =
    left-on (program_view c.args.program.now) c.args.count c.loop.counter _ c.loop.words
    c.draw.new.words c.loop.invariant c.loop-test.true
    (drawn-none c.in_ok-entries.field-0 _ c.draw.new.words c.in_ok-entries.ensures
    c.in_default.is)

pub returns : goal.returns
returns c =
    left-none (program_view c.args.program.now) c.args.count c.loop.counter _ c.loop.words
    c.loop.invariant c.loop-test.false
