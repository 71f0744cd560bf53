use Rattle.std.proofs.Common.{◌∙◌}
use Rattle.cap_prog.specs.Views.{program_view}
use Rattle.cap_gen_schedules.proofs.Turns.{turn-steps, chosen-at, some-there}
use Rattle.cap_gen_schedules.proofs.drawing.take_turn.Goals as goal

pub returns-in-Some-clause-turns : goal.returns-in-Some-clause-turns
returns-in-Some-clause-turns c =
    let e = c.list_alive.new.threads.ok in
    let l = some-there _ _ c.is_empty.result c.is_empty.ensures c.if-is_empty.false e.0 in
    turn-steps (program_view c.args.program.now) c.args.machine.now c.make_step.new.machine
    c.args.words.now c.next_word-word.new.words c.args.entries.now.items
    c.make_step.new.entries.items c.list_alive.new.threads.items c.index-thread.result.now
    c.in-Some.entry c.make_step.result c.in_ok-list_alive.ensures l
    (chosen-at c.list_alive.new.threads.items c.next_word-word.result _ c.len.result
    c.index-thread.result.now l (c.len.ensures ∙ e.0) c.index-thread.ensures
    c.next_word-word.ensures.word)
    c.next_word-word.ensures.after c.in-Some.ensures c.make_step.ensures.takes
