use Rattle.std.proofs.Common.{sym}
use Rattle.cap_prog.specs.Views.{program_view, statement_view}
use Rattle.cap_machine.specs.Changes.{tail_of}
use Rattle.cap_machine.specs.View.{frame_view}
use Rattle.cap_machine.proofs.ReadyLemmas.{stopped_disabled, stop_is, is_ready, base_disabled, suits_act, suits_not}
use Rattle.cap_machine.proofs.machine.Machine.ready.Goals as goal

pub returns-then-self : goal.returns-then-self
returns-then-self c = stopped_disabled (program_view c.args.program.now) c.args.self.now c.args.entry.now (stop_is c.args.self.now _ c.if-self.true)

pub returns-then-suits : goal.returns-then-suits
returns-then-suits c =
    let p = program_view c.args.program.now in
    let f = frame_view p c.in_ok-frame.frame.now in
    is_ready p c.args.self.now c.args.entry.now (statement_view c.in_ok-statement.statement.now) f (tail_of f.rest) c.in_ok-statement.ensures.well_formed c.requires (stop_is c.args.self.now _ c.if-self.false) (sym (c.in_ok-frame.ensures.shows p)) c.in_ok-statement.ensures.next (suits_act p c.args.self.now c.in_ok-statement.statement.now c.args.entry.now.base (c.suits.ensures.0 c.if-suits.true))

pub returns-else-suits : goal.returns-else-suits
returns-else-suits c =
    let p = program_view c.args.program.now in
    let f = frame_view p c.in_ok-frame.frame.now in
    base_disabled p c.args.self.now c.args.entry.now (statement_view c.in_ok-statement.statement.now) f (tail_of f.rest) c.in_ok-statement.ensures.well_formed c.requires (sym (c.in_ok-frame.ensures.shows p)) c.in_ok-statement.ensures.next (suits_not p c.args.self.now c.in_ok-statement.statement.now c.args.entry.now.base (λ h. let t = c.suits.ensures.1 h in absurd (cc)))
