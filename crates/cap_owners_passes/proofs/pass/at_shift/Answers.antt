use Rattle.std.proofs.Common.{sym, ◌∙◌}
use Rattle.cap_prog.specs.Views.{program_view}
use Rattle.cap_owners_passes.proofs.Closed.{shift-goes}
use Rattle.cap_owners_passes.proofs.pass.at_shift.Goals as goal

pub returns-in-Some : goal.returns-in-Some
returns-in-Some c = λ enter move n ts.
    let a = c.args in
    let k = c.in-Shift in
    let f = sym c.end_taking.ensures.taken ∙ c.in-Some.is in
    rw (k.is, shift-goes enter (program_view a.program.now) a.state.now k.field-0.items k.field-1.items a.opened a.case move a.env n ts a.walk.now c.end_taking.new.self c.in-Some.top f c.end_taking.ensures.rest) c.pass_shift.ensures
