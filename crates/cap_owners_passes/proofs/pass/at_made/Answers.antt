use Rattle.std.proofs.Common.{sym, ◌∙◌}
use Rattle.cap_prog.specs.Views.{program_view}
use Rattle.cap_owners_passes.proofs.Closed.{made-goes}
use Rattle.cap_owners_passes.proofs.pass.at_made.Goals as goal

pub returns-in-Some : goal.returns-in-Some
returns-in-Some c = λ enter n ts.
    let a = c.args in
    let m = a.made.now in
    let k = c.in-Made in
    let f = sym c.end_taking.ensures.taken ∙ c.in-Some.is in
    rw (k.is, made-goes enter (program_view a.program.now) a.state.now k.field-0.items m.kind m.case m.env m.term.now n ts a.walk.now c.end_taking.new.self c.in-Some.top f c.end_taking.ensures.rest) c.pass_made.ensures
