use Rattle.std.proofs.Common.{ap, sym, ◌∙◌}
use Rattle.std.specs.Prelude.{slice_get}
use Rattle.cap_prog.specs.Views.{function_view, program_view}
use Rattle.cap_machine.specs.View.{frame_view as machine_frame}
use Rattle.cap_owners_spec.specs.Steps.{callee_of}
use Rattle.cap_owners_places.specs.Views.{proved_of}
use Rattle.cap_owners_values.proofs.Tracing.{traces_same}
use Rattle.cap_owners.specs.Standing.{entered}
use Rattle.cap_owners.specs.Tracks.{frame_view, lent_frame}
use Rattle.cap_owners.proofs.Entering.{callee-found, callee-none, function-past, function-there}
use Rattle.cap_owners.proofs.moves.callee.Goals as goal

pub returns-in-None-clause-begins : goal.returns-in-None-clause-begins
returns-in-None-clause-begins c = λ ts are.
    let p = program_view c.args.program.now in
    let d = proved_of p ts in
    let m = machine_frame p c.in-Some.frame.now in
    ap (λ o. callee_of d (lent_frame p o) c.args.fill) c.in-Some.is
    ∙ callee-none d m c.args.fill
    (ap (λ n. slice_get d.program.functions n) (sym (c.function.ensures p))
    ∙ function-past c.functions.result.now c.args.program.now.functions c.function.result c.in-None.ensures.lookup.3 c.functions.ensures.functions)

pub returns-in-Some-get-clause-begins : goal.returns-in-Some-get-clause-begins
returns-in-Some-get-clause-begins c = λ ts are.
    let p = program_view c.args.program.now in
    let d = proved_of p ts in
    let m = machine_frame p c.in-Some.frame.now in
    let f = function_view c.in-Some-get.function.now in
    let there = ap (λ n. slice_get d.program.functions n) (sym (c.function.ensures p))
    ∙ function-there c.functions.result.now c.args.program.now.functions c.function.result c.in-Some-get.function.now c.in-Some-get.ensures.lookup.3.0 c.in-Some-get.ensures.lookup.1 c.functions.ensures.functions in
    traces_same c.enters.result frame_view _ (entered d c.function-in-Some-get.result f c.arguments.result.now c.args.fill)
    (ap (λ o. callee_of d (lent_frame p o) c.args.fill) c.in-Some.is
    ∙ (callee-found d m c.args.fill f there
    ∙ (ap (λ n. entered d n f m.arguments c.args.fill) (sym (c.function-in-Some-get.ensures p))
    ∙ ap (λ zs. entered d c.function-in-Some-get.result f zs c.args.fill) (sym (c.arguments.ensures p)))))
    (c.enters.ensures.begins p ts are)

pub returns-in-Some-get-clause-placed : goal.returns-in-Some-get-clause-placed
returns-in-Some-get-clause-placed c = c.enters.ensures.placed (program_view c.args.program.now) c.requires.roots.0 c.requires.roots.1
