use Rattle.std.proofs.Common.{ap, sym, ◌∙◌, map}
use Rattle.std.specs.Prelude.{slice_get}
use Rattle.cap_prog.specs.Views.{function_view, program_view}
use Rattle.cap_machine_accounts.specs.Assertions.{a_number}
use Rattle.cap_owners_spec.specs.Steps.{begins_at}
use Rattle.cap_owners_places.specs.Views.{proved_of}
use Rattle.cap_owners_values.proofs.Tracing.{traces_same}
use Rattle.cap_owners.specs.Loops.{loop_at}
use Rattle.cap_owners.specs.Tracks.{frame_view}
use Rattle.cap_owners.proofs.Entering.{function-there, loop-past, loop-same}
use Rattle.cap_owners.proofs.moves.looping.Goals as goal

pub returns-in_default-2-clause-begins : goal.returns-in_default-2-clause-begins
returns-in_default-2-clause-begins c = λ ts m f are sees fixed.
    let d = proved_of (program_view c.args.program.now) ts in
    let g = function_view c.in-Some.function.now in
    let there = ap (slice_get d.program.functions) (sym sees.function)
    ∙ function-there c.functions.result.now c.args.program.now.functions c.args.stepping.now.function c.in-Some.function.now c.in-Some.ensures.lookup.3.0 c.in-Some.ensures.lookup.1 c.functions.ensures.functions in
    loop-past d m f c.args.event c.args.fill g there
    (ap (loop_at g) (sym sees.number) ∙ (sym c.in_ok-number.ensures ∙ c.in_default-2.is))

pub returns-clause-begins : goal.returns-clause-begins
returns-clause-begins c = λ ts m f are sees fixed.
    let p = program_view c.args.program.now in
    let d = proved_of p ts in
    let g = function_view c.in-Some.function.now in
    let there = ap (slice_get d.program.functions) (sym sees.function)
    ∙ function-there c.functions.result.now c.args.program.now.functions c.args.stepping.now.function c.in-Some.function.now c.in-Some.ensures.lookup.3.0 c.in-Some.ensures.lookup.1 c.functions.ensures.functions in
    let o = c.in_ok-opening.opening in
    traces_same c.begins.result frame_view _ (begins_at d o.function o.stability o.root c.append.new.self c.args.fixed c.args.fill c.in_ok-since.since.items)
    (loop-same d m f c.args.event c.args.fill g c.in-Some-2.number o.function o.stability o.root c.in_ok-values.values c.append.new.self c.args.fixed c.in_ok-since.since.items
    there
    (ap (loop_at g) (sym sees.number) ∙ (sym c.in_ok-number.ensures ∙ c.in-Some-2.is))
    (c.in_ok-opening.ensures.function ∙ sees.function)
    c.in_ok-opening.ensures.stability
    c.in_ok-opening.ensures.root
    (c.in_ok-values.ensures ∙ ap (map a_number) (c.deref.ensures.value ∙ sees.store))
    c.in_ok-append.ensures.appended
    fixed
    c.in_ok-since.ensures.items)
    (c.begins.ensures.begins p ts are)

pub returns-clause-placed : goal.returns-clause-placed
returns-clause-placed c = c.begins.ensures.placed (program_view c.args.program.now) c.requires.roots.0 c.requires.roots.1
