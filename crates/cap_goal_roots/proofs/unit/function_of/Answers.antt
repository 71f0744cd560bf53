use Rattle.std.proofs.Common.{◌<◌, length, slice_index_or, ap, ◌∙◌, arith}
use Rattle.std.proofs.lemmas.List.{length-map}
use Rattle.cap_prog.specs.Views.{function_view, program_view}
use Rattle.cap_prog.specs.WellFormed.{FunctionFits}
use Rattle.cap_goal_roots.proofs.Walks.{get_mapped, each_at}
use Rattle.cap_goal_roots.proofs.unit.function_of.Goals as goal

pub returns-clause-found : goal.returns-clause-found
returns-clause-found c =
    let xs = c.args.program.now.functions in
    let h : c.args.number < length xs = omega (arith, length-map xs function_view) in
    get_mapped function_view xs c.args.number c.index-functions-number.result h (c.index-functions-number.is ∙ ap (λ l. slice_index_or l c.args.number c.index-functions-number.result) c.functions.ensures.functions)

pub returns-clause-fits : goal.returns-clause-fits
returns-clause-fits c =
    let xs = c.args.program.now.functions in
    let h : c.args.number < length xs = omega (arith, length-map xs function_view) in
    each_at (FunctionFits (program_view c.args.program.now)) function_view xs c.args.number c.index-functions-number.result h (c.index-functions-number.is ∙ ap (λ l. slice_index_or l c.args.number c.index-functions-number.result) c.functions.ensures.functions) c.functions.ensures.well_formed.functions
