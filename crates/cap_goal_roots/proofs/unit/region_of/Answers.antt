use Rattle.std.proofs.Common.{◌<◌, length, slice_index_or, ap, ◌∙◌, arith}
use Rattle.std.proofs.lemmas.List.{length-map}
use Rattle.cap_prog.specs.Views.{region_view, program_view}
use Rattle.cap_prog.specs.WellFormed.{RegionFits}
use Rattle.cap_goal_roots.proofs.Walks.{get_mapped, each_at}
use Rattle.cap_goal_roots.proofs.unit.region_of.Goals as goal

pub returns-clause-found : goal.returns-clause-found
returns-clause-found c =
    let xs = c.args.program.now.regions in
    let h : c.args.number < length xs = omega (arith, length-map xs region_view) in
    get_mapped region_view xs c.args.number c.index-regions-number.result h (c.index-regions-number.is ∙ ap (λ l. slice_index_or l c.args.number c.index-regions-number.result) c.regions.ensures.regions)

pub returns-clause-fits : goal.returns-clause-fits
returns-clause-fits c =
    let xs = c.args.program.now.regions in
    let h : c.args.number < length xs = omega (arith, length-map xs region_view) in
    each_at (RegionFits (program_view c.args.program.now)) region_view xs c.args.number c.index-regions-number.result h (c.index-regions-number.is ∙ ap (λ l. slice_index_or l c.args.number c.index-regions-number.result) c.regions.ensures.regions) c.regions.ensures.well_formed.regions
