use Rattle.std.proofs.Common.{ap, sym, ◌∙◌}
use Rattle.std.specs.Prelude.{option_map, slice_get}
use Rattle.std.specs.FinMap.{from_entries}
use Rattle.cap_prog.specs.Views.{function_view, program_view}
use Rattle.cap_owners_places.specs.Views.{proved_of}
use Rattle.cap_owners_values.proofs.Tracing.{traces_same}
use Rattle.cap_owners.specs.Starting.{begun_in}
use Rattle.cap_owners.specs.Tracks.{track_view}
use Rattle.cap_owners.proofs.Entering.{first-found, function-there}
use Rattle.cap_owners.proofs.start.first_track.Goals as goal

pub returns-in-Some-clause-starts : goal.returns-in-Some-clause-starts
returns-in-Some-clause-starts c = λ ts are.
    let p = program_view c.args.program.now in
    let d = proved_of p ts in
    let f = function_view c.in-Some.function.now in
    let heap = from_entries c.args.heap.now in
    let there = ap (slice_get p.functions) (sym c.main-main.ensures.main)
    ∙ function-there c.functions.result.now c.args.program.now.functions c.main-main.result c.in-Some.function.now c.in-Some.ensures.lookup.3.0 c.in-Some.ensures.lookup.1 c.functions.ensures.functions in
    traces_same c.begin.result (option_map track_view) _ (begun_in d c.main-main.result f c.args.args.now heap)
    (first-found d c.args.args.now heap f there ∙ ap (λ n. begun_in d n f c.args.args.now heap) (sym c.main-main.ensures.main))
    (c.begin.ensures.begins p ts are)

pub returns-in-Some-clause-placed : goal.returns-in-Some-clause-placed
returns-in-Some-clause-placed c = c.begin.ensures.placed (program_view c.args.program.now) c.requires.roots.0 c.requires.roots.1
