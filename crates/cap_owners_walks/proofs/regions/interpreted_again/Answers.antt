use Rattle.cap_prog.specs.Views.{program_view}
use Rattle.cap_owners_places.specs.Views.{place_view, proved_of}
use Rattle.cap_owners_walks.specs.Views.{interpreted_view}
use Rattle.cap_owners_walks.proofs.Walking.{again-found, again-none}
use Rattle.cap_owners_walks.proofs.regions.interpreted_again.Goals as goal

pub returns-in-None : goal.returns-in-None
returns-in-None c = λ ts are. again-none (proved_of (program_view c.args.program.now) ts) c.args.regions.now c.args.region.now _ c.region.view_is (c.in-None.ensures _ ts are)

pub returns-in-Some : goal.returns-in-Some
returns-in-Some c = λ ts are.
    let h = c.in-Some.ensures (program_view c.args.program.now) ts are in
    again-found (proved_of (program_view c.args.program.now) ts) c.args.regions.now c.args.region.now _ (place_view c.in-Some.place.now) c.case_walked.result interpreted_view c.region.view_is h.0 (c.case_walked.ensures h.1)
