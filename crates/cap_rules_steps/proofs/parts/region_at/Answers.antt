use Rattle.std.proofs.Common.{arith, ◌≤◌, length}
use Rattle.cap_prog.specs.Views.{region_view}
use Rattle.cap_rules_steps.proofs.Listing.{none_there}
use Rattle.cap_rules_steps.proofs.parts.region_at.Goals as goal

pub returns-then-number-regions : goal.returns-then-number-regions
returns-then-number-regions c =
    let h : length c.args.program.now.regions ≤ c.args.number = rw (← c.regions.ensures.regions) (omega arith) in
    none_there region_view c.args.program.now.regions c.args.number h
