use Rattle.std.proofs.Common.{[], ◌∙◌}
use Rattle.cap_prog.specs.Views.{region_view}
use Rattle.cap_owners_parts.proofs.Reading.{seen-there}
use Rattle.cap_owners.proofs.account.type_name.Goals as goal

pub returns-in-Some : goal.returns-in-Some
returns-in-Some c =
    c.as_bytes.ensures
    ∙ seen-there region_view (λ t. t.name) c.regions.result.now c.args.program.now.regions c.args.kind c.in-Some.region.now [] c.in-Some.ensures.lookup.3.0 c.in-Some.ensures.lookup.1 c.regions.ensures.regions
