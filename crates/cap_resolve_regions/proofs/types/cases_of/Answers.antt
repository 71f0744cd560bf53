use Rattle.std.proofs.Common.{◌≡◌, [], map}
use Rattle.cap_parse_tree.specs.Views.{case_view}
use Rattle.cap_resolve_spec.specs.Regions.{case_findings}
use Rattle.cap_resolve_spec.proofs.Nothing.{nothing_flat}
use Rattle.cap_resolve_tables.specs.Tables.{regions_of, numbered_view}
use Rattle.cap_resolve_functions.proofs.Members.{member_at}
use Rattle.cap_resolve_regions.proofs.types.cases_of.Goals as goal

pub case_of-requires-clause-nothing : goal.case_of-requires-clause-nothing
case_of-requires-clause-nothing c =
    member_at (λ x. case_findings (regions_of c.args.regions.now) (numbered_view c.args.region) x ≡ []) case_view c.args.cases.now c.loop-case.case-index c.case-item.result c.loop-case-test.true c.case-item.is
    (nothing_flat (case_findings (regions_of c.args.regions.now) (numbered_view c.args.region)) (map case_view c.args.cases.now) c.requires.nothing)
