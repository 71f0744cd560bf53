use Rattle.std.proofs.Common.{◌≡◌, [], map}
use Rattle.cap_parse_tree.specs.Views.{action_view}
use Rattle.cap_resolve_spec.specs.Regions.{action_findings}
use Rattle.cap_resolve_spec.proofs.Nothing.{nothing_flat}
use Rattle.cap_resolve_tables.specs.Tables.{numbered_view}
use Rattle.cap_resolve_functions.proofs.Members.{member_at}
use Rattle.cap_resolve_regions.proofs.types.actions_of.Goals as goal

pub action_of-requires-clause-nothing : goal.action_of-requires-clause-nothing
action_of-requires-clause-nothing c =
    member_at (λ x. action_findings (numbered_view c.args.region) x ≡ []) action_view c.args.actions.now c.loop-action.action-index c.action-item.result c.loop-action-test.true c.action-item.is
    (nothing_flat (action_findings (numbered_view c.args.region)) (map action_view c.args.actions.now) c.requires.nothing)
