use Rattle.std.proofs.Common.{◌≡◌, [], flat_map, sym, subst}
use Rattle.cap_parse_tree.specs.Views.{tree_view}
use Rattle.cap_resolve_spec.specs.Items.{numbered_regions}
use Rattle.cap_resolve_spec.specs.Regions.{region_type_findings}
use Rattle.cap_resolve_program.proofs.Unrefused.{in_regions}
use Rattle.cap_resolve_program.proofs.program.build_by.Goals as goal

pub build_regions-requires : goal.build_regions-requires
build_regions-requires c = subst (λ rs. flat_map (region_type_findings rs) (numbered_regions rs) ≡ []) (sym c.requires.regions) (in_regions (tree_view c.args.tree.now) c.requires.right)
