use Rattle.std.proofs.Common.{◌<◌, ◌^◌, ◌∙◌, length, ap, sym, subst}
use Rattle.std.specs.List.{AllByRecursion}
use Rattle.cap_parse_tree.specs.Views.{tree_view}
use Rattle.cap_resolve_spec.proofs.Short.{few-regions, few-guards}
use Rattle.cap_resolve_parts.specs.Views.{regions_view}
use Rattle.cap_resolve_tables.specs.Entries.{HasFewGuards}
use Rattle.cap_resolve_program.proofs.tables.regions_of_tree.Goals as goal

pub region_table-requires-clause-few : goal.region_table-requires-clause-few
region_table-requires-clause-few c = subst (λ rs. length rs < 2 ^ 32) (sym (ap regions_view c.as_slice.ensures.value ∙ c.in_ok-found.ensures)) (few-regions (tree_view c.args.tree.now) c.requires)

pub region_table-requires-clause-guards : goal.region_table-requires-clause-guards
region_table-requires-clause-guards c = subst (AllByRecursion HasFewGuards) (sym (ap regions_view c.as_slice.ensures.value ∙ c.in_ok-found.ensures)) (few-guards (tree_view c.args.tree.now) c.requires)
