use Rattle.std.proofs.Common.{◌<◌, ◌^◌, ◌∙◌, length, ap, sym, subst}
use Rattle.std.specs.List.{AllByRecursion}
use Rattle.cap_parse_tree.specs.Views.{tree_view}
use Rattle.cap_resolve_spec.proofs.Short.{few-regions, few-guards, few-functions}
use Rattle.cap_resolve_parts.specs.Views.{regions_view, functions_view}
use Rattle.cap_resolve_tables.specs.Entries.{HasFewGuards}
use Rattle.cap_resolve_text.proofs.trees.note_declarations.Goals as goal

pub note_text-requires-clause-regions : goal.note_text-requires-clause-regions
note_text-requires-clause-regions c = subst (λ rs. length rs < 2 ^ 32) (sym (ap regions_view c.as_slice.ensures.value ∙ c.in_ok-regions.ensures)) (few-regions (tree_view c.args.tree.now) c.requires)

pub note_text-requires-clause-guards : goal.note_text-requires-clause-guards
note_text-requires-clause-guards c = subst (AllByRecursion HasFewGuards) (sym (ap regions_view c.as_slice.ensures.value ∙ c.in_ok-regions.ensures)) (few-guards (tree_view c.args.tree.now) c.requires)

pub note_text-requires-clause-functions : goal.note_text-requires-clause-functions
note_text-requires-clause-functions c = subst (λ fs. length fs < 2 ^ 32) (sym (ap functions_view c.as_slice-2.ensures.value ∙ c.in_ok-functions.ensures)) (few-functions (tree_view c.args.tree.now) c.requires)
