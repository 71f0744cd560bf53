use Rattle.cap_parse_tree.specs.Views.{comparison_view}
use Rattle.cap_resolve_functions.specs.Narrow.{IsNarrowComparison}
use Rattle.cap_resolve_functions.proofs.Members.{behind_in}
use Rattle.cap_resolve_functions.proofs.comparisons.comparisons_in.Goals as goal

pub build_comparison-requires-in-loop-part : goal.build_comparison-requires-in-loop-part
build_comparison-requires-in-loop-part c = behind_in (IsNarrowComparison c.args.scope.now) comparison_view c.args.list.now.more.items c.deref-part-items.result.now c.loop-part.part-index c.part-item.result c.deref-part-items.ensures.value c.loop-part-test.true c.part-item.is c.requires.1
