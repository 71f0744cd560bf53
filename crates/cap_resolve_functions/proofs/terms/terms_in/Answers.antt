use Rattle.cap_parse_tree.specs.Views.{term_view}
use Rattle.cap_resolve_functions.specs.Narrow.{IsNarrow}
use Rattle.cap_resolve_functions.proofs.Members.{behind_in}
use Rattle.cap_resolve_functions.proofs.terms.terms_in.Goals as goal

pub build_term-requires-in-loop-part : goal.build_term-requires-in-loop-part
build_term-requires-in-loop-part c = behind_in (IsNarrow c.args.scope.now) term_view c.args.list.now.more.items c.deref-part-items.result.now c.loop-part.part-index c.part-item.result c.deref-part-items.ensures.value c.loop-part-test.true c.part-item.is c.requires.1
