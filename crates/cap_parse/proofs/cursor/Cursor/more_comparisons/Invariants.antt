use Rattle.std.proofs.Common.{◌≡◌, map, length}
use Rattle.cap_parse_tree.specs.Views.{behind_view, comparison_view}
use Rattle.cap_parse_laws.specs.Grammar.{read_comparison}
use Rattle.cap_parse_laws.specs.Readers.{read_more}
use Rattle.cap_parse_laws.specs.declared.class.Class.TheVariants.{Comma}
use Rattle.cap_parse_laws.specs.Laws.Taking.{with_front}
use Rattle.cap_parse.proofs.cursor.Cursor.more_comparisons.Given as goal

abbrev pub invariant-loop-self : goal.invariant-loop-self
invariant-loop-self l =
    with_front (map (behind_view comparison_view) l.more.items) (read_more Comma (read_comparison l.room) l.self.rest)
    ≡ read_more Comma (read_comparison l.room) l.fn.self.rest

abbrev pub decreases-loop-self : goal.decreases-loop-self
decreases-loop-self l = length l.self.rest
