use Rattle.std.proofs.Common.{◌≡◌, map, length}
use Rattle.cap_parse_tree.specs.Views.{case_view}
use Rattle.cap_parse_laws.specs.Grammar.{read_case}
use Rattle.cap_parse_laws.specs.Readers.{read_until}
use Rattle.cap_parse_laws.specs.declared.class.Class.TheVariants.{CloseBrace}
use Rattle.cap_parse_laws.specs.Laws.Taking.{with_front}
use Rattle.cap_parse.proofs.cursor.Cursor.cases.Given as goal

abbrev pub invariant-loop-self : goal.invariant-loop-self
invariant-loop-self l =
    with_front (map case_view l.cases.items) (read_until CloseBrace (read_case l.room) l.self.rest)
    ≡ read_until CloseBrace (read_case l.room) l.fn.self.rest

abbrev pub decreases-loop-self : goal.decreases-loop-self
decreases-loop-self l = length l.self.rest
