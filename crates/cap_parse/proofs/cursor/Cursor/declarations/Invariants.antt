use Rattle.std.proofs.Common.{◌≡◌, map, length}
use Rattle.cap_parse_tree.specs.Views.{declaration_view}
use Rattle.cap_parse_laws.specs.Grammar.{read_declaration}
use Rattle.cap_parse_laws.specs.Readers.{read_until}
use Rattle.cap_parse_laws.specs.declared.class.Class.TheVariants.{End}
use Rattle.cap_parse_laws.specs.Laws.Taking.{with_front}
use Rattle.cap_parse.proofs.cursor.Cursor.declarations.Given as goal

abbrev pub invariant-loop-self : goal.invariant-loop-self
invariant-loop-self l =
    with_front (map declaration_view l.declarations.items) (read_until End (read_declaration l.room) l.self.rest)
    ≡ read_until End (read_declaration l.room) l.fn.self.rest

abbrev pub decreases-loop-self : goal.decreases-loop-self
decreases-loop-self l = length l.self.rest
