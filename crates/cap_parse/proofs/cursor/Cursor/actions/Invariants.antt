use Rattle.std.proofs.Common.{◌≡◌, map, length}
use Rattle.cap_parse_tree.specs.Views.{action_view}
use Rattle.cap_parse_laws.specs.Grammar.{read_action}
use Rattle.cap_parse_laws.specs.Readers.{read_until}
use Rattle.cap_parse_laws.specs.declared.class.Class.TheVariants.{CloseBrace}
use Rattle.cap_parse_laws.specs.Laws.Taking.{with_front}
use Rattle.cap_parse.proofs.cursor.Cursor.actions.Given as goal

abbrev pub invariant-loop-self : goal.invariant-loop-self
invariant-loop-self l =
    with_front (map action_view l.actions.items) (read_until CloseBrace (read_action l.room) l.self.rest)
    ≡ read_until CloseBrace (read_action l.room) l.fn.self.rest

abbrev pub decreases-loop-self : goal.decreases-loop-self
decreases-loop-self l = length l.self.rest
