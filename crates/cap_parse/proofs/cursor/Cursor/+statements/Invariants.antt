use Rattle.std.proofs.Common.{◌≡◌, map, ◌+◌, ◌*◌, length}
use Rattle.cap_parse_tree.specs.Views.{statement_view}
use Rattle.cap_parse_laws.specs.Grammar.{read_statement, block_at}
use Rattle.cap_parse_laws.specs.Readers.{read_until}
use Rattle.cap_parse_laws.specs.declared.class.Class.TheVariants.{CloseBrace}
use Rattle.cap_parse_laws.specs.Laws.Taking.{with_front}
use Rattle.cap_parse.proofs.cursor.Cursor.+statements.Given as goal

abbrev pub decreases-block : goal.decreases-block
decreases-block l = 8 * l.room

abbrev pub decreases-otherwise : goal.decreases-otherwise
decreases-otherwise l = 8 * l.room + 1

abbrev pub decreases-optional_else : goal.decreases-optional_else
decreases-optional_else l = 8 * l.room + 2

abbrev pub decreases-branch : goal.decreases-branch
decreases-branch l = 8 * l.room + 3

abbrev pub decreases-repetition : goal.decreases-repetition
decreases-repetition l = 8 * l.room + 4

abbrev pub decreases-statement : goal.decreases-statement
decreases-statement l = 8 * l.room + 5

abbrev pub decreases-statements : goal.decreases-statements
decreases-statements l = 8 * l.room + 6

abbrev pub decreases-statements_in_braces : goal.decreases-statements_in_braces
decreases-statements_in_braces l = 8 * l.room + 7

abbrev pub invariant-statements-loop-self : goal.invariant-statements-loop-self
invariant-statements-loop-self l =
    with_front (map statement_view l.statements.items) (read_until CloseBrace (read_statement (block_at l.room) l.room) l.self.rest)
    ≡ read_until CloseBrace (read_statement (block_at l.room) l.room) l.fn.self.rest

abbrev pub decreases-statements-loop-self : goal.decreases-statements-loop-self
decreases-statements-loop-self l = length l.self.rest
