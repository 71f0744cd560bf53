use Rattle.std.proofs.Common.{◌≡◌, map, ◌+◌, ◌*◌, length}
use Rattle.cap_parse_tree.specs.Views.{and_view}
use Rattle.cap_parse_laws.specs.Grammar.{read_item, side_at}
use Rattle.cap_parse_laws.specs.Readers.{read_more}
use Rattle.cap_parse_laws.specs.declared.class.Class.TheVariants.{And}
use Rattle.cap_parse_laws.specs.Laws.Taking.{with_front}
use Rattle.cap_parse.proofs.cursor.Cursor.+items.Given as goal

abbrev pub decreases-side : goal.decreases-side
decreases-side l = 10 * l.room

abbrev pub decreases-sides : goal.decreases-sides
decreases-sides l = 10 * l.room + 1

abbrev pub decreases-choose : goal.decreases-choose
decreases-choose l = 10 * l.room + 2

abbrev pub decreases-choice : goal.decreases-choice
decreases-choice l = 10 * l.room + 3

abbrev pub decreases-item_from : goal.decreases-item_from
decreases-item_from l = 10 * l.room + 4

abbrev pub decreases-named_item : goal.decreases-named_item
decreases-named_item l = 10 * l.room + 5

abbrev pub decreases-item : goal.decreases-item
decreases-item l = 10 * l.room + 6

abbrev pub decreases-more_items : goal.decreases-more_items
decreases-more_items l = 10 * l.room + 7

abbrev pub decreases-assertion : goal.decreases-assertion
decreases-assertion l = 10 * l.room + 8

abbrev pub decreases-in_braces : goal.decreases-in_braces
decreases-in_braces l = 10 * l.room + 9

abbrev pub invariant-more_items-loop-self : goal.invariant-more_items-loop-self
invariant-more_items-loop-self l =
    with_front (map and_view l.more.items) (read_more And (read_item (side_at l.room) l.room) l.self.rest)
    ≡ read_more And (read_item (side_at l.room) l.room) l.fn.self.rest

abbrev pub decreases-more_items-loop-self : goal.decreases-more_items-loop-self
decreases-more_items-loop-self l = length l.self.rest
