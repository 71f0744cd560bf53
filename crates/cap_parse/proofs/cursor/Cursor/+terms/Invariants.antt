use Rattle.std.proofs.Common.{◌≡◌, map, ◌+◌, ◌*◌, length}
use Rattle.cap_parse_tree.specs.Views.{times_view, addend_view}
use Rattle.cap_parse_laws.specs.Grammar.{read_factor, bracketed_at, read_addend, is_sign}
use Rattle.cap_parse_laws.specs.Readers.{read_more, read_while}
use Rattle.cap_parse_laws.specs.declared.class.Class.TheVariants.{Star}
use Rattle.cap_parse_laws.specs.Laws.Taking.{with_front}
use Rattle.cap_parse.proofs.cursor.Cursor.+terms.Given as goal

abbrev pub decreases-bracketed : goal.decreases-bracketed
decreases-bracketed l = 9 * l.room

abbrev pub decreases-factor : goal.decreases-factor
decreases-factor l = 9 * l.room + 1

abbrev pub decreases-times : goal.decreases-times
decreases-times l = 9 * l.room + 2

abbrev pub decreases-product_from : goal.decreases-product_from
decreases-product_from l = 9 * l.room + 3

abbrev pub decreases-addend : goal.decreases-addend
decreases-addend l = 9 * l.room + 4

abbrev pub decreases-addends : goal.decreases-addends
decreases-addends l = 9 * l.room + 5

abbrev pub decreases-term_from : goal.decreases-term_from
decreases-term_from l = 9 * l.room + 6

abbrev pub decreases-term : goal.decreases-term
decreases-term l = 9 * l.room + 7

abbrev pub decreases-in_parentheses : goal.decreases-in_parentheses
decreases-in_parentheses l = 9 * l.room + 8

abbrev pub invariant-times-loop-self : goal.invariant-times-loop-self
invariant-times-loop-self l =
    with_front (map times_view l.times.items) (read_more Star (read_factor (bracketed_at l.room)) l.self.rest)
    ≡ read_more Star (read_factor (bracketed_at l.room)) l.fn.self.rest

abbrev pub decreases-times-loop-self : goal.decreases-times-loop-self
decreases-times-loop-self l = length l.self.rest

abbrev pub invariant-addends-loop-self : goal.invariant-addends-loop-self
invariant-addends-loop-self l =
    with_front (map addend_view l.addends.items) (read_while is_sign (read_addend (bracketed_at l.room)) l.self.rest)
    ≡ read_while is_sign (read_addend (bracketed_at l.room)) l.fn.self.rest

abbrev pub decreases-addends-loop-self : goal.decreases-addends-loop-self
decreases-addends-loop-self l = length l.self.rest
