use Rattle.std.proofs.Common.{◌≡◌, map, ◌+◌, ◌*◌, length}
use Rattle.cap_parse_tree.specs.Views.{both_view, either_view}
use Rattle.cap_parse_laws.specs.Grammar.{read_declared, grouped_at, read_joint}
use Rattle.cap_parse_laws.specs.Readers.{read_more}
use Rattle.cap_parse_laws.specs.declared.class.Class.TheVariants.{Star, Plus}
use Rattle.cap_parse_laws.specs.Laws.Taking.{with_front}
use Rattle.cap_parse.proofs.cursor.Cursor.+algebras.Given as goal

abbrev pub decreases-grouped : goal.decreases-grouped
decreases-grouped l = 7 * l.room

abbrev pub decreases-declared : goal.decreases-declared
decreases-declared l = 7 * l.room + 1

abbrev pub decreases-more_declared : goal.decreases-more_declared
decreases-more_declared l = 7 * l.room + 2

abbrev pub decreases-joint : goal.decreases-joint
decreases-joint l = 7 * l.room + 3

abbrev pub decreases-more_joints : goal.decreases-more_joints
decreases-more_joints l = 7 * l.room + 4

abbrev pub decreases-algebra : goal.decreases-algebra
decreases-algebra l = 7 * l.room + 5

abbrev pub decreases-algebra_in_parentheses : goal.decreases-algebra_in_parentheses
decreases-algebra_in_parentheses l = 7 * l.room + 6

abbrev pub invariant-more_declared-loop-self : goal.invariant-more_declared-loop-self
invariant-more_declared-loop-self l =
    with_front (map both_view l.more.items) (read_more Star (read_declared l.room (grouped_at l.room)) l.self.rest)
    ≡ read_more Star (read_declared l.room (grouped_at l.room)) l.fn.self.rest

abbrev pub decreases-more_declared-loop-self : goal.decreases-more_declared-loop-self
decreases-more_declared-loop-self l = length l.self.rest

abbrev pub invariant-more_joints-loop-self : goal.invariant-more_joints-loop-self
invariant-more_joints-loop-self l =
    with_front (map either_view l.more.items) (read_more Plus (read_joint l.room (grouped_at l.room)) l.self.rest)
    ≡ read_more Plus (read_joint l.room (grouped_at l.room)) l.fn.self.rest

abbrev pub decreases-more_joints-loop-self : goal.decreases-more_joints-loop-self
decreases-more_joints-loop-self l = length l.self.rest
