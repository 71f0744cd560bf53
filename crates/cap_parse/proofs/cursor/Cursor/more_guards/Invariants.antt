use Rattle.std.proofs.Common.{◌≡◌, map, length}
use Rattle.cap_parse_tree.specs.Views.{behind_view, guard_view}
use Rattle.cap_parse_laws.specs.Grammar.{read_guard}
use Rattle.cap_parse_laws.specs.Readers.{read_more}
use Rattle.cap_parse_laws.specs.declared.class.Class.TheVariants.{Star}
use Rattle.cap_parse_laws.specs.Laws.Taking.{with_front}
use Rattle.cap_parse.proofs.cursor.Cursor.more_guards.Given as goal

abbrev pub invariant-loop-self : goal.invariant-loop-self
invariant-loop-self l =
    with_front (map (behind_view guard_view) l.more.items) (read_more Star (read_guard l.room) l.self.rest)
    ≡ read_more Star (read_guard l.room) l.fn.self.rest

abbrev pub decreases-loop-self : goal.decreases-loop-self
decreases-loop-self l = length l.self.rest
