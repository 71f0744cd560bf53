use Rattle.std.proofs.Common.{◌≡◌, map, drop}
use Rattle.cap_parse_tree.specs.Spelling.{spell_more}
use Rattle.cap_parse_tree.specs.Views.{behind_view}
use Rattle.cap_parse_print.proofs.tail.Tail.more.Given as goal

abbrev pub invariant-loop-i : goal.invariant-loop-i
invariant-loop-i g l =
    l.self
    ≡ spell_more l.separator g.T.Part.spell (map (behind_view g.T.Part.view) (drop l.i l.more)) l.fn.self
