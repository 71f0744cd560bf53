use Rattle.std.proofs.Common.{◌≡◌, map, drop}
use Rattle.cap_parse_tree.specs.Spelling.{spell_all}
use Rattle.cap_parse_print.proofs.tail.Tail.all.Given as goal

abbrev pub invariant-loop-i : goal.invariant-loop-i
invariant-loop-i g l =
    l.self ≡ spell_all g.T.Part.spell (map g.T.Part.view (drop l.i l.parts)) l.fn.self
