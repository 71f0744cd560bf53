use Rattle.std.proofs.Common.{◌≡◌, map, drop}
use Rattle.cap_parse_tree.specs.Spelling.{spell_statements}
use Rattle.cap_parse_tree.specs.Views.{statements_of, statement_view}
use Rattle.cap_parse_print.proofs.tail.Tail.+statements.Given as goal

abbrev pub invariant-statements-loop-i : goal.invariant-statements-loop-i
invariant-statements-loop-i l =
    l.self
    ≡ spell_statements (statements_of (map statement_view (drop l.i l.statements))) l.fn.self
