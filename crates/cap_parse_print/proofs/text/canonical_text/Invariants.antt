use Rattle.std.proofs.Common.{◌≡◌, ◌+◌, ◌≤◌, ◌++◌, length}
use Rattle.cap_parse_tree.specs.Canonical.{canonical_from}
use Rattle.cap_parse_print.specs.Pieces.{tokens_of}
use Rattle.cap_parse_print.proofs.text.canonical_text.Given as goal

abbrev pub invariant-loop-left : goal.invariant-loop-left
invariant-loop-left l = record {
  written :
      l.text.items ++ canonical_from l.parentheses (tokens_of l.left)
      ≡ canonical_from 0 (tokens_of l.pieces);
  few : l.parentheses + length l.left ≤ length l.pieces;
}

abbrev pub decreases-loop-left : goal.decreases-loop-left
decreases-loop-left l = length l.left
