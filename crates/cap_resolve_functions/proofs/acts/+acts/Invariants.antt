use Rattle.std.proofs.Common.{◌≡◌, ◌+◌, drop, length}
use Rattle.cap_prog.specs.Program.{append}
use Rattle.cap_prog.specs.Views as seen
use Rattle.cap_parse_tree.specs.Views.{block_view}
use Rattle.cap_resolve_spec.specs.Parts.{statements_parts, block_parts}
use Rattle.cap_resolve_spec.specs.Program.{statements_program, block_program}
use Rattle.cap_resolve_functions.specs.Bodies.{context_seen}
use Rattle.cap_resolve_functions.proofs.Rests.{statements_view}
use Rattle.cap_resolve_functions.proofs.acts.+acts.Given as goal

abbrev pub invariant-build_block-loop-statement : goal.invariant-build_block-loop-statement
invariant-build_block-loop-statement l = record {
  built : append (seen.block_view l.made.items) (statements_program (context_seen l.body) l.next (statements_view (drop l.statement-index l.statement-items)))
      ≡ block_program (context_seen l.body) l.fn.next (block_view l.block);
  counted : l.next + length (statements_parts (statements_view (drop l.statement-index l.statement-items)))
      ≡ l.fn.next + length (block_parts (block_view l.block));
}
