use Rattle.std.proofs.Common.{◌≡◌, ◌++◌, drop, map}
use Rattle.cap_parse_tree.specs.Views.{block_view, statement_view, statements_of}
use Rattle.cap_resolve_spec.specs.Parts.{block_parts, statements_parts}
use Rattle.cap_resolve_parts.specs.Views.{statements_view}
use Rattle.cap_resolve_parts.proofs.statements.+statements.Given as goal

abbrev pub invariant-push_block-loop-statement : goal.invariant-push_block-loop-statement
invariant-push_block-loop-statement l =
    statements_view l.list.items ++ statements_parts (statements_of (map statement_view (drop l.statement-index l.statement-items)))
    ≡ statements_view l.fn.list.items ++ block_parts (block_view l.block)
