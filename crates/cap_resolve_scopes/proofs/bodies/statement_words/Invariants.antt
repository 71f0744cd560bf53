use Rattle.std.proofs.Common.{◌≡◌, ◌++◌, drop, flat_map}
use Rattle.cap_resolve_spec.specs.Functions.{statement_words}
use Rattle.cap_resolve_parts.specs.Views.{words_view, statements_view}
use Rattle.cap_resolve_scopes.proofs.bodies.statement_words.Given as goal

abbrev pub invariant-loop-statement : goal.invariant-loop-statement
invariant-loop-statement l =
    words_view l.words.items ++ flat_map statement_words (statements_view (drop l.statement-index l.statements))
    ≡ flat_map statement_words (statements_view l.statements)
