use Rattle.std.proofs.Common.{◌≡◌, ◌++◌, drop, filter_map}
use Rattle.cap_resolve_spec.specs.Parts.{destination}
use Rattle.cap_resolve_parts.specs.Views.{words_view, statements_view}
use Rattle.cap_resolve_scopes.proofs.bodies.destinations_of.Given as goal

abbrev pub invariant-loop-statement : goal.invariant-loop-statement
invariant-loop-statement l =
    words_view l.words.items ++ filter_map destination (statements_view (drop l.statement-index l.statements))
    ≡ filter_map destination (statements_view l.statements)
