use Rattle.std.proofs.Common.{◌≡◌, ◌++◌, drop}
use Rattle.cap_resolve_tables.specs.Views.{occurrences_view, argument_occurrences}
use Rattle.cap_resolve_tables.proofs.atoms.push_arguments.Given as goal

abbrev pub invariant-loop-argument : goal.invariant-loop-argument
invariant-loop-argument l =
    occurrences_view l.list.items ++ argument_occurrences l.inside (drop l.argument-index l.argument-items)
    ≡ occurrences_view l.fn.list.items ++ argument_occurrences l.inside l.arguments.items
