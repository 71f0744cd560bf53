use Rattle.std.proofs.Common.{◌≡◌, ◌++◌, drop, map}
use Rattle.cap_resolve_tables.proofs.Positions.{typed_entry}
use Rattle.cap_resolve_tables.proofs.types.typed_names_of.Given as goal

abbrev pub invariant-loop-typed : goal.invariant-loop-typed
invariant-loop-typed l =
    l.names ++ map typed_entry (drop l.typed-index l.typed-items) ≡ map typed_entry l.typed-items
