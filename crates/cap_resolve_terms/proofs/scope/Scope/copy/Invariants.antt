use Rattle.std.proofs.Common.{◌≡◌, ◌++◌, drop, map}
use Rattle.cap_resolve_terms.specs.Views.{entry_view}
use Rattle.cap_resolve_terms.proofs.scope.Scope.copy.Given as goal

abbrev pub invariant-loop-known : goal.invariant-loop-known
invariant-loop-known l = l.copy ++ map entry_view (drop l.known-index l.known-items) ≡ l.self
