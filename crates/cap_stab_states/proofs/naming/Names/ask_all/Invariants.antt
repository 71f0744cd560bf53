use Rattle.std.proofs.Common.{◌≡◌, ◌++◌, drop}
use Rattle.cap_rules.specs.Resting.{ask_all}
use Rattle.cap_stab_states.specs.Wanting.{names_view}
use Rattle.cap_stab_states.specs.Asking.{starts_of}
use Rattle.cap_stab_states.proofs.naming.Names.ask_all.Given as goal

abbrev pub invariant-loop-guard : goal.invariant-loop-guard
invariant-loop-guard l = record {
  names : ask_all (names_view l.self) (drop l.guard-index l.guards) ≡ ask_all (names_view l.fn.self) l.guards;
  starts : l.starts.items ++ starts_of (names_view l.self) (drop l.guard-index l.guards) ≡ starts_of (names_view l.fn.self) l.guards;
}
