use Rattle.std.proofs.Common.{◌≡◌, ◌++◌, drop}
use Rattle.cap_open_moves_parts.specs.Views.{parts_view}
use Rattle.cap_open_moves_parts.specs.Parts.{parts_plain}
use Rattle.cap_open_moves_parts.proofs.parts.push_guards.Given as goal

abbrev pub invariant-loop-guard : goal.invariant-loop-guard
invariant-loop-guard l = parts_view l.parts.items ++ parts_plain (drop l.guard-index l.guards) ≡ parts_view l.fn.parts.items ++ parts_plain l.guards
