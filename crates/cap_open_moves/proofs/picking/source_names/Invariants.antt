use Rattle.std.proofs.Common.{◌≡◌, ◌+◌, ◌-◌, ◌++◌, length, map}
use Rattle.std.specs.List.{range_with_len}
use Rattle.cap_rules.specs.Closing.{source_name}
use Rattle.cap_open_moves.proofs.picking.source_names.Given as goal

abbrev pub invariant-loop-place : goal.invariant-loop-place
invariant-loop-place l = l.names.items ++ map (source_name l.fact l.lone) (range_with_len (l.region.params + l.place) (length l.action.names.items - l.place)) ≡ map (source_name l.fact l.lone) (range_with_len l.region.params (length l.action.names.items))
