use Rattle.std.proofs.Common.{◌≡◌, ◌+◌, ◌-◌, ◌≤◌, drop, take, map}
use Rattle.cap_owners_spec.specs.Traced.{number_of}
use Rattle.cap_owners_passes.proofs.closing.args_of.Given as goal

abbrev pub invariant-loop-name : goal.invariant-loop-name
invariant-loop-name l = record {
  so_far : l.args.items ≡ map number_of (take (l.name - 1) (drop 1 l.names));
  within : l.name ≤ l.params + (1 - l.params);
}
