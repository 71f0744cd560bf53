use Rattle.std.proofs.Common.{◌≡◌, drop, length}
use Rattle.cap_owners_spec.specs.Walks.{firmed}
use Rattle.cap_owners_passes.proofs.closing.firm.Given as goal

abbrev pub invariant-loop-fact : goal.invariant-loop-fact
invariant-loop-fact l = record {
  rest : firmed l.facts l.number l.state l.fn.values ≡ firmed (drop l.fact-index l.facts) l.number l.state l.values;
  same : length l.values ≡ length l.fn.values;
}
