use Rattle.std.proofs.Common.{◌≡◌, ◌≤◌, ◌+◌, drop, not, count_by}
use Rattle.cap_resolve_spec.specs.Finding.{is_earlier}
use Rattle.cap_resolve_findings.proofs.names.passes.Given as goal

abbrev pub invariant-loop-other : goal.invariant-loop-other
invariant-loop-other l =
    (l.count + count_by (λ q. not (is_earlier l.place q)) (drop l.other-index l.places) ≡ count_by (λ q. not (is_earlier l.place q)) l.places) × (l.count ≤ 65)
