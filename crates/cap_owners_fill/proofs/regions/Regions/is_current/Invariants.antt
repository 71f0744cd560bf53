use Rattle.std.proofs.Common.{◌≡◌, drop}
use Rattle.std.specs.List.{list_all}
use Rattle.cap_owners_spec.specs.Track.{tracked_at}
use Rattle.cap_owners_spec.specs.Steps.{is_current, is_in_state}
use Rattle.cap_owners_fill.proofs.regions.Regions.is_current.Given as goal

abbrev pub invariant-loop-fact : goal.invariant-loop-fact
invariant-loop-fact l = list_all (λ x. is_in_state x.1 (tracked_at l.self x.0)) (drop l.fact-index l.fill.facts) ≡ is_current l.self l.fill
