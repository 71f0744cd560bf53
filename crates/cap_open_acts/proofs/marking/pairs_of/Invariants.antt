use Rattle.std.proofs.Common.{◌≡◌, ◌++◌, drop}
use Rattle.std.specs.Prelude.{flat_map}
use Rattle.cap_rules_steps.specs.cap_rules.Closing.{rivals_from}
use Rattle.cap_open_acts.specs.Views.{rivals_view}
use Rattle.cap_open_acts.proofs.marking.pairs_of.Given as goal

abbrev pub invariant-loop-region : goal.invariant-loop-region
invariant-loop-region l = rivals_view l.all.items ++ flat_map (λ o. rivals_from o 0 l.facts) (drop l.region-index l.opened) ≡ flat_map (λ o. rivals_from o 0 l.facts) l.opened
