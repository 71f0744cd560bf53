use Rattle.std.proofs.Common.{◌≡◌, false, length, sym}
use Rattle.std.specs.Prelude.{◌==◌}
use Rattle.cap_rules.specs.Making.{is_empty}
use Rattle.cap_rules_steps.proofs.Walking.{unmade_claims, unneeded}
use Rattle.cap_open_moves.proofs.Picks.{some-there}
use Rattle.cap_open_moves.proofs.moving.prove_kept.Goals as goal

pub returns-then-not-is_empty : goal.returns-then-not-is_empty
returns-then-not-is_empty c =
    let some : false ≡ (length c.args.spans.now == 0) = c.if-not-is_empty.ensures in
    unmade_claims _ _ _ _ (unneeded (is_empty c.args.spans.now) (some-there c.args.spans.now (sym some)))
