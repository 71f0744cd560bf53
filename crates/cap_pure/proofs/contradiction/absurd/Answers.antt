use Rattle.std.proofs.Common.{ap, ◌∙◌, ◌++◌, ◌∷◌, []}
use Rattle.cap_rules.specs.Attempts.{refuted}
use Rattle.cap_rules_steps.proofs.Walking.{one_claim}
use Rattle.cap_pure.proofs.contradiction.absurd.Goals as goal

pub returns : goal.returns
returns c = rw c.new.ensures.items (one_claim [] (refuted c.args.state.now.rows) _ _ (c.in_ok-refute.ensures ∙ ap (λ r. c.args.ledger.now ++ r ∷ []) c.rows.ensures))
