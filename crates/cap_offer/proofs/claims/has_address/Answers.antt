use Rattle.std.proofs.Common.{sym}
use Rattle.cap_rules_steps.proofs.Walking.{made_claims, unmade_claims, there, lacking}
use Rattle.cap_offer.proofs.claims.has_address.Goals as goal

pub returns-in-None : goal.returns-in-None
returns-in-None c = unmade_claims _ _ _ _ (lacking _ (sym c.in-None.ensures))

pub returns-in-Some : goal.returns-in-Some
returns-in-Some c = made_claims _ _ _ _ _ _ (there _ _ (sym c.in-Some.ensures)) c.has_value.ensures
