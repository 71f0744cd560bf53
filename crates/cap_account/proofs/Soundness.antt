-- Derivations are sound.
use Rattle.cap_account.specs.Law.{DerivationsAreSound}
use Rattle.cap_account_states.proofs.Checked.{Checked, derivations}
use Rattle.cap_account_steps.proofs.Regained.{Stable}
use Rattle.cap_account_steps.proofs.Bundles.{valid-roots, unit-roots}
use Rattle.cap_account_steps.proofs.StableLaws.{valid-stable}
use Rattle.cap_account_steps.proofs.Statements.{Statements}
use Rattle.cap_account_steps.proofs.StatementLaws.{statements}
use Rattle.cap_account.proofs.Begins.{body-begins}
use Rattle.cap_account.proofs.Returning.{all-advance}
use Rattle.cap_account.proofs.Tracks.{safe}
use Rattle.cap_account.proofs.Valid.{accounts-are-valid}

pub derivations-are-sound : DerivationsAreSound
derivations-are-sound program trees well valid =
    let p : Checked = derivations program in
    let stable : Stable program = valid-stable program trees well valid in
    let roots = unit-roots p (valid-roots program trees valid) in
    let laws : Statements p = statements p well roots stable in
    safe p (all-advance p laws stable) (accounts-are-valid p) (body-begins p laws.bodies)
