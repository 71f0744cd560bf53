use Rattle.cap_top_laws.proofs.Derivations.{derivation-answered}
use Rattle.cap_top_laws.proofs.derivations_are_answered.Goals as goal

pub returns : goal.returns
returns c = derivation-answered c.writings_are_lines.ensures
