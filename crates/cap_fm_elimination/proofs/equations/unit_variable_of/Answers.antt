use Rattle.std.proofs.Common.{ap, ◌∙◌}
use Rattle.cap_lin.specs.Linear.{Linear}
use Rattle.cap_fm_elimination.proofs.Pivots.{unit-some}
use Rattle.cap_fm_elimination.proofs.equations.unit_variable_of.Goals as goal

pub returns-in-Eq-clause-has : goal.returns-in-Eq-clause-has
returns-in-Eq-clause-has c = unit-some _ _ _ (c.parts.ensures.parts ∙ ap (λ (t : Linear). t.parts) c.term.ensures) c.parts.ensures.ascend c.unit_variable.ensures
