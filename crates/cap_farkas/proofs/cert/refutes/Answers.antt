use Rattle.cap_lin.proofs.Infeasible.{infeasible-none}
use Rattle.cap_farkas.proofs.Sound.{refuted-excludes, excluded-infeasible}
use Rattle.cap_farkas.proofs.cert.refutes.Goals as goal

pub returns-clause-excludes : goal.returns-clause-excludes
returns-clause-excludes c = λ t. refuted-excludes _ _ (c.is_refutation.ensures.0 t)

pub returns-clause-infeasible : goal.returns-clause-infeasible
returns-clause-infeasible c = λ t. excluded-infeasible _ c.args.cert.now (refuted-excludes _ _ (c.is_refutation.ensures.0 t))

pub returns-clause-no_valuation : goal.returns-clause-no_valuation
returns-clause-no_valuation c = λ t. infeasible-none _ (excluded-infeasible _ c.args.cert.now (refuted-excludes _ _ (c.is_refutation.ensures.0 t)))
