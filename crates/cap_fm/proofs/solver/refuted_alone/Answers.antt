use Rattle.std.proofs.Common.{subst}
use Rattle.std.proofs.lemmas.List.{append-nil}
use Rattle.cap_fm_spec.specs.Solving.{refuted}
use Rattle.cap_fm_elimination.specs.Answers.{IsLogged}
use Rattle.cap_fm.proofs.solver.refuted_alone.Goals as goal

pub returns : goal.returns
returns c = subst (λ rows. IsLogged c.refuted.result (refuted rows)) (append-nil c.args.rows.now) c.refuted.ensures
