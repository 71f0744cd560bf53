use Rattle.cap_fm.proofs.Splits.{answer-tells, first-of, second-of, third-of}
use Rattle.cap_fm.specs.Solved.{IsCertified, IsTrueOf, HasSolution}
use Rattle.cap_fm.proofs.solver.solve.Goals as goal

pub returns-clause-certified : goal.returns-clause-certified
returns-clause-certified c = first-of (IsCertified c.args.rows.now) (IsTrueOf c.args.rows.now) (HasSolution c.args.rows.now) c.searched.result (answer-tells c.args.rows.now c.searched.result c.terms_ascend.ensures c.searched.ensures)

pub returns-clause-infeasible : goal.returns-clause-infeasible
returns-clause-infeasible c = second-of (IsCertified c.args.rows.now) (IsTrueOf c.args.rows.now) (HasSolution c.args.rows.now) c.searched.result (answer-tells c.args.rows.now c.searched.result c.terms_ascend.ensures c.searched.ensures)

pub returns-clause-solvable : goal.returns-clause-solvable
returns-clause-solvable c = third-of (IsCertified c.args.rows.now) (IsTrueOf c.args.rows.now) (HasSolution c.args.rows.now) c.searched.result (answer-tells c.args.rows.now c.searched.result c.terms_ascend.ensures c.searched.ensures)
