use Rattle.cap_rules_steps.proofs.Walking.{done, inapplicable}
use Rattle.cap_open.proofs.heads.closing_at.Goals as goal

pub returns-in-Close : goal.returns-in-Close
returns-in-Close c = rw c.in-Close.is (done _)

pub returns-in-Run : goal.returns-in-Run
returns-in-Run c = rw c.in-Run.is inapplicable

pub returns-in-Turn : goal.returns-in-Turn
returns-in-Turn c = rw c.in-Turn.is inapplicable

pub returns-in-Give : goal.returns-in-Give
returns-in-Give c = rw c.in-Give.is inapplicable

pub returns-in-Take : goal.returns-in-Take
returns-in-Take c = rw c.in-Take.is inapplicable

pub returns-in-Made : goal.returns-in-Made
returns-in-Made c = rw c.in-Made.is inapplicable

pub returns-in-Shift : goal.returns-in-Shift
returns-in-Shift c = rw c.in-Shift.is inapplicable

pub returns-in-Rest : goal.returns-in-Rest
returns-in-Rest c = rw c.in-Rest.is inapplicable
