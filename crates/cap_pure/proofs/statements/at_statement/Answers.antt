use Rattle.cap_pure.proofs.statements.at_statement.Goals as goal

pub returns-in-Assert : goal.returns-in-Assert
returns-in-Assert c = rw c.in-Assert.is (c.at_assertion.ensures c.in-Assert.field-0.items)
