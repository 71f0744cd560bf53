use Rattle.cap_prog.specs.Views.{act_view}
use Rattle.cap_owners_passes.proofs.statement.pass_statement.Goals as goal

pub returns-in-Set : goal.returns-in-Set
returns-in-Set c = rw c.in-Set.is (c.pass_set.ensures c.args.state.now c.args.event c.args.walk.now)

pub returns-in-Alloc : goal.returns-in-Alloc
returns-in-Alloc c = rw c.in-Alloc.is (c.pass_alloc.ensures c.args.state.now)

pub returns-in-Assert : goal.returns-in-Assert
returns-in-Assert c =
    rw c.in-Assert.is (c.pass_assert.ensures c.args.state.now c.in-Assert.field-0.items c.args.event c.args.walk.now)

pub returns-in-If : goal.returns-in-If
returns-in-If c = rw c.in-If.is (c.pass_if.ensures c.args.state.now c.args.walk.now)

pub returns-in-Loop : goal.returns-in-Loop
returns-in-Loop c = rw c.in-Loop.is (c.pass_loop.ensures c.args.state.now c.args.event)

pub returns-in-Return : goal.returns-in-Return
returns-in-Return c = rw c.in-Return.is (c.pass_return.ensures c.args.state.now c.args.event)

pub returns-in-Act : goal.returns-in-Act
returns-in-Act c =
    rw (c.in-Act.is, ← c.deref.ensures.value) (c.pass_act.ensures c.in-Act.field-0 c.in-Act.field-1.items (act_view c.args.act.now))
