use Rattle.std.proofs.Common.{rules}
use Rattle.cap_prog.specs.Views.{program_view}
use Rattle.cap_goal.specs.Views.{tasks_view}
use Rattle.cap_owners_passes.specs.Views.{with_values}
use Rattle.cap_owners_passes.proofs.items.take_item.Goals as goal

pub returns-in-Fact : goal.returns-in-Fact
returns-in-Fact c = λ more e left n w last env.
    let a = c.args in
    let at = a.at.now in
    rw c.in-Fact.is (c.at_comparison.ensures (program_view at.program.now) at.state.now c.in-Fact.field-0.items more e left n (tasks_view a.behind.now) a.top.now (with_values w at.values.now))

pub returns-in-Cases : goal.returns-in-Cases
returns-in-Cases c = λ more e left n w last env.
    let a = c.args in
    let at = a.at.now in
    rw c.in-Cases.is (c.at_conditional.ensures (program_view at.program.now) more e left n a.top.now (with_values w at.values.now) last (search rules))

pub returns-in-Cell : goal.returns-in-Cell
returns-in-Cell c = λ more e left n w last env.
    let at = c.args.at.now in
    rw c.in-Cell.is (c.at_cell.ensures (program_view at.program.now) c.in-Cell.field-1.items more e left n (tasks_view c.args.behind.now) w env)

pub returns-in-Region : goal.returns-in-Region
returns-in-Region c = λ more e left n w last env.
    let at = c.args.at.now in
    rw c.in-Region.is (c.at_fact.ensures (program_view at.program.now) c.in-Region.field-1.items more e left n (tasks_view c.args.behind.now) w env)

pub returns-in-Convert : goal.returns-in-Convert
returns-in-Convert c = λ more e left n w last env.
    let a = c.args in
    let at = a.at.now in
    let k = c.in-Convert in
    rw k.is (c.at_converted.ensures (program_view at.program.now) at.state.now k.field-0 k.field-1 k.field-2.items more e left n (tasks_view a.behind.now) a.top.now (with_values w at.values.now))
