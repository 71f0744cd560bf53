use Rattle.cap_prog.specs.Views.{program_view}
use Rattle.cap_rules_steps.specs.Goals.{goals_view}
use Rattle.cap_kernel_nodes.proofs.Stacks.{next-proven, next-opened}
use Rattle.cap_kernel_nodes.proofs.walk.NodeWalk.next.Goals as goal

pub goals_left-requires : goal.goals_left-requires
goals_left-requires c =
    next-proven (program_view c.args.program.now) c.in-Some.field-0 c.args.self.now.ahead.items c.pop.new.self.items c.in-Some.ensures.items c.requires

pub returns : goal.returns
returns c =
    let p = program_view c.args.program.now in
    next-opened p c.in-Some.field-0 (goals_view c.in_ok-goals.goals) c.args.self.now.ahead.items c.pop.new.self.items c.push_trees.new.ahead.items c.in-Some.ensures.items c.in_ok-goals.ensures
    (rw c.deref.ensures.value at c.in_ok-push_trees.ensures p)
