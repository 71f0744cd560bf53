use Rattle.std.proofs.Common.{inl, inr, map}
use Rattle.std.specs.Iterator.Adapters.{zip_first, zip_second}
use Rattle.std.specs.Slice.Iter.{iter_rest}
use Rattle.cap_goal.specs.Trees.{nodes_view}
use Rattle.cap_goal.specs.Views.{goal_view}
use Rattle.cap_rules_steps.specs.Goals.{goals_view}
use Rattle.cap_rules_nodes.specs.Nodes.{all_nodes_at}
use Rattle.cap_kernel_nodes.proofs.Stacks.{all-stacked, no-goals, no-nodes}
use Rattle.cap_kernel_nodes.proofs.ahead.trees_beside.Goals as goal

pub returns : goal.returns
returns c = λ p.
    let i = c.loop-goal.goal-iterator in
    let rest = (zip_first i).rest in
    let ns = iter_rest (zip_second i) in
    all-stacked p c.loop-goal.trees.items c.reverse.new.self.items (all_nodes_at p (nodes_view ns) (map goal_view rest.items)) (all_nodes_at p (nodes_view c.args.nodes.now) (goals_view c.args.goals)) c.reverse.ensures.items
    (elim c.in-None.ensures.steps [ inl a ↦ no-goals p (nodes_view ns) rest.items rest.len rest.ok.0 a.1.0 | inr a ↦ no-nodes p ns (map goal_view rest.items) a.1.0 ])
    (c.loop-goal.invariant p)
