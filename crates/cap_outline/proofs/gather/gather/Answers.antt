use Rattle.std.proofs.Common.{◌≡◌, subst}
use Rattle.cap_prog.specs.Views.{program_view}
use Rattle.cap_kernel_nodes.specs.Views.{behind_next, goal_node_view, nodes_ahead}
use Rattle.cap_outline.proofs.Gathering.{gathers-node}
use Rattle.cap_outline.proofs.gather.gather.Goals as goal

pub nodes-preserved : goal.nodes-preserved
nodes-preserved c =
    let p = program_view c.args.program.now in
    let next = subst (λ n. nodes_ahead p c.nodes.walk ≡ behind_next n (nodes_ahead p c.next.new.self)) c.in-Some.is c.in_ok-node.ensures in
    gathers-node p (nodes_ahead p c.args.walk) (nodes_ahead p c.nodes.walk) (nodes_ahead p c.next.new.self)
    (goal_node_view c.in-Some.node) c.nodes.gathered c.gather_goal.new.gathered
    c.nodes.invariant next c.in_ok-gather_goal.ensures
