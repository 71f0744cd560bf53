use Rattle.cap_kernel_nodes.proofs.Proven.{nodes-proven}
use Rattle.cap_kernel_nodes.proofs.laws.nodes_are_proven.Goals as goal

pub returns : goal.returns
returns c = nodes-proven c.roots_are_kept.ensures c.subgoals_are_kept.ensures c.subgoals_are_proven.ensures
