use Rattle.cap_kernel_nodes.proofs.Proven.{program-nodes-proven}
use Rattle.cap_kernel_nodes.proofs.laws.program_nodes_are_proven.Goals as goal

pub returns : goal.returns
returns c = program-nodes-proven c.roots_are_kept.ensures c.subgoals_are_kept.ensures c.subgoals_are_proven.ensures
