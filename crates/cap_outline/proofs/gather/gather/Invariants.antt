use Rattle.std.proofs.Common.{length}
use Rattle.cap_prog.specs.Views.{program_view}
use Rattle.cap_kernel_nodes.specs.Views.{nodes_ahead}
use Rattle.cap_outline.proofs.Gathering.{Gathers}
use Rattle.cap_outline.proofs.gather.gather.Given as goal

abbrev pub invariant-nodes : goal.invariant-nodes
invariant-nodes l =
    let p = program_view l.program in
    Gathers p (nodes_ahead p l.fn.walk) (nodes_ahead p l.walk) l.gathered

abbrev pub decreases-nodes : goal.decreases-nodes
decreases-nodes l = length (nodes_ahead (program_view l.program) l.walk)
