use Rattle.std.proofs.Common.{length}
use Rattle.cap_prog.specs.Views.{program_view}
use Rattle.cap_kernel_nodes.specs.Views.{nodes_ahead}
use Rattle.cap_core_text.proofs.Written.{Passes}
use Rattle.cap_core_text.proofs.lines.push_nodes.Given as goal

abbrev pub invariant-nodes : goal.invariant-nodes
invariant-nodes l =
    let p = program_view l.program in
    Passes p (nodes_ahead p l.fn.walk) (nodes_ahead p l.walk) l.fn.text.items l.text.items l.number

abbrev pub decreases-nodes : goal.decreases-nodes
decreases-nodes l = length (nodes_ahead (program_view l.program) l.walk)
