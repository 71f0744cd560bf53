use Rattle.cap_prog.specs.Views.{program_view}
use Rattle.cap_rules_steps.specs.Judging.{lists_view}
use Rattle.cap_kernel_nodes.specs.Views.{goal_node_view}
use Rattle.cap_core_text.proofs.Owed.{told-owed, told-refuted, only-memory}
use Rattle.cap_core_text.proofs.node.owed_of.Goals as goal

pub returns-clause-owed : goal.returns-clause-owed
returns-clause-owed c =
    told-owed lists_view (program_view c.args.program.now) (goal_node_view c.args.node.now) c.proofs.result c.proofs.ensures

pub returns-clause-refuted : goal.returns-clause-refuted
returns-clause-refuted c =
    told-refuted lists_view (program_view c.args.program.now) (goal_node_view c.args.node.now) c.proofs.result c.requires.proven c.proofs.ensures

pub returns-clause-only : goal.returns-clause-only
returns-clause-only c =
    only-memory lists_view (program_view c.args.program.now) (goal_node_view c.args.node.now) c.proofs.result c.requires.proven c.proofs.ensures
