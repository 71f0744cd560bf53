use Rattle.cap_core_text.proofs.Having.{proofs-have-cores}
use Rattle.cap_core_text.proofs.laws.proofs_have_cores.Goals as goal

pub returns : goal.returns
returns c =
    proofs-have-cores c.nodes_are_proven.ensures c.owed_rows_ascend.ensures c.subgoals_ascend.ensures c.roots_ascend.ensures
    c.decided_are_cores.ensures c.cores_are_irreducible.ensures
