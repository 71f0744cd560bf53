use Rattle.cap_top_report.proofs.Deriving.{proved-derive}
use Rattle.cap_top_report.proofs.laws.proved_units_derive.Goals as goal

pub returns : goal.returns
returns c = proved-derive c.roots_ascend.ensures c.found_trees_are_first.ensures
