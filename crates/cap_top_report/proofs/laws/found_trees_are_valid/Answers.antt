use Rattle.cap_top_report.proofs.Good.{found-valid}
use Rattle.cap_top_report.proofs.laws.found_trees_are_valid.Goals as goal

pub returns : goal.returns
returns c = found-valid c.proved_units_are_valid.ensures
