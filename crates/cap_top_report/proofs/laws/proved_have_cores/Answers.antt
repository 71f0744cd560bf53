use Rattle.cap_top_report.proofs.Deriving.{proved-cores}
use Rattle.cap_top_report.proofs.laws.proved_have_cores.Goals as goal

pub returns : goal.returns
returns c = proved-cores c.proofs_have_cores.ensures c.proved_units_derive.ensures
