use Rattle.std.proofs.Common.{◌≡◌, drop}
use Rattle.cap_prog.specs.Program.{done}
use Rattle.cap_goal.specs.Views.{block_in}
use Rattle.cap_owners_passes.specs.Views.{first_act, statement_seen}
use Rattle.cap_owners_passes.proofs.Firsts.{act_in}
use Rattle.cap_owners_passes.proofs.ahead.first_statement.Given as goal

abbrev pub invariant-loop-list : goal.invariant-loop-list
invariant-loop-list l = first_act (block_in l.list-items done) ≡ act_in (drop l.list-index l.list-items) (statement_seen l.first)
