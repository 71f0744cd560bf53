use Rattle.cap_top_laws.proofs.Outputs.{output-exists}
use Rattle.cap_top_laws.proofs.outputs_exist.Goals as goal

pub returns : goal.returns
returns c =
    output-exists c.bytes_are_read_or_refused.ensures c.schedules_are_answered.ensures
    c.lines_are_answered.ensures c.derivations_are_answered.ensures c.checked_are_outlined.ensures
    c.judged_have_owners.ensures
