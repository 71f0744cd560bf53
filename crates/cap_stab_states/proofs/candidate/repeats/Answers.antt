use Rattle.std.proofs.Common.{sym, ◌∙◌}
use Rattle.cap_stab_states.specs.Adding.{is_row}
use Rattle.cap_stab_states.specs.Views.{candidate_view}
use Rattle.cap_stab_states.proofs.Repeats.{any_seen}
use Rattle.cap_stab_states.proofs.candidate.repeats.Goals as goal

pub returns-in-Known : goal.returns-in-Known
returns-in-Known c =
    rw c.in-Known.is (c.is_there.ensures ∙ sym (any_seen (is_row c.in-Known.row) candidate_view c.args.all.now))
