use Rattle.std.proofs.Common.{◌≡◌, length, rules, ◌∙◌}
use Rattle.cap_open_acts.proofs.Marks.{all-set}
use Rattle.cap_open_acts.proofs.marking.full_marks.Goals as goal

pub returns : goal.returns
returns c =
    let n : c.len.result ≡ length c.in_ok-pairs.pairs.items = search rules in
    c.in_ok-marks.ensures ∙ all-set c.in_ok-pairs.pairs.items _ c.len.result n c.in_ok-pairs.ensures
