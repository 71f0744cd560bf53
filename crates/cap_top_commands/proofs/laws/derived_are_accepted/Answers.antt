use Rattle.cap_top_commands.proofs.Accepting.{derived_accepted}
use Rattle.cap_top_commands.proofs.laws.derived_are_accepted.Goals as goal

pub returns : goal.returns
returns c =
    derived_accepted c.found_trees_are_valid.ensures c.judged_are_valid.ensures c.judgements_are_one.ensures
    (λ trees cs bytes l few. (c.readings_are_lines.ensures trees cs bytes).1 (l, few))
