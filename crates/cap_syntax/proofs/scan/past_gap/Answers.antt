use Rattle.cap_syntax.proofs.Places.{moves_on}
use Rattle.cap_syntax.proofs.scan.past_gap.Goals as goal

pub returns-clause-place : goal.returns-clause-place
returns-clause-place c bytes stands =
    moves_on bytes c.args.rest.now c.split_at.result.0.now c.split_at.result.1.now c.args.place c.moved.result c.gap_length.result stands c.gap_length.ensures.within c.split_at.ensures.front c.split_at.ensures.back c.moved.ensures
