use Rattle.cap_top_reading.proofs.Counts.{spelled-le}
use Rattle.cap_top_reading.proofs.laws.programs_of_texts_are_well_formed.Goals as goal

pub returns : goal.returns
returns c = λ bytes p t.
    c.programs_are_well_formed.ensures t.tree p (spelled-le bytes t.tree t.spelled) t.stands
