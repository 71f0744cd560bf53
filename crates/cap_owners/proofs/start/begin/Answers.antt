use Rattle.cap_owners.proofs.start.begin.Goals as goal

pub returns-in_ok-main_track-in-Some-clause-placed : goal.returns-in_ok-main_track-in-Some-clause-placed
returns-in_ok-main_track-in-Some-clause-placed c = λ p ts are.
    c.in_ok-main_track-in-Some.ensures.placed p (c.in_ok-frame-in-Some.ensures.placed p ts are)
