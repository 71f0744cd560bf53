use Rattle.cap_galg.specs.Views.{algebra_view}
use Rattle.cap_take_guards.proofs.Full.{moved-full}
use Rattle.cap_take_guards.proofs.sides.side_pieces.Goals as goal

pub returns : goal.returns
returns c =
    let a = c.args in
    let h = rw (c.deref.ensures.value, c.in_ok-all.ensures, moved-full (algebra_view a.side.algebra.now) a.region.now a.kind a.side.atom) at c.all_moved.ensures in
    h
