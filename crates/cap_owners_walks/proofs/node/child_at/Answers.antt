use Rattle.cap_owners_walks.proofs.Walking.{child-seen}
use Rattle.cap_owners_walks.proofs.node.child_at.Goals as goal

pub returns-in-Some : goal.returns-in-Some
returns-in-Some c = rw c.in-Some.is (child-seen c.args.place.now c.in-Some.number c.place_at.result (rw c.deref.ensures.value at c.place_at.ensures))
