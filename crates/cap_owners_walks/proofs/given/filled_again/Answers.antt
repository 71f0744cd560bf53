use Rattle.cap_owners_walks.proofs.given.filled_again.Goals as goal

pub returns-in-Some : goal.returns-in-Some
returns-in-Some c = λ ts. rw c.in-Some.is (c.stability_walked.ensures (rw c.in-Some.is at c.requires))
