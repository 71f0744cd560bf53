use Rattle.std.proofs.Common.{subst}
use Rattle.cap_fm_elimination.specs.Answers.{IsLeast}
use Rattle.cap_fm_elimination.proofs.Walks.{least-of-none, least-left, least-both, min-of}
use Rattle.cap_fm_elimination.proofs.eliminate.lesser.Goals as goal

pub returns-in-None : goal.returns-in-None
returns-in-None c = λ low rows more a b. least-of-none low rows more c.args.b (subst (IsLeast low rows) c.in-None.is a) b

pub returns-in-None-b : goal.returns-in-None-b
returns-in-None-b c = λ low rows more a b. least-left low c.in-Some.x rows more (subst (IsLeast low rows) c.in-Some.is a) (subst (IsLeast low more) c.in-None-b.is b)

pub returns-in-Some-b : goal.returns-in-Some-b
returns-in-Some-b c = λ low rows more a b. least-both low c.in-Some.x c.in-Some-b.y c.min.result rows more (min-of c.in-Some.x c.in-Some-b.y c.min.result c.min.ensures) (subst (IsLeast low rows) c.in-Some.is a) (subst (IsLeast low more) c.in-Some-b.is b)
