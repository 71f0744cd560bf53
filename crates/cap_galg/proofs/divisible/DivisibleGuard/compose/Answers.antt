use Rattle.std.proofs.Common.{◌≡◌, Some, Ok}
use Rattle.cap_galg.proofs.Parts.{sum-share, sum-amount, share-of}
use Rattle.cap_galg.proofs.divisible.DivisibleGuard.compose.Goals as goal

pub invariant_of-result : goal.invariant_of-result
invariant_of-result c =
    let e : c.sum.result ≡ Ok (Some c.in-Some.fraction) = cc in
    let s = sum-share c.args.self.now.fraction c.args.other.now.fraction c.in-Some.fraction c.sum.result (share-of _ c.args.self.now.proper c.if-self-eq0.false) (share-of _ c.args.other.now.proper c.if-other-eq0.false) c.sum.ensures e in
    record { proper = s.amount }

pub returns-in-Some-clause-composed : goal.returns-in-Some-clause-composed
returns-in-Some-clause-composed c =
    let e : c.sum.result ≡ Ok (Some c.in-Some.fraction) = cc in
    sum-amount c.args.self.now.fraction c.args.other.now.fraction c.in-Some.fraction c.sum.result c.args.self.now.proper c.args.other.now.proper c.if-self-eq0.false c.if-other-eq0.false c.sum.ensures e
