use Rattle.cap_galg_atoms.proofs.Counts.{given-back, given-back_too}
use Rattle.cap_galg_atoms.proofs.counting.CountingGuard.compose.Goals as goal

pub returns-in-Src-other-clause-composed : goal.returns-in-Src-other-clause-composed
returns-in-Src-other-clause-composed c = (given-back_too c.args.self.now c.args.other.now c.in-Src-other.out c.in-Tok.j c.given_back.result c.in-Tok.is c.in-Src-other.is c.given_back.ensures)

pub returns-in-Tok-other-2-clause-composed : goal.returns-in-Tok-other-2-clause-composed
returns-in-Tok-other-2-clause-composed c = (given-back c.args.self.now c.args.other.now c.in-Src.out c.in-Tok-other-2.k c.given_back-in-Tok-other-2.result c.in-Src.is c.in-Tok-other-2.is c.given_back-in-Tok-other-2.ensures)
