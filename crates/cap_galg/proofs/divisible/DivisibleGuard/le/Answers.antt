use Rattle.std.proofs.Common.{◌∙◌}
use Rattle.cap_galg.proofs.Parts.{at_most-amount}
use Rattle.cap_galg.proofs.divisible.DivisibleGuard.le.Goals as goal

pub returns : goal.returns
returns c = c.is_at_most.ensures ∙ at_most-amount c.args.self.now.fraction c.args.other.now.fraction c.args.self.now.proper c.args.other.now.proper
