use Rattle.std.proofs.Common.{◌∙◌}
use Rattle.cap_galg.proofs.Sets.{sets-within}
use Rattle.cap_galg.proofs.indexed.IndexedGuard.le.Goals as goal

pub returns : goal.returns
returns c = c.le.ensures ∙ sets-within c.args.self.now.indices c.args.other.now.indices c.args.self.now.proper
