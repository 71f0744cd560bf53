use Rattle.std.proofs.lemmas.Result.{MatchResult-weaker}
use Rattle.cap_lin.proofs.Rows.{negations-cover}
use Rattle.cap_lin.proofs.row.Row.negations.Goals as goal

pub returns-clause-covers : goal.returns-clause-covers
returns-clause-covers c = MatchResult-weaker c.opposites.result c.opposites.ensures (λ x k v. rw k.1 (negations-cover v c.args.self.now.kind c.args.self.now.sort c.args.self.now.term)) (λ e k. tt)
