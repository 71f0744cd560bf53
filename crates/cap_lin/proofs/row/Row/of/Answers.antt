use Rattle.std.proofs.lemmas.Result.{MatchResult-weaker}
use Rattle.cap_lin.proofs.Rows.{row_of-means}
use Rattle.cap_lin.proofs.row.Row.of.Goals as goal

pub returns-clause-means : goal.returns-clause-means
returns-clause-means c = MatchResult-weaker c.comparison.result c.comparison.ensures (λ x k v. rw k.1 (row_of-means v _ c.args.op _ c.args.sort)) (λ e k. tt)
