use Rattle.std.proofs.Common.{sym, ◌∙◌}
use Rattle.cap_goal.specs.Views.{unit_view}
use Rattle.cap_owners_places.proofs.Finding.{no-unit-at, answer-at}
use Rattle.cap_owners_places.proofs.roots.Roots.at.Goals as goal

pub returns-in_err-first : goal.returns-in_err-first
returns-in_err-first c = λ p ts are. rw c.from_residual.ensures (no-unit-at p ts c.args.self.now are (unit_view c.args.unit) c.args.root (sym c.first_root.ensures ∙ c.in_err-first.was))

pub returns : goal.returns
returns c = λ p ts are. answer-at p ts c.args.self.now are (unit_view c.args.unit) c.args.root c.in_ok-first.first c.tree_at.result (sym c.first_root.ensures ∙ c.in_ok-first.was) c.tree_at.ensures
