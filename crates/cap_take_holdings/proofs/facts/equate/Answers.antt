use Rattle.std.proofs.Common.{sym, ◌∙◌}
use Rattle.cap_rules_steps.proofs.Walking.{done}
use Rattle.cap_take_holdings.proofs.Places.{found-none, found-some}
use Rattle.cap_rules_steps.specs.cap_rules.Making.{is_of_region}
use Rattle.cap_take_holdings.proofs.facts.equate.Goals as goal

pub returns-in-None : goal.returns-in-None
returns-in-None c = rw (found-none _ _ (sym c.requires ∙ c.in-None.is)) (done _)

pub returns-in_ok-there-in-Some : goal.returns-in_ok-there-in-Some
returns-in_ok-there-in-Some c =
    let e = rw c.facts.ensures at c.index-facts-place.is in
    let q = found-some (is_of_region c.args.fact.now) c.args.state.now.facts c.in-Some.place c.index-facts-place.result (sym c.requires ∙ c.in-Some.is) e in
    rw q (rw c.in_ok-there-in-Some.ensures at c.with_equal.ensures)
