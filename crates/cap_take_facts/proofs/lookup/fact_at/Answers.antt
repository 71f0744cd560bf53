use Rattle.std.proofs.Common.{arith, ◌≤◌, ◌<◌, length}
use Rattle.cap_take_items.proofs.Members.{member-there, member-lacking}
use Rattle.cap_take_facts.proofs.lookup.fact_at.Goals as goal

pub returns-then-number-facts : goal.returns-then-number-facts
returns-then-number-facts c =
    let h : length c.args.state.now.facts ≤ c.args.number = rw (← c.facts.ensures) (omega arith) in
    member-lacking c.args.state.now.facts c.args.number h

pub returns : goal.returns
returns c =
    let h : c.args.number < length c.args.state.now.facts = rw (← c.facts.ensures) (omega arith) in
    member-there c.args.state.now.facts c.args.number c.index-facts-number.result h (rw (← c.facts-2.ensures) c.index-facts-number.is)
