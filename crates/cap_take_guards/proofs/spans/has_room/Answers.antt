use Rattle.std.proofs.Common.{rules}
use Rattle.cap_rules_steps.specs.Walks.{walk}
use Rattle.cap_rules_steps.proofs.Walking.{making}
use Rattle.cap_take_guards.proofs.spans.has_room.Goals as goal

pub returns-then-guards-ge-LONGEST_LIST : goal.returns-then-guards-ge-LONGEST_LIST
unfolding walk
returns-then-guards-ge-LONGEST_LIST c = search (rules, making)

pub returns : goal.returns
unfolding walk
returns c = search (rules, making)
