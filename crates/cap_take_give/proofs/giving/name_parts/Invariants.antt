use Rattle.std.proofs.Common.{drop}
use Rattle.cap_rules_steps.proofs.Walking.{Leads}
use Rattle.cap_take_give.proofs.Slots.{names-left}
use Rattle.cap_take_give.proofs.giving.name_parts.Given as goal

abbrev pub invariant-loop-part : goal.invariant-loop-part
invariant-loop-part l = Leads (names-left l.env l.sort l.state (drop l.part-index l.term.parts)) (names-left l.env l.sort l.fn.state l.term.parts)
