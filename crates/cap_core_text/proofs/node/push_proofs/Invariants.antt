use Rattle.std.proofs.Common.{map}
use Rattle.cap_rules_marks.specs.Proven.{given}
use Rattle.cap_goal.specs.Views.{choice_view}
use Rattle.cap_core_text.proofs.Written.{Goes}
use Rattle.cap_core_text.proofs.node.push_proofs.Given as goal

abbrev pub invariant-loop-number : goal.invariant-loop-number
invariant-loop-number l =
    Goes l.node (map (λ rows. rows.items) l.lists) (given (choice_view l.choice)) l.fn.text.items l.text.items l.proofs l.number
