use Rattle.std.proofs.Common.{arith}
use Rattle.std.proofs.lemmas.Option.{slice_get-get_or}
use Rattle.cap_rules_steps.proofs.Walking.{there}
use Rattle.cap_open_moves.proofs.Members.{member-lacking}
use Rattle.cap_open_moves.proofs.spans.number_at.Goals as goal

pub returns-then-place-numbers-clause-makes : goal.returns-then-place-numbers-clause-makes
returns-then-place-numbers-clause-makes c = member-lacking c.args.numbers.now c.args.place (omega arith)

pub returns-clause-makes : goal.returns-clause-makes
returns-clause-makes c = there _ _ (slice_get-get_or c.args.numbers.now c.args.place 0 (omega arith))
