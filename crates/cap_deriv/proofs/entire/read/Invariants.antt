use Rattle.std.proofs.Common.{◌≡◌, map}
use Rattle.cap_deriv.specs.Told.{choices_told, told_by_bytes, opening_told}
use Rattle.cap_deriv.specs.Telling.{left_to_tell}
use Rattle.cap_goal.specs.Views.{choice_view}
use Rattle.cap_deriv.proofs.Whole.{count}
use Rattle.cap_deriv.proofs.entire.read.Given as goal

abbrev pub invariant-choices : goal.invariant-choices
invariant-choices l = told_by_bytes l.fn.bytes ≡ opening_told l.cursor.trees (choices_told (map choice_view l.choices.items) (left_to_tell l.cursor))

abbrev pub decreases-choices : goal.decreases-choices
decreases-choices l = count (left_to_tell l.cursor)
