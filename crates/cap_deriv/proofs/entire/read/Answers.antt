use Rattle.std.proofs.Common.{map}
use Rattle.cap_deriv.specs.Told.{told_by_bytes}
use Rattle.cap_deriv.specs.Telling.{left_to_tell}
use Rattle.cap_goal.specs.Views.{choice_view}
use Rattle.cap_deriv.proofs.Whole.{pushed, failed}
use Rattle.cap_deriv.proofs.entire.read.Goals as goal

pub choices-preserved : goal.choices-preserved
choices-preserved c =
    let first = rw c.in-Ok-Some.field-0-is at c.in-Ok-Some.ensures.tells in
    pushed (told_by_bytes c.args.bytes.now) c.choices.cursor.trees c.next.new.self.trees c.choices.choices.items c.push.new.self.items c.in-Ok-Some.choice
    (left_to_tell c.choices.cursor) (left_to_tell c.next.new.self) c.choices.invariant first c.in-Ok-Some.ensures.trees c.in_ok-push-in-Ok-Some.ensures.items

pub returns-in-Err : goal.returns-in-Err
returns-in-Err c =
    failed (told_by_bytes c.args.bytes.now) c.choices.cursor.trees (map choice_view c.choices.choices.items) (left_to_tell c.choices.cursor) (left_to_tell c.next.new.self) c.in-Err.error
    c.choices.invariant c.in-Err.ensures.tells
