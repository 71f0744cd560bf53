use Rattle.std.proofs.Common.{◌<◌, length}
use Rattle.std.proofs.lemmas.List.{get_or_default}
use Rattle.cap_farkas.specs.Farkas.{no_row}
use Rattle.cap_farkas.proofs.Behind.{none-least, past-least, appended-least}
use Rattle.cap_farkas.proofs.system.variable_at.Goals as goal

pub returns-in-None : goal.returns-in-None
returns-in-None c = none-least _ _ _ _ c.in-None.is c.if-number-rows.false

pub returns-then-number-rows-2 : goal.returns-then-number-rows-2
returns-then-number-rows-2 c =
    let h : c.in-Some.appended.place < length c.args.rows.now = (rw c.in-Some.is at c.requires).bound in
    appended-least _ _ _ _ _ _ _ c.in-Some.is c.if-number-rows-2.true (get_or_default c.args.rows.now c.in-Some.appended.place c.index-rows-appended.result no_row h) c.variable_from-then-number-rows-2.ensures

pub returns-else-number-rows-2 : goal.returns-else-number-rows-2
returns-else-number-rows-2 c = past-least _ _ _ _ _ c.in-Some.is c.if-number-rows.false c.if-number-rows-2.false
