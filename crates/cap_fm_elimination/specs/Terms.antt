-- The term of a row that arose, and that of a row's multipliers.
use Rattle.std.specs.Prelude.{pos}
use Rattle.cap_lin.specs.Linear.{Linear, number}
use Rattle.cap_fm_elimination.specs.declared.stage.FormTerm.{FormTerm}
use Rattle.cap_fm_elimination.specs.declared.stage.FormTerm.TheVariants.{Given, Made}
use Rattle.cap_fm_elimination.specs.declared.leaf.TermSlot.{TermSlot}
use Rattle.cap_fm_elimination.specs.declared.leaf.TermSlot.TheVariants as slot

abbrev pub form_term : FormTerm → Linear
form_term (Given term) = term.now
form_term (Made term) = term.value

-- 0 where the multipliers aren't made
abbrev pub slot_term : TermSlot → Linear
slot_term (slot.Made term) = term.value
slot_term slot.Unmade = number (pos 0)
