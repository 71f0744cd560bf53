use Rattle.std.proofs.Common.{◌≡◌, ◌++◌, length, take, drop}
use Rattle.std.specs.List.{AllByRecursion}
use Rattle.cap_goal.specs.Trees.{bundle_view}
use Rattle.cap_deriv_write.specs.Bounds.{ChoiceFits}
use Rattle.cap_deriv_write.specs.Forms.{opening_form}
use Rattle.cap_deriv_write.specs.Seen.{choices_seen}
use Rattle.cap_deriv_write.specs.Written.{line_text, choice_lines}
use Rattle.cap_deriv_write.proofs.writing.lines.Given as goal

-- what is written, and the lines of the choices that are left
abbrev pub invariant-loop-one : goal.invariant-loop-one
invariant-loop-one l = record {
  text : l.out.items ++ choice_lines (choices_seen (drop l.one-index l.one-items))
      ≡ line_text (opening_form (length (bundle_view l.bundle))) ++ choice_lines (choices_seen l.one-items);
  fits : AllByRecursion ChoiceFits (choices_seen (take l.one-index l.one-items));
}
