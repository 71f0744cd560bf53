use Rattle.cap_deriv_write.proofs.LinesTold.{line_choice, line_end, line_opening, text_at_end, text_at_choice, text_at_opening}
use Rattle.cap_deriv_write.proofs.laws.lines_are_forms.Goals as goal

pub returns : goal.returns
returns c = record {
  opening = λ l t. (text_at_opening l t, λ h. line_opening l t h.0 h.1);
  choice = λ l d. (text_at_choice l d, λ h. line_choice l d h.0 h.1);
  closing = λ l n. (text_at_end l n, line_end l n);
}
