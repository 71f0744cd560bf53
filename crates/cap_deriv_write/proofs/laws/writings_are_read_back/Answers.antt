use Rattle.std.proofs.Common.{length, arith}
use Rattle.cap_deriv.specs.Told.{ended_lines}
use Rattle.cap_deriv_write.specs.Preorder.{choices_of_roots}
use Rattle.cap_deriv_write.specs.Written.{derivation_text}
use Rattle.cap_deriv_write.proofs.LinesShown.{text_shown}
use Rattle.cap_deriv_write.proofs.LinesTold.{lines_told}
use Rattle.cap_deriv_write.proofs.laws.writings_are_read_back.Goals as goal

pub returns : goal.returns
returns c roots h few =
    let s = text_shown (length roots) (choices_of_roots roots) h (omega (arith, few)) in
    lines_told (length roots) (choices_of_roots roots) (ended_lines (derivation_text roots)) h few s.0
