use Rattle.std.proofs.Common.{length}
use Rattle.cap_deriv_write.specs.Preorder.{choices_of_roots}
use Rattle.cap_deriv_write.proofs.LinesShown.{text_shown}
use Rattle.cap_deriv_write.proofs.laws.writings_are_lines.Goals as goal

pub returns : goal.returns
returns c roots h few =
    let s = text_shown (length roots) (choices_of_roots roots) h few in
    ((h, s.0), s.1)
