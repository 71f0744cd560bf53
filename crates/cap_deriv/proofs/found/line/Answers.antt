use Rattle.std.proofs.Common.{Option, option_and_then, ap, subst, ◌∙◌}
use Rattle.std.proofs.lemmas.Str.{is_utf8-from_IsUtf8}
use Rattle.json.specs.Lex.{tokens}
use Rattle.cap_deriv_choices.specs.Views.{Extracts}
use Rattle.cap_deriv.specs.Told.{PlainLine, line_of_json}
use Rattle.cap_deriv.specs.Taking.{take_line, if_alone}
use Rattle.cap_deriv.specs.Views.{found_view}
use Rattle.cap_deriv.proofs.Texts.{data_refused}
use Rattle.cap_deriv.proofs.WholeLine.{line_is}
use Rattle.cap_deriv.proofs.found.line.Goals as goal

pub returns-in-Ok : goal.returns-in-Ok
returns-in-Ok c =
    let same = ap (λ s. if_alone (take_line (tokens s))) c.in-Ok.ensures.0 ∙ line_is c.args.bytes.now (is_utf8-from_IsUtf8 c.args.bytes.now c.in-Ok.ensures.1) in
    subst (λ (o : Option PlainLine). Extracts found_view c.line_of.result o) same c.line_of.ensures

pub returns-in-Err : goal.returns-in-Err
returns-in-Err c = ap (option_and_then line_of_json) (data_refused c.args.bytes.now (λ u. absurd (c.in-Err.ensures u)))
