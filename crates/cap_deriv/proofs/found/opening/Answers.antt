use Rattle.std.proofs.Common.{ℕ, Option, option_and_then, ap, subst, ◌∙◌}
use Rattle.std.proofs.lemmas.Str.{is_utf8-from_IsUtf8}
use Rattle.json.specs.Lex.{tokens}
use Rattle.cap_deriv_choices.specs.Views.{Extracts}
use Rattle.cap_deriv.specs.Reading.{opening_of_json}
use Rattle.cap_deriv.specs.Taking.{take_opening, if_alone}
use Rattle.cap_deriv.proofs.Texts.{data_refused}
use Rattle.cap_deriv.proofs.WholeLine.{opening_is}
use Rattle.cap_deriv.proofs.found.opening.Goals as goal

pub returns-in-Ok : goal.returns-in-Ok
returns-in-Ok c =
    let same = ap (λ s. if_alone (take_opening (tokens s))) c.in-Ok.ensures.0 ∙ opening_is c.args.bytes.now (is_utf8-from_IsUtf8 c.args.bytes.now c.in-Ok.ensures.1) in
    subst (λ (o : Option ℕ). Extracts (λ n. n) c.opening_of.result o) same c.opening_of.ensures

pub returns-in-Err : goal.returns-in-Err
returns-in-Err c = ap (option_and_then opening_of_json) (data_refused c.args.bytes.now (λ u. absurd (c.in-Err.ensures u)))
