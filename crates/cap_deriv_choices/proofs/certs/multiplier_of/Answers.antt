use Rattle.std.proofs.Common.{rules, ◌≡◌, true}
use Rattle.cap_deriv_choices.specs.Reading.{begins_with_sign}
use Rattle.cap_deriv_choices.proofs.Numerals.{multiplier_ok, multiplier_err}
use Rattle.cap_deriv_choices.proofs.certs.multiplier_of.Goals as goal

pub returns-in-Ok : goal.returns-in-Ok
returns-in-Ok c =
    let b : begins_with_sign c.args.text.now ≡ true = search rules in
    multiplier_ok c.parse.result c.args.text.now c.in-Ok.z c.parse.ensures.value.0 c.in-Ok.is b

pub returns-in-Err : goal.returns-in-Err
returns-in-Err c =
    let b : begins_with_sign c.args.text.now ≡ true = search rules in
    multiplier_err c.parse.result c.args.text.now c.in-Err.field-0 c.parse.ensures.value.0 c.in-Err.is b
