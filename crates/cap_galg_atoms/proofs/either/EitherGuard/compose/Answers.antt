use Rattle.std.proofs.Common.{◌≡◌, Ok, Err, Some, None, ap, subst}
use Rattle.cap_galg_atoms.specs.declared.either.Either.{Either}
use Rattle.std.proofs.lemmas.Result.{err_from_is_err_and}
use Rattle.cap_galg_spec.specs.Elements.{Element, in_left, in_right}
use Rattle.cap_galg_atoms.specs.Views.{side_element}
use Rattle.cap_galg_spec.specs.Answers.{IsComposition}
use Rattle.cap_galg_spec.proofs.Sides.{in-left-one, in-right-one, one-composition, one-some, one-error, error-at, error-is}
use Rattle.cap_galg_atoms.proofs.either.EitherGuard.compose.Goals as goal

pub returns-in-Some-clause-composed : goal.returns-in-Some-clause-composed
returns-in-Some-clause-composed g c =
    let n : c.compose.result ≡ Ok (Some c.in-Some.z) = cc in
    rw (c.in-Left.is, c.in-Left-other.is)
    (one-some g.A.Guard.element _ _ _ _ in_left c.compose.result c.in-Some.z (in-left-one (g.A.Guard.element c.in-Left.x) (g.A.Guard.element c.in-Left-other.y) (g.met.A.Guard.lawful c.in-Left.x c.in-Left-other.y (rw (c.in-Left.is, c.in-Left-other.is) at c.requires))) c.compose.ensures.composed n)

pub returns-in_err-z-in-Left-other-clause-composed : goal.returns-in_err-z-in-Left-other-clause-composed
returns-in_err-z-in-Left-other-clause-composed g c =
    let n : c.compose.result ≡ Err c.in_err-z-in-Left-other.field-0.0 = c.in_err-z-in-Left-other.was in
    let f = g.A.Guard.element in
    let v : Either g.row.A.Denot g.row.B.Denot → Element = side_element f g.B.Guard.element in
    error-is {T = Either g.row.A.Denot g.row.B.Denot} v (v c.args.self.now) (v c.args.other.now) c.from_residual.result c.in_err-z-in-Left-other.field-0.0 (err_from_is_err_and c.from_residual.result c.from_residual.ensures.1)
    (error-at {T = Either g.row.A.Denot g.row.B.Denot} v (in_left (f c.in-Left.x)) (v c.args.self.now) (in_left (f c.in-Left-other.y)) (v c.args.other.now) c.in_err-z-in-Left-other.field-0.0 (ap v c.in-Left.is) (ap v c.in-Left-other.is)
    (one-error {T = Either g.row.A.Denot g.row.B.Denot} f v (in_left (f c.in-Left.x)) (in_left (f c.in-Left-other.y)) (f c.in-Left.x) (f c.in-Left-other.y) in_left c.compose.result c.in_err-z-in-Left-other.field-0.0 (in-left-one (f c.in-Left.x) (f c.in-Left-other.y) (g.met.A.Guard.lawful c.in-Left.x c.in-Left-other.y (rw (c.in-Left.is, c.in-Left-other.is) at c.requires))) c.compose.ensures.composed n))

pub returns-in-Some-2-clause-composed : goal.returns-in-Some-2-clause-composed
returns-in-Some-2-clause-composed g c =
    let n : c.compose-in-Right-other-2.result ≡ Ok (Some c.in-Some-2.z) = cc in
    rw (c.in-Right.is, c.in-Right-other-2.is)
    (one-some g.B.Guard.element _ _ _ _ in_right c.compose-in-Right-other-2.result c.in-Some-2.z (in-right-one (g.B.Guard.element c.in-Right.x) (g.B.Guard.element c.in-Right-other-2.y) (g.met.B.Guard.lawful c.in-Right.x c.in-Right-other-2.y (rw (c.in-Right.is, c.in-Right-other-2.is) at c.requires))) c.compose-in-Right-other-2.ensures.composed n)

pub returns-in_err-z-in-Right-other-2-clause-composed : goal.returns-in_err-z-in-Right-other-2-clause-composed
returns-in_err-z-in-Right-other-2-clause-composed g c =
    let n : c.compose-in-Right-other-2.result ≡ Err c.in_err-z-in-Right-other-2.field-0.0 = c.in_err-z-in-Right-other-2.was in
    let f = g.B.Guard.element in
    let v : Either g.row.A.Denot g.row.B.Denot → Element = side_element g.A.Guard.element f in
    error-is {T = Either g.row.A.Denot g.row.B.Denot} v (v c.args.self.now) (v c.args.other.now) c.from_residual-in_err-z-in-Right-other-2.result c.in_err-z-in-Right-other-2.field-0.0 (err_from_is_err_and c.from_residual-in_err-z-in-Right-other-2.result c.from_residual-in_err-z-in-Right-other-2.ensures.1)
    (error-at {T = Either g.row.A.Denot g.row.B.Denot} v (in_right (f c.in-Right.x)) (v c.args.self.now) (in_right (f c.in-Right-other-2.y)) (v c.args.other.now) c.in_err-z-in-Right-other-2.field-0.0 (ap v c.in-Right.is) (ap v c.in-Right-other-2.is)
    (one-error {T = Either g.row.A.Denot g.row.B.Denot} f v (in_right (f c.in-Right.x)) (in_right (f c.in-Right-other-2.y)) (f c.in-Right.x) (f c.in-Right-other-2.y) in_right c.compose-in-Right-other-2.result c.in_err-z-in-Right-other-2.field-0.0 (in-right-one (f c.in-Right.x) (f c.in-Right-other-2.y) (g.met.B.Guard.lawful c.in-Right.x c.in-Right-other-2.y (rw (c.in-Right.is, c.in-Right-other-2.is) at c.requires))) c.compose-in-Right-other-2.ensures.composed n))

pub returns-in-None-clause-composed : goal.returns-in-None-clause-composed
returns-in-None-clause-composed g c =
    let n : c.compose.result ≡ Ok None = cc in
    let f = g.A.Guard.element in
    let x = c.in-Left.x in
    let y = c.in-Left-other.y in
    rw (c.in-Left.is, c.in-Left-other.is)
    (subst (IsComposition (λ z. in_left (f z)) (in_left (f x)) (in_left (f y))) n
    (one-composition f (in_left (f x)) (in_left (f y)) (f x) (f y) in_left c.compose.result (in-left-one (f x) (f y) (g.met.A.Guard.lawful x y (rw (c.in-Left.is, c.in-Left-other.is) at c.requires))) c.compose.ensures.composed))

pub returns-in-None-2-clause-composed : goal.returns-in-None-2-clause-composed
returns-in-None-2-clause-composed g c =
    let n : c.compose-in-Right-other-2.result ≡ Ok None = cc in
    let f = g.B.Guard.element in
    let x = c.in-Right.x in
    let y = c.in-Right-other-2.y in
    rw (c.in-Right.is, c.in-Right-other-2.is)
    (subst (IsComposition (λ z. in_right (f z)) (in_right (f x)) (in_right (f y))) n
    (one-composition f (in_right (f x)) (in_right (f y)) (f x) (f y) in_right c.compose-in-Right-other-2.result (in-right-one (f x) (f y) (g.met.B.Guard.lawful x y (rw (c.in-Right.is, c.in-Right-other-2.is) at c.requires))) c.compose-in-Right-other-2.ensures.composed))
