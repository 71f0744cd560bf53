use Rattle.std.proofs.Common.{◌≡◌, Ok, Err, Some, None, ap, sym, subst, ◌∙◌}
use Rattle.cap_galg.specs.declared.pair.Pair.{Pair}
use Rattle.std.proofs.lemmas.Result.{err_from_is_err_and}
use Rattle.cap_galg_spec.specs.Elements.{pair_of}
use Rattle.cap_galg_spec.specs.Answers.{IsComposition}
use Rattle.cap_galg_spec.proofs.Sides.{pair-two, two-composition, two-some, two-error, error-is}
use Rattle.cap_galg.proofs.pair.PairGuard.compose.Goals as goal

pub returns-in-Some-clause-composed : goal.returns-in-Some-clause-composed
returns-in-Some-clause-composed g c =
    let n : c.paired_answer.result ≡ Ok (Some (c.in-Some.left, c.in-Some.right)) = c.in_ok-left.was ∙ ap Ok c.in-Some.is in
    let e = g.A.Guard.element in
    let f = g.B.Guard.element in
    two-some e f (pair_of (e c.args.self.now.left) (f c.args.self.now.right)) (pair_of (e c.args.other.now.left) (f c.args.other.now.right)) (e c.args.self.now.left) (f c.args.self.now.right) (e c.args.other.now.left) (f c.args.other.now.right) pair_of
    c.compose-left.result c.compose-right.result c.paired_answer.result c.in-Some.left c.in-Some.right (pair-two _ _ _ _) c.compose-left.ensures.composed c.compose-right.ensures.composed c.paired_answer.ensures n

pub returns-in_err-left-clause-composed : goal.returns-in_err-left-clause-composed
returns-in_err-left-clause-composed g c =
    let n : c.paired_answer.result ≡ Err c.in_err-left.field-0.0 = c.in_err-left.was in
    let e = g.A.Guard.element in
    let f = g.B.Guard.element in
    error-is {T = Pair g.row.A.Denot g.row.B.Denot} (λ p. pair_of (e p.left) (f p.right)) (pair_of (e c.args.self.now.left) (f c.args.self.now.right)) (pair_of (e c.args.other.now.left) (f c.args.other.now.right)) c.from_residual.result c.in_err-left.field-0.0 (err_from_is_err_and c.from_residual.result c.from_residual.ensures.1)
    (two-error {T = Pair g.row.A.Denot g.row.B.Denot} e f (λ p. pair_of (e p.left) (f p.right)) (pair_of (e c.args.self.now.left) (f c.args.self.now.right)) (pair_of (e c.args.other.now.left) (f c.args.other.now.right)) (e c.args.self.now.left) (f c.args.self.now.right) (e c.args.other.now.left) (f c.args.other.now.right) pair_of
    c.compose-left.result c.compose-right.result c.paired_answer.result c.in_err-left.field-0.0 (pair-two _ _ _ _) c.compose-left.ensures.composed c.compose-right.ensures.composed c.paired_answer.ensures n)

pub returns-in-None-clause-composed : goal.returns-in-None-clause-composed
returns-in-None-clause-composed g c =
    let n : c.paired_answer.result ≡ Ok None = c.in_ok-left.was ∙ ap Ok c.in-None.is in
    let e = g.A.Guard.element in
    let f = g.B.Guard.element in
    let x = c.args.self.now in
    let y = c.args.other.now in
    subst (IsComposition {T = g.row.A.Denot × g.row.B.Denot} (λ w. pair_of (e w.0) (f w.1)) (pair_of (e x.left) (f x.right)) (pair_of (e y.left) (f y.right))) (sym c.paired_answer.ensures ∙ n)
    (two-composition e f (pair_of (e x.left) (f x.right)) (pair_of (e y.left) (f y.right)) (e x.left) (f x.right) (e y.left) (f y.right) pair_of
    c.compose-left.result c.compose-right.result (pair-two _ _ _ _) c.compose-left.ensures.composed c.compose-right.ensures.composed)
