use Rattle.std.proofs.Common.{rules, ap, ◌∙◌}
use Rattle.std.proofs.lemmas.Int.{to_z-of_z}
use Rattle.std.proofs.lemmas.Result.{err_from_is_err_and}
use mir.Val.{SFits}
use mir.Syntax.{w128}
use Rattle.cap_lin.specs.Linear.{Linear}
use Rattle.cap_lin.proofs.Terms.{plus-first, plus-later, plus-narrow, plus-made}
use Rattle.cap_resolve_forms.proofs.long.LongFormLinearForm.add.Goals as goal

pub returns-in_err-constant : goal.returns-in_err-constant
returns-in_err-constant c =
    let f : SFits w128 c.self.inside.constant = search rules in
    let g : SFits w128 c.other.inside.constant = search rules in
    let e = to_z-of_z _ _ f ∙ ap (λ (l : Linear). l.constant) c.self.view_is in
    let d = to_z-of_z _ _ g ∙ ap (λ (l : Linear). l.constant) c.other.view_is in
    let p = err_from_is_err_and c.from_residual.result c.from_residual.ensures.1 in
    rw (p.1, p.2) (plus-first _ _ _ _ _ e d c.in_err-constant.ensures)

pub returns-in_err-parts : goal.returns-in_err-parts
returns-in_err-parts c =
    let f : SFits w128 c.self.inside.constant = search rules in
    let g : SFits w128 c.other.inside.constant = search rules in
    let e = to_z-of_z _ _ f ∙ ap (λ (l : Linear). l.constant) c.self.view_is in
    let d = to_z-of_z _ _ g ∙ ap (λ (l : Linear). l.constant) c.other.view_is in
    let x = c.deref.ensures.value ∙ ap (λ (l : Linear). l.parts) c.self.view_is in
    let y = c.deref-2.ensures.value ∙ ap (λ (l : Linear). l.parts) c.other.view_is in
    let p = err_from_is_err_and c.from_residual-in_err-parts.result c.from_residual-in_err-parts.ensures.1 in
    rw (p.1, p.2) (plus-later _ _ _ _ _ _ _ e d x y c.in_ok-constant.ensures.0 c.in_err-parts.ensures)

pub returns : goal.returns
returns c =
    let f : SFits w128 c.self.inside.constant = search rules in
    let g : SFits w128 c.other.inside.constant = search rules in
    let s : SFits w128 c.in_ok-constant.constant = search rules in
    let e = to_z-of_z _ _ f ∙ ap (λ (l : Linear). l.constant) c.self.view_is in
    let d = to_z-of_z _ _ g ∙ ap (λ (l : Linear). l.constant) c.other.view_is in
    let x = c.deref.ensures.value ∙ ap (λ (l : Linear). l.parts) c.self.view_is in
    let y = c.deref-2.ensures.value ∙ ap (λ (l : Linear). l.parts) c.other.view_is in
    let a = c.in_ok-constant.ensures in
    let b = c.in_ok-parts.ensures in
    (plus-narrow _ _ _ _ _ _ e d x y a.0 b.0, plus-made _ _ _ _ _ _ _ _ e d x y (to_z-of_z _ _ s ∙ a.1) b.1)
