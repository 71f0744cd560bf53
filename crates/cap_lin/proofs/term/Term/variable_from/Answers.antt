use Rattle.std.proofs.Common.{◌≡◌, get_or, ap, subst, ◌∙◌, Some, None, List, ℕ, ℤ}
use Rattle.cap_lin.specs.Linear.{Linear, IsLeastFrom}
use Rattle.cap_lin.proofs.Merge.{no_part}
use Rattle.cap_lin.proofs.Places.{least, no_least}
use Rattle.cap_lin.proofs.term.Term.variable_from.Goals as goal

pub returns-then-place-parts : goal.returns-then-place-parts
returns-then-place-parts c =
    let x = c.as_slice-parts.ensures in
    let y : c.as_slice-parts.result.now ≡ c.args.self.now.parts = x ∙ ap (λ (l : Linear). l.parts) c.self.view_is in
    subst (λ (ps : List (ℕ × ℤ)). IsLeastFrom c.args.low ps (Some (get_or c.as_slice-parts.result.now c.first_from-place.result no_part).0)) y (least _ _ _ (rw x c.self.invariant) c.first_from-place.ensures c.if-place-parts.true)

pub returns-else-place-parts : goal.returns-else-place-parts
returns-else-place-parts c =
    let x = c.as_slice-parts.ensures in
    let y : c.as_slice-parts.result.now ≡ c.args.self.now.parts = x ∙ ap (λ (l : Linear). l.parts) c.self.view_is in
    subst (λ (ps : List (ℕ × ℤ)). IsLeastFrom c.args.low ps None) y (no_least _ _ _ c.first_from-place.ensures c.if-place-parts.false)
