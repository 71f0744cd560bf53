use Rattle.std.proofs.Common.{rules, ◌≡◌, ◌<◌, length, get_or, arith, ap, sym, ◌∙◌}
use Rattle.std.proofs.lemmas.Int.{to_z-of_z}
use mir.Val.{SFits}
use mir.Syntax.{w128}
use Rattle.cap_lin.specs.Linear.{Linear, coefficient}
use Rattle.cap_lin.proofs.Merge.{no_part}
use Rattle.cap_lin.proofs.Places.{at_place, past_place}
use Rattle.cap_lin.proofs.term.Term.coefficient.Goals as goal
use Rattle.cap_lin.proofs.term.Term.coefficient.Goals.{else-place-parts-via-then-place-parts+else-parts-place, else-place-parts-via-else-place-parts}

pub returns-then-parts-place-clause-coefficient : goal.returns-then-parts-place-clause-coefficient
returns-then-parts-place-clause-coefficient c =
    let f : SFits w128 (get_or c.as_slice-parts.result.now c.first_from-place.result no_part).1 = search rules in
    let x = c.as_slice-parts.ensures in
    let y : c.as_slice-parts.result.now ≡ c.args.self.now.parts = x ∙ ap (λ (l : Linear). l.parts) c.self.view_is in
    to_z-of_z _ _ f ∙ sym (at_place _ _ _ (rw x c.self.invariant) c.if-place-parts.true c.if-parts-place.true) ∙ ap (coefficient c.args.v) y

pub returns-else-place-parts-clause-coefficient : goal.returns-else-place-parts-clause-coefficient
returns-else-place-parts-clause-coefficient c =
    let x = c.as_slice-parts.ensures in
    let y : c.as_slice-parts.result.now ≡ c.args.self.now.parts = x ∙ ap (λ (l : Linear). l.parts) c.self.view_is in
    let n : c.first_from-place.result < length c.as_slice-parts.result.now → (get_or c.as_slice-parts.result.now c.first_from-place.result no_part).0 ≡ c.args.v → ⊥ = λ l e. elim c.else-place-parts.branch [
      | else-place-parts-via-then-place-parts+else-parts-place w ↦ w.if-parts-place.false e
      | else-place-parts-via-else-place-parts w ↦ absurd (omega arith)
    ] in
    sym (past_place _ _ _ (rw x c.self.invariant) c.first_from-place.ensures n) ∙ ap (coefficient c.args.v) y
