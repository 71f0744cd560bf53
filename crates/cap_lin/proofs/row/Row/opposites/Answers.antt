use Rattle.std.proofs.Common.{◌≡◌, [], ◌∷◌, refl, ◌∙◌}
use Rattle.std.specs.Prelude.{MatchResult}
use Rattle.std.proofs.lemmas.Result.{err_from_is_err_and, MatchResult-weaker}
use Rattle.cap_lin.specs.declared.error.LinError.TheVariants.{OutOfMemory}
use Rattle.cap_lin.proofs.Results.{first_wide-nil, first-narrow, explains_first, explains_later}
use Rattle.cap_lin.proofs.row.Row.opposites.Goals as goal

pub returns-in_err-below-in-Eq : goal.returns-in_err-below-in-Eq
returns-in_err-below-in-Eq c =
    let p = err_from_is_err_and c.from_residual-in_err-below-in-Eq.result c.from_residual-in_err-below-in-Eq.ensures.1 in
    rw (p.1, p.2, c.in-Eq.is) (explains_first _ _ _ c.in_err-below-in-Eq.ensures)

pub returns-in_err-above-in-Eq : goal.returns-in_err-above-in-Eq
returns-in_err-above-in-Eq c =
    let p = err_from_is_err_and c.from_residual-in_err-above-in-Eq.result c.from_residual-in_err-above-in-Eq.ensures.1 in
    rw (p.1, p.2, c.in-Eq.is) (explains_later _ _ _ c.in_ok-below-in-Eq.ensures.0 c.in_err-above-in-Eq.ensures)

pub returns-in_ok-above-in-Eq : goal.returns-in_ok-above-in-Eq
returns-in_ok-above-in-Eq c =
    let a = c.in_ok-below-in-Eq.ensures in
    let b = c.in_ok-above-in-Eq.ensures in
    let d : MatchResult c.two.result (λ rows. rows.items ≡ c.in_ok-below-in-Eq.below ∷ c.in_ok-above-in-Eq.above ∷ []) (λ e. e ≡ OutOfMemory) = c.two.ensures in
    rw c.in-Eq.is (MatchResult-weaker c.two.result d (λ rows h. (first-narrow _ _ a.0 ∙ b.0, h ∙ rw (a.1, b.1) refl)) (λ e h. rw h tt))

pub returns-in_ok-copy-in-Ne : goal.returns-in_ok-copy-in-Ne
returns-in_ok-copy-in-Ne c = rw c.in-Ne.is (MatchResult-weaker c.one-in-Ne.result c.one-in-Ne.ensures (λ rows h. (first_wide-nil, h ∙ rw c.in_ok-copy-in-Ne.ensures refl)) (λ e h. rw h tt))
