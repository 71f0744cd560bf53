-- A product of two terms with variables.
use Rattle.std.proofs.Common.{◌≡◌, ℕ, ℤ, pos, List, [], ◌∷◌, length, refl, false, true≢false, None}
use Rattle.std.specs.Prelude.{◌==◌}
use Rattle.cap_lin.specs.Linear.{Linear, number}
use Rattle.cap_lin.specs.Steps.{first_wide}
use Rattle.cap_lin.proofs.Results.{first_wide-nil}
use Rattle.cap_resolve_spec.specs.Linear.{product_by_parts, product_steps_by}

pub two-steps : (a b : Linear) (ps qs : List (ℕ × ℤ)) → (length ps == 0) ≡ false → (length qs == 0) ≡ false → first_wide (product_steps_by a b ps qs) ≡ None
two-steps a b [] qs h k = absurd (true≢false h)
two-steps a b (p ∷ ps) [] h k = absurd (true≢false k)
two-steps a b (p ∷ ps) (q ∷ qs) h k = first_wide-nil

pub two-names : (a b : Linear) (ps qs : List (ℕ × ℤ)) → (length ps == 0) ≡ false → (length qs == 0) ≡ false → product_by_parts a b ps qs ≡ number (pos 0)
two-names a b [] qs h k = absurd (true≢false h)
two-names a b (p ∷ ps) [] h k = absurd (true≢false k)
two-names a b (p ∷ ps) (q ∷ qs) h k = refl
