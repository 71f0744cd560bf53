-- A term with another one in the place of a variable: its results and the term that they make.
use Rattle.std.proofs.Common.{◌≡◌, ℕ, ℤ, pos, [], ◌++◌, refl, ◌∙◌, None, false}
use Rattle.cap_lin.specs.Linear.{Linear, is_zero, coefficient, plus, times, without, replaced}
use Rattle.cap_lin.specs.Steps.{first_wide, plus_steps, times_steps, replaced_steps}
use Rattle.cap_lin.specs.Exact.{Explains}
use Rattle.cap_lin.specs.declared.error.LinError.{LinError}
use Rattle.cap_lin.proofs.Results.{is_zero-yes, is_zero-no, first_wide-nil, first-narrow, explains_first, explains_later}

steps-none : (x : ℕ) (by t : Linear) → coefficient x t.parts ≡ pos 0 → replaced_steps x by t ≡ []
unfolding replaced_steps
steps-none x by t e = rw (is_zero-yes _ e) refl

steps-some : (x : ℕ) (by t : Linear) (k : ℤ) → k ≡ coefficient x t.parts → (k ≡ pos 0 → ⊥) → replaced_steps x by t ≡ times_steps k by ++ plus_steps (without x t) (times k by)
unfolding replaced_steps
steps-some x by t k e n = let z : is_zero (coefficient x t.parts) ≡ false = rw (← e) (is_zero-no k n) in rw (z, e) refl

pub replaced-none : (x : ℕ) (by t : Linear) → coefficient x t.parts ≡ pos 0 → replaced x by t ≡ t
unfolding replaced
replaced-none x by t e = rw (is_zero-yes _ e) refl

pub replaced-some : (x : ℕ) (by t : Linear) (k : ℤ) → k ≡ coefficient x t.parts → (k ≡ pos 0 → ⊥) → replaced x by t ≡ plus (without x t) (times k by)
unfolding replaced
replaced-some x by t k e n = let z : is_zero (coefficient x t.parts) ≡ false = rw (← e) (is_zero-no k n) in rw (z, e) refl

pub nothing-wide : (x : ℕ) (by t : Linear) → coefficient x t.parts ≡ pos 0 → first_wide (replaced_steps x by t) ≡ None
nothing-wide x by t e = rw (steps-none x by t e) first_wide-nil

pub wide-in_multiple : (x : ℕ) (by t : Linear) (k : ℤ) (e : LinError) → k ≡ coefficient x t.parts → (k ≡ pos 0 → ⊥) → Explains e (times_steps k by) → Explains e (replaced_steps x by t)
wide-in_multiple x by t k e q n h = rw (steps-some x by t k q n) (explains_first e _ _ h)

pub wide-in_sum : (x : ℕ) (by t : Linear) (k : ℤ) (e : LinError) → k ≡ coefficient x t.parts → (k ≡ pos 0 → ⊥) → first_wide (times_steps k by) ≡ None → Explains e (plus_steps (without x t) (times k by)) → Explains e (replaced_steps x by t)
wide-in_sum x by t k e q n m h = rw (steps-some x by t k q n) (explains_later e _ _ m h)

pub narrow : (x : ℕ) (by t : Linear) (k : ℤ) → k ≡ coefficient x t.parts → (k ≡ pos 0 → ⊥) → first_wide (times_steps k by) ≡ None → first_wide (plus_steps (without x t) (times k by)) ≡ None → first_wide (replaced_steps x by t) ≡ None
narrow x by t k q n m h = rw (steps-some x by t k q n) (first-narrow _ _ m ∙ h)
