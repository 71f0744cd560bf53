-- A difference of two forms, of which the negative of the second is made first.
use Rattle.std.proofs.Common.{◌≡◌, ◌∙◌, None}
use Rattle.std.specs.Prelude.{Result}
use Rattle.std.proofs.lemmas.Result.{MatchResult-weaker}
use Rattle.cap_lin.specs.Linear.{Linear, plus, negative, minus}
use Rattle.cap_lin.specs.Steps.{first_wide, plus_steps, negative_steps, minus_steps}
use Rattle.cap_lin.specs.Exact.{IsExactBy}
use Rattle.cap_lin.specs.declared.error.LinError.{LinError}
use Rattle.cap_lin.proofs.Results.{first-narrow, explains_later}

pub minus_after : {T : Type 0} (r : Result T LinError) (view : T → Linear) (s t n : Linear) → first_wide (negative_steps t) ≡ None → n ≡ negative t → IsExactBy r view (plus_steps s n) (plus s n) → IsExactBy r view (minus_steps s t) (minus s t)
unfolding minus_steps
minus_after r view s t n h e x =
    let y : IsExactBy r view (plus_steps s (negative t)) (plus s (negative t)) = rw e at x in
    MatchResult-weaker r y (λ m k. (first-narrow (negative_steps t) _ h ∙ k.0, k.1)) (λ m k. explains_later m (negative_steps t) _ h k)
