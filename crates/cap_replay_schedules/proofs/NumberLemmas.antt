-- Digits whose number is past the limit.
use Rattle.std.proofs.Common.{◌≡◌, ap, refl, ℕ, ◌+◌, ◌-◌, ◌*◌, ◌<◌, ◌≤◌, Bool, true, false, cond, nat_le, List, [], ◌∷◌, length, get_or, arith}
use Rattle.std.specs.Prelude.{Option, Some, None}
use Rattle.std.proofs.lemmas.Bool.Decides.{nat_tests}
use Rattle.cap_replay_schedules.specs.Numbers.{is_digit, more_digits}

either : (t : Bool) (o : Option ℕ) → o ≡ None → cond t o None ≡ None
either true o e = e
either false o e = refl

too_large : (limit n : ℕ) (bs : List ℕ) → limit < n → more_digits limit n bs ≡ None
too_large limit n [] l = let e : nat_le n limit ≡ false = grind (arith, nat_tests) in ap (λ t. cond t (Some n) None) e
too_large limit n (b ∷ bs) l = either (is_digit b) _ (too_large limit (n * 10 + (b - 48)) bs (omega arith))

pub past_limit : (limit value : ℕ) (ds : List ℕ) → 1 ≤ length ds → limit < value * 10 + (get_or ds 0 0 - 48) → more_digits limit value ds ≡ None
past_limit limit value [] l h = absurd (omega arith)
past_limit limit value (b ∷ bs) l h = either (is_digit b) _ (too_large limit (value * 10 + (b - 48)) bs h)
