-- An elimination that goes on has gone on through each of its parts.
use Rattle.std.proofs.Common.{◌≡◌, refl}
use Rattle.cap_fm_spec.specs.Runs.{Stage, Found, going, contradiction, Elimination, go_on, ◌>>=◌}

-- what the first part gives, and the second part then
pub record GoesOn {A B : Type 0} (m : Elimination A) (f : A → Elimination B) (s : Stage) (y : B) : Type 0 where
  pub value : A
  pub first : (m s).found ≡ going value
  pub second : (f value (m s).stage).found ≡ going y

pub goes-on : {A B : Type 0} (m : Elimination A) (f : A → Elimination B) (s : Stage) (y : B) → ((m >>= f) s).found ≡ going y → GoesOn m f s y
goes-on {A = A} {B = B} m f s y e = by_found (m s).found refl e
  where
    by_found : (g : Found A) → (m s).found ≡ g → (go_on (m s).events (m s).stage g f).found ≡ going y → GoesOn m f s y
    by_found (going x) d e = record { value = x; first = d; second = e }
    by_found (contradiction c) d e = absurd (clash e)
      where
        clash : ◌≡◌ {A = Found B} (contradiction c) (going y) → ⊥
        clash e = cc
