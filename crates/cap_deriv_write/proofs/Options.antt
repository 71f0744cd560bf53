-- Steps of a reading, taken back.
use Rattle.std.proofs.Common.{◌≡◌, Bool, cond, true, false, ◌⊎◌, inl, inr, Option, Some, None, option_map, option_and_then, refl}

pub some_same : {A : Type 0} (a b : A) → Some a ≡ Some b → a ≡ b
some_same a b e = cc

pub map_of : {A B : Type 0} (f : A → B) (o : Option A) (y : B) → option_map f o ≡ Some y → (x : A) × (o ≡ Some x) × (f x ≡ y)
map_of f None y e = absurd (cc)
map_of f (Some x) y e = (x, refl, some_same _ _ e)

pub then_of : {A B : Type 0} (f : A → Option B) (o : Option A) (y : B) → option_and_then f o ≡ Some y → (x : A) × (o ≡ Some x) × (f x ≡ Some y)
then_of f None y e = absurd (cc)
then_of f (Some x) y e = (x, refl, e)

pub test_of : {A : Type 0} (b : Bool) (x y : Option A) (v : A) → cond b x y ≡ Some v → ((b ≡ true) × (x ≡ Some v)) ⊎ ((b ≡ false) × (y ≡ Some v))
test_of true x y v e = inl (refl, e)
test_of false x y v e = inr (refl, e)
