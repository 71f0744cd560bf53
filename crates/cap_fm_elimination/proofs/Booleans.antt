-- Tests, and what follows from their answers.
use Rattle.std.proofs.Common.{◌≡◌, refl, ◌⊎◌, inl, inr, Bool, true, false}
use Rattle.std.specs.Prelude.{◌||◌, if◌then◌else◌}

pub true_or_false : (b : Bool) → (b ≡ true) ⊎ (b ≡ false)
true_or_false true = inl refl
true_or_false false = inr refl

pub or-later : (a b : Bool) → a ≡ false → (a || b) ≡ true → b ≡ true
or-later true b e h = cc
or-later false b e h = h

pub or-none : (a b : Bool) → (a || b) ≡ false → (a ≡ false) × (b ≡ false)
or-none true b e = cc
or-none false b e = (refl, e)

pub if-true : {A : Type 0} (b : Bool) (x y : A) → b ≡ true → (if b then x else y) ≡ x
if-true true x y e = refl
if-true false x y e = cc

pub if-false : {A : Type 0} (b : Bool) (x y : A) → b ≡ false → (if b then x else y) ≡ y
if-false true x y e = cc
if-false false x y e = refl
