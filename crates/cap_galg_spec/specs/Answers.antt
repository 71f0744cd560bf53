-- What composition answers.
use Rattle.std.specs.Prelude.{◌≡◌, ◌≢◌, true, false, Option, Some, None, Result, Ok, Err}
use Rattle.cap_galg_spec.specs.Elements.{Element, compose, is_wide}
use Rattle.cap_galg_spec.specs.declared.error.GuardError.{GuardError}
use Rattle.cap_galg_spec.specs.declared.error.GuardError.TheVariants.{Wide, OutOfMemory}

-- nothing exactly where the composition is undefined, and Wide exactly where it is defined and a
-- number in it passes 64 bits; want of memory may come in each case
abbrev pub IsComposition : {T : Type 0} → (T → Element) → Element → Element
    → Result (Option T) GuardError → Type 0
IsComposition view x y (Ok None) = compose x y ≡ None
IsComposition view x y (Ok (Some z)) = (compose x y ≡ Some (view z)) × (is_wide x y ≡ false)
IsComposition view x y (Err Wide) = (compose x y ≢ None) × (is_wide x y ≡ true)
IsComposition view x y (Err OutOfMemory) = Unit {0}

abbrev pub OnComposite : {T : Type 0} → Result (Option T) GuardError → (T → Type 0) → Type 0
OnComposite (Ok (Some z)) P = P z
OnComposite _ P = Unit {0}

-- the answers for two parts, as one answer: nothing where either is nothing, else want of memory,
-- else Wide
abbrev pub answer_of_both : {A B : Type 0} → Result (Option A) GuardError
    → Result (Option B) GuardError → Result (Option (A × B)) GuardError
answer_of_both (Ok None) s = Ok None
answer_of_both (Ok (Some x)) (Ok None) = Ok None
answer_of_both (Ok (Some x)) (Ok (Some y)) = Ok (Some (x, y))
answer_of_both (Ok (Some x)) (Err e) = Err e
answer_of_both (Err OutOfMemory) s = Err OutOfMemory
answer_of_both (Err Wide) (Ok None) = Ok None
answer_of_both (Err Wide) (Ok (Some y)) = Err Wide
answer_of_both (Err Wide) (Err e) = Err e
