-- Lists of pieces that follow one another.
use Rattle.std.proofs.Common.{◌≡◌, ℕ, ◌+◌, arith, sym, ap, ◌∙◌, List, ◌++◌, map, append_assoc, Result, Ok, Err}
use Rattle.std.proofs.lemmas.List.{map-append}
use Rattle.std.specs.Prelude.{MatchResult}
use Rattle.cap_lin.specs.declared.error.LinError.{LinError}
use Rattle.cap_lin.specs.declared.error.LinError.TheVariants.{OutOfMemory}

-- what comes second begins behind what came first
pub pushed-twice : {A B : Type 0} (f : A → B) (forms : ℕ → List A) (r : Result ℕ LinError) (before between after : List B) (xs : List A) (first second n m : ℕ)
    → second ≡ first + n → between ≡ before ++ map f xs → MatchResult r (λ next. (next ≡ second + m) × (after ≡ between ++ map f (forms second))) (λ e. e ≡ OutOfMemory)
    → MatchResult r (λ next. (next ≡ first + (n + m)) × (after ≡ before ++ map f (xs ++ forms (first + n)))) (λ e. e ≡ OutOfMemory)
pushed-twice f forms (Ok next) before between after xs first second n m p q h =
    (omega (arith, h.0), h.1 ∙ ap (λ l. l ++ map f (forms second)) q ∙ append_assoc before (map f xs) (map f (forms second)) ∙ ap (λ l. before ++ l) (sym (map-append f xs (forms second))) ∙ ap (λ k. before ++ map f (xs ++ forms k)) p)
pushed-twice f forms (Err e) before between after xs first second n m p q h = h

-- and what comes second adds nothing to the list
pub pushed-once : {P : Type 0} (r : Result ℕ LinError) (first second n m : ℕ) → second ≡ first + n → P → MatchResult r (λ next. next ≡ second + m) (λ e. e ≡ OutOfMemory)
    → MatchResult r (λ next. (next ≡ first + (n + m)) × P) (λ e. e ≡ OutOfMemory)
pushed-once (Ok next) first second n m p q h = (omega arith, q)
pushed-once (Err e) first second n m p q h = h
