-- A fact of each element of a list, and of the element at a place.
use Rattle.std.proofs.Common.{◌<◌, ◌+◌, ℕ, zero, suc, arith, List, [], ◌∷◌, length, get_or, take}
use Rattle.std.specs.List.{AllByRecursion}
use Rattle.std.proofs.lemmas.List.{take_more}
use Rattle.cap_fm_spec.proofs.Lists.{each-join}

pub each-more : {X : Type 0} (P : X → Type 0) (xs : List X) (i : ℕ) (d : X) → i < length xs → P (get_or xs i d) → AllByRecursion P (take i xs) → AllByRecursion P (take (i + 1) xs)
each-more P xs i d l p f = rw (take_more xs i d l) (each-join P (take i xs) (get_or xs i d ∷ []) f (p, tt))

pub each-at : {X : Type 0} (P : X → Type 0) (xs : List X) (i : ℕ) (d : X) → i < length xs → AllByRecursion P xs → P (get_or xs i d)
each-at P [] i d l f = absurd (omega arith)
each-at P (x ∷ xs) zero d l f = f.0
each-at P (x ∷ xs) (suc i) d l f = each-at P xs i d (omega arith) f.1
