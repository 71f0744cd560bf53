-- What holds of each element of a list.
use Rattle.std.proofs.Common.{◌≡◌, List, [], ◌∷◌, ◌++◌, Bool, true, false, refl}
use Rattle.std.specs.Prelude.{filter, if◌then◌else◌}
use Rattle.std.specs.List.{AllByRecursion}

pub each-left : {X : Type 0} (P : X → Type 0) (xs ys : List X) → AllByRecursion P (xs ++ ys) → AllByRecursion P xs
each-left P [] ys e = tt
each-left P (x ∷ xs) ys e = (e.0, each-left P xs ys e.1)

pub each-right : {X : Type 0} (P : X → Type 0) (xs ys : List X) → AllByRecursion P (xs ++ ys) → AllByRecursion P ys
each-right P [] ys e = e
each-right P (x ∷ xs) ys e = each-right P xs ys e.1

pub each-join : {X : Type 0} (P : X → Type 0) (xs ys : List X) → AllByRecursion P xs → AllByRecursion P ys → AllByRecursion P (xs ++ ys)
each-join P [] ys a b = b
each-join P (x ∷ xs) ys a b = (a.0, each-join P xs ys a.1 b)

pub each-map : {X : Type 0} (P Q : X → Type 0) (xs : List X) → AllByRecursion P xs → ((x : X) → P x → Q x) → AllByRecursion Q xs
each-map P Q [] e f = tt
each-map P Q (x ∷ xs) e f = (f x e.0, each-map P Q xs e.1 f)

pub each-two : {X : Type 0} (P Q R : X → Type 0) (xs : List X) → AllByRecursion P xs → AllByRecursion Q xs → ((x : X) → P x → Q x → R x) → AllByRecursion R xs
each-two P Q R [] e d f = tt
each-two P Q R (x ∷ xs) e d f = (f x e.0 d.0, each-two P Q R xs e.1 d.1 f)

pub each-any : {X : Type 0} (P : X → Type 0) (xs : List X) → ((x : X) → P x) → AllByRecursion P xs
each-any P [] f = tt
each-any P (x ∷ xs) f = (f x, each-any P xs f)

-- each of some with each of others, the other way round
pub each-flip : {X Y : Type 0} (R : X → Y → Type 0) (xs : List X) (ys : List Y) → AllByRecursion (λ x. AllByRecursion (R x) ys) xs → AllByRecursion (λ y. AllByRecursion (λ x. R x y) xs) ys
each-flip R xs [] e = tt
each-flip R xs (y ∷ ys) e = (each-map _ _ xs e (λ x h. h.0), each-flip R xs ys (each-map _ _ xs e (λ x h. h.1)))

-- those that pass a test
pub each-filter : {X : Type 0} (P : X → Type 0) (f : X → Bool) (xs : List X) → AllByRecursion P xs → AllByRecursion P (filter f xs)
each-filter P f [] e = tt
each-filter P f (x ∷ xs) e = by_test (f x) e.0 (each-filter P f xs e.1)
  where
    by_test : (b : Bool) → P x → AllByRecursion P (filter f xs) → AllByRecursion P (if b then x ∷ filter f xs else filter f xs)
    by_test true p r = (p, r)
    by_test false p r = r

pub filter-passes : {X : Type 0} (f : X → Bool) (xs : List X) → AllByRecursion (λ x. f x ≡ true) (filter f xs)
filter-passes f [] = tt
filter-passes f (x ∷ xs) = by_test (f x) refl (filter-passes f xs)
  where
    by_test : (b : Bool) → f x ≡ b → AllByRecursion (λ y. f y ≡ true) (filter f xs) → AllByRecursion (λ y. f y ≡ true) (if b then x ∷ filter f xs else filter f xs)
    by_test true e r = (e, r)
    by_test false e r = r
