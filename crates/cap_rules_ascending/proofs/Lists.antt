-- What holds of each member of a list.
use Rattle.std.proofs.Common.{ℕ, zero, suc, Bool, true, false, List, [], ◌∷◌, ◌++◌, map, flat_map, drop, take, Option, Some, None, get_or}
use Rattle.std.specs.Prelude.{slice_get, slice_set, remove, find, filter, cond, if◌then◌else◌, option_to_list}
use Rattle.std.specs.List.{AllByRecursion}

abbrev pub IfSome : {A : Type 0} → (A → Type 0) → Option A → Type 0
IfSome P None = Unit {0}
IfSome P (Some x) = P x

pub all-join : {X : Type 0} (P : X → Type 0) (xs ys : List X) → AllByRecursion P xs → AllByRecursion P ys → AllByRecursion P (xs ++ ys)
all-join P [] ys h k = k
all-join P (x ∷ xs) ys h k = (h.0, all-join P xs ys h.1 k)

pub all-cons : {X : Type 0} (P : X → Type 0) (x : X) (xs : List X) → P x → AllByRecursion P xs → AllByRecursion P (x ∷ xs)
all-cons P x xs h k = (h, k)

pub all-last : {X : Type 0} (P : X → Type 0) (xs : List X) (x : X) → AllByRecursion P xs → P x → AllByRecursion P (xs ++ x ∷ [])
all-last P xs x h k = all-join P xs (x ∷ []) h (k, tt)

pub all-get : {X : Type 0} (P : X → Type 0) (xs : List X) (n : ℕ) → AllByRecursion P xs → IfSome P (slice_get xs n)
all-get P [] n h = tt
all-get P (x ∷ xs) zero h = h.0
all-get P (x ∷ xs) (suc n) h = all-get P xs n h.1

pub all-get-or : {X : Type 0} (P : X → Type 0) (xs : List X) (n : ℕ) (d : X) → AllByRecursion P xs → P d → P (get_or xs n d)
all-get-or P [] n d h k = k
all-get-or P (x ∷ xs) zero d h k = h.0
all-get-or P (x ∷ xs) (suc n) d h k = all-get-or P xs n d h.1 k

pub all-set : {X : Type 0} (P : X → Type 0) (xs : List X) (n : ℕ) (y : X) → AllByRecursion P xs → P y → AllByRecursion P (slice_set xs n y)
all-set P [] n y h k = tt
all-set P (x ∷ xs) zero y h k = (k, h.1)
all-set P (x ∷ xs) (suc n) y h k = (h.0, all-set P xs n y h.1 k)

pub all-take : {X : Type 0} (P : X → Type 0) (n : ℕ) (xs : List X) → AllByRecursion P xs → AllByRecursion P (take n xs)
all-take P zero xs h = tt
all-take P (suc n) [] h = tt
all-take P (suc n) (x ∷ xs) h = (h.0, all-take P n xs h.1)

pub all-drop : {X : Type 0} (P : X → Type 0) (n : ℕ) (xs : List X) → AllByRecursion P xs → AllByRecursion P (drop n xs)
all-drop P zero xs h = h
all-drop P (suc n) [] h = tt
all-drop P (suc n) (x ∷ xs) h = all-drop P n xs h.1

pub all-remove : {X : Type 0} (P : X → Type 0) (xs : List X) (n : ℕ) → AllByRecursion P xs → AllByRecursion P (remove xs n)
all-remove P xs n h = all-join P (take n xs) (drop (suc n) xs) (all-take P n xs h) (all-drop P (suc n) xs h)

pub all-find : {X : Type 0} (P : X → Type 0) (test : X → Bool) (xs : List X) → AllByRecursion P xs → IfSome P (find test xs)
all-find P test [] h = tt
all-find P test (x ∷ xs) h = by_test (test x) h.0 (all-find P test xs h.1)
  where
    by_test : (b : Bool) → P x → IfSome P (find test xs) → IfSome P (cond b (Some x) (find test xs))
    by_test true h k = h
    by_test false h k = k

pub all-filter : {X : Type 0} (P : X → Type 0) (test : X → Bool) (xs : List X) → AllByRecursion P xs → AllByRecursion P (filter test xs)
all-filter P test [] h = tt
all-filter P test (x ∷ xs) h = by_test (test x) h.0 (all-filter P test xs h.1)
  where
    by_test : (b : Bool) → P x → AllByRecursion P (filter test xs) → AllByRecursion P (if b then x ∷ filter test xs else filter test xs)
    by_test true h k = (h, k)
    by_test false h k = k

pub all-map : {X Y : Type 0} (P : X → Type 0) (Q : Y → Type 0) (f : X → Y) → ((x : X) → P x → Q (f x)) → (xs : List X) → AllByRecursion P xs → AllByRecursion Q (map f xs)
all-map P Q f k [] h = tt
all-map P Q f k (x ∷ xs) h = (k x h.0, all-map P Q f k xs h.1)

pub all-flat : {X Y : Type 0} (P : X → Type 0) (Q : Y → Type 0) (f : X → List Y) → ((x : X) → P x → AllByRecursion Q (f x)) → (xs : List X) → AllByRecursion P xs → AllByRecursion Q (flat_map f xs)
all-flat P Q f k [] h = tt
all-flat P Q f k (x ∷ xs) h = all-join Q (f x) (flat_map f xs) (k x h.0) (all-flat P Q f k xs h.1)

pub all-any : {X : Type 0} (P : X → Type 0) → ((x : X) → P x) → (xs : List X) → AllByRecursion P xs
all-any P k [] = tt
all-any P k (x ∷ xs) = (k x, all-any P k xs)

pub all-option : {X : Type 0} (P : X → Type 0) (o : Option X) → IfSome P o → AllByRecursion P (option_to_list o)
all-option P None h = tt
all-option P (Some x) h = (h, tt)
