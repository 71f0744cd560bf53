-- Lists by index.
use Rattle.std.proofs.Common.{◌≡◌, ◌≢◌, ℕ, zero, suc, ◌+◌, ◌<◌, List, [], ◌∷◌, ◌++◌, length, map, Some, None, refl, ap, subst, ◌∙◌, ◌⊎◌, inl, inr, arith}
use Rattle.std.specs.Prelude.{slice_get, slice_set, get_or, remove}
use Rattle.std.specs.List.{AllByRecursion}

pub some-same : {A : Type 0} (x y : A) → Some x ≡ Some y → x ≡ y
some-same x y e = cc

pub none-some : {A : Type 0} {x : A} → None ≡ Some x → ⊥
none-some e = cc

pub within : {A : Type 0} (xs : List A) (k : ℕ) (z : A) → slice_get xs k ≡ Some z → k < length xs
within [] k z e = absurd (cc)
within (x ∷ xs) zero z e = omega arith
within (x ∷ xs) (suc k) z e = omega (arith, within xs k z e)

pub there-is :
    {A : Type 0} (xs : List A) (k : ℕ) → k < length xs → (z : A) × (slice_get xs k ≡ Some z)
there-is [] k h = absurd (omega (arith, h))
there-is (x ∷ xs) zero h = (x, refl)
there-is (x ∷ xs) (suc k) h = there-is xs k (omega (arith, h))

pub get-set-same :
    {A : Type 0} (xs : List A) (i : ℕ) (x : A) → i < length xs →
    slice_get (slice_set xs i x) i ≡ Some x
get-set-same [] i x h = absurd (omega (arith, h))
get-set-same (z ∷ xs) zero x h = refl
get-set-same (z ∷ xs) (suc i) x h = get-set-same xs i x (omega (arith, h))

pub get-set-other :
    {A : Type 0} (xs : List A) (i j : ℕ) (x : A) → j ≢ i →
    slice_get (slice_set xs i x) j ≡ slice_get xs j
get-set-other [] i j x ne = refl
get-set-other (z ∷ xs) zero zero x ne = absurd (ne refl)
get-set-other (z ∷ xs) zero (suc j) x ne = refl
get-set-other (z ∷ xs) (suc i) zero x ne = refl
get-set-other (z ∷ xs) (suc i) (suc j) x ne = get-set-other xs i j x (λ e. ne (ap suc e))

pub set-length : {A : Type 0} (xs : List A) (i : ℕ) (x : A) → length (slice_set xs i x) ≡ length xs
set-length [] i x = refl
set-length (z ∷ xs) zero x = refl
set-length (z ∷ xs) (suc i) x = ap suc (set-length xs i x)

pub get-or-set :
    {A : Type 0} (xs : List A) (i : ℕ) (x d : A) → i < length xs → get_or (slice_set xs i x) i d ≡ x
get-or-set [] i x d h = absurd (omega (arith, h))
get-or-set (z ∷ xs) zero x d h = refl
get-or-set (z ∷ xs) (suc i) x d h = get-or-set xs i x d (omega (arith, h))

pub get-or-other :
    {A : Type 0} (xs : List A) (i j : ℕ) (x d : A) → j ≢ i →
    get_or (slice_set xs i x) j d ≡ get_or xs j d
get-or-other [] i j x d ne = refl
get-or-other (z ∷ xs) zero zero x d ne = absurd (ne refl)
get-or-other (z ∷ xs) zero (suc j) x d ne = refl
get-or-other (z ∷ xs) (suc i) zero x d ne = refl
get-or-other (z ∷ xs) (suc i) (suc j) x d ne = get-or-other xs i j x d (λ e. ne (ap suc e))

pub get-or-push : {A : Type 0} (xs : List A) (x d : A) → get_or (xs ++ x ∷ []) (length xs) d ≡ x
get-or-push [] x d = refl
get-or-push (y ∷ xs) x d = get-or-push xs x d

pub push-length : {A : Type 0} (xs : List A) (x : A) → length (xs ++ x ∷ []) ≡ length xs + 1
push-length [] x = refl
push-length (y ∷ xs) x = let q = push-length xs x in omega (arith, q)

-- an element of a joined list is of the one or of the other
pub get-join :
    {A : Type 0} (xs ys : List A) (k : ℕ) (z : A) → slice_get (xs ++ ys) k ≡ Some z →
    (slice_get xs k ≡ Some z) ⊎ ((j : ℕ) × (k ≡ length xs + j) × (slice_get ys j ≡ Some z))
get-join [] ys k z e = inr (k, omega arith, e)
get-join (x ∷ xs) ys zero z e = inl e
get-join (x ∷ xs) ys (suc k) z e =
    elim (get-join xs ys k z e)
    [ inl h ↦ inl h | inr h ↦ inr (h.0, (let q = h.1 in omega (arith, q)), h.2) ]

pub get-first :
    {A : Type 0} (xs ys : List A) (k : ℕ) (z : A) → slice_get xs k ≡ Some z →
    slice_get (xs ++ ys) k ≡ Some z
get-first [] ys k z e = absurd (cc)
get-first (x ∷ xs) ys zero z e = e
get-first (x ∷ xs) ys (suc k) z e = get-first xs ys k z e

pub get-second :
    {A : Type 0} (xs ys : List A) (j : ℕ) → slice_get (xs ++ ys) (length xs + j) ≡ slice_get ys j
get-second [] ys j = ap (slice_get ys) zero-plus
  where
    zero-plus : 0 + j ≡ j
    zero-plus = omega arith
get-second (x ∷ xs) ys j = ap (slice_get ((x ∷ xs) ++ ys)) suc-plus ∙ get-second xs ys j
  where
    suc-plus : suc (length xs) + j ≡ suc (length xs + j)
    suc-plus = omega arith

pub get-last : {A : Type 0} (xs : List A) (x : A) → slice_get (xs ++ x ∷ []) (length xs) ≡ Some x
get-last [] x = refl
get-last (y ∷ xs) x = get-last xs x

pub get-map :
    {A B : Type 0} (f : A → B) (xs : List A) (k : ℕ) (z : B) → slice_get (map f xs) k ≡ Some z →
    (x : A) × (slice_get xs k ≡ Some x) × (f x ≡ z)
get-map f [] k z e = absurd (cc)
get-map f (x ∷ xs) zero z e = (x, refl, some-same (f x) z e)
get-map f (x ∷ xs) (suc k) z e = get-map f xs k z e

pub map-at :
    {A B : Type 0} (f : A → B) (xs : List A) (i : ℕ) (x : A) → slice_get xs i ≡ Some x →
    slice_get (map f xs) i ≡ Some (f x)
map-at f [] i x e = absurd (cc)
map-at f (y ∷ xs) zero x e = ap (λ z. Some (f z)) (some-same y x e)
map-at f (y ∷ xs) (suc i) x e = map-at f xs i x e

pub map-length : {A B : Type 0} (f : A → B) (xs : List A) → length (map f xs) ≡ length xs
map-length f [] = refl
map-length f (x ∷ xs) = ap suc (map-length f xs)

pub map-set :
    {A B : Type 0} (f : A → B) (xs : List A) (i : ℕ) (x : A) →
    map f (slice_set xs i x) ≡ slice_set (map f xs) i (f x)
map-set f [] i x = refl
map-set f (y ∷ xs) zero x = refl
map-set f (y ∷ xs) (suc i) x = ap (λ zs. f y ∷ zs) (map-set f xs i x)

pub join-nil : {A : Type 0} (xs : List A) → xs ++ [] ≡ xs
join-nil [] = refl
join-nil (x ∷ xs) = ap (λ us. x ∷ us) (join-nil xs)

pub join-assoc : {A : Type 0} (xs ys zs : List A) → xs ++ (ys ++ zs) ≡ (xs ++ ys) ++ zs
join-assoc [] ys zs = refl
join-assoc (x ∷ xs) ys zs = ap (λ us. x ∷ us) (join-assoc xs ys zs)

pub map-join : {A B : Type 0} (f : A → B) (xs ys : List A) → map f (xs ++ ys) ≡ map f xs ++ map f ys
map-join f [] ys = refl
map-join f (x ∷ xs) ys = ap (λ zs. f x ∷ zs) (map-join f xs ys)

-- ---- what holds of each element

pub all-more :
    {X : Type 0} (P Q : X → Type 0) → ((x : X) → P x → Q x) → (xs : List X) → AllByRecursion P xs →
    AllByRecursion Q xs
all-more P Q f [] h = tt
all-more P Q f (x ∷ xs) h = (f x h.0, all-more P Q f xs h.1)

pub all-both :
    {X : Type 0} (P : X → Type 0) (xs ys : List X) → AllByRecursion P xs → AllByRecursion P ys →
    AllByRecursion P (xs ++ ys)
all-both P [] ys h k = k
all-both P (x ∷ xs) ys h k = (h.0, all-both P xs ys h.1 k)

pub all-first :
    {X : Type 0} (P : X → Type 0) (xs ys : List X) → AllByRecursion P (xs ++ ys) →
    AllByRecursion P xs
all-first P [] ys h = tt
all-first P (x ∷ xs) ys h = (h.0, all-first P xs ys h.1)

pub all-second :
    {X : Type 0} (P : X → Type 0) (xs ys : List X) → AllByRecursion P (xs ++ ys) →
    AllByRecursion P ys
all-second P [] ys h = h
all-second P (x ∷ xs) ys h = all-second P xs ys h.1

pub all-remove :
    {X : Type 0} (P : X → Type 0) (xs : List X) (j : ℕ) → AllByRecursion P xs →
    AllByRecursion P (remove xs j)
all-remove P [] zero h = tt
all-remove P [] (suc j) h = tt
all-remove P (x ∷ xs) zero h = h.1
all-remove P (x ∷ xs) (suc j) h = (h.0, all-remove P xs j h.1)

pub all-at :
    {X : Type 0} (P : X → Type 0) (xs : List X) (j : ℕ) (x : X) → AllByRecursion P xs →
    slice_get xs j ≡ Some x → P x
all-at P [] j x h e = absurd (none-some e)
all-at P (y ∷ xs) zero x h e = subst P (some-same y x e) h.0
all-at P (y ∷ xs) (suc j) x h e = all-at P xs j x h.1 e

-- of a list's images
pub all-map :
    {A B : Type 0} (f : A → B) (P : B → Type 0) (xs : List A) → AllByRecursion (λ x. P (f x)) xs →
    AllByRecursion P (map f xs)
all-map f P [] h = tt
all-map f P (x ∷ xs) h = (h.0, all-map f P xs h.1)

pub all-unmap :
    {A B : Type 0} (f : A → B) (P : B → Type 0) (xs : List A) → AllByRecursion P (map f xs) →
    AllByRecursion (λ x. P (f x)) xs
all-unmap f P [] h = tt
all-unmap f P (x ∷ xs) h = (h.0, all-unmap f P xs h.1)

-- where one is replaced
pub all-set :
    {X : Type 0} (P : X → Type 0) (xs : List X) (i : ℕ) (y : X) → AllByRecursion P xs → P y →
    AllByRecursion P (slice_set xs i y)
all-set P [] i y h k = tt
all-set P (x ∷ xs) zero y h k = (k, h.1)
all-set P (x ∷ xs) (suc i) y h k = (h.0, all-set P xs i y h.1 k)

-- ---- members of lists

abbrev pub Among : {X : Type 0} → X → List X → Type 0
Among x [] = ⊥
Among x (y ∷ ys) = (y ≡ x) ⊎ Among x ys

pub among-left : {X : Type 0} (x : X) (xs ys : List X) → Among x xs → Among x (xs ++ ys)
among-left x [] ys h = absurd h
among-left x (y ∷ xs) ys h = elim h [ inl e ↦ inl e | inr k ↦ inr (among-left x xs ys k) ]

pub among-right : {X : Type 0} (x : X) (xs ys : List X) → Among x ys → Among x (xs ++ ys)
among-right x [] ys h = h
among-right x (y ∷ xs) ys h = inr (among-right x xs ys h)

pub among-either :
    {X : Type 0} (x : X) (xs ys : List X) → Among x (xs ++ ys) → Among x xs ⊎ Among x ys
among-either x [] ys h = inr h
among-either x (y ∷ xs) ys h = elim h [
  | inl e ↦ inl (inl e)
  | inr k ↦ elim (among-either x xs ys k) [ inl m ↦ inl (inr m) | inr m ↦ inr m ]
]
