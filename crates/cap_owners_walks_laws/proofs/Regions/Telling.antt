-- Parts of a walk that come to something unless a number leaves its bounds, also by whatever regions
-- tell a table; and the regions of a track where one of them is put in its place.
use Rattle.std.proofs.Common.{◌≡◌, ◌≢◌, ◌⊎◌, inl, inr, ℤ, Bool, true, false, List, [], ◌∷◌, cond, Option, Some, refl, sym, ap, ◌∙◌, subst}
use Rattle.std.specs.Prelude.{int_lt, if◌then◌else◌}
use Rattle.cap_lin.specs.Linear.{Linear, same_number}
use Rattle.cap_lin.specs.Values.{value}
use Rattle.cap_machine_accounts.specs.Assertions.{NameValue}
use Rattle.cap_account_resources.specs.Parts.{Table}
use Rattle.cap_account_resources.proofs.Lists.{some-same, none-some}
use Rattle.cap_account_resources.proofs.Order.{same-int, same-refl}
use Rattle.cap_owners_spec.specs.Traced.{Traced, traced, past_width, untold, ◌>>=◌, found, valuation, number_in}
use Rattle.cap_owners_spec.specs.Track.{TrackedRegion, tracked_at}
use Rattle.cap_owners_spec.specs.Walks.{with_region}
use Rattle.cap_owners_walks_laws.proofs.Values.Numbers.{number-is}
use Rattle.cap_owners_walks_laws.proofs.Fills.Drawn.{Tells}
use Rattle.cap_owners_walks_laws.proofs.Values.More.{number-told}

-- ---- told of, or too wide

-- it comes to something of which this holds, or a number leaves its bounds
abbrev pub ToldSo : {A : Type 0} → (A → Type 0) → Traced A → Type 0
ToldSo {A} P o = (o ≡ past_width) ⊎ ((x : A) × (o ≡ traced x) × P x)

pub told-here : {A : Type 0} (P : A → Type 0) (x : A) → P x → ToldSo P (traced x)
told-here P x h = inr (x, refl, h)

-- what is the same comes to the same
pub told-same :
    {A : Type 0} (P : A → Type 0) (o q : Traced A) → o ≡ q → ToldSo P q → ToldSo P o
told-same P o q e h = elim h [
  | inl w ↦ inl (e ∙ w)
  | inr k ↦ inr (k.0, e ∙ k.1, k.2)
]

-- one part after another
pub told-on :
    {A B : Type 0} (P : A → Type 0) (Q : B → Type 0) (o : Traced A) (f : A → Traced B) →
    ToldSo P o → ((x : A) → P x → ToldSo Q (f x)) → ToldSo Q (o >>= f)
told-on P Q o f h k = elim h [
  | inl w ↦ inl (ap (λ q. q >>= f) w)
  | inr x ↦ told-same Q (o >>= f) (f x.0) (ap (λ q. q >>= f) x.1) (k x.0 x.2)
]

pub told-more :
    {A : Type 0} (P Q : A → Type 0) (o : Traced A) → ((x : A) → P x → Q x) → ToldSo P o → ToldSo Q o
told-more P Q o f h = elim h [
  | inl w ↦ inl w
  | inr x ↦ inr (x.0, x.1, f x.0 x.2)
]

-- what comes is known
pub told-known :
    {A B : Type 0} (Q : B → Type 0) (o : Traced A) (x : A) (f : A → Traced B) →
    ToldSo (λ y. y ≡ x) o → ToldSo Q (f x) → ToldSo Q (o >>= f)
told-known Q o x f h k = elim h [
  | inl w ↦ inl (ap (λ q. q >>= f) w)
  | inr y ↦ told-same Q (o >>= f) (f x) (ap (λ q. q >>= f) y.1 ∙ ap f y.2) k
]

-- what is there is found
pub found-so :
    {A : Type 0} (o : Option A) (x : A) → o ≡ Some x → ToldSo (λ y. y ≡ x) (found o)
found-so o x e = inr (x, ap found e, refl)

-- a number is that of the valuation
pub number-so :
    (vs : List NameValue) (t : Linear) →
    ToldSo (λ z. z ≡ value (valuation vs).whole t) (number_in vs t)
number-so vs t = by (number_in vs t) refl
  where
    by :
        (o : Traced ℤ) → number_in vs t ≡ o →
        ToldSo (λ z. z ≡ value (valuation vs).whole t) (number_in vs t)
    by (traced z) e = inr (z, e, number-is vs t z e)
    by past_width e = inl e
    by untold e = absurd (number-told vs t e)

-- ---- by whatever regions tell a table

-- Whichever regions tell the table, a number leaves its bounds; or it comes to the same, of which
-- this holds, unless one does.
abbrev pub ToldFor :
    {A : Type 0} → Table → (A → Type 0) → (List TrackedRegion → Traced A) → Type 0
ToldFor {A} U P f =
    ((rs : List TrackedRegion) → Tells rs U → f rs ≡ past_width)
    ⊎ ((x : A) × P x
    × ((rs : List TrackedRegion) → Tells rs U → (f rs ≡ past_width) ⊎ (f rs ≡ traced x)))

pub for-more :
    {A : Type 0} (U : Table) (P Q : A → Type 0) (f : List TrackedRegion → Traced A) →
    ((x : A) → P x → Q x) → ToldFor U P f → ToldFor U Q f
for-more U P Q f h t = elim t [
  | inl wide ↦ inl wide
  | inr x ↦ inr (x.0, h x.0 x.1, x.2)
]

-- by one of them
pub for-one :
    {A : Type 0} (U : Table) (P : A → Type 0) (f : List TrackedRegion → Traced A) →
    ToldFor U P f → (rs : List TrackedRegion) → Tells rs U → ToldSo P (f rs)
for-one U P f t rs tells = elim t [
  | inl wide ↦ inl (wide rs tells)
  | inr x ↦ elim (x.2 rs tells) [
    | inl wide ↦ inl wide
    | inr e ↦ inr (x.0, e, x.1)
  ]
]

-- and a part that comes to something else of it
pub for-on :
    {A B : Type 0} (U : Table) (P : A → Type 0) (Q : B → Type 0)
    (f : List TrackedRegion → Traced A) (g : List TrackedRegion → Traced B) (h : A → B) →
    ((rs : List TrackedRegion) → Tells rs U → g rs ≡ (f rs >>= λ x. traced (h x))) →
    ((x : A) → P x → Q (h x)) → ToldFor U P f → ToldFor U Q g
for-on U P Q f g h same more t = elim t [
  | inl wide ↦
      inl (λ rs tells. same rs tells ∙ ap (λ o. o >>= λ x. traced (h x)) (wide rs tells))
  | inr x ↦ inr (
    h x.0,
    more x.0 x.1,
    (λ rs tells. elim (x.2 rs tells) [
      | inl wide ↦ inl (same rs tells ∙ ap (λ o. o >>= λ x. traced (h x)) wide)
      | inr e ↦ inr (same rs tells ∙ ap (λ o. o >>= λ x. traced (h x)) e)
    ]),
  )
]

-- ---- a region is put in its place

other-number : (a b : ℤ) → a ≢ b → same_number a b ≡ false
other-number a b ne = by (same_number a b) refl
  where
    by : (t : Bool) → same_number a b ≡ t → same_number a b ≡ false
    by true e = absurd (ne (same-int a b e))
    by false e = e

-- of two regions the first has the number, or the number is another one
first-found :
    (r : TrackedRegion) (rs : List TrackedRegion) →
    tracked_at (r ∷ rs) r.owned.region.number ≡ Some r
first-found r rs =
    ap (λ b. cond b (Some r) (tracked_at rs r.owned.region.number))
    (same-refl r.owned.region.number)

first-skipped :
    (r : TrackedRegion) (rs : List TrackedRegion) (n : ℤ) → r.owned.region.number ≢ n →
    tracked_at (r ∷ rs) n ≡ tracked_at rs n
first-skipped r rs n ne =
    ap (λ b. cond b (Some r) (tracked_at rs n)) (other-number r.owned.region.number n ne)

-- what is found has the number
pub tracked-number :
    (rs : List TrackedRegion) (n : ℤ) (r : TrackedRegion) → tracked_at rs n ≡ Some r →
    r.owned.region.number ≡ n
tracked-number [] n r e = absurd (none-some e)
tracked-number (s ∷ ss) n r e =
    by (same_number s.owned.region.number n) refl e (λ k. tracked-number ss n r k)
  where
    by :
        (b : Bool) → same_number s.owned.region.number n ≡ b →
        cond b (Some s) (tracked_at ss n) ≡ Some r →
        (tracked_at ss n ≡ Some r → r.owned.region.number ≡ n) → r.owned.region.number ≡ n
    by true t q later =
        subst (λ (x : TrackedRegion). x.owned.region.number ≡ n) (some-same s r q)
        (same-int s.owned.region.number n t)
    by false t q later = later q

pub put-here :
    (r : TrackedRegion) (rs : List TrackedRegion) →
    tracked_at (with_region r rs) r.owned.region.number ≡ Some r
put-here r [] = first-found r []
put-here r (s ∷ ss) =
    by (same_number s.owned.region.number r.owned.region.number) refl
    (int_lt r.owned.region.number s.owned.region.number) (put-here r ss)
  where
    by :
        (b : Bool) → same_number s.owned.region.number r.owned.region.number ≡ b → (c : Bool) →
        tracked_at (with_region r ss) r.owned.region.number ≡ Some r →
        tracked_at (if b then r ∷ ss else (if c then r ∷ (s ∷ ss) else s ∷ with_region r ss))
        r.owned.region.number
        ≡ Some r
    by true e c later = first-found r ss
    by false e true later = first-found r (s ∷ ss)
    by false e false later =
        ap (λ b. cond b (Some s) (tracked_at (with_region r ss) r.owned.region.number)) e ∙ later

-- the others stay
pub put-other :
    (r : TrackedRegion) (rs : List TrackedRegion) (n : ℤ) → r.owned.region.number ≢ n →
    tracked_at (with_region r rs) n ≡ tracked_at rs n
put-other r [] n ne = first-skipped r [] n ne
put-other r (s ∷ ss) n ne =
    by (same_number s.owned.region.number r.owned.region.number) refl
    (int_lt r.owned.region.number s.owned.region.number) (put-other r ss n ne)
  where
    by :
        (b : Bool) → same_number s.owned.region.number r.owned.region.number ≡ b → (c : Bool) →
        tracked_at (with_region r ss) n ≡ tracked_at ss n →
        tracked_at (if b then r ∷ ss else (if c then r ∷ (s ∷ ss) else s ∷ with_region r ss)) n
        ≡ tracked_at (s ∷ ss) n
    by true e c later =
        first-skipped r ss n ne
        ∙ sym (first-skipped s ss n
        (λ q. ne (sym (same-int s.owned.region.number r.owned.region.number e) ∙ q)))
    by false e true later = first-skipped r (s ∷ ss) n ne
    by false e false later =
        ap (λ o. cond (same_number s.owned.region.number n) (Some s) o) later
