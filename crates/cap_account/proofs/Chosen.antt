-- Owners by number, and sums over the chosen ones of a list.
use Rattle.cap_account_resources.proofs.Lists.{all-map, Among, all-more, all-both}
use Rattle.std.proofs.Common.{◌≡◌, ◌≢◌, ◌⊎◌, inl, inr, ℤ, Bool, true, false, List, [], ◌∷◌, ◌++◌, map, Option, Some, None, refl, sym, ap, ◌∙◌, subst}
use Rattle.std.specs.Prelude.{filter, not, ◌||◌, if◌then◌else◌, option_map}
use Rattle.std.specs.List.{AllByRecursion, list_any}
use Rattle.cap_lin.specs.Linear.{same_number}
use Rattle.cap_prog.specs.Program.{PlainProgram}
use Rattle.cap_machine_accounts.specs.Accounts.{EachTwo}
use Rattle.cap_account_resources.proofs.Order.{same-int, other-int}
use Rattle.cap_account_resources.proofs.Monoid.{atom as at, both as plus}
use Rattle.cap_account_resources.proofs.Stocks.{Stock, no_stock, both, all_of, Inside, stock-laws, none-right, reordered, inside-same, inside-both}
use Rattle.cap_account_resources.proofs.Owners.{Owner, owned, numbers_of}
use Rattle.cap_account_steps.proofs.Worlds.{Differ}
use Rattle.cap_account.proofs.Stocked.{sum_by, owner_at, stock_or_none, share_by}

-- ---- members of lists

pub members : {A : Type 0} (xs : List A) → AllByRecursion (λ x. Among x xs) xs
members [] = tt
members (x ∷ xs) = (
  inl refl,
  all-more (λ y. Among y xs) (λ y. Among y (x ∷ xs)) (λ y m. inr m) xs (members xs),
)

pub of-member :
    {A : Type 0} (P : A → Type 0) (x : A) (xs : List A) → Among x xs → AllByRecursion P xs → P x
of-member P x [] m h = absurd m
of-member P x (y ∷ xs) (inl e) h = subst P e h.0
of-member P x (y ∷ xs) (inr m) h = of-member P x xs m h.1

pub each-two-mapped :
    {A B : Type 0} (f : A → B) (R : B → B → Type 0) (xs : List A) →
    EachTwo (λ x y. R (f x) (f y)) xs → EachTwo R (map f xs)
each-two-mapped f R [] h = tt
each-two-mapped f R (x ∷ xs) h =
    (all-map f (R (f x)) xs h.0, each-two-mapped f R xs h.1)

-- ---- numbers that are tested

pub test :
    (a b : ℤ) →
    ((a ≡ b) × (same_number a b ≡ true)) ⊎ ((a ≢ b) × (same_number a b ≡ false))
test a b = by (same_number a b) refl
  where
    by :
        (t : Bool) → same_number a b ≡ t →
        ((a ≡ b) × (same_number a b ≡ true)) ⊎ ((a ≢ b) × (same_number a b ≡ false))
    by true q = inl (same-int a b q, q)
    by false q = inr (other-int a b q, q)

abbrev pub has_number : List ℤ → ℤ → Bool
has_number ns n = list_any (same_number n) ns

pub test-all :
    (n : ℤ) (ns : List ℤ) →
    (Among n ns × (has_number ns n ≡ true)) ⊎ ((Among n ns → ⊥) × (has_number ns n ≡ false))
test-all n [] = inr (λ m. m, refl)
test-all n (k ∷ ns) = elim (test n k) [
  | inl t ↦ inl (inl (sym t.0), ap (λ b. b || has_number ns n) t.1)
  | inr t ↦
      let here = ap (λ b. b || has_number ns n) t.1 in
      elim (test-all n ns) [
        | inl h ↦ inl (inr h.0, here ∙ h.1)
        | inr h ↦ inr (λ m. elim m [ inl e ↦ t.0 (sym e) | inr k ↦ h.0 k ], here ∙ h.1)
      ]
]

-- ---- owners by number

-- the list has an owner of this number, or none
pub data Looked (rs : List Owner) (n : ℤ) : Type 0 where
  found : (r : Owner) → Among r rs → r.number ≡ n → owner_at rs n ≡ Some r → Looked rs n
  missing : (Among n (numbers_of rs) → ⊥) → owner_at rs n ≡ None → Looked rs n

pub look : (rs : List Owner) (n : ℤ) → Looked rs n
look [] n = missing (λ m. m) refl
look (y ∷ rs) n = elim (test y.number n) [
  | inl t ↦ found y (inl refl) t.0 (ap (λ b. if b then Some y else owner_at rs n) t.1)
  | inr t ↦
      let here = ap (λ b. if b then Some y else owner_at rs n) t.1 in
      elim (look rs n) [
        | found r m e q ↦ found r (inr m) e (here ∙ q)
        | missing f q ↦
            missing (λ m. elim m [ inl e ↦ t.0 e | inr k ↦ f k ]) (here ∙ q)
      ]
]

abbrev pub Apart : List Owner → Type 0
Apart rs = EachTwo (λ r s. r.number ≢ s.number) rs

pub at-itself :
    (rs : List Owner) → Apart rs → (r : Owner) → Among r rs → owner_at rs r.number ≡ Some r
at-itself [] d r m = absurd m
at-itself (y ∷ rs) d r m = elim (test y.number r.number) [
  | inl t ↦ elim m [
    | inl e ↦ ap (λ b. if b then Some y else owner_at rs r.number) t.1 ∙ ap Some e
    | inr k ↦ absurd (of-member (λ s. y.number ≢ s.number) r rs k d.0 t.0)
  ]
  | inr t ↦ elim m [
    | inl e ↦ absurd (t.0 (ap (λ (s : Owner). s.number) e))
    | inr k ↦
        ap (λ b. if b then Some y else owner_at rs r.number) t.1 ∙ at-itself rs d.1 r k
  ]
]

pub number-among : (rs : List Owner) (r : Owner) → Among r rs → Among r.number (numbers_of rs)
number-among [] r m = m
number-among (y ∷ rs) r (inl e) = inl (ap (λ (s : Owner). s.number) e)
number-among (y ∷ rs) r (inr m) = inr (number-among rs r m)

-- two lists of owners whose numbers differ
pub apart-join :
    (rs ss : List Owner) → Apart rs → Apart ss →
    ((r : Owner) → Among r rs → Among r.number (numbers_of ss) → ⊥) → Apart (rs ++ ss)
apart-join [] ss d e f = e
apart-join (r ∷ rs) ss d e f = (
  all-both (λ s. r.number ≢ s.number) rs ss d.0
      (all-more (λ s. Among s ss) (λ s. r.number ≢ s.number)
      (λ s m q. f r (inl refl) (subst (λ n. Among n (numbers_of ss)) (sym q) (number-among ss s m)))
      ss (members ss)),
  apart-join rs ss d.1 e (λ s m. f s (inr m)),
)

abbrev pub first_some : Option Owner → Option Owner → Option Owner
first_some None o = o
first_some (Some r) o = Some r

pub at-join :
    (rs ss : List Owner) (n : ℤ) →
    owner_at (rs ++ ss) n ≡ first_some (owner_at rs n) (owner_at ss n)
at-join [] ss n = refl
at-join (y ∷ rs) ss n = by (same_number y.number n) (at-join rs ss n)
  where
    by :
        (b : Bool) → owner_at (rs ++ ss) n ≡ first_some (owner_at rs n) (owner_at ss n) →
        (if b then Some y else owner_at (rs ++ ss) n)
        ≡ first_some (if b then Some y else owner_at rs n) (owner_at ss n)
    by true h = refl
    by false h = h

-- owners that keep their numbers
pub at-mapped :
    (f : Owner → Owner) → ((r : Owner) → (f r).number ≡ r.number) → (rs : List Owner) (n : ℤ) →
    owner_at (map f rs) n ≡ option_map f (owner_at rs n)
at-mapped f e [] n = refl
at-mapped f e (y ∷ rs) n =
    ap (λ m. if same_number m n then Some (f y) else owner_at (map f rs) n) (e y)
    ∙ by (same_number y.number n) (at-mapped f e rs n)
  where
    by :
        (b : Bool) → owner_at (map f rs) n ≡ option_map f (owner_at rs n) →
        (if b then Some (f y) else owner_at (map f rs) n)
        ≡ option_map f (if b then Some y else owner_at rs n)
    by true h = refl
    by false h = h

-- ---- sums by element

abbrev pub when : Bool → Stock → Stock
when true q = q
when false q = no_stock

module _ {A : Type 0} (p : PlainProgram) where
  pub sum-same :
      (f g : A → Stock) (xs : List A) → AllByRecursion (λ x. f x ≡ g x) xs →
      sum_by p f xs ≡ sum_by p g xs
  sum-same f g [] h = refl
  sum-same f g (x ∷ xs) h =
      ap (λ q. both p q (sum_by p f xs)) h.0 ∙ ap (both p (g x)) (sum-same f g xs h.1)

  pub sum-alike :
      (f g : A → Stock) → ((x : A) → f x ≡ g x) → (xs : List A) → sum_by p f xs ≡ sum_by p g xs
  sum-alike f g h xs =
      sum-same f g xs (all-more (λ x. Among x xs) (λ x. f x ≡ g x) (λ x m. h x) xs (members xs))

  pub sum-less :
      (f g : A → Stock) → ((x : A) → Inside p (f x) (g x)) → (xs : List A) →
      Inside p (sum_by p f xs) (sum_by p g xs)
  sum-less f g h [] = inside-same p no_stock
  sum-less f g h (x ∷ xs) =
      inside-both p (f x) (g x) (sum_by p f xs) (sum_by p g xs) (h x) (sum-less f g h xs)

  pub sum-plus :
      (f g : A → Stock) (xs : List A) →
      sum_by p (λ x. both p (f x) (g x)) xs ≡ both p (sum_by p f xs) (sum_by p g xs)
  sum-plus f g [] = sym (none-right p no_stock)
  sum-plus f g (x ∷ xs) =
      ap (both p (both p (f x) (g x))) (sum-plus f g xs)
      ∙ reordered p (f x ∷ g x ∷ sum_by p f xs ∷ sum_by p g xs ∷ [])
      (plus (plus (at 0) (at 1)) (plus (at 2) (at 3)))
      (plus (plus (at 0) (at 2)) (plus (at 1) (at 3))) refl

  pub sum-nothing : (xs : List A) → sum_by p (λ x. no_stock) xs ≡ no_stock
  sum-nothing [] = refl
  sum-nothing (x ∷ xs) =
      (stock-laws p).zero_left (sum_by p (λ x. no_stock) xs) ∙ sum-nothing xs

  pub sum-filter :
      (t : A → Bool) (f : A → Stock) (xs : List A) →
      sum_by p f (filter t xs) ≡ sum_by p (λ x. when (t x) (f x)) xs
  sum-filter t f [] = refl
  sum-filter t f (x ∷ xs) = by (t x) (sum-filter t f xs)
    where
      by :
          (b : Bool) → sum_by p f (filter t xs) ≡ sum_by p (λ x. when (t x) (f x)) xs →
          sum_by p f (if b then x ∷ filter t xs else filter t xs)
          ≡ both p (when b (f x)) (sum_by p (λ x. when (t x) (f x)) xs)
      by true h = ap (both p (f x)) h
      by false h = h ∙ sym ((stock-laws p).zero_left (sum_by p (λ x. when (t x) (f x)) xs))

  -- the chosen ones and the others
  pub sum-split :
      (t : A → Bool) (f : A → Stock) (xs : List A) →
      sum_by p f xs
      ≡ both p (sum_by p (λ x. when (t x) (f x)) xs) (sum_by p (λ x. when (not (t x)) (f x)) xs)
  sum-split t f xs =
      sum-alike f (λ x. both p (when (t x) (f x)) (when (not (t x)) (f x))) (λ x. by (t x) (f x)) xs
      ∙ sum-plus (λ x. when (t x) (f x)) (λ x. when (not (t x)) (f x)) xs
    where
      by : (b : Bool) (q : Stock) → q ≡ both p (when b q) (when (not b) q)
      by true q = sym (none-right p q)
      by false q = sym ((stock-laws p).zero_left q)

-- ---- sums over owners by number

abbrev pub if_numbered : List ℤ → Owner → Stock
if_numbered ns r = when (has_number ns r.number) r.stock

abbrev pub unless_numbered : List ℤ → Owner → Stock
unless_numbered ns r = when (not (has_number ns r.number)) r.stock

module _ (p : PlainProgram) where
  pub owned-sum : (rs : List Owner) → owned p rs ≡ sum_by p (λ r. r.stock) rs
  owned-sum [] = refl
  owned-sum (r ∷ rs) = ap (both p r.stock) (owned-sum rs)

  of-number :
      (n : ℤ) (rs : List Owner) → Apart rs →
      sum_by p (λ r. when (same_number r.number n) r.stock) rs ≡ share_by rs n
  of-number n [] d = refl
  of-number n (y ∷ rs) d =
      by (same_number y.number n) (λ q.
      sum-same p (λ r. when (same_number r.number n) r.stock) (λ r. no_stock) rs
      (all-more (λ s. y.number ≢ s.number) (λ r. when (same_number r.number n) r.stock ≡ no_stock)
      (λ s ne. elim (test s.number n) [
        | inl t ↦ absurd (ne (same-int y.number n q ∙ sym t.0))
        | inr t ↦ ap (λ b. when b s.stock) t.1
      ]) rs d.0)
      ∙ sum-nothing p rs) (of-number n rs d.1)
    where
      by :
          (b : Bool) →
          (b ≡ true → sum_by p (λ r. when (same_number r.number n) r.stock) rs ≡ no_stock) →
          sum_by p (λ r. when (same_number r.number n) r.stock) rs ≡ share_by rs n →
          both p (when b y.stock) (sum_by p (λ r. when (same_number r.number n) r.stock) rs)
          ≡ stock_or_none (if b then Some y else owner_at rs n)
      by true f h = ap (both p y.stock) (f refl) ∙ none-right p y.stock
      by false f h =
          (stock-laws p).zero_left (sum_by p (λ r. when (same_number r.number n) r.stock) rs) ∙ h

  pub of-numbers :
      (ns : List ℤ) → Differ ns → (rs : List Owner) → Apart rs →
      sum_by p (if_numbered ns) rs ≡ all_of p ns (share_by rs)
  of-numbers [] dn rs d = sum-nothing p rs
  of-numbers (n ∷ ns) dn rs d =
      sum-alike p (if_numbered (n ∷ ns))
      (λ r. both p (when (same_number r.number n) r.stock) (if_numbered ns r))
      (λ r. by (same_number r.number n) (has_number ns r.number) r.stock (λ q k.
      elim (test-all r.number ns) [
        | inl t ↦ of-member (λ m. n ≢ m) r.number ns t.0 dn.0 (sym (same-int r.number n q))
        | inr t ↦ unlike (sym k ∙ t.1)
      ])) rs
      ∙ sum-plus p (λ r. when (same_number r.number n) r.stock) (if_numbered ns) rs
      ∙ ap (λ q. both p q (sum_by p (if_numbered ns) rs)) (of-number n rs d)
      ∙ ap (both p (share_by rs n)) (of-numbers ns dn.1 rs d)
    where
      unlike : true ≡ false → ⊥
      unlike e = cc

      by :
          (a b : Bool) (q : Stock) → (a ≡ true → b ≡ true → ⊥) →
          when (a || b) q ≡ both p (when a q) (when b q)
      by true true q f = absurd (f refl refl)
      by true false q f = sym (none-right p q)
      by false b q f = sym ((stock-laws p).zero_left (when b q))

  -- more numbers have no less
  pub numbers-less :
      (ns ms : List ℤ) → ((n : ℤ) → Among n ns → Among n ms) → (rs : List Owner) →
      Inside p (sum_by p (if_numbered ns) rs) (sum_by p (if_numbered ms) rs)
  numbers-less ns ms f rs =
      sum-less p (if_numbered ns) (if_numbered ms) (λ r. elim (test-all r.number ns) [
        | inl t ↦ elim (test-all r.number ms) [
          | inl u ↦
              subst (Inside p (if_numbered ns r)) (ap (λ b. when b r.stock) (t.1 ∙ sym u.1))
              (inside-same p (if_numbered ns r))
          | inr u ↦ absurd (u.0 (f r.number t.0))
        ]
        | inr t ↦ (
          if_numbered ms r,
          ap (λ b. both p (when b r.stock) (if_numbered ms r)) t.1
              ∙ (stock-laws p).zero_left (if_numbered ms r),
        )
      ]) rs
