-- What comes of terms and comparisons by the values of a track is what they are at its valuation; and
-- a value more is one more variable of the valuation.
use Rattle.std.proofs.Common.{◌≡◌, ◌≢◌, inl, inr, ℕ, zero, suc, ◌-◌, ℤ, pos, negsuc, ◌*ℤ◌, ◌/◌, ◌%◌, ◌==◌, Bool, true, false, nat_eq, if◌then◌else◌, List, [], ◌∷◌, ◌++◌, length, refl, ap, ◌∙◌, subst, arith}
use Rattle.std.proofs.lemmas.Bool.{cases_eq}
use Rattle.std.proofs.lemmas.Bool.Decides.{nat_tests}
use Rattle.std.proofs.lemmas.Int.{ints}
use Rattle.cap_rules.specs.cap_goal_spec.cap_lin.Linear.{Linear}
use Rattle.cap_rules.specs.cap_goal_spec.cap_lin.Values.{Valuation, value, amount}
use Rattle.cap_rules.specs.cap_goal_spec.cap_lin.Steps.{Step, product_of, value_steps}
use Rattle.cap_rules.specs.cap_goal_spec.cap_lin.Solves.{value_by_sort, Relates}
use Rattle.cap_rules.specs.cap_goal_spec.cap_lin.declared.row.Op.{Op}
use Rattle.cap_rules.specs.cap_goal_spec.cap_prog.declared.assertion.Comp.{Comp}
use Rattle.cap_rules.specs.cap_goal_spec.cap_lin.declared.row.Sort.{Sort}
use Rattle.cap_rules.specs.cap_goal_spec.cap_lin.declared.row.Sort.TheVariants.{Int, Perm}
use Rattle.cap_machine.specs.Machine.{compared}
use Rattle.cap_machine.specs.Results.{are_narrow}
use Rattle.cap_machine_accounts.specs.Assertions.{NameValue, a_number, CompHolds}
use Rattle.cap_account_resources.proofs.Order.{met-relates, unmet-relates, unmet-not}
use Rattle.cap_account_states.proofs.Meets.{with_value}
use Rattle.cap_account_assertions.proofs.Named.{set_to}
use Rattle.cap_owners_spec.specs.Traced.{Traced, traced, past_width, untold, ◌>>=◌, computed, over, a_share, value_at, number_of, numerator_of, valuation, number_in, amount_in, number_by_sort, holds_by, half_of}

-- ---- a value more

-- the last value, and those before it
at-last : (vs : List NameValue) (v : NameValue) → value_at (vs ++ v ∷ []) (length vs) ≡ v
at-last [] v = refl
at-last (y ∷ vs) v = at-last vs v

before-last :
    (vs : List NameValue) (v : NameValue) (x : ℕ) → x ≢ length vs →
    value_at (vs ++ v ∷ []) x ≡ value_at vs x
before-last [] v zero ne = absurd (ne refl)
before-last [] v (suc x) ne = refl
before-last (y ∷ vs) v zero ne = refl
before-last (y ∷ vs) v (suc x) ne = before-last vs v x (λ e. ne (ap suc e))

-- values where one variable more is this
module _ (vs : List NameValue) (v : NameValue) where
  whole-more :
      (x : ℕ) →
      number_of (value_at (vs ++ v ∷ []) x)
      ≡ (if nat_eq x (length vs) then number_of v else number_of (value_at vs x))
  whole-more x = elim (cases_eq x (length vs)) [
    | inl e ↦
        let t : nat_eq x (length vs) ≡ true = grind (arith, nat_tests, e) in
        rw t (ap (λ n. number_of (value_at (vs ++ v ∷ []) n)) e ∙ ap number_of (at-last vs v))
    | inr ne ↦
        let t : nat_eq x (length vs) ≡ false = grind (arith, nat_tests, ne) in
        rw t (ap number_of (before-last vs v x ne))
  ]

  share-more :
      (x : ℕ) →
      numerator_of (value_at (vs ++ v ∷ []) x)
      ≡ (if nat_eq x (length vs) then numerator_of v else numerator_of (value_at vs x))
  share-more x = elim (cases_eq x (length vs)) [
    | inl e ↦
        let t : nat_eq x (length vs) ≡ true = grind (arith, nat_tests, e) in
        rw t (ap (λ n. numerator_of (value_at (vs ++ v ∷ []) n)) e ∙ ap numerator_of (at-last vs v))
    | inr ne ↦
        let t : nat_eq x (length vs) ≡ false = grind (arith, nat_tests, ne) in
        rw t (ap numerator_of (before-last vs v x ne))
  ]

  pub valuation-more :
      valuation (vs ++ v ∷ [])
      ≡ with_value (valuation vs) (length vs) (number_of v) (numerator_of v)
  valuation-more i = record {
    whole = λ x. whole-more x i;
    fraction = record { numerator = λ x. share-more x i; under = over - 1 };
  }

-- a whole number, and a share
pub valuation-number :
    (vs : List NameValue) (z : ℤ) →
    valuation (vs ++ a_number z ∷ []) ≡ set_to (valuation vs) (length vs) z
valuation-number vs z = valuation-more vs (a_number z)

pub valuation-share :
    (vs : List NameValue) (n : ℤ) →
    valuation (vs ++ a_share n ∷ []) ≡ with_value (valuation vs) (length vs) (pos 0) n
valuation-share vs n = valuation-more vs (a_share n)

-- ---- terms

pub computed-is :
    (z y : ℤ) (steps : List Step) → computed z steps ≡ traced y → y ≡ z
computed-is z y steps e = by (are_narrow steps) e
  where
    by : (b : Bool) → (if b then traced z else past_width) ≡ traced y → y ≡ z
    by true e = cc
    by false e = absurd (cc)

-- it is never untold
pub computed-told :
    (z : ℤ) (steps : List Step) → computed z steps ≢ untold
computed-told z steps e = by (are_narrow steps) e
  where
    by : (b : Bool) → (if b then traced z else past_width) ≡ untold → ⊥
    by true e = absurd (cc)
    by false e = absurd (cc)

pub number-is :
    (vs : List NameValue) (t : Linear) (z : ℤ) → number_in vs t ≡ traced z →
    z ≡ value (valuation vs).whole t
number-is vs t z e =
    computed-is (value (valuation vs).whole t) z
    (value_steps (valuation vs).whole t.constant t.parts) e

pub amount-is :
    (vs : List NameValue) (t : Linear) (n : ℤ) → amount_in vs t ≡ traced n →
    n ≡ amount (valuation vs).fraction t
amount-is vs t n e =
    computed-is (amount (valuation vs).fraction t) n
    (product_of t.constant (pos over)
    ∷ value_steps (valuation vs).fraction.numerator (t.constant *ℤ pos over) t.parts) e

-- ---- halves

pub half-is : (n h : ℤ) → half_of n ≡ traced h → h *ℤ pos 2 ≡ n
half-is (pos n) h e = by (n % 2 == 0) refl e
  where
    by :
        (b : Bool) → (n % 2 == 0) ≡ b →
        (if b then traced (pos (n / 2)) else past_width) ≡ traced h → h *ℤ pos 2 ≡ pos n
    by true t e =
        let z : n % 2 ≡ 0 = grind (arith, nat_tests, t) in
        let q : h ≡ pos (n / 2) = cc in
        omega (arith, ints, z, q)
    by false t e = absurd (cc)
half-is (negsuc n) h e = absurd (cc)

-- where it is too wide there is none
pub half-none : (n h : ℤ) → half_of n ≡ past_width → h *ℤ pos 2 ≡ n → ⊥
half-none (pos n) h e k = by (n % 2 == 0) refl e
  where
    by :
        (b : Bool) → (n % 2 == 0) ≡ b →
        (if b then traced (pos (n / 2)) else past_width) ≡ past_width → ⊥
    by true t e = absurd (cc)
    by false t e =
        let z : n % 2 ≢ 0 = grind (arith, nat_tests, t) in
        omega (arith, ints, z, k)
half-none (negsuc n) h e k = cc

-- ---- comparisons

pub sort-is :
    (o : Sort) (vs : List NameValue) (t : Linear) (z : ℤ) → number_by_sort o vs t ≡ traced z →
    z ≡ value_by_sort o (valuation vs) t
sort-is Int vs t z e = number-is vs t z e
sort-is Perm vs t z e = amount-is vs t z e

-- ---- what comes of parts

-- what came to something went through something
pub was-traced :
    {A B : Type 0} (o : Traced A) (f : A → Traced B) (y : B) → (o >>= f) ≡ traced y →
    (x : A) × (o ≡ traced x) × (f x ≡ traced y)
was-traced (traced x) f y e = (x, refl, e)
was-traced past_width f y e = absurd (cc)
was-traced untold f y e = absurd (cc)

pub traced-same : {A : Type 0} (x y : A) → traced x ≡ traced y → x ≡ y
traced-same x y e = cc

-- the side that a comparison takes
abbrev pub TakesSide : Valuation → Comp → Bool → Type 0
TakesSide v c true = CompHolds v c
TakesSide v c false = ¬ CompHolds v c

abbrev pub RelatesSide : Op → ℤ → ℤ → Bool → Type 0
RelatesSide op x y true = Relates op x y
RelatesSide op x y false = ¬ Relates op x y

relates-side : (op : Op) (x y : ℤ) (b : Bool) → compared op x y ≡ b → RelatesSide op x y b
relates-side op x y true e = met-relates op x y e
relates-side op x y false e = unmet-not op x y (unmet-relates op x y e)

takes-side :
    (v : Valuation) (c : Comp) (b : Bool) →
    RelatesSide c.op (value_by_sort c.sort v c.left) (value_by_sort c.sort v c.right) b →
    TakesSide v c b
takes-side v c true h = h
takes-side v c false h = h

pub side-is :
    (vs : List NameValue) (c : Comp) (b : Bool) → holds_by vs c ≡ traced b →
    TakesSide (valuation vs) c b
side-is vs c b e =
    let l = was-traced (number_by_sort c.sort vs c.left)
    (λ l. number_by_sort c.sort vs c.right >>= λ r. traced (compared c.op l r)) b e in
    let r = was-traced (number_by_sort c.sort vs c.right)
    (λ r. traced (compared c.op l.0 r)) b l.2 in
    takes-side (valuation vs) c b
    (subst (λ x. RelatesSide c.op x (value_by_sort c.sort (valuation vs) c.right) b)
    (sort-is c.sort vs c.left l.0 l.1)
    (subst (λ y. RelatesSide c.op l.0 y b) (sort-is c.sort vs c.right r.0 r.1)
    (relates-side c.op l.0 r.0 b (traced-same (compared c.op l.0 r.0) b r.2))))
