-- One variable gets another value.
use Rattle.std.proofs.Common.{◌≡◌, inl, inr, ℕ, zero, suc, ◌-◌, ◌<◌, ℤ, pos, true, false, nat_eq, if◌then◌else◌, List, [], ◌∷◌, length, Some, refl, sym, ap, ◌∙◌, subst, arith}
use Rattle.std.specs.Prelude.{slice_get, slice_set}
use Rattle.std.specs.List.{AllZip}
use Rattle.std.proofs.lemmas.Bool.{cases_eq}
use Rattle.std.proofs.lemmas.Bool.Decides.{nat_tests}
use Rattle.cap_rules.specs.cap_goal_spec.cap_lin.declared.row.Sort.{Sort}
use Rattle.cap_rules.specs.cap_goal_spec.cap_lin.declared.row.Sort.TheVariants.{Int}
use Rattle.cap_machine_accounts.specs.Assertions.{NameValue, a_number, a_fraction}
use Rattle.cap_account_resources.proofs.Lists.{some-same, get-or-set, get-or-other}
use Rattle.cap_account_states.proofs.Meets.{with_value}
use Rattle.cap_account_assertions.proofs.Named.{set_to}
use Rattle.cap_owners_spec.specs.Traced.{over, value_at, number_of, numerator_of, valuation}
use Rattle.cap_owners_walks_laws.proofs.Values.More.{FitsSort}

module _ (vs : List NameValue) (n : ℕ) (v : NameValue) (l : n < length vs) where
  at-changed : (x : ℕ) → x ≡ n → value_at (slice_set vs n v) x ≡ v
  at-changed x e =
      ap (value_at (slice_set vs n v)) e ∙ get-or-set vs n v (a_number (pos 0)) l

  whole-changed :
      (x : ℕ) →
      number_of (value_at (slice_set vs n v) x)
      ≡ (if nat_eq x n then number_of v else number_of (value_at vs x))
  whole-changed x = elim (cases_eq x n) [
    | inl e ↦
        let t : nat_eq x n ≡ true = grind (arith, nat_tests, e) in
        rw t (ap number_of (at-changed x e))
    | inr ne ↦
        let t : nat_eq x n ≡ false = grind (arith, nat_tests, ne) in
        rw t (ap number_of (get-or-other vs n x v (a_number (pos 0)) ne))
  ]

  share-changed :
      (x : ℕ) →
      numerator_of (value_at (slice_set vs n v) x)
      ≡ (if nat_eq x n then numerator_of v else numerator_of (value_at vs x))
  share-changed x = elim (cases_eq x n) [
    | inl e ↦
        let t : nat_eq x n ≡ true = grind (arith, nat_tests, e) in
        rw t (ap numerator_of (at-changed x e))
    | inr ne ↦
        let t : nat_eq x n ≡ false = grind (arith, nat_tests, ne) in
        rw t (ap numerator_of (get-or-other vs n x v (a_number (pos 0)) ne))
  ]

  pub valuation-changed :
      valuation (slice_set vs n v)
      ≡ with_value (valuation vs) n (number_of v) (numerator_of v)
  valuation-changed i = record {
    whole = λ x. whole-changed x i;
    fraction = record { numerator = λ x. share-changed x i; under = over - 1 };
  }

-- it gets a number
pub valuation-put :
    (vs : List NameValue) (n : ℕ) (z : ℤ) → n < length vs →
    valuation (slice_set vs n (a_number z)) ≡ set_to (valuation vs) n z
valuation-put vs n z l = valuation-changed vs n (a_number z) l

pub sorted-put :
    (os : List Sort) (vs : List NameValue) (n : ℕ) (o : Sort) (v : NameValue) →
    AllZip FitsSort os vs → slice_get os n ≡ Some o → FitsSort o v →
    AllZip FitsSort os (slice_set vs n v)
sorted-put [] [] n o v h e k = h
sorted-put [] (y ∷ vs) n o v h e k = absurd h
sorted-put (q ∷ os) [] n o v h e k = absurd h
sorted-put (q ∷ os) (y ∷ vs) zero o v h e k =
    (subst (λ s. FitsSort s v) (sym (some-same q o e)) k, h.1)
sorted-put (q ∷ os) (y ∷ vs) (suc n) o v h e k = (h.0, sorted-put os vs n o v h.1 e k)

-- a variable of sort Int has a number, and keeps it
pub same-put :
    (os : List Sort) (vs : List NameValue) (n : ℕ) (z : ℤ) → AllZip FitsSort os vs →
    slice_get os n ≡ Some Int → (valuation vs).whole n ≡ z → slice_set vs n (a_number z) ≡ vs
same-put [] [] n z h e k = refl
same-put [] (y ∷ vs) n z h e k = absurd h
same-put (o ∷ os) [] n z h e k = absurd h
same-put (o ∷ os) (y ∷ vs) zero z h e k = by y (subst (λ s. FitsSort s y) (some-same o Int e) h.0) k
  where
    by : (y : NameValue) → FitsSort Int y → number_of y ≡ z → a_number z ∷ vs ≡ y ∷ vs
    by (a_number x) h k = ap (λ q. a_number q ∷ vs) (sym k)
    by (a_fraction m d) h k = absurd h
same-put (o ∷ os) (y ∷ vs) (suc n) z h e k = ap (λ ys. y ∷ ys) (same-put os vs n z h.1 e k)
