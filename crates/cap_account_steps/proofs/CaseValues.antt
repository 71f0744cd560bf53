-- Values at which an opened region is in a case: its names have what the region's values say, over
-- the product of both denominators.
use Rattle.cap_account_resources.proofs.Order.{cancel, grouped}
use Rattle.cap_account_resources.proofs.Lists.{map-at, some-same, none-some, within, get-join, get-map, map-length, all-at}
use Rattle.std.proofs.Common.{◌≡◌, ℕ, zero, suc, ◌+◌, ◌-◌, ◌<◌, ◌≤◌, pos, ◌*ℤ◌, List, ◌∷◌, ◌++◌, length, map, arith, refl, sym, ap, ◌∙◌, Option, Some, None, Bool, true, false, inl, inr}
use Rattle.std.specs.Prelude.{slice_get, nat_eq, nat_lt, unwrap_or, if◌then◌else◌}
use Rattle.std.specs.List.{AllByRecursion}
use Rattle.std.proofs.lemmas.Bool.Decides.{nat_tests}
use Rattle.cap_lin.specs.Linear.{Linear, variable}
use Rattle.cap_lin.specs.Values.{Valuation, denominator, value, amount}
use Rattle.cap_lin.specs.Solves.{IsWholeAt}
use Rattle.cap_lin.specs.declared.row.Sort.{Sort}
use Rattle.cap_lin.specs.declared.row.Sort.TheVariants.{Int, Perm}
use Rattle.cap_prog.specs.Program.{PlainRegionType}
use Rattle.cap_prog.specs.Scopes.{Scope, HasSort, region_scope, whole_numbers, known}
use Rattle.cap_goal_spec.specs.Terms.{variables_from}
use Rattle.cap_goal_spec.specs.States.{PlainFact, PlainEnv}
use Rattle.cap_goal_spec.specs.Environments.{term_of, bound, region_env}
use Rattle.cap_machine_accounts.specs.Assertions.{AreWhole}
use Rattle.cap_account_states.proofs.Terms.{Over, Agree}
use Rattle.cap_account_states.proofs.Environments.{all-vars}
use Rattle.cap_account_states.proofs.Alike.{Alike, above-zero, alike-same, scaled-alike, scaled-agree-alike, value-alike, amount-alike}
use Rattle.cap_account_states.proofs.Meets.{variable-value, variable-amount}
use Rattle.cap_account_states.proofs.Naming.{Means}
use Rattle.cap_account_states.proofs.Scopes.{variables-length, variables-at, rep-length}
use Rattle.cap_account_states.proofs.Values.{scaled, normal, normal-whole, normal-perm, scaled-denominator, whole-at}

-- ---- the environment of a case's names

unwrap-some :
    {A : Type 0} (o : Option (Option A)) (t : A) → unwrap_or o None ≡ Some t → o ≡ Some (Some t)
unwrap-some None t e = absurd (none-some e)
unwrap-some (Some x) t e = ap Some e

-- what a name is: the region, an argument, or one of the case's own
pub data NameOf (f : PlainFact) (n count x : ℕ) (t : Linear) : Type 0 where
  the_region : x ≡ 0 → t ≡ f.region → NameOf f n count x t
  an_argument : (j : ℕ) → x ≡ suc j → slice_get f.args j ≡ Some t → NameOf f n count x t
  a_name :
      (j : ℕ) → x ≡ suc (length f.args + j) → j < count → t ≡ variable (n + j) →
      NameOf f n count x t

pub name-of :
    (f : PlainFact) (n count x : ℕ) (t : Linear) →
    term_of (region_env f (bound (variables_from n count))) x ≡ Some t → NameOf f n count x t
name-of f n count zero t e = the_region refl (sym (some-same f.region t e))
name-of f n count (suc y) t e =
    let vars = variables_from n count in
    let at = unwrap-some (slice_get (bound f.args ++ bound vars) y) t e in
    elim (get-join (bound f.args) (bound vars) y (Some t) at) [
      | inl h ↦
          let k = get-map Some f.args y (Some t) h in
          an_argument y refl (k.1 ∙ k.2)
      | inr h ↦
          let k = get-map Some vars h.0 (Some t) h.2 in
          let low : h.0 < count =
          (let w = within vars h.0 k.0 k.1 in let c = variables-length n count in omega
          (arith, w, c))
          in
          a_name h.0 (ap suc (h.1 ∙ ap (λ z. z + h.0) (map-length Some f.args))) low
          (some-same t (variable (n + h.0))
          (sym k.2 ∙ sym k.1 ∙ variables-at n count h.0 low))
    ]

-- a sort Perm is that of one of the case's own names
perm-name :
    (m : ℕ) (names : List Sort) (x : ℕ) → slice_get (whole_numbers m ++ known names) x ≡ Some
    (Some Perm) →
    m ≤ x
perm-name m names x e =
    elim (get-join (whole_numbers m) (known names) x (Some Perm) e) [
      | inl h ↦ absurd (whole-perm m x h)
      | inr h ↦ let c = rep-length m (Some Int) in let k = h.1 in omega (arith, c, k)
    ]
  where
    whole-perm : (m x : ℕ) → slice_get (whole_numbers m) x ≡ Some (Some Perm) → ⊥
    whole-perm zero x e = none-some e
    whole-perm (suc m) zero e = cc
    whole-perm (suc m) (suc x) e = whole-perm m x e

-- ---- the values

module _ (v a : Valuation) (n m : ℕ) (sc : Scope) where
  -- both over the product of the denominators
  abbrev old_part : Valuation
  old_part = scaled a.fraction.under v

  abbrev new_part : Valuation
  new_part = scaled v.fraction.under (normal sc a)

  -- names' values, over it
  abbrev pub names_values : Valuation
  names_values = scaled v.fraction.under a

  abbrev pub case_values : Valuation
  case_values = record {
    whole = λ x. if nat_lt x n then v.whole x else a.whole (m + (x - n));
    fraction = record {
      numerator =
          λ x. if nat_lt x n then (scaled a.fraction.under v).fraction.numerator x
          else (scaled v.fraction.under (normal sc a)).fraction.numerator (m + (x - n));
      under = (scaled a.fraction.under v).fraction.under;
    };
  }

  low-test : (x : ℕ) → x < n → nat_lt x n ≡ true
  low-test x h = grind (arith, nat_tests, h)

  high-test : (i : ℕ) → nat_lt (n + i) n ≡ false
  high-test i = grind (arith, nat_tests)

  index-same : (i : ℕ) → m + (n + i - n) ≡ m + i
  index-same i = omega arith

  pub case-agree : Agree (λ x. x < n) old_part case_values
  case-agree = record {
    under = refl;
    whole = λ x h. ap (λ t. if t then v.whole x else a.whole (m + (x - n))) (low-test x h);
    share =
        λ x h. ap (λ t. if t then old_part.fraction.numerator x
        else new_part.fraction.numerator (m + (x - n))) (low-test x h);
  }

  pub case-alike : Alike (λ x. x < n) v case_values
  case-alike = scaled-agree-alike (λ x. x < n) a.fraction.under v case_values case-agree

  pub case-whole : (i : ℕ) → case_values.whole (n + i) ≡ a.whole (m + i)
  case-whole i =
      ap (λ t. if t then v.whole (n + i) else a.whole (m + (n + i - n))) (high-test i)
      ∙ ap a.whole (index-same i)

  case-share :
      (i : ℕ) → case_values.fraction.numerator (n + i) ≡ new_part.fraction.numerator (m + i)
  case-share i =
      ap (λ t. if t then old_part.fraction.numerator (n + i)
      else new_part.fraction.numerator (m + (n + i - n))) (high-test i)
      ∙ ap new_part.fraction.numerator (index-same i)

  under-same : case_values.fraction.under ≡ names_values.fraction.under
  under-same = omega arith

  -- names of sort Int have whole fractions
  pub case-is-whole : (i : ℕ) → HasSort sc Int (m + i) → IsWholeAt case_values (n + i)
  case-is-whole i h =
      let d = denominator a.fraction in
      let e = pos (v.fraction.under + 1) in
      case-share i
      ∙ ap (λ z. z *ℤ e) (normal-whole sc a (m + i) h)
      ∙ grouped (a.whole (m + i)) d e
      ∙ ap (λ z. a.whole (m + i) *ℤ z)
      (sym (scaled-denominator v.fraction.under a) ∙ ap (λ u. pos (u + 1)) (sym under-same))
      ∙ ap (λ z. z *ℤ denominator case_values.fraction) (sym (case-whole i))

  -- the names of the environment have these values
  pub case-means :
      (f : PlainFact) (k : PlainRegionType) (names : List Sort) → sc ≡ region_scope k names →
      m ≡ k.params → k.params ≡ suc (length f.args) → Over (λ x. x < n) f.region →
      AllByRecursion (Over (λ x. x < n)) f.args →
      AreWhole a 0 (value v.whole f.region ∷ map (value v.whole) f.args) →
      Means sc case_values (region_env f (bound (variables_from n (length names)))) names_values
  case-means f k names is_scope is_params arity region args are = record {
    under = sym under-same;
    whole = λ x i t e. on_whole x t (name-of f n (length names) x t e);
    share = λ x i t e. on_share x t i (name-of f n (length names) x t e);
  }
    where
      on_whole :
          (x : ℕ) (t : Linear) → NameOf f n (length names) x t →
          value case_values.whole t ≡ a.whole x
      on_whole x t (the_region ex et) =
          ap (value case_values.whole) et
          ∙ value-alike (λ x. x < n) v case_values case-alike f.region region
          ∙ sym are.0
          ∙ ap a.whole (sym ex)
      on_whole x t (an_argument j ex et) =
          let at : 0 + suc j ≡ suc j = omega arith in
          value-alike (λ x. x < n) v case_values case-alike t
          (all-at (Over (λ x. x < n)) f.args j t args et)
          ∙ sym (whole-at a 0 (value v.whole f.region ∷ map (value v.whole) f.args) (suc j)
          (value v.whole t) are (map-at (value v.whole) f.args j t et))
          ∙ ap a.whole (at ∙ sym ex)
      on_whole x t (a_name j ex low et) =
          let at : m + j ≡ x = omega (arith, is_params, arity, ex) in
          ap (value case_values.whole) et
          ∙ variable-value case_values (n + j)
          ∙ case-whole j
          ∙ ap a.whole at

      no-perm :
          {A : Type 0} (x : ℕ) → HasSort sc Perm x → x < k.params → A
      no-perm x i l =
          let q = perm-name k.params names x (ap (λ s. slice_get s x) (sym is_scope) ∙ i) in
          absurd (omega (arith, q, l))

      on_share :
          (x : ℕ) (t : Linear) → HasSort sc Perm x → NameOf f n (length names) x t →
          amount case_values.fraction t ≡ names_values.fraction.numerator x
      on_share x t i (the_region ex et) = no-perm x i (omega (arith, ex, arity))
      on_share x t i (an_argument j ex et) =
          let w = within f.args j t et in no-perm x i (omega (arith, ex, arity, w))
      on_share x t i (a_name j ex low et) =
          let at : m + j ≡ x = omega (arith, is_params, arity, ex) in
          ap (amount case_values.fraction) et
          ∙ variable-amount case_values (n + j)
          ∙ case-share j
          ∙ ap new_part.fraction.numerator at
          ∙ ap (λ z. z *ℤ pos (v.fraction.under + 1)) (normal-perm sc a x i)

  -- ---- over one denominator, where both have the same

  abbrev pub plain_values : Valuation
  plain_values = record {
    whole = λ x. if nat_lt x n then v.whole x else a.whole (m + (x - n));
    fraction = record {
      numerator =
          λ x. if nat_lt x n then v.fraction.numerator x
          else (normal sc a).fraction.numerator (m + (x - n));
      under = v.fraction.under;
    };
  }

  abbrev Every : ℕ → Type 0
  Every x = Unit {0}

  plain-alike : v.fraction.under ≡ a.fraction.under → Alike Every case_values plain_values
  plain-alike e = record { whole = λ x h. refl; share = λ x h. by x (nat_lt x n) }
    where
      by :
          (x : ℕ) (b : Bool) →
          (if b then v.fraction.numerator x
          else (normal sc a).fraction.numerator (m + (x - n))) *ℤ denominator case_values.fraction
          ≡ (if b then old_part.fraction.numerator x
          else new_part.fraction.numerator (m + (x - n))) *ℤ denominator v.fraction
      by x true = sym ((scaled-alike Every a.fraction.under v).share x tt)
      by x false =
          let y = m + (x - n) in
          sym (ap (λ u. new_part.fraction.numerator y *ℤ pos (u + 1)) e
          ∙ (scaled-alike Every v.fraction.under (normal sc a)).share y tt
          ∙ ap (λ u. (normal sc a).fraction.numerator y *ℤ pos (u + 1)) (sym under-same))

  plain-means :
      v.fraction.under ≡ a.fraction.under → (env : PlainEnv) →
      Means sc case_values env names_values → Means sc plain_values env a
  plain-means e env h =
      let l = plain-alike e in
      let d = denominator v.fraction in
      record {
        under = sym e;
        whole = λ x i t q.
            value-alike Every case_values plain_values l t (all-vars t.parts) ∙ h.whole x i t q;
        share = λ x i t q.
            cancel (amount plain_values.fraction t) (a.fraction.numerator x)
            (denominator case_values.fraction) (above-zero case_values)
            (amount-alike Every case_values plain_values l t (all-vars t.parts)
            ∙ ap (λ z. z *ℤ d) (h.share x i t q)
            ∙ grouped (a.fraction.numerator x) d d
            ∙ ap (λ u. a.fraction.numerator x *ℤ (d *ℤ pos (u + 1))) e
            ∙ ap (λ z. a.fraction.numerator x *ℤ z)
            (sym (scaled-denominator a.fraction.under v)));
      }

  abbrev same_under : Bool
  same_under = nat_eq v.fraction.under a.fraction.under

  -- these where the denominators are the same, and else over the product
  abbrev pub entered_values : Valuation
  entered_values =
      if nat_eq v.fraction.under a.fraction.under then plain_values else case_values

  abbrev pub entered_names : Valuation
  entered_names = if nat_eq v.fraction.under a.fraction.under then a else names_values

  pub entered-alike : Alike (λ x. Unit {0}) case_values entered_values
  entered-alike = by same_under refl
    where
      by :
          (b : Bool) → same_under ≡ b →
          Alike Every case_values (if b then plain_values else case_values)
      by true e = plain-alike (grind (arith, nat_tests, e))
      by false e = alike-same Every case_values

  pub entered-means :
      (env : PlainEnv) → Means sc case_values env names_values →
      Means sc entered_values env entered_names
  entered-means env h = by same_under refl
    where
      by :
          (b : Bool) → same_under ≡ b →
          Means sc (if b then plain_values else case_values) env (if b then a else names_values)
      by true e = plain-means (grind (arith, nat_tests, e)) env h
      by false e = h
