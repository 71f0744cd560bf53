-- The marks of an act along a walk: a pair without a mark gets a variable with the state in which
-- the fact's region is.
use Rattle.std.proofs.Common.{◌≡◌, ℕ, suc, Bool, true, false, List, [], ◌∷◌, ◌++◌, map, ◌==◌, Option, Some, None, refl}
use Rattle.std.specs.Prelude.{flat_map, if◌then◌else◌}
use Rattle.std.specs.List.{AllByRecursion, zip}
use Rattle.cap_lin.specs.Values.{Valuation, value}
use Rattle.cap_farkas.specs.declared.cert.Cert.{Cert}
use Rattle.cap_goal_spec.specs.States.{PlainFact, PlainState}
use Rattle.cap_rules.specs.Closing.{Rival, rivals_from, rivals}
use Rattle.cap_machine_accounts.specs.Assertions.{NameValue, a_number}
use Rattle.cap_account_resources.specs.Parts.{Table}
use Rattle.cap_account_resources.proofs.Lists.{all-both}
use Rattle.cap_account_steps.proofs.Worlds.{Exact}
use Rattle.cap_owners_spec.specs.Traced.{found, valuation, number_in}
use Rattle.cap_owners_spec.specs.Track.{tracked_at}
use Rattle.cap_owners_spec.specs.Walks.{Walk, state_at, mark_value, mark_values}
use Rattle.cap_owners_walks_laws.proofs.Fills.Drawn.{Tells}
use Rattle.cap_owners_walks_laws.proofs.Passes.Rests.{told-region}
use Rattle.cap_owners_walks_laws.proofs.Regions.Telling.{ToldSo, told-here, told-known, found-so, number-so}

-- what each pair's fact says of its region's state, where it has no mark
abbrev pub marked_value : Valuation → Rival × Option Cert → List NameValue
marked_value v (x, Some c) = []
marked_value v (x, None) = a_number (value v.whole x.fact.state) ∷ []

abbrev pub marked_values : Valuation → List (Rival × Option Cert) → List NameValue
marked_values v [] = []
marked_values v (m ∷ ms) = marked_value v m ++ marked_values v ms

-- the region of a fact that says just what the table does is in the fact's state
pub state-so :
    (w : Walk) (V : Table) (f : PlainFact) → Tells w.regions V → Exact (valuation w.values) V f →
    ToldSo (λ z. z ≡ value (valuation w.values).whole f.state)
    (state_at w (value (valuation w.values).whole f.region))
state-so w V f tells exact =
    let v = valuation w.values in
    let z = value v.whole f.state in
    let r = told-region w.regions V (value v.whole f.region) f.kind (map (value v.whole) f.args) z
    tells exact in
    told-known (λ y. y ≡ z) (found (tracked_at w.regions (value v.whole f.region))) r.0 _
    (found-so (tracked_at w.regions (value v.whole f.region)) r.0 r.1)
    (told-here (λ y. y ≡ z) r.0.owned.region.state r.2)

module _ (w : Walk) (V : Table) (tells : Tells w.regions V) where
  mark-so :
      (m : Rival × Option Cert) → Exact (valuation w.values) V m.0.fact →
      ToldSo (λ vs. vs ≡ marked_value (valuation w.values) m) (mark_value w m)
  mark-so (x, Some c) exact =
      told-here (λ vs. vs ≡ marked_value (valuation w.values) (x, Some c)) [] refl
  mark-so (x, None) exact =
      let v = valuation w.values in
      let Q = λ (vs : List NameValue). vs ≡ a_number (value v.whole x.fact.state) ∷ [] in
      told-known Q (number_in w.values x.fact.region) (value v.whole x.fact.region) _
      (number-so w.values x.fact.region)
      (told-known Q (state_at w (value v.whole x.fact.region)) (value v.whole x.fact.state) _
      (state-so w V x.fact tells exact)
      (told-here Q (a_number (value v.whole x.fact.state) ∷ []) refl))

  pub marks-so :
      (ms : List (Rival × Option Cert)) →
      AllByRecursion (λ m. Exact (valuation w.values) V m.0.fact) ms →
      ToldSo (λ vs. vs ≡ marked_values (valuation w.values) ms) (mark_values w ms)
  marks-so [] h = told-here (λ vs. vs ≡ marked_values (valuation w.values) []) [] refl
  marks-so (m ∷ ms) h =
      let v = valuation w.values in
      let Q = λ (vs : List NameValue). vs ≡ marked_values v (m ∷ ms) in
      told-known Q (mark_value w m) (marked_value v m) _ (mark-so m h.0)
      (told-known Q (mark_values w ms) (marked_values v ms) _ (marks-so ms h.1)
      (told-here Q (marked_value v m ++ marked_values v ms) refl))

-- ---- the pairs of a state

-- what all facts have, the fact of each pair has
module _ (Q : PlainFact → Type 0) where
  of-facts :
      (o : PlainFact) (i : ℕ) (fs : List PlainFact) → AllByRecursion Q fs →
      AllByRecursion (λ x. Q x.fact) (rivals_from o i fs)
  of-facts o i [] h = tt
  of-facts o i (f ∷ fs) h = by (f.kind == o.kind) (of-facts o (suc i) fs h.1)
    where
      by :
          (b : Bool) → AllByRecursion (λ x. Q x.fact) (rivals_from o (suc i) fs) →
          AllByRecursion (λ x. Q x.fact)
          (if b then record { opened = o; number = i; fact = f } ∷ rivals_from o (suc i) fs
          else rivals_from o (suc i) fs)
      by true k = (h.0, k)
      by false k = k

  of-all-opened :
      (fs os : List PlainFact) → AllByRecursion Q fs →
      AllByRecursion (λ x. Q x.fact) (flat_map (λ o. rivals_from o 0 fs) os)
  of-all-opened fs [] h = tt
  of-all-opened fs (o ∷ os) h =
      all-both (λ x. Q x.fact) (rivals_from o 0 fs) (flat_map (λ o. rivals_from o 0 fs) os)
      (of-facts o 0 fs h) (of-all-opened fs os h)

  pub of-rivals :
      (s : PlainState) → AllByRecursion Q s.facts → AllByRecursion (λ x. Q x.fact) (rivals s)
  of-rivals s h = of-all-opened s.facts s.opened h

pub all-zipped :
    {A B : Type 0} (P : A → Type 0) (xs : List A) (ys : List B) → AllByRecursion P xs →
    AllByRecursion (λ m. P m.0) (zip xs ys)
all-zipped P [] ys h = tt
all-zipped P (x ∷ xs) [] h = tt
all-zipped P (x ∷ xs) (y ∷ ys) h = (h.0, all-zipped P xs ys h.1)

-- those of a state whose facts say just what the table does
pub state-marks-so :
    (w : Walk) (V : Table) (s : PlainState) (ms : List (Option Cert)) → Tells w.regions V →
    AllByRecursion (Exact (valuation w.values) V) s.facts →
    ToldSo (λ vs. vs ≡ marked_values (valuation w.values) (zip (rivals s) ms))
    (mark_values w (zip (rivals s) ms))
state-marks-so w V s ms tells exact =
    marks-so w V tells (zip (rivals s) ms)
    (all-zipped (λ x. Exact (valuation w.values) V x.fact) (rivals s) ms
    (of-rivals (Exact (valuation w.values) V) s exact))
