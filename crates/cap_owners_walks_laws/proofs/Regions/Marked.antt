-- What facts say once an act's marks are made: each still says what the table does, also one whose
-- state is a variable of its own by then.
use Rattle.std.proofs.Common.{◌≡◌, ℕ, ◌<◌, Bool, true, false, List, [], ◌∷◌, ◌++◌, length, map, Option, Some, None, refl, sym, ap, ◌∙◌, subst, arith}
use Rattle.std.specs.Prelude.{nat_lt, is_some}
use Rattle.std.specs.List.{AllByRecursion, zip}
use Rattle.cap_lin.specs.Linear.{variable}
use Rattle.cap_lin.specs.Values.{Valuation, value}
use Rattle.cap_lin.specs.declared.row.Sort.TheVariants.{Int}
use Rattle.cap_farkas.specs.declared.cert.Cert.{Cert}
use Rattle.cap_goal_spec.specs.States.{longest_list, PlainFact, PlainState}
use Rattle.cap_rules.specs.Attempts.{◌>>=◌}
use Rattle.cap_rules.specs.Making.{fresh}
use Rattle.cap_rules.specs.Closing.{Rival, rivals, loosened, with_marks}
use Rattle.cap_machine_accounts.specs.Assertions.{NameValue, a_number}
use Rattle.cap_account_resources.specs.Parts.{Table}
use Rattle.cap_account_resources.proofs.Lists.{some-same, none-some, join-nil, join-assoc, push-length, all-more, all-set}
use Rattle.cap_account_states.proofs.Alike.{Alike, agree-alike, value-alike}
use Rattle.cap_account_states.proofs.Meets.{variable-value}
use Rattle.cap_account_states.proofs.Terms.{Agree}
use Rattle.cap_account_steps.proofs.Exact.{exact-alike, over-more, told-alike}
use Rattle.cap_account_steps.proofs.Worlds.{Exact, AllOver}
use Rattle.cap_owners_spec.specs.Traced.{number_of, numerator_of, valuation}
use Rattle.cap_owners_walks_laws.proofs.Passes.Names.{at-last}
use Rattle.cap_owners_walks_laws.proofs.Regions.Entered.{value-first}
use Rattle.cap_owners_walks_laws.proofs.Regions.Freely.{loosened_at, unmarked_as}
use Rattle.cap_owners_walks_laws.proofs.Regions.Marks.{marked_values, of-rivals}

-- a fact over the variables that have values says what the table does
abbrev pub SaysAt : List NameValue → Table → PlainFact → Type 0
SaysAt vs V f = AllOver (λ x. x < length vs) f × Exact (valuation vs) V f

-- one value more
module _ (vs : List NameValue) (y : NameValue) where
  abbrev P : ℕ → Type 0
  P x = x < length vs

  abbrev us : List NameValue
  us = vs ++ y ∷ []

  first-agree : Agree (λ x. x < length vs) (valuation vs) (valuation (vs ++ y ∷ []))
  first-agree = record {
    under = refl;
    whole = λ x l. ap number_of (value-first vs (y ∷ []) x l);
    share = λ x l. ap numerator_of (value-first vs (y ∷ []) x l);
  }

  first-alike : Alike (λ x. x < length vs) (valuation vs) (valuation (vs ++ y ∷ []))
  first-alike = agree-alike P (valuation vs) (valuation us) first-agree

  longer : (x : ℕ) → x < length vs → x < length (vs ++ y ∷ [])
  longer x l = (let n = push-length vs y in omega (arith, l, n))

  says-more : (V : Table) (f : PlainFact) → SaysAt vs V f → SaysAt (vs ++ y ∷ []) V f
  says-more V f h = (
    over-more P (λ x. x < length us) longer f h.0,
    exact-alike P (valuation vs) (valuation us) V first-alike f h.0 h.1,
  )

  -- a fact whose state is the new variable, which has the state's value
  says-loosened :
      (V : Table) (f : PlainFact) (n : ℕ) → n ≡ length vs → SaysAt vs V f →
      y ≡ a_number (value (valuation vs).whole f.state) →
      SaysAt (vs ++ y ∷ []) V (loosened f (variable n))
  says-loosened V f n count h is =
      let more = over-more P (λ x. x < length us) longer f h.0 in
      let w = valuation us in
      let last : value w.whole (variable n) ≡ value (valuation vs).whole f.state =
      variable-value w n ∙ ap w.whole count ∙ ap number_of (at-last vs y) ∙ ap number_of is in (
        (more.0, more.1, ((let k = push-length vs y in omega (arith, k, count)), tt)),
        told-alike P (valuation vs) w V first-alike f (variable n)
            (value (valuation vs).whole f.state) h.0.0 h.0.1 last h.1,
      )

-- the fact of a pair says so, and its state has the value from before
abbrev PairSays : Valuation → List NameValue → Table → Rival → Type 0
PairSays v us V x =
    SaysAt us V x.fact × (value (valuation us).whole x.fact.state ≡ value v.whole x.fact.state)

pair-more :
    (v : Valuation) (us : List NameValue) (y : NameValue) (V : Table) (x : Rival) →
    PairSays v us V x → PairSays v (us ++ y ∷ []) V x
pair-more v us y V x h = (
  says-more us y V x.fact h.0,
  value-alike (λ x. x < length us) (valuation us) (valuation (us ++ y ∷ [])) (first-alike us y)
      x.fact.state h.0.0.2 ∙ h.1,
)

module _ (V : Table) (v : Valuation) where
  marks-say :
      (xs : List Rival) (ms : List (Option Cert)) (s t : PlainState) (us : List NameValue) →
      length s.sorts ≡ length us → AllByRecursion (PairSays v us V) xs →
      AllByRecursion (SaysAt us V) s.facts →
      (with_marks s xs (map is_some ms)).value ≡ Some t →
      AllByRecursion (SaysAt (us ++ marked_values v (zip xs ms)) V) t.facts
  marks-say [] [] s t us count h k e =
      subst (λ (u : PlainState). AllByRecursion (SaysAt (us ++ []) V) u.facts) (some-same s t e)
      (subst (λ ws. AllByRecursion (SaysAt ws V) s.facts) (sym (join-nil us)) k)
  marks-say [] (m ∷ ms) s t us count h k e = absurd (none-some e)
  marks-say (x ∷ xs) [] s t us count h k e = absurd (none-some e)
  marks-say (x ∷ xs) (Some c ∷ ms) s t us count h k e = marks-say xs ms s t us count h.1 k e
  marks-say (x ∷ xs) (None ∷ ms) s t us count h k e =
      by (nat_lt (length s.sorts) longest_list)
      (λ q. subst (λ ws. AllByRecursion (SaysAt ws V) t.facts)
      (sym (join-assoc us (a_number (value v.whole x.fact.state) ∷ [])
      (marked_values v (zip xs ms))))
      (marks-say xs ms (loosened_at s x) t (us ++ a_number (value v.whole x.fact.state) ∷ [])
      (let a = push-length s.sorts Int in
      let b = push-length us (a_number (value v.whole x.fact.state)) in omega (arith, a, b, count))
      (all-more (PairSays v us V)
      (PairSays v (us ++ a_number (value v.whole x.fact.state) ∷ []) V)
      (pair-more v us (a_number (value v.whole x.fact.state)) V) xs h.1)
      (all-set (SaysAt (us ++ a_number (value v.whole x.fact.state) ∷ []) V) s.facts x.number
      (loosened x.fact (fresh s))
      (all-more (SaysAt us V) (SaysAt (us ++ a_number (value v.whole x.fact.state) ∷ []) V)
      (says-more us (a_number (value v.whole x.fact.state)) V) s.facts k)
      (says-loosened us (a_number (value v.whole x.fact.state)) V x.fact (length s.sorts) count
      h.0.0 (ap a_number (sym h.0.1)))) q)) e
    where
      by :
          (b : Bool) →
          ((with_marks (loosened_at s x) xs (map is_some ms)).value ≡ Some t →
          AllByRecursion (SaysAt (us ++ marked_values v (zip (x ∷ xs) (None ∷ ms))) V) t.facts) →
          (unmarked_as s x b >>= λ s'. with_marks s' xs (map is_some ms)).value ≡ Some t →
          AllByRecursion (SaysAt (us ++ marked_values v (zip (x ∷ xs) (None ∷ ms))) V) t.facts
      by true more q = more q
      by false more q = absurd (none-some q)

-- from a state's own pairs
pub all-marks-say :
    (V : Table) (vs : List NameValue) (s t : PlainState) (ms : List (Option Cert)) →
    length s.sorts ≡ length vs → AllByRecursion (SaysAt vs V) s.facts →
    (with_marks s (rivals s) (map is_some ms)).value ≡ Some t →
    AllByRecursion (SaysAt (vs ++ marked_values (valuation vs) (zip (rivals s) ms)) V) t.facts
all-marks-say V vs s t ms count h e =
    marks-say V (valuation vs) (rivals s) ms s t vs count
    (all-more (λ x. SaysAt vs V x.fact) (PairSays (valuation vs) vs V) (λ x k. (k, refl))
    (rivals s) (of-rivals (SaysAt vs V) s h)) h e
