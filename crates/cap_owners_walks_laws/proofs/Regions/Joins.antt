-- A region is closed: where a walk gives its state to the loose facts of the region, its values are
-- those of the join, but for variables that are kept free.
use Rattle.std.proofs.Common.{◌≡◌, inl, inr, ℕ, ◌<◌, ℤ, pos, ◌&&◌, Bool, true, false, List, [], ◌∷◌, length, cond, Some, refl, sym, ap, ◌∙◌, subst, arith, ◌*ℤ◌}
use Rattle.std.specs.Prelude.{slice_set, find, unwrap_or, if◌then◌else◌, ◌==◌}
use Rattle.std.specs.List.{AllByRecursion}
use Rattle.std.proofs.lemmas.Bool.{cases_eq}
use Rattle.cap_lin.specs.Linear.{same_number, same_term}
use Rattle.cap_lin.specs.Values.{value, Valuation, denominator}
use Rattle.cap_lin.specs.declared.row.Sort.{Sort}
use Rattle.cap_goal_spec.specs.Terms.{lone_variable}
use Rattle.cap_goal_spec.specs.States.{PlainFact, PlainState}
use Rattle.cap_rules.specs.Making.{is_of_region}
use Rattle.cap_machine_accounts.specs.Assertions.{NameValue, a_number}
use Rattle.cap_account_resources.proofs.Lists.{some-same, none-some, set-length, get-or-set, get-or-other, within}
use Rattle.cap_account_resources.proofs.Order.{same-refl}
use Rattle.cap_account_states.proofs.Facts.{LooseState, FactOver, Facts, found-all}
use Rattle.cap_account_states.proofs.Meets.{Free, Usable, new-whole, new-share}
use Rattle.cap_account_states.proofs.Terms.{Over, Agree, value-agree, vars-more}
use Rattle.cap_account_assertions.proofs.Named.{lone, set_to, joined_values}
use Rattle.cap_account_steps.proofs.KeptFree.{kept-other}
use Rattle.cap_lin.specs.Laws.Sameness.{same_term-decides}
use Rattle.cap_lin.specs.declared.row.Sort.TheVariants.{Int}
use Rattle.cap_prog.specs.Program.{PlainProgram}
use Rattle.cap_account_resources.specs.Parts.{Table}
use Rattle.cap_account_resources.proofs.Heaps.{both-true}
use Rattle.cap_account_states.proofs.KnowsLater.{Steady}
use Rattle.cap_account_steps.proofs.Exact.{all-two}
use Rattle.cap_account_steps.proofs.Joining.{Joined}
use Rattle.cap_owners_spec.specs.Traced.{number_of, numerator_of, value_at, valuation}
use Rattle.cap_owners_walks_laws.proofs.Regions.Shifts.{firm_all}

-- one fact gets the state, if it is loose and of this region
abbrev pub firm_one : PlainFact → ℤ → ℤ → List NameValue → List NameValue
firm_one f n z vs =
    if f.loose && same_number (value (valuation vs).whole f.region) n
    then slice_set vs (unwrap_or (lone_variable f.state) (length vs)) (a_number z) else vs

module _ (ks : List ℕ) (sorts : List Sort) (n z : ℤ) where
  abbrev pub Kept : PlainFact → Type 0
  Kept f = LooseState ks sorts f × Over (Free ks) f.region

  pub one-length : (f : PlainFact) (vs : List NameValue) → length (firm_one f n z vs) ≡ length vs
  one-length f vs = by (f.loose && same_number (value (valuation vs).whole f.region) n)
    where
      by :
          (b : Bool) →
          length (if b then slice_set vs (unwrap_or (lone_variable f.state) (length vs))
          (a_number z) else vs)
          ≡ length vs
      by true = set-length vs (unwrap_or (lone_variable f.state) (length vs)) (a_number z)
      by false = refl

  -- a variable that isn't kept free keeps its value
  one-other :
      (f : PlainFact) (vs : List NameValue) (x : ℕ) → LooseState ks sorts f → Free ks x →
      value_at (firm_one f n z vs) x ≡ value_at vs x
  one-other f vs x loose free =
      by f.loose refl (same_number (value (valuation vs).whole f.region) n)
    where
      by :
          (b : Bool) → f.loose ≡ b → (c : Bool) →
          value_at (if b && c
          then slice_set vs (unwrap_or (lone_variable f.state) (length vs)) (a_number z) else vs) x
          ≡ value_at vs x
      by false e c = refl
      by true e false = refl
      by true e true =
          let q = loose e in
          let at : unwrap_or (lone_variable f.state) (length vs) ≡ q.0 =
          ap (λ t. unwrap_or (lone_variable t) (length vs)) q.1 in
          ap (λ i. value_at (slice_set vs i (a_number z)) x) at
          ∙ get-or-other vs q.0 x (a_number z) (a_number (pos 0)) (kept-other ks q.0 x q.2 free)

  -- and what has the state keeps it
  one-stays :
      (f : PlainFact) (vs : List NameValue) (x : ℕ) → x < length vs →
      value_at vs x ≡ a_number z → value_at (firm_one f n z vs) x ≡ a_number z
  one-stays f vs x l h = by (f.loose && same_number (value (valuation vs).whole f.region) n)
    where
      i : ℕ
      i = unwrap_or (lone_variable f.state) (length vs)

      set-here : value_at (slice_set vs (unwrap_or (lone_variable f.state) (length vs))
          (a_number z)) x ≡ a_number z
      set-here = elim (cases_eq x (unwrap_or (lone_variable f.state) (length vs))) [
        | inl e ↦
            ap (λ j. value_at (slice_set vs j (a_number z)) x) (sym e)
            ∙ get-or-set vs x (a_number z) (a_number (pos 0)) l
        | inr ne ↦
            get-or-other vs (unwrap_or (lone_variable f.state) (length vs)) x (a_number z)
            (a_number (pos 0)) ne ∙ h
      ]

      by :
          (b : Bool) →
          value_at (if b
          then slice_set vs (unwrap_or (lone_variable f.state) (length vs)) (a_number z) else vs) x
          ≡ a_number z
      by true = set-here
      by false = h

  -- a loose fact of the region gets it
  pub one-sets :
      (f : PlainFact) (vs : List NameValue) → length sorts ≡ length vs → LooseState ks sorts f →
      f.loose ≡ true → value (valuation vs).whole f.region ≡ n →
      value_at (firm_one f n z vs) (lone f.state) ≡ a_number z
  one-sets f vs count loose e is =
      let q = loose e in
      let low = within sorts q.0 _ q.3 in
      let t : same_number (value (valuation vs).whole f.region) n ≡ true =
      ap (λ m. same_number m n) is ∙ same-refl n in
      ap (λ b. value_at (if b && same_number (value (valuation vs).whole f.region) n
      then slice_set vs (unwrap_or (lone_variable f.state) (length vs)) (a_number z) else vs)
      (lone f.state)) e
      ∙ ap (λ b. value_at (if b
      then slice_set vs (unwrap_or (lone_variable f.state) (length vs)) (a_number z) else vs)
      (lone f.state)) t
      ∙ ap (λ u. value_at (slice_set vs (unwrap_or (lone_variable u) (length vs)) (a_number z))
      (lone u)) q.1
      ∙ get-or-set vs q.0 (a_number z) (a_number (pos 0)) (omega (arith, low, count))

  pub one-agrees :
      (f : PlainFact) (vs : List NameValue) → LooseState ks sorts f →
      Agree (Free ks) (valuation vs) (valuation (firm_one f n z vs))
  one-agrees f vs loose = record {
    under = refl;
    whole = λ x h. ap number_of (one-other f vs x loose h);
    share = λ x h. ap numerator_of (one-other f vs x loose h);
  }

  -- ---- all facts

  pub firm-other :
      (fs : List PlainFact) (vs : List NameValue) (x : ℕ) →
      AllByRecursion (LooseState ks sorts) fs → Free ks x →
      value_at (firm_all fs n z vs) x ≡ value_at vs x
  firm-other [] vs x l h = refl
  firm-other (f ∷ fs) vs x l h =
      firm-other fs (firm_one f n z vs) x l.1 h ∙ one-other f vs x l.0 h

  pub firm-stays :
      (fs : List PlainFact) (vs : List NameValue) (x : ℕ) → x < length vs →
      value_at vs x ≡ a_number z → value_at (firm_all fs n z vs) x ≡ a_number z
  firm-stays [] vs x l h = h
  firm-stays (f ∷ fs) vs x l h =
      let count = one-length f vs in
      firm-stays fs (firm_one f n z vs) x (omega (arith, l, count)) (one-stays f vs x l h)

  pub firm-length :
      (fs : List PlainFact) (vs : List NameValue) → length (firm_all fs n z vs) ≡ length vs
  firm-length [] vs = refl
  firm-length (f ∷ fs) vs = firm-length fs (firm_one f n z vs) ∙ one-length f vs

  found-over :
      (test : PlainFact → Bool) (fs : List PlainFact) (h : PlainFact) → AllByRecursion Kept fs →
      find test fs ≡ Some h → Over (Free ks) h.region
  found-over test [] h k e = absurd (none-some e)
  found-over test (f ∷ fs) h k e = by (test f) e (λ q. found-over test fs h k.1 q)
    where
      by :
          (b : Bool) → cond b (Some f) (find test fs) ≡ Some h →
          (find test fs ≡ Some h → Over (Free ks) h.region) → Over (Free ks) h.region
      by true q later =
          subst (λ (y : PlainFact). Over (Free ks) y.region) (some-same f h q) k.0.1
      by false q later = later q

  -- the first fact that a test finds, where it is loose and of the region
  pub firm-sets :
      (test : PlainFact → Bool) (fs : List PlainFact) (vs : List NameValue) (h : PlainFact) →
      length sorts ≡ length vs → AllByRecursion Kept fs → find test fs ≡ Some h →
      h.loose ≡ true → value (valuation vs).whole h.region ≡ n →
      value_at (firm_all fs n z vs) (lone h.state) ≡ a_number z
  firm-sets test [] vs h count k e loose is = absurd (none-some e)
  firm-sets test (f ∷ fs) vs h count k e loose is =
      by (test f) refl e (λ q.
      let size = one-length f vs in
      firm-sets test fs (firm_one f n z vs) h (omega (arith, count, size)) k.1 q loose
      (value-agree (Free ks) (valuation vs) (valuation (firm_one f n z vs)) (one-agrees f vs k.0.0)
      h.region (found-over test fs h k.1 q)
      ∙ is))
    where
      by :
          (b : Bool) → test f ≡ b → cond b (Some f) (find test fs) ≡ Some h →
          (find test fs ≡ Some h →
          value_at (firm_all fs n z (firm_one f n z vs)) (lone h.state) ≡ a_number z) →
          value_at (firm_all fs n z (firm_one f n z vs)) (lone h.state) ≡ a_number z
      by true t q later =
          let same = some-same f h q in
          let l = subst (LooseState ks sorts) same k.0.0 in
          let there = l loose in
          let low = within sorts there.0 _ there.3 in
          let at : lone h.state ≡ there.0 = ap lone there.1 in
          let size = one-length f vs in
          firm-stays fs (firm_one f n z vs) (lone h.state) (omega (arith, low, at, size, count))
          (subst (λ g. value_at (firm_one g n z vs) (lone h.state) ≡ a_number z) (sym same)
          (one-sets h vs count l loose is))
      by false t q later = later q

  pub firm-agrees :
      (fs : List PlainFact) (vs : List NameValue) → AllByRecursion (LooseState ks sorts) fs →
      Agree (Free ks) (valuation vs) (valuation (firm_all fs n z vs))
  firm-agrees fs vs l = record {
    under = refl;
    whole = λ x h. ap number_of (firm-other fs vs x l h);
    share = λ x h. ap numerator_of (firm-other fs vs x l h);
  }

-- ---- the join

-- what joins is a fact of this region
joined-region :
    (f h : PlainFact) (P : PlainFact → Type 0) (fs : List PlainFact) → AllByRecursion P fs →
    find (is_of_region f) fs ≡ Some h → h.region ≡ f.region
joined-region f h P fs all e =
    let at = found-all P (is_of_region f) fs h all e in
    let t = both-true (same_term h.region f.region) (h.kind == f.kind) at.1 in
    (same_term-decides h.region f.region).0 t.0

-- where a fact is joined with what there is of its region, the walk's values are those of the join
-- on all that isn't kept free by then
pub joined-agree :
    (p : PlainProgram) (ks : List ℕ) (vs : List NameValue) (U : Table) (s : PlainState)
    (f : PlainFact) (j : Joined p ks (valuation vs) U s f) → Facts ks (valuation vs) U s →
    length s.sorts ≡ length vs →
    Agree (Steady j.js s) j.w
    (valuation (firm_all s.facts (value (valuation vs).whole f.region)
    (value (valuation vs).whole f.state) vs))
joined-agree p ks vs U s f j facts count =
    let v = valuation vs in
    let n = value v.whole f.region in
    let z = value v.whole f.state in
    let R = Usable ks s.sorts Int in
    let firm = firm-agrees ks s.sorts n z s.facts vs facts.loose in
    let kept : AllByRecursion (Kept ks s.sorts n z) s.facts =
    all-two (LooseState ks s.sorts) (FactOver R) (Kept ks s.sorts n z)
    (λ h l o. (l, vars-more R (Free ks) (λ x u. u.1) h.region.parts o.0)) s.facts facts.loose
    facts.over in
    let set = λ (h : PlainFact) (found : find (is_of_region f) s.facts ≡ Some h)
    (loose : h.loose ≡ true).
    firm-sets ks s.sorts n z (is_of_region f) s.facts vs h count kept found loose
    (ap (value v.whole) (joined-region f h (FactOver R) s.facts facts.over found)) in
    let named = λ (h : PlainFact) (found : find (is_of_region f) s.facts ≡ Some h)
    (loose : h.loose ≡ true).
    j.named ∙ ap (joined_values v f) found
    ∙ ap (λ b. if b then set_to v (lone h.state) z else v) loose in
    record {
      under = sym j.agree.under;
      whole = λ x h. elim (j.kept x h.1) [
        | inl free ↦ firm.whole x free ∙ sym (j.agree.whole x free)
        | inr k ↦
            ap (λ y. number_of (value_at (firm_all s.facts n z vs) y)) k.3
            ∙ ap number_of (set k.0 k.1 k.2)
            ∙ sym (new-whole v (lone k.0.state) z (z *ℤ denominator v.fraction))
            ∙ ap (λ (u : Valuation). u.whole (lone k.0.state)) (sym (named k.0 k.1 k.2))
            ∙ ap j.w.whole (sym k.3)
      ];
      share = λ x h. elim (j.kept x h.1) [
        | inl free ↦ firm.share x free ∙ sym (j.agree.share x free)
        | inr k ↦
            ap (λ y. numerator_of (value_at (firm_all s.facts n z vs) y)) k.3
            ∙ ap numerator_of (set k.0 k.1 k.2)
            ∙ sym (new-share v (lone k.0.state) z (z *ℤ denominator v.fraction))
            ∙ ap (λ (u : Valuation). u.fraction.numerator (lone k.0.state))
            (sym (named k.0 k.1 k.2))
            ∙ ap j.w.fraction.numerator (sym k.3)
      ];
    }
