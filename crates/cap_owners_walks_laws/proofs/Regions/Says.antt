-- What facts say while regions are closed along a walk: what the table does, or their regions are
-- still open. Where one is closed, each loose fact of it gets its state, and the others keep theirs.
use Rattle.std.proofs.Common.{◌≡◌, ◌≢◌, ◌⊎◌, inl, inr, ℕ, ℤ, pos, ◌&&◌, Bool, true, false, List, [], ◌∷◌, length, map, Option, Some, None, refl, sym, ap, ◌∙◌, subst, arith}
use Rattle.std.specs.Prelude.{slice_set, unwrap_or, if◌then◌else◌}
use Rattle.std.specs.List.{AllByRecursion}
use Rattle.cap_lin.specs.Linear.{variable, same_number}
use Rattle.cap_lin.specs.Values.{value, Valuation}
use Rattle.cap_lin.specs.declared.row.Sort.{Sort}
use Rattle.cap_lin.specs.declared.row.Sort.TheVariants.{Int}
use Rattle.cap_goal_spec.specs.Terms.{lone_variable}
use Rattle.cap_goal_spec.specs.States.{PlainFact, PlainState}
use Rattle.cap_machine_accounts.specs.Assertions.{NameValue, a_number}
use Rattle.cap_machine_accounts.specs.Accounts.{EachTwo}
use Rattle.cap_account_resources.specs.Parts.{Known, known_as, Table}
use Rattle.cap_account_resources.proofs.Lists.{some-same, none-some, get-or-other, within, all-more, Among}
use Rattle.cap_account_resources.proofs.Order.{same-int, same-or}
use Rattle.cap_account_resources.proofs.Room.{with_known}
use Rattle.cap_account_states.proofs.Alike.{Alike, agree-alike, value-alike}
use Rattle.cap_account_states.proofs.Facts.{LooseState, StatesDiffer, StateHolds, StateOver, FactHolds, FactOver, Facts, fact-more}
use Rattle.cap_account_states.proofs.Meets.{Free, Usable, usable-old, Old, variable-value}
use Rattle.cap_account_states.proofs.Terms.{Over, Agree, value-agree, vars-more}
use Rattle.cap_account_assertions.proofs.Follows.{all-among, among-each}
use Rattle.cap_account_assertions.proofs.Named.{lone}
use Rattle.cap_account_assertions.proofs.NewRegions.{told-here, told-apart}
use Rattle.cap_account_steps.proofs.Entering.{firm-exact}
use Rattle.cap_account_steps.proofs.Exact.{all-two, told-alike}
use Rattle.cap_account_steps.proofs.Worlds.{Exact}
use Rattle.cap_owners_spec.specs.Traced.{number_of, value_at, valuation}
use Rattle.cap_owners_walks_laws.proofs.Regions.Joins.{firm_one, Kept, one-length, one-sets, one-agrees, firm-stays, firm-agrees}
use Rattle.cap_owners_walks_laws.proofs.Regions.Shifts.{firm_all}

-- a fact says what the table does, or its region is one of these, which are open
abbrev pub SaysOr : Valuation → Table → List ℤ → PlainFact → Type 0
SaysOr v W ns f = Among (value v.whole f.region) ns ⊎ Exact v W f

-- ---- lists

-- one of a list, and the others
each-or :
    {X : Type 0} (R : X → X → Type 0) → ((x y : X) → R x y → R y x) → (xs : List X) (x : X) →
    EachTwo R xs → Among x xs → AllByRecursion (λ y. (y ≡ x) ⊎ R x y) xs
each-or R back [] x h a = absurd a
each-or R back (y ∷ ys) x h (inl e) = (
  inl e,
  all-more (R y) (λ z. (z ≡ x) ⊎ R x z) (λ z r. inr (subst (λ w. R w z) e r)) ys h.0,
)
each-or R back (y ∷ ys) x h (inr a) =
    (inr (back y x (all-among (R y) ys x h.0 a)), each-or R back ys x h.1 a)

-- ---- facts of which some get the state

module _ (ks : List ℕ) (sorts : List Sort) (n z : ℤ) where
  -- a loose fact of the region gets it
  firm-among :
      (fs : List PlainFact) (vs : List NameValue) (h : PlainFact) → length sorts ≡ length vs →
      AllByRecursion (Kept ks sorts n z) fs → Among h fs → h.loose ≡ true →
      value (valuation vs).whole h.region ≡ n →
      value_at (firm_all fs n z vs) (lone h.state) ≡ a_number z
  firm-among [] vs h count k a loose is = absurd a
  firm-among (f ∷ fs) vs h count k (inl e) loose is =
      let l : LooseState ks sorts h = subst (LooseState ks sorts) e k.0.0 in
      let there = l loose in
      let low = within sorts there.0 _ there.3 in
      let at : lone h.state ≡ there.0 = ap lone there.1 in
      let size = one-length ks sorts n z f vs in
      firm-stays ks sorts n z fs (firm_one f n z vs) (lone h.state)
      (omega (arith, low, at, size, count))
      (subst (λ g. value_at (firm_one g n z vs) (lone h.state) ≡ a_number z) (sym e)
      (one-sets ks sorts n z h vs count l loose is))
  firm-among (f ∷ fs) vs h count k (inr a) loose is =
      let size = one-length ks sorts n z f vs in
      firm-among fs (firm_one f n z vs) h (omega (arith, count, size)) k.1 a loose
      (value-agree (Free ks) (valuation vs) (valuation (firm_one f n z vs))
      (one-agrees ks sorts n z f vs k.0.0) h.region (all-among (Kept ks sorts n z) fs h k.1 a).1
      ∙ is)

  -- a variable that isn't its state keeps its value
  one-apart :
      (f : PlainFact) (vs : List NameValue) (x : ℕ) → LooseState ks sorts f →
      (f.loose ≡ true → value (valuation vs).whole f.region ≡ n → x ≢ lone f.state) →
      value_at (firm_one f n z vs) x ≡ value_at vs x
  one-apart f vs x loose apart =
      by f.loose refl (same_number (value (valuation vs).whole f.region) n) refl
    where
      by :
          (b : Bool) → f.loose ≡ b → (c : Bool) →
          same_number (value (valuation vs).whole f.region) n ≡ c →
          value_at (if b && c
          then slice_set vs (unwrap_or (lone_variable f.state) (length vs)) (a_number z) else vs) x
          ≡ value_at vs x
      by false e c t = refl
      by true e false t = refl
      by true e true t =
          let q = loose e in
          let at : unwrap_or (lone_variable f.state) (length vs) ≡ q.0 =
          ap (λ t. unwrap_or (lone_variable t) (length vs)) q.1 in
          let is : lone f.state ≡ q.0 = ap lone q.1 in
          ap (λ i. value_at (slice_set vs i (a_number z)) x) at
          ∙ get-or-other vs q.0 x (a_number z) (a_number (pos 0))
          (λ same. apart e (same-int (value (valuation vs).whole f.region) n t) (same ∙ sym is))

  firm-apart :
      (fs : List PlainFact) (vs : List NameValue) (x : ℕ) →
      AllByRecursion (Kept ks sorts n z) fs →
      AllByRecursion
      (λ f. f.loose ≡ true → value (valuation vs).whole f.region ≡ n → x ≢ lone f.state) fs →
      value_at (firm_all fs n z vs) x ≡ value_at vs x
  firm-apart [] vs x k a = refl
  firm-apart (f ∷ fs) vs x k a =
      let us = firm_one f n z vs in
      let agree = one-agrees ks sorts n z f vs k.0.0 in
      let Apart = λ (v : Valuation) (g : PlainFact).
      g.loose ≡ true → value v.whole g.region ≡ n → x ≢ lone g.state in
      firm-apart fs us x k.1
      (all-two (Kept ks sorts n z) (Apart (valuation vs)) (Apart (valuation us))
      (λ g i h l e.
      h l (sym (value-agree (Free ks) (valuation vs) (valuation us) agree g.region i.1) ∙ e)) fs
      k.1 a.1)
      ∙ one-apart f vs x k.0.0 a.0

-- ---- a region is closed

module _ (ks : List ℕ) (vs : List NameValue) (T : Table) (s : PlainState)
    (facts : Facts ks (valuation vs) T s) (count : length s.sorts ≡ length vs) (n z : ℤ) (k : ℕ)
    (args : List ℤ) (is_open : T n ≡ Some (known_as k args None)) where
  abbrev v : Valuation
  v = valuation vs

  abbrev us : List NameValue
  us = firm_all s.facts n z vs

  abbrev w : Valuation
  w = valuation (firm_all s.facts n z vs)

  abbrev U : Table
  U = with_known T n (known_as k args (Some z))

  agree : Agree (Free ks) (valuation vs) (valuation (firm_all s.facts n z vs))
  agree = firm-agrees ks s.sorts n z s.facts vs facts.loose

  alike : Alike (Free ks) (valuation vs) (valuation (firm_all s.facts n z vs))
  alike = agree-alike (Free ks) v w agree

  near : AllByRecursion (FactOver (Free ks)) s.facts
  near =
      all-more (FactOver (Usable ks s.sorts Int)) (FactOver (Free ks))
      (fact-more (Usable ks s.sorts Int) (Free ks) (λ x h. h.1)) s.facts facts.over

  kept : AllByRecursion (Kept ks s.sorts n z) s.facts
  kept =
      all-two (LooseState ks s.sorts) (FactOver (Free ks)) (Kept ks s.sorts n z)
      (λ f l o. (l, o.0)) s.facts facts.loose near

  -- a loose fact's state is its variable
  state-is :
      (f : PlainFact) → LooseState ks s.sorts f → f.loose ≡ true → f.state ≡ variable (lone f.state)
  state-is f l e = (l e).1 ∙ ap variable (sym (ap lone (l e).1))

  value-is :
      (u : Valuation) (f : PlainFact) → LooseState ks s.sorts f → f.loose ≡ true →
      value u.whole f.state ≡ u.whole (lone f.state)
  value-is u f l e =
      ap (value u.whole) (state-is f l e) ∙ variable-value u (lone f.state)

  -- of the region that is closed
  says-here :
      (f : PlainFact) → Among f s.facts → value (valuation vs).whole f.region ≡ n →
      Exact (valuation (firm_all s.facts n z vs)) (with_known T n (known_as k args (Some z))) f
  says-here f a e =
      let holds = all-among (FactHolds v T) s.facts f facts.holds a in
      let l = all-among (LooseState ks s.sorts) s.facts f facts.loose a in
      let over = all-among (FactOver (Free ks)) s.facts f near a in
      let same = some-same (known_as k args None) (known_as f.kind (map (value v.whole) f.args) holds.0)
      (sym is_open ∙ ap T (sym e) ∙ holds.1) in
      let loose = is-loose f.loose holds.0 (ap (λ (x : Known). x.state) same) holds.2 in
      told-alike (Free ks) v w U alike f f.state z over.0 over.1
      (value-is w f l loose
      ∙ ap number_of (firm-among ks s.sorts n z s.facts vs f count kept a loose e))
      (ap U e ∙ told-here T n (known_as k args (Some z))
      ∙ ap (λ (x : Known). Some (record x { state = Some z })) same)
    where
      is-loose :
          (b : Bool) (o : Option ℤ) → None ≡ o → StateHolds b o (value v.whole f.state) → b ≡ true
      is-loose true o e h = refl
      is-loose false o e h = absurd (none-some (e ∙ h))

  -- of another region
  says-there :
      (f : PlainFact) → Among f s.facts → n ≢ value (valuation vs).whole f.region →
      Exact (valuation vs) T f →
      Exact (valuation (firm_all s.facts n z vs)) (with_known T n (known_as k args (Some z))) f
  says-there f a ne exact =
      let over = all-among (FactOver (Free ks)) s.facts f near a in
      told-alike (Free ks) v w U alike f f.state (value v.whole f.state) over.0 over.1
      (stays f.loose refl over.2)
      (told-apart T n (value v.whole f.region) (known_as k args (Some z)) ne ∙ exact)
    where
      l : LooseState ks s.sorts f
      l = all-among (LooseState ks s.sorts) s.facts f facts.loose a

      others : AllByRecursion (λ g. (g ≡ f) ⊎ StatesDiffer f g) s.facts
      others =
          each-or StatesDiffer (λ g h d i j e. d j i (sym e)) s.facts f facts.differ a

      stays :
          (b : Bool) → f.loose ≡ b → StateOver (Free ks) b f.state →
          value (valuation (firm_all s.facts n z vs)).whole f.state
          ≡ value (valuation vs).whole f.state
      stays false e o = value-alike (Free ks) v w alike f.state o
      stays true e o =
          value-is w f l e
          ∙ ap number_of (firm-apart ks s.sorts n z s.facts vs (lone f.state) kept
          (all-two (LooseState ks s.sorts) (λ g. (g ≡ f) ⊎ StatesDiffer f g)
          (λ g. g.loose ≡ true → value v.whole g.region ≡ n → lone f.state ≢ lone g.state)
          (λ g m d i is same. elim d [
            | inl q ↦ ne (sym is ∙ ap (λ (h : PlainFact). value v.whole h.region) q)
            | inr differ ↦
                differ e i (state-is f l e ∙ ap variable same ∙ sym (state-is g m i))
          ]) s.facts facts.loose others))
          ∙ sym (value-is v f l e)

  -- all of them, where these stay open
  pub closed-says :
      (ns : List ℤ) → AllByRecursion (SaysOr (valuation vs) T (n ∷ ns)) s.facts →
      AllByRecursion
      (SaysOr (valuation (firm_all s.facts n z vs)) (with_known T n (known_as k args (Some z))) ns)
      s.facts
  closed-says ns h =
      among-each (SaysOr w U ns) s.facts
      (λ f a. by f a (all-among (SaysOr v T (n ∷ ns)) s.facts f h a))
    where
      by :
          (f : PlainFact) → Among f s.facts → SaysOr (valuation vs) T (n ∷ ns) f →
          SaysOr (valuation (firm_all s.facts n z vs)) (with_known T n (known_as k args (Some z)))
          ns f
      by f a said = elim (same-or n (value v.whole f.region)) [
        | inl e ↦ inr (says-here f a (sym e))
        | inr ne ↦ elim said [
          | inl (inl e) ↦ absurd (ne e)
          | inl (inr m) ↦ inl
              (subst (λ r. Among r ns)
              (sym (value-alike (Free ks) v w alike f.region
              (all-among (FactOver (Free ks)) s.facts f near a).0)) m)
          | inr exact ↦ inr (says-there f a ne exact)
        ]
      ]

-- ---- after a Take

-- loose facts were there before, and the others say what the later table does
pub taken-says :
    (ks : List ℕ) (W U : Table) (v w : Valuation) (s t : PlainState) (ns : List ℤ) →
    ((n : ℤ) (e : Known) → W n ≡ Some e → U n ≡ Some e) → Facts ks v W s → Facts ks w U t →
    AllByRecursion (λ f. f.loose ≡ true → Among f s.facts) t.facts → Alike (Old s) v w →
    AllByRecursion (SaysOr v W ns) s.facts → AllByRecursion (SaysOr w U ns) t.facts
taken-says ks W U v w s t ns extends before after loose alike h =
    all-two (λ f. f.loose ≡ true → Among f s.facts) (FactHolds w U) (SaysOr w U ns)
    (λ f l holds. by f f.loose refl l holds) t.facts loose after.holds
  where
    R : ℕ → Type 0
    R = Usable ks s.sorts Int

    old :
        (f : PlainFact) (a : Among f s.facts) → f.loose ≡ true →
        value w.whole f.state ≡ value v.whole f.state
    old f a e =
        let q = all-among (LooseState ks s.sorts) s.facts f before.loose a e in
        let is = q.1 ∙ ap variable (sym (ap lone q.1)) in
        value-alike (Old s) v w alike f.state
        (subst (Over (Old s)) (sym q.1) (within s.sorts q.0 Int q.3, tt))

    by :
        (f : PlainFact) (b : Bool) → f.loose ≡ b → (f.loose ≡ true → Among f s.facts) →
        FactHolds w U f → SaysOr w U ns f
    by f false e l holds = inr (firm-exact w U f e holds)
    by f true e l holds =
        let a = l e in
        let over = all-among (FactOver R) s.facts f before.over a in
        let region = vars-more R (Old s) (usable-old ks s.sorts Int) f.region.parts over.0 in
        elim (all-among (SaysOr v W ns) s.facts f h a) [
          | inl m ↦ inl
              (subst (λ r. Among r ns) (sym (value-alike (Old s) v w alike f.region region)) m)
          | inr exact ↦ inr
              (told-alike (Old s) v w U alike f f.state (value v.whole f.state) region
              (all-more (Over R) (Over (Old s))
              (λ t o. vars-more R (Old s) (usable-old ks s.sorts Int) t.parts o) f.args over.1)
              (old f a e)
              (extends (value v.whole f.region)
              (known_as f.kind (map (value v.whole) f.args) (Some (value v.whole f.state))) exact))
        ]
