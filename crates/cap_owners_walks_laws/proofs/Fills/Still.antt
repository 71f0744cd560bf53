-- What was met is met by the same values, while the regions of its facts are in the same states.
use Rattle.std.proofs.Common.{◌≡◌, inl, inr, ℕ, ℤ, ◌&&◌, Bool, true, false, List, [], ◌∷◌, ◌++◌, Option, Some, None, refl, sym, ap, ◌∙◌, subst}
use Rattle.std.specs.Prelude.{option_map}
use Rattle.std.specs.List.{AllByRecursion, list_all}
use Rattle.cap_lin.specs.Linear.{same_number}
use Rattle.cap_lin.specs.Values.{Valuation}
use Rattle.cap_prog.specs.Program.{PlainItem, compare, choose, fact, atom, cell, Items, none, item, PlainProgram}
use Rattle.cap_account_resources.specs.Parts.{Known, known_as, Table}
use Rattle.cap_account_resources.proofs.Lists.{some-same, all-first, all-second, all-both}
use Rattle.cap_account_resources.proofs.Order.{same-int, same-refl}
use Rattle.cap_account_resources.proofs.Stocks.{Stock}
use Rattle.cap_account_assertions.proofs.Asserted.{Draws, DrawsAll}
use Rattle.cap_owners_spec.specs.Track.{Fill, TrackedRegion, tracked_at}
use Rattle.cap_owners_spec.specs.Steps.{is_in_state, is_current}
use Rattle.cap_owners_walks_laws.proofs.Fills.Drawn.{item_met, items_met, item_told, items_told, IsMetBy, IsMetOr, Tells}

-- what the one table tells of this region and state, the other does
abbrev pub StaysTold : Table → Table → ℤ × ℤ → Type 0
StaysTold T U x =
    (k : ℕ) (zs : List ℤ) → T x.0 ≡ Some (known_as k zs (Some x.1)) →
    U x.0 ≡ Some (known_as k zs (Some x.1))

module _ (p : PlainProgram) (T U : Table) (a : Valuation) where
  -- by the other table the same is drawn, of the same values and facts
  pub record StillItem (i : PlainItem) (q r : Stock) (d : Draws p T a i q r) : Type 0 where
    pub drawn : Draws p U a i q r
    pub met : item_met p U a i q r drawn ≡ item_met p T a i q r d
    pub told : item_told p U a i q r drawn ≡ item_told p T a i q r d

  pub record StillItems (xs : Items) (q r : Stock) (d : DrawsAll p T a xs q r) : Type 0 where
    pub drawn : DrawsAll p U a xs q r
    pub met : items_met p U a xs q r drawn ≡ items_met p T a xs q r d
    pub told : items_told p U a xs q r drawn ≡ items_told p T a xs q r d

  mutual
    item-still :
        (i : PlainItem) (q r : Stock) (d : Draws p T a i q r) →
        AllByRecursion (StaysTold T U) (item_told p T a i q r d) → StillItem i q r d
    item-still (compare c) q r d h = record { drawn = d; met = refl; told = refl }
    item-still (choose c x y) q r (inl m) h =
        let k = items-still x q r m.1 h in
        record { drawn = inl (m.0, k.drawn); met = k.met; told = k.told }
    item-still (choose c x y) q r (inr m) h =
        let k = items-still y q r m.1 h in
        record { drawn = inr (m.0, k.drawn); met = k.met; told = k.told }
    item-still (fact place n k args s) q r d h = record {
      drawn = ((d.0.0, d.0.1, h.0 k d.0.0 d.0.2, d.0.3, d.0.4), d.1);
      met = refl;
      told = refl;
    }
    item-still (atom place n k i asked) q r d h = record { drawn = d; met = refl; told = refl }
    item-still (cell place x s) q r d h = record { drawn = d; met = refl; told = refl }

    pub items-still :
        (xs : Items) (q r : Stock) (d : DrawsAll p T a xs q r) →
        AllByRecursion (StaysTold T U) (items_told p T a xs q r d) → StillItems xs q r d
    items-still none q r d h = record { drawn = d; met = refl; told = refl }
    items-still (item i more) q r d h =
        let one = item_told p T a i q d.0 d.1 in
        let rest = items_told p T a more d.0 r d.2 in
        let k = item-still i q d.0 d.1 (all-first (StaysTold T U) one rest h) in
        let m = items-still more d.0 r d.2 (all-second (StaysTold T U) one rest h) in
        record {
          drawn = (d.0, k.drawn, m.drawn);
          met = λ j. k.met j ++ m.met j;
          told = λ j. k.told j ++ m.told j;
        }

-- ---- in the same states

-- each region keeps its type and its arguments
abbrev pub KeepsTypes : Table → Table → Type 0
KeepsTypes T U =
    (n : ℤ) (k : ℕ) (args : List ℤ) (b : ℤ) → T n ≡ Some (known_as k args (Some b)) →
    (c : ℤ) × (U n ≡ Some (known_as k args (Some c)))

-- the state that a table tells, where there is one
abbrev state_told : Option Known → Option ℤ
state_told None = None
state_told (Some e) = e.state

-- the state is this one
abbrev state_in : ℤ → Option ℤ → Bool
state_in z None = false
state_in z (Some y) = same_number y z

-- the table tells of the states of all facts
abbrev pub is_known : Table → Fill → Bool
is_known U f = list_all (λ x. state_in x.1 (state_told (U x.0))) f.facts

-- what is met is current just where the table tells so
module _ (rs : List TrackedRegion) (U : Table) (tells : Tells rs U) where
  state-known :
      (n z : ℤ) → is_in_state z (tracked_at rs n) ≡ state_in z (state_told (U n))
  state-known n z = by (tracked_at rs n) ∙ ap (λ o. state_in z (state_told o)) (tells n)
    where
      by :
          (o : Option TrackedRegion) →
          is_in_state z o
          ≡ state_in z (state_told (option_map (λ (r : TrackedRegion).
          known_as r.owned.region.kind r.owned.region.args (Some r.owned.region.state)) o))
      by None = refl
      by (Some r) = refl

  pub current-known : (f : Fill) → is_current rs f ≡ is_known U f
  current-known f = by f.facts
    where
      by :
          (xs : List (ℤ × ℤ)) →
          list_all (λ x. is_in_state x.1 (tracked_at rs x.0)) xs
          ≡ list_all (λ x. state_in x.1 (state_told (U x.0))) xs
      by [] = refl
      by (x ∷ xs) = λ i. state-known x.0 x.1 i && by xs i

module _ (T U : Table) (keeps : KeepsTypes T U) where
  in-state : (n z : ℤ) → state_in z (state_told (U n)) ≡ true → StaysTold T U (n, z)
  in-state n z e k zs t =
      let c = keeps n k zs z t in
      c.1
      ∙ ap (λ y. Some (known_as k zs (Some y)))
      (same-int c.0 z (sym (ap (λ o. state_in z (state_told o)) c.1) ∙ e))

  all-in-state :
      (xs : List (ℤ × ℤ)) → list_all (λ x. state_in x.1 (state_told (U x.0))) xs ≡ true →
      AllByRecursion (StaysTold T U) xs
  all-in-state [] e = tt
  all-in-state (x ∷ xs) e =
      by (state_in x.1 (state_told (U x.0))) refl e (λ h. all-in-state xs h)
    where
      by :
          (b : Bool) → state_in x.1 (state_told (U x.0)) ≡ b →
          (b && list_all (λ x. state_in x.1 (state_told (U x.0))) xs) ≡ true →
          (list_all (λ x. state_in x.1 (state_told (U x.0))) xs ≡ true →
          AllByRecursion (StaysTold T U) xs) → AllByRecursion (StaysTold T U) (x ∷ xs)
      by true q h rest = (in-state x.0 x.1 q, rest h)
      by false q h rest = absurd (cc)

  -- what is current is met as it was
  pub record MetStill (p : PlainProgram) (a : Valuation) (items : Items) (q r : Stock)
      (f : Fill) : Type 0 where
    pub drawn : DrawsAll p U a items q r
    pub met : IsMetBy p U a items q r drawn f

  pub known-met :
      (p : PlainProgram) (a : Valuation) (items : Items) (q r : Stock)
      (d : DrawsAll p T a items q r) (f : Fill) → IsMetBy p T a items q r d f →
      is_known U f ≡ true → MetStill p a items q r f
  known-met p a items q r d f m e =
      let k = items-still p T U a items q r d
      (subst (AllByRecursion (StaysTold T U)) (sym m.facts) (all-in-state f.facts e)) in
      record {
        drawn = k.drawn;
        met = record {
          names = m.names;
          wildcards = k.met ∙ m.wildcards;
          facts = k.told ∙ m.facts;
        };
      }

  -- also where the names may be any
  pub record MetStillOr (p : PlainProgram) (a : Valuation) (items : Items) (q r : Stock)
      (f : Fill) : Type 0 where
    pub drawn : DrawsAll p U a items q r
    pub met : IsMetOr p U a items q r drawn f

  pub known-met-or :
      (p : PlainProgram) (a : Valuation) (items : Items) (q r : Stock)
      (d : DrawsAll p T a items q r) (f : Fill) → IsMetOr p T a items q r d f →
      is_known U f ≡ true → MetStillOr p a items q r f
  known-met-or p a items q r d f m e =
      let k = items-still p T U a items q r d
      (subst (AllByRecursion (StaysTold T U)) (sym m.facts) (all-in-state f.facts e)) in
      record {
        drawn = k.drawn;
        met = record {
          names = m.names;
          wildcards = k.met ∙ m.wildcards;
          facts = k.told ∙ m.facts;
        };
      }

  pub current-met :
      (rs : List TrackedRegion) → Tells rs U → (p : PlainProgram) (a : Valuation) (items : Items)
      (q r : Stock) (d : DrawsAll p T a items q r) (f : Fill) → IsMetBy p T a items q r d f →
      is_current rs f ≡ true → MetStill p a items q r f
  current-met rs tells p a items q r d f m e =
      known-met p a items q r d f m (sym (current-known rs U tells f) ∙ e)

-- ---- just now

-- what is told of a fact, the table does
abbrev IsToldBy : Table → ℤ × ℤ → Type 0
IsToldBy T x = (k : ℕ) × (zs : List ℤ) × (T x.0 ≡ Some (known_as k zs (Some x.1)))

module _ (p : PlainProgram) (T : Table) (a : Valuation) where
  mutual
    item-known :
        (i : PlainItem) (q r : Stock) (d : Draws p T a i q r) →
        AllByRecursion (IsToldBy T) (item_told p T a i q r d)
    item-known (compare c) q r d = tt
    item-known (choose c x y) q r (inl d) = items-known x q r d.1
    item-known (choose c x y) q r (inr d) = items-known y q r d.1
    item-known (fact place n k args s) q r d = ((k, d.0.0, d.0.2), tt)
    item-known (atom place n k i asked) q r d = tt
    item-known (cell place x s) q r d = tt

    items-known :
        (xs : Items) (q r : Stock) (d : DrawsAll p T a xs q r) →
        AllByRecursion (IsToldBy T) (items_told p T a xs q r d)
    items-known none q r d = tt
    items-known (item i more) q r d =
        all-both (IsToldBy T) (item_told p T a i q d.0 d.1) (items_told p T a more d.0 r d.2)
        (item-known i q d.0 d.1) (items-known more d.0 r d.2)

  module _ (rs : List TrackedRegion) (tells : Tells rs T) where
    state-now : (x : ℤ × ℤ) → IsToldBy T x → is_in_state x.1 (tracked_at rs x.0) ≡ true
    state-now x k = by (tracked_at rs x.0) refl
      where
        by :
            (o : Option TrackedRegion) → tracked_at rs x.0 ≡ o → is_in_state x.1 o ≡ true
        by None q = absurd (
            let e = ap (option_map (λ (r : TrackedRegion).
            known_as r.owned.region.kind r.owned.region.args (Some r.owned.region.state))) q in
            let f = sym e ∙ tells x.0 ∙ k.2 in cc)
        by (Some r) q =
            let e = ap (option_map (λ (r : TrackedRegion).
            known_as r.owned.region.kind r.owned.region.args (Some r.owned.region.state))) q in
            let same : Some r.owned.region.state ≡ Some x.1 =
            ap state_told (sym e ∙ tells x.0 ∙ k.2) in
            ap (λ z. same_number z x.1) (some-same r.owned.region.state x.1 same)
            ∙ same-refl x.1

    all-now :
        (xs : List (ℤ × ℤ)) → AllByRecursion (IsToldBy T) xs →
        list_all (λ x. is_in_state x.1 (tracked_at rs x.0)) xs ≡ true
    all-now [] h = refl
    all-now (x ∷ xs) h =
        ap (λ b. b && list_all (λ x. is_in_state x.1 (tracked_at rs x.0)) xs) (state-now x h.0)
        ∙ all-now xs h.1

    -- what is met by this table is current
    pub met-now :
        (items : Items) (q r : Stock) (d : DrawsAll p T a items q r) (f : Fill) →
        items_told p T a items q r d ≡ f.facts → is_current rs f ≡ true
    met-now items q r d f e =
        all-now f.facts (subst (AllByRecursion (IsToldBy T)) e (items-known items q r d))
