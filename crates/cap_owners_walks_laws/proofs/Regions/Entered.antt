-- A region is entered along a walk: the case by which it owns its part by now, and what is known
-- there of the values; and a world in which it owns its part so.
use Rattle.std.proofs.Common.{◌≡◌, inl, inr, ℕ, zero, suc, ◌+◌, ◌-◌, ◌<◌, ℤ, Bool, true, false, List, [], ◌∷◌, ◌++◌, length, drop, Some, refl, sym, ap, ◌∙◌, subst, arith}
use Rattle.std.specs.Prelude.{slice_get, nat_lt, if◌then◌else◌}
use Rattle.std.proofs.lemmas.Bool.Decides.{nat_tests}
use Rattle.cap_lin.specs.Values.{Valuation, value}
use Rattle.cap_prog.specs.Program.{PlainRegionType, PlainProgram}
use Rattle.cap_prog.specs.Scopes.{Scope}
use Rattle.cap_goal_spec.specs.States.{PlainFact, PlainState}
use Rattle.cap_machine.specs.Machine.{Heap}
use Rattle.cap_machine_accounts.specs.Assertions.{NameValue}
use Rattle.cap_account_resources.specs.Parts.{Known, known_as, Table}
use Rattle.cap_account_resources.proofs.Lists.{some-same}
use Rattle.cap_account_resources.proofs.Order.{same-or}
use Rattle.cap_account_resources.proofs.Stocks.{Stock}
use Rattle.cap_account_states.proofs.Values.{normal}
use Rattle.cap_account_assertions.proofs.Asserted.{OwnsRegion}
use Rattle.cap_account_steps.proofs.CaseValues.{entered_values, entered_names}
use Rattle.cap_account_steps.proofs.Worlds.{World}
use Rattle.cap_owners_spec.specs.Traced.{found, over, number_of, numerator_of, value_at, valuation, number_in}
use Rattle.cap_owners_spec.specs.Track.{TrackedRegion, tracked_at}
use Rattle.cap_owners_spec.specs.Walks.{Walk, Descent, descends, bringing, Interpreted, Interpreting, pass_enter}
use Rattle.cap_owners_walks_laws.proofs.Fills.Giving.{NamesFit}
use Rattle.cap_owners_walks_laws.proofs.Regions.Reowned.{normal-fits}
use Rattle.cap_owners_walks_laws.proofs.Regions.Telling.{ToldSo, told-here, told-known, told-on, found-so, number-so}

-- ---- the walk

-- to the case, with the values of its own names, and what is given by the fill
abbrev pub entered_walk : PlainRegionType → Interpreted → Walk → Walk
entered_walk k x w = record (bringing w (drop k.params x.fill.names)) { fill = Some x.fill }

pub enter-so :
    (enter : Interpreting) (p : PlainProgram) (s : PlainState) (i : ℕ) (w : Walk) (f : PlainFact)
    (k : PlainRegionType) (r : TrackedRegion) (P : Interpreted → Type 0) →
    slice_get s.facts i ≡ Some f → slice_get p.regions f.kind ≡ Some k →
    tracked_at w.regions (value (valuation w.values).whole f.region) ≡ Some r →
    ToldSo P (enter w.regions r) →
    ToldSo (λ d. (x : Interpreted) × (d ≡ descends (Some x.case) (entered_walk k x w)) × P x)
    (pass_enter enter p s i w)
enter-so enter p s i w f k r P is_f is_k is_r told =
    let Q = λ (d : Descent).
    (x : Interpreted) × (d ≡ descends (Some x.case) (entered_walk k x w)) × P x in
    let n = value (valuation w.values).whole f.region in
    told-known Q (found (slice_get s.facts i)) f _ (found-so (slice_get s.facts i) f is_f)
    (told-known Q (found (slice_get p.regions f.kind)) k _
    (found-so (slice_get p.regions f.kind) k is_k)
    (told-known Q (number_in w.values f.region) n _ (number-so w.values f.region)
    (told-known Q (found (tracked_at w.regions n)) r _ (found-so (tracked_at w.regions n) r is_r)
    (told-on P Q (enter w.regions r) _ told
    (λ x h. told-here Q (descends (Some x.case) (entered_walk k x w)) (x, refl, h))))))

-- ---- the values

pub value-first :
    (vs us : List NameValue) (x : ℕ) → x < length vs → value_at (vs ++ us) x ≡ value_at vs x
value-first [] us x l = absurd (omega (arith, l))
value-first (v ∷ vs) us zero l = refl
value-first (v ∷ vs) us (suc x) l = value-first vs us x (omega (arith, l))

value-behind :
    (vs us : List NameValue) (x : ℕ) → (x < length vs → ⊥) →
    value_at (vs ++ us) x ≡ value_at us (x - length vs)
value-behind [] us x l = ap (value_at us) (omega arith)
value-behind (v ∷ vs) us zero l = absurd (l (omega arith))
value-behind (v ∷ vs) us (suc x) l =
    let e : x - length vs ≡ suc x - length (v ∷ vs) = omega arith in
    value-behind vs us x (λ h. l (omega (arith, h))) ∙ ap (value_at us) e

value-dropped :
    (ns : List NameValue) (m x : ℕ) → value_at (drop m ns) x ≡ value_at ns (m + x)
value-dropped ns zero x = ap (value_at ns) (omega arith)
value-dropped [] (suc m) x = refl
value-dropped (y ∷ ns) (suc m) x =
    let e : suc (m + x) ≡ suc m + x = omega arith in
    value-dropped ns m x ∙ ap (value_at (y ∷ ns)) e

-- the values behind which a case's own names have theirs are just those of soundness
module _ (vs names : List NameValue) (m : ℕ) (sc : Scope) (ok : NamesFit sc names) where
  joined-at :
      (x : ℕ) (b : Bool) → nat_lt x (length vs) ≡ b →
      value_at (vs ++ drop m names) x
      ≡ (if b then value_at vs x else value_at names (m + (x - length vs)))
  joined-at x true e = value-first vs (drop m names) x (grind (arith, nat_tests, e))
  joined-at x false e =
      value-behind vs (drop m names) x (λ l. grind (arith, nat_tests, e, l))
      ∙ value-dropped names m (x - length vs)

  number-either :
      (b : Bool) (y z : NameValue) →
      number_of (if b then y else z) ≡ (if b then number_of y else number_of z)
  number-either true y z = refl
  number-either false y z = refl

  share-either :
      (b : Bool) (y z : NameValue) →
      numerator_of (if b then y else z) ≡ (if b then numerator_of y else numerator_of z)
  share-either true y z = refl
  share-either false y z = refl

  whole-joined :
      (x : ℕ) →
      number_of (value_at (vs ++ drop m names) x)
      ≡ (if nat_lt x (length vs) then (valuation vs).whole x
      else (valuation names).whole (m + (x - length vs)))
  whole-joined x =
      ap number_of (joined-at x (nat_lt x (length vs)) refl)
      ∙ number-either (nat_lt x (length vs)) (value_at vs x)
      (value_at names (m + (x - length vs)))

  share-joined :
      (x : ℕ) →
      numerator_of (value_at (vs ++ drop m names) x)
      ≡ (if nat_lt x (length vs) then (valuation vs).fraction.numerator x
      else (normal sc (valuation names)).fraction.numerator (m + (x - length vs)))
  share-joined x =
      ap numerator_of (joined-at x (nat_lt x (length vs)) refl)
      ∙ share-either (nat_lt x (length vs)) (value_at vs x)
      (value_at names (m + (x - length vs)))
      ∙ ap (λ (u : Valuation).
      if nat_lt x (length vs) then (valuation vs).fraction.numerator x
      else u.fraction.numerator (m + (x - length vs))) (sym (normal-fits sc names ok))

  pub valuation-entered :
      valuation (vs ++ drop m names)
      ≡ entered_values (valuation vs) (valuation names) (length vs) m sc
  valuation-entered i = record {
    whole = λ x. whole-joined x i;
    fraction = record { numerator = λ x. share-joined x i; under = over - 1 };
  }

  pub names-entered :
      entered_names (valuation vs) (valuation names) (length vs) m sc ≡ valuation names
  names-entered = refl

-- ---- the world

-- one region owns its part so; all others as they did
module _ (p : PlainProgram) (V : Table) (share : ℤ → Stock) (part : Stock) (heap : Heap)
    (world : World p V share part heap) (n : ℤ) (k : ℕ) (args : List ℤ) (b : ℤ)
    (there : V n ≡ Some (known_as k args (Some b)))
    (Q : (m : ℤ) (j : ℕ) (zs : List ℤ) (c : ℤ) → OwnsRegion p V m j zs c (share m) → Type 0)
    (own : OwnsRegion p V n k args b (share n)) (q : Q n k args b own) where
  abbrev Chosen : ℤ → ℕ → List ℤ → ℤ → Type 0
  Chosen m j zs c = (o : OwnsRegion p V m j zs c (share m)) × (n ≡ m → Q m j zs c o)

  moved :
      (m : ℤ) (j : ℕ) (zs : List ℤ) (c : ℤ) → n ≡ m → k ≡ j → args ≡ zs → b ≡ c →
      (o : OwnsRegion p V m j zs c (share m)) × Q m j zs c o
  moved m j zs c en ek ea eb =
      subst (λ x. (o : OwnsRegion p V m j zs x (share m)) × Q m j zs x o) eb
      (subst (λ x. (o : OwnsRegion p V m j x b (share m)) × Q m j x b o) ea
      (subst (λ x. (o : OwnsRegion p V m x args b (share m)) × Q m x args b o) ek
      (subst (λ x. (o : OwnsRegion p V x k args b (share x)) × Q x k args b o) en (own, q))))

  pub chosen :
      (m : ℤ) (j : ℕ) (zs : List ℤ) (c : ℤ) → V m ≡ Some (known_as j zs (Some c)) →
      (o : OwnsRegion p V m j zs c (share m)) × (n ≡ m → Q m j zs c o)
  chosen m j zs c e = elim (same-or n m) [
    | inl s ↦
        let same = some-same (known_as k args (Some b)) (known_as j zs (Some c))
        (sym there ∙ ap V s ∙ e) in
        let r = moved m j zs c s (ap (λ (x : Known). x.kind) same)
        (ap (λ (x : Known). x.args) same)
        (some-same b c (ap (λ (x : Known). x.state) same)) in
        (r.0, λ _. r.1)
    | inr ne ↦ (world.owns m j zs c e, λ s. absurd (ne s))
  ]

  abbrev pub owning_world : World p V share part heap
  owning_world = record {
    fits = world.fits;
    full = world.full;
    owns = λ m j zs c e. (chosen m j zs c e).0;
    room = world.room;
    cells = world.cells;
    bound = world.bound;
    listed = world.listed;
  }
