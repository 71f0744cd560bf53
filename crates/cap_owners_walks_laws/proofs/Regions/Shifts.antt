-- A region is closed, or made, along a walk: it is put in its place with what was taken, and the
-- facts of a region that is closed get its state.
use Rattle.std.proofs.Common.{◌≡◌, ℕ, ℤ, ◌-◌, ◌&&◌, List, [], ◌∷◌, length, map, take, drop, Some, refl, inl, inr}
use Rattle.std.specs.Prelude.{slice_get, slice_set, unwrap_or, if◌then◌else◌}
use Rattle.cap_lin.specs.Linear.{Linear, same_number}
use Rattle.cap_lin.specs.Values.{value}
use Rattle.cap_prog.specs.Program.{PlainCase, PlainRegionType, PlainProgram}
use Rattle.cap_goal_spec.specs.Terms.{lone_variable}
use Rattle.cap_goal_spec.specs.States.{PlainFact, PlainState}
use Rattle.cap_rules.specs.Making.{env_at}
use Rattle.cap_machine_accounts.specs.Assertions.{NameValue, a_number}
use Rattle.cap_owners_spec.specs.Traced.{past_width, found, number_of, valuation, number_in}
use Rattle.cap_owners_spec.specs.Track.{TrackedRegion, tracked_at}
use Rattle.cap_owners_spec.specs.Filling.{names_in}
use Rattle.cap_owners_spec.specs.Walks.{Taking, Walk, Descent, descends, with_region, firmed, pass_shift, pass_made}
use Rattle.cap_owners_walks_laws.proofs.Regions.Telling.{ToldSo, told-here, told-known, told-on, found-so, number-so}

-- ---- facts

-- the values once each loose fact of region n has state z
abbrev pub firm_all : List PlainFact → ℤ → ℤ → List NameValue → List NameValue
firm_all [] n z vs = vs
firm_all (f ∷ fs) n z vs =
    firm_all fs n z
    (if f.loose && same_number (value (valuation vs).whole f.region) n
    then slice_set vs (unwrap_or (lone_variable f.state) (length vs)) (a_number z) else vs)

pub firmed-so :
    (fs : List PlainFact) (n z : ℤ) (vs : List NameValue) →
    ToldSo (λ us. us ≡ firm_all fs n z vs) (firmed fs n z vs)
firmed-so [] n z vs = told-here (λ us. us ≡ vs) vs refl
firmed-so (f ∷ fs) n z vs =
    told-known (λ us. us ≡ firm_all (f ∷ fs) n z vs) (number_in vs f.region)
    (value (valuation vs).whole f.region) (λ m.
    firmed fs n z
    (if f.loose && same_number m n
    then slice_set vs (unwrap_or (lone_variable f.state) (length vs)) (a_number z) else vs))
    (number-so vs f.region)
    (firmed-so fs n z
    (if f.loose && same_number (value (valuation vs).whole f.region) n
    then slice_set vs (unwrap_or (lone_variable f.state) (length vs)) (a_number z) else vs))

-- ---- a region is closed

-- with what was taken, in case number c at these names
abbrev pub shut_region :
    TrackedRegion → ℕ → PlainCase → Taking → List NameValue → TrackedRegion
shut_region r c x t names = record {
  owned = record {
    region = record r.owned.region { state = value (valuation names).whole x.state };
    part = t.part;
  };
  case = c;
  fill = record t.fill { names = names };
}

abbrev pub shut_walk :
    PlainState → PlainFact → TrackedRegion → ℕ → PlainCase → Taking → List NameValue → Walk → Walk
shut_walk s f r c x t names w = record w {
  values =
      firm_all s.facts (value (valuation w.values).whole f.region)
      (value (valuation names).whole x.state) w.values;
  taken = drop 1 w.taken;
  regions = with_region (shut_region r c x t names) w.regions;
}

pub shift-so :
    (p : PlainProgram) (s : PlainState) (o c e : ℕ) (t : Taking) (w : Walk) (f : PlainFact)
    (k : PlainRegionType) (x : PlainCase) (r : TrackedRegion) (names : List NameValue) →
    slice_get s.opened o ≡ Some f → slice_get p.regions f.kind ≡ Some k →
    slice_get k.cases c ≡ Some x →
    tracked_at w.regions (value (valuation w.values).whole f.region) ≡ Some r →
    ToldSo (λ ns. ns ≡ names) (names_in w.values (env_at s e)) →
    ToldSo (λ d. d ≡ descends (Some 0) (shut_walk s f r c x t names w)) (pass_shift p s o c e t w)
shift-so p s o c e t w f k x r names is_f is_k is_x is_r are =
    let Q = λ (d : Descent). d ≡ descends (Some 0) (shut_walk s f r c x t names w) in
    let n = value (valuation w.values).whole f.region in
    let z = value (valuation names).whole x.state in
    told-known Q (found (slice_get s.opened o)) f _ (found-so (slice_get s.opened o) f is_f)
    (told-known Q (found (slice_get p.regions f.kind)) k _
    (found-so (slice_get p.regions f.kind) k is_k)
    (told-known Q (found (slice_get k.cases c)) x _ (found-so (slice_get k.cases c) x is_x)
    (told-known Q (number_in w.values f.region) n _ (number-so w.values f.region)
    (told-known Q (found (tracked_at w.regions n)) r _ (found-so (tracked_at w.regions n) r is_r)
    (told-known Q (names_in w.values (env_at s e)) names _ are
    (told-known Q (number_in names x.state) z _ (number-so names x.state)
    (told-known Q (firmed s.facts n z w.values) (firm_all s.facts n z w.values) _
    (firmed-so s.facts n z w.values)
    (told-here Q (descends (Some 0) (shut_walk s f r c x t names w)) refl))))))))

-- where the names are too wide, it is
pub shift-wide :
    (p : PlainProgram) (s : PlainState) (o c e : ℕ) (t : Taking) (w : Walk) (f : PlainFact)
    (k : PlainRegionType) (x : PlainCase) (r : TrackedRegion) →
    slice_get s.opened o ≡ Some f → slice_get p.regions f.kind ≡ Some k →
    slice_get k.cases c ≡ Some x →
    tracked_at w.regions (value (valuation w.values).whole f.region) ≡ Some r →
    names_in w.values (env_at s e) ≡ past_width → pass_shift p s o c e t w ≡ past_width
shift-wide p s o c e t w f k x r is_f is_k is_x is_r wide =
    let Q = λ (d : Descent). ⊥ in
    let n = value (valuation w.values).whole f.region in
    elim (told-known Q (found (slice_get s.opened o)) f _ (found-so (slice_get s.opened o) f is_f)
    (told-known Q (found (slice_get p.regions f.kind)) k _
    (found-so (slice_get p.regions f.kind) k is_k)
    (told-known Q (found (slice_get k.cases c)) x _ (found-so (slice_get k.cases c) x is_x)
    (told-known Q (number_in w.values f.region) n _ (number-so w.values f.region)
    (told-known Q (found (tracked_at w.regions n)) r _ (found-so (tracked_at w.regions n) r is_r)
    (told-on (λ (ns : List NameValue). ⊥) Q (names_in w.values (env_at s e)) _ (inl wide)
    (λ ns b. absurd b))))))) [
      | inl q ↦ q
      | inr d ↦ absurd d.2
    ]

-- ---- a region is made

abbrev pub made_region :
    ℤ → ℕ → PlainRegionType → ℕ → PlainCase → Taking → List NameValue → TrackedRegion
made_region n k y c x t names = record {
  owned = record {
    region = record {
      number = n;
      kind = k;
      args = map number_of (take (y.params - 1) (drop 1 names));
      state = value (valuation names).whole x.state;
    };
    part = t.part;
  };
  case = c;
  fill = record t.fill { names = names };
}

abbrev pub made_walk :
    Linear → ℕ → PlainRegionType → ℕ → PlainCase → Taking → List NameValue → Walk → Walk
made_walk u k y c x t names w = record w {
  taken = drop 1 w.taken;
  regions =
      with_region (made_region (value (valuation w.values).whole u) k y c x t names) w.regions;
}

pub made-so :
    (p : PlainProgram) (s : PlainState) (k c e : ℕ) (u : Linear) (t : Taking) (w : Walk)
    (y : PlainRegionType) (x : PlainCase) (names : List NameValue) →
    slice_get p.regions k ≡ Some y → slice_get y.cases c ≡ Some x →
    ToldSo (λ ns. ns ≡ names) (names_in w.values (env_at s e)) →
    ToldSo (λ d. d ≡ descends (Some 0) (made_walk u k y c x t names w))
    (pass_made p s k c e u t w)
made-so p s k c e u t w y x names is_y is_x are =
    let Q = λ (d : Descent). d ≡ descends (Some 0) (made_walk u k y c x t names w) in
    told-known Q (found (slice_get p.regions k)) y _ (found-so (slice_get p.regions k) y is_y)
    (told-known Q (found (slice_get y.cases c)) x _ (found-so (slice_get y.cases c) x is_x)
    (told-known Q (number_in w.values u) (value (valuation w.values).whole u) _
    (number-so w.values u)
    (told-known Q (names_in w.values (env_at s e)) names _ are
    (told-known Q (number_in names x.state) (value (valuation names).whole x.state) _
    (number-so names x.state)
    (told-here Q (descends (Some 0) (made_walk u k y c x t names w)) refl)))))
