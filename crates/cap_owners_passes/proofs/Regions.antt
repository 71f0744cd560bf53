-- Regions are put in their places, and facts get the states of regions that are closed.
use Rattle.std.proofs.Common.{◌≡◌, ℕ, suc, ◌+◌, ◌-◌, ◌<◌, ◌≤◌, ℤ, pos, Bool, true, false, List, [], ◌∷◌, ◌++◌, map, length, take, drop, get_or, add-one, drop-cons, refl, sym, ap, ◌∙◌, arith}
use Rattle.std.specs.Prelude.{if◌then◌else◌, int_lt, Result, Ok, Err, OnOk, OnErr}
use Rattle.std.proofs.Common.{length-drop}
use Rattle.std.proofs.Math.Seq.{take-suc}
use Rattle.std.proofs.lemmas.List.{get_or-drop, map-append, take_all}
use Rattle.cap_lin.specs.Linear.{same_number}
use Rattle.cap_goal_spec.specs.States.{PlainFact}
use Rattle.cap_machine_accounts.specs.Assertions.{NameValue, a_number}
use Rattle.cap_owners_spec.specs.Traced.{Traced, traced, past_width, untold, ◌>>=◌, number_in, number_of, value_at}
use Rattle.cap_owners_spec.specs.Track.{TrackedRegion}
use Rattle.cap_owners_spec.specs.Walks.{with_region, firmed}
use Rattle.cap_owners_passes.specs.Views.{firmed_fact}
use Rattle.cap_owners_values.proofs.Tracing.{stops}
use Rattle.cap_owners_values.specs.declared.error.TraceError.{TraceError}
use Rattle.cap_owners_values.specs.Views.{Traces}

-- ---- regions

region-more : (r : TrackedRegion) (rs : List TrackedRegion) → length rs ≤ length (with_region r rs)
region-more r [] = omega arith
region-more r (s ∷ ss) =
    let k : length ss ≤ length (with_region r ss) = region-more r ss in
    elim (same_number s.owned.region.number r.owned.region.number) as (λ b. length (s ∷ ss) ≤ length (if b then r ∷ ss else (if int_lt r.owned.region.number s.owned.region.number then r ∷ (s ∷ ss) else s ∷ with_region r ss))) [
      | true ↦ omega arith
      | false ↦ elim (int_lt r.owned.region.number s.owned.region.number) as (λ b. length (s ∷ ss) ≤ length (if b then r ∷ (s ∷ ss) else s ∷ with_region r ss)) [ true ↦ omega arith | false ↦ omega arith ]
    ]

pub no_fewer : {E : Type 0} (o : Result (Unit {0}) E) (r : TrackedRegion) (old new : List TrackedRegion) → OnOk o (new ≡ with_region r old) → OnErr o (new ≡ old) → length old ≤ length new
no_fewer (Ok x) r old new h k = rw h (region-more r old)
no_fewer (Err e) r old new h k = rw k (omega arith)

-- ---- facts whose state was open

split : (t : Traced ℤ) (g : ℤ → List NameValue) (h : List NameValue → Traced (List NameValue)) → t >>= (λ m. h (g m)) ≡ (t >>= (λ m. traced (g m))) >>= h
split (traced m) g h = refl
split past_width g h = refl
split untold g h = refl

firmed-split : (f : PlainFact) (fs : List PlainFact) (n z : ℤ) (vs : List NameValue) → firmed (f ∷ fs) n z vs ≡ firmed (f ∷ []) n z vs >>= firmed fs n z
firmed-split f fs n z vs = split (number_in vs f.region) _ (firmed fs n z)

firmed-at : (fs : List PlainFact) (i : ℕ) (f : PlainFact) (n z : ℤ) (vs : List NameValue) → i < length fs → f ≡ get_or fs i f → firmed (drop i fs) n z vs ≡ firmed (f ∷ []) n z vs >>= firmed (drop (i + 1) fs) n z
firmed-at fs i f n z vs h e =
    let d : drop i fs ≡ f ∷ drop (i + 1) fs = drop-cons fs i f h ∙ (ap (λ y. y ∷ drop (suc i) fs) (sym e) ∙ ap (λ k. f ∷ drop k fs) (sym (add-one i))) in
    ap (λ ys. firmed ys n z vs) d ∙ firmed-split f (drop (i + 1) fs) n z vs

pub firm-next : (fs : List PlainFact) (i : ℕ) (f : PlainFact) (n z : ℤ) (vs new : List NameValue) (whole : Traced (List NameValue)) → i < length fs → f ≡ get_or fs i f → firmed_fact f n z vs ≡ traced new → whole ≡ firmed (drop i fs) n z vs → whole ≡ firmed (drop (i + 1) fs) n z new
firm-next fs i f n z vs new whole h e k w = w ∙ (firmed-at fs i f n z vs h e ∙ ap (λ t. t >>= firmed (drop (i + 1) fs) n z) k)

pub firm-stops : {C D : Type 0} (fs : List PlainFact) (i : ℕ) (f : PlainFact) (n z : ℤ) (vs : List NameValue) (whole : Traced (List NameValue)) (e : TraceError) (v : C → List NameValue) (u : D → List NameValue) → i < length fs → f ≡ get_or fs i f → Traces (Err e) v (firmed_fact f n z vs) → whole ≡ firmed (drop i fs) n z vs → Traces (Err e) u whole
firm-stops fs i f n z vs whole e v u h q k w = rw (w ∙ firmed-at fs i f n z vs h q) (stops e v u (firmed_fact f n z vs) (firmed (drop (i + 1) fs) n z) k)

-- ---- arguments

pub args-next : (names : List NameValue) (i j : ℕ) (xs ys : List ℤ) (z : ℤ) → i ≡ j + 1 → i < length names → xs ≡ map number_of (take j (drop 1 names)) → z ≡ number_of (value_at names i) → ys ≡ xs ++ z ∷ [] → ys ≡ map number_of (take i (drop 1 names))
args-next names i j xs ys z e h f g k =
    let n : NameValue = a_number (pos 0) in
    let l : j < length (drop 1 names) = omega (arith, length-drop 1 names) in
    let t : take i (drop 1 names) ≡ take j (drop 1 names) ++ get_or (drop 1 names) j n ∷ [] = ap (λ m. take m (drop 1 names)) (e ∙ add-one j) ∙ take-suc (drop 1 names) j n l in
    let o : 1 + j ≡ i = omega arith in
    let v : get_or (drop 1 names) j n ≡ value_at names i = get_or-drop 1 names j n ∙ ap (λ m. get_or names m n) o in
    k ∙ (ap (λ us. us ++ z ∷ []) f ∙ (ap (λ y. map number_of (take j (drop 1 names)) ++ y ∷ []) g ∙ (sym (map-append number_of (take j (drop 1 names)) (value_at names i ∷ [])) ∙ (ap (λ y. map number_of (take j (drop 1 names) ++ y ∷ [])) (sym v) ∙ ap (map number_of) (sym t)))))

pub args-end : (names : List NameValue) (i m : ℕ) (xs : List ℤ) → length names ≤ i + 1 → i ≤ m → xs ≡ map number_of (take i (drop 1 names)) → xs ≡ map number_of (take m (drop 1 names))
args-end names i m xs h k e =
    let l : length (drop 1 names) ≤ i = omega (arith, length-drop 1 names) in
    let o : length (drop 1 names) ≤ m = omega arith in
    e ∙ ap (map number_of) (take_all i (drop 1 names) l ∙ sym (take_all m (drop 1 names) o))
