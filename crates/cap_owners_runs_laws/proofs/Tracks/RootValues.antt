-- The values with which a frame begins at a root: those of its names, as soundness has them there.
use Rattle.std.proofs.Common.{◌≡◌, inl, inr, ℕ, zero, suc, ◌+◌, ◌-◌, ◌<◌, ◌≤◌, ℤ, pos, ◌*ℤ◌, List, [], ◌∷◌, ◌++◌, length, map, replicate, Some, arith, refl, sym, ap, ◌∙◌, subst}
use Rattle.std.specs.Prelude.{slice_get}
use Rattle.std.specs.List.{AllZip}
use Rattle.std.proofs.lemmas.Int.{ints}
use Rattle.std.proofs.lemmas.Bool.{cases_lt}
use Rattle.cap_lin.specs.Values.{Valuation, denominator}
use Rattle.cap_lin.specs.declared.row.Sort.{Sort}
use Rattle.cap_lin.specs.declared.row.Sort.TheVariants.{Int, Perm}
use Rattle.cap_prog.specs.Program.{PlainFunction}
use Rattle.cap_prog.specs.Scopes.{HasSort, fixed_start, result_name}
use Rattle.cap_machine_accounts.specs.Assertions.{NameValue, a_number, a_fraction, HasNameSort, ValuesFit, IsNamed, AreNamed, AreWhole}
use Rattle.cap_account_resources.proofs.Lists.{some-same, within, there-is, map-length, map-at, get-first, get-second, join-nil}
use Rattle.cap_account_resources.proofs.Order.{cancel}
use Rattle.cap_account_states.proofs.Roots.{values-length, fits-at, place, place-low, place-high, sorts_of, fixed-usable, Root, root_names, root_values, root-placed, root-means}
use Rattle.cap_account_states.proofs.Naming.{Means}
use Rattle.cap_account_states.proofs.Scopes.{Position, param, local, fixed as at_fixed, result, extra, length-join, rep-length, rep-in}
use Rattle.cap_account_states.proofs.Values.{normal, normal-whole, normal-perm, named-at, named-of, whole-at, whole-of}
use Rattle.cap_owners_spec.specs.Traced.{over, value_at, number_of, numerator_of, valuation}
use Rattle.cap_owners_walks_laws.proofs.Values.More.{FitsSort, number-fits, sorted-more}
use Rattle.cap_owners_walks_laws.proofs.Fills.Giving.{NamesFit}
use Rattle.cap_owners_runs_laws.proofs.Tracks.Agreeing.{AgreeBy, means-by}

-- ---- lists of values

pub value-there :
    (vs : List NameValue) (x : ℕ) (y : NameValue) → slice_get vs x ≡ Some y → value_at vs x ≡ y
value-there [] x y e = absurd (cc)
value-there (v ∷ vs) zero y e = cc
value-there (v ∷ vs) (suc x) y e = value-there vs x y e

-- whole numbers and then values of these sorts
numbers-sorted :
    (k : ℕ) (zs : List ℤ) (os : List Sort) (ys : List NameValue) → length zs ≡ k →
    AllZip FitsSort os ys → AllZip FitsSort (replicate k Int ++ os) (map a_number zs ++ ys)
numbers-sorted zero [] os ys e h = h
numbers-sorted zero (z ∷ zs) os ys e h = absurd (omega (arith, e))
numbers-sorted (suc k) [] os ys e h = absurd (omega (arith, e))
numbers-sorted (suc k) (z ∷ zs) os ys e h =
    (tt, numbers-sorted k zs os ys (omega (arith, e)) h)

-- whole numbers and then the fixed names' values are of the sorts of a root's variables
pub values-sorted :
    (k : ℕ) (zs : List ℤ) (os : List Sort) (fixed : List NameValue) → length zs ≡ k →
    AllZip FitsSort os fixed →
    AllZip FitsSort (replicate k Int ++ (os ++ [])) (map a_number zs ++ fixed)
values-sorted k zs os fixed e h =
    numbers-sorted k zs (os ++ []) fixed e
    (subst (λ ss. AllZip FitsSort ss fixed) (sym (join-nil os)) h)

-- and behind them the result
pub result-sorted :
    (k : ℕ) (zs : List ℤ) (os : List Sort) (fixed : List NameValue) (u : ℤ) → length zs ≡ k →
    AllZip FitsSort os fixed →
    AllZip FitsSort (replicate k Int ++ (os ++ Int ∷ []))
    (map a_number zs ++ (fixed ++ a_number u ∷ []))
result-sorted k zs os fixed u e h =
    numbers-sorted k zs (os ++ Int ∷ []) (fixed ++ a_number u ∷ []) e
    (sorted-more os fixed Int (a_number u) h tt)

zip-at :
    (os : List Sort) (ys : List NameValue) (i : ℕ) (o : Sort) (y : NameValue) →
    AllZip FitsSort os ys → slice_get os i ≡ Some o → slice_get ys i ≡ Some y → FitsSort o y
zip-at [] ys i o y h e k = absurd (cc)
zip-at (p ∷ os) [] i o y h e k = absurd h
zip-at (p ∷ os) (z ∷ ys) zero o y h e k =
    subst (FitsSort o) (some-same z y k) (subst (λ q. FitsSort q z) (some-same p o e) h.0)
zip-at (p ∷ os) (z ∷ ys) (suc i) o y h e k = zip-at os ys i o y h.1 e k

-- ---- at a root

module _ (root : Root) (us : List ℤ) (results : root.rs ≡ replicate (length us) Int)
    (names : List NameValue) (named : root.a ≡ valuation names) (zs : List ℤ)
    (count : length zs ≡ root.f.params + root.l) (fixed : List NameValue)
    (fit : ValuesFit root.f.fixed fixed) (fits : AllZip FitsSort root.f.fixed fixed)
    (whole : AreWhole root.a 0 zs) (are : AreNamed root.a (fixed_start root.f) fixed)
    (ends : AreWhole root.a (result_name root.f) us) where
  abbrev f : PlainFunction
  f = root.f

  abbrev cut : ℕ
  cut = root.f.params + root.l

  abbrev a : Valuation
  a = root.a

  abbrev vs : List NameValue
  vs = map a_number zs ++ (fixed ++ map a_number us)

  below : denominator a.fraction ≡ pos over
  below = ap (λ (v : Valuation). denominator v.fraction) named

  -- the values of a variable by both: its number, if it is of sort Int, and its share
  abbrev SameAt : ℕ → Type 0
  SameAt x =
      (slice_get (sorts_of root.f root.l root.rs) x ≡ Some Int →
      (valuation vs).whole x ≡ (root_values root).whole x)
      × ((valuation vs).fraction.numerator x ≡ (root_values root).fraction.numerator x)

  -- where the variable has this value, and stands for a name of which this holds
  same-by :
      (x k : ℕ) (y : NameValue) → value_at vs x ≡ y → place cut root.gap x ≡ k →
      number_of y ≡ a.whole k → numerator_of y ≡ (normal root.sc a).fraction.numerator k → SameAt x
  same-by x k y e i n m = (
    (λ q. ap number_of e ∙ n ∙ ap a.whole (sym i)),
    ap numerator_of e ∙ m ∙ ap (λ j. (normal root.sc a).fraction.numerator j) (sym i),
  )

  whole-share :
      (k : ℕ) (z : ℤ) → HasSort root.sc Int k → a.whole k ≡ z →
      z *ℤ pos over ≡ (normal root.sc a).fraction.numerator k
  whole-share k z h e =
      (λ i. sym e i *ℤ sym below i) ∙ sym (normal-whole root.sc a k h)

  same-low : (x : ℕ) → x < cut → SameAt x
  same-low x l =
      let z = there-is zs x (omega (arith, l, count)) in
      let there = get-first (map a_number zs) (fixed ++ map a_number us) x (a_number z.0)
      (map-at a_number zs x z.0 z.1) in
      let n : 0 + x ≡ x = omega arith in
      let is : a.whole x ≡ z.0 = ap a.whole (sym n) ∙ whole-at a 0 zs x z.0 whole z.1 in
      same-by x x (a_number z.0) (value-there vs x (a_number z.0) there)
      (place-low cut root.gap x l) (sym is) (whole-share x z.0 (root.low_in x l) is)

  place-fixed : (i : ℕ) → place cut root.gap (cut + i) ≡ fixed_start f + i
  place-fixed i =
      place-high cut root.gap (cut + i) (omega arith)
      ∙ (let g = root.hgap in omega (arith, g))

  -- by the value of fixed name i
  same-fixed :
      (i : ℕ) (o : Sort) (y : NameValue) → slice_get f.fixed i ≡ Some o → HasNameSort o y →
      FitsSort o y → IsNamed a (fixed_start f + i) y → value_at vs (cut + i) ≡ y → SameAt (cut + i)
  same-fixed i Int (a_number z) s h one k e =
      same-by (cut + i) (fixed_start f + i) (a_number z) e (place-fixed i) (sym k)
      (whole-share (fixed_start f + i) z (root.fixed_in i Int s) k)
  same-fixed i Int (a_fraction n d) s h one k e = absurd h
  same-fixed i Perm (a_number z) s h one k e = absurd h
  same-fixed i Perm (a_fraction n d) s h one k e =
      let x = fixed_start f + i in
      let at = place-fixed i in
      let in_scope = root.fixed_in i Perm s in
      let same : a.fraction.numerator x *ℤ pos (suc d) ≡ n *ℤ pos (suc d) =
      k ∙ ap (λ m. n *ℤ m) below ∙ ap (λ m. n *ℤ pos (suc m)) (sym one) in (
        (λ q. absurd (other (some-same Perm Int (sym (fixed-usable root i Perm s) ∙ q)))),
        ap numerator_of e
            ∙ sym (cancel (a.fraction.numerator x) n (pos (suc d)) (omega (arith, ints)) same)
            ∙ sym (normal-perm root.sc a x in_scope)
            ∙ ap (λ j. (normal root.sc a).fraction.numerator j) (sym at),
      )
    where
      other : Perm ≡ Int → ⊥
      other q = absurd (cc)

  same-high : (i : ℕ) → i < length f.fixed → SameAt (cut + i)
  same-high i l =
      let n = values-length f.fixed fixed fit in
      let y = there-is fixed i (omega (arith, l, n)) in
      let o = there-is f.fixed i l in
      let m = map-length a_number zs in
      let at : cut + i ≡ length (map a_number zs) + i = omega (arith, m, count) in
      let there : slice_get vs (cut + i) ≡ Some y.0 =
      ap (slice_get vs) at
      ∙ get-second (map a_number zs) (fixed ++ map a_number us) i
      ∙ get-first fixed (map a_number us) i y.0 y.1 in
      same-fixed i o.0 y.0 o.1 (fits-at f.fixed fixed i o.0 y.0 fit o.1 y.1)
      (zip-at f.fixed fixed i o.0 y.0 fits o.1 y.1) (named-at a (fixed_start f) fixed i y.0 are y.1)
      (value-there vs (cut + i) y.0 there)

  -- that of the result
  same-last : (j : ℕ) → j < length us → SameAt (cut + (length f.fixed + j))
  same-last j l =
      let n = values-length f.fixed fixed fit in
      let u = there-is us j l in
      let m = map-length a_number zs in
      let k : ℕ = result_name f + j in
      let x : ℕ = cut + (length f.fixed + j) in
      let at : cut + (length f.fixed + j) ≡ length (map a_number zs) + (length fixed + j) =
      omega (arith, m, count, n) in
      let there : slice_get vs (cut + (length f.fixed + j)) ≡ Some (a_number u.0) =
      ap (slice_get vs) at
      ∙ get-second (map a_number zs) (fixed ++ map a_number us) (length fixed + j)
      ∙ get-second fixed (map a_number us) j
      ∙ map-at a_number us j u.0 u.1 in
      let is : a.whole (result_name f + j) ≡ u.0 = whole-at a (result_name f) us j u.0 ends u.1 in
      let placed : place cut root.gap (cut + (length f.fixed + j)) ≡ result_name f + j =
      place-fixed (length f.fixed + j) ∙ omega arith in
      let known = ap (λ (os : List Sort). slice_get os j) results ∙ rep-in (length us) j Int l in
      same-by x k (a_number u.0) (value-there vs x (a_number u.0) there) placed (sym is)
      (whole-share k u.0 (root.rs_in j known) is)

  -- all variables of the root
  same-at : (x : ℕ) → x < length (sorts_of root.f root.l root.rs) → SameAt x
  same-at x l = elim (cases_lt x cut) [
    | inl low ↦ same-low x low
    | inr high ↦
        let n = rep-length cut Int in
        let m = length-join (replicate cut Int) (f.fixed ++ root.rs) in
        let k = length-join f.fixed root.rs in
        let q = ap (λ (os : List Sort). length os) results in
        let r = rep-length (length us) Int in
        elim (cases_lt (x - cut) (length f.fixed)) [
          | inl low ↦
              let e : cut + (x - cut) ≡ x = omega (arith, high) in
              subst SameAt e (same-high (x - cut) low)
          | inr more ↦
              let e : cut + (length f.fixed + (x - cut - length f.fixed)) ≡ x =
              omega (arith, high, more) in
              subst SameAt e
              (same-last (x - cut - length f.fixed) (omega (arith, high, more, l, n, m, k, q, r)))
        ]
  ]

  pub all-agree :
      AgreeBy (sorts_of root.f root.l root.rs) (root_values root)
      (valuation (map a_number zs ++ (fixed ++ map a_number us)))
  all-agree = record {
    under = sym (ap (λ (v : Valuation). v.fraction.under) named);
    whole = λ x e. (same-at x (within (sorts_of root.f root.l root.rs) x Int e)).0 e;
    share = λ x l. (same-at x l).1;
  }

  -- what the names mean there
  pub names-known :
      Means root.sc (valuation (map a_number zs ++ (fixed ++ map a_number us))) (root_names root)
      (valuation names)
  names-known =
      subst (Means root.sc (valuation vs) (root_names root)) named
      (means-by (sorts_of root.f root.l root.rs) (root_values root) (valuation vs) all-agree root.sc
      (root_names root) root.a (root-placed root) (root-means root))

-- where there is no result
module _ (root : Root) (none : root.rs ≡ []) (names : List NameValue)
    (named : root.a ≡ valuation names) (zs : List ℤ)
    (count : length zs ≡ root.f.params + root.l) (fixed : List NameValue)
    (fit : ValuesFit root.f.fixed fixed) (fits : AllZip FitsSort root.f.fixed fixed)
    (whole : AreWhole root.a 0 zs) (are : AreNamed root.a (fixed_start root.f) fixed) where
  pub values-agree :
      AgreeBy (sorts_of root.f root.l root.rs) (root_values root)
      (valuation (map a_number zs ++ fixed))
  values-agree =
      subst (λ ys. AgreeBy (sorts_of root.f root.l root.rs) (root_values root)
      (valuation (map a_number zs ++ ys))) (join-nil fixed)
      (all-agree root [] none names named zs count fixed fit fits whole are tt)

  pub values-known :
      Means root.sc (valuation (map a_number zs ++ fixed)) (root_names root) (valuation names)
  values-known =
      subst (λ ys. Means root.sc (valuation (map a_number zs ++ ys)) (root_names root)
      (valuation names)) (join-nil fixed)
      (names-known root [] none names named zs count fixed fit fits whole are tt)

-- ---- where nothing is given

value-beyond : (vs : List NameValue) (x : ℕ) → length vs ≤ x → value_at vs x ≡ a_number (pos 0)
value-beyond [] x l = refl
value-beyond (v ∷ vs) zero l = absurd (omega (arith, l))
value-beyond (v ∷ vs) (suc x) l = value-beyond vs x (omega (arith, l))

numbers-at :
    (n x : ℕ) → x < n → slice_get (replicate n (a_number (pos 0))) x ≡ Some (a_number (pos 0))
numbers-at zero x l = absurd (omega (arith, l))
numbers-at (suc n) zero l = refl
numbers-at (suc n) (suc x) l = numbers-at n x (omega (arith, l))

-- Values of all names of a function's root by those that the frame knows; where the assertion has
-- no items these serve as well as any.
module _ (root : Root) (zs : List ℤ) (count : length zs ≡ root.f.params + root.l)
    (fixed : List NameValue) (fit : ValuesFit root.f.fixed fixed)
    (fits : AllZip FitsSort root.f.fixed fixed) where
  abbrev pub bare_names : List NameValue
  bare_names = map a_number zs ++ (replicate root.gap (a_number (pos 0)) ++ fixed)

  abbrev start : ℕ
  start = fixed_start root.f

  bare-number : (x : ℕ) → x < start → (z : ℤ) × (value_at bare_names x ≡ a_number z)
  bare-number x l = elim (cases_lt x (length zs)) [
    | inl low ↦
        let z = there-is zs x low in (
          z.0,
          value-there bare_names x (a_number z.0)
              (get-first (map a_number zs) (replicate root.gap (a_number (pos 0)) ++ fixed) x
              (a_number z.0) (map-at a_number zs x z.0 z.1)),
        )
    | inr high ↦
        let g = root.hgap in
        let m = map-length a_number zs in
        let i = x - length zs in
        let e : x ≡ length (map a_number zs) + (x - length zs) = omega (arith, high, m) in (
          pos 0,
          value-there bare_names x (a_number (pos 0))
              (ap (slice_get bare_names) e
              ∙ get-second (map a_number zs) (replicate root.gap (a_number (pos 0)) ++ fixed)
              (x - length zs)
              ∙ get-first (replicate root.gap (a_number (pos 0))) fixed (x - length zs)
              (a_number (pos 0))
              (numbers-at root.gap (x - length zs) (omega (arith, l, high, g, count)))),
        )
  ]

  bare-arg : (i : ℕ) (z : ℤ) → slice_get zs i ≡ Some z → value_at bare_names i ≡ a_number z
  bare-arg i z e =
      value-there bare_names i (a_number z)
      (get-first (map a_number zs) (replicate root.gap (a_number (pos 0)) ++ fixed) i (a_number z)
      (map-at a_number zs i z e))

  bare-fixed :
      (i : ℕ) (y : NameValue) → slice_get fixed i ≡ Some y → value_at bare_names (start + i) ≡ y
  bare-fixed i y e =
      let g = root.hgap in
      let m = map-length a_number zs in
      let k = rep-length root.gap (a_number (pos 0)) in
      let at : start + i
      ≡ length (map a_number zs) + (length (replicate root.gap (a_number (pos 0))) + i) =
      omega (arith, g, m, k, count) in
      value-there bare_names (start + i) y
      (ap (slice_get bare_names) at
      ∙ get-second (map a_number zs) (replicate root.gap (a_number (pos 0)) ++ fixed)
      (length (replicate root.gap (a_number (pos 0))) + i)
      ∙ get-second (replicate root.gap (a_number (pos 0))) fixed i
      ∙ e)

  bare-beyond :
      (x : ℕ) → start + length root.f.fixed ≤ x → value_at bare_names x ≡ a_number (pos 0)
  bare-beyond x l =
      let g = root.hgap in
      let m = map-length a_number zs in
      let k = rep-length root.gap (a_number (pos 0)) in
      let n = values-length root.f.fixed fixed fit in
      let a = length-join (map a_number zs) (replicate root.gap (a_number (pos 0)) ++ fixed) in
      let b = length-join (replicate root.gap (a_number (pos 0))) fixed in
      value-beyond bare_names x (omega (arith, l, g, m, k, n, a, b, count))

  pub bare-whole : AreWhole (valuation bare_names) 0 zs
  bare-whole =
      whole-of (valuation bare_names) 0 zs
      (λ i z e. (let n : 0 + i ≡ i = omega arith in
      ap number_of (ap (value_at bare_names) n ∙ bare-arg i z e)))

  pub bare-are : AreNamed (valuation bare_names) (fixed_start root.f) fixed
  bare-are =
      named-of (valuation bare_names) start fixed
      (λ i y e. (let n = values-length root.f.fixed fixed fit in
      let o = there-is root.f.fixed i (let l = within fixed i y e in omega (arith, l, n)) in
      one i y o.0 (bare-fixed i y e) (fits-at root.f.fixed fixed i o.0 y fit o.1 e)
      (zip-at root.f.fixed fixed i o.0 y fits o.1 e)))
    where
      one :
          (i : ℕ) (y : NameValue) (o : Sort) → value_at bare_names (start + i) ≡ y →
          HasNameSort o y → FitsSort o y → IsNamed (valuation bare_names) (start + i) y
      one i (a_number z) o e h k = ap number_of e
      one i (a_fraction n d) Int e h k = absurd k
      one i (a_fraction n d) Perm e h k =
          ap (λ (y : NameValue). numerator_of y *ℤ pos (suc d)) e
          ∙ ap (λ m. n *ℤ pos (suc m)) k

  pub bare-have : NamesFit root.sc bare_names
  bare-have o x h = by (root.at_position x o h)
    where
      low : x < start → FitsSort o (value_at bare_names x)
      low l =
          let z = bare-number x l in
          subst (FitsSort o) (sym z.1) (number-fits o z.0)

      beyond : start + length root.f.fixed ≤ x → FitsSort o (value_at bare_names x)
      beyond l = subst (FitsSort o) (sym (bare-beyond x l)) (number-fits o (pos 0))

      by : Position root.f root.new x o → FitsSort o (value_at bare_names x)
      by (param q e) = low (omega (arith, q))
      by (local i q w e) = low (omega (arith, q, w))
      by (at_fixed i q e) =
          let n = values-length root.f.fixed fixed fit in
          let l = within root.f.fixed i o e in
          let y = there-is fixed i (omega (arith, l, n)) in
          subst (λ k. FitsSort o (value_at bare_names k)) (sym q)
          (subst (FitsSort o) (sym (bare-fixed i y.0 y.1))
          (zip-at root.f.fixed fixed i o y.0 fits e y.1))
      by (result q e) = beyond (omega (arith, q))
      by (extra i q e) = beyond (omega (arith, q))
