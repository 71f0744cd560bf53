-- Each root of a valid derivation has its tree, at its place among all roots.
use Rattle.std.proofs.Common.{◌≡◌, ℕ, zero, suc, ◌+◌, ◌<◌, List, [], ◌∷◌, ◌++◌, map, flat_map, take, length, arith, Option, Some, None, refl, sym, ap, ◌∙◌, subst}
use Rattle.std.specs.Prelude.{slice_get, unwrap_or}
use Rattle.std.specs.List.{AllZip, range_with_len}
use Rattle.cap_prog.specs.Program.{PlainFunction, PlainRegionType, PlainProgram}
use Rattle.cap_goal_spec.specs.States.{PlainGoal}
use Rattle.cap_goal_spec.specs.Choices.{PlainTree}
use Rattle.cap_goal_spec.specs.Roots.{PlainUnit, region_unit, function_unit, roots, units, all_roots}
use Rattle.cap_rules.specs.Valid.{Derives, RootDerives, Valid}
use Rattle.cap_account_resources.proofs.Lists.{some-same, none-some, within, map-length, get-first}
use Rattle.cap_account_states.proofs.Scopes.{length-join}
use Rattle.cap_owners_spec.specs.Steps.{Proved, place_of, units_before, root_at}

-- ---- places in lists of lists

pub get-behind :
    {A : Type 0} (xs ys : List A) (j : ℕ) →
    slice_get (xs ++ ys) (length xs + j) ≡ slice_get ys j
get-behind [] ys j = ap (slice_get ys) (omega arith)
get-behind (x ∷ xs) ys j =
    let e : length (x ∷ xs) + j ≡ suc (length xs + j) = omega arith in
    ap (slice_get (x ∷ (xs ++ ys))) e ∙ get-behind xs ys j

-- member i of list number k stands behind all members of the lists before
get-flat :
    {A B : Type 0} (f : A → List B) (us : List A) (k : ℕ) (u : A) (i : ℕ) (b : B) →
    slice_get us k ≡ Some u → slice_get (f u) i ≡ Some b →
    slice_get (flat_map f us) (length (flat_map f (take k us)) + i) ≡ Some b
get-flat f [] k u i b e h = absurd (none-some e)
get-flat f (x ∷ us) zero u i b e h =
    let same : x ≡ u = some-same x u e in
    let z : length (flat_map f (take 0 (x ∷ us))) + i ≡ i = omega arith in
    ap (slice_get (f x ++ flat_map f us)) z
    ∙ get-first (f x) (flat_map f us) i b (ap (λ y. slice_get (f y) i) same ∙ h)
get-flat f (x ∷ us) (suc k) u i b e h =
    let before = flat_map f (take k us) in
    let z : length (f x ++ before) + i ≡ length (f x) + (length before + i) =
    let m = length-join (f x) before in omega (arith, m) in
    ap (slice_get (f x ++ flat_map f us)) z
    ∙ get-behind (f x) (flat_map f us) (length before + i)
    ∙ get-flat f us k u i b e h

get-zip :
    {A B : Type 0} (R : A → B → Type 0) (ts : List A) (gs : List B) (m : ℕ) (g : B) →
    AllZip R ts gs → slice_get gs m ≡ Some g → (t : A) × (slice_get ts m ≡ Some t) × R t g
get-zip R ts [] m g h e = absurd (none-some e)
get-zip R [] (y ∷ gs) m g h e = absurd h
get-zip R (t ∷ ts) (y ∷ gs) zero g h e = (t, refl, subst (R t) (some-same y g e) h.0)
get-zip R (t ∷ ts) (y ∷ gs) (suc m) g h e = get-zip R ts gs m g h.1 e

-- ---- roots

-- the tree of root i of the unit at this place
module _ (p : PlainProgram) (trees : List (Option PlainTree)) (valid : Valid p trees) where
  abbrev d : Proved
  d = record { program = p; trees = trees }

  pub record IsRooted (u : PlainUnit) (i : ℕ) (g : PlainGoal) : Type 0 where
    pub tree : PlainTree
    pub is_root : root_at (record { program = p; trees = trees }) u i
        ≡ Some (record { goal = g; tree = tree })
    pub derives : Derives p 1 tree g

  derived :
      (t : Option PlainTree) (g : PlainGoal) → RootDerives p t (Some g) →
      (x : PlainTree) × (t ≡ Some x) × Derives p 1 x g
  derived None g h = absurd h
  derived (Some x) g h = (x, refl, h)

  root-there :
      (u : PlainUnit) (k : ℕ) → slice_get (units p) k ≡ Some u →
      units_before p u ≡ take k (units p) → (i : ℕ) (g : PlainGoal) →
      slice_get (roots p u) i ≡ Some (Some g) → IsRooted u i g
  root-there u k e b i g h =
      let m = length (flat_map (roots p) (take k (units p))) + i in
      let at = get-flat (roots p) (units p) k u i (Some g) e h in
      let z = get-zip (RootDerives p) trees (all_roots p) m (Some g) valid.derivations at in
      let t = derived z.0 g z.2 in
      let n : length (flat_map (roots p) (units_before p u)) + i ≡ m =
      ap (λ us. length (flat_map (roots p) us) + i) b in
      record {
        tree = t.0;
        is_root =
            ap (λ j. place_of (unwrap_or (slice_get (all_roots p) j) None)
            (unwrap_or (slice_get trees j) None)) n
            ∙ ap (λ o. place_of (unwrap_or o None) (unwrap_or (slice_get trees m) None)) at
            ∙ ap (λ o. place_of (Some g) (unwrap_or o None)) (z.1 ∙ ap Some t.1);
        derives = t.2;
      }

  -- ---- the units in order

  in-range :
      {A : Type 0} (f : ℕ → A) (low n k : ℕ) → k < n →
      slice_get (map f (range_with_len low n)) k ≡ Some (f (low + k))
  in-range f low zero k l = absurd (omega (arith, l))
  in-range f low (suc n) zero l = ap (λ m. Some (f m)) (omega arith)
  in-range f low (suc n) (suc k) l =
      let s : low + 1 + k ≡ low + suc k = omega arith in
      in-range f (low + 1) n k (omega (arith, l)) ∙ ap (λ m. Some (f m)) s

  range-size : (low n : ℕ) → length (range_with_len low n) ≡ n
  range-size low zero = refl
  range-size low (suc n) = ap suc (range-size (low + 1) n)

  function-at :
      (n : ℕ) (f : PlainFunction) → slice_get p.functions n ≡ Some f →
      slice_get (units p) (length p.regions + n) ≡ Some (function_unit n)
  function-at n f e =
      let rs = map region_unit (range_with_len 0 (length p.regions)) in
      let fs = map function_unit (range_with_len 0 (length p.functions)) in
      let size : length rs ≡ length p.regions =
      map-length region_unit (range_with_len 0 (length p.regions))
      ∙ range-size 0 (length p.regions) in
      let z : 0 + n ≡ n = omega arith in
      ap (λ m. slice_get (rs ++ fs) (m + n)) (sym size)
      ∙ get-behind rs fs n
      ∙ in-range function_unit 0 (length p.functions) n (within p.functions n f e)
      ∙ ap (λ m. Some (function_unit m)) z

  pub function-rooted :
      (n : ℕ) (f : PlainFunction) → slice_get p.functions n ≡ Some f → (i : ℕ) (g : PlainGoal) →
      slice_get (roots p (function_unit n)) i ≡ Some (Some g) → IsRooted (function_unit n) i g
  function-rooted n f e i g h =
      root-there (function_unit n) (length p.regions + n) (function-at n f e) refl i g h

  region-at :
      (n : ℕ) (y : PlainRegionType) → slice_get p.regions n ≡ Some y →
      slice_get (units p) n ≡ Some (region_unit n)
  region-at n y e =
      let z : 0 + n ≡ n = omega arith in
      get-first (map region_unit (range_with_len 0 (length p.regions)))
      (map function_unit (range_with_len 0 (length p.functions))) n (region_unit n)
      (in-range region_unit 0 (length p.regions) n (within p.regions n y e)
      ∙ ap (λ m. Some (region_unit m)) z)

  -- the roots of a region type, one for each of its cases
  pub region-rooted :
      (n : ℕ) (y : PlainRegionType) → slice_get p.regions n ≡ Some y → (i : ℕ) (g : PlainGoal) →
      slice_get (roots p (region_unit n)) i ≡ Some (Some g) → IsRooted (region_unit n) i g
  region-rooted n y e i g h = root-there (region_unit n) n (region-at n y e) refl i g h
