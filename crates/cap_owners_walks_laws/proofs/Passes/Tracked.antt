-- Regions that are created along a walk: they stand behind the others, in the order of their
-- numbers.
use Rattle.std.proofs.Common.{◌≡◌, ◌≢◌, ℕ, suc, ◌≤◌, ℤ, pos, ◌+ℤ◌, ◌≤ℤ◌, ◌<ℤ◌, Bool, true, false, List, [], ◌∷◌, ◌++◌, length, map, take, drop, refl, ap, ◌∙◌, arith, subst}
use Rattle.std.specs.Prelude.{int_lt}
use Rattle.std.specs.List.{AllByRecursion, AllZip}
use Rattle.std.proofs.lemmas.Int.{ints}
use Rattle.cap_lin.specs.Linear.{same_number}
use Rattle.cap_prog.specs.Program.{PlainProgram}
use Rattle.cap_machine_accounts.specs.Assertions.{NameValue, AreWhole}
use Rattle.cap_account_resources.specs.Parts.{Table}
use Rattle.cap_account_resources.proofs.Lists.{all-more, all-both}
use Rattle.cap_account_resources.proofs.Order.{same-int}
use Rattle.cap_account_resources.proofs.Owners.{Owner, Numbered, numbered-up}
use Rattle.cap_account_resources.proofs.Tables.{KeepsStates}
use Rattle.cap_account_assertions.proofs.Asserted.{case-kept}
use Rattle.cap_account_assertions.proofs.Laws.{Creation}
use Rattle.cap_owners_spec.specs.Traced.{number_of, valuation}
use Rattle.cap_owners_spec.specs.Track.{TrackedRegion}
use Rattle.cap_owners_spec.specs.Walks.{with_region}
use Rattle.cap_account.proofs.Stocked.{part_stock}
use Rattle.cap_owners_walks_laws.proofs.Passes.Meets.{items-met-kept, items-told-kept}
use Rattle.cap_owners_walks_laws.proofs.Passes.Takes.{owner_of, IsTracked, AreBelow}

-- ---- as they are tracked

-- also by a table that keeps known states
pub tracked-on :
    (p : PlainProgram) (U V : Table) → KeepsStates U V → (c : Creation) (r : TrackedRegion) →
    IsTracked p U c r → IsTracked p V c r
tracked-on p U V k c r t =
    let o = t.own.0 in
    record {
      owner = t.owner;
      number = t.number;
      own = case-kept p U V k (owner_of r) r.case (valuation r.fill.names) t.own;
      met = record {
        names = t.met.names;
        wildcards =
            items-met-kept p U V k o.values o.case.items (part_stock r.owned.part) o.met.0 o.met.1
            ∙ t.met.wildcards;
        facts =
            items-told-kept p U V k o.values o.case.items (part_stock r.owned.part) o.met.0 o.met.1
            ∙ t.met.facts;
      };
      fits = t.fits;
      size = t.size;
    }

pub all-tracked-on :
    (p : PlainProgram) (U V : Table) → KeepsStates U V → (cs : List Creation)
    (rs : List TrackedRegion) → AllZip (IsTracked p U) cs rs → AllZip (IsTracked p V) cs rs
all-tracked-on p U V k [] [] h = tt
all-tracked-on p U V k [] (r ∷ rs) h = absurd h
all-tracked-on p U V k (c ∷ cs) [] h = absurd h
all-tracked-on p U V k (c ∷ cs) (r ∷ rs) h =
    (tracked-on p U V k c r h.0, all-tracked-on p U V k cs rs h.1)

pub zip-join :
    {A B : Type 0} (P : A → B → Type 0) (xs xs' : List A) (ys ys' : List B) → AllZip P xs ys →
    AllZip P xs' ys' → AllZip P (xs ++ xs') (ys ++ ys')
zip-join P [] xs' [] ys' h k = k
zip-join P [] xs' (y ∷ ys) ys' h k = absurd h
zip-join P (x ∷ xs) xs' [] ys' h k = absurd h
zip-join P (x ∷ xs) xs' (y ∷ ys) ys' h k = (h.0, zip-join P xs xs' ys ys' h.1 k)

-- ---- their numbers

-- all numbers are at least this one
abbrev pub AreFrom : ℤ → List TrackedRegion → Type 0
AreFrom next rs = AllByRecursion (λ r. next ≤ℤ r.owned.region.number) rs

pub made-from :
    (p : PlainProgram) (U : Table) (from to : ℤ) (cs : List Creation) (rs : List TrackedRegion) →
    Numbered from (map (λ c. c.owner) cs) to → AllZip (IsTracked p U) cs rs → AreFrom from rs
made-from p U from to [] [] n h = tt
made-from p U from to [] (r ∷ rs) n h = absurd h
made-from p U from to (c ∷ cs) [] n h = absurd h
made-from p U from to (c ∷ cs) (r ∷ rs) n h =
    let e = ap (λ (o : Owner). o.number) h.0.owner in
    let b = n.0 in (
      omega (arith, ints, e, b),
      all-more (λ r. (from +ℤ pos 1) ≤ℤ r.owned.region.number)
          (λ r. from ≤ℤ r.owned.region.number) (λ r l. omega (arith, ints, l)) rs
          (made-from p U (from +ℤ pos 1) to cs rs n.1 h.1),
    )

pub made-below :
    (p : PlainProgram) (U : Table) (from to : ℤ) (cs : List Creation) (rs : List TrackedRegion) →
    Numbered from (map (λ c. c.owner) cs) to → AllZip (IsTracked p U) cs rs → AreBelow to rs
made-below p U from to [] [] n h = tt
made-below p U from to [] (r ∷ rs) n h = absurd h
made-below p U from to (c ∷ cs) [] n h = absurd h
made-below p U from to (c ∷ cs) (r ∷ rs) n h =
    let e = ap (λ (o : Owner). o.number) h.0.owner in
    let b = n.0 in
    let l = numbered-up (from +ℤ pos 1) to (map (λ c. c.owner) cs) n.1 in
    (omega (arith, ints, e, b, l), made-below p U (from +ℤ pos 1) to cs rs n.1 h.1)

-- ---- in its place

other-number : (a b : ℤ) → a ≢ b → same_number a b ≡ false
other-number a b ne = by (same_number a b) refl
  where
    by : (t : Bool) → same_number a b ≡ t → t ≡ false
    by true e = absurd (ne (same-int a b e))
    by false e = refl

lt-is : (a b : ℤ) → a <ℤ b → int_lt a b ≡ true
lt-is a b l = by (int_lt a b) refl
  where
    by : (t : Bool) → int_lt a b ≡ t → t ≡ true
    by true e = refl
    by false e = absurd (let h : b ≤ℤ a = grind (arith, ints) in omega (arith, ints, h, l))

lt-not : (a b : ℤ) → b ≤ℤ a → int_lt a b ≡ false
lt-not a b l = by (int_lt a b) refl
  where
    by : (t : Bool) → int_lt a b ≡ t → t ≡ false
    by false e = refl
    by true e = absurd (let h : a <ℤ b = grind (arith, ints) in omega (arith, ints, h, l))

-- a region stands behind those with lower numbers, and before those with higher ones
pub with-between :
    (r : TrackedRegion) (rs ss : List TrackedRegion) →
    AllByRecursion (λ s. s.owned.region.number <ℤ r.owned.region.number) rs →
    AllByRecursion (λ s. r.owned.region.number <ℤ s.owned.region.number) ss →
    with_region r (rs ++ ss) ≡ rs ++ r ∷ ss
with-between r [] [] l h = refl
with-between r [] (s ∷ ss) l h =
    let a = h.0 in
    let n = other-number s.owned.region.number r.owned.region.number
    (λ e. omega (arith, ints, a, e)) in
    let m = lt-is r.owned.region.number s.owned.region.number h.0 in
    rw (n, m) refl
with-between r (s ∷ rs) ss l h =
    let a = l.0 in
    let n = other-number s.owned.region.number r.owned.region.number
    (λ e. omega (arith, ints, a, e)) in
    let m = lt-not r.owned.region.number s.owned.region.number (omega (arith, ints, a)) in
    rw (n, m) (ap (λ ts. s ∷ ts) (with-between r rs ss l.1 h))

-- a region between a walk's and those that were numbered behind it
module _ (p : PlainProgram) (U : Table) (next later : ℤ) (new : List Owner)
    (numbered : Numbered (next +ℤ pos 1) new later) (cs : List Creation)
    (are : new ≡ map (λ c. c.owner) cs) (made : List TrackedRegion)
    (as_tracked : AllZip (IsTracked p U) cs made) (r : TrackedRegion)
    (here : r.owned.region.number ≡ next) (rs : List TrackedRegion) (low : AreBelow next rs) where
  counted : Numbered (next +ℤ pos 1) (map (λ c. c.owner) cs) later
  counted = subst (λ os. Numbered (next +ℤ pos 1) os later) are numbered

  pub created-between : with_region r (rs ++ made) ≡ rs ++ r ∷ made
  created-between =
      with-between r rs made
      (all-more (λ s. s.owned.region.number <ℤ next)
      (λ s. s.owned.region.number <ℤ r.owned.region.number)
      (λ s l. omega (arith, ints, l, here)) rs low)
      (all-more (λ s. (next +ℤ pos 1) ≤ℤ s.owned.region.number)
      (λ s. r.owned.region.number <ℤ s.owned.region.number)
      (λ s l. omega (arith, ints, l, here)) made
      (made-from p U (next +ℤ pos 1) later cs made counted as_tracked))

  pub created-below : AreBelow later (rs ++ r ∷ made)
  created-below =
      let up = numbered-up (next +ℤ pos 1) later new numbered in
      all-both (λ s. s.owned.region.number <ℤ later) rs (r ∷ made)
      (all-more (λ s. s.owned.region.number <ℤ next) (λ s. s.owned.region.number <ℤ later)
      (λ s l. omega (arith, ints, l, up)) rs low) (
        omega (arith, ints, up, here),
        made-below p U (next +ℤ pos 1) later cs made counted as_tracked,
      )

-- ---- arguments

-- names have these whole numbers from the first one on
shifted :
    (y : NameValue) (ys : List NameValue) (x : ℕ) (zs : List ℤ) →
    AreWhole (valuation (y ∷ ys)) (suc x) zs → AreWhole (valuation ys) x zs
shifted y ys x [] h = tt
shifted y ys x (z ∷ zs) h = (h.0, shifted y ys (suc x) zs h.1)

whole-list :
    (ns : List NameValue) (zs : List ℤ) → length zs ≤ length ns → AreWhole (valuation ns) 0 zs →
    map number_of (take (length zs) ns) ≡ zs
whole-list ns [] l h = refl
whole-list [] (z ∷ zs) l h = absurd (omega (arith, l))
whole-list (y ∷ ns) (z ∷ zs) l h =
    λ i. h.0 i ∷ whole-list ns zs (omega (arith, l)) (shifted y ns 0 zs h.1) i

pub whole-args :
    (ns : List NameValue) (z : ℤ) (zs : List ℤ) → suc (length zs) ≤ length ns →
    AreWhole (valuation ns) 0 (z ∷ zs) → map number_of (take (length zs) (drop 1 ns)) ≡ zs
whole-args [] z zs l h = absurd (omega (arith, l))
whole-args (y ∷ ns) z zs l h = whole-list ns zs (omega (arith, l)) (shifted y ns 0 zs h.1)
