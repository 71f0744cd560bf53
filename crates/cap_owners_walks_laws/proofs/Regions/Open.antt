-- The regions of a walk while some are open: of the others they tell what the table does. A region
-- that is closed is put in its place, and those that are made stand behind all others.
use Rattle.std.proofs.Common.{◌≡◌, ◌≢◌, ◌⊎◌, inl, inr, ℕ, zero, suc, ◌≤ℤ◌, ℤ, pos, ◌+ℤ◌, ◌<ℤ◌, Bool, true, false, List, [], ◌∷◌, ◌++◌, map, cond, Option, Some, None, refl, sym, ap, ◌∙◌, subst, arith}
use Rattle.std.specs.Prelude.{option_map, int_lt, remove, ◌||◌, if◌then◌else◌}
use Rattle.std.specs.List.{AllByRecursion, AllZip, list_any}
use Rattle.std.proofs.lemmas.Int.{ints}
use Rattle.cap_lin.specs.Linear.{same_number}
use Rattle.cap_prog.specs.Program.{PlainProgram}
use Rattle.cap_account_resources.specs.Parts.{Known, known_as, Table}
use Rattle.cap_account_resources.proofs.Lists.{some-same, none-some, all-both, all-more, all-map, Among}
use Rattle.cap_account_resources.proofs.Order.{same-int, same-or, same-refl}
use Rattle.cap_account_resources.proofs.Owners.{Owner, numbers_of, Numbered, numbered-up}
use Rattle.cap_account_resources.proofs.Room.{with_known}
use Rattle.cap_account_assertions.proofs.Follows.{all-among}
use Rattle.cap_account_assertions.proofs.Laws.{IsOwner, Creation}
use Rattle.cap_account_assertions.proofs.NewRegions.{told-here, told-apart}
use Rattle.cap_account_assertions.proofs.TakeSteps.{MadeFrom}
use Rattle.cap_account_assertions.proofs.TakenLaws.{FreeFrom}
use Rattle.cap_account_steps.proofs.SettledTables.{opened-apart}
use Rattle.cap_account_steps.proofs.Worlds.{IsThere, opened_at, opened_table}
use Rattle.cap_owners_spec.specs.Track.{TrackedRegion, tracked_at}
use Rattle.cap_owners_spec.specs.Walks.{with_region}
use Rattle.cap_owners_walks_laws.proofs.Fills.Drawn.{Tells}
use Rattle.cap_owners_walks_laws.proofs.Passes.Takes.{IsTracked, AreBelow}
use Rattle.cap_owners_walks_laws.proofs.Passes.Tracked.{made-from, made-below}
use Rattle.cap_owners_walks_laws.proofs.Passes.Takings.{told_at, made-told, behind, free-from}
use Rattle.cap_owners_walks_laws.proofs.Regions.Telling.{put-here, put-other}

abbrev tell : TrackedRegion → Known
tell r = known_as r.owned.region.kind r.owned.region.args (Some r.owned.region.state)

-- of these regions, which are open, the table tells type and arguments; of all others all
pub record TellsOpen (ns : List ℤ) (rs : List TrackedRegion) (W : Table) : Type 0 where
  pub shut : (n : ℤ) → (Among n ns → ⊥) → told_at rs n ≡ W n
  pub opened :
      (n : ℤ) → Among n ns →
      (r : TrackedRegion) × (tracked_at rs n ≡ Some r)
      × (W n ≡ Some (known_as r.owned.region.kind r.owned.region.args None))

-- once none is open
pub all-told : (rs : List TrackedRegion) (U : Table) → TellsOpen [] rs U → Tells rs U
all-told rs U h n = h.shut n (λ a. a)

-- ---- when they are opened

any-there : (n : ℤ) (ns : List ℤ) → Among n ns → list_any (same_number n) ns ≡ true
any-there n [] a = absurd a
any-there n (m ∷ ns) (inl e) =
    ap (λ x. same_number n x || list_any (same_number n) ns) e
    ∙ ap (λ b. b || list_any (same_number n) ns) (same-refl n)
any-there n (m ∷ ns) (inr a) = by (same_number n m) (any-there n ns a)
  where
    by :
        (b : Bool) → list_any (same_number n) ns ≡ true →
        (b || list_any (same_number n) ns) ≡ true
    by true e = refl
    by false e = e

told-by :
    (o : Option TrackedRegion) (e : Known) → option_map tell o ≡ Some e →
    (r : TrackedRegion) × (o ≡ Some r) × (tell r ≡ e)
told-by None e h = absurd (none-some h)
told-by (Some r) e h = (r, refl, some-same (tell r) e h)

pub first-open :
    (ns : List ℤ) (rs : List TrackedRegion) (V : Table) → AllByRecursion (IsThere V) ns →
    Tells rs V → TellsOpen ns rs (opened_table ns V)
first-open ns rs V there tells = record {
  shut = λ n f. tells n ∙ sym (opened-apart ns V n f);
  opened = λ n a.
      let e = all-among (IsThere V) ns n there a in
      let r = told-by (tracked_at rs n) e.0 (tells n ∙ e.1) in (
        r.0,
        r.1,
        (λ i. opened_at (any-there n ns a i) (e.1 i))
            ∙ ap (λ (x : Known). Some (known_as x.kind x.args None)) (sym r.2),
      );
}

-- ---- more regions

pub open-made :
    (p : PlainProgram) (W U : Table) (next later : ℤ) (new : List Owner)
    (m : MadeFrom p W next U new later) (cs : List Creation) → new ≡ map (λ c. c.owner) cs →
    (ns : List ℤ) (rs ss : List TrackedRegion) → AllZip (IsTracked p U) cs ss →
    TellsOpen ns rs W → TellsOpen ns (rs ++ ss) U
open-made p W U next later new m cs are ns rs ss h t = record {
  shut = λ n f. elim (behind rs ss n) [
    | inl q ↦
        ap (option_map tell) q.2
        ∙ sym (m.extends n (tell q.0) (sym (t.shut n f) ∙ ap (option_map tell) q.1))
    | inr q ↦ elim (made-told p U cs ss h (subst (AllByRecursion (IsOwner p U)) are m.owners) n) [
      | inl told ↦ ap (option_map tell) q.1 ∙ told
      | inr absent ↦ ap (option_map tell) (q.1 ∙ absent.0)
          ∙ sym (m.others n (subst (λ os. Among n (numbers_of os) → ⊥) (sym are) absent.1)
          ∙ sym (t.shut n f) ∙ ap (option_map tell) q.0)
    ]
  ];
  opened = λ n a.
      let o = t.opened n a in
      elim (behind rs ss n) [
        | inl q ↦
            let same = some-same q.0 o.0 (sym q.1 ∙ o.1) in (
              o.0,
              q.2 ∙ ap Some same,
              m.extends n (known_as o.0.owned.region.kind o.0.owned.region.args None) o.2,
            )
        | inr q ↦ absurd (none-some (sym q.0 ∙ o.1))
      ];
}

-- no region has a number from the next one on
pub open-free :
    (ns : List ℤ) (rs : List TrackedRegion) (W : Table) (next : ℤ) → TellsOpen ns rs W →
    AreBelow next rs → FreeFrom W next
open-free ns rs W next t low n l =
    let none : told_at rs n ≡ None = free-from rs (told_at rs) next (λ m. refl) low n l in
    sym (t.shut n
    (λ a. let o = t.opened n a in absurd (none-some (sym none ∙ ap (option_map tell) o.1))))
    ∙ none

-- ---- a region is closed

pub open-shut :
    (T : Table) (r : TrackedRegion) (ns ms : List ℤ) (rs : List TrackedRegion) →
    ((n : ℤ) → Among n ns → (r.owned.region.number ≡ n) ⊎ Among n ms) →
    ((n : ℤ) → Among n ms → Among n ns × (r.owned.region.number ≢ n)) → TellsOpen ns rs T →
    TellsOpen ms (with_region r rs)
    (with_known T r.owned.region.number
    (known_as r.owned.region.kind r.owned.region.args (Some r.owned.region.state)))
open-shut T r ns ms rs or apart t = record {
  shut = λ n f. elim (same-or r.owned.region.number n) [
    | inl e ↦
        subst (λ n. told_at (with_region r rs) n ≡ with_known T r.owned.region.number (tell r) n) e
        (ap (option_map tell) (put-here r rs)
        ∙ sym (told-here T r.owned.region.number (tell r)))
    | inr ne ↦
        ap (option_map tell) (put-other r rs n ne)
        ∙ t.shut n (λ a. elim (or n a) [ inl e ↦ ne e | inr b ↦ f b ])
        ∙ sym (told-apart T r.owned.region.number n (tell r) ne)
  ];
  opened = λ n a.
      let h = apart n a in
      let o = t.opened n h.0 in (
        o.0,
        put-other r rs n h.1 ∙ o.1,
        told-apart T r.owned.region.number n (tell r) h.1 ∙ o.2,
      );
}

-- ---- numbers

abbrev pub numbers_in : List TrackedRegion → List ℤ
numbers_in rs = map (λ r. r.owned.region.number) rs

abbrev pub AreAscending : List ℤ → Type 0
AreAscending [] = Unit {0}
AreAscending (n ∷ ns) = AllByRecursion (λ m. n <ℤ m) ns × AreAscending ns

pub ascending-join :
    (ns ms : List ℤ) → AreAscending ns → AreAscending ms →
    AllByRecursion (λ n. AllByRecursion (λ m. n <ℤ m) ms) ns → AreAscending (ns ++ ms)
ascending-join [] ms h k a = k
ascending-join (n ∷ ns) ms h k a =
    (all-both (λ m. n <ℤ m) ns ms h.0 a.0, ascending-join ns ms h.1 k a.1)

-- a region that is found has a number above all that stand before it
number-above :
    (n m : ℤ) (rs : List TrackedRegion) (q : TrackedRegion) →
    AllByRecursion (λ m. n <ℤ m) (numbers_in rs) → tracked_at rs m ≡ Some q → n <ℤ m
number-above n m [] q h e = absurd (none-some e)
number-above n m (r ∷ rs) q h e =
    by (same_number r.owned.region.number m) refl e (λ k. number-above n m rs q h.1 k)
  where
    by :
        (b : Bool) → same_number r.owned.region.number m ≡ b →
        cond b (Some r) (tracked_at rs m) ≡ Some q → (tracked_at rs m ≡ Some q → n <ℤ m) → n <ℤ m
    by true t k later =
        let e = same-int r.owned.region.number m t in
        let l = h.0 in omega (arith, ints, e, l)
    by false t k later = later k

lt-is : (a b : ℤ) → int_lt a b ≡ true → a <ℤ b
lt-is a b e = grind (arith, ints)

-- a region that is there is put in its place, before those that are behind
pub put-there :
    (r q : TrackedRegion) (rs ss : List TrackedRegion) → AreAscending (numbers_in rs) →
    tracked_at rs r.owned.region.number ≡ Some q →
    (with_region r (rs ++ ss) ≡ with_region r rs ++ ss)
    × (numbers_in (with_region r rs) ≡ numbers_in rs)
put-there r q [] ss h e = absurd (none-some e)
put-there r q (s ∷ rs) ss h e =
    by (same_number s.owned.region.number r.owned.region.number) refl e
    (λ k. put-there r q rs ss h.1 k)
  where
    n : ℤ
    n = r.owned.region.number

    Put : Bool → Bool → Type 0
    Put b c =
        ((if b then r ∷ (rs ++ ss)
        else (if c then r ∷ (s ∷ (rs ++ ss)) else s ∷ with_region r (rs ++ ss)))
        ≡ (if b then r ∷ rs else (if c then r ∷ (s ∷ rs) else s ∷ with_region r rs)) ++ ss)
        × (numbers_in (if b then r ∷ rs else (if c then r ∷ (s ∷ rs) else s ∷ with_region r rs))
        ≡ numbers_in (s ∷ rs))

    before :
        (c : Bool) → int_lt r.owned.region.number s.owned.region.number ≡ c →
        tracked_at rs r.owned.region.number ≡ Some q →
        (with_region r (rs ++ ss) ≡ with_region r rs ++ ss)
        × (numbers_in (with_region r rs) ≡ numbers_in rs) → Put false c
    before true t k later =
        let l = lt-is r.owned.region.number s.owned.region.number t in
        let m = number-above s.owned.region.number r.owned.region.number rs q h.0 k in
        absurd (omega (arith, ints, l, m))
    before false t k later =
        (ap (λ us. s ∷ us) later.0, ap (λ ns. s.owned.region.number ∷ ns) later.1)

    by :
        (b : Bool) → same_number s.owned.region.number r.owned.region.number ≡ b →
        cond b (Some s) (tracked_at rs r.owned.region.number) ≡ Some q →
        (tracked_at rs r.owned.region.number ≡ Some q →
        (with_region r (rs ++ ss) ≡ with_region r rs ++ ss)
        × (numbers_in (with_region r rs) ≡ numbers_in rs)) →
        Put b (int_lt r.owned.region.number s.owned.region.number)
    by true t k later = (
      refl,
      ap (λ m. m ∷ numbers_in rs)
          (sym (same-int s.owned.region.number r.owned.region.number t)),
    )
    by false t k later =
        before (int_lt r.owned.region.number s.owned.region.number) refl k (later k)

-- regions that stand behind others hide none
pub tracked-first :
    (rs ss : List TrackedRegion) (n : ℤ) (r : TrackedRegion) → tracked_at rs n ≡ Some r →
    tracked_at (rs ++ ss) n ≡ Some r
tracked-first rs ss n r e = elim (behind rs ss n) [
  | inl q ↦ q.2 ∙ ap Some (some-same q.0 r (sym q.1 ∙ e))
  | inr q ↦ absurd (none-some (sym q.0 ∙ e))
]

-- those that are made have numbers from the next one on, in their order
pub made-ascending :
    (p : PlainProgram) (U : Table) (from to : ℤ) (cs : List Creation) (rs : List TrackedRegion) →
    Numbered from (map (λ c. c.owner) cs) to → AllZip (IsTracked p U) cs rs →
    AreAscending (numbers_in rs)
made-ascending p U from to [] [] n h = tt
made-ascending p U from to [] (r ∷ rs) n h = absurd h
made-ascending p U from to (c ∷ cs) [] n h = absurd h
made-ascending p U from to (c ∷ cs) (r ∷ rs) n h =
    let e = ap (λ (o : Owner). o.number) h.0.owner in
    let b = n.0 in (
      all-map (λ r. r.owned.region.number) (λ m. r.owned.region.number <ℤ m) rs
          (all-more (λ s. (from +ℤ pos 1) ≤ℤ s.owned.region.number)
          (λ s. r.owned.region.number <ℤ s.owned.region.number)
          (λ s l. omega (arith, ints, l, e, b)) rs
          (made-from p U (from +ℤ pos 1) to cs rs n.1 h.1)),
      made-ascending p U (from +ℤ pos 1) to cs rs n.1 h.1,
    )

-- the numbers of a walk's regions, once one is put in its place and others are made
module _ (p : PlainProgram) (U : Table) (next later : ℤ) (cs : List Creation)
    (made : List TrackedRegion) (numbered : Numbered next (map (λ c. c.owner) cs) later)
    (are : AllZip (IsTracked p U) cs made) (rs : List TrackedRegion)
    (ascending : AreAscending (numbers_in rs)) (low : AreBelow next rs) where
  pub made-ascends : AreAscending (numbers_in rs ++ numbers_in made)
  made-ascends =
      ascending-join (numbers_in rs) (numbers_in made) ascending
      (made-ascending p U next later cs made numbered are)
      (all-map (λ r. r.owned.region.number)
      (λ n. AllByRecursion (λ m. n <ℤ m) (numbers_in made)) rs
      (all-more (λ r. r.owned.region.number <ℤ next)
      (λ r. AllByRecursion (λ m. r.owned.region.number <ℤ m) (numbers_in made))
      (λ r l. all-map (λ s. s.owned.region.number) (λ m. r.owned.region.number <ℤ m) made
      (all-more (λ s. next ≤ℤ s.owned.region.number)
      (λ s. r.owned.region.number <ℤ s.owned.region.number)
      (λ s h. omega (arith, ints, l, h)) made (made-from p U next later cs made numbered are))) rs
      low))

  pub made-low : AllByRecursion (λ n. n <ℤ later) (numbers_in rs ++ numbers_in made)
  made-low =
      let up = numbered-up next later (map (λ c. c.owner) cs) numbered in
      all-both (λ n. n <ℤ later) (numbers_in rs) (numbers_in made)
      (all-map (λ r. r.owned.region.number) (λ n. n <ℤ later) rs
      (all-more (λ r. r.owned.region.number <ℤ next) (λ r. r.owned.region.number <ℤ later)
      (λ r l. omega (arith, ints, l, up)) rs low))
      (all-map (λ r. r.owned.region.number) (λ n. n <ℤ later) made
      (made-below p U next later cs made numbered are))

-- the facts of which one is taken away
pub among-removed :
    {X : Type 0} (g : X → ℤ) (xs : List X) (i : ℕ) (n : ℤ) → Among n (map g (remove xs i)) →
    Among n (map g xs)
among-removed g [] zero n a = a
among-removed g [] (suc i) n a = a
among-removed g (x ∷ xs) zero n a = inr a
among-removed g (x ∷ xs) (suc i) n (inl e) = inl e
among-removed g (x ∷ xs) (suc i) n (inr a) = inr (among-removed g xs i n a)
