-- All open regions are closed along a walk, one after the other.
use Rattle.std.proofs.Common.{◌≡◌, ◌⊎◌, inl, inr, ℕ, zero, suc, ℤ, ◌<ℤ◌, Bool, true, false, List, [], ◌∷◌, ◌++◌, map, length, cond, Some, refl, sym, ap, ◌∙◌, subst, arith}
use Rattle.std.specs.List.{AllByRecursion}
use Rattle.cap_lin.specs.Linear.{same_number}
use Rattle.cap_lin.specs.Values.{value}
use Rattle.cap_prog.specs.WellFormed.{IsWellFormed}
use Rattle.cap_goal_spec.specs.States.{PlainState, PlainTask, goals_of}
use Rattle.cap_goal_spec.specs.Choices.{PlainTrees}
use Rattle.cap_machine.specs.Machine.{Heap}
use Rattle.cap_machine_accounts.specs.Assertions.{NameValue}
use Rattle.cap_account_resources.specs.Parts.{Table}
use Rattle.cap_account_resources.proofs.Lists.{Among, map-length, map-join, join-assoc, join-nil, all-more, all-both}
use Rattle.cap_account_resources.proofs.Monoid.{none, atom}
use Rattle.cap_account_resources.proofs.Monoid as monoid
use Rattle.cap_account_resources.proofs.Order.{same-refl}
use Rattle.cap_account_resources.proofs.Owners.{Numbered, numbered-join}
use Rattle.cap_account_resources.proofs.Stocks.{Stock, some-inside}
use Rattle.cap_account_resources.proofs.Tables.{new_guards}
use Rattle.cap_account_states.specs.Nodes.{Open}
use Rattle.cap_account_states.proofs.Checked.{Checked}
use Rattle.cap_account_assertions.proofs.Laws.{TakenLaw}
use Rattle.cap_account_steps.proofs.ClosedTables.{makes-by, made-none}
use Rattle.cap_account_steps.proofs.SettledTables.{settled-states}
use Rattle.cap_account_steps.proofs.SettledTwice.{settles-for, settles-again}
use Rattle.cap_account_steps.proofs.StillOpen.{LaterState, later-same, later-trans}
use Rattle.cap_account_steps.proofs.Worlds.{regions_of, SettlesBy, closes}
use Rattle.cap_owners_spec.specs.Traced.{past_width, valuation}
use Rattle.cap_owners_spec.specs.Track.{TrackedRegion, tracked_at}
use Rattle.cap_owners_spec.specs.Walks.{Walk, Interpreting, with_region}
use Rattle.cap_owners_walks_laws.proofs.Passes.Rests.{walks_into}
use Rattle.cap_owners_walks_laws.proofs.Passes.Takes.{owner_of}
use Rattle.cap_owners_walks_laws.proofs.Regions.Closes.{Closes, ClosesTo}
use Rattle.cap_owners_walks_laws.proofs.Regions.ClosesOne.{closes-one}
use Rattle.cap_owners_walks_laws.proofs.Regions.Open.{numbers_in, AreAscending, put-there}
use Rattle.cap_owners_walks_laws.proofs.Regions.OwnedSo.{OwnedSo, owned-on, all-owned-on}

-- regions are put in their places
abbrev pub renewed : List TrackedRegion → List TrackedRegion → List TrackedRegion
renewed [] rs = rs
renewed (c ∷ cs) rs = renewed cs (with_region c rs)

-- a number that is there is found
pub tracked-of :
    (rs : List TrackedRegion) (n : ℤ) → Among n (numbers_in rs) →
    (r : TrackedRegion) × (tracked_at rs n ≡ Some r)
tracked-of [] n a = absurd a
tracked-of (r ∷ rs) n a =
    by (same_number r.owned.region.number n) refl (λ later. tracked-of rs n later)
  where
    by :
        (b : Bool) → same_number r.owned.region.number n ≡ b →
        (Among n (numbers_in rs) → (q : TrackedRegion) × (tracked_at rs n ≡ Some q)) →
        (q : TrackedRegion) × (cond b (Some r) (tracked_at rs n) ≡ Some q)
    by true t more = (r, refl)
    by false t more = elim a [
      | inl e ↦ absurd (unlike (sym t ∙ ap (λ m. same_number m n) e ∙ same-refl n))
      | inr later ↦ more later
    ]
      where
        unlike : false ≡ true → ⊥
        unlike e = cc

-- those that come first are ascending
pub first-ascending : (ns ms : List ℤ) → AreAscending (ns ++ ms) → AreAscending ns
first-ascending [] ms h = tt
first-ascending (n ∷ ns) ms h = (first ns h.0, first-ascending ns ms h.1)
  where
    first :
        (ks : List ℤ) → AllByRecursion (λ m. n <ℤ m) (ks ++ ms) → AllByRecursion (λ m. n <ℤ m) ks
    first [] h = tt
    first (k ∷ ks) h = (h.0, first ks h.1)

module _ (p : Checked) (heap : Heap) (V : Table) (part : Stock) where
  -- of the walk's regions the first ones were there before, and all that are open are among them
  pub record ClosesAll (W : Table) (ks : List ℕ) (vs : List NameValue) (s : PlainState)
      (held : Stock) (first more : List TrackedRegion) (next : ℤ) (n m : ℕ) (ts : List PlainTask)
      (trees : PlainTrees) : Type 0 where
    pub closed : List TrackedRegion
    pub made : List TrackedRegion
    pub values : List NameValue
    pub after : PlainState
    pub children : PlainTrees
    pub goes : Open p.N children after ts
    pub left : Stock
    pub by : SettlesBy p.program V W part held (regions_of (valuation vs) s.opened) left
    pub js : List ℕ
    pub later : LaterState ks js (valuation vs) (valuation values) s after
    pub none_open : after.opened ≡ []
    pub next_is : ℤ
    pub numbered : Numbered next (map owner_of made) next_is
    pub known :
        Closes p heap V part by.U js values after left (renewed closed first ++ (more ++ made)) next_is
    pub numbers : numbers_in (renewed closed first) ≡ numbers_in first
    pub were_there : AllByRecursion (λ r. Among r.owned.region.number (numbers_in first)) closed
    pub closed_are : by.closed ≡ map owner_of closed
    pub made_are : by.made ≡ map owner_of made
    pub owned : AllByRecursion (OwnedSo p.program by.U) closed
    pub owned_made : AllByRecursion (OwnedSo p.program by.U) made
    pub walks :
        (seating : Bool) (enter : Interpreting) (w : Walk) →
        (walks_into seating enter p.program trees (goals_of s (closes n m ts))
        (record w { values = vs; next = next; regions = first ++ more })
        ≡ past_width)
        ⊎ (walks_into seating enter p.program trees (goals_of s (closes n m ts))
        (record w { values = vs; next = next; regions = first ++ more })
        ≡ walks_into seating enter p.program children (goals_of after ts) (record w {
          values = values;
          next = next_is;
          regions = renewed closed first ++ (more ++ made);
        }))

  abbrev pub AllWide :
      List NameValue → PlainState → List TrackedRegion → ℤ → ℕ → ℕ → List PlainTask → PlainTrees →
      Type 0
  AllWide vs s rs next n m ts trees =
      (seating : Bool) (enter : Interpreting) (w : Walk) →
      walks_into seating enter p.program trees (goals_of s (closes n m ts))
      (record w { values = vs; next = next; regions = rs })
      ≡ past_width

-- closing them all comes to this
abbrev pub ClosesAllLaw : Checked → Type 0
ClosesAllLaw p =
    (heap : Heap) (V : Table) (part : Stock) (m : ℕ) (W : Table) (ks : List ℕ)
    (vs : List NameValue) (s : PlainState) (held : Stock) (first more : List TrackedRegion)
    (next : ℤ) (n : ℕ) (ts : List PlainTask) (trees : PlainTrees) → m ≡ length s.opened →
    Open p.N trees s (closes n m ts) →
    ((k : ℤ) → Among k (regions_of (valuation vs) s.opened) → Among k (numbers_in first)) →
    Closes p heap V part W ks vs s held (first ++ more) next →
    AllWide p heap V part vs s (first ++ more) next n m ts trees
    ⊎ ClosesAll p heap V part W ks vs s held first more next n m ts trees

no-length : {X : Type 0} (xs : List X) → 0 ≡ length xs → xs ≡ []
no-length [] e = refl
no-length (x ∷ xs) e = absurd (omega (arith, e))

-- ---- none is left

module _ (p : Checked) (heap : Heap) (V : Table) (part : Stock) (W : Table) (ks : List ℕ)
    (vs : List NameValue) (s : PlainState) (held : Stock) (first more : List TrackedRegion)
    (next : ℤ) (n : ℕ) (ts : List PlainTask) (trees : PlainTrees)
    (c : Closes p heap V part W ks vs s held (first ++ more) next) where
  closes-none :
      s.opened ≡ [] → Open p.N trees s ts →
      ClosesAll p heap V part W ks vs s held first more next n zero ts trees
  closes-none none-open goes =
      let pp = p.program in
      let v = valuation vs in
      record {
        closed = [];
        made = [];
        values = vs;
        after = s;
        children = trees;
        goes = goes;
        left = held;
        by =
            settles-for pp V W part held held (regions_of v s.opened) []
            (λ n a. subst (λ fs. Among n (regions_of v fs)) none-open a)
            (sym (ap (λ fs. length (regions_of v fs)) none-open))
            (makes-by pp V W W part [] (made-none pp W) held held
            (some-inside pp (held ∷ new_guards pp W W ∷ []) (monoid.both (atom 0) none)
            (monoid.both (atom 0) (atom 1)) (1 ∷ []) refl));
        js = ks;
        later = later-same ks v s;
        none_open = none-open;
        next_is = next;
        numbered = refl;
        known =
            subst (λ rs. Closes p heap V part W ks vs s held (first ++ rs) next)
            (sym (join-nil more)) c;
        numbers = refl;
        were_there = tt;
        closed_are = refl;
        made_are = refl;
        owned = tt;
        owned_made = tt;
        walks = λ seating enter w.
            inr (ap (λ rs. walks_into seating enter pp trees (goals_of s ts)
            (record w { values = vs; next = next; regions = first ++ rs })) (sym (join-nil more)));
      }

  -- ---- one, and then the others

  module _ (m : ℕ)
      (there : (k : ℤ) → Among k (regions_of (valuation vs) s.opened) → Among k (numbers_in first))
      (x : ClosesTo p heap V part W ks vs s held (first ++ more) next n (closes n m ts) trees) where
    abbrev first1 : List TrackedRegion
    first1 = with_region x.region first

    abbrev more1 : List TrackedRegion
    more1 = more ++ x.made

    put :
        (with_region x.region (first ++ more) ≡ with_region x.region first ++ more)
        × (numbers_in (with_region x.region first) ≡ numbers_in first)
    put =
        let k = x.region.owned.region.number in
        let q = tracked-of first k (there k x.is_open) in
        put-there x.region q.0 first more
        (first-ascending (numbers_in first) (numbers_in more)
        (subst AreAscending (map-join (λ (r : TrackedRegion). r.owned.region.number) first more)
        c.ascending)) q.1

    pub regions-are : with_region x.region (first ++ more) ++ x.made ≡ first1 ++ more1
    regions-are =
        ap (λ rs. rs ++ x.made) put.0 ∙ sym (join-assoc first1 more x.made)

    pub closes-next :
        Closes p heap V part x.by.U x.js x.values x.after x.left (first1 ++ more1) x.next_is
    closes-next =
        subst (λ rs. Closes p heap V part x.by.U x.js x.values x.after x.left rs x.next_is)
        regions-are x.closes

    pub there-next :
        (k : ℤ) → Among k (regions_of (valuation x.values) x.after.opened) →
        Among k (numbers_in (with_region x.region first))
    there-next k a = subst (Among k) (sym put.1) (there k (x.still k a))

    abbrev Rest : Type 0
    Rest =
        ClosesAll p heap V part x.by.U x.js x.values x.after x.left first1 more1 x.next_is n m ts
        x.children

    same-count :
        length (x.region.owned.region.number ∷ regions_of (valuation x.values) x.after.opened)
        ≡ length (regions_of (valuation vs) s.opened)
    same-count =
        let a = map-length (λ f. value (valuation vs).whole f.region) s.opened in
        let b = map-length (λ f. value (valuation x.values).whole f.region) x.after.opened in
        let d = x.fewer in omega (arith, a, b, d)

    pub closes-more :
        Rest → ClosesAll p heap V part W ks vs s held first more next n (suc m) ts trees
    closes-more y =
        let pp = p.program in
        let ns = x.region.owned.region.number ∷ [] in
        let ms = regions_of (valuation x.values) x.after.opened in
        let on = settled-states pp V x.by.U y.by.U part y.by.opened y.by.closed y.by.made
        y.by.settles in
        let same = join-assoc more x.made y.made in
        record {
          closed = x.region ∷ y.closed;
          made = x.made ++ y.made;
          values = y.values;
          after = y.after;
          children = y.children;
          goes = y.goes;
          left = y.left;
          by =
              settles-for pp V W part held y.left (regions_of (valuation vs) s.opened) (ns ++ ms)
              (λ k a. elim (x.or k a) [ inl e ↦ inl e | inr b ↦ inr b ]) same-count
              (settles-again pp V W part held x.left y.left ns ms x.by y.by);
          js = y.js;
          later =
              later-trans ks x.js y.js (valuation vs) (valuation x.values) (valuation y.values) s
              x.after y.after x.later y.later;
          none_open = y.none_open;
          next_is = y.next_is;
          numbered =
              subst (λ os. Numbered next os y.next_is) (sym (map-join owner_of x.made y.made))
              (numbered-join next x.next_is y.next_is (map owner_of x.made) (map owner_of y.made)
              x.numbered y.numbered);
          known =
              subst (λ rs. Closes p heap V part y.by.U y.js y.values y.after y.left
              (renewed y.closed first1 ++ rs) y.next_is) (sym same) y.known;
          numbers = y.numbers ∙ put.1;
          were_there = (
            there x.region.owned.region.number x.is_open,
            all-more (λ r. Among r.owned.region.number (numbers_in first1))
                (λ r. Among r.owned.region.number (numbers_in first))
                (λ r a. subst (Among r.owned.region.number) put.1 a) y.closed y.were_there,
          );
          closed_are =
              ap (λ os. os ++ y.by.closed) x.closed_are
              ∙ ap (λ os. owner_of x.region ∷ os) y.closed_are;
          made_are =
              ap (λ os. os ++ y.by.made) x.made_are
              ∙ ap (λ os. map owner_of x.made ++ os) y.made_are
              ∙ sym (map-join owner_of x.made y.made);
          owned = (owned-on pp x.by.U y.by.U on x.region x.owned, y.owned);
          owned_made =
              all-both (OwnedSo pp y.by.U) x.made y.made
              (all-owned-on pp x.by.U y.by.U on x.made x.owned_made) y.owned_made;
          walks = λ seating enter w.
              let at = λ (rs : List TrackedRegion). walks_into seating enter pp x.children
              (goals_of x.after (closes n m ts))
              (record w { values = x.values; next = x.next_is; regions = rs }) in
              elim (x.walks seating enter w) [
                | inl wide ↦ inl wide
                | inr on ↦
                    let here = on ∙ ap at regions-are in
                    elim (y.walks seating enter w) [
                      | inl wide ↦ inl (here ∙ wide)
                      | inr there ↦ inr (here ∙ there
                          ∙ ap (λ rs. walks_into seating enter pp y.children (goals_of y.after ts)
                          (record w {
                            values = y.values;
                            next = y.next_is;
                            regions = renewed y.closed first1 ++ rs;
                          })) (sym same))
                    ]
              ];
        }

    pub wide-more :
        AllWide p heap V part x.values x.after (first1 ++ more1) x.next_is n m ts x.children →
        AllWide p heap V part vs s (first ++ more) next n (suc m) ts trees
    wide-more wide seating enter w =
        let at = λ (rs : List TrackedRegion). walks_into seating enter p.program x.children
        (goals_of x.after (closes n m ts))
        (record w { values = x.values; next = x.next_is; regions = rs }) in
        elim (x.walks seating enter w) [
          | inl here ↦ here
          | inr on ↦ on ∙ ap at regions-are ∙ wide seating enter w
        ]

-- ---- all

pub closes-all : (p : Checked) → IsWellFormed p.program → TakenLaw p → ClosesAllLaw p
closes-all p wf law heap V part zero W ks vs s held first more next n ts trees size goes there c =
    inr (closes-none p heap V part W ks vs s held first more next n ts trees c
    (no-length s.opened size) goes)
closes-all p wf law heap V part (suc m) W ks vs s held first more next n ts trees size goes there
    c =
    elim (closes-one p wf law heap V part W ks vs s held (first ++ more) next n (closes n m ts) trees
    goes c) [
      | inl wide ↦ inl wide
      | inr x ↦
          let d = x.fewer in
          elim (closes-all p wf law heap V part m x.by.U x.js x.values x.after x.left
          (with_region x.region first) (more ++ x.made) x.next_is n ts x.children
          (omega (arith, size, d)) x.goes
          (there-next p heap V part W ks vs s held first more next n ts trees c m there x)
          (closes-next p heap V part W ks vs s held first more next n ts trees c m there x)) [
            | inl wide ↦ inl
                (wide-more p heap V part W ks vs s held first more next n ts trees c m there x wide)
            | inr y ↦ inr
                (closes-more p heap V part W ks vs s held first more next n ts trees c m there x y)
          ]
    ]
