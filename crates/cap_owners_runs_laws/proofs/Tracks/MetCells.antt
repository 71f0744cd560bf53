-- What main requires is drawn out of the heap, and met by what the start found on its way.
use Rattle.std.proofs.Common.{◌≡◌, ℕ, ℤ, pos, Bool, true, false, if◌then◌else◌, List, [], ◌++◌, Option, Some, None, refl, sym, ap, ◌∙◌, subst, arith}
use Rattle.std.specs.Prelude.{slice_get, int_lt}
use Rattle.std.specs.FinMap.{get, remove}
use Rattle.cap_lin.specs.Linear.{Linear, same_number}
use Rattle.cap_lin.specs.Values.{Valuation, value}
use Rattle.cap_syntax.specs.declared.place.Place.{Place}
use Rattle.cap_prog.specs.declared.assertion.Comp.{Comp}
use Rattle.cap_prog.specs.declared.assertion.Slot.{Slot}
use Rattle.cap_prog.specs.declared.assertion.Slot.TheVariants.{Any, Is}
use Rattle.cap_prog.specs.Program.{compare, choose, fact, atom, cell, Items, none, item, PlainProgram}
use Rattle.cap_goal_spec.specs.Terms.{lone_variable}
use Rattle.cap_goal_spec.specs.Environments.{is_determined, settled, read_name, reading}
use Rattle.cap_machine_accounts.specs.Parts.{Part, guard_at, without_cell}
use Rattle.cap_machine_accounts.specs.Assertions.{NameValue, a_number, a_fraction, Takes, TakesAll}
use Rattle.cap_machine_accounts.specs.Safety.{whole_part}
use Rattle.cap_account_resources.specs.Parts.{no_regions}
use Rattle.cap_account_resources.proofs.Heaps.{removed}
use Rattle.cap_account_resources.proofs.Lists.{some-same, none-some, join-nil, join-assoc}
use Rattle.cap_account_resources.proofs.Marks.{joins-law}
use Rattle.cap_account_resources.proofs.Stocks.{cell_stock, both, same-stock, inside-same, inside-is}
use Rattle.cap_account_assertions.proofs.Asserted.{DrawsAll}
use Rattle.cap_account.proofs.Stocked.{part_stock}
use Rattle.cap_owners_spec.specs.Traced.{Traced, traced, number_in, number_of}
use Rattle.cap_owners_spec.specs.Start.{Meeting, known_number, known_holds, names_cell, meets_slot, meets_cell, meets_if, meets_item, meets_all}
use Rattle.cap_owners_walks_laws.proofs.Fills.Drawn.{slot_met, items_met, items_told}
use Rattle.cap_owners_laws.specs.Owned.{names_of, AsksForCells}
use Rattle.cap_owners_walks_laws.proofs.Values.Numbers.{was-traced, traced-same}
use Rattle.cap_owners_laws.proofs.Meetings.{On, Agrees, Fits, Extends, Meets, Result, known-number, item-met, all-met}

-- what comes to something, of which this holds
on-traced : {A : Type 0} (P : A → Type 0) (o : Traced A) (x : A) → o ≡ traced x → On P o → P x
on-traced P o x e h = subst (On P) e h

-- by values with which the later meeting agrees, the earlier one does
agrees-before : (m m' : Meeting) (v : Valuation) → Extends m m' → Agrees m' v → Agrees m v
agrees-before m m' v e h = λ x b. h x (e.bound x b) ∙ ap number_of (e.same x b)

-- ---- a slot

-- it is met by the next value of `_`, or by a name
record SlotMet (x : Slot) (z : ℤ) (m m' : Meeting) : Type 0 where
  wildcards : m'.fill.wildcards ≡ m.fill.wildcards ++ slot_met x z
  facts : m'.fill.facts ≡ m.fill.facts

slot-none :
    (t : Linear) (z : ℤ) (m m' : Meeting) → m'.fill.wildcards ≡ m.fill.wildcards →
    m'.fill.facts ≡ m.fill.facts → SlotMet (Is t) z m m'
slot-none t z m m' e f =
    record { wildcards = e ∙ sym (join-nil m.fill.wildcards); facts = f }

name-met :
    (t : Linear) (z : ℤ) (y : ℕ) (o : Option NameValue) (m m' : Meeting) →
    names_cell o y z m ≡ traced (Some m') → SlotMet (Is t) z m m'
name-met t z y None m m' e = absurd (cc)
name-met t z y (Some (a_fraction n d)) m m' e = absurd (cc)
name-met t z y (Some (a_number w)) m m' e =
    let same = some-same _ m' (traced-same _ (Some m') e) in
    slot-none t z m m' (ap (λ (x : Meeting). x.fill.wildcards) (sym same))
    (ap (λ (x : Meeting). x.fill.facts) (sym same))

if-same :
    (b : Bool) (m m' : Meeting) → (if b then Some m else None) ≡ Some m' → m ≡ m'
if-same true m m' e = some-same m m' e
if-same false m m' e = absurd (none-some e)

slot-met :
    (x : Slot) (z : ℤ) (m m' : Meeting) → meets_slot (reading m.env x) z m ≡ traced (Some m') →
    SlotMet x z m m'
slot-met Any z m m' e =
    let same = some-same _ m' (traced-same _ (Some m') e) in
    record {
      wildcards = ap (λ (x : Meeting). x.fill.wildcards) (sym same);
      facts = ap (λ (x : Meeting). x.fill.facts) (sym same);
    }
slot-met (Is t) z m m' e = by (is_determined m.env t) (lone_variable t) e
  where
    by :
        (b : Bool) (o : Option ℕ) →
        meets_slot (if b then settled t else read_name o) z m ≡ traced (Some m') →
        SlotMet (Is t) z m m'
    by true o k =
        let y = was-traced (number_in m.fill.names t)
        (λ y. traced (if same_number y z then Some m else None)) (Some m') k in
        let same = if-same (same_number y.0 z) m m'
        (traced-same (if same_number y.0 z then Some m else None) (Some m') y.2) in
        slot-none t z m m' (ap (λ (x : Meeting). x.fill.wildcards) (sym same))
        (ap (λ (x : Meeting). x.fill.facts) (sym same))
    by false None k = absurd (cc)
    by false (Some y) k = name-met t z y (slice_get m.fill.names y) m m' k

-- ---- items

module _ (p : PlainProgram) (v : Valuation) where
  -- the items are drawn out of the heap of the first meeting, and leave that of the second
  pub record AreDrawn (xs : Items) (m m' : Meeting) : Type 0 where
    pub draws :
        DrawsAll p no_regions v xs (part_stock (whole_part m.heap))
        (part_stock (whole_part m'.heap))
    pub wildcards :
        m'.fill.wildcards
        ≡ m.fill.wildcards
        ++ items_met p no_regions v xs (part_stock (whole_part m.heap))
        (part_stock (whole_part m'.heap)) draws
    pub told :
        items_told p no_regions v xs (part_stock (whole_part m.heap))
        (part_stock (whole_part m'.heap)) draws
        ≡ []
    pub facts : m'.fill.facts ≡ m.fill.facts

  none-drawn : (m m' : Meeting) → m ≡ m' → AreDrawn none m m'
  none-drawn m m' e =
      subst (AreDrawn none m) e (record {
        draws = inside-same p (part_stock (whole_part m.heap));
        wildcards = sym (join-nil m.fill.wildcards);
        told = refl;
        facts = refl;
      })

  compare-drawn :
      (c : Comp) (more : Items) (m m1 m' : Meeting) → m ≡ m1 →
      Takes p [] v (compare c) (whole_part m.heap) (whole_part m1.heap) → AreDrawn more m1 m' →
      AreDrawn (item (compare c) more) m m'
  compare-drawn c more m m1 m' same t r = record {
    draws = (
      part_stock (whole_part m1.heap),
      (
        t.0,
        inside-is p (part_stock (whole_part m1.heap)) (part_stock (whole_part m.heap))
            (ap part_stock t.1),
      ),
      r.draws,
    );
    wildcards =
        r.wildcards
        ∙ ap (λ (x : Meeting). x.fill.wildcards
        ++ items_met p no_regions v more (part_stock (whole_part m1.heap))
        (part_stock (whole_part m'.heap)) r.draws) (sym same);
    told = r.told;
    facts = r.facts ∙ ap (λ (x : Meeting). x.fill.facts) (sym same);
  }

  cell-back :
      (q : Part) (a z : ℤ) → get q.cells a ≡ Some z →
      both p (cell_stock a z) (part_stock (without_cell q a)) ≡ part_stock q
  cell-back q a z e =
      same-stock (both p (cell_stock a z) (part_stock (without_cell q a))) (part_stock q)
      (λ b y. let m = removed q.cells a z b y e in omega (arith, m))
      (λ n. (joins-law p).zero_left (Some (guard_at q n)))

  -- the slot is met by the number of the cell that is drawn
  cell-drawn :
      (place : Place) (a : Linear) (x : Slot) (more : Items) (m m0 m1 m' : Meeting) (z : ℤ) →
      get m.heap (value v.whole a) ≡ Some z → m0.fill ≡ m.fill → SlotMet x z m0 m1 →
      Takes p [] v (cell place a x) (whole_part m.heap) (whole_part m1.heap) →
      AreDrawn more m1 m' → AreDrawn (item (cell place a x) more) m m'
  cell-drawn place a x more m m0 m1 m' z there same s t r =
      let own = t.0 in
      let at = value v.whole a in
      let number : own.number ≡ z = some-same own.number z (sym own.is_cell ∙ there) in
      let behind = items_met p no_regions v more (part_stock (whole_part m1.heap))
      (part_stock (whole_part m'.heap)) r.draws in
      record {
        draws = (
          part_stock (whole_part m1.heap),
          (
            own.number,
            own.positive,
            own.content_is,
            inside-is p (both p (cell_stock at own.number) (part_stock (whole_part m1.heap)))
                (part_stock (whole_part m.heap))
                (ap (both p (cell_stock at own.number)) (ap part_stock t.1)
                ∙ cell-back (whole_part m.heap) at own.number own.is_cell),
          ),
          r.draws,
        );
        wildcards =
            r.wildcards
            ∙ ap (λ ws. ws ++ behind)
            (s.wildcards
            ∙ (λ i. (same i).wildcards ++ slot_met x (sym number i)))
            ∙ sym (join-assoc m.fill.wildcards (slot_met x own.number) behind);
        told = r.told;
        facts = r.facts ∙ s.facts ∙ ap (λ f. f.facts) same;
      }

  -- the same, by the address and the number that the start found
  cell-found :
      (place : Place) (a : Linear) (x : Slot) (more : Items) (m m1 m' : Meeting) (n z : ℤ) →
      value v.whole a ≡ n → get m.heap n ≡ Some z →
      meets_slot (reading m.env x) z (record m { heap = remove m.heap n }) ≡ traced (Some m1) →
      Takes p [] v (cell place a x) (whole_part m.heap) (whole_part m1.heap) →
      AreDrawn more m1 m' → AreDrawn (item (cell place a x) more) m m'
  cell-found place a x more m m1 m' n z at there k t r =
      let m0 = record m { heap = remove m.heap n } in
      cell-drawn place a x more m m0 m1 m' z (ap (get m.heap) at ∙ there) refl
      (slot-met x z m0 m1 k) t r

  -- a cell that is there
  cell-there :
      (n : ℤ) (o : Option ℤ) (f : ℤ → Traced (Option Meeting)) (m' : Meeting) →
      meets_cell n o f ≡ traced (Some m') → (z : ℤ) × (o ≡ Some z) × (f z ≡ traced (Some m'))
  cell-there n None f m' e = absurd (cc)
  cell-there n (Some z) f m' e = by (int_lt (pos 0) n) e
    where
      by :
          (b : Bool) → (if b then f z else traced None) ≡ traced (Some m') →
          (y : ℤ) × (Some z ≡ Some y) × (f y ≡ traced (Some m'))
      by true k = (z, refl, k)
      by false k = absurd (cc)

  -- one item, and then the others
  went-on :
      (xs : Items) (o : Option Meeting) (m' : Meeting) →
      meets_if o (meets_all xs) ≡ traced (Some m') →
      (m1 : Meeting) × (o ≡ Some m1) × (meets_all xs m1 ≡ traced (Some m'))
  went-on xs None m' e = absurd (cc)
  went-on xs (Some m1) m' e = (m1, refl, e)

  pub items-drawn :
      (xs : Items) (known : List ℕ) → AsksForCells known xs → (m m' : Meeting) → Fits m →
      meets_all xs m ≡ traced (Some m') → Agrees m' v → AreDrawn xs m m'
  items-drawn none known asks m m' fits e h =
      none-drawn m m' (some-same m m' (traced-same (Some m) (Some m') e))
  items-drawn (item (compare c) more) known asks m m' fits e h =
      let i = compare c in
      let o = was-traced (meets_item i m) (λ o. meets_if o (meets_all more)) (Some m') e in
      let w = went-on more o.0 m' o.2 in
      let here = o.1 ∙ ap traced w.1 in
      let one : Meets (λ v q r. Takes p [] v i q r) m w.0 =
      on-traced (Result (λ v q r. Takes p [] v i q r) m) (meets_item i m) (Some w.0) here
      (item-met p i m fits) in
      let rest = on-traced (Result (λ u q r. TakesAll p [] u more q r) w.0) (meets_all more w.0)
      (Some m') w.2
      (all-met p more w.0 one.fits) in
      let before = agrees-before w.0 m' v rest.extends h in
      let b = was-traced (known_holds m c) (λ b. traced (if b then Some m else None)) (Some w.0)
      here
      in
      let same = if-same b.0 m w.0 (traced-same (if b.0 then Some m else None) (Some w.0) b.2) in
      compare-drawn c more m w.0 m' same (one.sound v before)
      (items-drawn more known asks.2 w.0 m' one.fits w.2 h)
  items-drawn (item (cell place a x) more) known asks m m' fits e h =
      let i = cell place a x in
      let o = was-traced (meets_item i m) (λ o. meets_if o (meets_all more)) (Some m') e in
      let w = went-on more o.0 m' o.2 in
      let here = o.1 ∙ ap traced w.1 in
      let one : Meets (λ v q r. Takes p [] v i q r) m w.0 =
      on-traced (Result (λ v q r. Takes p [] v i q r) m) (meets_item i m) (Some w.0) here
      (item-met p i m fits) in
      let rest = on-traced (Result (λ u q r. TakesAll p [] u more q r) w.0) (meets_all more w.0)
      (Some m') w.2
      (all-met p more w.0 one.fits) in
      let before = agrees-before w.0 m' v rest.extends h in
      let n = was-traced (known_number m a)
      (λ n. meets_cell n (get m.heap n)
      (λ z. meets_slot (reading m.env x) z (record m { heap = remove m.heap n }))) (Some w.0) here
      in
      let at : value v.whole a ≡ n.0 =
      on-traced _ (known_number m a) n.0 n.1 (known-number m a) v
      (agrees-before m w.0 v one.extends before) in
      let z = cell-there n.0 (get m.heap n.0) _ w.0 n.2 in
      cell-found place a x more m w.0 m' n.0 z.0 at z.1 z.2 (one.sound v before)
      (items-drawn more (names_of x ++ known) asks.2 w.0 m' one.fits w.2 h)
  items-drawn (item (choose c x y) more) known asks m m' fits e h = absurd asks
  items-drawn (item (fact place r k args x) more) known asks m m' fits e h = absurd asks
  items-drawn (item (atom place r k j asked) more) known asks m m' fits e h = absurd asks
