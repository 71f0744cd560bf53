-- What is drawn out of stocks is taken out of parts: assertions that a stock owns are met by a part
-- that has it.
use Rattle.cap_account_resources.proofs.Order.{same-or}
use Rattle.std.proofs.Common.{◌≡◌, ◌≢◌, inl, inr, ℕ, ℤ, Bool, true, false, List, [], ◌∷◌, Option, Some, None, refl, sym, ap, ◌∙◌, subst, arith}
use Rattle.std.specs.Prelude.{option_map, if◌then◌else◌}
use Rattle.std.specs.Ordering.{int_cmp}
use Rattle.std.specs.FinMap.{FinMap, get}
use Rattle.cap_lin.specs.Linear.{same_number}
use Rattle.cap_lin.specs.Values.{Valuation, value}
use Rattle.cap_prog.specs.declared.assertion.Slot.{Slot}
use Rattle.cap_prog.specs.Program.{PlainItem, compare, choose, fact, atom, cell, Items, none, item, PlainFunction, PlainProgram}
use Rattle.cap_machine_accounts.specs.Parts.{Guard, join, IsGuard, atom_guard, guards_changed, with_guard, Part, guard_at, without_cell, Region, region_at}
use Rattle.cap_machine_accounts.specs.Assertions.{NameValue, SlotIs, SlotsAre, IsStated, Takes, TakesAll, Sat, MeetsRequires, Met, IsInterpreted}
use Rattle.cap_machine_accounts.specs.Accounts.{OwnedRegion, table_of}
use Rattle.cap_account_resources.specs.Parts.{Known, known_as, Table}
use Rattle.cap_account_resources.proofs.Lists.{some-same, none-some}
use Rattle.cap_account_resources.proofs.Heaps.{there-in, removed, insert-same, insert-other, remove-same, remove-other}
use Rattle.cap_account_resources.proofs.Marks.{Mark, joins-law}
use Rattle.cap_account_resources.proofs.Covering.{join_marks}
use Rattle.cap_account_resources.proofs.Interference.{met-joins, met-guard}
use Rattle.cap_account_resources.proofs.Room.{alone-here, alone-away}
use Rattle.cap_account_resources.proofs.Stocks.{Stock, cell_stock, guard_stock, both, Inside, stock-laws, same-stock, inside-first, inside-trans}
use Rattle.cap_account_states.proofs.Wants.{wants-asked}
use Rattle.cap_account_assertions.proofs.Asserted.{TellsRegion, Draws, DrawsAll, Owns, OwnsRegion, OwnsRequires, OwnsEnsures}
use Rattle.cap_account.proofs.Stocked.{part_stock, owner_of, owners, owner_at, known_by, table_by}
use Rattle.cap_account.proofs.Parts.{plain, AreGuards}

-- ---- guards of a part, once one is changed

pub changed-here :
    (gs : FinMap int_cmp Guard) (n k : ℤ) (m : Mark) → k ≡ n → get (guards_changed gs n m) k ≡ m
changed-here gs n k None e = remove-same gs n k e
changed-here gs n k (Some g) e = insert-same gs n g k e

pub changed-away :
    (gs : FinMap int_cmp Guard) (n k : ℤ) (m : Mark) → k ≢ n →
    get (guards_changed gs n m) k ≡ get gs k
changed-away gs n k None ne = remove-other gs n k ne
changed-away gs n k (Some g) ne = insert-other gs n g k ne

-- ---- a cell and a guard, drawn out of a part

module _ (p : PlainProgram) where
  -- all that is beside the first
  beside :
      (x r q : Stock) → Inside p (both p x r) q →
      (s : Stock) × (both p x s ≡ q) × Inside p r s
  beside x r q h =
      (both p r h.0, sym ((stock-laws p).assoc x r h.0) ∙ h.1, inside-first p r h.0)

  cell-drawn :
      (a z : ℤ) (s : Stock) (q : Part) → both p (cell_stock a z) s ≡ part_stock q →
      (get q.cells a ≡ Some z) × (s ≡ part_stock (without_cell q a))
  cell-drawn a z s q e =
      let at = λ (b y : ℤ). ap (λ (t : Stock). t.cells b y) e in
      let there = there-in q.cells a z (λ b y. let k = at b y in omega (arith, k)) in (
        there,
        same-stock s (part_stock (without_cell q a))
            (λ b y. let k = at b y in let m = removed q.cells a z b y there in omega (arith, k, m))
            (λ n. sym ((joins-law p).zero_left (s.guards n)) ∙ ap (λ (t : Stock). t.guards n) e),
      )

  -- what meets with a guard to one
  rest-met :
      (g m : Mark) (o : Option Mark) → join_marks p (Some g) o ≡ Some m → IsGuard p m →
      (o ≡ Some (plain o)) × (join g (plain o) ≡ Some m) × IsGuard p (plain o)
  rest-met g m None e h = absurd (none-some e)
  rest-met g m (Some x) e h = (refl, met-joins p g x m e, met-guard p g x m e h)

  record GuardDrawn (g : Mark) (n : ℤ) (s : Stock) (q : Part) : Type 0 where
    rest : Mark
    joined : join g rest ≡ Some (guard_at q n)
    is_guard : IsGuard p rest
    is_rest : s ≡ part_stock (with_guard q n rest)
    guards : AreGuards p (with_guard q n rest)

  guard-drawn :
      (g : Mark) (n : ℤ) (s : Stock) (q : Part) →
      both p (guard_stock n (Some g)) s ≡ part_stock q → AreGuards p q → GuardDrawn g n s q
  guard-drawn g n s q e fit =
      let at = λ (k : ℤ). ap (λ (t : Stock). t.guards k) e in
      let m = rest-met g (guard_at q n) (s.guards n)
      (ap (λ x. join_marks p x (s.guards n)) (sym (alone-here n (Some g) n refl)) ∙ at n) (fit n) in
      let rest = plain (s.guards n) in
      record {
        rest = rest;
        joined = m.1;
        is_guard = m.2;
        is_rest = same-stock s (part_stock (with_guard q n rest))
            (λ a z. let k = ap (λ (t : Stock). t.cells a z) e in omega (arith, k)) (λ k.
            elim (same-or k n) [
              | inl here ↦
                  ap s.guards here ∙ m.0 ∙ ap Some (sym (changed-here q.guards n k rest here))
              | inr away ↦
                  sym ((joins-law p).zero_left (s.guards k))
                  ∙ ap (λ x. join_marks p x (s.guards k))
                  (sym (alone-away n (Some g) k (λ c. away (sym c))))
                  ∙ at k
                  ∙ ap Some (sym (changed-away q.guards n k rest away))
            ]);
        guards = λ k. elim (same-or k n) [
          | inl here ↦ subst (IsGuard p) (sym (changed-here q.guards n k rest here)) m.2
          | inr away ↦ subst (IsGuard p) (sym (changed-away q.guards n k rest away)) (fit k)
        ];
      }

-- ---- a region of the table

abbrev pub tells : Region → Known
tells r = known_as r.kind r.args (Some r.state)

pub region-there :
    (rs : List OwnedRegion) (n : ℤ) (e : Known) → table_by (owners rs) n ≡ Some e →
    (r : Region) × (region_at (table_of rs) n ≡ Some r) × (tells r ≡ e)
region-there [] n e h = absurd (none-some h)
region-there (r ∷ rs) n e h =
    by (same_number r.region.number n) h (λ k. region-there rs n e k)
  where
    by :
        (b : Bool) →
        option_map known_by (if b then Some (owner_of r) else owner_at (owners rs) n) ≡ Some e →
        (table_by (owners rs) n ≡ Some e →
        (q : Region) × (region_at (table_of rs) n ≡ Some q) × (tells q ≡ e)) →
        (q : Region)
        × ((if b then Some r.region else region_at (table_of rs) n) ≡ Some q)
        × (tells q ≡ e)
    by true h f = (r.region, refl, some-same (tells r.region) e h)
    by false h f = f h

-- ---- items

-- a part that has so much, of guards that are such of their types
pub record Has (p : PlainProgram) (q : Part) (s : Stock) : Type 0 where
  pub inside : Inside p s (part_stock q)
  pub guards : AreGuards p q

-- what is left of a part has so much
pub record Leaves (p : PlainProgram) (s : Stock) (X : Part → Type 0) : Type 0 where
  pub part : Part
  pub taken : X part
  pub has : Has p part s

module _ (p : PlainProgram) where
  also :
      (s : Stock) (X Y : Part → Type 0) → ((q : Part) → X q → Y q) → Leaves p s X → Leaves p s Y
  also s X Y f l = record { part = l.part; taken = f l.part l.taken; has = l.has }

  has-less : (q : Part) (s t : Stock) → Inside p t s → Has p q s → Has p q t
  has-less q s t le h =
      record { inside = inside-trans p t s (part_stock q) le h.inside; guards = h.guards }

  module _ (rs : List OwnedRegion) where
    abbrev T : Table
    T = table_by (owners rs)

    fact-told :
        (v : Valuation) (n k : ℕ) (args : List Slot) (s : Slot) →
        TellsRegion T v (v.whole n) k args s → IsStated (table_of rs) v n k args s
    fact-told v n k args s h =
        let r = region-there rs (v.whole n) (known_as k h.0 (Some h.1)) h.2 in
        record {
          region = r.0;
          is_region = r.1;
          of_kind = ap (λ (e : Known). e.kind) r.2;
          args_are = subst (SlotsAre v args) (sym (ap (λ (e : Known). e.args) r.2)) h.3;
          state_is =
              subst (SlotIs v s)
              (sym (some-same r.0.state h.1 (ap (λ (e : Known). e.state) r.2))) h.4;
        }

    mutual
      item-taken :
          (v : Valuation) (i : PlainItem) (s t : Stock) (q : Part) → Has p q s →
          Draws p T v i s t → Leaves p t (Takes p (table_of rs) v i q)
      item-taken v (compare c) s t q has h =
          record { part = q; taken = (h.0, refl); has = has-less q s t h.1 has }
      item-taken v (choose c x y) s t q has h = elim h [
        | inl m ↦
            also t (TakesAll p (table_of rs) v x q) (Takes p (table_of rs) v (choose c x y) q)
            (λ r k. inl (m.0, k)) (all-taken v x s t q has m.1)
        | inr m ↦
            also t (TakesAll p (table_of rs) v y q) (Takes p (table_of rs) v (choose c x y) q)
            (λ r k. inr (m.0, k)) (all-taken v y s t q has m.1)
      ]
      item-taken v (fact place n k args c) s t q has h = record {
        part = q;
        taken = (fact-told v n k args c h.0, refl);
        has = has-less q s t h.1 has;
      }
      item-taken v (atom place n k i asked) s t q has h =
          let z = v.whole n in
          let own = h.1 in
          let b = beside p (guard_stock z h.0) t (part_stock q)
          (inside-trans p (both p (guard_stock z h.0) t) s (part_stock q) h.2 has.inside) in
          let g = guard-drawn p (atom_guard p k i own.element) z b.0 q
          (subst (λ m. both p (guard_stock z m) b.0 ≡ part_stock q) own.is_mark b.1) has.guards in
          record {
            part = with_guard q z g.rest;
            taken = (
              g.rest,
              record {
                element = own.element;
                is_asked = wants-asked v asked own.element own.wanted;
                of_atom = own.of_atom;
                rest_guard = g.is_guard;
                joined = g.joined;
              },
              refl,
            );
            has = record { inside = subst (Inside p t) g.is_rest b.2; guards = g.guards };
          }
      item-taken v (cell place a c) s t q has h =
          let x = value v.whole a in
          let b = beside p (cell_stock x h.0) t (part_stock q)
          (inside-trans p (both p (cell_stock x h.0) t) s (part_stock q) h.3 has.inside) in
          let there = cell-drawn p x h.0 b.0 q b.1 in
          record {
            part = without_cell q x;
            taken = (
              record { number = h.0; positive = h.1; is_cell = there.0; content_is = h.2 },
              refl,
            );
            has = record { inside = subst (Inside p t) there.1 b.2; guards = has.guards };
          }

      all-taken :
          (v : Valuation) (xs : Items) (s t : Stock) (q : Part) → Has p q s →
          DrawsAll p T v xs s t → Leaves p t (TakesAll p (table_of rs) v xs q)
      all-taken v none s t q has h =
          record { part = q; taken = refl; has = has-less q s t h has }
      all-taken v (item i more) s t q has h =
          let one = item-taken v i s h.0 q has h.1 in
          let rest = all-taken v more h.0 t one.part one.has h.2 in
          record { part = rest.part; taken = (one.part, one.taken, rest.taken); has = rest.has }

    pub owns-met :
        (v : Valuation) (xs : Items) (s : Stock) (q : Part) → Has p q s → Owns p T s v xs →
        Sat p (table_of rs) q v xs
    owns-met v xs s q has h = let l = all-taken v xs s h.0 q has h.1 in (l.part, l.taken)

    -- ---- contracts and interpretations

    pub requires-met :
        (f : PlainFunction) (s : Stock) (q : Part) (args : List ℤ) (fixed : List NameValue) →
        Has p q s → OwnsRequires p T s f args fixed →
        MeetsRequires p (table_of rs) q f args fixed
    requires-met f s q args fixed has h = record {
      values = h.values;
      args_are = h.args_are;
      fixed_are = h.fixed_are;
      met = owns-met h.values f.requires s q has h.met;
    }

    pub ensures-met :
        (f : PlainFunction) (s : Stock) (q : Part) (args : List ℤ) (fixed : List NameValue)
        (result : ℤ) → Has p q s → OwnsEnsures p T s f args fixed result →
        Met p (table_of rs) q f args fixed result
    ensures-met f s q args fixed result has h = record {
      values = h.values;
      args_are = h.args_are;
      fixed_are = h.fixed_are;
      result_is = h.result_is;
      met = owns-met h.values f.ensures.items s q has h.met;
    }

    pub region-met :
        (r : Region) (s : Stock) (q : Part) → Has p q s →
        OwnsRegion p T r.number r.kind r.args r.state s → IsInterpreted p (table_of rs) r q
    region-met r s q has h = record {
      type = h.type;
      is_type = h.is_type;
      arity = h.arity;
      number = h.number;
      case = h.case;
      is_case = h.is_case;
      values = h.values;
      args_are = h.args_are;
      state_is = h.state_is;
      conditions = h.conditions;
      met = owns-met h.values h.case.items s q has h.met;
    }
