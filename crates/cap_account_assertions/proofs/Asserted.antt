-- Assertions over stocks: what an item draws out of what is held, and what contracts, invariants
-- and interpretations own.
use Rattle.std.proofs.Common.{◌≡◌, ◌⊎◌, ℕ, suc, ℤ, pos, ◌<ℤ◌, List, ◌∷◌, length, Option, Some, refl, inl, inr}
use Rattle.std.specs.Prelude.{slice_get}
use Rattle.std.specs.List.{AllByRecursion}
use Rattle.cap_lin.specs.Values.{Valuation, value}
use Rattle.cap_galg.specs.Elements.{Element}
use Rattle.cap_galg.specs.Algebras.{IsElement, atom_algebra, atom_element}
use Rattle.cap_prog.specs.declared.assertion.Asked.{Asked}
use Rattle.cap_prog.specs.declared.assertion.Slot.{Slot}
use Rattle.cap_prog.specs.Program.{PlainItem, compare, choose, fact, atom, cell, Items, none, item, append_items, PlainCase, PlainAssertion, PlainRegionType, PlainFunction, PlainProgram}
use Rattle.cap_prog.specs.Scopes.{fixed_start, result_name}
use Rattle.cap_machine_accounts.specs.Parts.{algebra_of}
use Rattle.cap_machine_accounts.specs.Assertions.{NameValue, CompHolds, SlotIs, SlotsAre, AreWhole, AreNamed}
use Rattle.cap_account_resources.specs.Parts.{known_as, Table}
use Rattle.cap_account_resources.proofs.Marks.{Mark}
use Rattle.cap_account_resources.proofs.Covering.{mark}
use Rattle.cap_account_resources.proofs.Stocks.{Stock, no_stock, cell_stock, guard_stock, both, Inside, none-right, inside-same, inside-trans, inside-is}
use Rattle.cap_account_resources.proofs.Tables.{KeepsStates}
use Rattle.cap_account_resources.proofs.Owners.{Owner}
use Rattle.cap_account_states.proofs.Wants.{Wants}

-- ---- definitions

-- the guards that are asked of atom g.0 of region type k
pub record WantsAtom (p : PlainProgram) (v : Valuation) (k : ℕ) (g : ℕ × Asked)
    (m : Option Mark) : Type 0 where
  pub element : Element
  pub wanted : Wants v g.1 element
  pub of_atom : IsElement (atom_algebra (algebra_of p k) g.0) element
  pub is_mark : m ≡ mark k (atom_element (algebra_of p k) g.0 element)

-- the region of this number is of this type, with these arguments and this state
abbrev pub TellsRegion : Table → Valuation → ℤ → ℕ → List Slot → Slot → Type 0
TellsRegion T v n k args s =
    (zs : List ℤ) × (z : ℤ)
    × (T n ≡ Some (known_as k zs (Some z)))
    × SlotsAre v args zs
    × SlotIs v s z

-- an item, drawn out of what is held, leaves this; and items, one after the other. Comparisons and
-- facts draw nothing, and of a conditional one side is drawn
abbrev mutual
  pub Draws : PlainProgram → Table → Valuation → PlainItem → Stock → Stock → Type 0
  Draws p T v (compare c) q r = CompHolds v c × Inside p r q
  Draws p T v (choose c a b) q r =
      (CompHolds v c × DrawsAll p T v a q r) ⊎ ((¬ CompHolds v c) × DrawsAll p T v b q r)
  Draws p T v (fact place n k args s) q r =
      TellsRegion T v (v.whole n) k args s × Inside p r q
  Draws p T v (atom place n k i asked) q r =
      (m : Option Mark) × WantsAtom p v k (i, asked) m
      × Inside p (both p (guard_stock (v.whole n) m) r) q
  Draws p T v (cell place a s) q r =
      (z : ℤ)
      × (pos 0 <ℤ value v.whole a)
      × SlotIs v s z
      × Inside p (both p (cell_stock (value v.whole a) z) r) q

  pub DrawsAll : PlainProgram → Table → Valuation → Items → Stock → Stock → Type 0
  DrawsAll p T v none q r = Inside p r q
  DrawsAll p T v (item i more) q r =
      (m : Stock) × Draws p T v i q m × DrawsAll p T v more m r

-- what is held has what the items say, and perhaps more
abbrev pub Owns : PlainProgram → Table → Stock → Valuation → Items → Type 0
Owns p T q v items = (rest : Stock) × DrawsAll p T v items q rest

-- a region's part has what its type says at the state
pub record OwnsRegion (p : PlainProgram) (T : Table) (n : ℤ) (k : ℕ) (args : List ℤ) (b : ℤ)
    (q : Stock) : Type 0 where
  pub type : PlainRegionType
  pub is_type : slice_get p.regions k ≡ Some type
  pub arity : type.params ≡ suc (length args)
  pub number : ℕ
  pub case : PlainCase
  pub is_case : slice_get type.cases number ≡ Some case
  pub values : Valuation
  pub args_are : AreWhole values 0 (n ∷ args)
  pub state_is : value values.whole case.state ≡ b
  pub conditions : AllByRecursion (CompHolds values) case.when
  pub met : Owns p T q values case.items

-- the owner has the case of this number, at these values
abbrev pub OwnsCase : PlainProgram → Table → Owner → ℕ → Valuation → Type 0
OwnsCase p T r c a =
    (o : OwnsRegion p T r.number r.kind r.args r.state r.stock) × (o.number ≡ c) × (o.values ≡ a)

-- what is held has a function's `requires`, its `ensures`, an invariant by the store
pub record OwnsRequires (p : PlainProgram) (T : Table) (q : Stock) (f : PlainFunction)
    (args : List ℤ) (fixed : List NameValue) : Type 0 where
  pub values : Valuation
  pub args_are : AreWhole values 0 args
  pub fixed_are : AreNamed values (fixed_start f) fixed
  pub met : Owns p T q values f.requires

pub record OwnsEnsures (p : PlainProgram) (T : Table) (q : Stock) (f : PlainFunction)
    (args : List ℤ) (fixed : List NameValue) (result : ℤ) : Type 0 where
  pub values : Valuation
  pub args_are : AreWhole values 0 args
  pub fixed_are : AreNamed values (fixed_start f) fixed
  pub result_is : values.whole (result_name f) ≡ result
  pub met : Owns p T q values f.ensures.items

pub record OwnsInvariant (p : PlainProgram) (T : Table) (q : Stock) (f : PlainFunction)
    (store : List ℤ) (fixed : List NameValue) (i : PlainAssertion) : Type 0 where
  pub values : Valuation
  pub store_is : AreWhole values 0 store
  pub fixed_are : AreNamed values (fixed_start f) fixed
  pub met : Owns p T q values i.items

-- ---- laws

module _ (p : PlainProgram) where
  -- out of more, leaving less
  abbrev mutual
    pub draws-more :
        (T : Table) (v : Valuation) (i : PlainItem) (q q' r : Stock) → Inside p q q' →
        Draws p T v i q r → Draws p T v i q' r
    draws-more T v (compare c) q q' r le h = (h.0, inside-trans p r q q' h.1 le)
    draws-more T v (choose c x y) q q' r le h = elim h [
      | inl m ↦ inl (m.0, draws-all-more T v x q q' r r le (inside-same p r) m.1)
      | inr m ↦ inr (m.0, draws-all-more T v y q q' r r le (inside-same p r) m.1)
    ]
    draws-more T v (fact place n k args s) q q' r le h = (h.0, inside-trans p r q q' h.1 le)
    draws-more T v (atom place n k i asked) q q' r le h =
        (h.0, h.1, inside-trans p (both p (guard_stock (v.whole n) h.0) r) q q' h.2 le)
    draws-more T v (cell place a s) q q' r le h = (
      h.0,
      h.1,
      h.2,
      inside-trans p (both p (cell_stock (value v.whole a) h.0) r) q q' h.3 le,
    )

    pub draws-all-more :
        (T : Table) (v : Valuation) (xs : Items) (q q' r r' : Stock) → Inside p q q' →
        Inside p r' r → DrawsAll p T v xs q r → DrawsAll p T v xs q' r'
    draws-all-more T v none q q' r r' le less h =
        inside-trans p r' q q' (inside-trans p r' r q less h) le
    draws-all-more T v (item i more) q q' r r' le less h = (
      h.0,
      draws-more T v i q q' h.0 le h.1,
      draws-all-more T v more h.0 h.0 r r' (inside-same p h.0) less h.2,
    )

  abbrev pub draws-join :
      (T : Table) (v : Valuation) (xs ys : Items) (q m r : Stock) → DrawsAll p T v xs q m →
      DrawsAll p T v ys m r → DrawsAll p T v (append_items xs ys) q r
  draws-join T v none ys q m r h k = draws-all-more T v ys m q r r h (inside-same p r) k
  draws-join T v (item i xs) ys q m r h k = (h.0, h.1, draws-join T v xs ys h.0 m r h.2 k)

  abbrev pub draws-apart :
      (T : Table) (v : Valuation) (xs ys : Items) (q r : Stock) →
      DrawsAll p T v (append_items xs ys) q r →
      (m : Stock) × DrawsAll p T v xs q m × DrawsAll p T v ys m r
  draws-apart T v none ys q r h = (q, inside-same p q, h)
  draws-apart T v (item i xs) ys q r h =
      let k = draws-apart T v xs ys h.0 r h.2 in (k.0, (h.0, h.1, k.1), k.2)

  -- what is given and drawn with nothing left is owned
  abbrev pub owns-all :
      (T : Table) (v : Valuation) (xs : Items) (q : Stock) →
      DrawsAll p T v xs (both p q no_stock) no_stock → Owns p T q v xs
  owns-all T v xs q h = (
    no_stock,
    draws-all-more T v xs (both p q no_stock) q no_stock no_stock
        (inside-is p (both p q no_stock) q (none-right p q)) (inside-same p no_stock) h,
  )

  -- by a table that keeps each known state
  abbrev mutual
    pub draws-kept :
        (T U : Table) → KeepsStates T U → (v : Valuation) (i : PlainItem) (q r : Stock) →
        Draws p T v i q r → Draws p U v i q r
    draws-kept T U f v (compare c) q r h = h
    draws-kept T U f v (choose c x y) q r h = elim h [
      | inl m ↦ inl (m.0, draws-all-kept T U f v x q r m.1)
      | inr m ↦ inr (m.0, draws-all-kept T U f v y q r m.1)
    ]
    draws-kept T U f v (fact place n k args s) q r h = (
      (h.0.0, h.0.1, f (v.whole n) k h.0.0 h.0.1 h.0.2, h.0.3, h.0.4),
      h.1,
    )
    draws-kept T U f v (atom place n k i asked) q r h = h
    draws-kept T U f v (cell place a s) q r h = h

    pub draws-all-kept :
        (T U : Table) → KeepsStates T U → (v : Valuation) (xs : Items) (q r : Stock) →
        DrawsAll p T v xs q r → DrawsAll p U v xs q r
    draws-all-kept T U f v none q r h = h
    draws-all-kept T U f v (item i more) q r h =
        (h.0, draws-kept T U f v i q h.0 h.1, draws-all-kept T U f v more h.0 r h.2)

  -- a region's part, in its case and at its values
  abbrev pub case-kept :
      (T U : Table) → KeepsStates T U → (r : Owner) (c : ℕ) (a : Valuation) → OwnsCase p T r c a →
      OwnsCase p U r c a
  case-kept T U f r c a k =
      let h = k.0 in (
        record {
          type = h.type;
          is_type = h.is_type;
          arity = h.arity;
          number = h.number;
          case = h.case;
          is_case = h.is_case;
          values = h.values;
          args_are = h.args_are;
          state_is = h.state_is;
          conditions = h.conditions;
          met = (h.met.0, draws-all-kept T U f h.values h.case.items r.stock h.met.0 h.met.1);
        },
        k.1,
        k.2,
      )

  pub region-kept :
      (T U : Table) → KeepsStates T U → (n : ℤ) (k : ℕ) (args : List ℤ) (b : ℤ) (q : Stock) →
      OwnsRegion p T n k args b q → OwnsRegion p U n k args b q
  region-kept T U f n k args b q h =
      let r : Owner =
      record { number = n; kind = k; args = args; state = b; stock = q } in
      (case-kept T U f r h.number h.values (h, refl, refl)).0
