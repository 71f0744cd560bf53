-- What assertions say of a table of regions, a part, and values of their names.
use Rattle.std.specs.Prelude.{◌≡◌, ◌⊎◌, ℕ, suc, ℤ, pos, ◌*ℤ◌, ◌<ℤ◌, List, [], ◌∷◌, length, slice_get, Option, Some}
use Rattle.std.specs.List.{AllByRecursion}
use Rattle.std.specs.FinMap.{get}
use Rattle.cap_lin.specs.Linear.{Linear}
use Rattle.cap_lin.specs.Values.{Valuation, denominator, value, amount}
use Rattle.cap_lin.specs.Solves.{Compares}
use Rattle.cap_lin.specs.declared.row.Sort.{Sort}
use Rattle.cap_lin.specs.declared.row.Sort.TheVariants.{Int, Perm}
use Rattle.cap_galg_indices.specs.Sets.{one_index, indices_from}
use Rattle.cap_galg.specs.cap_galg_spec.declared.fraction.Fraction.{Fraction}
use Rattle.cap_galg.specs.Fractions.{IsShare}
use Rattle.cap_galg.specs.Elements.{Element, one, share, src, tokens, indices}
use Rattle.cap_galg.specs.Algebras.{atom_algebra, IsElement}
use Rattle.cap_prog.specs.declared.assertion.Comp.{Comp}
use Rattle.cap_prog.specs.declared.assertion.Slot.{Slot}
use Rattle.cap_prog.specs.declared.assertion.Slot.TheVariants.{Any, Is}
use Rattle.cap_prog.specs.declared.assertion.Asked.{Asked}
use Rattle.cap_prog.specs.declared.assertion.Asked.TheVariants.{One, Share, Src, Tok, At, From}
use Rattle.cap_prog.specs.Program.{PlainItem, compare, choose, fact, atom, cell, Items, none, item, PlainCase, PlainAction, PlainRegionType, PlainFunction, PlainProgram}
use Rattle.cap_prog.specs.Scopes.{fixed_start, result_name}
use Rattle.cap_machine_accounts.specs.Parts.{Guard, join, IsGuard, atom_guard, algebra_of, Part, guard_at, with_guard, without_cell, Region, region_at}

-- ---- comparisons and slots

abbrev pub CompHolds : Valuation → Comp → Type 0
CompHolds v c = Compares v c.left c.op c.right c.sort

abbrev pub SlotIs : Valuation → Slot → ℤ → Type 0
SlotIs v Any z = Unit {0}
SlotIs v (Is t) z = value v.whole t ≡ z

abbrev pub SlotsAre : Valuation → List Slot → List ℤ → Type 0
SlotsAre v [] [] = Unit {0}
SlotsAre v (s ∷ ss) (z ∷ zs) = SlotIs v s z × SlotsAre v ss zs
SlotsAre v ss zs = ⊥

abbrev pub ShareIs : Valuation → Slot → Fraction → Type 0
ShareIs v Any f = Unit {0}
ShareIs v (Is t) f = amount v.fraction t *ℤ pos f.den ≡ pos f.num *ℤ denominator v.fraction

-- ---- guards

-- an amount is above 0 and at most 1, and a count or an index is at least 0; no token is no guard
abbrev pub IsAsked : Valuation → Asked → Element → Type 0
IsAsked v One x = x ≡ one
IsAsked v (Share s) x = (f : Fraction) × IsShare f × ShareIs v s f × (x ≡ share f)
IsAsked v (Src s) x = (n : ℕ) × SlotIs v s (pos n) × (x ≡ src n)
IsAsked v (Tok s) x = (k : ℕ) × SlotIs v s (pos k) × (x ≡ tokens k)
IsAsked v (At s) x = (i : ℕ) × SlotIs v s (pos i) × (x ≡ indices (one_index i))
IsAsked v (From s) x = (i : ℕ) × SlotIs v s (pos i) × (x ≡ indices (indices_from i))

-- what is asked of an atom, taken out of the held guard, leaves the rest
pub record TakesGuard (p : PlainProgram) (v : Valuation) (k i : ℕ) (asked : Asked)
    (held rest : Option Guard) : Type 0 where
  pub element : Element
  pub is_asked : IsAsked v asked element
  pub of_atom : IsElement (atom_algebra (algebra_of p k) i) element
  pub rest_guard : IsGuard p rest
  pub joined : join (atom_guard p k i element) rest ≡ Some held

-- guards of a region type, one after the other
abbrev pub TakesGuards :
    PlainProgram → Valuation → ℕ → List (ℕ × Asked) → Option Guard → Option Guard → Type 0
TakesGuards p v k [] held rest = rest ≡ held
TakesGuards p v k (g ∷ gs) held rest =
    (next : Option Guard) × TakesGuard p v k g.0 g.1 held next × TakesGuards p v k gs next rest

-- ---- items

-- the table's region of this number is of this type, with these arguments and this state
pub record IsStated (table : List Region) (v : Valuation) (n k : ℕ) (args : List Slot)
    (state : Slot) : Type 0 where
  pub region : Region
  pub is_region : region_at table (v.whole n) ≡ Some region
  pub of_kind : region.kind ≡ k
  pub args_are : SlotsAre v args region.args
  pub state_is : SlotIs v state region.state

-- the part has a cell at a positive address
pub record IsOwned (v : Valuation) (address : Linear) (content : Slot) (q : Part) : Type 0 where
  pub number : ℤ
  pub positive : pos 0 <ℤ value v.whole address
  pub is_cell : get q.cells (value v.whole address) ≡ Some number
  pub content_is : SlotIs v content number

-- an item, taken out of a part, leaves a part; and items, one after the other. Of a conditional one
-- side is taken
abbrev mutual
  pub Takes : PlainProgram → List Region → Valuation → PlainItem → Part → Part → Type 0
  Takes p table v (compare c) q r = CompHolds v c × (r ≡ q)
  Takes p table v (choose c a b) q r =
      (CompHolds v c × TakesAll p table v a q r) ⊎ ((¬ CompHolds v c) × TakesAll p table v b q r)
  Takes p table v (fact place n k args s) q r = IsStated table v n k args s × (r ≡ q)
  Takes p table v (atom place n k i asked) q r =
      (rest : Option Guard)
      × TakesGuard p v k i asked (guard_at q (v.whole n)) rest
      × (r ≡ with_guard q (v.whole n) rest)
  Takes p table v (cell place a s) q r = IsOwned v a s q × (r ≡ without_cell q (value v.whole a))

  pub TakesAll : PlainProgram → List Region → Valuation → Items → Part → Part → Type 0
  TakesAll p table v none q r = r ≡ q
  TakesAll p table v (item i more) q r =
      (m : Part) × Takes p table v i q m × TakesAll p table v more m r

-- the part has what the items say, and perhaps more
abbrev pub Sat : PlainProgram → List Region → Part → Valuation → Items → Type 0
Sat p table q v items = (rest : Part) × TakesAll p table v items q rest

-- ---- values of names

-- a whole number, or a fraction of these two numbers, the second of which is one less than the
-- denominator
pub data NameValue : Type 0 where
  a_number : ℤ → NameValue
  a_fraction : ℤ → ℕ → NameValue

abbrev pub HasNameSort : Sort → NameValue → Type 0
HasNameSort Int (a_number z) = Unit {0}
HasNameSort Perm (a_fraction n d) = Unit {0}
HasNameSort o y = ⊥

-- each value is of its name's sort
abbrev pub ValuesFit : List Sort → List NameValue → Type 0
ValuesFit [] [] = Unit {0}
ValuesFit (o ∷ os) (y ∷ ys) = HasNameSort o y × ValuesFit os ys
ValuesFit os ys = ⊥

abbrev pub IsNamed : Valuation → ℕ → NameValue → Type 0
IsNamed v x (a_number z) = v.whole x ≡ z
IsNamed v x (a_fraction n d) = v.fraction.numerator x *ℤ pos (suc d) ≡ n *ℤ denominator v.fraction

-- from name x on, the names have these values
abbrev pub AreNamed : Valuation → ℕ → List NameValue → Type 0
AreNamed v x [] = Unit {0}
AreNamed v x (y ∷ ys) = IsNamed v x y × AreNamed v (suc x) ys

abbrev pub AreWhole : Valuation → ℕ → List ℤ → Type 0
AreWhole v x [] = Unit {0}
AreWhole v x (z ∷ zs) = (v.whole x ≡ z) × AreWhole v (suc x) zs

-- ---- contracts, interpretations and actions

-- the part has the function's `requires` at these arguments, with these values of its fixed names
pub record MeetsRequires (p : PlainProgram) (table : List Region) (q : Part) (f : PlainFunction)
    (args : List ℤ) (fixed : List NameValue) : Type 0 where
  pub values : Valuation
  pub args_are : AreWhole values 0 args
  pub fixed_are : AreNamed values (fixed_start f) fixed
  pub met : Sat p table q values f.requires

-- the part has the function's `ensures`, with this result
pub record Met (p : PlainProgram) (table : List Region) (q : Part) (f : PlainFunction)
    (args : List ℤ) (fixed : List NameValue) (result : ℤ) : Type 0 where
  pub values : Valuation
  pub args_are : AreWhole values 0 args
  pub fixed_are : AreNamed values (fixed_start f) fixed
  pub result_is : values.whole (result_name f) ≡ result
  pub met : Sat p table q values f.ensures.items

-- the part has what some case of the region's type says at its state
pub record IsInterpreted (p : PlainProgram) (table : List Region) (r : Region)
    (q : Part) : Type 0 where
  pub type : PlainRegionType
  pub is_type : slice_get p.regions r.kind ≡ Some type
  pub arity : type.params ≡ suc (length r.args)
  pub number : ℕ
  pub case : PlainCase
  pub is_case : slice_get type.cases number ≡ Some case
  pub values : Valuation
  pub args_are : AreWhole values 0 (r.number ∷ r.args)
  pub state_is : value values.whole case.state ≡ r.state
  pub conditions : AllByRecursion (CompHolds values) case.when
  pub met : Sat p table q values case.items

-- some action of the region's type leads from its state to the new one, and its guards compose to
-- at most what is held
pub record Acts (p : PlainProgram) (r : Region) (held : Option Guard) (new : ℤ) : Type 0 where
  pub type : PlainRegionType
  pub is_type : slice_get p.regions r.kind ≡ Some type
  pub number : ℕ
  pub action : PlainAction
  pub is_action : slice_get type.actions number ≡ Some action
  pub values : Valuation
  pub args_are : AreWhole values 0 (r.number ∷ r.args)
  pub source_is : value values.whole action.source ≡ r.state
  pub target_is : value values.whole action.target ≡ new
  pub conditions : AllByRecursion (CompHolds values) action.when
  pub rest : Option Guard
  pub guarded : TakesGuards p values r.kind action.guards held rest
