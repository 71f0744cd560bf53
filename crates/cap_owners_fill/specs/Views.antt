-- What contracts see of fills and of what is given.
use Rattle.std.specs.Prelude.{◌≡◌, ℕ, ◌<◌, ◌≤◌, length, slice_index_or, ℤ, pos, ◌<ℤ◌, ◌≤ℤ◌, Bool, true, false, List, [], ◌∷◌, map, option_map, Option, Some, None}
use Rattle.std.specs.List.{AllByRecursion}
use Rattle.cap_prog.specs.Program.{PlainItem, choose, Items, none, items_of, append_items}
use Rattle.cap_prog.specs.declared.assertion.Asked.{Asked}
use Rattle.cap_prog.specs.declared.assertion.Asked.TheVariants.{Share}
use Rattle.cap_prog.specs.declared.assertion.Comp.{Comp}
use Rattle.cap_prog.specs.declared.assertion.Item.{Item}
use Rattle.cap_prog.specs.Views.{item_view, items_view as assertion_items}
use Rattle.cap_goal.specs.Views.{items_in}
use Rattle.cap_goal.specs.declared.task.Items as code_items
use Rattle.cap_goal_spec.specs.States.{PlainEnv}
use Rattle.cap_goal_spec.specs.Environments.{Reading, settled, open_to, stuck, reading}
use Rattle.cap_machine_accounts.specs.Assertions.{NameValue}
use Rattle.cap_owners_spec.specs.Track.{Fill, TrackedRegion}
use Rattle.cap_owners_spec.specs.Filling.{Giving, Parting, parting, give_all}
use Rattle.cap_owners_spec.specs.Walks.{no_items}
use Rattle.cap_owners_fill.specs.declared.reading.Reading as code_reading
use Rattle.cap_owners_fill.specs.declared.giving.Conditional as code_conditional
use Rattle.cap_owners_fill.specs.declared.given.Parting as code_parting
use Rattle.cap_owners_fill.specs.declared.given.Given as code_given

-- ---- to take

abbrev pub reading_view : code_reading.Reading → Reading
reading_view (code_reading.TheVariants.Settled t) = settled t.now
reading_view (code_reading.TheVariants.OpenTo x) = open_to x
reading_view code_reading.TheVariants.Stuck = stuck

abbrev pub is_open : Reading → Bool
is_open (open_to o) = true
is_open r = false

abbrev pub halves : PlainEnv → Asked → Bool
halves env (Share x) = is_open (reading env x)
halves env asked = false

-- ---- regions

abbrev pub region_number : TrackedRegion → ℤ
region_number r = r.owned.region.number

abbrev pub numbers : List TrackedRegion → List ℤ
numbers rs = map region_number rs

abbrev pub Ascend : List ℤ → Type 0
Ascend [] = Unit {0}
Ascend (n ∷ ns) = AllByRecursion (λ m. n <ℤ m) ns × Ascend ns

-- the numbers in front of a place are smaller, and those from there on aren't
pub record IsPlaceOf (n : ℤ) (ns : List ℤ) (place : ℕ) : Type 0 where
  pub bound : place ≤ length ns
  pub below : (i : ℕ) → i < place → slice_index_or ns i (pos 0) <ℤ n
  pub above : (i : ℕ) → place ≤ i → i < length ns → n ≤ℤ slice_index_or ns i (pos 0)

abbrev pub HasAt : ℤ → List ℤ → ℕ → Type 0
HasAt n ns place = (place < length ns) × (slice_index_or ns place (pos 0) ≡ n)

-- ---- to give

abbrev pub list_view : List Item → Items
list_view is = items_of (map item_view is)

abbrev pub items_view : code_items.Items → Items
items_view is = items_in is.lists.items none

-- a conditional, and the items that come behind it in its list
pub record Conditional : Type 0 where
  pub condition : Comp
  pub holding : Items
  pub failing : Items
  pub behind : Items

abbrev pub conditional_view : code_conditional.Conditional → Conditional
conditional_view c = record {
  condition = c.comparison.now;
  holding = assertion_items c.holding.now;
  failing = assertion_items c.failing.now;
  behind = list_view c.behind.now;
}

abbrev pub conditional_of : PlainItem → Items → Option Conditional
conditional_of (choose c a b) behind =
    Some (record { condition = c; holding = a; failing = b; behind = behind })
conditional_of i behind = None

-- with the items that come behind its list
abbrev pub parted : Conditional → Items → Parting
parted c after = record {
  condition = c.condition;
  holding = append_items c.holding (append_items c.behind after);
  failing = append_items c.failing (append_items c.behind after);
}

-- a list without a conditional is given, and then what comes behind it
pub record IsGivenWhole (names : List NameValue) (list : Items) (g g' : Giving) : Type 0 where
  pub giving : (after : Items) → give_all names (append_items list after) g ≡ give_all names after g'
  pub parting : (after : Items) → parting (append_items list after) ≡ parting after

-- a list is given up to this conditional, whatever comes behind the list
pub record IsGivenTo (names : List NameValue) (list : Items) (g g' : Giving) (c : Conditional) : Type 0 where
  pub giving : (after : Items) → give_all names (append_items list after) g ≡ g'
  pub parting : (after : Items) → parting (append_items list after) ≡ Some (parted c after)

abbrev pub IsGivenUpTo :
    List NameValue → Items → Giving → Giving → Option Conditional → Type 0
IsGivenUpTo names list g g' None = IsGivenWhole names list g g'
IsGivenUpTo names list g g' (Some c) = IsGivenTo names list g g' c

-- a conditional, as far as is seen of it: its comparison, and which of its sides leaves nothing
pub record Sides : Type 0 where
  pub condition : Comp
  pub holding_is_empty : Bool
  pub failing_is_empty : Bool

abbrev pub sides_of : Parting → Sides
sides_of x = record {
  condition = x.condition;
  holding_is_empty = no_items x.holding;
  failing_is_empty = no_items x.failing;
}

abbrev pub sides_view : code_parting.Parting → Sides
sides_view x = record {
  condition = x.condition.now;
  holding_is_empty = x.holding_is_empty;
  failing_is_empty = x.failing_is_empty;
}

-- nothing is given yet
abbrev pub giving_first : Fill → PlainEnv → Giving
giving_first f env = record { env = env; new = []; wildcards = f.wildcards }

abbrev pub given_all : Fill → PlainEnv → Items → Giving
given_all f env items = give_all f.names items (giving_first f env)

-- what is brought by this
pub record IsGivenSo (by : Giving) (sides : Option Sides) (g : code_given.Given) : Type 0 where
  pub new : g.new ≡ by.new
  pub wildcards : g.wildcards ≡ by.wildcards
  pub parting : option_map sides_view g.parting ≡ sides

-- what is brought of an assertion that is given
pub record IsGiven (f : Fill) (env : PlainEnv) (items : Items) (g : code_given.Given) : Type 0 where
  pub new : g.new ≡ (given_all f env items).new
  pub wildcards : g.wildcards ≡ (given_all f env items).wildcards
  pub parting : option_map sides_view g.parting ≡ option_map sides_of (parting items)
