-- What rules on assertions make of a goal, by its head.
use Rattle.std.specs.Prelude.{ℕ, List, [], ◌∷◌, Option, Some, None}
use Rattle.cap_lin.specs.Linear.{Linear}
use Rattle.cap_prog.specs.declared.assertion.Comp.{Comp}
use Rattle.cap_prog.specs.declared.assertion.Slot.{Slot}
use Rattle.cap_prog.specs.declared.assertion.Asked.{Asked}
use Rattle.cap_prog.specs.Program.{PlainItem, compare, choose, fact, atom, cell, Items, none, item, PlainProgram}
use Rattle.cap_goal_spec.specs.States.{PlainState, PlainTask, to_give, to_take, to_make, PlainGoal}
use Rattle.cap_goal_spec.specs.Choices.{PlainChoice, by_give, by_fact, by_cases, by_cell, by_region, by_guard, by_convert, by_create, by_made}
use Rattle.cap_rules.specs.Attempts.{Attempt, not_applicable}
use Rattle.cap_rules.specs.Giving.{give}
use Rattle.cap_rules.specs.Rules.{Remaining, at_fact, at_cases, at_cell, at_region, creates, at_guard, at_convert, at_made}
use Rattle.cap_take.specs.declared.heads.Taking.{Taking}
use Rattle.cap_take.specs.declared.heads.Taking.TheVariants as rule

-- to give an assertion, to give up an item of one, or to state a created region
abbrev pub IsTaking : PlainChoice → Type 0
IsTaking by_give = Unit {0}
IsTaking (by_fact cs) = Unit {0}
IsTaking by_cases = Unit {0}
IsTaking (by_cell j cs) = Unit {0}
IsTaking (by_region j cs) = Unit {0}
IsTaking (by_guard j way cs) = Unit {0}
IsTaking (by_convert m side cs) = Unit {0}
IsTaking (by_create c) = Unit {0}
IsTaking (by_made cs) = Unit {0}
IsTaking c = ⊥

-- the rule of such a choice
abbrev pub taking_of : PlainChoice → Option Taking
taking_of by_give = Some rule.Give
taking_of (by_fact cs) = Some rule.Fact
taking_of by_cases = Some rule.Cases
taking_of (by_cell j cs) = Some (rule.Cell j)
taking_of (by_region j cs) = Some (rule.Region j)
taking_of (by_guard j way cs) = Some (rule.Guard j way)
taking_of (by_convert m side cs) = Some (rule.Convert m side)
taking_of (by_create c) = Some (rule.Create c)
taking_of (by_made cs) = Some rule.Made
taking_of c = None

-- ---- the items that are given up

abbrev pub comparison_taken : PlainState → Taking → Comp → Remaining → Attempt (List PlainGoal)
comparison_taken s rule.Fact c r = at_fact s c r
comparison_taken s t c r = not_applicable

abbrev pub conditional_taken :
    PlainState → Taking → Comp → Items → Items → Remaining → Attempt (List PlainGoal)
conditional_taken s rule.Cases c a b r = at_cases s c a b r
conditional_taken s t c a b r = not_applicable

abbrev pub cell_taken : PlainState → Taking → Linear → Slot → Remaining → Attempt (List PlainGoal)
cell_taken s (rule.Cell j) a x r = at_cell s j a x r
cell_taken s t a x r = not_applicable

-- the item is matched with a fact that is held, or its region is created
abbrev pub fact_taken :
    PlainProgram → PlainState → Taking → PlainItem → ℕ → ℕ → List Slot → Slot → Remaining →
    Attempt (List PlainGoal)
fact_taken p s (rule.Region j) i n k args x r = at_region s j n k args x r
fact_taken p s (rule.Create c) i n k args x r = creates p s c n k args x i r r.left
fact_taken p s t i n k args x r = not_applicable

-- the item is taken out of a piece, or a sum is converted
abbrev pub atom_taken :
    PlainProgram → PlainState → Taking → PlainItem → ℕ → ℕ → ℕ → Asked → Remaining →
    Attempt (List PlainGoal)
atom_taken p s (rule.Guard j way) it n k i asked r = at_guard s j way n k i asked r
atom_taken p s (rule.Convert m side) it n k i asked r = at_convert p s m side n k it r
atom_taken p s t it n k i asked r = not_applicable

abbrev pub item_taken :
    PlainProgram → PlainState → Taking → PlainItem → Remaining → Attempt (List PlainGoal)
item_taken p s t (compare c) r = comparison_taken s t c r
item_taken p s t (choose c a b) r = conditional_taken s t c a b r
item_taken p s t (fact place n k args x) r =
    fact_taken p s t (fact place n k args x) n k args x r
item_taken p s t (atom place n k i asked) r =
    atom_taken p s t (atom place n k i asked) n k i asked r
item_taken p s t (cell place a x) r = cell_taken s t a x r

-- ---- all heads

-- the item that comes first
abbrev pub items_taken :
    PlainProgram → PlainState → Taking → Items → ℕ → ℕ → ℕ → List PlainTask →
    Attempt (List PlainGoal)
items_taken p s t none e left n ts = not_applicable
items_taken p s t (item i more) e left n ts =
    item_taken p s t i
    (record { items = more; env = e; left = left; statement = n; tasks = ts })

-- an assertion is given
abbrev pub items_given :
    PlainProgram → PlainState → Taking → Items → ℕ → ℕ → List PlainTask → Attempt (List PlainGoal)
items_given p s rule.Give items e n ts = give p s e n ts items
items_given p s t items e n ts = not_applicable

-- a created region is stated
abbrev pub region_stated :
    PlainProgram → PlainState → Taking → ℕ → ℕ → ℕ → Linear → List PlainTask →
    Attempt (List PlainGoal)
region_stated p s rule.Made k c e m ts = at_made p s k c e m ts
region_stated p s t k c e m ts = not_applicable

abbrev pub head_taken :
    PlainProgram → PlainState → Taking → PlainTask → List PlainTask → Attempt (List PlainGoal)
head_taken p s t (to_take items e left n) ts = items_taken p s t items e left n ts
head_taken p s t (to_give items e n) ts = items_given p s t items e n ts
head_taken p s t (to_make k c e m n) ts = region_stated p s t k c e m ts
head_taken p s t k ts = not_applicable

abbrev pub tasks_taken :
    PlainProgram → PlainState → Taking → List PlainTask → Attempt (List PlainGoal)
tasks_taken p s t [] = not_applicable
tasks_taken p s t (k ∷ ts) = head_taken p s t k ts

abbrev pub taken_by :
    PlainProgram → PlainState → Option Taking → List PlainTask → Attempt (List PlainGoal)
taken_by p s None ts = not_applicable
taken_by p s (Some t) ts = tasks_taken p s t ts
