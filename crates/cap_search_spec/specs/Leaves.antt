-- What a goal lacks for which no choice is offered, and where that is printed.
use Rattle.std.specs.Prelude.{ℕ, zero, suc, ◌==◌, nat_lt, if◌then◌else◌, List, [], ◌∷◌, map, flat_map, find, slice_get, unwrap_or, option_map, Option, Some, None}
use Rattle.cap_syntax.specs.declared.place.Place.{Place}
use Rattle.cap_prog.specs.Program.{PlainItem, compare, choose, fact, atom, cell, Items, none, item, PlainCase, PlainRegionType, Label, PlainAct, read, write, cas, faa, dispose, check, first, done, PlainFunction, PlainProgram, PlainStatement}
use Rattle.cap_prog.specs.Parts.{all_statements}
use Rattle.cap_goal_spec.specs.States.{PlainFact, PlainState, PlainTask, to_run, to_turn, to_give, to_take, to_make, to_close, to_shift, to_rest, PlainGoal}
use Rattle.cap_goal_spec.specs.Roots.{PlainUnit, region_unit, function_unit, LoopPoint, loops_in}

pub data Need : Type 0 where
  lacks_fact : Need
  lacks_cell : Need
  lacks_region : Need
  lacks_guard : Need
  lacks_move : Need
  lacks_state : Need

-- the number of the statement at which the goal's first task arose, 0 outside a body; what it needs,
-- and the place of that, or none where it is the place of the statement
pub record Leaf : Type 0 where
  pub statement : ℕ
  pub need : Need
  pub item : Option Place

abbrev pub leaf : ℕ → Need → Option Place → Leaf
leaf n w i = record { statement = n; need = w; item = i }

abbrev pub other_leaf : ℕ → Leaf
other_leaf n = leaf n lacks_state None

-- ---- by the head of the tasks

abbrev pub leaf_at_act : Label → PlainAct → Leaf
leaf_at_act l (check c) = leaf l.number lacks_fact (Some c.place)
leaf_at_act l (read x a) = leaf l.number lacks_cell (Some l.place)
leaf_at_act l (write a t) = leaf l.number lacks_cell (Some l.place)
leaf_at_act l (cas x a old new) = leaf l.number lacks_cell (Some l.place)
leaf_at_act l (faa x a t) = leaf l.number lacks_cell (Some l.place)
leaf_at_act l (dispose a) = leaf l.number lacks_cell (Some l.place)
leaf_at_act l _ = other_leaf l.number

abbrev pub leaf_at_item : ℕ → PlainItem → Leaf
leaf_at_item n (compare c) = leaf n lacks_fact (Some c.place)
leaf_at_item n (choose c a b) = other_leaf n
leaf_at_item n (fact place r k args x) = leaf n lacks_region (Some place)
leaf_at_item n (atom place r k i asked) = leaf n lacks_guard (Some place)
leaf_at_item n (cell place a x) = leaf n lacks_cell (Some place)

-- a case's place is that of its state
abbrev pub place_of_case : Option PlainRegionType → ℕ → Option Place
place_of_case None c = None
place_of_case (Some k) c = option_map (λ (x : PlainCase). x.place) (slice_get k.cases c)

abbrev pub leaf_at_shift : PlainProgram → Option PlainFact → ℕ → ℕ → Leaf
leaf_at_shift p None c n = other_leaf n
leaf_at_shift p (Some f) c n = leaf n lacks_move (place_of_case (slice_get p.regions f.kind) c)

abbrev pub leaf_at_task : PlainProgram → PlainState → PlainTask → Leaf
leaf_at_task p s (to_run h done) = other_leaf 0
leaf_at_task p s (to_run h (first l a rest)) = leaf_at_act l a
leaf_at_task p s (to_turn h done) = other_leaf 0
leaf_at_task p s (to_turn h (first l a rest)) = other_leaf l.number
leaf_at_task p s (to_give items e n) = other_leaf n
leaf_at_task p s (to_take none e left n) = other_leaf n
leaf_at_task p s (to_take (item i more) e left n) = leaf_at_item n i
leaf_at_task p s (to_make k c e t n) =
    leaf n lacks_state (place_of_case (slice_get p.regions k) c)
leaf_at_task p s (to_close any n) = other_leaf n
leaf_at_task p s (to_shift o c m e n) = leaf_at_shift p (slice_get s.opened o) c n
leaf_at_task p s (to_rest j n) = other_leaf n

abbrev pub leaf_at_tasks : PlainProgram → PlainState → List PlainTask → Leaf
leaf_at_tasks p s [] = other_leaf 0
leaf_at_tasks p s (t ∷ ts) = leaf_at_task p s t

abbrev pub leaf_at : PlainProgram → PlainGoal → Leaf
leaf_at p g = leaf_at_tasks p g.state g.tasks

-- ---- which leaf is printed

-- the earlier one, unless the number is greater
abbrev pub further : Option Leaf → Leaf → Option Leaf
further None l = Some l
further (Some k) l = if nat_lt k.statement l.statement then Some l else Some k

-- ---- how it is printed

pub record PlainObligation : Type 0 where
  pub statement : Place
  pub need : Need
  pub item : Place

abbrev pub place_of_item : PlainItem → Place
place_of_item (compare c) = c.place
place_of_item (choose c a b) = c.place
place_of_item (fact place r k args x) = place
place_of_item (atom place r k i asked) = place
place_of_item (cell place a x) = place

-- an assertion's first item; one without items is never printed
abbrev pub first_place : PlainFunction → Items → Place
first_place f none = f.place
first_place f (item i more) = place_of_item i

abbrev pub loop_places : PlainFunction → LoopPoint → List Place
loop_places f w = first_place f w.invariant.items ∷ first_place f w.invariant.items ∷ []

-- outside a body: of the case's state, or of the first item of the assertion
abbrev pub region_places : Option PlainRegionType → List Place
region_places None = []
region_places (Some k) = map (λ (x : PlainCase). x.place) k.cases

abbrev pub function_places : Option PlainFunction → List Place
function_places None = []
function_places (Some f) =
    first_place f f.requires
    ∷ first_place f f.ensures.items
    ∷ first_place f f.requires
    ∷ flat_map (loop_places f) (loops_in f.body done)

-- of the roots of a unit, in their order
abbrev pub root_places : PlainProgram → PlainUnit → List Place
root_places p (region_unit n) = region_places (slice_get p.regions n)
root_places p (function_unit n) = function_places (slice_get p.functions n)

abbrev pub statements_of : PlainProgram → PlainUnit → List PlainStatement
statements_of p (region_unit n) = []
statements_of p (function_unit n) = body_of (slice_get p.functions n)
  where
    body_of : Option PlainFunction → List PlainStatement
    body_of None = []
    body_of (Some f) = all_statements f.body

abbrev pub nowhere : Place
nowhere = record { line = 1; column = 1 }

-- of the statement of this number, in the tree of root number `root`
abbrev pub statement_place : PlainProgram → PlainUnit → ℕ → ℕ → Place
statement_place p u root zero = unwrap_or (slice_get (root_places p u) root) nowhere
statement_place p u root (suc n) =
    unwrap_or (option_map (λ (x : PlainStatement). x.label.place)
    (find (λ (x : PlainStatement). x.label.number == suc n) (statements_of p u))) nowhere

abbrev pub obligation_at : Place → Leaf → PlainObligation
obligation_at place l = record {
  statement = place;
  need = l.need;
  item = unwrap_or l.item place;
}

abbrev pub obligation_of : PlainProgram → PlainUnit → ℕ → Leaf → PlainObligation
obligation_of p u root l = obligation_at (statement_place p u root l.statement) l
