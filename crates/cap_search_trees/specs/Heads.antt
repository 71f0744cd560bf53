-- The statement or the item that comes first, and what is lacked there.
use Rattle.std.specs.Prelude.{ℕ, slice_get, Option, Some, None, option_map}
use Rattle.std.specs.Borrow.{Bor}
use Rattle.cap_prog.specs.declared.assertion.Item.{Item}
use Rattle.cap_prog.specs.declared.function.Statement.{Statement}
use Rattle.cap_prog.specs.Program.{PlainItem, Items, none, item, Block, done, first, PlainStatement, PlainProgram}
use Rattle.cap_prog.specs.Views.{item_view, statement_view}
use Rattle.cap_syntax.specs.declared.place.Place.{Place}
use Rattle.cap_goal_spec.specs.States.{PlainState}
use Rattle.cap_search_spec.specs.Leaves.{Leaf, other_leaf, leaf_at_act, leaf_at_item, leaf_at_shift, place_of_case}

abbrev pub head_statement : Block → Option PlainStatement
head_statement done = None
head_statement (first l a rest) = Some (record { label = l; act = a })

abbrev pub head_item : Items → Option PlainItem
head_item none = None
head_item (item i more) = Some i

abbrev pub statement_at : Option (Bor Statement) → Option PlainStatement
statement_at s = option_map (λ x. statement_view x.now) s

abbrev pub item_at : Option (Bor Item) → Option PlainItem
item_at i = option_map (λ x. item_view x.now) i

abbrev pub leaf_of_run : Option PlainStatement → Leaf
leaf_of_run None = other_leaf 0
leaf_of_run (Some s) = leaf_at_act s.label s.act

abbrev pub leaf_of_turn : Option PlainStatement → Leaf
leaf_of_turn None = other_leaf 0
leaf_of_turn (Some s) = other_leaf s.label.number

abbrev pub leaf_of_take : ℕ → Option PlainItem → Leaf
leaf_of_take n None = other_leaf n
leaf_of_take n (Some i) = leaf_at_item n i

-- the place of a case of a region type, by their numbers
abbrev pub case_place : PlainProgram → ℕ → ℕ → Option Place
case_place p k c = place_of_case (slice_get p.regions k) c

abbrev pub shift_leaf : PlainProgram → PlainState → ℕ → ℕ → ℕ → Leaf
shift_leaf p s o c n = leaf_at_shift p (slice_get s.opened o) c n
