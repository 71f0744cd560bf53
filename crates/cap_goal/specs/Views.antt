-- What contracts see of tasks, goals, choices and trees.
use Rattle.std.specs.Prelude.{ℕ, ◌==◌, Bool, true, false, List, [], ◌∷◌, map, reverse}
use Rattle.std.specs.Borrow.{Bor}
use Rattle.cap_farkas.specs.declared.cert.Cert.{Cert}
use Rattle.cap_prog.specs.declared.assertion.Item.{Item}
use Rattle.cap_prog.specs.declared.function.Statement.{Statement}
use Rattle.cap_prog.specs.Program.{Items, none, item, items_of, append_items, Block, done, append, PlainAct, read, write, cas, faa, dispose}
use Rattle.cap_prog.specs.Views.{item_view, block_view}
use Rattle.cap_goal_spec.specs.States.{Home, PlainTask, to_run, to_turn, to_give, to_take, to_make, to_close, to_shift, to_rest, PlainGoal}
use Rattle.cap_goal_spec.specs.Choices.{PlainChoice, by_absurd, by_clash, by_set, by_alloc, by_assert, by_if, by_loop, by_turn, by_call, by_fork, by_return, by_enter, by_act, by_pick, by_shift, by_settle, by_keep, by_give, by_fact, by_cases, by_cell, by_region, by_guard, by_convert, by_create, by_made, PlainTree, node, PlainTrees, no_trees, tree}
use Rattle.cap_goal_spec.specs.Roots.{PlainUnit, region_unit, function_unit}
use Rattle.cap_goal.specs.declared.task.Home as code
use Rattle.cap_goal.specs.declared.task.Task.{Task}
use Rattle.cap_goal.specs.declared.task.Task.TheVariants as task
use Rattle.cap_goal.specs.declared.choice.Choice.{Choice}
use Rattle.cap_goal.specs.declared.choice.Choice.TheVariants as choice
use Rattle.cap_goal.specs.declared.choice.Unit as named
use Rattle.cap_goal.specs.declared.goal.Goal.{Goal}

-- lists of items, the last of which comes first, before other items
abbrev pub items_in : List (Bor (List Item)) → Items → Items
items_in [] after = after
items_in (l ∷ ls) after = items_in ls (append_items (items_of (map item_view l.now)) after)

-- lists of statements, the last of which comes first, before other statements
abbrev pub block_in : List (Bor (List Statement)) → Block → Block
block_in [] after = after
block_in (l ∷ ls) after = block_in ls (append (block_view l.now) after)

abbrev pub home_view : code.Home → Home
home_view h = record { function = h.function; fixed = h.fixed }

abbrev pub task_view : Task → PlainTask
task_view (task.Run home point) = to_run (home_view home) (block_in point.lists.items done)
task_view (task.Turn home point) = to_turn (home_view home) (block_in point.lists.items done)
task_view (task.Give items e n) = to_give (items_in items.lists.items none) e n
task_view (task.Take items e left n) = to_take (items_in items.lists.items none) e left n
task_view (task.Made k c e t n) = to_make k c e t n
task_view (task.Close any n) = to_close any n
task_view (task.Shift o c m e n) = to_shift o c m e n
task_view (task.Rest j n) = to_rest j n

-- the last task comes first
abbrev pub tasks_view : List Task → List PlainTask
tasks_view ts = reverse (map task_view ts)

abbrev pub goal_view : Goal → PlainGoal
goal_view g = record { state = g.state; tasks = tasks_view g.tasks.items }

abbrev pub choice_view : Choice → PlainChoice
choice_view (choice.Absurd c) = by_absurd c
choice_view (choice.Clash i j cs) = by_clash i j cs.items
choice_view choice.Set = by_set
choice_view choice.Alloc = by_alloc
choice_view (choice.Assert cs) = by_assert cs.items
choice_view choice.If = by_if
choice_view choice.Loop = by_loop
choice_view choice.Turn = by_turn
choice_view choice.Call = by_call
choice_view choice.Fork = by_fork
choice_view choice.Return = by_return
choice_view (choice.Enter i cs) = by_enter i cs.items
choice_view (choice.Act j cs ms) = by_act j cs.items ms.items
choice_view (choice.Pick o c m) = by_pick o c m
choice_view (choice.Shift cs spans) = by_shift cs.items spans.items
choice_view (choice.Settle list cs) = by_settle list.items cs.items
choice_view (choice.Keep cs) = by_keep cs.items
choice_view choice.Give = by_give
choice_view (choice.Fact cs) = by_fact cs.items
choice_view choice.Cases = by_cases
choice_view (choice.Cell j cs) = by_cell j cs.items
choice_view (choice.Region j cs) = by_region j cs.items
choice_view (choice.Guard j way cs) = by_guard j way cs.items
choice_view (choice.Convert n side cs) = by_convert n side cs.items
choice_view (choice.Create c) = by_create c
choice_view (choice.Made cs) = by_made cs.items

-- the certificates that are lent
abbrev pub certs_in : List (Bor Cert) → List Cert
certs_in cs = map (λ c. c.now) cs

abbrev pub unit_view : named.Unit → PlainUnit
unit_view (named.TheVariants.Region n) = region_unit n
unit_view (named.TheVariants.Function n) = function_unit n

-- a statement that works on a cell
abbrev pub is_heap_act : PlainAct → Bool
is_heap_act (read x a) = true
is_heap_act (write a t) = true
is_heap_act (cas x a old new) = true
is_heap_act (faa x a t) = true
is_heap_act (dispose a) = true
is_heap_act _ = false

abbrev pub has_no_items : Items → Bool
has_no_items none = true
has_no_items (item i is) = false

-- nothing is to be done, where there are so many facts
abbrev pub is_done : ℕ → PlainTask → Bool
is_done facts (to_give is e n) = has_no_items is
is_done facts (to_take is e left n) = has_no_items is
is_done facts (to_rest j n) = j == facts
is_done facts t = false
