-- What contracts see of what is left of an assertion.
use Rattle.std.specs.Prelude.{List, ◌∷◌, Option, Some, None}
use Rattle.std.specs.Borrow.{Bor}
use Rattle.cap_prog.specs.declared.assertion.Item.{Item}
use Rattle.cap_prog.specs.Program.{PlainItem, Items, none, item, append_items}
use Rattle.cap_prog.specs.Views.{item_view}
use Rattle.cap_rules_steps.specs.cap_goal_spec.States.{PlainTask, to_take}
use Rattle.cap_goal.specs.declared.task.Items as code_items
use Rattle.cap_goal.specs.Views.{items_in, tasks_view}
use Rattle.cap_rules_steps.specs.cap_rules.Rules.{Remaining}
use Rattle.cap_take_items.specs.declared.remaining.Remaining as code

abbrev pub remaining_view : code.Remaining → Remaining
remaining_view r = record {
  items = items_in r.items.lists.items none;
  env = r.env;
  left = r.creations;
  statement = r.at;
  tasks = tasks_view r.tasks.now;
}

-- what is left comes first
abbrev pub tasks_ahead : Remaining → List PlainTask
tasks_ahead r = to_take r.items r.env r.left r.statement ∷ r.tasks

-- these items in place of those that are left
abbrev pub with_items : Items → Remaining → Remaining
with_items is r = record r { items = is }

-- the item that stays comes first
abbrev pub tasks_with : PlainItem → Remaining → List PlainTask
tasks_with i r = tasks_ahead (with_items (item i r.items) r)

-- the items of one side of a conditional come first
abbrev pub side_tasks : Items → Remaining → List PlainTask
side_tasks is r = tasks_ahead (with_items (append_items is r.items) r)

-- the item that comes first, and those behind it
abbrev pub items_ahead : Option (Bor Item × code_items.Items) → Items
items_ahead None = none
items_ahead (Some x) = item (item_view x.0.now) (items_in x.1.lists.items none)
