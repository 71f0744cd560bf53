-- Items that come before others, and tasks that come first.
use Rattle.std.proofs.Common.{◌≡◌, List, [], ◌∷◌, map, refl, ap, sym, ◌∙◌, rules, ◌++◌, reverse}
use Rattle.std.specs.Borrow.{Bor}
use Rattle.std.proofs.lemmas.List.{map-append, reverse-append}
use Rattle.cap_prog.specs.declared.assertion.Assertion.{Assertion}
use Rattle.cap_prog.specs.declared.assertion.Item.{Item}
use Rattle.cap_prog.specs.declared.assertion.Item.TheFolds.{the_lemmas}
use Rattle.cap_prog.specs.Program.{Items, none, item, items_of, append_items}
use Rattle.cap_prog.specs.Views.{item_view, items_view}
use Rattle.cap_rules_steps.specs.cap_goal_spec.States.{PlainGoal}
use Rattle.cap_goal.specs.declared.task.Task.{Task}
use Rattle.cap_goal.specs.declared.goal.Goal.{Goal}
use Rattle.cap_goal.specs.Views.{items_in, task_view, tasks_view, goal_view}

items-seen : (a : Assertion) → items_view a ≡ items_of (map item_view a.items.items)
items-seen a = search (rules, the_lemmas)

pub last-first : (lists : List (Bor (List Item))) (l : Bor (List Item)) (after : Items) → items_in (lists ++ l ∷ []) after ≡ append_items (items_of (map item_view l.now)) (items_in lists after)
last-first [] l after = refl
last-first (m ∷ lists) l after = last-first lists l (append_items (items_of (map item_view m.now)) after)

-- the items of an assertion before others
pub items-before : (a : Assertion) (lists more : List (Bor (List Item))) (l : Bor (List Item)) → more ≡ lists ++ l ∷ [] → l.now ≡ a.items.items → items_in more none ≡ append_items (items_view a) (items_in lists none)
items-before a lists more l e q =
    ap (λ ls. items_in ls none) e ∙ (last-first lists l none ∙ ap (λ is. append_items is (items_in lists none)) (ap (λ is. items_of (map item_view is)) q ∙ sym (items-seen a)))

-- an item before others
pub item-before : (i : Item) (lists more : List (Bor (List Item))) (l : Bor (List Item)) → more ≡ lists ++ l ∷ [] → l.now ≡ i ∷ [] → items_in more none ≡ item (item_view i) (items_in lists none)
item-before i lists more l e q =
    ap (λ ls. items_in ls none) e ∙ (last-first lists l none ∙ ap (λ is. append_items (items_of (map item_view is)) (items_in lists none)) q)

-- a task before copies of others
pub task-before : (ts us more : List Task) (t : Task) → more ≡ us ++ t ∷ [] → map task_view us ≡ map task_view ts → tasks_view more ≡ task_view t ∷ tasks_view ts
task-before ts us more t e q =
    ap tasks_view e ∙ (ap reverse (map-append task_view us (t ∷ [])) ∙ (reverse-append (map task_view us) (task_view t ∷ []) ∙ ap (λ all. task_view t ∷ reverse all) q))

-- two goals, one after the other
pub two-goals : (start one two : List Goal) (a b : List PlainGoal) → start ≡ [] → map goal_view one ≡ map goal_view start ++ a → map goal_view two ≡ map goal_view one ++ b → map goal_view two ≡ a ++ b
two-goals start one two a b e h k = k ∙ ap (λ gs. gs ++ b) (h ∙ ap (λ gs. map goal_view gs ++ a) e)
