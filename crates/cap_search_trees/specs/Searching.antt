-- What a search answers: a tree or none, with the record after it, or why it ends early.
use Rattle.std.specs.Prelude.{◌≡◌, List, ◌++◌, Option, Some, None, option_map, Result, Ok, Err}
use Rattle.cap_search_spec.specs.Walks.{PlainWalk, counted}
use Rattle.cap_search_trees.specs.declared.walk.Walk.{Walk}
use Rattle.cap_search_trees.specs.declared.walk.Stop.{Stop}
use Rattle.cap_search_trees.specs.declared.walk.Stop.TheVariants.{Spent, OutOfMemory}
use Rattle.cap_search_trees.specs.Views.{walk_view}

-- the budget is spent; want of memory may come in either case
abbrev pub IsStop : Stop → Option PlainWalk → Type 0
IsStop Spent end = end ≡ None
IsStop OutOfMemory end = Unit {0}

-- what is found is this, and the record is the one at the end
abbrev pub Searched :
    {A B : Type 0} → (A → B) → Walk → Result (Option A) Stop → Option B → Option PlainWalk → Type 0
Searched view new (Ok o) found end = (option_map view o ≡ found) × (end ≡ Some (walk_view new))
Searched view new (Err e) found end = IsStop e end

-- a visit less is left, or nothing where the budget is spent
abbrev pub Counts : Walk → Walk → Result (Unit {0}) Stop → Type 0
Counts old new (Ok x) = counted (walk_view old) old.left ≡ Some (walk_view new)
Counts old new (Err e) = IsStop e (counted (walk_view old) old.left)

-- what comes behind what was found
abbrev pub behind : {A : Type 0} → List A → Option (List A) → Option (List A)
behind xs o = option_map (λ ys. xs ++ ys) o
