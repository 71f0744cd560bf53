-- The record that a search keeps, over visits in their order.
use Rattle.std.specs.Prelude.{ℕ, zero, suc, Bool, true, false, is_some, List, [], ◌∷◌, Option, Some, None, option_map}
use Rattle.cap_prog.specs.Program.{PlainProgram}
use Rattle.cap_goal_spec.specs.States.{PlainGoal}
use Rattle.cap_goal_spec.specs.Choices.{PlainChoice, PlainTree}
use Rattle.cap_rules.specs.Valid.{deepest}
use Rattle.cap_offer_spec.specs.Deciding.{PlainNotes, clean}
use Rattle.cap_offer_spec.specs.Offering.{offered}
use Rattle.cap_search_spec.specs.Leaves.{Leaf, leaf_at, further}
use Rattle.cap_search_spec.specs.Seeking.{◌>>=◌, left_by, all_trees, tree_within, Visit, visit, root_tree}
use Rattle.cap_search_spec.specs.Verdicts.{joined, Finding, proved, spent, unproved}

-- what is left of the budget, whether a visit was too deep, what was noted, the number of the root,
-- and the leaf of its tree that is to be printed
pub record PlainWalk : Type 0 where
  pub left : ℕ
  pub deep : Bool
  pub notes : PlainNotes
  pub root : ℕ
  pub leaf : Option Leaf

abbrev pub with_leaf : PlainProgram → Option Leaf → PlainGoal → List PlainChoice → Option Leaf
with_leaf p o g [] = further o (leaf_at p g)
with_leaf p o g (c ∷ cs) = o

abbrev pub met :
    PlainProgram → PlainWalk → PlainGoal → List PlainChoice → PlainNotes → PlainWalk
met p w g cs n = record w { notes = joined w.notes n; leaf = with_leaf p w.leaf g cs }

abbrev pub seen : PlainProgram → PlainWalk → PlainGoal → Bool → PlainWalk
seen p w g true = record w { deep = true }
seen p w g false = met p w g (offered p g).value (offered p g).notes

-- a visit less is left, or nothing where the budget is spent
abbrev pub counted : PlainWalk → ℕ → Option PlainWalk
counted w zero = None
counted w (suc n) = Some (record w { left = n })

abbrev pub after : PlainProgram → PlainWalk → Visit → Option PlainWalk
after p w v = option_map (λ u. seen p u v.goal v.too_deep) (counted w w.left)

unfoldable pub walked : PlainProgram → PlainWalk → List Visit → Option PlainWalk
walked p w [] = Some w
walked p w (v ∷ vs) = after p w v >>= λ u. walked p u vs

-- ---- the same over goals, as the search goes

abbrev pub go_on_if : Bool → PlainWalk → (PlainWalk → Option PlainWalk) → Option PlainWalk
go_on_if true w f = f w
go_on_if false w f = Some w

abbrev pub go_on_unless : Bool → PlainWalk → (PlainWalk → Option PlainWalk) → Option PlainWalk
go_on_unless true w f = Some w
go_on_unless false w f = f w

unfoldable pub goals_walked :
    (PlainGoal → Option PlainTree) → (PlainWalk → PlainGoal → Option PlainWalk) → PlainWalk →
    List PlainGoal → Option PlainWalk
goals_walked tree_of walk w [] = Some w
goals_walked tree_of walk w (g ∷ gs) =
    walk w g >>= λ u. go_on_if (is_some (tree_of g)) u (λ x. goals_walked tree_of walk x gs)

abbrev pub left_walked :
    (PlainGoal → Option PlainTree) → (PlainWalk → PlainGoal → Option PlainWalk) → PlainWalk →
    Option (List PlainGoal) → Option PlainWalk
left_walked tree_of walk w None = Some w
left_walked tree_of walk w (Some gs) = goals_walked tree_of walk w gs

unfoldable pub choices_walked :
    PlainProgram → (PlainGoal → Option PlainTree) → (PlainWalk → PlainGoal → Option PlainWalk) →
    PlainGoal → PlainWalk → List PlainChoice → Option PlainWalk
choices_walked p tree_of walk g w [] = Some w
choices_walked p tree_of walk g w (c ∷ cs) =
    left_walked tree_of walk w (left_by p g c) >>= λ u.
    go_on_unless (is_some (left_by p g c >>= all_trees tree_of)) u
    (λ x. choices_walked p tree_of walk g x cs)

unfoldable pub walked_within : PlainProgram → ℕ → PlainWalk → PlainGoal → Option PlainWalk
walked_within p zero w g = after p w (visit true g)
walked_within p (suc room) w g =
    after p w (visit false g) >>= λ u.
    choices_walked p (tree_within p room) (walked_within p room) g u (offered p g).value

-- ---- over a unit

-- each tree begins without a leaf
abbrev pub at_root : ℕ → PlainWalk → PlainWalk
at_root root w = record w { root = root; leaf = None }

abbrev pub root_walked : PlainProgram → PlainWalk → Option PlainGoal → Option PlainWalk
root_walked p w None = Some w
root_walked p w (Some g) = walked_within p deepest w g

-- the roots from this number on
unfoldable pub unit_walked :
    PlainProgram → ℕ → PlainWalk → List (Option PlainGoal) → Option PlainWalk
unit_walked p root w [] = Some w
unit_walked p root w (r ∷ rs) =
    root_walked p (at_root root w) r >>= λ u.
    go_on_if (is_some (root_tree p r)) u (λ x. unit_walked p (suc root) x rs)

-- at the first root nothing is noted
abbrev pub fresh_walk : ℕ → PlainWalk
fresh_walk budget = record { left = budget; deep = false; notes = clean; root = 0; leaf = None }

-- the verdict by the record and the trees
abbrev pub found_by :
    ℕ → Option PlainWalk → Option (List (Option PlainTree)) → Finding
found_by budget None trees = spent budget
found_by budget (Some w) (Some ts) = proved ts
found_by budget (Some w) None = unproved w.deep w.notes w.root w.leaf
