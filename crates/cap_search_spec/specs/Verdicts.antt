-- The verdict on a unit, with a budget of visits.
use Rattle.std.specs.Prelude.{ℕ, ℤ, nat_lt, Bool, true, false, ◌||◌, if◌then◌else◌, List, [], ◌∷◌, ◌++◌, length, Option, Some, None}
use Rattle.cap_lin.specs.Steps.{first_wide}
use Rattle.cap_prog.specs.Program.{PlainProgram}
use Rattle.cap_goal_spec.specs.States.{PlainGoal}
use Rattle.cap_goal_spec.specs.Choices.{PlainChoice, PlainTree}
use Rattle.cap_goal_spec.specs.Roots.{PlainUnit, roots, roots_steps}
use Rattle.cap_offer_spec.specs.Deciding.{PlainNotes, clean}
use Rattle.cap_offer_spec.specs.Offering.{offered}
use Rattle.cap_search_spec.specs.Seeking.{Visit, unit_trees, unit_visits, failing_visits, failing_root}
use Rattle.cap_search_spec.specs.Leaves.{Leaf, leaf_at, further, PlainObligation, obligation_of}

-- ---- what visits show

unfoldable pub any_deep : List Visit → Bool
any_deep [] = false
any_deep (v ∷ vs) = v.too_deep || any_deep vs

abbrev pub or_later : Option (ℤ × ℤ) → Option (ℤ × ℤ) → Option (ℤ × ℤ)
or_later None o = o
or_later (Some w) o = Some w

-- the first of each kind
abbrev pub joined : PlainNotes → PlainNotes → PlainNotes
joined n m = record { wide = or_later n.wide m.wide; rows = n.rows || m.rows }

abbrev pub notes_at : PlainProgram → Bool → PlainGoal → PlainNotes
notes_at p true g = clean
notes_at p false g = (offered p g).notes

unfoldable pub notes_of : PlainProgram → List Visit → PlainNotes
notes_of p [] = clean
notes_of p (v ∷ vs) = joined (notes_at p v.too_deep v.goal) (notes_of p vs)

-- a goal that isn't too deep is a leaf where no choice is offered
abbrev pub leaves_by : PlainProgram → PlainGoal → List PlainChoice → List Leaf
leaves_by p g [] = leaf_at p g ∷ []
leaves_by p g (c ∷ cs) = []

abbrev pub leaves_at : PlainProgram → Bool → PlainGoal → List Leaf
leaves_at p true g = []
leaves_at p false g = leaves_by p g (offered p g).value

unfoldable pub leaves_of : PlainProgram → List Visit → List Leaf
leaves_of p [] = []
leaves_of p (v ∷ vs) = leaves_at p v.too_deep v.goal ++ leaves_of p vs

-- the first among those with the greatest number, or one kept from before
unfoldable pub furthest : Option Leaf → List Leaf → Option Leaf
furthest o [] = o
furthest o (l ∷ ls) = furthest (further o l) ls

-- ---- the verdict by the roots

-- the last has the number of the root whose tree isn't found
pub data Finding : Type 0 where
  proved : List (Option PlainTree) → Finding
  spent : ℕ → Finding
  deep : Finding
  too_wide : ℤ → ℤ → Finding
  too_many : Finding
  stuck : ℕ → Leaf → Finding

-- where no visit is too deep, a tree that isn't found has a leaf
abbrev pub stuck_at : ℕ → Option Leaf → Finding
stuck_at root None = deep
stuck_at root (Some l) = stuck root l

abbrev pub by_notes : Option (ℤ × ℤ) → Bool → ℕ → Option Leaf → Finding
by_notes (Some w) rows root l = too_wide w.0 w.1
by_notes None true root l = too_many
by_notes None false root l = stuck_at root l

abbrev pub unproved : Bool → PlainNotes → ℕ → Option Leaf → Finding
unproved true n root l = deep
unproved false n root l = by_notes n.wide n.rows root l

abbrev pub by_trees :
    PlainProgram → Option (List (Option PlainTree)) → List (Option PlainGoal) → Finding
by_trees p (Some ts) rs = proved ts
by_trees p None rs =
    unproved (any_deep (unit_visits p rs)) (notes_of p (unit_visits p rs)) (failing_root p rs)
    (furthest None (leaves_of p (failing_visits p rs)))

unfoldable pub found : PlainProgram → ℕ → List (Option PlainGoal) → Finding
found p budget rs =
    if nat_lt budget (length (unit_visits p rs)) then spent budget else by_trees p (unit_trees p rs) rs

-- ---- the verdict on a unit

pub data PlainVerdict : Type 0 where
  is_proved : List (Option PlainTree) → PlainVerdict
  is_spent : ℕ → PlainVerdict
  is_deep : PlainVerdict
  is_wide : ℤ → ℤ → PlainVerdict
  is_rows : PlainVerdict
  is_stuck : PlainObligation → PlainVerdict

abbrev pub verdict_of : PlainProgram → PlainUnit → Finding → PlainVerdict
verdict_of p u (proved ts) = is_proved ts
verdict_of p u (spent n) = is_spent n
verdict_of p u deep = is_deep
verdict_of p u (too_wide a b) = is_wide a b
verdict_of p u too_many = is_rows
verdict_of p u (stuck root l) = is_stuck (obligation_of p u root l)

-- where a term of the roots is too wide, nothing is visited
abbrev pub unless_wide : Option (ℤ × ℤ) → PlainVerdict → PlainVerdict
unless_wide None v = v
unless_wide (Some w) v = is_wide w.0 w.1

unfoldable pub verdict : PlainProgram → PlainUnit → ℕ → PlainVerdict
verdict p u budget =
    unless_wide (first_wide (roots_steps p u)) (verdict_of p u (found p budget (roots p u)))
