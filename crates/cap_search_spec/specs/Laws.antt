-- What is said of verdicts.
use Rattle.std.specs.Prelude.{◌≡◌, ◌⊎◌, ◌<◌, ◌≤◌, ℕ, true, false, List, [], ◌∷◌, length, flat_map, Option, None}
use Rattle.std.specs.List.{AllByRecursion, AllZip}
use Rattle.cap_prog.specs.Program.{PlainProgram}
use Rattle.cap_goal_spec.specs.States.{PlainGoal}
use Rattle.cap_goal_spec.specs.Choices.{PlainTree}
use Rattle.cap_goal_spec.specs.Roots.{PlainUnit, units}
use Rattle.cap_rules.specs.Valid.{Derives, Valid}
use Rattle.cap_rules_ascending.specs.Ascending.{ProgramAscends}
use Rattle.cap_rules_ascending.specs.Laws.{RootAscends}
use Rattle.cap_offer_spec.specs.Deciding.{clean}
use Rattle.cap_search_spec.specs.Guided.{IsGuided, IsFirst, IsRootTree}
use Rattle.cap_search_spec.specs.Seeking.{visits_within, unit_trees, unit_visits, failing_visits, failing_root}
use Rattle.cap_search_spec.specs.Leaves.{Leaf}
use Rattle.cap_search_spec.specs.Verdicts.{any_deep, notes_of, leaves_of, proved, deep, stuck, found, verdict, is_proved}
use Rattle.cap_search_spec.specs.Walks.{PlainWalk, walked, walked_within, fresh_walk, unit_walked, found_by}

-- no leaf before it has its number, and none a greater one
abbrev pub IsFurthest : List Leaf → Leaf → Type 0
IsFurthest [] l = ⊥
IsFurthest (k ∷ ks) l =
    ((k ≡ l) × AllByRecursion (λ j. j.statement ≤ l.statement) ks)
    ⊎ ((k.statement < l.statement) × IsFurthest ks l)

-- the trees of a proved unit are the first ones, the terms of its roots being in order
abbrev pub FoundAreFirst : Type 0
FoundAreFirst =
    (p : PlainProgram) (n : ℕ) (rs : List (Option PlainGoal)) (ts : List (Option PlainTree)) →
    AllByRecursion RootAscends rs → found p n rs ≡ proved ts →
    AllZip (IsRootTree (IsFirst p)) ts rs

abbrev pub FirstAreGuided : Type 0
FirstAreGuided =
    (p : PlainProgram) (d : ℕ) (t : PlainTree) (g : PlainGoal) →
    IsFirst p d t g → IsGuided p d t g

abbrev pub FirstAreUnique : Type 0
FirstAreUnique =
    (p : PlainProgram) (d : ℕ) (t u : PlainTree) (g : PlainGoal) →
    IsFirst p d t g → IsFirst p d u g → t ≡ u

abbrev pub GuidedAreDerivations : Type 0
GuidedAreDerivations =
    (p : PlainProgram) (d : ℕ) (t : PlainTree) (g : PlainGoal) →
    IsGuided p d t g → Derives p d t g

-- where each root has a guided tree and the budget suffices, all trees are found
abbrev pub GuidedAreFound : Type 0
GuidedAreFound =
    (p : PlainProgram) (n : ℕ) (rs : List (Option PlainGoal)) (ts : List (Option PlainTree)) →
    AllZip (IsRootTree (IsGuided p)) ts rs → length (unit_visits p rs) ≤ n →
    (us : List (Option PlainTree)) × (found p n rs ≡ proved us)

abbrev pub DeepIsSeen : Type 0
DeepIsSeen =
    (p : PlainProgram) (n : ℕ) (rs : List (Option PlainGoal)) →
    AllByRecursion RootAscends rs → found p n rs ≡ deep → any_deep (unit_visits p rs) ≡ true

pub record IsStuck (p : PlainProgram) (n : ℕ) (rs : List (Option PlainGoal)) (number : ℕ) (l : Leaf) :
    Type 0 where
  pub cost : length (unit_visits p rs) ≤ n
  pub trees : unit_trees p rs ≡ None
  pub shallow : any_deep (unit_visits p rs) ≡ false
  pub notes : notes_of p (unit_visits p rs) ≡ clean
  pub root : failing_root p rs ≡ number
  pub leaf : IsFurthest (leaves_of p (failing_visits p rs)) l

abbrev pub StuckIsFurthest : Type 0
StuckIsFurthest =
    (p : PlainProgram) (n : ℕ) (rs : List (Option PlainGoal)) (root : ℕ) (l : Leaf) →
    found p n rs ≡ stuck root l → IsStuck p n rs root l

-- the verdict on the unit is that it is proved, by these trees
abbrev pub IsProved : PlainProgram → ℕ → PlainUnit → List (Option PlainTree) → Type 0
IsProved p n u ts = verdict p u n ≡ is_proved ts

-- where all units of a program whose terms are in order are proved, their trees, one unit's after the
-- other's, are a valid derivation
abbrev pub ProvedAreValid : Type 0
ProvedAreValid =
    (p : PlainProgram) (n : ℕ) (trees_by : PlainUnit → List (Option PlainTree)) →
    ProgramAscends p →
    AllByRecursion (λ u. IsProved p n u (trees_by u)) (units p) →
    Valid p (flat_map trees_by (units p))

-- the record goes over the visits in their order
abbrev pub WalksFollowVisits : Type 0
WalksFollowVisits =
    (p : PlainProgram) (room : ℕ) (w : PlainWalk) (g : PlainGoal) →
    walked_within p room w g ≡ walked p w (visits_within p room g)

-- and it tells the verdict
abbrev pub WalksTellVerdicts : Type 0
WalksTellVerdicts =
    (p : PlainProgram) (n : ℕ) (rs : List (Option PlainGoal)) →
    found p n rs ≡ found_by n (unit_walked p 0 (fresh_walk n) rs) (unit_trees p rs)
