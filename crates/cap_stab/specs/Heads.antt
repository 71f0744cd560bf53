-- What a choice that settles a fact makes of a goal, by its head.
use Rattle.std.specs.Prelude.{ℕ, ◌+◌, List, [], ◌∷◌, slice_get, Option, Some, None, option_map}
use Rattle.std.specs.Borrow.{Bor}
use Rattle.cap_prog.specs.Program.{PlainRegionType, PlainProgram}
use Rattle.cap_goal_spec.specs.States.{PlainFact, PlainState, PlainTask, to_rest, PlainGoal}
use Rattle.cap_goal_spec.specs.Choices.{PlainChoice, by_settle, by_keep}
use Rattle.cap_rules.specs.Attempts.{Attempt, ◌>>=◌, found, not_applicable}
use Rattle.cap_rules.specs.Resting.{settle, keep}
use Rattle.cap_rules.specs.Rules.{leaves}

-- to settle a fact by candidates, or to keep its state
abbrev pub IsSettling : PlainChoice → Type 0
IsSettling (by_settle list cs) = Unit {0}
IsSettling (by_keep cs) = Unit {0}
IsSettling c = ⊥

-- the numbers of the candidates; none where the state is kept
abbrev pub numbers_of : PlainChoice → Option (List ℕ)
numbers_of (by_settle list cs) = Some list
numbers_of c = None

abbrev pub numbers_seen : Option (Bor (List ℕ)) → Option (List ℕ)
numbers_seen list = option_map (λ l. l.now) list

-- a fact is settled by the candidates of these numbers, or its state is kept
abbrev pub settled_by :
    PlainRegionType → PlainState → ℕ → PlainFact → Option (List ℕ) → Attempt PlainState
settled_by k s j f (Some list) = settle k s j f list
settled_by k s j f None = keep k s j f

-- the fact of this number is settled; the facts behind it remain
abbrev pub rest_at :
    PlainProgram → PlainState → Option (List ℕ) → ℕ → ℕ → List PlainTask →
    Attempt (List PlainGoal)
rest_at p s list j n ts = do
  f ← found (slice_get s.facts j)
  k ← found (slice_get p.regions f.kind)
  s' ← settled_by k s j f list
  leaves s' (to_rest (j + 1) n ∷ ts)

-- the number of the fact from which on the facts are to be settled, and that of the statement
abbrev pub rest_from : PlainTask → Option (ℕ × ℕ)
rest_from (to_rest j n) = Some (j, n)
rest_from t = None

-- only where facts are to be settled first
abbrev pub rest_by :
    PlainProgram → PlainState → Option (List ℕ) → Option (ℕ × ℕ) → List PlainTask →
    Attempt (List PlainGoal)
rest_by p s list (Some x) ts = rest_at p s list x.0 x.1 ts
rest_by p s list None ts = not_applicable

abbrev pub rest_tasks :
    PlainProgram → PlainState → Option (List ℕ) → List PlainTask → Attempt (List PlainGoal)
rest_tasks p s list [] = not_applicable
rest_tasks p s list (t ∷ ts) = rest_by p s list (rest_from t) ts
