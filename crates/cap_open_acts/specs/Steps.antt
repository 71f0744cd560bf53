-- What acting on a cell makes of a goal, step by step.
use Rattle.std.specs.Prelude.{ℕ, ◌==◌, Bool, List, [], ◌∷◌, flat_map, remove, slice_get, if◌then◌else◌}
use Rattle.cap_lin.specs.Linear.{Linear}
use Rattle.cap_lin.specs.declared.row.Sort.TheVariants.{Int}
use Rattle.cap_lin.specs.declared.row.Op.TheVariants.{Eq as Equal, Ne as Unequal}
use Rattle.cap_prog.specs.Program.{PlainAct}
use Rattle.cap_rules_steps.specs.cap_goal_spec.States.{PlainFact, PlainState, PlainTask, PlainGoal, goals_of}
use Rattle.cap_rules_steps.specs.cap_goal_spec.Environments.{zero_value, one_value}
use Rattle.cap_rules_steps.specs.cap_rules.Attempts.{Attempt, unit, ◌>>=◌, found}
use Rattle.cap_rules_steps.specs.cap_rules.Making.{sum, value_here, prove_equal, with_comparison, with_local}
use Rattle.cap_rules_steps.specs.cap_rules.Closing.{address_of, Rival, rivals, with_marks, with_content, acted, closing}

-- the pair of an opened region and fact f, number i, where they are of one type
abbrev pub rival_of : PlainFact → ℕ → PlainFact → List Rival
rival_of o i f =
    if f.kind == o.kind then record { opened = o; number = i; fact = f } ∷ [] else []

-- the statement of this number acts on cell j
abbrev pub act_at :
    PlainState → ℕ → List Bool → ℕ → PlainAct → List PlainTask → Attempt (List PlainGoal)
act_at s j marks n a ts = do
  x ← found (address_of a)
  c ← found (slice_get s.cells j)
  t ← value_here s x
  _ ← prove_equal s c.0 t
  s' ← with_marks s (rivals s) marks
  states ← acted s' j c a
  unit (flat_map (λ s''. goals_of s'' (closing s.opened n ts)) states)

-- a term's value is written to cell c, number j
abbrev pub written : PlainState → ℕ → Linear × Linear → Linear → Attempt PlainState
written s j c t = do
  u ← value_here s t
  unit (with_content s j c u)

-- cell c, number j, is compared with the value e, and where they are equal another one is swapped
-- in
abbrev pub swapped_by :
    PlainState → ℕ → Linear × Linear → ℕ → Linear → Linear → Attempt (List PlainState)
swapped_by s j c x e new = do
  s' ← with_comparison s c.1 Equal e Int
  u ← value_here s new
  s'' ← with_comparison s c.1 Unequal e Int
  unit (with_local (with_content s' j c u) x one_value ∷ with_local s'' x zero_value ∷ [])

-- the same with the value of a term
abbrev pub swapped :
    PlainState → ℕ → Linear × Linear → ℕ → Linear → Linear → Attempt (List PlainState)
swapped s j c x old new = do
  e ← value_here s old
  swapped_by s j c x e new

-- a local gets the content of cell c, number j, which a term's value is added to
abbrev pub added : PlainState → ℕ → Linear × Linear → ℕ → Linear → Attempt PlainState
added s j c x t = do
  u ← value_here s t
  v ← sum c.1 u
  unit (with_local (with_content s j c v) x c.1)

-- cell j goes
abbrev pub disposed : PlainState → ℕ → PlainState
disposed s j = record s { cells = remove s.cells j }
