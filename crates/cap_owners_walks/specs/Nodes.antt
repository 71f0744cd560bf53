-- What a walk does at a node.
use Rattle.std.specs.Prelude.{ℕ, ℤ, false, drop, List, [], ◌∷◌, slice_get, Option, Some, None}
use Rattle.cap_prog.specs.Program.{PlainProgram}
use Rattle.cap_goal_spec.specs.States.{PlainState}
use Rattle.cap_goal_spec.specs.Choices.{PlainChoice, by_enter}
use Rattle.cap_owners_spec.specs.Traced.{Traced, traced, ◌>>=◌, found, number_in}
use Rattle.cap_owners_spec.specs.Track.{Fill, GivenAssertion, Place, TrackedRegion, tracked_at}
use Rattle.cap_owners_spec.specs.Steps.{as_closed, beginning, closed_in_end, none_entered, taken_in_end}
use Rattle.cap_owners_spec.specs.Walks.{Taking, nothing_taken, Walk, Descent, descends, bringing, Interpreted, Interpreting, pass_tasks, walk_from}
use Rattle.cap_owners_places.specs.Places.{PlainPlaced, goal_in, choice_in}
use Rattle.cap_machine_accounts.specs.Assertions.{NameValue}

-- a node is passed
abbrev pub pass_node : Interpreting → PlainProgram → PlainPlaced → Walk → Traced Descent
pass_node enter p q w = pass_tasks enter p (goal_in q).state (choice_in q) (goal_in q).tasks w

-- the fact whose region is opened, by its number
abbrev pub opened_fact : PlainChoice → Option ℕ
opened_fact (by_enter i cs) = Some i
opened_fact c = None

-- the number of a region that is entered, and how many parameters its type has
pub record Opened : Type 0 where
  pub params : ℕ
  pub number : ℤ

abbrev pub opened_at : PlainProgram → PlainState → ℕ → List NameValue → Traced Opened
opened_at p s i vs = do
  f ← found (slice_get s.facts i)
  k ← found (slice_get p.regions f.kind)
  n ← number_in vs f.region
  traced (record { params = k.params; number = n })

-- in which case the region of this number is by now, and by what
abbrev pub interpreted_at : Interpreting → List TrackedRegion → ℤ → Traced Interpreted
interpreted_at enter rs n = do
  r ← found (tracked_at rs n)
  enter rs r

-- in which case a region is by now, and by what, by the walk from the root of its case on
abbrev pub case_walked :
    PlainProgram → List TrackedRegion → TrackedRegion → Place → Traced Interpreted
case_walked p rs r q = do
  h ← walk_from none_entered p false q (beginning rs r.fill.names [] (Some r.fill) [])
  closed_in_end r.owned.region.number h

-- by what an assertion that was given is met by now, by the walk from the root of its stability on
abbrev pub stability_walked :
    PlainProgram → List TrackedRegion → GivenAssertion → Place → Traced Fill
stability_walked p rs g q = do
  h ← walk_from none_entered p false q
      (beginning rs g.values (nothing_taken ∷ []) (Some g.fill) [])
  taken_in_end h

-- in which case the region of this number was closed, and by what
abbrev pub closed_at : List TrackedRegion → ℤ → Traced Interpreted
closed_at rs n = do
  r ← found (tracked_at rs n)
  traced (as_closed r)

-- by what the innermost of these is met
abbrev pub last_fill : List Taking → Traced Fill
last_fill ts = do
  t ← found (slice_get ts 0)
  traced t.fill

-- the region's case is given, by what its assertion is met
abbrev pub entered : ℕ → Walk → Interpreted → Descent
entered params w x =
    descends (Some x.case)
    (record (bringing w (drop params x.fill.names)) { fill = Some x.fill })

-- the region is entered
abbrev pub enter_opened : Interpreting → Walk → Opened → Traced Descent
enter_opened enter w o = do
  x ← interpreted_at enter w.regions o.number
  traced (entered o.params w x)
