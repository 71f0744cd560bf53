-- How an elimination goes on: its events, what arose, and whether it has met a false row.
use Rattle.std.specs.Prelude.{ℕ, List, [], ◌++◌, ℤ}
use Rattle.cap_lin.specs.Linear.{Linear}
use Rattle.cap_lin.specs.Steps.{Step}
use Rattle.cap_lin.specs.declared.row.Kind.{Kind}
use Rattle.cap_fm_spec.specs.Events.{Event, made_all}

-- where a row comes from: it is an input row, by its number, or a multiple of a row plus a multiple
-- of another, by their numbers in the history
pub data Origin : Type 0 where
  given : ℕ → Origin
  combined : ℤ → ℕ → ℤ → ℕ → Origin

-- a row of an elimination, with its number in the history; none is Ne
pub record Entry : Type 0 where
  pub term : Linear
  pub kind : Kind
  pub origin : ℕ

abbrev pub entry : Linear → Kind → ℕ → Entry
entry t k i = record { term = t; kind = k; origin = i }

-- the rows that ever arose, each once, in order; and where each row that was kept comes from, the
-- last first
pub record Stage : Type 0 where
  pub arisen : List (Linear × Kind)
  pub history : List Origin

abbrev pub at_first : Stage
at_first = record { arisen = []; history = [] }

pub data Found (A : Type 0) : Type 0 where
  going : A → Found A
  contradiction : Entry → Found A

pub record Run (A : Type 0) : Type 0 where
  pub events : List Event
  pub stage : Stage
  pub found : Found A

abbrev pub Elimination : Type 0 → Type 0
Elimination A = Stage → Run A

abbrev pub done : {A : Type 0} → A → Elimination A
done x s = record { events = []; stage = s; found = going x }

abbrev pub results : List Step → Elimination (Unit {0})
results steps s = record { events = made_all steps; stage = s; found = going tt }

abbrev pub behind : {A : Type 0} → List Event → Run A → Run A
behind es r = record { events = es ++ r.events; stage = r.stage; found = r.found }

-- a false row ends an elimination
abbrev pub go_on : {A B : Type 0} → List Event → Stage → Found A → (A → Elimination B) → Run B
go_on es s (going x) f = behind es (f x s)
go_on es s (contradiction e) f = record { events = es; stage = s; found = contradiction e }

infixl 10 ◌>>=◌
abbrev pub ◌>>=◌ : {A B : Type 0} → Elimination A → (A → Elimination B) → Elimination B
(m >>= f) s = go_on (m s).events (m s).stage (m s).found f
