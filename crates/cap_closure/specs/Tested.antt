-- The candidates that hold at present, one after the other.
use Rattle.std.specs.Prelude.{ℕ, ◌+◌, Bool, true, false, List, [], ◌∷◌, ◌++◌, option_map, option_to_list, Option, Some, None}
use Rattle.cap_lin.specs.declared.row.Row.{Row}
use Rattle.cap_fm_spec.specs.Events.{wide}
use Rattle.cap_goal_spec.specs.States.{PlainFact, PlainState}
use Rattle.cap_goal_spec.specs.Candidates.{PlainCandidate, known, past}
use Rattle.cap_rules.specs.Attempts.{Attempt}
use Rattle.cap_rules.specs.Resting.{prove_at}
use Rattle.cap_offer_spec.specs.Deciding.{Noted, done, note, ◌>>=◌, succeeds}
use Rattle.cap_offer_spec.specs.Closures.{Listed, listed}

abbrev pub listed_if : Bool → ℕ → Row → Option Listed
listed_if true i r = Some (listed i r)
listed_if false i r = None

-- a candidate, where it is proved with the present state
abbrev pub started_one : PlainState → PlainFact → ℕ → PlainCandidate → Noted (Option Listed)
started_one s f i (known r) = do
  b ← succeeds (prove_at s s.rows f.state (r ∷ []))
  done (listed_if b i r)
started_one s f i (past a b) = do
  _ ← note (wide a b)
  done None

-- those of the candidates, numbered from `i` on, that are proved with the present state
unfoldable pub started_from : PlainState → PlainFact → ℕ → List PlainCandidate → Noted (List Listed)
started_from s f i [] = done []
started_from s f i (c ∷ cs) = do
  x ← started_one s f i c
  xs ← started_from s f (i + 1) cs
  done (option_to_list x ++ xs)

-- an attempt, of whose value is only told whether there is one
abbrev pub without_value : {A : Type 0} → Attempt A → Attempt (Unit {0})
without_value o = record { events = o.events; value = option_map (λ x. tt) o.value }
