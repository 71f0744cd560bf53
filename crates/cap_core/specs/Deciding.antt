-- How a core is decided: one elimination a row, with the events on the way.
use Rattle.std.specs.Prelude.{◌≡◌, ℕ, Bool, true, false, is_some, if◌then◌else◌, List, [], ◌∷◌, ◌++◌}
use Rattle.std.specs.Prelude.{remove, Result, MatchResult, Vec, None}
use Rattle.std.specs.Global.{Global}
use Rattle.cap_lin.specs.Solves.{Infeasible}
use Rattle.cap_lin.specs.declared.row.Row.{Row}
use Rattle.cap_fm_spec.specs.Events.{first_limit}
use Rattle.cap_fm_spec.specs.Solving.{RowsAscend, Logged, logged, after, solved}
use Rattle.cap_fm_elimination.specs.Answers.{Explains}
use Rattle.cap_fm_elimination.specs.declared.error.SolveError.{SolveError}
use Rattle.cap_core.specs.Core.{Numbered, numbered_from, rows_of, numbers_of, IsCore}

-- a row stays unless a certificate was found without it
abbrev pub stays_unless : Bool → List Numbered → Numbered → List Numbered
stays_unless found stay n = if found then stay else stay ++ n ∷ []

unfoldable pub core_from : List Numbered → List Numbered → Logged (List ℕ)
core_from stay [] = logged [] (numbers_of stay)
core_from stay (n ∷ later) =
    let found = solved (rows_of (stay ++ later)) in
    after found.events (core_from (stays_unless (is_some found.value) stay n) later)

abbrev pub core_of : List Row → Logged (List ℕ)
core_of rows = core_from [] (numbered_from 0 rows)

-- the numbers, where no event passes a limit, and else the first limit that one passes
abbrev pub IsCoreOf : Result (Vec ℕ Global) SolveError → List Row → Type 0
IsCoreOf r rows =
    MatchResult r
    (λ ns. (first_limit (core_of rows).events ≡ None) × (ns.items ≡ (core_of rows).value))
    (λ e. Explains e (core_of rows).events)

-- where the parts of the rows' terms ascend and no event passes a limit, the numbers that are decided
-- are those of the core
abbrev pub DecidedAreCores : Type 0
DecidedAreCores =
    (rows : List Row) → RowsAscend rows → first_limit (core_of rows).events ≡ None
    → IsCore rows (core_of rows).value

-- ---- one decision

abbrev pub Says : Bool → List Row → Type 0
Says true rows = Infeasible rows
Says false rows = ¬ Infeasible rows

pub record IsDecided (rows : List Row) (found : Bool) : Type 0 where
  pub within : first_limit (solved rows).events ≡ None
  pub is : is_some (solved rows).value ≡ found
  pub says : Says found rows

abbrev pub Decides : List Row → Result Bool SolveError → Type 0
Decides rows r = MatchResult r (IsDecided rows) (λ e. Explains e (solved rows).events)

-- the row at this place is left out where a certificate is found without it, and else stays
pub record IsTried (rows : List Row) (place : ℕ) (left : List Row) (found : Bool) : Type 0 where
  pub decided : IsDecided (remove rows place) found
  pub left_are : left ≡ (if found then remove rows place else rows)

abbrev pub Tries : List Row → ℕ → List Row → Result Bool SolveError → Type 0
Tries rows place left r =
    MatchResult r (IsTried rows place left) (λ e. Explains e (solved (remove rows place)).events)
