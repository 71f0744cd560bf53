-- What the parts of an elimination, and the whole, answer.
use Rattle.std.specs.Prelude.{◌≡◌, ◌≢◌, ℕ, ◌<◌, ◌≤◌, ℤ, pos, List, [], ◌∷◌, ◌++◌, length, slice_set}
use Rattle.std.specs.Prelude.{Bool, true, false, Option, Some, None, Result, MatchResult}
use Rattle.std.specs.List.{AllByRecursion}
use Rattle.cap_lin.specs.Linear.{Linear, AscendFrom, is_zero, coefficient}
use Rattle.cap_lin.specs.Steps.{Step, first_wide}
use Rattle.cap_lin.specs.declared.row.Kind.{Kind}
use Rattle.cap_lin.specs.declared.row.Kind.TheVariants.{Ne}
use Rattle.cap_fm_spec.specs.Events.{Event, wide, many, first_limit}
use Rattle.cap_fm_spec.specs.Runs as plain
use Rattle.cap_fm_spec.specs.Runs.{Run, Found, going, contradiction}
use Rattle.cap_fm_spec.specs.Rows.{has_arisen, has_parts, count, of_row}
use Rattle.cap_fm_spec.specs.Elimination.{first_pivot, pivot, lacking, uppers, lowers, combine_all}
use Rattle.cap_fm_spec.specs.Elimination.{replacement, by_units, by_variables, width}
use Rattle.cap_fm_spec.specs.Solving.{Logged}
use Rattle.cap_fm_elimination.specs.declared.equations.Pivot.{Pivot}
use Rattle.cap_fm_elimination.specs.Views.{stage_view, entry_view, entries_view, entry_of, entries_of}
use Rattle.cap_fm_elimination.specs.Views.{false_view, arisen_view, reached_view, IsStageOf, IsLast, Grows}
use Rattle.cap_fm_elimination.specs.Views.{row_number}
use Rattle.cap_fm_elimination.specs.Entries.{Entry}
use Rattle.cap_fm_elimination.specs.declared.entry.Present.{Present}
use Rattle.cap_fm_elimination.specs.declared.entry.Origin.{Origin}
use Rattle.cap_fm_elimination.specs.declared.entry.Arisen.{Arisen}
use Rattle.cap_fm_elimination.specs.declared.entry.Arisen.TheVariants.{LeftOut, Kept, False}
use Rattle.cap_fm_elimination.specs.declared.entry.FalseRow.{FalseRow}
use Rattle.cap_fm_elimination.specs.declared.entry.Reached.{Reached}
use Rattle.cap_fm_elimination.specs.declared.entry.Reached.TheVariants.{Rows, Contradiction}
use Rattle.cap_fm_elimination.specs.declared.stage.Stage.{Stage}
use Rattle.cap_fm_elimination.specs.declared.error.SolveError.{SolveError}
use Rattle.cap_fm_elimination.specs.declared.error.SolveError.TheVariants as error

-- an error says which limit is the first that an event passes; want of memory may come in each case
abbrev pub Explains : SolveError → List Event → Type 0
Explains (error.Wide a b) es = first_limit es ≡ Some (wide a b)
Explains error.Rows es = first_limit es ≡ Some many
Explains error.OutOfMemory es = Unit {0}

-- and where there are results alone
abbrev pub ExplainsSteps : SolveError → List Step → Type 0
ExplainsSteps (error.Wide a b) steps = first_wide steps ≡ Some (a, b)
ExplainsSteps error.Rows steps = ⊥
ExplainsSteps error.OutOfMemory steps = Unit {0}

-- the value, where no result on the way leaves 128 bits, and else an error that explains the first
abbrev pub IsMadeBy : {A : Type 0} → List Step → A → Result A SolveError → Type 0
IsMadeBy steps value r =
    MatchResult r (λ x. (first_wide steps ≡ None) × (x ≡ value)) (λ e. ExplainsSteps e steps)

-- no event passes a limit, and what was found and the stage are those of the run
pub record Is {A : Type 0} (what : Found A) (at : plain.Stage) (run : Run A) : Type 0 where
  pub within : first_limit run.events ≡ None
  pub found : what ≡ run.found
  pub stage : at ≡ run.stage

-- two runs find the same, and pass the same limit first
pub record Same {A : Type 0} (r s : Run A) : Type 0 where
  pub limit : first_limit r.events ≡ first_limit s.events
  pub found : r.found ≡ s.found
  pub stage : r.stage ≡ s.stage

-- the rows that are present after a row arose
abbrev pub IsStageOfArisen : ℕ → Stage → List Entry → Arisen → Type 0
IsStageOfArisen inputs s present LeftOut = IsStageOf inputs s present
IsStageOfArisen inputs s present (Kept d) = IsStageOf inputs s (present ++ (entry_of s d ∷ []))
IsStageOfArisen inputs s present (False d) = IsLast inputs s d

abbrev pub Arises : ℕ → Stage → Stage → List Entry → Run (List plain.Entry) → Arisen → Type 0
Arises inputs old new present run a =
    Is (arisen_view new a) (stage_view new) run × IsStageOfArisen inputs new present a
    × Grows old new

abbrev pub IsStageOfReached : ℕ → Stage → Reached → Type 0
IsStageOfReached inputs s (Rows ds) = IsStageOf inputs s (entries_of s ds.items)
IsStageOfReached inputs s (Contradiction d) = IsLast inputs s d

abbrev pub Reaches : ℕ → Stage → Run (List plain.Entry) → Reached → Type 0
Reaches inputs new run r =
    Is (reached_view new r) (stage_view new) run × IsStageOfReached inputs new r

abbrev pub DoesArise : ℕ → Stage → Stage → List Entry → Run (List plain.Entry)
    → Result Arisen SolveError → Type 0
DoesArise inputs old new present run r =
    MatchResult r (Arises inputs old new present run) (λ e. Explains e run.events)

abbrev pub DoesReach : ℕ → Stage → Run (List plain.Entry) → Result Reached SolveError → Type 0
DoesReach inputs new run r = MatchResult r (Reaches inputs new run) (λ e. Explains e run.events)

-- a row was counted under a number, whose mark tells whether it is present
pub record IsCounted (inputs : ℕ) (old new : Stage) (present : List Entry) (t : Linear) (k : Kind)
    (n : ℕ) : Type 0 where
  pub is : Is (going tt) (stage_view new) (count t k (stage_view old))
  pub fits : IsStageOf inputs new present
  pub grows : Grows old new
  pub history : new.history.items ≡ old.history.items
  pub arose : has_arisen t k (stage_view new).arisen ≡ true
  pub number : row_number t k (stage_view new).arisen ≡ n

abbrev pub DoesCount : ℕ → Stage → Stage → List Entry → Linear → Kind → Result ℕ SolveError → Type 0
DoesCount inputs old new present t k r =
    MatchResult r (IsCounted inputs old new present t k)
    (λ e. Explains e (count t k (stage_view old)).events)

-- one mark is changed, where there is one of this number
pub record Remarks (old new : Stage) (number : ℕ) (mark : Bool) : Type 0 where
  pub forms : new.forms.keys ≡ old.forms.keys
  pub history : new.history.items ≡ old.history.items
  pub marks : new.present.items ≡ slice_set old.present.items number mark
  pub zero : new.zero ≡ old.zero

-- one more origin stands at a place of the history
pub record Notes (old new : Stage) (origin : Origin) (at : ℕ) : Type 0 where
  pub forms : new.forms.keys ≡ old.forms.keys
  pub marks : new.present.items ≡ old.present.items
  pub history : new.history.items ≡ old.history.items ++ (origin ∷ [])
  pub place : at ≡ length old.history.items

-- some rows are no longer present, and no other thing has changed
pub record OnlyLeaves (inputs : ℕ) (old new : Stage) (present : List Entry) : Type 0 where
  pub fits : IsStageOf inputs new present
  pub grows : Grows old new
  pub stage : stage_view new ≡ stage_view old
  pub same : (d : Present) → entry_of new d ≡ entry_of old d

-- a pivot is the first, stands at its place among the rows, and has its variable
pub record IsPivotAt (choice : List (ℕ × ℤ) → Option ℕ) (rows : List Entry) (p : Pivot)
    : Type 0 where
  pub before : List Entry
  pub equation : Entry
  pub after : List Entry
  pub rows_are : rows ≡ before ++ (equation ∷ after)
  pub place : p.place ≡ length before
  pub has : is_zero (coefficient p.variable equation.term.parts) ≡ false
  pub is : first_pivot choice (entries_view rows)
      ≡ Some (pivot (entry_view equation) (entries_view (before ++ after)) p.variable)

abbrev pub IsPivot : (List (ℕ × ℤ) → Option ℕ) → List Entry → Option Pivot → Type 0
IsPivot choice rows None = first_pivot choice (entries_view rows) ≡ None
IsPivot choice rows (Some p) = IsPivotAt choice rows p

-- the rows that are there after the combinations of one row, or a false row
abbrev pub each_view : List Entry → Option FalseRow → Found (List plain.Entry)
each_view kept None = going (entries_view kept)
each_view kept (Some d) = contradiction (false_view d)

abbrev pub IsStageOfEach : ℕ → Stage → List Entry → Option FalseRow → Type 0
IsStageOfEach inputs s kept None = IsStageOf inputs s kept
IsStageOfEach inputs s kept (Some d) = IsLast inputs s d

abbrev pub DoesEach : ℕ → Stage → Stage → List Entry → Run (List plain.Entry)
    → Result (Option FalseRow) SolveError → Type 0
DoesEach inputs old new kept run r =
    MatchResult r
    (λ o. Is (each_view kept o) (stage_view new) run × IsStageOfEach inputs new kept o
    × Grows old new)
    (λ e. Explains e run.events)

-- the combinations of all bounds of a variable
abbrev pub AllBounds : ℕ → List Entry → Stage → Run (List plain.Entry)
AllBounds x rows s =
    combine_all x (lacking x (entries_view rows)) (uppers x (entries_view rows))
    (lowers x (entries_view rows)) (stage_view s)

-- the combination of a row that has a variable with an equation
abbrev pub Replacement : ℕ → Entry → Entry → List Entry → Stage → Run (List plain.Entry)
Replacement x equation row present s =
    replacement (entries_view present) (of_row x (entry_view equation)) (of_row x (entry_view row))
    (entry_view equation) (entry_view row) (stage_view s)

-- the elimination by the equations of rows that have a coefficient 1 or -1
abbrev pub AllUnits : List Entry → Stage → Run (List plain.Entry)
AllUnits rows s = by_units (length rows) (entries_view rows) (stage_view s)

-- the elimination of the variables of rows, one after the other
abbrev pub AllVariables : List Entry → Stage → Run (List plain.Entry)
AllVariables rows s = by_variables 0 (width (entries_view rows)) (entries_view rows) (stage_view s)

-- what is answered is the value, where no event passes a limit
abbrev pub IsLogged : {A : Type 0} → Result A SolveError → Logged A → Type 0
IsLogged r l =
    MatchResult r (λ x. (first_limit l.events ≡ None) × (x ≡ l.value)) (λ e. Explains e l.events)

-- a variable that is in no row
abbrev pub Lack : ℕ → List Entry → Type 0
Lack x rows = AllByRecursion (λ d. coefficient x d.term.parts ≡ pos 0) rows

-- the least variable of rows that is at least `low`
abbrev pub IsLeast : ℕ → List Entry → Option ℕ → Type 0
IsLeast low rows None = (x : ℕ) → low ≤ x → Lack x rows
IsLeast low rows (Some y) =
    (low ≤ y) × (Lack y rows → ⊥) × ((x : ℕ) → low ≤ x → x < y → Lack x rows)

-- what holds of each row that is present
pub record IsRow (d : Entry) : Type 0 where
  pub ascends : AscendFrom 0 d.term.parts
  pub kind : d.kind ≢ Ne
  pub parts : has_parts d.term ≡ true

abbrev pub AreRows : List Entry → Type 0
AreRows ds = AllByRecursion IsRow ds
