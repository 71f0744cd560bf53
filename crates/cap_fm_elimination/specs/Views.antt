-- What is seen of the rows and the stage of an elimination.
use Rattle.std.specs.Prelude.{◌≡◌, ℕ, ◌+◌, ◌<◌, List, [], ◌∷◌, map, filter, reverse, length, get_or}
use Rattle.std.specs.Prelude.{true, false}
use Rattle.std.specs.List.{AllByRecursion, position_or_len}
use Rattle.cap_lin.specs.Linear.{Linear, is_zero, coefficient}
use Rattle.cap_lin.specs.Linear as linear
use Rattle.cap_lin.specs.declared.row.Kind.{Kind}
use Rattle.cap_fm_spec.specs.Runs as plain
use Rattle.cap_fm_spec.specs.Runs.{going, contradiction, Found}
use Rattle.cap_fm_spec.specs.Rows.{is_positive, is_negative, same_row, has_arisen, is_present}
use Rattle.cap_fm_elimination.specs.declared.entry.Origin.{Origin}
use Rattle.cap_fm_elimination.specs.declared.entry.Origin.TheVariants.{Given, Combined}
use Rattle.cap_fm_elimination.specs.Entries.{Entry}
use Rattle.cap_fm_elimination.specs.declared.entry.Present.{Present}
use Rattle.cap_fm_elimination.specs.declared.entry.FalseRow.{FalseRow}
use Rattle.cap_fm_elimination.specs.declared.entry.Arisen.{Arisen}
use Rattle.cap_fm_elimination.specs.declared.entry.Arisen.TheVariants.{LeftOut, Kept, False}
use Rattle.cap_fm_elimination.specs.declared.entry.Reached.{Reached}
use Rattle.cap_fm_elimination.specs.declared.entry.Reached.TheVariants.{Rows, Contradiction}
use Rattle.cap_fm_elimination.specs.declared.stage.Stage.{Stage}

abbrev pub origin_view : Origin → plain.Origin
origin_view (Given i) = plain.given i
origin_view (Combined a p b q) = plain.combined a p b q

-- the code has the first row of a history first, the definition the last
abbrev pub history_view : List Origin → List plain.Origin
history_view os = reverse (map origin_view os)

abbrev pub entry_view : Entry → plain.Entry
entry_view d = plain.entry d.term d.kind d.origin

abbrev pub entries_view : List Entry → List plain.Entry
entries_view ds = map entry_view ds

abbrev pub false_view : FalseRow → plain.Entry
false_view d = plain.entry (linear.number d.constant) d.kind d.origin

-- the term of the row of a number among those that arose, and 0 for a number that no row has
abbrev pub term_of : Stage → ℕ → Linear
term_of s n = get_or (map (λ f. f.0) s.forms.keys) n s.zero

-- a row that is present, with the term that the stage has of it
abbrev pub entry_of : Stage → Present → Entry
entry_of s d =
    record { term = term_of s d.number; kind = d.kind; origin = d.origin; number = d.number }

abbrev pub entries_of : Stage → List Present → List Entry
entries_of s ds = map (entry_of s) ds

abbrev pub arisen_view : Stage → Arisen → Found (List plain.Entry)
arisen_view s LeftOut = going []
arisen_view s (Kept d) = going (entry_view (entry_of s d) ∷ [])
arisen_view s (False d) = contradiction (false_view d)

abbrev pub reached_view : Stage → Reached → Found (List plain.Entry)
reached_view s (Rows ds) = going (entries_view (entries_of s ds.items))
reached_view s (Contradiction d) = contradiction (false_view d)

abbrev pub stage_view : Stage → plain.Stage
stage_view s = record { arisen = s.forms.keys; history = history_view s.history.items }

-- the number of a row among those that arose
abbrev pub row_number : Linear → Kind → List (Linear × Kind) → ℕ
row_number t k rows = position_or_len (λ r. same_row t k r.0 r.1) rows

-- the row arose under its number, and its place in the history is there
pub record IsNumbered (s : Stage) (d : Entry) : Type 0 where
  pub arose : has_arisen d.term d.kind (stage_view s).arisen ≡ true
  pub number : row_number d.term d.kind (stage_view s).arisen ≡ d.number
  pub origin : d.origin < length s.history.items

abbrev pub AreNumbered : Stage → List Entry → Type 0
AreNumbered s ds = AllByRecursion (IsNumbered s) ds

-- a row is a combination of earlier ones, or an input row
abbrev pub IsOrigin : ℕ → ℕ → Origin → Type 0
IsOrigin inputs place (Given i) = i < inputs
IsOrigin inputs place (Combined a p b q) = (p < place) × (q < place)

abbrev pub IsHistoryFrom : ℕ → ℕ → List Origin → Type 0
IsHistoryFrom inputs place [] = Unit {0}
IsHistoryFrom inputs place (o ∷ os) = IsOrigin inputs place o × IsHistoryFrom inputs (place + 1) os

abbrev pub IsHistory : ℕ → List Origin → Type 0
IsHistory inputs os = IsHistoryFrom inputs 0 os

-- the marks tell which of the rows that arose are present
pub record IsMarked (s : Stage) (present : List Entry) : Type 0 where
  pub long : length s.present.items ≡ length (stage_view s).arisen
  pub tell : (t : Linear) (k : Kind) → has_arisen t k (stage_view s).arisen ≡ true
      → get_or s.present.items (row_number t k (stage_view s).arisen) false
      ≡ is_present t k (entries_view present)

-- the stage of an elimination of so many input rows, in which these rows are present
pub record IsStageOf (inputs : ℕ) (s : Stage) (present : List Entry) : Type 0 where
  pub marked : IsMarked s present
  pub numbered : AreNumbered s present
  pub history : IsHistory inputs s.history.items

-- a false row is the last of the history
pub record IsLast (inputs : ℕ) (s : Stage) (d : FalseRow) : Type 0 where
  pub last : d.origin + 1 ≡ length s.history.items
  pub history : IsHistory inputs s.history.items

-- rows that were numbered before still are
abbrev pub Grows : Stage → Stage → Type 0
Grows old new = (d : Entry) → IsNumbered old d → IsNumbered new d

-- the rows that lack a variable
abbrev pub lacking_rows : ℕ → List Entry → List Entry
lacking_rows x ds = filter (λ d. is_zero (coefficient x d.term.parts)) ds

-- and those with a positive and with a negative coefficient of it
abbrev pub upper_rows : ℕ → List Entry → List Entry
upper_rows x ds = filter (λ d. is_positive (coefficient x d.term.parts)) ds

abbrev pub lower_rows : ℕ → List Entry → List Entry
lower_rows x ds = filter (λ d. is_negative (coefficient x d.term.parts)) ds
