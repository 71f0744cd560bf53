-- The rows on the way to a row of a history: their marks are found downwards, and their results
-- made upwards.
use Rattle.std.specs.Prelude.{◌≡◌, ℕ, ◌+◌, ◌<◌, List, [], ◌∷◌, ◌++◌, length, reverse, get_or}
use Rattle.std.specs.Prelude.{slice_set, ◌==◌, Bool, true, false, pos}
use Rattle.cap_lin.specs.Linear.{Linear, number}
use Rattle.cap_lin.specs.Steps.{Step}
use Rattle.cap_fm_spec.specs.Runs.{Origin, given, combined}
use Rattle.cap_fm_spec.specs.Leaf.{multipliers, own_steps, way_steps}

-- the mark at a place tells whether its row is on the way
abbrev pub is_marked : List Bool → ℕ → Bool
is_marked marks i = get_or marks i false

-- the rows that a row is a combination of are below a place
abbrev pub RowsBelow : ℕ → Origin → Type 0
RowsBelow place (given i) = Unit {0}
RowsBelow place (combined a p b q) = (p < place) × (q < place)

-- from a place on, each row is a combination of earlier ones; the history has the first row first
unfoldable pub AreEarlier : ℕ → List Origin → Type 0
AreEarlier place [] = Unit {0}
AreEarlier place (o ∷ os) = RowsBelow place o × AreEarlier (place + 1) os

-- the rows that a row is a combination of are on the way
abbrev pub IsReached : (ℕ → Bool) → Origin → Type 0
IsReached way (given i) = Unit {0}
IsReached way (combined a p b q) = (way p ≡ true) × (way q ≡ true)

-- these rows are marked too
abbrev pub with_rows : Origin → List Bool → List Bool
with_rows (given i) marks = marks
with_rows (combined a p b q) marks = slice_set (slice_set marks p true) q true

-- from a place on, the rows that a row on the way is a combination of are on the way; the history
-- has the first row first
unfoldable pub IsClosed : (ℕ → Bool) → ℕ → List Origin → Type 0
IsClosed way place [] = Unit {0}
IsClosed way place (o ∷ os) = (way place ≡ true → IsReached way o) × IsClosed way (place + 1) os

-- the results of a row, where it is on the way
abbrev pub steps_at : Bool → Origin → (ℕ → Linear) → List Step
steps_at true o terms = own_steps o terms
steps_at false o terms = []

-- from a place on, the results of the rows on the way; the history has the first row first
unfoldable pub rising_steps : (ℕ → Bool) → (ℕ → Linear) → ℕ → List Origin → List Step
rising_steps way terms place [] = []
rising_steps way terms place (o ∷ os) =
    steps_at (way place) o terms ++ rising_steps way terms (place + 1) os

-- the results of the multipliers of the row at a place
abbrev pub steps_of : List Origin → ℕ → List Step
steps_of history last = way_steps history (λ i. i == last)

-- the marks of the rows on the way to the one at a place
pub record IsWay (history : List Origin) (last : ℕ) (marks : List Bool) : Type 0 where
  pub long : length marks ≡ length history
  pub own : is_marked marks last ≡ true
  pub closed : IsClosed (is_marked marks) 0 history
  pub steps : rising_steps (is_marked marks) (multipliers (reverse history)) 0 history
      ≡ steps_of (reverse history) last

-- the term at a place
abbrev pub term_at : List Linear → ℕ → Linear
term_at terms i = get_or terms i (number (pos 0))
