-- The leaf of a false row: its multipliers of the input rows, and the results on the way to them.
use Rattle.std.specs.Prelude.{ℕ, ◌==◌, List, [], ◌∷◌, ◌++◌, length, ℤ, pos, Bool, true, false, ◌||◌}
use Rattle.std.specs.Prelude.{if◌then◌else◌}
use Rattle.cap_lin.specs.Linear.{Linear, number, variable, negative, combination}
use Rattle.cap_lin.specs.Steps.{Step, negative_steps, combination_steps}
use Rattle.cap_lin.specs.declared.row.Row.{Row}
use Rattle.cap_lin.specs.declared.row.Kind.{Kind}
use Rattle.cap_lin.specs.declared.row.Kind.TheVariants.{Eq}
use Rattle.cap_farkas.specs.Farkas.{row_at}
use Rattle.cap_fm_spec.specs.Runs.{Origin, given, combined, Entry}
use Rattle.cap_fm_spec.specs.Rows.{is_negative}

-- the multipliers of a row are a term whose variables are the numbers of the input rows
abbrev pub multipliers_of : Origin → (ℕ → Linear) → Linear
multipliers_of (given i) earlier = variable i
multipliers_of (combined a p b q) earlier = combination a (earlier p) b (earlier q)

-- of the row of a number; the history has the last row first
unfoldable pub multipliers : List Origin → ℕ → Linear
multipliers [] i = number (pos 0)
multipliers (o ∷ older) i =
    if i == length older then multipliers_of o (multipliers older) else multipliers older i

-- the rows that a row is a combination of are on the way to it
abbrev pub and_its_rows : Origin → (ℕ → Bool) → ℕ → Bool
and_its_rows (given i) way j = way j
and_its_rows (combined a p b q) way j = (j == p) || ((j == q) || way j)

abbrev pub own_steps : Origin → (ℕ → Linear) → List Step
own_steps (given i) earlier = []
own_steps (combined a p b q) earlier = combination_steps a (earlier p) b (earlier q)

-- the results for each row on the way, in the order in which these rows arose
unfoldable pub way_steps : List Origin → (ℕ → Bool) → List Step
way_steps [] way = []
way_steps (o ∷ older) way =
    if way (length older)
    then way_steps older (and_its_rows o way) ++ own_steps o (multipliers older)
    else way_steps older way

-- an equation with a negative constant is turned round
abbrev pub is_turned : Kind → ℤ → Bool
is_turned Eq c = is_negative c
is_turned k c = false

abbrev pub turned : Bool → Linear → Linear
turned true m = negative m
turned false m = m

abbrev pub turned_steps : Bool → Linear → List Step
turned_steps true m = negative_steps m
turned_steps false m = []

-- a leaf is checked by adding up its rows, row by row and part by part
unfoldable pub check_steps : List Row → Linear → List (ℕ × ℤ) → List Step
check_steps rows sum [] = []
check_steps rows sum (p ∷ ps) =
    combination_steps (pos 1) sum p.1 (row_at rows p.0).term
    ++ check_steps rows (combination (pos 1) sum p.1 (row_at rows p.0).term) ps

-- of a false row, by its number
abbrev pub leaf : List Origin → Entry → Linear
leaf history e = turned (is_turned e.kind e.term.constant) (multipliers history e.origin)

abbrev pub leaf_steps : List Row → List Origin → Entry → List Step
leaf_steps rows history e =
    way_steps history (λ i. i == e.origin)
    ++ (turned_steps (is_turned e.kind e.term.constant) (multipliers history e.origin)
    ++ check_steps rows (number (pos 0)) (leaf history e).parts)
