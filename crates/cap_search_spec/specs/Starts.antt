-- Whether nothing meets main's precondition, as far as its comparisons and cells say.
use Rattle.std.specs.Prelude.{ℤ, Bool, false, is_some, List, [], ◌∷◌, ◌++◌, flat_map, map, slice_get, Option, Some, None}
use Rattle.cap_lin.specs.Linear.{Linear}
use Rattle.cap_lin.specs.Steps.{first_wide}
use Rattle.cap_lin.specs.Rows.{row_of, row_of_steps}
use Rattle.cap_lin.specs.declared.row.Row.{Row}
use Rattle.cap_lin.specs.declared.row.Sort.TheVariants.{Int}
use Rattle.cap_lin.specs.declared.row.Op.{Op}
use Rattle.cap_lin.specs.declared.row.Op.TheVariants.{Ge as AtLeast, Ne as Unequal}
use Rattle.cap_prog.specs.Program.{compare, cell, Items, none, item, PlainFunction, PlainProgram}
use Rattle.cap_goal_spec.specs.Environments.{one_value}
use Rattle.cap_goal_spec.specs.Candidates.{MadeRow}
use Rattle.cap_goal_spec.specs.Roots.{written_row, written_steps}
use Rattle.cap_offer_spec.specs.Deciding.{clean, decided}

abbrev pub made : Linear → Op → Linear → MadeRow
made l op r = record { row = row_of l op r Int; steps = row_of_steps l op r Int }

abbrev pub comparisons : Items → List MadeRow
comparisons none = []
comparisons (item (compare c) more) =
    record { row = written_row c; steps = written_steps c } ∷ comparisons more
comparisons (item i more) = comparisons more

abbrev pub addresses : Items → List Linear
addresses none = []
addresses (item (cell place a x) more) = a ∷ addresses more
addresses (item i more) = addresses more

-- each with each later one
abbrev pub different : List Linear → List MadeRow
different [] = []
different (a ∷ bs) = map (λ b. made a Unequal b) bs ++ different bs

-- what holds of a state that meets the precondition
abbrev pub start_rows : Items → List MadeRow
start_rows items =
    comparisons items
    ++ (map (λ a. made a AtLeast one_value) (addresses items) ++ different (addresses items))

abbrev pub refuted_unless : Option (ℤ × ℤ) → List Row → Bool
refuted_unless None rows = is_some (decided rows clean).value
refuted_unless (Some w) rows = false

abbrev pub refuted_rows : List MadeRow → Bool
refuted_rows ms =
    refuted_unless (first_wide (flat_map (λ (m : MadeRow). m.steps) ms))
    (map (λ (m : MadeRow). m.row) ms)

abbrev pub empty_by : Option PlainFunction → Bool
empty_by None = false
empty_by (Some f) = refuted_rows (start_rows f.requires)

-- elimination refutes them, within all limits
unfoldable pub empty_start : PlainProgram → Bool
empty_start p = empty_by (slice_get p.functions p.main)
