-- Rows: what is known of a term; the rows of comparisons, and the negations of rows.
use Rattle.std.specs.Prelude.{List, [], ◌∷◌, ◌++◌, pos}
use Rattle.cap_lin.specs.Linear.{Linear, minus, negative, plus_one}
use Rattle.cap_lin.specs.Steps.{Step, sum_of, minus_steps, negative_steps}
use Rattle.cap_lin.specs.declared.row.Row.{Row}
use Rattle.cap_lin.specs.declared.row.Sort.{Sort}
use Rattle.cap_lin.specs.declared.row.Sort.TheVariants.{Int, Perm}
use Rattle.cap_lin.specs.declared.row.Kind.{Kind}
use Rattle.cap_lin.specs.declared.row.Kind.TheVariants.{Le, Lt, Eq, Ne}
use Rattle.cap_lin.specs.declared.row.Op.{Op}
use Rattle.cap_lin.specs.declared.row.Op.TheVariants.{Le as AtMost, Lt as Less, Eq as Equal}
use Rattle.cap_lin.specs.declared.row.Op.TheVariants.{Ne as Unequal, Gt as Greater, Ge as AtLeast}

abbrev pub row : Kind → Sort → Linear → Row
row k s t = record { term = t; kind = k; sort = s }

-- the row that a term is below 0; a whole number below 0 is at most -1
abbrev pub below_zero : Sort → Linear → Row
below_zero Int t = row Le Int (plus_one t)
below_zero Perm t = row Lt Perm t

abbrev pub below_zero_steps : Sort → Linear → List Step
below_zero_steps Int t = sum_of t.constant (pos 1) ∷ []
below_zero_steps Perm t = []

-- the row that a term is above 0
abbrev pub above_zero : Sort → Linear → Row
above_zero s t = below_zero s (negative t)

unfoldable pub above_zero_steps : Sort → Linear → List Step
above_zero_steps s t = negative_steps t ++ below_zero_steps s (negative t)

-- the row of a difference below 0
unfoldable pub less_steps : Linear → Linear → Sort → List Step
less_steps l r s = minus_steps l r ++ below_zero_steps s (minus l r)

-- the row of a comparison, of a left term and a right one
abbrev pub row_of : Linear → Op → Linear → Sort → Row
row_of l Equal r s = row Eq s (minus l r)
row_of l Unequal r s = row Ne s (minus l r)
row_of l Less r s = below_zero s (minus l r)
row_of l AtMost r s = row Le s (minus l r)
row_of l Greater r s = below_zero s (minus r l)
row_of l AtLeast r s = row Le s (minus r l)

abbrev pub row_of_steps : Linear → Op → Linear → Sort → List Step
row_of_steps l Equal r s = minus_steps l r
row_of_steps l Unequal r s = minus_steps l r
row_of_steps l Less r s = less_steps l r s
row_of_steps l AtMost r s = minus_steps l r
row_of_steps l Greater r s = less_steps r l s
row_of_steps l AtLeast r s = minus_steps r l

-- the rows of which one holds exactly where a row doesn't
abbrev pub negations_as : Kind → Sort → Linear → List Row
negations_as Le s t = above_zero s t ∷ []
negations_as Lt s t = row Le s (negative t) ∷ []
negations_as Eq s t = below_zero s t ∷ above_zero s t ∷ []
negations_as Ne s t = row Eq s t ∷ []

abbrev pub negations : Row → List Row
negations r = negations_as r.kind r.sort r.term

abbrev pub negations_steps_as : Kind → Sort → Linear → List Step
negations_steps_as Le s t = above_zero_steps s t
negations_steps_as Lt s t = negative_steps t
negations_steps_as Eq s t = below_zero_steps s t ++ above_zero_steps s t
negations_steps_as Ne s t = []

abbrev pub negations_steps : Row → List Step
negations_steps r = negations_steps_as r.kind r.sort r.term
