-- What may be known of a fact's state after steps of others.
use Rattle.std.specs.Prelude.{◌&&◌, Bool, nat_lt, is_none, if◌then◌else◌, List, [], ◌∷◌, ◌++◌, flat_map, length, ℤ, Option, Some, None}
use Rattle.std.specs.List.{list_any, list_all}
use Rattle.cap_fm_spec.specs.cap_lin.Linear.{Linear, variable}
use Rattle.cap_fm_spec.specs.cap_lin.Steps.{Step, first_wide}
use Rattle.cap_fm_spec.specs.cap_lin.Rows.{row_of, row_of_steps}
use Rattle.cap_fm_spec.specs.cap_lin.declared.row.Row.{Row}
use Rattle.cap_fm_spec.specs.cap_lin.declared.row.Sort.TheVariants.{Int}
use Rattle.cap_fm_spec.specs.cap_lin.declared.row.Op.{Op}
use Rattle.cap_fm_spec.specs.cap_lin.declared.row.Op.TheVariants.{Eq as Equal, Le as AtMost}
use Rattle.cap_fm_spec.specs.Rows.{same_row}
use Rattle.cap_gsolve.specs.declared.piece.Form.{Form}
use Rattle.cap_gsolve.specs.declared.piece.Form.TheVariants.{Span}
use Rattle.cap_gsolve.specs.declared.piece.Piece.{Piece}
use Rattle.cap_gsolve.specs.Pieces.{of_guards}
use Rattle.cap_prog.specs.Program.{PlainAction, PlainRegionType}
use Rattle.cap_goal_spec.specs.States.{PlainFact, PlainState}
use Rattle.cap_goal_spec.specs.Environments.{region_env, term_in, term_in_steps}

-- a row, with the results on the way to it
pub record MadeRow : Type 0 where
  pub row : Row
  pub steps : List Step

-- a comparison of whole numbers whose terms took some results
abbrev pub made_row : List Step → Linear → Op → Linear → MadeRow
made_row steps l op r = record { row = row_of l op r Int; steps = steps ++ row_of_steps l op r Int }

-- at least, and at most this term
abbrev pub bounds : Linear → List Step → Linear → List MadeRow
bounds u steps e = made_row steps e AtMost u ∷ made_row steps u AtMost e ∷ []

-- the term has no name but the region's parameters
abbrev pub is_over_params : PlainRegionType → Linear → Bool
is_over_params k t = list_all (λ p. nat_lt p.0 k.params) t.parts

-- bounds by a term of the region type, for the fact
abbrev pub bounds_by : PlainRegionType → PlainFact → Linear → Linear → List MadeRow
bounds_by k f u t =
    if is_over_params k t
    then bounds u (term_in_steps (region_env f []) t) (term_in (region_env f []) t)
    else []

abbrev pub action_bounds : PlainRegionType → PlainFact → Linear → PlainAction → List MadeRow
action_bounds k f u a = bounds_by k f u a.source ++ bounds_by k f u a.target

-- bounds by the first index of a span
abbrev pub form_bounds : Linear → Form → List MadeRow
form_bounds u (Span a e) = bounds u [] a
form_bounds u f = []

-- of a piece of the guards of the fact's region
abbrev pub piece_bounds : PlainFact → Linear → Piece → List MadeRow
piece_bounds f u q = if of_guards f.region f.kind q then form_bounds u q.form else []

-- the state itself, bounds by it, and bounds by the states of cases, and by sources and targets of
-- actions
abbrev pub all_candidates : PlainRegionType → PlainFact → Linear → List MadeRow
all_candidates k f u =
    made_row [] u Equal f.state
    ∷ (bounds u [] f.state
    ++ (flat_map (λ c. bounds_by k f u c.state) k.cases
    ++ flat_map (action_bounds k f u) k.actions))

abbrev pub is_made : MadeRow → Bool
is_made m = is_none (first_wide m.steps)

-- rows within 128 bits that are equal in term and kind; all are of sort Int
abbrev pub repeats : MadeRow → MadeRow → Bool
repeats m n = is_made n && same_row m.row.term m.row.kind n.row.term n.row.kind

-- a row within 128 bits is left out where it equals an earlier one
abbrev pub without_repeats : List MadeRow → List MadeRow → List MadeRow
without_repeats earlier [] = []
without_repeats earlier (m ∷ ms) =
    if is_made m && list_any (repeats m) earlier
    then without_repeats earlier ms
    else m ∷ without_repeats (m ∷ earlier) ms

-- the state's next fresh variable stands for the fact's later state
abbrev pub later_state : PlainState → Linear
later_state s = variable (length s.sorts)

-- those of the region type, then bounds by the spans that are held
abbrev pub candidates : PlainRegionType → PlainState → PlainFact → List MadeRow
candidates k s f =
    without_repeats []
    (all_candidates k f (later_state s) ++ flat_map (piece_bounds f (later_state s)) s.guards)

-- what is seen of a candidate: its row, or the operands of the first result that leaves 128 bits
pub data PlainCandidate : Type 0 where
  known : Row → PlainCandidate
  past : ℤ → ℤ → PlainCandidate

abbrev pub candidate_as : Row → Option (ℤ × ℤ) → PlainCandidate
candidate_as r None = known r
candidate_as r (Some w) = past w.0 w.1

abbrev pub candidate_of : MadeRow → PlainCandidate
candidate_of m = candidate_as m.row (first_wide m.steps)
