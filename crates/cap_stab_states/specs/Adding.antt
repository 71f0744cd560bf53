-- How candidates are found one after the other. Only private functions cite this.
use Rattle.std.specs.Prelude.{◌≡◌, ℕ, Bool, false, nat_lt, if◌then◌else◌, List, [], ◌∷◌, ◌++◌}
use Rattle.std.specs.List.{list_any, list_all}
use Rattle.cap_lin.specs.Linear.{Linear}
use Rattle.cap_lin.specs.declared.row.Row.{Row}
use Rattle.cap_lin.specs.declared.error.LinError.{LinError}
use Rattle.cap_lin.specs.declared.error.LinError.TheVariants.{Wide, OutOfMemory}
use Rattle.cap_fm_spec.specs.Rows.{same_row}
use Rattle.cap_prog.specs.Program.{PlainAction}
use Rattle.cap_goal_spec.specs.Terms.{term_over, term_over_steps}
use Rattle.cap_goal_spec.specs.Candidates.{MadeRow, bounds, PlainCandidate, known, past}
use Rattle.cap_rules_steps.specs.Places.{term_among}

-- the candidate's row is this one
abbrev pub is_row : Row → PlainCandidate → Bool
is_row r (known q) = same_row r.term r.kind q.term q.kind
is_row r (past a b) = false

-- some candidate has the same row
abbrev pub is_repeat : List PlainCandidate → PlainCandidate → Bool
is_repeat cs (known r) = list_any (is_row r) cs
is_repeat cs (past a b) = false

-- a candidate more, unless it is a repeat
abbrev pub added : List PlainCandidate → PlainCandidate → List PlainCandidate
added cs c = if is_repeat cs c then cs else cs ++ c ∷ []

-- each name of the term is one of the first so many
abbrev pub is_over : ℕ → Linear → Bool
is_over count t = list_all (λ p. nat_lt p.0 count) t.parts

-- bounds by a term over the first so many of these names
abbrev pub bounds_among : ℕ → List Linear → Linear → Linear → List MadeRow
bounds_among count names u t =
    if is_over count t
    then bounds u (term_over_steps (term_among names) t) (term_over (term_among names) t)
    else []

abbrev pub action_bounds_among : ℕ → List Linear → Linear → PlainAction → List MadeRow
action_bounds_among count names u a =
    bounds_among count names u a.source ++ bounds_among count names u a.target

-- the candidate is past 128 bits by the operands of the error
abbrev pub IsPast : LinError → PlainCandidate → Type 0
IsPast (Wide a b) c = c ≡ past a b
IsPast OutOfMemory c = ⊥
