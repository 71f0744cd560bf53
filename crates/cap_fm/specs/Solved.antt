-- What the answer of a search for a certificate says.
use Rattle.std.specs.Prelude.{◌≡◌, List, Option, Some, None, Result, MatchResult}
use Rattle.cap_lin.specs.Values.{RationalValuation}
use Rattle.cap_lin.specs.Solves.{SolvesRationally, Infeasible}
use Rattle.cap_lin.specs.declared.row.Row.{Row}
use Rattle.cap_farkas.specs.Refutes.{Refutes}
use Rattle.cap_farkas.specs.declared.cert.Cert.{Cert}
use Rattle.cap_fm_spec.specs.Events.{first_limit}
use Rattle.cap_fm_spec.specs.Solving.{Logged}
use Rattle.cap_fm_elimination.specs.Answers.{Explains}
use Rattle.cap_fm_elimination.specs.declared.error.SolveError.{SolveError}
use Rattle.cap_fm.specs.declared.solver.Answer.{Answer}
use Rattle.cap_fm.specs.declared.solver.Answer.TheVariants.{Empty, Solvable}

abbrev pub certificate_of : Answer → Option Cert
certificate_of (Empty cert) = Some cert
certificate_of Solvable = None

-- the answer has the definition's certificate, or there is none, where no event passes a limit
abbrev pub IsSolved : Result Answer SolveError → Logged (Option Cert) → Type 0
IsSolved r l =
    MatchResult r (λ a. (first_limit l.events ≡ None) × (certificate_of a ≡ l.value))
    (λ e. Explains e l.events)

-- the certificate of an Empty refutes the rows
abbrev pub IsCertified : List Row → Answer → Type 0
IsCertified rows (Empty cert) = Refutes rows cert
IsCertified rows Solvable = Unit {0}

-- Empty comes for infeasible rows, which no valuation solves, and Solvable for others
abbrev pub IsTrueOf : List Row → Answer → Type 0
IsTrueOf rows (Empty cert) = Infeasible rows
IsTrueOf rows Solvable = ¬ Infeasible rows

-- where the answer is Solvable, a rational valuation solves all rows, Ne read as other than 0
abbrev pub HasSolution : List Row → Answer → Type 0
HasSolution rows (Empty cert) = Unit {0}
HasSolution rows Solvable = (q : RationalValuation) × SolvesRationally q rows
