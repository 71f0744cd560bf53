-- What is seen of the code's findings and scopes.
use Rattle.std.specs.Prelude.{◌≡◌, ℕ, List, Bool, Option, Some, None, option_map, bytes_eq, if◌then◌else◌}
use Rattle.std.specs.Borrow.{Bor}
use Rattle.std.specs.Map.{lookup}
use Rattle.cap_resolve_spec.specs.Finding as plain
use Rattle.cap_resolve_spec.specs.Names.{KnownName, NameScope, knows, variable_of}
use Rattle.cap_resolve_terms.specs.declared.finding.Limit.{Limit}
use Rattle.cap_resolve_terms.specs.declared.finding.Limit.TheVariants as limits
use Rattle.cap_resolve_terms.specs.declared.finding.Cause.{Cause}
use Rattle.cap_resolve_terms.specs.declared.finding.Cause.TheVariants as causes
use Rattle.cap_resolve_terms.specs.declared.finding.Finding.{Finding}
use Rattle.cap_resolve_terms.specs.declared.finding.Noted.{Noted}
use Rattle.cap_resolve_terms.specs.declared.scope.Known.{Known}

abbrev pub limit_view : Limit → plain.Limit
limit_view limits.Functions = plain.function_count
limit_view limits.Regions = plain.region_count
limit_view limits.Parameters = plain.parameter_count
limit_view limits.Guards = plain.guard_count
limit_view limits.Variables = plain.variable_count
limit_view limits.Alloc = plain.cell_count
limit_view limits.Width = plain.width

abbrev pub cause_view : Cause → plain.Cause
cause_view (causes.Unknown x) = plain.unknown x.now
cause_view (causes.Twice x) = plain.twice x.now
cause_view causes.Arity = plain.wrong_arity
cause_view causes.Sort = plain.wrong_sort
cause_view causes.NonLinear = plain.nonlinear
cause_view causes.NoMain = plain.no_main
cause_view causes.MainPre = plain.main_precondition
cause_view causes.SelfFact = plain.self_fact
cause_view (causes.Limit l) = plain.limit (limit_view l)

abbrev pub finding_view : Finding → plain.Finding
finding_view f = record { place = f.place; cause = cause_view f.cause }

abbrev pub noted_view : Noted → Option plain.Finding
noted_view n = option_map finding_view n.first

abbrev pub known_view : Known → KnownName
known_view k = record { name = k.name.now; sort = k.sort }

abbrev pub entry_view : Option Known → Option KnownName
entry_view k = option_map known_view k

-- a table of names has the number of the variable of each known name, and no other
abbrev pub number_in : List (Bor (List ℕ) × ℕ) → List ℕ → Option ℕ
number_in entries x = lookup (λ (k : Bor (List ℕ)). bytes_eq x k.now) entries

abbrev pub variable_in : NameScope → List ℕ → Option ℕ
variable_in scope x = if knows scope x then Some (variable_of scope x) else None

-- the number that a name had, else the new one where it is the name that is put
abbrev pub first_number : Option ℕ → Bool → ℕ → Option ℕ
first_number (Some n) same number = Some n
first_number None same number = if same then Some number else None

abbrev pub Numbers : List (Bor (List ℕ) × ℕ) → NameScope → Type 0
Numbers entries scope = (x : List ℕ) → number_in entries x ≡ variable_in scope x
