-- What an error says of the tree.
use Rattle.std.specs.Prelude.{◌≡◌, Option, Some, None, Result, Ok, Err}
use Rattle.cap_syntax.specs.declared.place.Place.{Place}
use Rattle.cap_prog.specs.declared.program.Program.{Program}
use Rattle.cap_prog.specs.Views.{program_view}
use Rattle.cap_parse_tree.specs.Tree.{ProgramTree}
use Rattle.cap_resolve_spec.specs.Finding as plain
use Rattle.cap_resolve_spec.specs.Stands.{refusal, Stands}
use Rattle.cap_resolve_terms.specs.Views.{limit_view}
use Rattle.cap_resolve.specs.declared.error.ResolveError.{ResolveError}
use Rattle.cap_resolve.specs.declared.error.ResolveError.TheVariants as error

abbrev pub finding_at : Place → plain.Cause → Option plain.Finding
finding_at p c = Some (record { place = p; cause = c })

-- the finding, and none where memory ran out
abbrev pub error_view : ResolveError → Option plain.Finding
error_view (error.Unknown x p) = finding_at p (plain.unknown x)
error_view (error.Twice x p) = finding_at p (plain.twice x)
error_view (error.Arity p) = finding_at p plain.wrong_arity
error_view (error.Sort p) = finding_at p plain.wrong_sort
error_view (error.NonLinear p) = finding_at p plain.nonlinear
error_view (error.NoMain p) = finding_at p plain.no_main
error_view (error.MainPre p) = finding_at p plain.main_precondition
error_view (error.SelfFact p) = finding_at p plain.self_fact
error_view (error.Limit l p) = finding_at p (plain.limit (limit_view l))
error_view error.OutOfMemory = None

-- the fact holds, unless memory ran out
abbrev pub UnlessMemory : ResolveError → Type 0 → Type 0
UnlessMemory error.OutOfMemory P = Unit {0}
UnlessMemory _ P = P

-- the program for which the tree stands, or its refusal
abbrev pub IsResolved : ProgramTree → Result Program ResolveError → Type 0
IsResolved t (Ok p) = Stands t (program_view p)
IsResolved t (Err e) = UnlessMemory e (refusal t ≡ error_view e)
