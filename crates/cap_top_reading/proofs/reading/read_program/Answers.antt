use Rattle.std.proofs.Common.{sym, subst, Err}
use Rattle.cap_top_reading.specs.Reading.{FindsProgram}
use Rattle.cap_parse_tree.specs.Views.{tree_view}
use Rattle.cap_top_reading.proofs.Counts.{spelled-le}
use Rattle.cap_top_reading.proofs.Programs.{program_found, program_refused, no_tree}
use Rattle.cap_top_reading.proofs.reading.read_program.Goals as goal

pub resolve-requires : goal.resolve-requires
resolve-requires c = spelled-le c.args.bytes.now (tree_view c.in-Ok.tree) c.in-Ok.ensures.found

pub returns-in-Ok-resolve : goal.returns-in-Ok-resolve
returns-in-Ok-resolve c = program_found c.args.bytes.now c.in-Ok.tree c.in-Ok.ensures c.in-Ok-resolve.program c.in-Ok-resolve.ensures

pub returns-in-Ok : goal.returns-in-Ok
returns-in-Ok c = subst (λ e. FindsProgram c.args.bytes.now (Err e)) (sym c.resolve_refusal.ensures)
    (program_refused c.args.bytes.now c.in-Ok.tree c.in-Ok.ensures c.in-Err-resolve.error c.in-Err-resolve.ensures)

pub returns : goal.returns
returns c = no_tree c.args.bytes.now c.in-Err.refusal c.in-Err.ensures
