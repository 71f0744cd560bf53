use Rattle.cap_prog.specs.Views.{program_view}
use Rattle.cap_top_commands.proofs.Coring.{core_reports, core_answers}
use Rattle.cap_top_commands.proofs.InOrder.{text-ascends}
use Rattle.cap_top_commands.proofs.cores.core.Goals as goal

pub cores_on-requires : goal.cores_on-requires
cores_on-requires c = text-ascends c.args.bytes.now (program_view c.in-Ok.program) c.in-Ok.ensures.found

pub returns-in_ok-cores_on-in-Ok : goal.returns-in_ok-cores_on-in-Ok
returns-in_ok-cores_on-in-Ok c =
    core_reports c.args.bytes.now c.in-Ok.program c.in_ok-cores_on-in-Ok.field-0 c.in-Ok.ensures
    c.in_ok-cores_on-in-Ok.ensures

pub returns-in-Err : goal.returns-in-Err
returns-in-Err c = core_answers c.args.bytes.now c.in-Err.refusal c.refuse.result c.in-Err.ensures c.refuse.ensures
