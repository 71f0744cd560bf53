use Rattle.cap_prog.specs.Views.{program_view}
use Rattle.cap_top_commands.proofs.Deriving.{derives_program, derives_refusal}
use Rattle.cap_top_commands.proofs.InOrder.{text-ascends}
use Rattle.cap_top_commands.proofs.derivation.derive_text.Goals as goal

pub derivation_of-requires : goal.derivation_of-requires
derivation_of-requires c = text-ascends c.args.bytes.now (program_view c.in-Ok.program) c.in-Ok.ensures.found

pub returns-in-Ok : goal.returns-in-Ok
returns-in-Ok c =
    derives_program c.args.budget c.args.bytes.now c.in-Ok.program c.derivation_of.result c.in-Ok.ensures
    c.derivation_of.ensures

pub returns-in-Err : goal.returns-in-Err
returns-in-Err c =
    derives_refusal c.args.budget c.args.bytes.now c.in-Err.refusal c.refuse.result c.in-Err.ensures c.refuse.ensures
