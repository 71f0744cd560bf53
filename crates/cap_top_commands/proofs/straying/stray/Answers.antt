use Rattle.cap_top_commands.proofs.Strays.{stray-says, stray-refused}
use Rattle.cap_top_commands.proofs.straying.stray.Goals as goal

pub returns-in-Ok : goal.returns-in-Ok
returns-in-Ok c =
    stray-says c.args.number c.args.count c.args.bytes.now c.in-Ok.program c.stray_of.result c.in-Ok.ensures
    c.stray_of.ensures

pub returns-in-Err : goal.returns-in-Err
returns-in-Err c =
    stray-refused c.args.number c.args.count c.args.bytes.now c.in-Err.refusal c.refuse.result c.in-Err.ensures
    c.refuse.ensures
