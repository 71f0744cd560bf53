use Rattle.std.proofs.Common.{Ok}
use Rattle.cap_top_commands.proofs.Replays.{begins_program, begins_said}
use Rattle.cap_top_commands.proofs.beginning.begin.Goals as goal

pub returns-in_ok-refuse-in-Err : goal.returns-in_ok-refuse-in-Err
returns-in_ok-refuse-in-Err c =
    begins_said c.args.bytes.now c.in-Err.refusal (Ok c.in_ok-refuse-in-Err.field-0) c.in-Err.ensures c.in_ok-refuse-in-Err.ensures

pub returns-in-Ok : goal.returns-in-Ok
returns-in-Ok c = begins_program c.args.bytes.now c.in-Ok.program c.in-Ok.ensures
