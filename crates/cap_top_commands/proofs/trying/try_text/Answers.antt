use Rattle.std.proofs.Common.{Ok, Err, subst}
use Rattle.cap_top_reading.specs.Reading.{FindsProgram}
use Rattle.cap_top_commands.proofs.Answering.{trial_counts, trial_answers}
use Rattle.cap_top_commands.proofs.trying.try_text.Goals as goal

pub returns-in_ok-count_on-in-Ok : goal.returns-in_ok-count_on-in-Ok
returns-in_ok-count_on-in-Ok c =
    trial_counts c.args.number c.in-Ok.program c.in_ok-count_on-in-Ok.field-0
    (subst (λ bytes. FindsProgram bytes (Ok c.in-Ok.program)) c.requires c.in-Ok.ensures) c.in_ok-count_on-in-Ok.ensures

pub returns-in-Err : goal.returns-in-Err
returns-in-Err c =
    trial_answers c.args.number c.in-Err.refusal c.refuse.result
    (subst (λ bytes. FindsProgram bytes (Err c.in-Err.refusal)) c.requires c.in-Err.ensures) c.refuse.ensures
