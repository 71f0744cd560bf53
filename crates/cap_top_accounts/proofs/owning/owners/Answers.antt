use Rattle.std.proofs.Common.{◌≡◌, false, true, map, subst}
use Rattle.std.specs.Bool.{IsTrue}
use Rattle.cap_prog.specs.Views.{program_view}
use Rattle.cap_goal.specs.Views.{choice_view}
use Rattle.cap_replay_schedules.specs.declared.reading.ScheduleError.TheVariants.{BadLine}
use Rattle.cap_top_commands.proofs.Schedules.{others_bad}
use Rattle.cap_top_accounts.proofs.Choices.{bad_only, says_bad}
use Rattle.cap_top_accounts.proofs.owning.owners.Goals as goal

pub returns-in-Ok : goal.returns-in-Ok
returns-in-Ok c =
    let p = program_view c.args.program.now in
    let bad = others_bad p c.args.bytes.now c.in-Ok.schedule c.in-Ok.ensures.reads
    (λ t. let f : false ≡ true = subst IsTrue c.if-fits.false (c.fits.ensures.1 t) in cc) in
    let said = bad_only p c.args.lines.trees (map choice_view c.args.lines.choices.items) c.args.bytes.now (BadLine 1) bad in
    record { said = said.said; only = said.only }
