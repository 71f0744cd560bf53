use Rattle.std.proofs.Common.{◌≡◌, false, true, subst}
use Rattle.std.specs.Bool.{IsTrue}
use Rattle.cap_prog.specs.Views.{program_view}
use Rattle.cap_top_commands.proofs.Replays.{others}
use Rattle.cap_top_commands.proofs.replaying.play.Goals as goal

pub returns-in-Ok : goal.returns-in-Ok
returns-in-Ok c =
    let said = others (program_view c.args.program.now) c.args.bytes.now c.in-Ok.schedule c.in-Ok.ensures.reads
    (λ t. let f : false ≡ true = subst IsTrue c.if-fits.false (c.fits.ensures.1 t) in cc) in
    record { said = said.said; only = said.only }
