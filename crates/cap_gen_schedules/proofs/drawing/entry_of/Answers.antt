use Rattle.std.proofs.Common.{◌≡◌, sym, rules, arith}
use Rattle.std.specs.Prelude.{None}
use Rattle.std.proofs.lemmas.Grind.{common_steps}
use Rattle.cap_prog.specs.Views.{program_view}
use Rattle.cap_gen_schedules.proofs.Turns.{wide-entry}
use Rattle.cap_gen_schedules.proofs.drawing.entry_of.Goals as goal

pub returns-in_err-base-in-Some : goal.returns-in_err-base-in-Some
returns-in_err-base-in-Some c =
    let e : c.from_residual.result ≡ None = first_of (search rules, grind (arith, common_steps)) in
    rw e
    (wide-entry _ c.args.thread _ (sym c.in-Some.ensures)
    (c.in_err-base-in-Some.ensures (program_view c.args.program.now)))
