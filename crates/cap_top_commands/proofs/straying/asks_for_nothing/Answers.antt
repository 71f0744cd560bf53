use Rattle.std.proofs.Common.{◌≡◌, ◌==◌, Some, subst, arith}
use Rattle.std.specs.Prelude.{slice_get}
use Rattle.cap_prog.specs.Views.{function_view, program_view}
use Rattle.cap_top_commands.proofs.Strays.{asks-counted}
use Rattle.cap_top_commands.proofs.straying.asks_for_nothing.Goals as goal

pub returns-then-main-eq0 : goal.returns-then-main-eq0
returns-then-main-eq0 c =
    let p = program_view c.args.program.now in
    asks-counted p c.function-main.result.now c.is_empty.result
    (subst (λ n. slice_get (program_view c.args.program.now).functions n ≡ Some (function_view c.function-main.result.now))
    c.main.ensures.main c.function-main.ensures)
    (omega (arith, c.if-main-eq0.true))
    (subst (λ n. c.is_empty.result ≡ (n == 0)) c.function-main.result.now.requires_.items.ok.0 c.is_empty.ensures)
