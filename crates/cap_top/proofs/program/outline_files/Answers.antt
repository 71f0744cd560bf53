use Rattle.std.proofs.Common.{subst}
use Rattle.cap_prog.specs.Views.{program_view}
use Rattle.cap_top_commands.specs.declared.beginning.Begun.TheVariants.{Program, Said}
use Rattle.cap_top_commands.specs.Views.{output_view}
use Rattle.cap_top.specs.Views.{fetched_view, BeginsAfter}
use Rattle.cap_top.proofs.Two.{outlining, early_said, late_said}
use Rattle.cap_top.proofs.program.outline_files.Goals as goal

pub returns-in-Said-clause-said : goal.returns-in-Said-clause-said
returns-in-Said-clause-said g c =
    let b : BeginsAfter c.args.file.now (fetched_view c.in_ok-fetched.fetched) (Said c.in-Said.output) =
    subst (BeginsAfter c.args.file.now (fetched_view c.in_ok-fetched.fetched)) c.in-Said.is c.in_ok-output.ensures in
    early_said _ _ _ _ (outlining c.args.file.now c.args.derivation.now) _ _ (fetched_view c.in_ok-fetched.fetched)
    (output_view c.in-Said.output) c.in_ok-fetched.ensures.fetched c.in_ok-fetched.ensures.given
    c.in_ok-fetched.ensures.counted b

pub returns-in_ok-fetched-in-Program-clause-said : goal.returns-in_ok-fetched-in-Program-clause-said
returns-in_ok-fetched-in-Program-clause-said g c =
    let b : BeginsAfter c.args.file.now (fetched_view c.in_ok-fetched.fetched) (Program c.in-Program.program) =
    subst (BeginsAfter c.args.file.now (fetched_view c.in_ok-fetched.fetched)) c.in-Program.is c.in_ok-output.ensures in
    late_said _ _ _ _ (outlining c.args.file.now c.args.derivation.now) _ _ _
    c.in_ok-fetched.ensures.kept c.in_ok-fetched.ensures.later
    (fetched_view c.in_ok-fetched.fetched) (fetched_view c.in_ok-fetched-in-Program.fetched) b.0
    (program_view c.in-Program.program) c.outline_file.result
    c.in_ok-fetched.ensures.fetched c.in_ok-fetched.ensures.given c.in_ok-fetched.ensures.counted b.1 b.2
    c.in_ok-fetched-in-Program.ensures.fetched c.in_ok-fetched-in-Program.ensures.given
    c.in_ok-fetched-in-Program.ensures.counted c.outline_file.ensures
