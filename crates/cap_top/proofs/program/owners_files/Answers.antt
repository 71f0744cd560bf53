use Rattle.std.proofs.Common.{map, subst}
use Rattle.cap_prog.specs.Views.{program_view}
use Rattle.cap_goal.specs.Views.{choice_view}
use Rattle.cap_top_accounts.specs.declared.listing.Listed.TheVariants.{Lines, Without}
use Rattle.cap_top_commands.specs.declared.beginning.Begun.TheVariants.{Program, Said}
use Rattle.cap_top_commands.specs.Views.{output_view}
use Rattle.cap_top.specs.Views.{fetched_view, BeginsAfter, ListsAfter}
use Rattle.cap_top.proofs.Three.{owners_early, owners_without, owners_late}
use Rattle.cap_top.proofs.program.owners_files.Goals as goal

pub returns-in-Said-clause-said : goal.returns-in-Said-clause-said
returns-in-Said-clause-said g c =
    let b : BeginsAfter c.args.file.now (fetched_view c.in_ok-fetched.fetched) (Said c.in-Said.output) =
    subst (BeginsAfter c.args.file.now (fetched_view c.in_ok-fetched.fetched)) c.in-Said.is c.in_ok-output.ensures in
    owners_early c.args.file.now c.args.derivation.now c.args.schedule.now _ _ (fetched_view c.in_ok-fetched.fetched)
    (output_view c.in-Said.output) c.in_ok-fetched.ensures.fetched c.in_ok-fetched.ensures.given
    c.in_ok-fetched.ensures.counted b

pub returns-in-Without-clause-said : goal.returns-in-Without-clause-said
returns-in-Without-clause-said g c =
    let b : BeginsAfter c.args.file.now (fetched_view c.in_ok-fetched.fetched) (Program c.in-Program.program) =
    subst (BeginsAfter c.args.file.now (fetched_view c.in_ok-fetched.fetched)) c.in-Program.is c.in_ok-output.ensures in
    let d : ListsAfter c.args.derivation.now (fetched_view c.in_ok-fetched-in-Program.fetched) (Without c.in-Without.said) =
    subst (ListsAfter c.args.derivation.now (fetched_view c.in_ok-fetched-in-Program.fetched)) c.in-Without.is c.in_ok-said-in-Program.ensures in
    owners_without c.args.file.now c.args.derivation.now c.args.schedule.now _ _ _
    c.in_ok-fetched.ensures.kept c.in_ok-fetched.ensures.later
    (fetched_view c.in_ok-fetched.fetched) (fetched_view c.in_ok-fetched-in-Program.fetched) b.0
    (program_view c.in-Program.program) (output_view c.in-Without.said)
    c.in_ok-fetched.ensures.fetched c.in_ok-fetched.ensures.given c.in_ok-fetched.ensures.counted b.1 b.2
    c.in_ok-fetched-in-Program.ensures.fetched c.in_ok-fetched-in-Program.ensures.given
    c.in_ok-fetched-in-Program.ensures.counted d

pub returns-clause-said : goal.returns-clause-said
returns-clause-said g c =
    let b : BeginsAfter c.args.file.now (fetched_view c.in_ok-fetched.fetched) (Program c.in-Program.program) =
    subst (BeginsAfter c.args.file.now (fetched_view c.in_ok-fetched.fetched)) c.in-Program.is c.in_ok-output.ensures in
    let d : ListsAfter c.args.derivation.now (fetched_view c.in_ok-fetched-in-Program.fetched) (Lines c.in-Lines.lines) =
    subst (ListsAfter c.args.derivation.now (fetched_view c.in_ok-fetched-in-Program.fetched)) c.in-Lines.is c.in_ok-said-in-Program.ensures in
    owners_late c.args.file.now c.args.derivation.now c.args.schedule.now _ _ _ _
    c.in_ok-fetched.ensures.kept c.in_ok-fetched.ensures.later
    c.in_ok-fetched-in-Program.ensures.kept c.in_ok-fetched-in-Program.ensures.later
    (fetched_view c.in_ok-fetched.fetched) (fetched_view c.in_ok-fetched-in-Program.fetched) (fetched_view c.in_ok-entries-in-Lines.entries)
    b.0 (program_view c.in-Program.program) d.0 c.in-Lines.lines.trees (map choice_view c.in-Lines.lines.choices.items)
    c.owners_file.result
    c.in_ok-fetched.ensures.fetched c.in_ok-fetched.ensures.given c.in_ok-fetched.ensures.counted b.1 b.2
    c.in_ok-fetched-in-Program.ensures.fetched c.in_ok-fetched-in-Program.ensures.given
    c.in_ok-fetched-in-Program.ensures.counted d.1 d.2
    c.in_ok-entries-in-Lines.ensures.fetched c.in_ok-entries-in-Lines.ensures.given c.in_ok-entries-in-Lines.ensures.counted
    c.owners_file.ensures
