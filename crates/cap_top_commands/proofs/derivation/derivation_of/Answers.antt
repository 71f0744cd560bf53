use Rattle.std.proofs.Common.{subst}
use Rattle.cap_prog.specs.Views.{program_view}
use Rattle.cap_goal.specs.Trees.{bundle_view}
use Rattle.cap_top_report.specs.Views.{IsConclusionOf}
use Rattle.cap_top_commands.specs.Deriving.{FindsText}
use Rattle.cap_top_commands.proofs.Deriving.{says_lines}
use Rattle.cap_top_commands.proofs.derivation.derivation_of.Goals as goal

pub returns-in-Some : goal.returns-in-Some
returns-in-Some c =
    says_lines c.args.budget (program_view c.args.program.now) c.in-Proved.bundle
    (subst (IsConclusionOf (program_view c.args.program.now) c.args.budget) c.in-Proved.is c.in_ok-report.ensures)
    c.found_trees_are_valid.ensures c.requires c.valid_trees_have_no_zeros.ensures c.in-Some.text.items
    (subst (FindsText (bundle_view c.in-Proved.bundle)) c.in-Some.is c.in_ok-text-in-Proved.ensures)
