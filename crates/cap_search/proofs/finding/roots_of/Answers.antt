use Rattle.cap_prog.specs.Views.{program_view}
use Rattle.cap_goal.specs.Views.{unit_view}
use Rattle.cap_goal_roots.specs.Views.{roots_view}
use Rattle.cap_search.proofs.Searchable.{roots-searchable}
use Rattle.cap_search.proofs.finding.roots_of.Goals as goal

pub returns-clause-searchable : goal.returns-clause-searchable
returns-clause-searchable c =
    roots-searchable c.roots_are_kept.ensures c.roots_ascend.ensures (λ v. roots_view v.items) (program_view c.args.program.now) (unit_view c.args.unit) c.roots.result c.well_formed-2.ensures c.program_ascends.ensures c.requires c.roots.ensures.exact
