use Rattle.std.proofs.Common.{sym, ◌∙◌, arith}
use Rattle.cap_prog.specs.Views.{program_view}
use Rattle.cap_goal.specs.Views.{unit_view}
use Rattle.cap_search_trees.proofs.Printing.{place-of-number}
use Rattle.cap_search_trees.proofs.places.statement_place.Goals as goal

pub returns-else-number-eq0 : goal.returns-else-number-eq0
returns-else-number-eq0 c =
    c.numbered_place.ensures
    ∙ sym (place-of-number (program_view c.args.program.now) (unit_view c.args.unit) c.args.root c.args.number (omega arith))
