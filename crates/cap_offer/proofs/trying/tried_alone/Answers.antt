use Rattle.cap_prog.specs.Views.{program_view}
use Rattle.cap_goal.specs.Views.{goal_view, choice_view}
use Rattle.std.specs.Prelude.{option_map}
use Rattle.cap_offer.specs.Views.{choices_view}
use Rattle.cap_offer.proofs.Noted.{alone-noted}
use Rattle.cap_offer.proofs.trying.tried_alone.Goals as goal

pub returns : goal.returns
returns c =
    alone-noted c.only.result (λ v. choices_view v.items) (program_view c.args.program.now) (goal_view c.args.goal.now) (choice_view c.args.choice) c.args.notes.now c.tried.new.notes (option_map choice_view c.in_ok-found.found) c.in_ok-found.ensures c.only.ensures
