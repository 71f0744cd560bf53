use Rattle.std.proofs.Common.{subst}
use Rattle.std.specs.Prelude.{Option, option_map}
use Rattle.cap_prog.specs.Views.{act_view, program_view}
use Rattle.cap_goal.specs.Views.{goal_view, choice_view}
use Rattle.cap_goal_spec.specs.Choices.{PlainChoice}
use Rattle.cap_offer_spec.specs.Claims.{has_address}
use Rattle.cap_offer_spec.specs.Deciding.{Noted}
use Rattle.cap_offer_spec.specs.Scanning.{first_act}
use Rattle.cap_closure_decide.specs.Noting.{Adds}
use Rattle.cap_offer.specs.Heads.{after_act}
use Rattle.cap_offer.specs.Views.{choices_view}
use Rattle.cap_offer.proofs.Noted.{then-noted}
use Rattle.cap_offer.proofs.Trials.{act-sought}
use Rattle.cap_offer.proofs.heap.by_cells.Goals as goal

pub returns : goal.returns
returns c =
    let p = program_view c.args.program.now in
    let g = goal_view c.args.goal.now in
    let a = act_view c.args.act.now in
    let found = option_map choice_view c.in_ok-choice.choice in
    let m : Noted (Option PlainChoice) = first_act p g (has_address g.state a) 0 g.state.cells in
    let h = subst (λ (n : Noted (Option PlainChoice)). Adds c.args.notes.now c.first_sought.new.notes found n) (act-sought p g a 0 g.state.cells) c.in_ok-choice.ensures in
    then-noted c.with_openings.result (λ v. choices_view v.items) c.args.notes.now c.first_sought.new.notes c.with_openings.new.notes found m (after_act p g) h c.with_openings.ensures
