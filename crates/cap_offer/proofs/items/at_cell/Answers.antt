use Rattle.std.proofs.Common.{subst}
use Rattle.std.specs.Prelude.{Option, option_map, option_to_list}
use Rattle.cap_prog.specs.Views.{program_view}
use Rattle.cap_goal.specs.Views.{goal_view, choice_view}
use Rattle.cap_goal_spec.specs.Choices.{PlainChoice}
use Rattle.cap_offer_spec.specs.Claims.{has_item_address}
use Rattle.cap_offer_spec.specs.Deciding.{Noted}
use Rattle.cap_offer_spec.specs.Scanning.{first_cell}
use Rattle.cap_closure_decide.specs.Noting.{Adds}
use Rattle.cap_offer.specs.Views.{choices_view}
use Rattle.cap_offer.proofs.Noted.{made-noted}
use Rattle.cap_offer.proofs.Trials.{item-sought}
use Rattle.cap_offer.proofs.items.at_cell.Goals as goal

pub returns : goal.returns
returns c =
    let p = program_view c.args.program.now in
    let g = goal_view c.args.goal.now in
    let a = c.args.address.now in
    let found = option_map choice_view c.in_ok-choice.choice in
    let m : Noted (Option PlainChoice) = first_cell p g (has_item_address g.state c.args.env a) 0 g.state.cells in
    let h = subst (λ (n : Noted (Option PlainChoice)). Adds c.args.notes.now c.first_sought.new.notes found n) (item-sought p g c.args.env a 0 g.state.cells) c.in_ok-choice.ensures in
    made-noted c.only.result (λ v. choices_view v.items) c.args.notes.now c.first_sought.new.notes found m option_to_list h c.only.ensures
