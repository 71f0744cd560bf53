use Rattle.std.proofs.Common.{◌++◌, ◌&&◌}
use Rattle.std.specs.Prelude.{is_some, option_map, option_to_list}
use Rattle.cap_prog.specs.Views.{program_view}
use Rattle.cap_goal.specs.Views.{goal_view, choice_view}
use Rattle.cap_rules.specs.Making.{is_empty}
use Rattle.cap_offer_spec.specs.Offering.{openings_unless}
use Rattle.cap_offer.specs.Views.{choices_view}
use Rattle.cap_offer.proofs.Noted.{made-noted}
use Rattle.cap_offer.proofs.heap.with_openings.Goals as goal

pub returns : goal.returns
returns c =
    let p = program_view c.args.program.now in
    let g = goal_view c.args.goal.now in
    let act = option_map choice_view c.args.choice in
    let h = rw c.is_enough-enough.ensures at c.in_ok-others.ensures in
    made-noted c.with_others.result (λ v. choices_view v.items) c.args.notes.now c.openings_unless.new.notes (choices_view c.in_ok-others.others.items) (openings_unless (is_some act && is_empty g.state.opened) p g) (λ others. option_to_list act ++ others) h c.with_others.ensures
