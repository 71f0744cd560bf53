use Rattle.std.proofs.Common.{◌<◌, length, arith, ap, ◌∙◌}
use Rattle.cap_prog.specs.Program.{none}
use Rattle.cap_goal.specs.Views.{items_in}
use Rattle.cap_offer.specs.Views.{first_of_items}
use Rattle.cap_offer.proofs.Placed.{none-last, first-last}
use Rattle.cap_offer.proofs.items.first_item.Goals as goal

pub loop-list-preserved : goal.loop-list-preserved
loop-list-preserved c =
    let h : length c.in-Some.list.now < 1 = omega arith in
    c.loop-list.invariant ∙ (ap (λ ls. first_of_items (items_in ls none)) c.in-Some.ensures.items ∙ none-last c.pop.new.self.items c.in-Some.list h)

pub returns-in-len1-up : goal.returns-in-len1-up
returns-in-len1-up c =
    let h : 0 < length c.in-Some.list.now = omega arith in
    c.loop-list.invariant ∙ (ap (λ ls. first_of_items (items_in ls none)) c.in-Some.ensures.items ∙ first-last c.pop.new.self.items c.in-Some.list c.item-item.result h c.item-item.is)
