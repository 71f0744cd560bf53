use Rattle.std.proofs.Common.{refl, arith, ap, ◌∙◌, ◌<◌, length}
use Rattle.cap_prog.specs.Program.{none}
use Rattle.cap_goal.specs.Views.{items_in}
use Rattle.cap_take_items.proofs.Ahead.{none-last, one-pushed}
use Rattle.cap_take_items.proofs.items.next_item.Goals as goal

pub loop-list-preserved : goal.loop-list-preserved
loop-list-preserved c =
    let h : length c.in-Some.list.now < 1 = omega arith in
    c.loop-list.invariant ∙ (ap (λ ls. items_in ls none) c.in-Some.ensures.items ∙ none-last c.pop.new.self.items c.in-Some.list h)

pub returns-in-len1-up : goal.returns-in-len1-up
returns-in-len1-up c =
    let h : 0 < length c.in-Some.list.now = omega arith in
    c.loop-list.invariant ∙ (ap (λ ls. items_in ls none) c.in-Some.ensures.items ∙ one-pushed c.push.new.self.items c.pop.new.self.items c.in-Some.list _ c.item-item.result c.in_ok-push.ensures.items h c.item-item.is refl)
