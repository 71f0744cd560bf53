use Rattle.std.proofs.Common.{sym, ap, ◌∙◌}
use Rattle.std.proofs.lemmas.Result.{err_from_is_err_and}
use Rattle.cap_prog.specs.Program.{none}
use Rattle.cap_prog.specs.Views.{item_view, program_view}
use Rattle.cap_goal.specs.Views.{items_in, tasks_view}
use Rattle.cap_take_items.specs.Views.{items_ahead}
use Rattle.cap_take_give.specs.Splits.{conditional_seen, conditional_view}
use Rattle.cap_take_give.proofs.Walked.{give-next, give-fails, give-splits, give-ends, none-ahead}
use Rattle.cap_take_give.proofs.walk.give.Goals as goal

pub returns-in-Some-as_conditional : goal.returns-in-Some-as_conditional
returns-in-Some-as_conditional c =
    let a = c.args in
    let q = c.in_ok-item.ensures ∙ ap items_ahead c.in-Some.is in
    let h = sym c.as_conditional.ensures ∙ ap conditional_seen c.in-Some-as_conditional.is in
    give-splits (program_view a.program.now) c.loop-left.given a.env a.at (tasks_view a.behind.now) _ (items_in c.in-Some.more.lists.items none) (item_view c.in-Some.item.now) (conditional_view c.in-Some-as_conditional.choice) _ _ q h c.split.ensures c.loop-left.invariant

pub returns-in_err-give_item-in-None : goal.returns-in_err-give_item-in-None
returns-in_err-give_item-in-None c =
    let a = c.args in
    let p = err_from_is_err_and c.from_residual-in_err-give_item-in-None.result c.from_residual-in_err-give_item-in-None.ensures.1 in
    let q = c.in_ok-item.ensures ∙ ap items_ahead c.in-Some.is in
    let h = sym c.as_conditional.ensures ∙ ap conditional_seen c.in-None.is in
    rw (p.1, p.2) (give-fails (program_view a.program.now) c.loop-left.given a.env a.at (tasks_view a.behind.now) _ (items_in c.in-Some.more.lists.items none) (item_view c.in-Some.item.now) _ _ q h c.in_err-give_item-in-None.ensures c.loop-left.invariant)

pub loop-left-preserved : goal.loop-left-preserved
loop-left-preserved c =
    let a = c.args in
    let q = c.in_ok-item.ensures ∙ ap items_ahead c.in-Some.is in
    let h = sym c.as_conditional.ensures ∙ ap conditional_seen c.in-None.is in
    give-next (program_view a.program.now) c.loop-left.given c.give_item.new.state a.env a.at (tasks_view a.behind.now) _ (items_in c.in-Some.more.lists.items none) (item_view c.in-Some.item.now) _ q h c.in_ok-give_item-in-None.ensures c.loop-left.invariant

pub returns : goal.returns
returns c =
    let a = c.args in
    let q = c.in_ok-item.ensures ∙ none-ahead c.in_ok-item.field-0 c.in_default.not-Some in
    give-ends (program_view a.program.now) c.loop-left.given a.env a.at (tasks_view a.behind.now) _ _ _ q c.in_ok-leaves_behind.ensures c.loop-left.invariant
