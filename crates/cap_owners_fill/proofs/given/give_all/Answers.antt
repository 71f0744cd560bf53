use Rattle.std.proofs.Common.{arith, ap, subst, ◌∙◌, ◌-◌, take, Some}
use Rattle.std.specs.Prelude.{IfOk}
use Rattle.cap_prog.specs.Program.{none}
use Rattle.cap_goal.specs.Views.{items_in}
use Rattle.cap_owners_fill.specs.Views.{items_view, IsGivenSo, list_view, conditional_view, parted, sides_of, IsGivenTo, IsGivenWhole, giving_first}
use Rattle.cap_owners_fill.proofs.Passing.{left_to, left_next, made_so}
use Rattle.cap_owners_fill.proofs.given.give_all.Goals as goal

pub returns-in-Some : goal.returns-in-Some
returns-in-Some c =
    let l = c.index-list.result.now in
    let lists = c.args.items.now.lists.items in
    let h = rw c.in-Some.is at c.in_ok-give_list.ensures in
    let g = subst (λ ns. IsGivenTo ns (list_view l.now) c.loop-count.giving c.give_list.new.self (conditional_view c.in-Some.conditional)) (ap (λ f. f.names) c.fill.view_is) h in
    let k = left_to c.args.fill.now.names lists c.loop-count.count l (giving_first c.args.fill.now c.args.env.now) c.loop-count.giving c.give_list.new.self (conditional_view c.in-Some.conditional) (omega arith) c.loop-count.invariant.bound c.index-list.ensures g c.loop-count.invariant.left in
    let x = parted (conditional_view c.in-Some.conditional) (items_in (take (c.loop-count.count - 1) lists) none) in
    let e = c.parting_at-parting.ensures ∙ ap (λ ls. sides_of (parted (conditional_view c.in-Some.conditional) (items_in (take (c.loop-count.count - 1) ls) none))) c.deref.ensures.value in
    made_so c.make_given.result c.args.fill.now c.args.env.now (items_view c.args.items.now) c.give_list.new.self x k.0 k.1 (subst (λ s. IfOk c.make_given.result (IsGivenSo c.give_list.new.self (Some s))) e c.make_given.ensures)

pub loop-count-preserved : goal.loop-count-preserved
loop-count-preserved c =
    let l = c.index-list.result.now in
    let lists = c.args.items.now.lists.items in
    let h = rw c.in-None.is at c.in_ok-give_list.ensures in
    let g = subst (λ ns. IsGivenWhole ns (list_view l.now) c.loop-count.giving c.give_list.new.self) (ap (λ f. f.names) c.fill.view_is) h in
    record {
      bound = omega arith;
      left = left_next c.args.fill.now.names lists c.loop-count.count l (giving_first c.args.fill.now c.args.env.now) c.loop-count.giving c.give_list.new.self (omega arith) c.loop-count.invariant.bound c.index-list.ensures g c.loop-count.invariant.left;
    }
