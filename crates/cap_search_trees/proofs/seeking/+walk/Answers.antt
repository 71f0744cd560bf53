use Rattle.std.proofs.Common.{◌≡◌, map, ap, arith}
use Rattle.std.specs.Prelude.{List}
use Rattle.cap_prog.specs.Views.{program_view}
use Rattle.cap_goal_spec.specs.Choices.{PlainChoice}
use Rattle.cap_goal.specs.Views.{choice_view, goal_view}
use Rattle.cap_offer_spec.specs.Deciding.{Outcome}
use Rattle.cap_offer_spec.specs.Offering.{offered}
use Rattle.cap_search_trees.specs.Searchable.{IsSearchable}
use Rattle.cap_search_trees.specs.Views.{walk_view}
use Rattle.cap_search_trees.proofs.Searchable.{all-offered, each-at}
use Rattle.cap_search_trees.proofs.Visiting.{tree-visited, walk-visited}
use Rattle.cap_search_trees.proofs.seeking.+walk.Goals as goal

pub prove-by_choices-requires : goal.prove-by_choices-requires
prove-by_choices-requires t c =
    let o = c.in_ok-offers.offers in
    let p = program_view c.args.program.now in
    let g = goal_view c.args.goal.now in
    let values : map choice_view o.choices.items ≡ (offered p g).value = ap (λ (x : Outcome (List PlainChoice)). x.value) c.in_ok-offers.ensures in
    (omega arith, (c.requires, all-offered p g (map choice_view o.choices.items) values))

pub prove-returns : goal.prove-returns
prove-returns t c =
    let a = c.args in
    let o = c.in_ok-offers.offers in
    let p = program_view a.program.now in
    let g = goal_view a.goal.now in
    let cs = map choice_view o.choices.items in
    let values : cs ≡ (offered p g).value = ap (λ (x : Outcome (List PlainChoice)). x.value) c.in_ok-offers.ensures in
    let notes : o.notes ≡ (offered p g).notes = ap (λ (x : Outcome (List PlainChoice)). x.notes) c.in_ok-offers.ensures in
    rw (tree-visited p g a.room cs c.if-room-eq0.false values, walk-visited p g a.room (walk_view a.walk.now) (walk_view c.count.new.self) (walk_view c.meet.new.self) cs o.notes c.if-room-eq0.false c.in_ok-count.ensures values notes (rw c.deref.ensures.value at c.meet.ensures)) c.by_choices.ensures

pub prove_all-prove-requires : goal.prove_all-prove-requires
prove_all-prove-requires t c =
    (omega arith, each-at (IsSearchable (program_view c.args.program.now)) goal_view c.args.goals.now c.loop-goal.goal-index c.goal-item.result c.requires c.loop-goal-test.true c.goal-item.is)
