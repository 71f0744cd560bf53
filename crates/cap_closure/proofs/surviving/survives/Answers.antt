use Rattle.std.proofs.Common.{◌≡◌, ◌<◌, length, refl, rules, arith}
use Rattle.std.proofs.lemmas.Option.{slice_get_read}
use Rattle.std.specs.Vec.{vec_len}
use Rattle.cap_prog.specs.Views.{action_view, region_view}
use Rattle.cap_offer_spec.specs.Closures.{survives}
use Rattle.cap_closure.proofs.Requests.{set-long, are-set, action-there}
use Rattle.cap_closure.proofs.Starts.{survives-goes, survives-stops}
use Rattle.cap_closure.proofs.surviving.survives.Goals as goal

pub returns-then-not-branch-clause-asked : goal.returns-then-not-branch-clause-asked
returns-then-not-branch-clause-asked c =
    let a = c.args in
    let asked = c.ask_next.new.asked.items in
    let there = slice_get_read asked (length asked) c.loop-place.place c.index_mut.result.now refl
    c.in_ok-ask_next.ensures.there c.index_mut.ensures.value in
    are-set (region_view a.region.now) a.state.now a.fact.now a.known.now asked
    c.in_ok-ask_next.ensures.asked c.loop-place.place c.index_mut.result.now
    c.keeps_after.new.asked there c.in_ok-keeps_after.ensures.same

pub returns-then-not-branch-clause-survives : goal.returns-then-not-branch-clause-survives
returns-then-not-branch-clause-survives c =
    let a = c.args in
    let k = region_view a.region.now in
    let x = c.index-action.result.now in
    let actions = a.region.now.actions.items in
    let asked = c.ask_next.new.asked.items in
    let i = c.loop-place.invariant in
    let all : length actions ≡ vec_len a.region.now.actions = search rules in
    let test = c.loop-place-test.true in
    let end = c.len-place-end.ensures in
    let bound : c.loop-place.place < length actions = omega (arith, all, test, end) in
    let there = slice_get_read asked (length asked) c.loop-place.place c.index_mut.result.now refl
    c.in_ok-ask_next.ensures.there c.index_mut.ensures.value in
    let keeps = c.in_ok-keeps_after.ensures.keeps k a.fact.now a.known.now
    (c.in_ok-ask_next.ensures.asked c.loop-place.place c.index_mut.result.now (action_view x) there
    (action-there actions c.loop-place.place x bound c.index-action.ensures)) in
    survives-stops k a.state.now a.fact.now a.known.now a.row.now actions c.loop-place.place x
    c.loop-place.notes c.keeps_after.new.notes c.in_ok-keeps_after.field-0
    (survives k a.state.now a.fact.now a.known.now a.row.now k.actions a.notes.now) bound
    c.index-action.ensures keeps (search rules) (i.0, i.1)

pub loop-place-preserved : goal.loop-place-preserved
loop-place-preserved c =
    let a = c.args in
    let k = region_view a.region.now in
    let x = c.index-action.result.now in
    let actions = a.region.now.actions.items in
    let asked = c.ask_next.new.asked.items in
    let i = c.loop-place.invariant in
    let all : length actions ≡ vec_len a.region.now.actions = search rules in
    let test = c.loop-place-test.true in
    let end = c.len-place-end.ensures in
    let bound : c.loop-place.place < length actions = omega (arith, all, test, end) in
    let there = slice_get_read asked (length asked) c.loop-place.place c.index_mut.result.now refl
    c.in_ok-ask_next.ensures.there c.index_mut.ensures.value in
    let keeps = c.in_ok-keeps_after.ensures.keeps k a.fact.now a.known.now
    (c.in_ok-ask_next.ensures.asked c.loop-place.place c.index_mut.result.now (action_view x) there
    (action-there actions c.loop-place.place x bound c.index-action.ensures)) in
    let on = survives-goes k a.state.now a.fact.now a.known.now a.row.now actions c.loop-place.place
    x c.loop-place.notes c.keeps_after.new.notes c.in_ok-keeps_after.field-0
    (survives k a.state.now a.fact.now a.known.now a.row.now k.actions a.notes.now) bound
    c.index-action.ensures keeps (search rules) (i.0, i.1) in
    let long = set-long asked c.loop-place.place c.keeps_after.new.asked in (
      on.0,
      on.1,
      are-set k a.state.now a.fact.now a.known.now asked c.in_ok-ask_next.ensures.asked
          c.loop-place.place c.index_mut.result.now c.keeps_after.new.asked there
          c.in_ok-keeps_after.ensures.same,
      omega (arith, long, c.in_ok-ask_next.ensures.there),
    )
