use Rattle.std.proofs.Common.{◌≡◌, ◌≢◌, ℕ, suc, ◌+◌, ◌-◌, length, sym, ◌∙◌, rules, arith}
use Rattle.std.specs.Vec.{vec_len}
use Rattle.cap_prog.specs.Views.{region_view}
use Rattle.cap_offer_spec.specs.Closures.{rounds}
use Rattle.cap_closure.specs.Views.{list_view}
use Rattle.cap_closure.proofs.Starts.{rounds-stop, rounds-go, rounds-over}
use Rattle.cap_closure.proofs.surviving.rounds.Goals as goal

pub returns-then-len-before : goal.returns-then-len-before
returns-then-len-before c =
    let a = c.args in
    let k = region_view a.region.now in
    let left : ℕ = c.len-turn-end.result - c.loop-turn._turn in
    let more : ℕ = c.len-turn-end.result - (c.loop-turn._turn + 1) in
    let l : left ≡ suc more = omega arith in
    let v : length c.in_ok-list.list.items ≡ vec_len c.in_ok-list.list = search rules in
    let w : length c.loop-turn.list.items ≡ vec_len c.loop-turn.list = search rules in
    let e : length c.in_ok-list.list.items ≡ length c.loop-turn.list.items = v ∙ (sym c.len.ensures ∙ (c.if-len-before.true ∙ (c.len-before.ensures ∙ sym w))) in
    rounds-stop k a.state.now a.fact.now left more c.loop-turn.list.items c.in_ok-list.list.items c.loop-turn.notes c.round.new.notes (rounds k a.state.now a.fact.now (length a.list.items) (list_view a.list.items) a.notes.now) l e c.in_ok-list.ensures c.loop-turn.invariant

pub loop-turn-preserved : goal.loop-turn-preserved
loop-turn-preserved c =
    let a = c.args in
    let k = region_view a.region.now in
    let left : ℕ = c.len-turn-end.result - c.loop-turn._turn in
    let more : ℕ = c.len-turn-end.result - (c.loop-turn._turn + 1) in
    let l : left ≡ suc more = omega arith in
    let v : length c.in_ok-list.list.items ≡ vec_len c.in_ok-list.list = search rules in
    let w : length c.loop-turn.list.items ≡ vec_len c.loop-turn.list = search rules in
    let e : length c.in_ok-list.list.items ≢ length c.loop-turn.list.items = λ x. c.if-len-before.false (c.len.ensures ∙ (sym v ∙ (x ∙ (w ∙ sym c.len-before.ensures)))) in
    rounds-go k a.state.now a.fact.now left more c.loop-turn.list.items c.in_ok-list.list.items c.loop-turn.notes c.round.new.notes (rounds k a.state.now a.fact.now (length a.list.items) (list_view a.list.items) a.notes.now) l e c.in_ok-list.ensures c.loop-turn.invariant

pub returns : goal.returns
returns c =
    let a = c.args in
    let k = region_view a.region.now in
    let left : ℕ = c.len-turn-end.result - c.loop-turn._turn in
    let l : left ≡ 0 = omega arith in
    rounds-over k a.state.now a.fact.now left (list_view c.loop-turn.list.items) c.loop-turn.notes (rounds k a.state.now a.fact.now (length a.list.items) (list_view a.list.items) a.notes.now) l c.loop-turn.invariant
