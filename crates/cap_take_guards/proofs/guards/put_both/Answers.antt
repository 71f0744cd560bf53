use Rattle.std.proofs.Common.{ℕ, ◌+◌, ◌<◌, ◌≤◌, length, arith, sym, ap, subst, ◌∙◌}
use Rattle.cap_goal_spec.specs.States.{PlainState, longest_list}
use Rattle.cap_take_guards.proofs.Places.{set-keeps, insert-left}
use Rattle.cap_take_guards.proofs.guards.put_both.Goals as goal

pub insert_guards-requires-clause-place : goal.insert_guards-requires-clause-place
insert_guards-requires-clause-place c =
    let gs = c.args.state.now.guards in
    let e = ap (λ (s : PlainState). length s.guards) c.in_ok-put_guards.ensures ∙ set-keeps gs c.args.number c.in_ok-first.first in
    let h : c.args.number + 1 ≤ length gs = omega (arith, c.requires.there) in
    subst (λ (n : ℕ). c.args.number + 1 ≤ n) (sym e) h

pub insert_guards-requires-clause-room : goal.insert_guards-requires-clause-room
insert_guards-requires-clause-room c =
    let gs = c.args.state.now.guards in
    let e = ap (λ (s : PlainState). length s.guards) c.in_ok-put_guards.ensures ∙ set-keeps gs c.args.number c.in_ok-first.first in
    subst (λ (n : ℕ). n < longest_list) (sym e) c.requires.room

pub returns : goal.returns
returns c =
    let a = c.args in
    insert-left c.insert_guards.result a.state.now c.put_guards.new.self c.insert_guards.new.self a.number c.in_ok-first.first c.in_ok-second.second a.piece.now a.front a.behind c.requires.there c.in_ok-first.ensures c.in_ok-second.ensures c.in_ok-put_guards.ensures c.insert_guards.ensures
