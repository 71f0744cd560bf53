use Rattle.std.proofs.Common.{◌+◌, ◌<◌, ◌++◌, length, drop, ap, ◌∙◌, arith}
use Rattle.cap_stab_states.specs.Wanting.{names_view}
use Rattle.cap_stab_states.specs.Asking.{starts_of}
use Rattle.cap_stab_states.proofs.Asked.{asked_more, starts_more}
use Rattle.cap_stab_states.proofs.naming.Names.ask_all.Goals as goal

pub loop-guard-preserved : goal.loop-guard-preserved
loop-guard-preserved c =
    let i = c.loop-guard.guard-index in
    let gs = c.args.guards.now in
    let g = c.guard-item.result in
    let h : i < length gs = omega arith in
    let w = names_view c.loop-guard.self in
    record {
      names = asked_more w _ _ gs i g c.in_ok-ask.ensures h c.guard-item.is c.loop-guard.invariant.names;
      starts = ap (λ l. l ++ starts_of (names_view c.ask.new.self) (drop (i + 1) gs)) c.in_ok-push.ensures.items ∙ starts_more c.loop-guard.starts.items _ w (names_view c.ask.new.self) gs i g c.in_ok-ask.ensures h c.guard-item.is c.loop-guard.invariant.starts;
    }
