use Rattle.std.proofs.Common.{◌<◌, ◌≤◌, length, ap, sym, ◌∙◌, arith}
use Rattle.cap_rules.specs.Resting.{names_below}
use Rattle.cap_stab_states.proofs.Asked.{below_next, below_end}
use Rattle.cap_stab_states.proofs.naming.Names.name_below.Goals as goal

pub loop-alloc-preserved : goal.loop-alloc-preserved
loop-alloc-preserved c =
    let s = c.loop-alloc.self in
    let h : length s.terms.items < c.args.count = omega (arith, s.terms.ok.0) in
    ap (λ w. names_below w c.args.count) c.in_ok-name.ensures ∙ (below_next s.terms.items s.next c.args.count h ∙ c.loop-alloc.invariant)

pub returns : goal.returns
returns c =
    let s = c.loop-alloc.self in
    let h : c.args.count ≤ length s.terms.items = omega (arith, s.terms.ok.0) in
    sym (below_end s.terms.items s.next c.args.count h) ∙ c.loop-alloc.invariant
