use Rattle.std.proofs.Common.{rules, arith, ◌≤◌, length, get_or, sym, ◌∙◌}
use Rattle.std.proofs.lemmas.List.{drop_all}
use Rattle.std.proofs.lemmas.Int.{to_z-of_z}
use Rattle.std.proofs.lemmas.Result.{err_from_is_err_and}
use mir.Val.{SFits}
use mir.Syntax.{w128}
use Rattle.cap_rules.specs.cap_goal_spec.Environments.{bound_term}
use Rattle.cap_lin.proofs.Results.{first_wide-nil}
use Rattle.cap_rules_steps.proofs.Multiples.{no_part, IsPart, part-fails, part-term, part-narrow}
use Rattle.cap_rules_steps.proofs.bound.value_by.Goals as goal

pub returns-in_err-sum : goal.returns-in_err-sum
returns-in_err-sum c =
    let f : SFits w128 (get_or c.parts-part-items.result.now c.loop-part.part-index no_part).1 = search rules in
    let h : IsPart (bound_term c.args.env.now) c.parts-part-items.result.now c.loop-part.part-index _ _ = record { below = omega arith; factor = to_z-of_z w128 _ f; term = c.bound_term-there.ensures } in
    let p = err_from_is_err_and c.from_residual.result c.from_residual.ensures.1 in
    let k : IsPart (bound_term c.args.env.now) c.args.term.now.parts c.loop-part.part-index _ _ = rw (← c.parts-part-items.ensures.parts) h in
    rw (p.1, p.2) (part-fails (bound_term c.args.env.now) c.loop-part.sum c.args.term.now.parts c.loop-part.part-index _ _ _ _ k c.in_err-sum.ensures c.loop-part.invariant.steps)

pub loop-part-preserved : goal.loop-part-preserved
loop-part-preserved c =
    let e = c.in_ok-sum.ensures in
    let f : SFits w128 (get_or c.parts-part-items.result.now c.loop-part.part-index no_part).1 = search rules in
    let h : IsPart (bound_term c.args.env.now) c.args.term.now.parts c.loop-part.part-index _ _ = rw (← c.parts-part-items.ensures.parts) (record { below = omega arith; factor = to_z-of_z w128 _ f; term = c.bound_term-there.ensures }) in
    record {
      term = part-term _ _ _ _ _ _ _ h e.1 ∙ c.loop-part.invariant.term;
      steps = part-narrow _ _ _ _ _ _ _ h e.0 e.1 ∙ c.loop-part.invariant.steps;
    }

pub returns : goal.returns
returns c =
    let h : length c.args.term.now.parts ≤ c.loop-part.part-index = rw (← c.parts-part-items.ensures.parts) (omega arith) in
    let d = drop_all c.loop-part.part-index c.args.term.now.parts h in
    let i = rw d at c.loop-part.invariant in
    (sym i.steps ∙ first_wide-nil, i.term)
