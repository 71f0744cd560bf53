use Rattle.std.proofs.Common.{rules, ◌∙◌, ap, to_z, of_z}
use Rattle.std.proofs.lemmas.Int.{to_z-of_z}
use Rattle.std.proofs.lemmas.Result.{err_from_is_err_and}
use mir.Val.{SFits}
use mir.Syntax.{w128}
use Rattle.cap_lin.specs.Linear.{Linear, coefficient}
use Rattle.cap_fm_elimination.specs.Views.{entry_of}
use Rattle.cap_fm_elimination.proofs.Replacements.{bounds-fail, bounds-arise}
use Rattle.cap_fm_elimination.proofs.bounds.combine_bounds.Goals as goal

pub returns-in_err-size : goal.returns-in_err-size
returns-in_err-size c = λ inputs present f n m b.
    let u : SFits w128 c.coefficient.result = search rules in
    let e = c.coefficient.ensures.coefficient ∙ ap (λ (t : Linear). coefficient c.args.variable t.parts) c.term.ensures in
    let p = err_from_is_err_and c.from_residual.result c.from_residual.ensures.1 in
    rw (p.1, p.2) (bounds-fail _ _ _ _ _ _ (rw (to_z-of_z _ _ u, e) at c.in_err-size.ensures))

pub returns : goal.returns
returns c = λ inputs present f n m b.
    let s = c.args.stage.now in
    let u : SFits w128 c.coefficient.result = search rules in
    let v : SFits w128 c.in_ok-size.size = search rules in
    let e = c.coefficient.ensures.coefficient ∙ ap (λ (t : Linear). coefficient c.args.variable t.parts) c.term.ensures in
    bounds-arise inputs s c.combine.new.stage present c.args.variable (entry_of s c.args.upper) (entry_of s c.args.lower) (to_z w128 (of_z w128 c.in_ok-size.size)) (to_z w128 (of_z w128 c.args.positive)) c.strictest-kind.result c.combine.result (to_z-of_z _ _ v ∙ (rw (to_z-of_z _ _ u, e) at c.in_ok-size.ensures.1)) (to_z-of_z _ _ c.ranges.positive ∙ b) c.strictest-kind.ensures (rw (to_z-of_z _ _ u, e) at c.in_ok-size.ensures.0) (c.combine.ensures inputs present f n m)
