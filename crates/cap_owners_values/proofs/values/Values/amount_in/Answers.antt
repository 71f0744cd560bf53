use Rattle.std.proofs.Common.{rules, ◌∙◌}
use Rattle.std.proofs.lemmas.Int.{to_z-of_z}
use Rattle.std.proofs.lemmas.Result.{err_from_is_err_and}
use mir.Val.{SFits}
use mir.Syntax.{w128}
use Rattle.cap_owners_values.proofs.Sums.{amount_stops, amount_whole}
use Rattle.cap_owners_values.proofs.values.Values.amount_in.Goals as goal

pub returns-in_err-start : goal.returns-in_err-start
returns-in_err-start c =
    let f : SFits w128 c.constant_part.result = search rules in
    let p = err_from_is_err_and c.from_residual.result c.from_residual.ensures.1 in
    rw (p.1, p.2) (amount_stops _ c.args.self.now c.args.term.now _ (to_z-of_z _ _ f ∙ c.constant_part.ensures) c.in_err-start.ensures)

pub returns : goal.returns
returns c =
    let f : SFits w128 c.constant_part.result = search rules in
    let u : SFits w128 c.in_ok-start.start = search rules in
    amount_whole _ c.args.self.now c.args.term.now _ _ _ _ (to_z-of_z _ _ f ∙ c.constant_part.ensures) c.parts.ensures.parts c.in_ok-start.ensures (to_z-of_z _ _ u) c.total.ensures
