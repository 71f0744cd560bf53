use Rattle.std.proofs.Common.{◌≡◌, refl, ap}
use Rattle.cap_goal_spec.specs.States.{PlainFact}
use Rattle.cap_stab_states.proofs.Bounds.{of-region, of-another}
use Rattle.cap_stab_states.proofs.finding.add_piece_bounds.Goals as goal

pub returns-then-is_of : goal.returns-then-is_of
returns-then-is_of c =
    let r : c.fact.inside.region ≡ c.args.fact.now.region = ap (λ (f : PlainFact). f.region) c.fact.view_is in
    let k : c.fact.inside.kind ≡ c.args.fact.now.kind = ap (λ (f : PlainFact). f.kind) c.fact.view_is in
    let e = rw (r, k) at c.is_of.ensures in
    rw (of-region c.args.fact.now c.args.later.now c.args.piece.now _ e c.if-is_of.true) c.add_form_bounds.ensures

pub returns-else-is_of : goal.returns-else-is_of
returns-else-is_of c =
    let r : c.fact.inside.region ≡ c.args.fact.now.region = ap (λ (f : PlainFact). f.region) c.fact.view_is in
    let k : c.fact.inside.kind ≡ c.args.fact.now.kind = ap (λ (f : PlainFact). f.kind) c.fact.view_is in
    let e = rw (r, k) at c.is_of.ensures in
    rw (of-another c.args.fact.now c.args.later.now c.args.piece.now _ e c.if-is_of.false) refl
