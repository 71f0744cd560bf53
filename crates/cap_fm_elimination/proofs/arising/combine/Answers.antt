use Rattle.std.proofs.Common.{rules, ◌≡◌, ◌∙◌, false}
use Rattle.std.proofs.lemmas.Int.{to_z-of_z}
use mir.Syntax.{w128}
use mir.Val.{SFits}
use Rattle.cap_fm_spec.specs.Rows.{has_parts}
use Rattle.cap_fm_elimination.specs.Views.{stage_view, entry_view, entries_view, entry_of}
use Rattle.cap_fm_elimination.proofs.NewRows.{combine-wide, then-combined, bare-combined, bare-number, does-err}
use Rattle.cap_fm_elimination.proofs.arising.combine.Goals as goal

pub returns-in_err-term : goal.returns-in_err-term
returns-in_err-term c = λ inputs present f p q. does-err inputs c.args.stage.now c.args.stage.now present _ c.from_residual.result c.in_err-term.field-0.0 c.from_residual.ensures (λ x e. combine-wide (entries_view present) c.args.a c.args.b _ _ (entry_view (entry_of c.args.stage.now c.args.first)) (entry_view (entry_of c.args.stage.now c.args.second)) c.args.kind (stage_view c.args.stage.now) c.in_err-term.field-0.0 x (to_z-of_z _ _ c.ranges.a) (to_z-of_z _ _ c.ranges.b) e (rw (c.term.ensures, c.term-2.ensures) at c.in_err-term.ensures.exact))

pub returns-then-is_empty : goal.returns-then-is_empty
returns-then-is_empty c = λ inputs present f p q.
    let e : has_parts c.in_ok-term.term ≡ false = search rules in
    let w : SFits w128 c.constant_part.result = search rules in
    let t = rw (c.term.ensures, c.term-2.ensures) at c.in_ok-term.ensures.exact in
    let b = bare-number inputs c.args.stage.now c.bare.new.stage present c.in_ok-term.term c.args.kind _ _ c.bare.result e (to_z-of_z _ _ w ∙ c.constant_part.ensures) (c.bare.ensures inputs present f (p.origin, q.origin)) in
    then-combined inputs c.args.stage.now c.bare.new.stage present c.args.a c.args.b _ _ (entry_view (entry_of c.args.stage.now c.args.first)) (entry_view (entry_of c.args.stage.now c.args.second)) c.args.kind c.in_ok-term.term c.bare.result (to_z-of_z _ _ c.ranges.a) (to_z-of_z _ _ c.ranges.b) t (bare-combined inputs c.args.stage.now c.bare.new.stage present c.in_ok-term.term c.args.kind _ c.bare.result e b)

pub returns-else-is_empty : goal.returns-else-is_empty
returns-else-is_empty c = λ inputs present f p q.
    let t = rw (c.term.ensures, c.term-2.ensures) at c.in_ok-term.ensures.exact in
    then-combined inputs c.args.stage.now c.counted.new.stage present c.args.a c.args.b _ _ (entry_view (entry_of c.args.stage.now c.args.first)) (entry_view (entry_of c.args.stage.now c.args.second)) c.args.kind c.in_ok-term.term c.counted.result (to_z-of_z _ _ c.ranges.a) (to_z-of_z _ _ c.ranges.b) t (c.counted.ensures inputs present f (p.origin, q.origin))
