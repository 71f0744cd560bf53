use Rattle.std.proofs.Common.{◌≡◌, ℕ, ◌≤◌, List, length, Some, ap, subst, ◌∙◌, arith}
use Rattle.std.specs.Prelude.{slice_get}
use Rattle.cap_prog.specs.Views.{program_view}
use Rattle.cap_goal_spec.specs.States.{PlainFact}
use Rattle.cap_offer.specs.Views.{region_in}
use Rattle.cap_offer.proofs.Placed.{at-place, opened-type, no-opened-type}
use Rattle.cap_offer.proofs.listing.type_of_opened.Goals as goal

pub returns-then-number-opened : goal.returns-then-number-opened
returns-then-number-opened c =
    let a = c.args in
    no-opened-type (program_view a.program.now) a.state.now.opened a.number (subst (λ (fs : List PlainFact). length fs ≤ a.number) c.opened-opened.ensures c.if-number-opened.true)

pub returns : goal.returns
returns c =
    let a = c.args in
    let f : PlainFact = c.index-opened-number.result in
    let q = subst (λ (fs : List PlainFact). slice_get fs a.number ≡ Some f) c.opened-opened.ensures (at-place c.opened-opened.result.now a.number f (omega arith) c.index-opened-number.is) in
    let k : c.fact.inside.kind ≡ f.kind = ap (λ (g : PlainFact). g.kind) c.fact.view_is in
    opened-type (program_view a.program.now) a.state.now.opened a.number f (region_in c.type_at.result) q (c.type_at.ensures ∙ ap (λ (i : ℕ). slice_get (program_view a.program.now).regions i) k)
