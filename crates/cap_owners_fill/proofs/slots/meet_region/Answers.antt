use Rattle.std.proofs.Common.{ap, sym, ◌∙◌, length, get_or}
use Rattle.std.proofs.lemmas.Result.{err_from_is_err_and}
use Rattle.cap_lin.specs.Linear.{variable}
use Rattle.cap_prog.specs.declared.assertion.Slot.TheVariants.{Is}
use Rattle.cap_goal_spec.specs.Environments.{reading}
use Rattle.cap_owners_fill.proofs.Meeting.{terms_fail, last_met}
use Rattle.cap_owners_fill.proofs.slots.meet_region.Goals as goal

pub returns-in_err-meet_terms : goal.returns-in_err-meet_terms
returns-in_err-meet_terms c =
    let p = err_from_is_err_and c.from_residual-in_err-meet_terms.result c.from_residual-in_err-meet_terms.ensures.1 in
    rw (p.1, p.2) (terms_fail _ _ _ c.args.values.now (reading c.args.env.now) (Is (variable c.args.region)) c.args.args.now c.args.state.now c.args.fact.now c.fact.inside.region c.deref.result.now c.fact.inside.state c.args.fill.now c.meet_name.new.fill (ap (λ f. f.region) c.fact.view_is) (c.deref.ensures.value ∙ ap (λ f. f.args) c.fact.view_is) (ap (λ f. f.state) c.fact.view_is) c.in_ok-meet_name.ensures c.in_err-meet_terms.ensures)

pub returns : goal.returns
returns c =
    let t = c.at_or-term.ensures ∙ ap (λ us. get_or us (length c.args.args.now) c.fact.inside.state) (c.deref-2.ensures.value ∙ sym c.deref.ensures.value) in
    last_met _ _ c.args.values.now (reading c.args.env.now) (Is (variable c.args.region)) c.args.args.now c.args.state.now c.args.fact.now c.fact.inside.region c.deref.result.now c.fact.inside.state c.len.result c.at_or-slot.result.now c.at_or-term.result.now c.args.fill.now c.meet_name.new.fill c.meet_terms.new.fill (ap (λ f. f.region) c.fact.view_is) (c.deref.ensures.value ∙ ap (λ f. f.args) c.fact.view_is) (ap (λ f. f.state) c.fact.view_is) (c.len.ensures ∙ sym c.deref.ensures.len) c.at_or-slot.ensures t c.in_ok-meet_name.ensures c.in_ok-meet_terms.ensures c.meet_term.ensures
