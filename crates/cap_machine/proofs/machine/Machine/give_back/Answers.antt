use Rattle.std.proofs.Common.{rules, ◌∙◌, ap}
use Rattle.std.proofs.lemmas.Result.{err_from_is_err_and}
use mir.Val.{SFits}
use mir.Syntax.{w128}
use Rattle.std.proofs.lemmas.Int.{to_z-of_z}
use Rattle.cap_prog.specs.Views.{program_view}
use Rattle.cap_machine.proofs.MachineLemmas.{has_top}
use Rattle.std.proofs.Common.{◌∷◌}
use Rattle.cap_machine.specs.Changes.{return_event}
use Rattle.cap_machine.proofs.ActLemmas.{value_below, err_steps, no_base, can_change, spot}
use Rattle.cap_machine.proofs.StepLemmas.{returns_as, returned_ok}
use Rattle.cap_machine.proofs.machine.Machine.give_back.Goals as goal

pub store-requires : goal.store-requires
store-requires c = let r = c.requires.1 in has_top _ _ _ _ _ r.there

pub evaluate-requires : goal.evaluate-requires
evaluate-requires c = let r = c.requires.1 in rw (c.store.ensures _ _ _ r.there) (value_below r.function r.frame.store c.args.term.now r.store r.act)

pub returns-in_err-value-clause-steps : goal.returns-in_err-value-clause-steps
returns-in_err-value-clause-steps c =
    let r = c.requires.1 in
    let p = err_from_is_err_and c.from_residual.result c.from_residual.ensures.1 in
    let x = rw (c.store.ensures _ _ _ r.there) at c.in_err-value.ensures in
    rw (p.1, p.2) (err_steps (program_view c.args.program.now) c.args.self.now c.args.entry.now _ r _ (no_base _ r.base) (x))

pub pop-requires : goal.pop-requires
pop-requires c = can_change _ _ _ _ c.requires.1

pub returns-clause-steps : goal.returns-clause-steps
returns-clause-steps c =
    let r = c.requires.1 in
    let f : SFits w128 c.in_ok-value.value = search rules in
    let i = rw (c.store.ensures _ _ _ r.there) at c.in_ok-value.ensures in
    let h = rw (to_z-of_z w128 _ f) at c.pop.ensures.popped in
    let v = c.pop.ensures.event _ r.there ∙ ap (λ z. return_event z (r.frame ∷ r.below)) (to_z-of_z w128 _ f) in
    returned_ok (program_view c.args.program.now) c.args.self.now c.pop.new.self c.args.entry.now _ r _ c.in_ok-value.value i.0 (returns_as (spot (program_view c.args.program.now) c.args.self.now c.args.entry.now _ r) c.in_ok-value.value _ i.1) h v
