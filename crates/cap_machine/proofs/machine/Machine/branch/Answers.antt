use Rattle.std.proofs.Common.{◌∙◌, ap, sym}
use Rattle.std.proofs.lemmas.Result.{err_from_is_err_and}
use Rattle.cap_prog.specs.Views.{program_view}
use Rattle.cap_machine.specs.View.{configuration}
use Rattle.cap_machine.proofs.MachineLemmas.{has_top}
use Rattle.std.proofs.Common.{Bool}
use Rattle.cap_prog.specs.Program.{branch, append}
use Rattle.cap_machine.specs.declared.event.Event.TheVariants.{Branch}
use Rattle.cap_machine.specs.Places.{side_of, behind_act}
use Rattle.cap_machine.specs.Machine.{Outcome, next, holds, with_rest}
use Rattle.cap_machine.proofs.ActLemmas.{left_below, right_below, err_steps, no_base, can_change, entered_ok, with_frame}
use Rattle.cap_machine.proofs.StepLemmas.{chosen}
use Rattle.cap_machine.proofs.machine.Machine.branch.Goals as goal

pub store-requires : goal.store-requires
store-requires c = let r = c.requires.2.1 in has_top _ _ _ _ _ r.there

pub holds-requires-clause-left : goal.holds-requires-clause-left
holds-requires-clause-left c = let r = c.requires.2.1 in rw (c.store.ensures _ _ _ r.there) (left_below r.function r.frame.store c.args.comparison.now r.store r.act)

pub holds-requires-clause-right : goal.holds-requires-clause-right
holds-requires-clause-right c = let r = c.requires.2.1 in rw (c.store.ensures _ _ _ r.there) (right_below r.function r.frame.store c.args.comparison.now r.store r.act)

pub returns-in_err-taken-clause-steps : goal.returns-in_err-taken-clause-steps
returns-in_err-taken-clause-steps c =
    let r = c.requires.2.1 in
    let p = err_from_is_err_and c.from_residual.result c.from_residual.ensures.1 in
    let x = rw (c.store.ensures _ _ _ r.there) at c.in_err-taken.ensures in
    rw (p.1, p.2) (err_steps (program_view c.args.program.now) c.args.self.now c.args.entry.now _ r _ (no_base _ r.base) x)

pub enter-requires : goal.enter-requires
enter-requires c = can_change _ _ _ _ c.requires.2.1

pub returns-clause-steps : goal.returns-clause-steps
returns-clause-steps c =
    let r = c.requires.2.1 in
    let i = rw (c.store.ensures _ _ _ r.there) at c.in_ok-taken.ensures in
    let a = branch c.args.comparison.now c.requires.0 c.requires.1 in
    let f : Bool → Outcome = λ t. next (with_frame (program_view c.args.program.now) c.args.self.now c.args.entry.now _ r (configuration (program_view c.args.program.now) c.args.self.now).heap (with_rest r.frame (append (side_of t a) (behind_act c.requires.2.0 a r.rest)))) (Branch t) in
    entered_ok (program_view c.args.program.now) c.args.self.now c.enter.new.self c.args.entry.now _ r _ c.in_ok-taken.taken i.0 (chosen (holds r.frame.store c.args.comparison.now) f ∙ ap f (sym i.1)) c.in_ok-enter.ensures.entered
