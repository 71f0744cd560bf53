use Rattle.std.proofs.Common.{◌∙◌, ap, sym}
use Rattle.std.specs.Prelude.{position, ◌==◌}
use Rattle.cap_prog.specs.Views.{function_view}
use Rattle.cap_owners.specs.Loops.{loop_at}
use Rattle.cap_owners.proofs.Looping.{loop-found, no-loop}
use Rattle.cap_owners.proofs.loops.loop_number.Goals as goal

pub returns-in_default : goal.returns-in_default
returns-in_default c =
    let f = function_view c.args.function.now in
    sym (no-loop f) ∙ ap (loop_at f) (sym c.in_default.is)

pub returns : goal.returns
returns c =
    let f = function_view c.args.function.now in
    let n = c.in-Some.number in
    c.place_of.ensures
    ∙ (ap (position (λ k. k == n)) (c.deref-2.ensures.value ∙ rw (c.deref.ensures.value, c.new-numbers.ensures.items) at c.in_ok-push_loops.ensures)
    ∙ (loop-found f n ∙ ap (loop_at f) (sym c.in-Some.is)))
