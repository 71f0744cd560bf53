use Rattle.std.proofs.Common.{◌≡◌, ◌∙◌, ap, sym, Some}
use Rattle.std.specs.Prelude.{option_and_then, slice_get}
use Rattle.cap_prog.specs.Views.{program_view}
use Rattle.cap_machine.specs.Machine.{top_frame}
use Rattle.cap_machine.specs.View.{configuration, frame_view as machine_frame}
use Rattle.cap_outline_spec.specs.Standing.{first_number}
use Rattle.cap_owners.specs.Tracks.{lent_frame}
use Rattle.cap_owners.proofs.step.top_before.Goals as goal

pub returns-in_ok-stepping_of-in-Some : goal.returns-in_ok-stepping_of-in-Some
returns-in_ok-stepping_of-in-Some c =
    let p = program_view c.args.program.now in
    let top : top_frame (slice_get (configuration p c.args.machine.now).threads c.args.thread) ≡ Some (machine_frame p c.in-Some.frame.now) =
    sym (c.top_of.ensures p) ∙ ap (lent_frame p) c.in-Some.is in
    let number = c.number_ahead-number.ensures ∙ ap (option_and_then (λ m. first_number m.rest)) top in
    rw top (c.in_ok-stepping_of-in-Some.ensures p number)
