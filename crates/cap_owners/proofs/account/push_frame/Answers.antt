use Rattle.std.proofs.Common.{◌++◌, ◌∙◌}
use Rattle.std.specs.Prelude.{codes}
use Rattle.cap_prog.specs.Views.{program_view}
use Rattle.cap_machine.specs.View.{frame_view as machine_frame}
use Rattle.cap_owners.specs.Accounts.{held_view}
use Rattle.cap_owners.proofs.Writing.{frame-written, ok-appended, ok-same}
use Rattle.cap_owners.proofs.account.push_frame.Goals as goal

pub returns : goal.returns
returns c =
    let p = program_view c.args.program.now in
    let text = c.push_names.new.text.items in
    let names = rw (c.fixed_names-names.ensures, c.function.ensures p) at c.in_ok-push_names.ensures in
    ok-same c.extend_from_slice-3.result c.extend_from_slice-3.new.self.items (text ++ codes "\n") _
    (frame-written p c.args.place.0 c.args.place.1 (machine_frame p c.args.frame.now, held_view c.args.tracked.now) c.args.text.now.items c.as_bytes.result.now c.as_bytes-2.result.now c.extend_from_slice.new.self.items c.extend_from_slice-2.new.self.items c.push_part.new.text.items text
    (c.as_bytes.ensures.value ∙ c.in_ok-thread.ensures.ok) (c.as_bytes-2.ensures.value ∙ c.in_ok-number.ensures.ok) c.in_ok-extend_from_slice.ensures.items c.in_ok-extend_from_slice-2.ensures.items c.in_ok-push_part.ensures names)
    (ok-appended c.extend_from_slice-3.result c.extend_from_slice-3.new.self.items text (codes "\n") c.extend_from_slice-3.ensures.items)
