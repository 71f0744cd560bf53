use Rattle.std.proofs.Common.{◌≡◌, ◌∙◌, ap}
use Rattle.std.specs.FinMap.{from_entries}
use Rattle.std.proofs.lemmas.Result.{IfOk-weaker}
use Rattle.cap_prog.specs.Views.{program_view}
use Rattle.cap_machine.specs.Machine.{start}
use Rattle.cap_machine.specs.View.{configuration}
use Rattle.cap_replay.specs.RunText.{in_front}
use Rattle.cap_owners_places.specs.Views.{proved_of}
use Rattle.cap_owners_spec.specs.Owners.{owned_from}
use Rattle.cap_owners.specs.Tracks.{track_view}
use Rattle.cap_owners.specs.Views.{owned_view}
use Rattle.cap_owners.proofs.Playing.{played-same}
use Rattle.cap_owners.proofs.owned.play.Goals as goal

pub returns : goal.returns
returns c = λ ts are.
    let p = program_view c.args.program.now in
    let s = c.args.schedule.now in
    let m = configuration p c.in_ok-machine.machine in
    let k = track_view c.args.track in
    let text = c.push_account.new.text.items in
    let begins = c.in_ok-machine.ensures.begins ∙ (ap (λ a. start p a (from_entries c.deref-2.result.now)) c.deref.ensures.value ∙ ap (λ h. start p s.args.items (from_entries h)) c.deref-2.ensures.value) in
    IfOk-weaker c.run.result (λ r. owned_view r ≡ in_front text (owned_from (proved_of p ts) 0 m c.deref-3.result.now k)) _
    (λ r w. w ∙ played-same (proved_of p ts) s k m c.in_ok-text.text.items text c.deref-3.result.now begins c.in_ok-text.ensures.items c.in_ok-push_account.ensures c.deref-3.ensures.value)
    (c.run.ensures ts are)
