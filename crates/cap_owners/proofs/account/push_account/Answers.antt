use Rattle.std.proofs.Common.{◌++◌, refl}
use Rattle.std.specs.List.{zip}
use Rattle.cap_prog.specs.Views.{program_view}
use Rattle.cap_machine.specs.View.{configuration}
use Rattle.cap_owners_spec.specs.Texts.{thread_lines}
use Rattle.cap_owners.specs.Accounts.{all_helds_view}
use Rattle.cap_owners.proofs.Writing.{account-written, ok-same}
use Rattle.cap_owners.proofs.account.push_account.Goals as goal

pub returns : goal.returns
returns c =
    let p = program_view c.args.program.now in
    let g = configuration p c.args.machine.now in
    let e = rw c.deref.ensures.value at c.push_threads.ensures in
    ok-same c.push_threads.result c.push_threads.new.text.items (c.push_regions.new.text.items ++ thread_lines p 0 (zip g.threads (all_helds_view c.args.track.now.threads.items))) _
    (account-written p g c.args.track.now c.args.text.now.items c.push_regions.new.text.items _ c.in_ok-push_regions.ensures refl)
    e
