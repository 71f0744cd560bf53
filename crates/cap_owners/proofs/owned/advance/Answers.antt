use Rattle.std.proofs.Common.{[], subst, sym, add-one, Option}
use Rattle.std.specs.Prelude.{slice_get}
use Rattle.cap_prog.specs.Views.{program_view}
use Rattle.cap_machine.specs.Machine.{top_frame}
use Rattle.cap_machine.specs.View.{configuration}
use Rattle.cap_owners_places.specs.Views.{proved_of}
use Rattle.cap_owners.specs.declared.step.Stepping.{Stepping}
use Rattle.cap_owners.specs.Tracks.{track_view, SeesTopOf}
use Rattle.cap_owners.proofs.Running.{faults, goes-on, is-wide, not-enabled, not-stopped, stops}
use Rattle.cap_owners.proofs.owned.advance.Goals as goal

pub returns-in-Err-NotEnabled-clause-advances : goal.returns-in-Err-NotEnabled-clause-advances
returns-in-Err-NotEnabled-clause-advances c = λ ts are.
    not-enabled (proved_of (program_view c.args.program.now) ts) c.args.count c.args.entry.now (track_view c.args.track) c.args.machine.now c.step.new.self c.args.text.now.items _ c.in-Err-NotEnabled.field-0 (add-one c.args.count) c.in-Err-NotEnabled.field-0-is c.requires.runs c.in-Err-NotEnabled.ensures.steps

pub returns-in-Err-Wide-clause-advances : goal.returns-in-Err-Wide-clause-advances
returns-in-Err-Wide-clause-advances c = λ ts are.
    is-wide (proved_of (program_view c.args.program.now) ts) c.args.count c.args.entry.now (track_view c.args.track) c.args.machine.now c.step.new.self c.args.text.now.items _ c.in-Err-Wide.field-0 (add-one c.args.count) c.in-Err-Wide.field-0-is c.in-Err-Wide.ensures.steps

pub returns-then-is_fault-clause-advances : goal.returns-then-is_fault-clause-advances
returns-then-is_fault-clause-advances c = λ ts are.
    faults (proved_of (program_view c.args.program.now) ts) c.args.count c.args.entry.now (track_view c.args.track) c.args.machine.now c.step.new.self c.args.text.now.items _ c.ahead-ahead.result c.in-Ok.event c.push_step.new.text.items (add-one c.args.count) c.in-Ok.ensures.steps c.ahead-ahead.ensures.ahead c.in_ok-push_step.ensures (sym c.if-is_fault.ensures)

pub returns-in-Err-clause-advances : goal.returns-in-Err-clause-advances
returns-in-Err-clause-advances c = λ ts are.
    let p = program_view c.args.program.now in
    let before = configuration p c.args.machine.now in
    let P : Option Stepping → Type 0 = λ s. SeesTopOf s (top_frame (slice_get before.threads c.args.entry.now.thread)) in
    let sees = subst P (sym c.as_ref.ensures.value) c.in_ok-before.ensures in
    stops (proved_of p ts) c.args.count c.args.entry.now (track_view c.args.track) c.args.machine.now c.step.new.self c.args.text.now.items _ c.in-Ok.event c.in-Err.error c.in_ok-end_of-in-Err.field-0 track_view (add-one c.args.count) c.in-Ok.ensures.steps (sym c.if-is_fault.ensures)
    (c.in-Err.ensures.follows ts before are sees)
    c.in_ok-end_of-in-Err.ensures

pub returns-clause-advances : goal.returns-clause-advances
returns-clause-advances c = λ ts are.
    let p = program_view c.args.program.now in
    let before = configuration p c.args.machine.now in
    let P : Option Stepping → Type 0 = λ s. SeesTopOf s (top_frame (slice_get before.threads c.args.entry.now.thread)) in
    let sees = subst P (sym c.as_ref.ensures.value) c.in_ok-before.ensures in
    goes-on (proved_of p ts) c.args.count c.args.entry.now (track_view c.args.track) c.args.machine.now c.step.new.self c.args.text.now.items _ c.ahead-ahead.result c.in-Ok.event c.push_step-2.new.text.items c.push_account.new.text.items c.in-Ok-follow.track (add-one c.args.count) c.in-Ok.ensures.steps c.ahead-ahead.ensures.ahead (sym c.if-is_fault.ensures) c.in_ok-push_step-2.ensures c.in_ok-push_account.ensures
    (c.in-Ok-follow.ensures.follows ts before are sees)

pub returns-clause-goes_on : goal.returns-clause-goes_on
returns-clause-goes_on c = (
  not-stopped (proved_of (program_view c.args.program.now) []) c.args.count c.args.entry.now (track_view c.args.track) c.args.machine.now c.step.new.self c.args.text.now.items c.in-Ok.event c.in-Ok.ensures.steps (sym c.if-is_fault.ensures),
  c.in-Ok-follow.ensures.placed,
)
