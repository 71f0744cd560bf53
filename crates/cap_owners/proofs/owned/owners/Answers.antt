use Rattle.std.proofs.Common.{◌∙◌, ap, sym, Err, Some}
use Rattle.std.specs.Prelude.{option_map}
use Rattle.cap_prog.specs.Views.{program_view}
use Rattle.cap_goal.specs.Trees.{bundle_view}
use Rattle.cap_replay.specs.RunText.{ends, in_front}
use Rattle.cap_owners_spec.specs.Traced.{traced}
use Rattle.cap_owners_values.proofs.Tracing.{traces_same}
use Rattle.cap_owners.specs.Tracks.{track_view}
use Rattle.cap_owners.proofs.Playing.{first-same, text-ends, text-none, text-some}
use Rattle.cap_owners.proofs.owned.owners.Goals as goal

pub returns-in-Ok-None-clause-start : goal.returns-in-Ok-None-clause-start
returns-in-Ok-None-clause-start c = λ i.
    let p = program_view c.args.program.now in
    let ts = bundle_view c.args.bundle.now in
    text-none p ts c.args.schedule.now
    (sym (first-same p ts c.args.schedule.now c.deref.result.now c.deref-2.result.now c.deref.ensures.value c.deref-2.ensures.value)
    ∙ (c.in-Ok-None.ensures.starts ts c.in_ok-roots.ensures ∙ ap (λ o. traced (option_map track_view o)) c.in-Ok-None.field-0-is))

pub returns-in-Ok-Some-clause-shown : goal.returns-in-Ok-Some-clause-shown
returns-in-Ok-Some-clause-shown c =
    let p = program_view c.args.program.now in
    let ts = bundle_view c.args.bundle.now in
    text-some p ts c.args.schedule.now (track_view c.in-Ok-Some.track)
    (sym (first-same p ts c.args.schedule.now c.deref.result.now c.deref-2.result.now c.deref.ensures.value c.deref-2.ensures.value)
    ∙ (c.in-Ok-Some.ensures.starts ts c.in_ok-roots.ensures ∙ ap (λ o. traced (option_map track_view o)) c.in-Ok-Some.field-0-is))
    ∙ ap Some (sym (c.in_ok-play-in-Ok-Some.ensures ts c.in_ok-roots.ensures))

pub returns-clause-shown : goal.returns-clause-shown
returns-clause-shown c =
    let p = program_view c.args.program.now in
    let ts = bundle_view c.args.bundle.now in
    let end = c.in_ok-end_of-in-Err.field-0 in
    text-ends p ts c.args.schedule.now c.in-Err.error end (option_map track_view)
    (traces_same (Err c.in-Err.error) (option_map track_view) _ _
    (sym (first-same p ts c.args.schedule.now c.deref.result.now c.deref-2.result.now c.deref.ensures.value c.deref-2.ensures.value))
    (c.in-Err.ensures.starts ts c.in_ok-roots.ensures))
    c.in_ok-end_of-in-Err.ensures
    ∙ ap Some (sym (c.in_ok-finish-in-Err.ensures ∙ ap (λ t. in_front t (ends end)) c.new.ensures.items))
