use Rattle.std.proofs.Common.{subst, Option}
use Rattle.std.specs.Prelude.{slice_get}
use Rattle.std.specs.Borrow.{Bor}
use Rattle.std.proofs.lemmas.Result.{err_from_is_err_and}
use Rattle.cap_prog.specs.Views.{program_view}
use Rattle.cap_machine.specs.Machine.{top_frame}
use Rattle.cap_machine.specs.View.{configuration}
use Rattle.cap_owners_places.specs.Views.{proved_of}
use Rattle.cap_owners.specs.declared.step.Stepping.{Stepping}
use Rattle.cap_owners.specs.Tracks.{track_view, SeesTop}
use Rattle.cap_owners.proofs.Following.{follow-goes, follow-stops}
use Rattle.cap_owners.proofs.step.follow.Goals as goal

pub returns-in_err-became-clause-follows : goal.returns-in_err-became-clause-follows
returns-in_err-became-clause-follows c = λ ts before are sees.
    let p = program_view c.args.program.now in
    let x = c.args.stepped in
    let P : Option (Bor Stepping) → Type 0 = λ s. SeesTop s (top_frame (slice_get before.threads x.thread)) in
    let e = err_from_is_err_and c.from_residual-in_err-became.result c.from_residual-in_err-became.ensures.1 in
    rw (e.1, e.2)
    (follow-stops (proved_of p ts) (track_view c.args.track) x.thread x.event before (configuration p x.machine.now) c.in-Some.stepping.now c.in-Some-take_top.top c.in_ok-top.top c.in-Some-take_top.below.items (subst P c.in-Some.is sees) c.in-Some-take_top.ensures.taken.there c.in_ok-top.ensures.noted c.in_err-became.field-0.0 track_view
    (λ m s. c.in_err-became.ensures.moves ts m are s))

pub returns-clause-follows : goal.returns-clause-follows
returns-clause-follows c = λ ts before are sees.
    let p = program_view c.args.program.now in
    let x = c.args.stepped in
    let P : Option (Bor Stepping) → Type 0 = λ s. SeesTop s (top_frame (slice_get before.threads x.thread)) in
    follow-goes (proved_of p ts) (track_view c.args.track) x.thread x.event before (configuration p x.machine.now) c.in-Some.stepping.now c.in-Some-take_top.top c.in_ok-top.top c.in-Some-take_top.below.items (subst P c.in-Some.is sees) c.in-Some-take_top.ensures.taken.there c.in_ok-top.ensures.noted c.in_ok-became.became c.in_ok-put_back.field-0
    (λ m s. c.in_ok-became.ensures.moves ts m are s)
    (c.in_ok-put_back.ensures.put (track_view c.args.track) c.in-Some-take_top.ensures.taken.rest)
