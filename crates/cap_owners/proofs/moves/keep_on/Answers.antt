use Rattle.std.proofs.Common.{◌∙◌, ap}
use Rattle.std.proofs.lemmas.Result.{err_from_is_err_and}
use Rattle.cap_owners_spec.specs.Traced.{◌>>=◌}
use Rattle.cap_owners_spec.specs.Steps.{keeping}
use Rattle.cap_owners_values.proofs.Tracing.{stops}
use Rattle.cap_owners_walks.specs.Views.{halt_view}
use Rattle.cap_owners.specs.Moves.{moved_view}
use Rattle.cap_owners.specs.Tracks.{frame_view, frames_view}
use Rattle.cap_owners.proofs.Stacking.{moved-alone, pushed-placed, stacked}
use Rattle.cap_owners.proofs.moves.keep_on.Goals as goal

pub returns-in_err-frame-clause-keeps : goal.returns-in_err-frame-clause-keeps
returns-in_err-frame-clause-keeps c = λ d.
    let e = err_from_is_err_and c.from_residual.result c.from_residual.ensures.1 in
    rw (e.1, e.2) (stops c.in_err-frame.field-0.0 frame_view moved_view (keeping d (frame_view c.args.top) (halt_view c.args.halt.now)) (stacked c.args.regions (frames_view c.args.below.items)) (c.in_err-frame.ensures.keeps d))

pub returns-clause-keeps : goal.returns-clause-keeps
returns-clause-keeps c = λ d.
    ap (λ t. t >>= stacked c.args.regions (frames_view c.args.below.items)) (c.in_ok-frame.ensures.keeps d)
    ∙ moved-alone c.args.regions c.args.below.items c.push.new.self.items c.in_ok-frame.frame c.in_ok-push.ensures.items

pub returns-clause-placed : goal.returns-clause-placed
returns-clause-placed c = λ p top below. record {
  frames = pushed-placed p c.args.below.items c.push.new.self.items c.in_ok-frame.frame c.in_ok-push.ensures.items below (c.in_ok-frame.ensures.placed p top);
  forked = tt;
}
