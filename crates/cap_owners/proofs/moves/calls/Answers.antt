use Rattle.std.proofs.Common.{◌∙◌, ap}
use Rattle.cap_prog.specs.Views.{program_view}
use Rattle.cap_owners_spec.specs.Traced.{◌>>=◌}
use Rattle.cap_owners.specs.Tracks.{frames_view}
use Rattle.cap_owners.proofs.Stacking.{both-stacked, moved-both, pushed-placed}
use Rattle.cap_owners.proofs.moves.calls.Goals as goal

pub returns-clause-calls : goal.returns-clause-calls
returns-clause-calls c = λ ts are.
    let x = c.in_ok-handed.handed in
    ap (λ t. t >>= both-stacked (frames_view c.args.below.items)) (c.in_ok-handed.ensures.handed ts are)
    ∙ moved-both x.regions c.args.below.items c.push.new.self.items c.push-2.new.self.items x.caller x.callee c.in_ok-push.ensures.items c.in_ok-push-2.ensures.items

pub returns-clause-placed : goal.returns-clause-placed
returns-clause-placed c =
    let p = program_view c.args.program.now in
    let x = c.in_ok-handed.handed in
    let h = c.in_ok-handed.ensures.placed in
    record {
      frames = pushed-placed p c.push.new.self.items c.push-2.new.self.items x.callee c.in_ok-push-2.ensures.items
          (pushed-placed p c.args.below.items c.push.new.self.items x.caller c.in_ok-push.ensures.items c.requires.below h.caller) h.callee;
      forked = tt;
    }
