use Rattle.std.proofs.Common.{◌∙◌, ap}
use Rattle.cap_prog.specs.Views.{program_view}
use Rattle.cap_owners_spec.specs.Traced.{◌>>=◌}
use Rattle.cap_owners.specs.Tracks.{frames_view}
use Rattle.cap_owners.proofs.Stacking.{caller-stacked, moved-forked, pushed-placed}
use Rattle.cap_owners.proofs.moves.forks.Goals as goal

pub returns-clause-forks : goal.returns-clause-forks
returns-clause-forks c = λ ts are.
    let x = c.in_ok-handed.handed in
    ap (λ t. t >>= caller-stacked (frames_view c.args.below.items)) (c.in_ok-handed.ensures.handed ts are)
    ∙ moved-forked x.regions c.args.below.items c.push.new.self.items x.caller x.callee c.in_ok-push.ensures.items

pub returns-clause-placed : goal.returns-clause-placed
returns-clause-placed c =
    let x = c.in_ok-handed.handed in
    let h = c.in_ok-handed.ensures.placed in
    record {
      frames = pushed-placed (program_view c.args.program.now) c.args.below.items c.push.new.self.items x.caller c.in_ok-push.ensures.items c.requires.below h.caller;
      forked = h.callee;
    }
