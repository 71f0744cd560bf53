use Rattle.std.proofs.Common.{ap, refl, sym, subst}
use Rattle.std.specs.Prelude.{slice_set}
use Rattle.cap_owners.specs.Tracks.{FrameIsPlaced, FramesArePlaced}
use Rattle.cap_owners.proofs.Stacking.{more-placed, put-alone, put-both, set-placed}
use Rattle.cap_owners.proofs.step.put_back.Goals as goal

pub returns-in-None-clause-put : goal.returns-in-None-clause-put
returns-in-None-clause-put c = λ k h.
    rw c.in-None.is (ap (λ ts. record { regions = c.args.moved.regions; threads = ts }) (put-alone k.threads c.args.others.items _ c.args.thread c.args.moved.frames h refl))

pub returns-in_ok-push-in-Some-2-clause-put : goal.returns-in_ok-push-in-Some-2-clause-put
returns-in_ok-push-in-Some-2-clause-put c = λ k h.
    let begun = c.push.new.self in
    let alone = rw c.new-begun.ensures.items at c.in_ok-push-in-Some.ensures.items in
    let set = slice_set c.args.others.items c.args.thread c.args.moved.frames in
    rw c.in-Some.is (ap (λ ts. record { regions = c.args.moved.regions; threads = ts }) (put-both k.threads c.args.others.items set c.push-in-Some.new.self.items c.args.thread c.args.moved.frames begun c.in-Some.frame h refl alone c.in_ok-push-in-Some-2.ensures.items))

pub returns-in_ok-push-in-Some-2-clause-placed : goal.returns-in_ok-push-in-Some-2-clause-placed
returns-in_ok-push-in-Some-2-clause-placed c = λ p h k.
    let begun = c.push.new.self in
    let alone = rw c.new-begun.ensures.items at c.in_ok-push-in-Some.ensures.items in
    let set = slice_set c.args.others.items c.args.thread c.args.moved.frames in
    let frame : FrameIsPlaced p c.in-Some.frame = rw c.in-Some.is at k.forked in
    more-placed p set c.push-in-Some.new.self.items begun c.in_ok-push-in-Some-2.ensures.items
    (set-placed p c.args.others.items set c.args.thread c.args.moved.frames refl h k.frames)
    (subst (FramesArePlaced p) (sym alone) (frame, tt))
