use Rattle.std.proofs.Common.{◌≡◌, ◌+◌, ◌≤◌, ◌<◌, ap, length, arith, get_or}
use Rattle.cap_prog.specs.Views.{program_view}
use Rattle.cap_machine.specs.View.{configuration}
use Rattle.cap_owners.proofs.Writing.{thread-goes, track-ends}
use Rattle.cap_owners.proofs.account.push_threads.Goals as goal

pub loop-tracked-preserved : goal.loop-tracked-preserved
loop-tracked-preserved c =
    let p = program_view c.args.program.now in
    let g = configuration p c.args.machine.now in
    let n = c.loop-tracked.thread in
    let e : c.threads.result ≡ length g.threads = c.threads.ensures p c.requires in
    let l : n < length g.threads = omega (arith, c.loop-tracked.invariant.within, c.if-thread-threads.false, e) in
    let m : n < length c.args.threads.now = omega (arith, c.loop-tracked.invariant.counted, c.loop-tracked-test.true) in
    let at : c.tracked-item.result ≡ get_or c.args.threads.now n c.tracked-item.result = rw c.loop-tracked.invariant.counted c.tracked-item.is in
    let h = rw c.deref.ensures.value at c.in_ok-push_frames.ensures in
    record {
      counted = ap (λ k. k + 1) c.loop-tracked.invariant.counted;
      within = omega (arith, l);
      written = thread-goes p g.threads c.args.threads.now n c.frames.result.now c.tracked-item.result c.loop-tracked.text.items c.push_frames.new.text.items _ l m (c.frames.ensures p) at h c.loop-tracked.invariant.written;
    }

pub returns : goal.returns
returns c =
    let p = program_view c.args.program.now in
    let g = configuration p c.args.machine.now in
    let l : length c.args.threads.now ≤ c.loop-tracked.thread = omega (arith, c.loop-tracked.invariant.counted, c.loop-tracked-test.false) in
    track-ends p g.threads c.args.threads.now c.loop-tracked.thread c.loop-tracked.text.items _ l c.loop-tracked.invariant.written
