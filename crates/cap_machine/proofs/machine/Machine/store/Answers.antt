use Rattle.std.proofs.Common.{◌≡◌, ◌∙◌, ap, ◌+◌, ◌-◌, length, arith}
use Rattle.cap_machine.specs.Machine.{Frame}
use Rattle.cap_machine.proofs.MachineLemmas.{is_there, has_frames, top_shows}
use Rattle.cap_machine.proofs.machine.Machine.store.Goals as goal

pub index-frames-requires : goal.index-frames-requires
index-frames-requires c = omega (arith, is_there c.args.self.now c.args.thread c.requires, c.args.self.now.threads.ok)

pub overflow_sub-len : goal.overflow_sub-len
overflow_sub-len c = omega (arith, has_frames c.args.self.now c.args.thread c.index-frames.result.now c.requires c.index-frames.ensures)

pub index-requires : goal.index-requires
index-requires c = omega (arith, has_frames c.args.self.now c.args.thread c.index-frames.result.now c.requires c.index-frames.ensures)

pub returns : goal.returns
returns c p f fs e =
    let k : (c.len.result - 1) + 1 ≡ length c.index-frames.result.now.items = omega (arith, has_frames c.args.self.now c.args.thread c.index-frames.result.now c.requires c.index-frames.ensures) in
    let v = top_shows p c.args.self.now c.args.thread (c.len.result - 1) c.index-frames.result.now c.index.result.now f fs c.requires c.index-frames.ensures k c.index.ensures e in
    c.deref.ensures.value ∙ ap (λ (g : Frame). g.store) v
