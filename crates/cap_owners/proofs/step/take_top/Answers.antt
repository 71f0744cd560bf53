use Rattle.std.proofs.Common.{◌≡◌, ◌<◌, get_or, length, refl, arith}
use Rattle.std.proofs.lemmas.List.{length-set}
use Rattle.cap_owners.specs.Tracks.{FramesArePlaced}
use Rattle.cap_owners.proofs.Stacking.{others-set, popped-placed, set-placed, thread-placed, top-there}
use Rattle.cap_owners.proofs.step.take_top.Goals as goal

pub returns-clause-taken : goal.returns-clause-taken
returns-clause-taken c =
    let all = c.args.threads.now.items in
    let n = c.args.thread in
    let t = c.replace-below.result in
    let l : n < length all = omega (arith, c.if-place-len.false, c.len.ensures) in
    let at : t ≡ get_or all n t = rw c.replace-below.ensures.value c.index_mut.ensures.value in
    record {
      there = top-there all n t c.pop.new.self.items c.in_ok-top.top l at c.in_ok-top.ensures.items;
      rest = others-set all _ n c.replace-below.new.dest refl;
      within = rw length-set l;
    }

pub returns-clause-placed : goal.returns-clause-placed
returns-clause-placed c = λ p h.
    let all = c.args.threads.now.items in
    let n = c.args.thread in
    let t = c.replace-below.result in
    let l : n < length all = omega (arith, c.if-place-len.false, c.len.ensures) in
    let at : t ≡ get_or all n t = rw c.replace-below.ensures.value c.index_mut.ensures.value in
    let none : FramesArePlaced p c.replace-below.new.dest.items = rw (c.replace-below.ensures.after, c.new.ensures.items) tt in
    let q = popped-placed p t.items c.pop.new.self.items c.in_ok-top.top c.in_ok-top.ensures.items (thread-placed p all n t l at h) in
    record {
      placed_others = set-placed p all _ n c.replace-below.new.dest refl h none;
      placed_top = q.1;
      placed_below = q.0;
    }
