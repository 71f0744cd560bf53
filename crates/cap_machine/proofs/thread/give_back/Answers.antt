use Rattle.std.proofs.Common.{◌≡◌, ◌+◌, ◌-◌, ◌<◌, length, arith, ap, ◌∙◌}
use mir.Syntax.{w128}
use Rattle.std.proofs.lemmas.Int.{to_z-of_z}
use Rattle.cap_machine.specs.declared.event.Event.TheVariants.{Return}
use Rattle.cap_machine.proofs.ThreadLemmas.{receives_in, drops_value, returns_value}
use Rattle.cap_machine.proofs.thread.give_back.Goals as goal
use Rattle.cap_machine.proofs.thread.give_back.Goals.{in-Some-destination, in_default-destination}

pub returns-clause-returned : goal.returns-clause-returned
returns-clause-returned c p =
    let some : 0 < length c.pop.new.self.items = grind arith in
    elim c.match-done.branch [
      | in-Some-destination w ↦
          let e : (w.len-caller.result - 1) + 1 ≡ length c.pop.new.self.items = omega arith in
          let s = rw (to_z-of_z w128 _ c.ranges.value) at (w.set.ensures.set p) in
          rw w.frames-is (receives_in p c.pop.new.self.items c.args.frames.now.items (w.len-caller.result - 1) w.index_mut.result.now w.set.new.self c.in-Some.done _ c.args.value e c.in-Some.ensures.items w.index_mut.ensures.value s w.in-Some-destination.is)
      | in_default-destination w ↦ rw w.frames-is (drops_value p c.pop.new.self.items c.args.frames.now.items c.in-Some.done c.args.value some c.in-Some.ensures.items w.in_default-destination.is)
    ]

pub returns-clause-event : goal.returns-clause-event
returns-clause-event c p =
    let some : 0 < length c.pop.new.self.items = grind arith in
    ap Return (to_z-of_z w128 _ c.ranges.value) ∙ returns_value p c.pop.new.self.items c.args.frames.now.items c.in-Some.done c.args.value some c.in-Some.ensures.items
