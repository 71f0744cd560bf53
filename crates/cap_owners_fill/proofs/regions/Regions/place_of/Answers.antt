use Rattle.std.proofs.Common.{arith, ◌+◌, ◌-◌, ◌/◌, ◌≡◌, ◌<ℤ◌, ◌≤ℤ◌, get_or, pos, length, subst}
use Rattle.std.proofs.lemmas.Int.{ints}
use Rattle.std.proofs.lemmas.List.{length-map}
use Rattle.cap_owners_fill.specs.Views.{Ascend, region_number, numbers}
use Rattle.cap_owners_fill.proofs.Ascending.{raised, lowered}
use Rattle.cap_owners_fill.proofs.regions.Regions.place_of.Goals as goal

pub loop-start-preserved-then-number_at-number : goal.loop-start-preserved-then-number_at-number
loop-start-preserved-then-number_at-number c =
    let ns = numbers c.args.self.now in
    let a : Ascend ns = subst (λ rs. Ascend (numbers rs)) c.self.view_is c.self.invariant in
    let m = c.loop-start.start + (c.loop-start.end - c.loop-start.start) / 2 in
    let k : length ns ≡ length c.args.self.now = length-map c.args.self.now region_number in
    let s : get_or ns m (pos 0) <ℤ c.args.number = omega (arith, ints) in
    record {
      order = omega arith;
      bound = omega arith;
      below = λ i h. let b = raised c.args.number ns m a (omega arith) s i h in omega (arith, ints);
      above = c.loop-start.invariant.above;
    }

pub loop-start-preserved : goal.loop-start-preserved
loop-start-preserved c =
    let ns = numbers c.args.self.now in
    let a : Ascend ns = subst (λ rs. Ascend (numbers rs)) c.self.view_is c.self.invariant in
    let m = c.loop-start.start + (c.loop-start.end - c.loop-start.start) / 2 in
    let k : length ns ≡ length c.args.self.now = length-map c.args.self.now region_number in
    let s : c.args.number ≤ℤ get_or ns m (pos 0) = omega (arith, ints) in
    record {
      order = omega arith;
      bound = omega arith;
      below = c.loop-start.invariant.below;
      above = λ i h l. let b = lowered c.args.number ns m a s i h (omega arith) in omega (arith, ints);
    }
