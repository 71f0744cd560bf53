use Rattle.std.proofs.Common.{arith, sym}
use Rattle.std.proofs.lemmas.Int.{ints}
use Rattle.std.proofs.lemmas.Bool.Decides.{when_true, when_false}
use Rattle.cap_owners_fill.specs.Views.{numbers, HasAt, IsPlaceOf}
use Rattle.cap_owners_fill.proofs.Ascending.{nothing_there, found_at}
use Rattle.cap_owners_fill.proofs.regions.Regions.at.Goals as goal

pub returns-then-not-is_at : goal.returns-then-not-is_at
returns-then-not-is_at c =
    let ns = numbers c.args.self.now in
    let place = c.place_of-place.ensures.place in
    let p : IsPlaceOf c.args.number ns c.place_of-place.result = record {
      bound = place.bound;
      below = λ i h. let b = place.below i h in omega (arith, ints);
      above = λ i h l. let b = place.above i h l in omega (arith, ints);
    } in
    let k = when_false _ _ c.if-not-is_at.true c.is_at.ensures in
    sym (nothing_there c.args.number c.args.self.now c.place_of-place.result c.place_of-place.ensures.ascend p (λ t. let e = t.1 in k (t.0, omega (arith, ints))))

pub returns : goal.returns
returns c =
    let ns = numbers c.args.self.now in
    let place = c.place_of-place.ensures.place in
    let p : IsPlaceOf c.args.number ns c.place_of-place.result = record {
      bound = place.bound;
      below = λ i h. let b = place.below i h in omega (arith, ints);
      above = λ i h l. let b = place.above i h l in omega (arith, ints);
    } in
    let k = when_true _ _ c.if-not-is_at.false c.is_at.ensures in
    let e = k.1 in
    let h : HasAt c.args.number ns c.place_of-place.result = (k.0, omega (arith, ints)) in
    found_at (λ x. x.value) c.self.inside.regions.items c.args.self.now c.place_of-place.result c.index.result.now c.deref.result.now c.args.number c.self.view_is c.index.ensures c.deref.ensures p h
