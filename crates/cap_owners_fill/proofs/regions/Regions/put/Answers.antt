use Rattle.std.proofs.Common.{rules, arith, ap, sym, subst, ◌∙◌, ◌≡◌, map}
use mir.Val.{SFits}
use mir.Syntax.{w128}
use Rattle.std.proofs.lemmas.Int.{ints}
use Rattle.std.proofs.lemmas.Bool.Decides.{when_true, when_false}
use Rattle.cap_owners_fill.specs.Views.{Ascend, region_number, numbers, HasAt, IsPlaceOf}
use Rattle.cap_owners_fill.proofs.Ascending.{ascend_put, stored_there, stored_new}
use Rattle.cap_owners_fill.proofs.regions.Regions.put.Goals as goal

pub invariant_of-self : goal.invariant_of-self
invariant_of-self c =
    let ns = numbers c.args.self.now in
    let f : SFits w128 c.region.inside.number = search rules in
    let m : region_number c.args.region ≡ c.region.inside.number = ap region_number (sym c.region.view_is) in
    let place = c.place_of-place.ensures.place in
    let p : IsPlaceOf (region_number c.args.region) ns c.place_of-place.result = record {
      bound = place.bound;
      below = λ i h. let b = place.below i h in omega (arith, ints);
      above = λ i h l. let b = place.above i h l in omega (arith, ints);
    } in
    let k = when_true _ _ c.if-is_there.true c.is_at-is_there.ensures in
    let e = k.1 in
    let h : HasAt (region_number c.args.region) ns c.place_of-place.result = (k.0, omega (arith, ints)) in
    let s = stored_there (λ x. x.value) c.self.inside.regions.items c.args.self.now c.place_of-place.result c.in_ok-region.region c.args.region c.self.view_is c.in_ok-region.ensures.ok p h in
    subst (λ rs. Ascend (numbers rs)) (sym s) (ascend_put c.args.region c.args.self.now c.place_of-place.ensures.ascend)

pub invariant_of-self-in-Continue-branch-2 : goal.invariant_of-self-in-Continue-branch-2
invariant_of-self-in-Continue-branch-2 c =
    let ns = numbers c.args.self.now in
    let f : SFits w128 c.region.inside.number = search rules in
    let m : region_number c.args.region ≡ c.region.inside.number = ap region_number (sym c.region.view_is) in
    let place = c.place_of-place.ensures.place in
    let p : IsPlaceOf (region_number c.args.region) ns c.place_of-place.result = record {
      bound = place.bound;
      below = λ i h. let b = place.below i h in omega (arith, ints);
      above = λ i h l. let b = place.above i h l in omega (arith, ints);
    } in
    let k = when_false _ _ c.if-is_there.false c.is_at-is_there.ensures in
    let h : HasAt (region_number c.args.region) ns c.place_of-place.result → ⊥ = λ t. let e = t.1 in k (t.0, omega (arith, ints)) in
    let s = stored_new (λ x. x.value) c.self.inside.regions.items c.args.self.now c.place_of-place.result c.in_ok-region.region c.args.region c.self.view_is c.in_ok-region.ensures.ok p h in
    subst (λ rs. Ascend (numbers rs)) (sym (ap (map (λ x. x.value)) c.in_ok-insert.ensures.items ∙ s)) (ascend_put c.args.region c.args.self.now c.place_of-place.ensures.ascend)

pub returns-then-is_there-clause-put : goal.returns-then-is_there-clause-put
returns-then-is_there-clause-put c =
    let ns = numbers c.args.self.now in
    let f : SFits w128 c.region.inside.number = search rules in
    let m : region_number c.args.region ≡ c.region.inside.number = ap region_number (sym c.region.view_is) in
    let place = c.place_of-place.ensures.place in
    let p : IsPlaceOf (region_number c.args.region) ns c.place_of-place.result = record {
      bound = place.bound;
      below = λ i h. let b = place.below i h in omega (arith, ints);
      above = λ i h l. let b = place.above i h l in omega (arith, ints);
    } in
    let k = when_true _ _ c.if-is_there.true c.is_at-is_there.ensures in
    let e = k.1 in
    let h : HasAt (region_number c.args.region) ns c.place_of-place.result = (k.0, omega (arith, ints)) in
    let s = stored_there (λ x. x.value) c.self.inside.regions.items c.args.self.now c.place_of-place.result c.in_ok-region.region c.args.region c.self.view_is c.in_ok-region.ensures.ok p h in
    s

pub returns-in_ok-insert-clause-put : goal.returns-in_ok-insert-clause-put
returns-in_ok-insert-clause-put c =
    let ns = numbers c.args.self.now in
    let f : SFits w128 c.region.inside.number = search rules in
    let m : region_number c.args.region ≡ c.region.inside.number = ap region_number (sym c.region.view_is) in
    let place = c.place_of-place.ensures.place in
    let p : IsPlaceOf (region_number c.args.region) ns c.place_of-place.result = record {
      bound = place.bound;
      below = λ i h. let b = place.below i h in omega (arith, ints);
      above = λ i h l. let b = place.above i h l in omega (arith, ints);
    } in
    let k = when_false _ _ c.if-is_there.false c.is_at-is_there.ensures in
    let h : HasAt (region_number c.args.region) ns c.place_of-place.result → ⊥ = λ t. let e = t.1 in k (t.0, omega (arith, ints)) in
    let s = stored_new (λ x. x.value) c.self.inside.regions.items c.args.self.now c.place_of-place.result c.in_ok-region.region c.args.region c.self.view_is c.in_ok-region.ensures.ok p h in
    ap (map (λ x. x.value)) c.in_ok-insert.ensures.items ∙ s
