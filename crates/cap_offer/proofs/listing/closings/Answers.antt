use Rattle.std.proofs.Common.{◌≡◌, ℕ, ◌+◌, ◌-◌, List, ◌++◌, reverse, ap, subst, ◌∙◌, arith}
use Rattle.std.specs.Prelude.{slice_get}
use Rattle.std.specs.List.{range_with_len, flat_map}
use Rattle.cap_prog.specs.Views.{program_view}
use Rattle.cap_goal_spec.specs.Choices.{PlainChoice}
use Rattle.cap_offer_spec.specs.Listing.{closings, closings_of, type_of_opened}
use Rattle.cap_offer.specs.Views.{choices_view}
use Rattle.cap_offer.proofs.Listed.{part-down}
use Rattle.cap_offer.proofs.listing.closings.Goals as goal

pub loop-number-preserved : goal.loop-number-preserved
loop-number-preserved c =
    let p = program_view c.args.program.now in
    let s = c.args.state.now in
    let f : ℕ → List PlainChoice = λ o. closings_of o (type_of_opened p (slice_get s.opened o)) in
    let all : List PlainChoice = choices_view c.loop-number.all.items in
    let o : ℕ = c.loop-number.number - 1 in
    let e : c.loop-number.number ≡ o + 1 = omega arith in
    let before = subst (λ n. all ++ flat_map f (reverse (range_with_len 0 n)) ≡ closings p s) e c.loop-number.invariant in
    part-down f all (choices_view c.add_closings.new.all.items) (closings p s) o before
    (c.in_ok-add_closings.ensures ∙ ap (λ k. all ++ closings_of o k) c.type_of_opened.ensures)
