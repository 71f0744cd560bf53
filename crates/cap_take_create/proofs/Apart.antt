-- A term differs from the facts of two lists, one list after the other.
use Rattle.std.proofs.Common.{◌≡◌, List, [], ◌∷◌, ◌++◌, refl, sym, ◌∙◌}
use Rattle.cap_lin.specs.Linear.{Linear}
use Rattle.cap_goal_spec.specs.States.{PlainFact, PlainState}
use Rattle.cap_rules.specs.Attempts.{go_on}
use Rattle.cap_rules.specs.Making.{with_differing}
use Rattle.cap_rules_steps.proofs.Listing.{differs}
use Rattle.cap_take_create.proofs.Grouping.{same-after, grouped}

pub differ-both : (t : Linear) (fs gs : List PlainFact) (s : PlainState) → with_differing s t (fs ++ gs) ≡ go_on (with_differing s t fs).events (with_differing s t fs).value (λ u. with_differing u t gs)
differ-both t [] gs s = refl
differ-both t (f ∷ fs) gs s =
    let o = differs t s f in
    same-after o.events o.value (λ u. with_differing u t (fs ++ gs)) (λ u. go_on (with_differing u t fs).events (with_differing u t fs).value (λ w. with_differing w t gs)) (λ u. differ-both t fs gs u) ∙ sym (grouped o.events o.value (λ u. with_differing u t fs) (λ w. with_differing w t gs))
