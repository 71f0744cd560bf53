-- What contracts see of slots, terms and readings that are lent.
use Rattle.std.specs.Prelude.{List, map}
use Rattle.std.specs.Borrow.{Bor}
use Rattle.cap_lin.specs.Linear.{Linear}
use Rattle.cap_prog.specs.declared.assertion.Slot.{Slot}
use Rattle.cap_rules_steps.specs.cap_goal_spec.Environments.{Reading, settled, open_to, stuck}
use Rattle.cap_take_holdings.specs.declared.matching.Reading as code

abbrev pub slots_view : List (Bor Slot) → List Slot
slots_view xs = map (λ x. x.now) xs

abbrev pub lent_terms : List (Bor Linear) → List Linear
lent_terms ts = map (λ t. t.now) ts

abbrev pub reading_view : code.Reading → Reading
reading_view (code.TheVariants.Settled t) = settled t.now
reading_view (code.TheVariants.OpenTo x) = open_to x
reading_view code.TheVariants.Stuck = stuck
