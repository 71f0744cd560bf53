-- Attempts one after another, in either grouping.
use Rattle.std.proofs.Common.{◌≡◌, List, ◌++◌, Option, Some, None, refl, ap}
use Rattle.std.proofs.lemmas.List.{append_assoc}
use Rattle.cap_rules.specs.Attempts.{Attempt, Event, behind, go_on}

pub same-after : {A B : Type 0} (es : List Event) (v : Option A) (f g : A → Attempt B) → ((x : A) → f x ≡ g x) → go_on es v f ≡ go_on es v g
same-after es None f g h = refl
same-after es (Some x) f g h = ap (behind es) (h x)

joined : {A B : Type 0} (es ds : List Event) (w : Option A) (g : A → Attempt B) → go_on (es ++ ds) w g ≡ behind es (go_on ds w g)
joined es ds None g = refl
joined es ds (Some y) g = ap (λ l. record { events = l; value = (g y).value }) (append_assoc es ds (g y).events)

-- an attempt after one that is two
pub grouped : {A B C : Type 0} (es : List Event) (v : Option A) (f : A → Attempt B) (g : B → Attempt C) → go_on (go_on es v f).events (go_on es v f).value g ≡ go_on es v (λ x. go_on (f x).events (f x).value g)
grouped es None f g = refl
grouped es (Some x) f g = joined es (f x).events (f x).value g
