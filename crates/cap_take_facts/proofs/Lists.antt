-- Members that are seen by a view, and an attempt each for the members of a list.
use Rattle.std.proofs.Common.{◌≡◌, ℕ, List, map, refl, sym, ap, ◌∙◌, ◌<◌, length, get_or}
use Rattle.std.proofs.lemmas.List.{get_or-map, length-map}
use Rattle.std.specs.Prelude.{Ok, slice_get}
use Rattle.cap_rules.specs.Attempts.{Attempt, each, found}
use Rattle.cap_rules_steps.specs.Walks.{Makes}
use Rattle.cap_rules_steps.proofs.Listing.{Gathers}
use Rattle.cap_take_items.proofs.Members.{member-there}

member-seen : {X Y : Type 0} (f : X → Y) (xs : List X) (i : ℕ) (b : X) → i < length xs → b ≡ get_or xs i b → f b ≡ get_or (map f xs) i (f b)
member-seen f xs i b h e = ap f e ∙ sym (get_or-map f xs i b (f b) h)

pub view-there : {X Y : Type 0} (f : X → Y) (xs : List X) (i : ℕ) (x : X) → i < length xs → x ≡ get_or xs i x → Makes (Ok (f x)) (found (slice_get (map f xs) i))
view-there f xs i x h e = member-there (map f xs) i (f x) (rw (length-map xs f) h) (member-seen f xs i x h e)

pub each-gathers : {X Y : Type 0} (f : X → Attempt Y) → Gathers (each f) f
unfolding Gathers
each-gathers f x xs = refl
