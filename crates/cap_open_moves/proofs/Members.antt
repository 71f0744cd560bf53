-- Members of lists, also of those that are seen by a view, by their numbers.
use Rattle.std.proofs.Common.{◌≡◌, ℕ, List, map, Some, sym, ap, ◌∙◌, ◌<◌, ◌≤◌, length, get_or}
use Rattle.std.proofs.lemmas.List.{get_or-map, length-map}
use Rattle.std.proofs.lemmas.Option.{slice_get_past, slice_get-get_or}
use Rattle.std.specs.Prelude.{Ok, Err, slice_get}
use Rattle.cap_rules.specs.Attempts.{found}
use Rattle.cap_rules_steps.specs.Walks.{Makes}
use Rattle.cap_rules_steps.specs.declared.error.RuleError.TheVariants.{NotApplicable}
use Rattle.cap_rules_steps.proofs.Walking.{there, lacking}

pub view-there : {X Y : Type 0} (f : X → Y) (xs : List X) (i : ℕ) (x : X) → i < length xs → x ≡ get_or xs i x → Makes (Ok (f x)) (found (slice_get (map f xs) i))
view-there f xs i x h e = there (slice_get (map f xs) i) (f x) (slice_get-get_or (map f xs) i (f x) (rw (length-map xs f) h) ∙ ap Some (get_or-map f xs i x (f x) h ∙ ap f (sym e)))

pub member-there : {X : Type 0} (xs : List X) (i : ℕ) (x : X) → i < length xs → x ≡ get_or xs i x → Makes (Ok x) (found (slice_get xs i))
member-there xs i x h e = there (slice_get xs i) x (slice_get-get_or xs i x h ∙ ap Some (sym e))

pub member-lacking : {X : Type 0} (xs : List X) (i : ℕ) → length xs ≤ i → Makes {A = X} (Err NotApplicable) (found (slice_get xs i))
member-lacking xs i h = lacking (slice_get xs i) (slice_get_past xs i h)
