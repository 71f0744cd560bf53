-- Members of lists by their numbers.
use Rattle.std.proofs.Common.{◌≡◌, ℕ, List, Some, sym, ap, ◌∙◌, ◌<◌, ◌≤◌, length, get_or}
use Rattle.std.proofs.lemmas.Option.{slice_get_past, slice_get-get_or}
use Rattle.std.specs.Prelude.{Ok, Err, slice_get}
use Rattle.cap_rules_steps.specs.cap_rules.Attempts.{found}
use Rattle.cap_rules_steps.specs.Walks.{Makes}
use Rattle.cap_rules_steps.specs.declared.error.RuleError.TheVariants.{NotApplicable}
use Rattle.cap_rules_steps.proofs.Walking.{there, lacking}

pub member-there : {X : Type 0} (xs : List X) (i : ℕ) (x : X) → i < length xs → x ≡ get_or xs i x → Makes (Ok x) (found (slice_get xs i))
member-there xs i x h e = there (slice_get xs i) x (slice_get-get_or xs i x h ∙ ap Some (sym e))

pub member-lacking : {X : Type 0} (xs : List X) (i : ℕ) → length xs ≤ i → Makes {A = X} (Err NotApplicable) (found (slice_get xs i))
member-lacking xs i h = lacking (slice_get xs i) (slice_get_past xs i h)
