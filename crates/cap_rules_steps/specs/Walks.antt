-- What a call answers of an attempt: how far its events come, and its value.
use Rattle.std.specs.Prelude.{◌≡◌, ℤ, List, [], ◌∷◌, ◌++◌, Option, Some, None, Result, Ok, Err}
use Rattle.cap_lin.specs.Steps.{first_wide}
use Rattle.cap_lin.specs.declared.row.Row.{Row}
use Rattle.cap_rules.specs.Attempts.{owed, Event, makes, claims, Attempt}
use Rattle.cap_rules_steps.specs.declared.error.RuleError.{RuleError}
use Rattle.cap_rules_steps.specs.declared.error.RuleError.TheVariants.{NotApplicable, Wide, OutOfMemory}

-- so far certificates have to refute these lists of rows; or after them a result left 128 bits, by
-- its operands
pub data Standing : Type 0 where
  owing : List (List Row) → Standing
  widened : ℤ → ℤ → List (List Row) → Standing

abbrev pub unless_wide : Option (ℤ × ℤ) → List (List Row) → Standing
unless_wide None ls = owing ls
unless_wide (Some w) ls = widened w.0 w.1 ls

abbrev pub after_event : Standing → Event → Standing
after_event (owing ls) (makes s) = unless_wide (first_wide (s ∷ [])) ls
after_event (owing ls) (claims c) = owing (ls ++ owed c)
after_event (widened a b ls) e = widened a b ls

unfoldable pub walk : Standing → List Event → Standing
walk s [] = s
walk s (e ∷ es) = walk (after_event s e) es

-- what an error says of an attempt's value, and of where its events end
abbrev pub Fails : {A : Type 0} → RuleError → Option A → Standing → List (List Row) → Type 0
Fails NotApplicable v w ls = (w ≡ owing ls) × (v ≡ None)
Fails (Wide a b) v w ls = w ≡ widened a b ls
Fails OutOfMemory v w ls = Unit {0}

-- ---- what a call answers of an attempt: its value, or where it fails first. Want of memory may
-- come in either case

-- what is seen of a call's value
abbrev pub seen : {T A : Type 0} → (T → A) → Result T RuleError → Result A RuleError
seen view (Ok x) = Ok (view x)
seen view (Err e) = Err e

-- a call that changes something gives what this becomes
abbrev pub giving : {T A : Type 0} → Result T RuleError → A → Result A RuleError
giving (Ok x) new = Ok new
giving (Err e) new = Err e

-- where the events end, and what the value is
abbrev pub Ends : {A : Type 0} → Result A RuleError → Option A → Standing → List (List Row) → Type 0
Ends (Ok x) v w ls = (w ≡ owing ls) × (v ≡ Some x)
Ends (Err e) v w ls = Fails e v w ls

-- the attempt claims nothing
pub record Makes {A : Type 0} (r : Result A RuleError) (o : Attempt A) : Type 0 where
  pub ends : (ls : List (List Row)) → Ends r o.value (walk (owing ls) o.events) ls

-- the attempt claims something too: before the call these lists were owed, and after it those
pub record Claims {A : Type 0} (r : Result A RuleError) (before after : List (List Row))
    (o : Attempt A) : Type 0 where
  pub ends : Ends r o.value (walk (owing before) o.events) after
