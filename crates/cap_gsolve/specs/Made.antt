-- What a call makes by exact arithmetic, and what it pushes.
use Rattle.std.specs.Prelude.{◌≡◌, List, ◌++◌, None, Result, MatchResult}
use Rattle.std.specs.Global.{Vec}
use Rattle.cap_lin.specs.Steps.{Step, first_wide}
use Rattle.cap_lin.specs.Exact.{Explains}
use Rattle.cap_lin.specs.declared.error.LinError.{LinError}

-- a value of which something holds, where each result on the way is within 128 bits, and otherwise
-- Wide with the first that isn't; want of memory may come in either case
abbrev pub IsMade : {T : Type 0} → Result T LinError → List Step → (T → Type 0) → Type 0
IsMade r steps P = MatchResult r (λ x. (first_wide steps ≡ None) × P x) (λ e. Explains e steps)

-- a vector has what it had, and behind it these
abbrev pub Pushes : {T : Type 0} → Vec T → Vec T → List T → Type 0
Pushes old new more = new.items ≡ old.items ++ more
