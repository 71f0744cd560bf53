-- What the states of a valid derivation tell of each run.
use Rattle.std.specs.Prelude.{◌≡◌, ◌⊎◌, ℕ, ℤ, List, [], ◌∷◌, Option, Some}
use Rattle.cap_prog.specs.Program.{PlainFunction, PlainProgram}
use Rattle.cap_prog.specs.WellFormed.{IsWellFormed}
use Rattle.cap_goal_spec.specs.Choices.{PlainTree}
use Rattle.cap_rules.specs.Valid.{Valid}
use Rattle.cap_machine.specs.declared.event.Entry.{Entry}
use Rattle.cap_machine.specs.Machine.{Heap, Configuration, step, start}
use Rattle.cap_machine_accounts.specs.Parts.{Part}
use Rattle.cap_machine_accounts.specs.Assertions.{NameValue}
use Rattle.cap_machine_accounts.specs.Accounts.{Account, table, IsValidAccount}
use Rattle.cap_machine_accounts.specs.Following.{Follows}
use Rattle.cap_machine_accounts.specs.Safety.{TopFrame, KeepsContracts, IfStepped, first_account, Start}
use Rattle.cap_outline_spec.specs.Standing.{first_number, Standing, standing}
use Rattle.cap_outline_laws.specs.Holding.{HoldsOf}

-- one of the list is so
abbrev pub OneIs : {A : Type 0} → (A → Type 0) → List A → Type 0
OneIs P [] = ⊥
OneIs P (x ∷ xs) = P x ⊎ OneIs P xs

-- of each thread's top frame, which stands at its first statement that is still to be run, one of the
-- states at this statement holds
abbrev pub AreOutlined :
    PlainProgram → List (Option PlainTree) → Configuration → Account → Type 0
AreOutlined p trees c a =
    (thread : ℕ) (t : TopFrame p c a thread) (k : ℕ) → first_number t.frame.rest ≡ Some k
    → OneIs (HoldsOf p (table a) t.frame t.held) (standing p trees t.frame.function k)

-- the account is valid here, and of the top frames states hold by it; and after each step of the run
-- such an account follows
abbrev pub IsOutlined :
    PlainProgram → List (Option PlainTree) → List Entry → Configuration → Account → Type 0
IsOutlined p trees [] c a = IsValidAccount p c a × AreOutlined p trees c a
IsOutlined p trees (e ∷ es) c a =
    IsValidAccount p c a
    × AreOutlined p trees c a
    × IfStepped (λ d event. (b : Account) × (handed : Part)
    × Follows p c.heap e.thread event a b handed
    × KeepsContracts p e.thread event c d a b handed
    × IsOutlined p trees es d b) (step p c e)

-- So it is with every run from every start, of every length and along every schedule: it has
-- accounts as those of a safe program, and by these, whenever a thread comes to a statement, one of
-- the states at the statement holds of its frame.
abbrev pub OutlinesRuns : PlainProgram → List (Option PlainTree) → Type 0
OutlinesRuns p trees =
    (main : PlainFunction) (args : List ℤ) (heap : Heap) (fixed : List NameValue) (es : List Entry)
    → Start p main args heap fixed
    → IsOutlined p trees es (start p args heap) (first_account heap fixed)

-- each valid derivation does
abbrev pub DerivationsOutline : Type 0
DerivationsOutline =
    (p : PlainProgram) (trees : List (Option PlainTree)) → IsWellFormed p → Valid p trees
    → OutlinesRuns p trees
