-- What a good answer of `verify`, of `trial` and of `check` means.
use Rattle.std.specs.Prelude.{◌≡◌, ℕ, true, List, length, Option}
use Rattle.cap_goal_spec.specs.Choices.{PlainTree}
use Rattle.cap_rules.specs.Valid.{Valid}
use Rattle.cap_kernel_check_steps.specs.Owed.{preorder}
use Rattle.cap_deriv_write.specs.Spelled.{AreLines}
use Rattle.cap_top_report.specs.Report.{all_proved, is_good}
use Rattle.cap_top_commands.specs.SafeText.{IsSafeText}

-- the bytes are the text of a safe program, all units of which are proved within the budget
pub record IsGood (budget : ℕ) (bytes : List ℕ) : Type 0 where
  pub text : IsSafeText bytes
  pub proved : is_good text.program budget ≡ true

-- the bytes are the text of a safe program, each unit of which is proved within the budget
pub record IsProvedText (budget : ℕ) (bytes : List ℕ) : Type 0 where
  pub text : IsSafeText bytes
  pub proved : all_proved text.program budget ≡ true

-- the first bytes are the text of a safe program, the second the lines of a valid derivation of all
-- its units
pub record IsAccepted (bytes lines : List ℕ) : Type 0 where
  pub text : IsSafeText bytes
  pub trees : List (Option PlainTree)
  pub told : AreLines (length trees) (preorder trees) lines
  pub valid : Valid text.program trees
