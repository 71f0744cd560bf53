-- What is known of the text of trees.
use Rattle.std.specs.Prelude.{◌≡◌, ℕ, List, Option, Some, None, Vec}
use Rattle.std.specs.Global.{Global}
use Rattle.cap_goal_spec.specs.Choices.{PlainTree}
use Rattle.cap_deriv_write.specs.Bounds.{HaveNoZeros}
use Rattle.cap_deriv_write.specs.Spelled.{DerivationLines}
use Rattle.cap_deriv_write.specs.Written.{derivation_text}
use Rattle.cap_top_commands.specs.Derivations.{HaveText}

-- the text, which is lines of the trees where no multiplier is 0
pub record IsTextOfTrees (trees : List (Option PlainTree)) (text : List ℕ) : Type 0 where
  pub short : HaveText trees
  pub whole : text ≡ derivation_text trees
  pub lines : HaveNoZeros trees → DerivationLines trees (derivation_text trees)

-- the text, where the trees have one
abbrev pub FindsText : List (Option PlainTree) → Option (Vec ℕ Global) → Type 0
FindsText trees (Some text) = IsTextOfTrees trees text.items
FindsText trees None = HaveText trees → ⊥
