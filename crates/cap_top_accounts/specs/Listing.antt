-- What is known once a derivation's file was read, by which a schedule is answered.
use Rattle.std.specs.Prelude.{◌≡◌, ℕ, List, map}
use Rattle.cap_goal_spec.specs.Choices.{PlainChoice}
use Rattle.cap_goal.specs.Views.{choice_view}
use Rattle.cap_top_commands.specs.Answers.{IsOnly}
use Rattle.cap_top_commands.specs.Derivations.{SaysBadLines}
use Rattle.cap_top_commands.specs.Output.{Output}
use Rattle.cap_top_commands.specs.Owners.{TellsLines}
use Rattle.cap_top_commands.specs.Views.{output_view}
use Rattle.cap_top_accounts.specs.declared.listing.Listed as code
use Rattle.cap_top_accounts.specs.declared.listing.Listed.TheVariants.{Lines, Without}

-- the bytes are the lines of so many trees with these choices, and of no others
pub record IsOnlyLinesOf (bytes : List ℕ) (n : ℕ) (cs : List PlainChoice) : Type 0 where
  pub told : TellsLines bytes n cs
  pub only : (m : ℕ) (ds : List PlainChoice) → TellsLines bytes m ds → (n ≡ m) × (cs ≡ ds)
  pub unrefused : (o : Output) → SaysBadLines bytes o → ⊥

-- this is said of the bytes, which are no derivation's lines
pub record IsOnlyBadLines (bytes : List ℕ) (o : Output) : Type 0 where
  pub output : IsOnly (SaysBadLines bytes) o
  pub none : (n : ℕ) (cs : List PlainChoice) → TellsLines bytes n cs → ⊥

-- the lines that the bytes are, or what is said without a third file
abbrev pub Lists : List ℕ → code.Listed → Type 0
Lists bytes (Lines l) = IsOnlyLinesOf bytes l.trees (map choice_view l.choices.items)
Lists bytes (Without o) = IsOnlyBadLines bytes (output_view o)
