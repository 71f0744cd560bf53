-- What is seen of what a file gave.
use Rattle.std.specs.Prelude.{◌≡◌, ℕ, List, map}
use Rattle.cap_prog.specs.Program.{PlainProgram}
use Rattle.cap_prog.specs.Views.{program_view}
use Rattle.cap_goal_spec.specs.Choices.{PlainChoice}
use Rattle.cap_goal.specs.Views.{choice_view}
use Rattle.cap_top_reading.specs.Refused.{IsTextOf}
use Rattle.cap_top_commands.specs.declared.beginning.Begun.{Begun}
use Rattle.cap_top_commands.specs.declared.beginning.Begun.TheVariants.{Program, Said}
use Rattle.cap_top_commands.specs.Answers.{Fetched, held, unread, long, After, SaysRefusal, IsOnly, IsOnlyTextOf}
use Rattle.cap_top_commands.specs.Derivations.{SaysBadLines}
use Rattle.cap_top_commands.specs.Output.{Output}
use Rattle.cap_top_commands.specs.Owners.{TellsLines}
use Rattle.cap_top_commands.specs.Views.{output_view}
use Rattle.cap_top_accounts.specs.declared.listing.Listed.{Listed}
use Rattle.cap_top_accounts.specs.declared.listing.Listed.TheVariants as listed
use Rattle.cap_top_accounts.specs.Listing.{IsOnlyLinesOf}
use Rattle.cap_top.specs.declared.fetching.Fetched as code
use Rattle.cap_top.specs.declared.fetching.Fetched.TheVariants.{Held, Unread, Long}

abbrev pub fetched_view : code.Fetched → Fetched
fetched_view (Held bytes) = held bytes.items
fetched_view Unread = unread
fetched_view Long = long

-- this is said of the file of this name, which gave no program's text
pub record IsSaidEarly (name : List ℕ) (x : Fetched) (o : Output) : Type 0 where
  pub output : IsOnly (After name x SaysRefusal) o
  pub none : (bytes : List ℕ) (p : PlainProgram) → x ≡ held bytes → IsTextOf bytes p → ⊥

-- What is known once the file of a program gave this: the program, where these were the bytes of its
-- text, or what is said without a second file.
abbrev pub BeginsAfter : List ℕ → Fetched → Begun → Type 0
BeginsAfter name x (Program p) =
    (bytes : List ℕ) × (x ≡ held bytes) × IsOnlyTextOf bytes (program_view p)
BeginsAfter name x (Said o) = IsSaidEarly name x (output_view o)

-- this is said of the file of this name, which gave no derivation's lines
pub record IsSaidWithout (name : List ℕ) (x : Fetched) (o : Output) : Type 0 where
  pub output : IsOnly (After name x SaysBadLines) o
  pub none :
      (lines : List ℕ) (n : ℕ) (cs : List PlainChoice) → x ≡ held lines
      → TellsLines lines n cs → ⊥

-- What is known once the file of a derivation gave this: its lines, where these were its bytes, or
-- what is said without a third file.
abbrev pub ListsAfter : List ℕ → Fetched → Listed → Type 0
ListsAfter name x (listed.Lines l) =
    (lines : List ℕ) × (x ≡ held lines)
    × IsOnlyLinesOf lines l.trees (map choice_view l.choices.items)
ListsAfter name x (listed.Without o) = IsSaidWithout name x (output_view o)
