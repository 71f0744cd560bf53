-- There is always an answer.
use Rattle.std.specs.Prelude.{◌≡◌, ◌⊎◌, ℕ, ◌<◌, ◌^◌, true, List, length, Option, Some}
use Rattle.std.specs.List.{AllByRecursion}
use Rattle.cap_prog.specs.Program.{PlainProgram}
use Rattle.cap_parse_tree.specs.Tree.{ProgramTree}
use Rattle.cap_parse_laws.specs.Texts.{Spells}
use Rattle.cap_lin.specs.declared.row.Row.{Row}
use Rattle.cap_farkas.specs.declared.cert.Cert.{Cert}
use Rattle.cap_fm_spec.specs.Solving.{RowsAscend}
use Rattle.cap_offer_spec.specs.Laws.{IsDecided}
use Rattle.cap_deriv_write.specs.Bounds.{IsCert, IsChoice}
use Rattle.cap_deriv_write.specs.Preorder.{choices_of_roots}
use Rattle.cap_io.specs.Files.{Files, content}
use Rattle.cap_top_commands.specs.cap_top_reading.declared.refusal.Refusal.{Refusal}
use Rattle.cap_top_commands.specs.cap_top_reading.Refused.{SpellNone, IsRefused, IsTextOf}
use Rattle.cap_top_commands.specs.cap_top_report.Report.{is_good}
use Rattle.cap_top_commands.specs.cap_top_report.Found.{found_trees}
use Rattle.cap_top_commands.specs.Answers.{held}
use Rattle.cap_top_commands.specs.Schedules.{IsPlayed}
use Rattle.cap_top_commands.specs.Derivations.{IsDerivation, IsChecked}
use Rattle.cap_top_commands.specs.Output.{Output}
use Rattle.cap_top_words.specs.Meaning.{PlainCommand, derive}
use Rattle.cap_top_laws.specs.Given.{given_by, HasOutput}

-- ---- of bytes

-- the bytes spell a tree, or none for some cause
abbrev pub SpellOneOrNone : List ℕ → Type 0
SpellOneOrNone bytes = ((t : ProgramTree) × Spells bytes t) ⊎ ((r : Refusal) × SpellNone bytes r)

-- the bytes are the text of a program, or refused for some cause
abbrev pub AreTextOrRefused : List ℕ → Type 0
AreTextOrRefused bytes =
    ((p : PlainProgram) × IsTextOf bytes p) ⊎ ((r : Refusal) × IsRefused bytes r)

pub record BytesAreReadOrRefused : Type 0 where
  pub trees : (bytes : List ℕ) → SpellOneOrNone bytes
  pub programs : (bytes : List ℕ) → AreTextOrRefused bytes

-- ---- of a program

abbrev pub SchedulesAreAnswered : Type 0
SchedulesAreAnswered = (p : PlainProgram) (bytes : List ℕ) → (o : Output) × IsPlayed p bytes o

abbrev pub LinesAreAnswered : Type 0
LinesAreAnswered = (p : PlainProgram) (bytes : List ℕ) → (o : Output) × IsChecked p bytes o

-- where all of the program is proved, the choices of the trees that are found have lines: their
-- numbers are within 32 bits, and their multipliers within 128 and not 0
abbrev pub FoundHaveLines : ℕ → PlainProgram → Type 0
FoundHaveLines budget p =
    is_good p budget ≡ true → AllByRecursion IsChoice (choices_of_roots (found_trees p budget))

-- the certificate that elimination finds of rows, of fewer than 2^32, is one of a line
abbrev pub DecidedHaveLines : Type 0
DecidedHaveLines =
    (rows : List Row) (c : Cert) → RowsAscend rows → length rows < 2 ^ 32 → IsDecided rows c
    → IsCert c

abbrev pub DerivationsAreAnswered : Type 0
DerivationsAreAnswered =
    (budget : ℕ) (p : PlainProgram) → FoundHaveLines budget p → (o : Output) × IsDerivation budget p o

-- ---- of a command

-- asked of `derive` alone, and of nothing but the program of its file
abbrev pub FindsLines : Option PlainCommand → Files → Type 0
FindsLines (Some (derive file budget)) files =
    (bytes : List ℕ) (p : PlainProgram) → given_by (content files file) ≡ held bytes
    → IsTextOf bytes p → FoundHaveLines budget p
FindsLines _ files = Unit {0}

abbrev pub OutputsExist : Type 0
OutputsExist = (command : Option PlainCommand) (files : Files) → FindsLines command files → HasOutput command files
