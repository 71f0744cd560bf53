-- From the clauses of a parse to the definition.
use Rattle.std.proofs.Common.{◌≡◌, ◌∙◌, ◌⊎◌, ◌∷◌, false, true, cond, List, [], map, inl, inr, refl, sym, ap, ap₂, subst, Option, Some, None}
use Rattle.std.specs.Prelude.{Box, String, option_and_then, option_map, string_bytes}
use Rattle.std.specs.Box.{box_value}
use Rattle.std.proofs.lemmas.Str.{IsUtf8-string_bytes}
use Rattle.clap.specs.Words.{App, HasMatchesOf, IsAmong, Row, app_of, fault_of, is_simple, is_simple_and_free, subcommand_name_of, subcommand_of, subcommand_rows, subcommand_rows_of}
use Rattle.clap.specs.Simple.{entered, names_of}
use Rattle.clap.specs.Walk.{nothing_held, stop_after}
use Rattle.clap.specs.Faults.{built_fault}
use Rattle.clap.specs.Kinds.{Kinds}
use Rattle.clap.specs.declared.builder.command.Command.{Command}
use Rattle.clap.specs.declared.error.kind.ErrorKind.{ErrorKind}
use Rattle.clap.specs.declared.error.kind.ErrorKind.TheVariants.{OutOfMemory}
use Rattle.clap.specs.declared.parser.matches.ArgMatches.{ArgMatches}
use Rattle.clap.specs.declared.parser.matches.ArgMatches.TheViews.{out-ArgMatches, out-SubCommand}
use Rattle.clap.specs.declared.parser.matches.SubCommand.{SubCommand}
use Rattle.cap_top_words.specs.Meaning.{CommandWord, PlainCommand, command_of}
use Rattle.cap_top_words.specs.Parser.{caper_app, command_in, has_lone_dash}
use Rattle.cap_top_words.proofs.Classes.{AreTexts, word_classes_of}
use Rattle.cap_top_words.proofs.Leaf.{is_clear}
use Rattle.cap_top_words.proofs.Parse.{exact, outcome, read}
use Rattle.cap_top_words.proofs.Subcommands.{all, parser_is}
use Rattle.cap_top_words.proofs.Tables.{command_in-reading, command_of-meaning}

pub are_texts : {Z : Type 0} (words : List (String Z)) → AreTexts (map string_bytes words)
are_texts [] = tt
are_texts (w ∷ words) = (IsUtf8-string_bytes w, are_texts words)

pub is_free : is_simple_and_free caper_app ≡ true
is_free = refl

simple : is_simple caper_app ≡ true
simple = refl

-- what a parse of the words gives, where it does not fail
outcome_is : (words : List CommandWord) → cond (is_clear (fault_of caper_app words)) (subcommand_of caper_app words) None ≡ outcome all words
unfolding outcome
outcome_is words = ap (λ (a : App). cond (is_clear (built_fault a nothing_held words)) (entered a (stop_after a.top.rules (names_of a) words)) None) parser_is

among_none : (k : ErrorKind) (kinds : Kinds) (o : Option (CommandWord × List Row)) → IsAmong k kinds → cond (is_clear kinds) o None ≡ None
among_none k [] o h = absurd h
among_none k (x ∷ kinds) o h = refl

module _ (command : Command) (words : List CommandWord) (is : app_of command ≡ caper_app) (texts : AreTexts words) (whole : has_lone_dash words ≡ false) where
  exact_here : read all (cond (is_clear (fault_of caper_app words)) (subcommand_of caper_app words) None) ≡ command_of words
  exact_here = ap (read all) (outcome_is words) ∙ exact all words (word_classes_of words texts whole) ∙ sym (command_of-meaning words)

  pub taken : (m : ArgMatches) → fault_of (app_of command) words ≡ [] → HasMatchesOf (app_of command) words m → read all (subcommand_rows_of m) ≡ command_of words
  taken m free found =
      let none : fault_of caper_app words ≡ [] = ap (λ (a : App). fault_of a words) (sym is) ∙ free in
      let same : subcommand_rows_of m ≡ subcommand_of caper_app words = (found (ap is_simple is ∙ simple)).1 ∙ ap (λ (a : App). subcommand_of a words) is in
      ap (read all) (same ∙ sym (ap (λ (k : Kinds). cond (is_clear k) (subcommand_of caper_app words) None) none)) ∙ exact_here

  pub not_taken : (k : ErrorKind) → (k ≡ OutOfMemory → ⊥) → (k ≡ OutOfMemory) ⊎ IsAmong k (fault_of (app_of command) words) → None ≡ command_of words
  not_taken k other (inl e) = absurd (other e)
  not_taken k other (inr h) =
      let among : IsAmong k (fault_of caper_app words) = subst (λ (a : App). IsAmong k (fault_of a words)) is h in
      sym (ap (read all) (among_none k (fault_of caper_app words) (subcommand_of caper_app words) among)) ∙ exact_here

-- ---- the subcommand that was met

names_in : {Z : Type 0} (o : Option (Box SubCommand Z)) → option_map (λ b. (out-SubCommand (box_value b)).name.now) o ≡ option_map (λ (p : CommandWord × List Row). p.0) (subcommand_rows o)
names_in None = refl
names_in (Some b) = refl

name_in : (m : ArgMatches) → subcommand_name_of m ≡ option_map (λ (p : CommandWord × List Row). p.0) (subcommand_rows_of m)
name_in m = names_in (out-ArgMatches m).subcommand

-- what is read of the subcommand that was met
abbrev pub met_reading : Option (CommandWord × List Row) → Option PlainCommand
met_reading = option_and_then (λ sub. command_in sub.0 sub.1)

pub met_as_read : (o : Option (CommandWord × List Row)) → met_reading o ≡ read all o
met_as_read None = refl
met_as_read (Some sub) = command_in-reading sub.0 sub.1

met : (o : Option (CommandWord × List Row)) (name : CommandWord) (rows : List Row) → Some name ≡ option_map (λ p. p.0) o → Some rows ≡ option_map (λ p. p.1) o
    → command_in name rows ≡ met_reading o
met None name rows n r = cc
met (Some p) name rows n r =
    let a : name ≡ p.0 = cc in
    let b : rows ≡ p.1 = cc in
    ap₂ command_in a b

pub met_is : (m : ArgMatches) (name : CommandWord) (rows : List Row) → Some name ≡ subcommand_name_of m → Some rows ≡ option_map (λ p. p.1) (subcommand_rows_of m)
    → command_in name rows ≡ met_reading (subcommand_rows_of m)
met_is m name rows n r = met (subcommand_rows_of m) name rows (n ∙ name_in m) r
