-- The definition's tables, and words with a lone `-`.
use Rattle.std.proofs.Common.{◌≡◌, ◌∙◌, ◌||◌, Bool, cond, true, false, refl, sym, ap, List, [], ◌∷◌, Option, Some, None, true≢false, codes}
use Rattle.std.specs.Prelude.{find, option_and_then, option_map}
use Rattle.std.specs.Str.{bytes_eq}
use Rattle.clap.specs.Walk.{Row}
use Rattle.clap.proofs.WalkLemmas.{find-map}
use Rattle.cap_top_words.specs.Meaning.{Signature, CommandWord, arguments_of, arguments_after_option, begins_option, command_of, signature_of, signatures, joined_or_operand, rest_after, with_budget, with_operand}
use Rattle.cap_top_words.specs.Parser.{RowReader, command_in, has_lone_dash}
use Rattle.cap_top_words.proofs.Classes.{same_bytes}
use Rattle.cap_top_words.proofs.Chain.{made_of}
use Rattle.cap_top_words.proofs.Subcommands.{Subcommand, all, signatures_are, row_readers_are}
use Rattle.cap_top_words.proofs.Parse.{is_named, meaning, reading_of}

-- ---- the tables are those of the subcommands

entry : {X Y B : Type 0} (g : Y → Option B) (f : X → Y) (o : Option X) → option_and_then g (option_map f o) ≡ option_and_then (λ x. g (f x)) o
entry g f None = refl
entry g f (Some x) = refl

pub command_of-meaning : (words : List CommandWord) → command_of words ≡ meaning all words
command_of-meaning [] = refl
command_of-meaning (name ∷ words) =
    entry (λ (form : Signature). made_of form (arguments_of words)) (λ (row : CommandWord × Signature). row.1) (find (λ row. bytes_eq name row.0) signatures)
    ∙ ap (λ (table : List (CommandWord × Signature)). option_and_then (λ row. made_of row.1 (arguments_of words)) (find (λ row. bytes_eq name row.0) table)) signatures_are
    ∙ ap (option_and_then (λ (row : CommandWord × Signature). made_of row.1 (arguments_of words))) (sym (find-map (λ (row : CommandWord × Signature). bytes_eq name row.0) (λ (s : Subcommand). (s.name, s.form)) all))
    ∙ entry (λ (row : CommandWord × Signature). made_of row.1 (arguments_of words)) (λ (s : Subcommand). (s.name, s.form)) (find (is_named name) all)

pub command_in-reading : (name : CommandWord) (rows : List Row) → command_in name rows ≡ reading_of all name rows
command_in-reading name rows =
    ap (λ (table : List (CommandWord × RowReader)). option_and_then (λ row. row.1 rows) (find (λ row. bytes_eq name row.0) table)) row_readers_are
    ∙ ap (option_and_then (λ (row : CommandWord × RowReader). row.1 rows)) (sym (find-map (λ (row : CommandWord × RowReader). bytes_eq name row.0) (λ (s : Subcommand). (s.name, s.reading)) all))
    ∙ entry (λ (row : CommandWord × RowReader). row.1 rows) (λ (s : Subcommand). (s.name, s.reading)) (find (is_named name) all)

-- ---- a lone `-` before the first `--`

-- the word is `-`, or the `-` comes later
data LoneIn (w : CommandWord) (words : List CommandWord) : Type 0 where
  here : w ≡ codes "-" → LoneIn w words
  later : bytes_eq w (codes "--") ≡ false → has_lone_dash words ≡ true → LoneIn w words

lone_in : (w : CommandWord) (words : List CommandWord) → has_lone_dash (w ∷ words) ≡ true → LoneIn w words
lone_in w words h = go (bytes_eq w (codes "--")) (bytes_eq w (codes "-")) refl refl h
  where
    go : (a b : Bool) → bytes_eq w (codes "--") ≡ a → bytes_eq w (codes "-") ≡ b → cond a false (b || has_lone_dash words) ≡ true → LoneIn w words
    go true b e f g = absurd (true≢false (sym g))
    go false true e f g = here (same_bytes w (codes "-") f)
    go false false e f g = later e g

no_value : (b : Bool) (n : CommandWord) → cond b None (with_budget n None) ≡ None
no_value true n = refl
no_value false n = refl

no_operand : (b : Bool) (w : CommandWord) → cond b None (with_operand w None) ≡ None
no_operand true w = refl
no_operand false w = refl

no_arguments : (b : Bool) (o : Option CommandWord) (w : CommandWord) → cond b None (joined_or_operand o w None) ≡ None
no_arguments true o w = refl
no_arguments false (Some n) w = refl
no_arguments false None w = no_operand (begins_option w) w

word_none : (w : CommandWord) (words : List CommandWord) → (has_lone_dash words ≡ true → arguments_of words ≡ None) → (has_lone_dash words ≡ true → arguments_after_option words ≡ None)
    → LoneIn w words → arguments_of (w ∷ words) ≡ None
word_none w words others after (here e) = rw e refl
word_none w words others after (later e l) = rw (e, others l, after l) (no_arguments (bytes_eq w (codes "--budget")) (rest_after (codes "--budget=") w) w)

value_none : (n : CommandWord) (words : List CommandWord) → (has_lone_dash words ≡ true → arguments_of words ≡ None) → LoneIn n words → arguments_after_option (n ∷ words) ≡ None
value_none n words others (here e) = rw e refl
value_none n words others (later e l) = rw (others l) (no_value (begins_option n) n)

mutual
  lone_none : (words : List CommandWord) → has_lone_dash words ≡ true → arguments_of words ≡ None
  lone_none [] h = absurd (true≢false (sym h))
  lone_none (w ∷ words) h = word_none w words (lone_none words) (lone_after_none words) (lone_in w words h)

  lone_after_none : (words : List CommandWord) → has_lone_dash words ≡ true → arguments_after_option words ≡ None
  lone_after_none [] h = absurd (true≢false (sym h))
  lone_after_none (n ∷ words) h = value_none n words (lone_none words) (lone_in n words h)

no_command : (name : CommandWord) (words : List CommandWord) → arguments_of words ≡ None → command_of (name ∷ words) ≡ None
no_command name words e = rw e (go (signature_of name))
  where
    go : (o : Option Signature) → option_and_then (λ form. made_of form None) o ≡ None
    go None = refl
    go (Some form) = refl

pub lone_dash_none : (words : List CommandWord) → has_lone_dash words ≡ true → command_of words ≡ None
lone_dash_none [] h = refl
lone_dash_none (name ∷ words) h = go (lone_in name words h)
  where
    go : LoneIn name words → command_of (name ∷ words) ≡ None
    go (here e) = rw e refl
    go (later e l) = no_command name words (lone_none words l)
