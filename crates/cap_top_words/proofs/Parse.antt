-- A whole parse, at the words of the definition.
use Rattle.std.proofs.Common.{◌≡◌, ◌∙◌, ◌||◌, ◌&&◌, ◌++◌, Bool, cond, true, false, refl, sym, ap, ap₂, subst, List, [], ◌∷◌, map, Option, Some, None, true≢false, codes}
use Rattle.std.specs.Prelude.{find, is_some, option_and_then, option_map}
use Rattle.std.specs.List.{fold}
use Rattle.std.specs.Str.{bytes_eq}
use Rattle.clap.specs.Lexer.{long_of}
use Rattle.clap.specs.Walk.{Names, Row, Walk, answers_to, finished, idle, nothing_held, rows_after, settled, stop_after, subcommand_met, walk, walk_from, walked}
use Rattle.clap.specs.Simple.{App, Shape, entered, label_of}
use Rattle.clap.specs.Kinds.{Kinds, or_else}
use Rattle.clap.specs.Faults.{built_fault, check_fault, defaults_fault, entered_fault, flag_word_fault, level_fault, settle_fault, turn_fault, walk_fault}
use Rattle.clap.proofs.WalkLemmas.{walk_stopped}
use Rattle.cap_top_words.specs.Meaning.{PlainCommand, CommandWord, arguments_of}
use Rattle.cap_top_words.proofs.Classes.{WordClass, WordClasses, bytes_eq-flipped, ends, joined, option, other, plain, same_bytes}
use Rattle.cap_top_words.proofs.Leaf.{IsSparse, flag_refused, is_clear, level, level_is}
use Rattle.cap_top_words.proofs.Chain.{made_of}
use Rattle.cap_top_words.proofs.Subcommands.{Subcommand, leaf_of, top_level}

abbrev shape_of : Subcommand → Shape
shape_of s = leaf_of s.name s.rules

abbrev pub is_named : CommandWord → Subcommand → Bool
is_named name s = bytes_eq name s.name

-- ---- the subcommand of a name

or_false : (b : Bool) → (b || false) ≡ b
or_false true = refl
or_false false = refl

answers : (name : CommandWord) (s : Subcommand) → answers_to name (label_of (shape_of s)) ≡ is_named name s
answers name s = or_false (bytes_eq s.name name) ∙ bytes_eq-flipped s.name name

met : (subs : List Subcommand) (name : CommandWord)
    → subcommand_met (map label_of (map shape_of subs)) idle name ≡ option_map (λ s. s.name) (find (is_named name) subs)
met [] name = refl
met (s ∷ subs) name = rw (answers name s) (go (is_named name s) (met subs name))
  where
    go : (b : Bool) → subcommand_met (map label_of (map shape_of subs)) idle name ≡ option_map (λ s. s.name) (find (is_named name) subs)
        → option_map (λ l. l.0) (cond b (Some (label_of (shape_of s))) (find (answers_to name) (map label_of (map shape_of subs))))
        ≡ option_map (λ s. s.name) (cond b (Some s) (find (is_named name) subs))
    go true e = refl
    go false e = e

shape_met : (subs : List Subcommand) (name : CommandWord)
    → find (λ s. answers_to name (label_of s)) (map shape_of subs) ≡ option_map shape_of (find (is_named name) subs)
shape_met [] name = refl
shape_met (s ∷ subs) name = rw (answers name s) (go (is_named name s) (shape_met subs name))
  where
    go : (b : Bool) → find (λ s. answers_to name (label_of s)) (map shape_of subs) ≡ option_map shape_of (find (is_named name) subs)
        → cond b (Some (shape_of s)) (find (λ s. answers_to name (label_of s)) (map shape_of subs)) ≡ option_map shape_of (cond b (Some s) (find (is_named name) subs))
    go true e = refl
    go false e = e

found_name : (subs : List Subcommand) (name : CommandWord) (s : Subcommand) → find (is_named name) subs ≡ Some s → name ≡ s.name
found_name [] name s e = cc
found_name (x ∷ subs) name s e = go (found_name subs name s) (is_named name x) refl e
  where
    go : (find (is_named name) subs ≡ Some s → name ≡ s.name) → (b : Bool) → is_named name x ≡ b → cond b (Some x) (find (is_named name) subs) ≡ Some s → name ≡ s.name
    go rest true t h = let same = same_bytes name x.name t in let is : x ≡ s = cc in same ∙ ap (λ (y : Subcommand). y.name) is
    go rest false t h = rest h

and_false : (b : Bool) → (b && false) ≡ false
and_false true = refl
and_false false = refl

-- ---- a parse

module _ (subs : List Subcommand) where
  abbrev pub app : App
  app = record { top = top_level; subs = map shape_of subs }

  abbrev names : Names
  names = map label_of (map shape_of subs)

  -- the subcommand and its rows, where no word is refused
  unfoldable pub outcome : List CommandWord → Option (CommandWord × List Row)
  outcome words = cond (is_clear (built_fault app nothing_held words)) (entered app (stop_after [] names words)) None

  stopped_clear : (w : Walk) (p : CommandWord × List CommandWord) (words : List CommandWord) → walk_fault top_level names (record w { stopped = Some p }) words ≡ []
  unfolding walk_fault walked
  stopped_clear w p [] = refl
  stopped_clear w p (x ∷ xs) = stopped_clear w (p.0, p.1 ++ x ∷ []) xs

  abbrev with_name : CommandWord → List Row → Option (CommandWord × List Row)
  with_name name rows = Some (name, rows)

  given : (k : Kinds) (name : CommandWord) (rows : List Row) → cond (is_clear (or_else k [])) (with_name name rows) None ≡ option_and_then (with_name name) (cond (is_clear k) (Some rows) None)
  given [] name rows = refl
  given (k ∷ ks) name rows = refl

  -- a parse by where its walk over the words ends, and by the walk's faults
  abbrev parsed : Walk → Kinds → Option (CommandWord × List Row)
  parsed w fault = cond (is_clear (or_else fault (or_else (entered_fault app w.stopped) (or_else (settle_fault [] false w.held)
      (or_else (defaults_fault (settled [] w.held).rows []) (check_fault top_level (finished [] w.held) (is_some (entered app w.stopped))))))))
      (entered app w.stopped) None

  -- after the name of a subcommand
  abbrev stopped_at : CommandWord → List CommandWord → Walk
  stopped_at name rest = record (walk_from nothing_held) { stopped = Some (name, rest) }

  module _ (s : Subcommand) (found : find (is_named s.name) subs ≡ Some s) where
    met_is : subcommand_met names idle s.name ≡ Some s.name
    met_is = met subs s.name ∙ ap (option_map (λ (x : Subcommand). x.name)) found

    walked_is : walked [] names (walk_from nothing_held) s.name ≡ stopped_at s.name []
    unfolding walked
    walked_is = rw met_is refl

    turn_clear : turn_fault top_level names (walk_from nothing_held) s.name ≡ []
    turn_clear = rw (met_is, and_false (bytes_eq s.name (codes "help"))) refl

    walk_is : (rest : List CommandWord) → walk [] names nothing_held (s.name ∷ rest) ≡ stopped_at s.name rest
    walk_is rest = ap (λ (w : Walk). fold (walked [] names) w rest) walked_is ∙ sym (walk_stopped [] names (walk_from nothing_held) s.name [] rest)

    walk_clear : (rest : List CommandWord) → walk_fault top_level names (walk_from nothing_held) (s.name ∷ rest) ≡ []
    unfolding walk_fault
    walk_clear rest = ap₂ or_else turn_clear (ap (λ (w : Walk). walk_fault top_level names w rest) walked_is ∙ stopped_clear (walk_from nothing_held) (s.name, []) rest)

    pub outcome_found : (rest : List CommandWord) → outcome (s.name ∷ rest) ≡ option_and_then (with_name s.name) (level (shape_of s) rest)
    unfolding outcome defaults_fault
    outcome_found rest =
        let shape_is : find (λ l. answers_to s.name (label_of l)) (map shape_of subs) ≡ Some (shape_of s) = shape_met subs s.name ∙ ap (option_map shape_of) found in
        ap₂ parsed (walk_is rest) (walk_clear rest)
        ∙ rw shape_is (given (level_fault (shape_of s) [] nothing_held rest false []) s.name (rows_after (shape_of s).rules [] rest))

  -- ---- a first word that names no subcommand

  refused : (a b : Kinds) (goes : Option (CommandWord × List Row)) → is_clear a ≡ false → cond (is_clear (or_else a b)) goes None ≡ None
  refused [] b goes e = absurd (true≢false e)
  refused (k ∷ ks) b goes e = refl

  first_refused : (a b : Kinds) → is_clear a ≡ false → is_clear (or_else a b) ≡ false
  first_refused [] b e = absurd (true≢false e)
  first_refused (k ∷ ks) b e = refl

  outcome_refused : (words : List CommandWord) → is_clear (walk_fault top_level names (walk_from nothing_held) words) ≡ false → outcome words ≡ None
  unfolding outcome
  outcome_refused words e = refused (walk_fault top_level names (walk_from nothing_held) words) _ _ e

  turn_refused : (name : CommandWord) (rest : List CommandWord) → is_clear (turn_fault top_level names (walk_from nothing_held) name) ≡ false → outcome (name ∷ rest) ≡ None
  unfolding walk_fault
  turn_refused name rest e = outcome_refused (name ∷ rest) (first_refused (turn_fault top_level names (walk_from nothing_held) name) _ e)

  no_rules : IsSparse []
  no_rules = record { long = λ name e. refl; short = λ x. refl }

  module _ (name : CommandWord) (none : find (is_named name) subs ≡ None) where
    unmet : subcommand_met names idle name ≡ None
    unmet = met subs name ∙ ap (option_map (λ (x : Subcommand). x.name)) none

    module _ (e : name ≡ codes "--") where
      closed_is : walked [] names (walk_from nothing_held) name ≡ record (walk_from nothing_held) { is_trailing = true }
      unfolding walked
      closed_is = rw (unmet, e) refl

      closed_clear : turn_fault top_level names (walk_from nothing_held) name ≡ []
      closed_clear = rw (unmet, e) refl

      closed_refused : (rest : List CommandWord) → outcome (name ∷ rest) ≡ None
      unfolding outcome walk_fault defaults_fault
      closed_refused [] = ap₂ parsed closed_is (ap (λ (k : Kinds). or_else k []) closed_clear)
      closed_refused (x ∷ rest) = outcome_refused (name ∷ x ∷ rest)
          (ap is_clear (ap₂ or_else closed_clear (ap (λ (w : Walk). walk_fault top_level names w (x ∷ rest)) closed_is)))

    outcome_none : WordClass name → (rest : List CommandWord) → outcome (name ∷ rest) ≡ None
    outcome_none (ends e) rest = closed_refused e rest
    outcome_none (option e) rest = turn_refused name rest (rw (unmet, e) refl)
    outcome_none (joined n e) rest = turn_refused name rest (rw (unmet, e) refl)
    outcome_none (other o) rest = turn_refused name rest (rw (unmet, o.not_ends)
        (first_refused (flag_word_fault [] false (long_of name) name nothing_held) _ (flag_refused [] false no_rules name o.flag [] None)))
    outcome_none (plain p) rest = turn_refused name rest (rw (unmet, p.not_ends, p.no_long, p.no_short) refl)

  -- ---- the command

  abbrev pub reading_of : CommandWord → List Row → Option PlainCommand
  reading_of name rows = option_and_then (λ s. s.reading rows) (find (is_named name) subs)

  abbrev pub read : Option (CommandWord × List Row) → Option PlainCommand
  read = option_and_then (λ p. reading_of p.0 p.1)

  abbrev pub meaning : List CommandWord → Option PlainCommand
  meaning [] = None
  meaning (name ∷ rest) = option_and_then (λ s. made_of s.form (arguments_of rest)) (find (is_named name) subs)

  read_named : (name : CommandWord) (o : Option (List Row)) → read (option_and_then (with_name name) o) ≡ option_and_then (reading_of name) o
  read_named name None = refl
  read_named name (Some rows) = refl

  found_exact : (s : Subcommand) → find (is_named s.name) subs ≡ Some s → (rest : List CommandWord) → WordClasses rest → read (outcome (s.name ∷ rest)) ≡ made_of s.form (arguments_of rest)
  found_exact s found rest classes =
      ap read (outcome_found s found rest)
      ∙ read_named s.name (level (shape_of s) rest)
      ∙ ap (λ (o : Option Subcommand). option_and_then (λ rows. option_and_then (λ s. s.reading rows) o) (level (shape_of s) rest)) found
      ∙ ap (option_and_then s.reading) (level_is (shape_of s) rest)
      ∙ s.reads rest classes

  -- the words that `clap` takes, and what is read of them, are the definition's
  pub exact : (words : List CommandWord) → WordClasses words → read (outcome words) ≡ meaning words
  unfolding outcome walk_fault defaults_fault
  exact [] classes = refl
  exact (name ∷ rest) classes = go (find (is_named name) subs) refl
    where
      named : (s : Subcommand) → find (is_named name) subs ≡ Some s → read (outcome (name ∷ rest)) ≡ made_of s.form (arguments_of rest)
      named s e =
          let is = found_name subs name s e in
          ap (λ (n : CommandWord). read (outcome (n ∷ rest))) is
          ∙ found_exact s (subst (λ n. find (is_named n) subs ≡ Some s) is e) rest (classes.1 (ap (λ (n : CommandWord). bytes_eq n (codes "--")) is ∙ s.not_ends))

      go : (o : Option Subcommand) → find (is_named name) subs ≡ o → read (outcome (name ∷ rest)) ≡ option_and_then (λ s. made_of s.form (arguments_of rest)) o
      go None e = ap read (outcome_none name e classes.0 rest)
      go (Some s) e = named s e
