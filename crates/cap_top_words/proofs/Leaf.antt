-- How `clap` parses the words of a subcommand whose arguments are operands and perhaps the option
-- `--budget`: one word at a time, from any place of its walk.
use Rattle.std.proofs.Common.{◌≡◌, ◌∙◌, ℕ, Bool, cond, true, false, refl, sym, List, [], ◌∷◌, Option, Some, None, true≢false, codes}
use Rattle.std.specs.Prelude.{option_map}
use Rattle.std.specs.List.{fold}
use Rattle.std.specs.Str.{bytes_eq}
use Rattle.clap.specs.Lexer.{long_of}
use Rattle.clap.specs.Walk.{Held, Row, Rule, Waiting, Walk, idle, option, positional, after_step, arg_by_id, arg_by_long, arg_by_short, finished, nothing_held, plain_word, rows_after, settled, subcommand_met, walk_from, walked}
use Rattle.clap.specs.Simple.{Shape, filled, new_shape, with_index}
use Rattle.clap.specs.Kinds.{Kinds, or_else}
use Rattle.clap.specs.Faults.{check_fault, defaults_fault, flag_word_fault, flags_fault, level_fault, settle_fault, step_fault, turn_fault, walk_fault}
use Rattle.cap_top_words.specs.Meaning.{CommandWord}
use Rattle.cap_top_words.specs.Parser.{budget_rule, operand_rule}
use Rattle.cap_top_words.proofs.Classes.{IsFlag, IsOther, IsPlain, long, short}

-- ---- the parse as a recursion over the words

abbrev pub is_clear : Kinds → Bool
is_clear [] = true
is_clear (k ∷ ks) = false

-- the rows where the words end
abbrev pub at_end : Shape → Held → Option (List Row)
at_end s h = cond (is_clear (or_else (settle_fault s.rules s.args_override_self h)
    (or_else (defaults_fault (settled s.rules h).rows s.rules) (check_fault s (finished s.rules h) false)))) (Some (finished s.rules h)) None

-- the rows of the words from a place of the walk on, where none is refused
unfoldable pub run : Shape → Walk → List CommandWord → Option (List Row)
run s w [] = at_end s w.held
run s w (x ∷ xs) = cond (is_clear (turn_fault s [] w x)) (run s (walked s.rules [] w x) xs) None

run_is : (s : Shape) (w : Walk) (words : List CommandWord)
    → run s w words ≡ cond (is_clear (walk_fault s [] w words)) (at_end s (fold (walked s.rules []) w words).held) None
unfolding run walk_fault
run_is s w [] = refl
run_is s w (x ∷ xs) = rw (run_is s (walked s.rules [] w x) xs) (go (turn_fault s [] w x))
  where
    go : (k : Kinds) → cond (is_clear k) (cond (is_clear (walk_fault s [] (walked s.rules [] w x) xs)) (at_end s (fold (walked s.rules []) (walked s.rules [] w x) xs).held) None) None
        ≡ cond (is_clear (or_else k (walk_fault s [] (walked s.rules [] w x) xs))) (at_end s (fold (walked s.rules []) (walked s.rules [] w x) xs).held) None
    go [] = refl
    go (k ∷ ks) = refl

-- the rows of a subcommand, where it takes the words
abbrev pub level : Shape → List CommandWord → Option (List Row)
level s words = cond (is_clear (level_fault s [] nothing_held words false [])) (Some (rows_after s.rules [] words)) None

pub level_is : (s : Shape) (words : List CommandWord) → level s words ≡ run s (walk_from nothing_held) words
level_is s words = go (walk_fault s [] (walk_from nothing_held) words) ∙ sym (run_is s (walk_from nothing_held) words)
  where
    end : Held
    end = (fold (walked s.rules []) (walk_from nothing_held) words).held

    go : (k : Kinds) → cond (is_clear (or_else k (or_else (settle_fault s.rules s.args_override_self end)
        (or_else (defaults_fault (settled s.rules end).rows s.rules) (check_fault s (finished s.rules end) false))))) (Some (finished s.rules end)) None ≡ cond (is_clear k) (at_end s end) None
    go [] = refl
    go (k ∷ ks) = refl

-- ---- places, and the arguments

abbrev pub held : List Row → Option (CommandWord × List CommandWord) → Held
held rows pending = record { rows = rows; pending = pending; skip = 0 }

abbrev pub place : List Row → Option (CommandWord × List CommandWord) → Waiting → ℕ → Bool → Walk
place rows pending waiting position trailing = record {
  held = held rows pending;
  waiting = waiting;
  position = position;
  is_trailing = trailing;
  stopped = None;
}

-- the arguments of a command that is built
abbrev pub operand : CommandWord → ℕ → Rule
operand id position = with_index position (filled (operand_rule id))

abbrev pub budget : Rule
budget = filled budget_rule

-- the operand at the position, if there is one
abbrev pub operand_at : ℕ → Option CommandWord → Option Rule
operand_at position = option_map (λ id. operand id position)

-- no flag names an argument, but perhaps `--budget`
pub record IsSparse (c : List Rule) : Type 0 where
  pub long : (name : CommandWord) → bytes_eq (codes "budget") name ≡ false → arg_by_long c name ≡ None
  pub short : (x : ℕ) → arg_by_short c x ≡ None

pub record HasOption (c : List Rule) : Type 0 where
  pub by_long : arg_by_long c (codes "budget") ≡ Some budget
  pub by_id : arg_by_id c (codes "budget") ≡ Some budget

pub data Knows (c : List Rule) : Type 0 where
  has : HasOption c → Knows c
  lacks : arg_by_long c (codes "budget") ≡ None → Knows c

-- the built subcommand
abbrev pub leaf : CommandWord → List Rule → Shape
leaf name c = record (new_shape name) {
  rules = c;
  no_binary_name = true;
  disable_help_flag = true;
  disable_help_subcommand = true;
  is_built = true;
}

-- ---- a word that begins with no `-`, and a flag that nothing answers to

no_name : (waiting : Waiting) (word : CommandWord) → subcommand_met [] waiting word ≡ None
no_name idle word = refl
no_name (option id) word = refl
no_name positional word = refl

-- the word goes to the option that waits, or to an operand
abbrev pub placed : Shape → Walk → CommandWord → List CommandWord → Option (List Row)
placed s w word rest =
    let p = plain_word s.rules w.waiting word w.held in
    cond (is_clear (step_fault s w.position p.0 p.1)) (run s (after_step s.rules word w p.0 p.1) rest) None

pub run_plain : (s : Shape) (rows : List Row) (pending : Option (CommandWord × List CommandWord)) (waiting : Waiting) (position : ℕ) (word : CommandWord) (rest : List CommandWord)
    → IsPlain word → run s (place rows pending waiting position false) (word ∷ rest) ≡ placed s (place rows pending waiting position false) word rest
unfolding run walked
run_plain s rows pending waiting position word rest p = rw (no_name waiting word, p.not_ends, p.no_long, p.no_short) refl

pub flag_refused : (c : List Rule) (again : Bool) → IsSparse c → (word : CommandWord) → IsFlag word → (rows : List Row) (pending : Option (CommandWord × List CommandWord))
    → is_clear (flag_word_fault c again (long_of word) word (held rows pending)) ≡ false
unfolding flags_fault
flag_refused c again sparse word (long name v is differs) rows pending = rw (is, sparse.long name differs) refl
flag_refused c again sparse word (short x f fs not_long is char) rows pending = rw (not_long, is, char, sparse.short x) refl

stop : (first next : Kinds) (goes : Option (List Row)) → is_clear first ≡ false → cond (is_clear (or_else first next)) goes None ≡ None
stop [] next goes e = absurd (true≢false e)
stop (k ∷ ks) next goes e = refl

pub run_other : (s : Shape) → IsSparse s.rules → (rows : List Row) (pending : Option (CommandWord × List CommandWord)) (waiting : Waiting) (position : ℕ) (word : CommandWord) (rest : List CommandWord)
    → IsOther word → run s (place rows pending waiting position false) (word ∷ rest) ≡ None
unfolding run
run_other s sparse rows pending waiting position word rest o =
    rw (no_name waiting word, o.not_ends)
    (stop (flag_word_fault s.rules s.args_override_self (long_of word) word (held rows pending)) _ _
    (flag_refused s.rules s.args_override_self sparse word o.flag rows pending))
