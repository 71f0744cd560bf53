-- What the rows of a subcommand make, and what the definition makes of its words: one statement of the
-- places that a subcommand goes through, by the operands that are still wanted.
use Rattle.std.proofs.Common.{◌≡◌, ◌∙◌, ◌+◌, ◌⊎◌, ◌++◌, ℕ, Bool, cond, true, false, refl, sym, ap, min, inl, inr, List, [], ◌∷◌, Option, Some, None, codes}
use Rattle.std.specs.Prelude.{option_and_then}
use Rattle.clap.specs.Lexer.{usize_max}
use Rattle.clap.specs.Walk.{Row, Rule, idle, arg_by_index, arg_by_long, has_row, used, walked}
use Rattle.cap_top_words.specs.Meaning.{Arguments, CommandWord, arguments_of, arguments_after_option, begins_option, with_budget, with_operand}
use Rattle.cap_top_words.proofs.Classes.{WordClass, WordClasses, IsOther, IsPlain, begins_none, ends, joined, other, plain}
use Rattle.cap_top_words.proofs.Classes as class
use Rattle.cap_top_words.proofs.Leaf.{HasOption, IsSparse, Knows, at_end, budget, held, leaf, operand, operand_at, place, run, run_other, run_plain}
use Rattle.cap_top_words.proofs.Option.{Takes, operand_settles, operand_settles_closed, value_next, value_refused, value_settles, waits}

-- what is made of the values of the option and of the operands
abbrev pub Made : Type 0 → Type 0
Made B = List CommandWord → List CommandWord → Option B

abbrev pub one_more_operand : {B : Type 0} → Made B → CommandWord → Made B
one_more_operand t w budgets operands = t budgets (w ∷ operands)

abbrev pub one_more_budget : {B : Type 0} → Made B → CommandWord → Made B
one_more_budget t n budgets operands = t (n ∷ budgets) operands

-- ---- the definition, word by word

abbrev pub made_of : {B : Type 0} → Made B → Option Arguments → Option B
made_of t = option_and_then (λ a. t a.budgets a.operands)

pub made_operand : {B : Type 0} (t : Made B) (w : CommandWord) (o : Option Arguments) → made_of t (with_operand w o) ≡ made_of (one_more_operand t w) o
made_operand t w None = refl
made_operand t w (Some a) = refl

pub made_budget : {B : Type 0} (t : Made B) (n : CommandWord) (o : Option Arguments) → made_of t (with_budget n o) ≡ made_of (one_more_budget t n) o
made_budget t n None = refl
made_budget t n (Some a) = refl

pub arguments_plain : (w : CommandWord) (words : List CommandWord) → IsPlain w → arguments_of (w ∷ words) ≡ with_operand w (arguments_of words)
arguments_plain w words p = rw (p.not_ends, p.not_option, p.not_joined, p.begins) refl

pub arguments_other : (w : CommandWord) (words : List CommandWord) → IsOther w → arguments_of (w ∷ words) ≡ None
arguments_other w words o = rw (o.not_ends, o.not_option, o.not_joined, o.begins) refl

-- nothing is made
pub made_none : {B : Type 0} (t : Made B) → ((budgets operands : List CommandWord) → t budgets operands ≡ None) → (o : Option Arguments) → made_of t o ≡ None
made_none t none None = refl
made_none t none (Some a) = none a.budgets a.operands

-- ---- the places

abbrev next_of : List CommandWord → Option CommandWord
next_of [] = None
next_of (id ∷ ids) = Some id

module _ {B : Type 0} (f : List Row → Option B) (name : CommandWord) (c : List Rule) where
  -- at this place with these rows the operand, if any, is the next, and the words may end as the definition says
  pub record Stands (rows : List Row) (position : ℕ) (wanted : Option CommandWord) (t : Made B) : Type 0 where
    pub slot : arg_by_index c position ≡ operand_at position wanted
    pub ends : option_and_then f (at_end (leaf name c) (held rows None)) ≡ t [] []

  -- what is known of the option at a place, with the operands wanted from there on
  abbrev Known : Type 1
  Known = List Row → ℕ → List CommandWord → Made B → Type 0

  -- the places from this one on, by the operands that are wanted
  abbrev pub Chain : Known → Known
  Chain known rows position [] t =
      Stands rows position None t × known rows position [] t × ((budgets : List CommandWord) (w : CommandWord) (operands : List CommandWord) → t budgets (w ∷ operands) ≡ None)
  Chain known rows position (id ∷ ids) t =
      Stands rows position (Some id) t × known rows position (id ∷ ids) t × Takes c rows position id
      × ((w : CommandWord) → Chain known (used (operand id position) (w ∷ []) rows) (min (position + 1) usize_max) ids (one_more_operand t w))

  stands_of : (known : Known) (rows : List Row) (position : ℕ) (ids : List CommandWord) (t : Made B) → Chain known rows position ids t → Stands rows position (next_of ids) t
  stands_of known rows position [] t chain = chain.0
  stands_of known rows position (id ∷ ids) t chain = chain.0

  -- the option may not come: there is none, or it came
  pub record Never (rows : List Row) (position : ℕ) (ids : List CommandWord) (t : Made B) : Type 0 where
    pub refused : (arg_by_long c (codes "budget") ≡ None) ⊎ (HasOption c × (has_row (codes "budget") rows ≡ true))
    pub none : (n : CommandWord) (budgets operands : List CommandWord) → t (n ∷ budgets) operands ≡ None

  -- it may come once
  pub record Once (rows : List Row) (position : ℕ) (ids : List CommandWord) (t : Made B) : Type 0 where
    pub option : HasOption c
    pub fresh : has_row (codes "budget") rows ≡ false
    pub given : (n : CommandWord) → Chain Never (used budget (n ∷ []) rows) position ids (one_more_budget t n)

  -- ---- what `clap` reads from a place on is what the definition reads

  module _ (sparse : IsSparse c) (knows : Knows c) where
    module _ (known : Known) where
      -- after `--`
      closed : (rows : List Row) (position : ℕ) (ids : List CommandWord) (t : Made B) → Chain known rows position ids t → (words : List CommandWord)
          → option_and_then f (run (leaf name c) (place rows None idle position true) words) ≡ t [] words
      unfolding run walked
      closed rows position ids t chain [] = (stands_of known rows position ids t chain).ends
      closed rows position [] t chain (w ∷ words) = rw chain.0.slot (sym (chain.2 [] w words))
      closed rows position (id ∷ ids) t chain (w ∷ words) =
          let after = chain.3 w in
          let stands = stands_of known _ _ ids _ after in
          rw chain.0.slot
          (ap (option_and_then f) (operand_settles_closed name c _ (next_of ids) stands.slot rows position id w chain.2 words)
          ∙ closed (used (operand id position) (w ∷ []) rows) (min (position + 1) usize_max) ids (one_more_operand t w) after words)

      -- how the option is read
      record ReadsOption : Type 0 where
        next : (rows : List Row) (position : ℕ) (ids : List CommandWord) (t : Made B) → Stands rows position (next_of ids) t → known rows position ids t
            → (words : List CommandWord) → WordClasses words
            → option_and_then f (run (leaf name c) (place rows None idle position false) (codes "--budget" ∷ words)) ≡ made_of t (arguments_after_option words)
        same : (rows : List Row) (position : ℕ) (ids : List CommandWord) (t : Made B) → Stands rows position (next_of ids) t → known rows position ids t
            → (n : CommandWord) (words : List CommandWord) → WordClasses words
            → option_and_then f (run (leaf name c) (place rows None idle position false) ((codes "--budget=" ++ n) ∷ words)) ≡ made_of (one_more_budget t n) (arguments_of words)

      -- `clap` reads these words as the definition does, from every place
      abbrev AreRead : List CommandWord → Type 0
      AreRead words = (rows : List Row) (position : ℕ) (ids : List CommandWord) (t : Made B) → Chain known rows position ids t → WordClasses words
          → option_and_then f (run (leaf name c) (place rows None idle position false) words) ≡ made_of t (arguments_of words)

      operand_read : (w : CommandWord) (words : List CommandWord) → AreRead words → IsPlain w → WordClasses words → (rows : List Row) (position : ℕ) (ids : List CommandWord) (t : Made B)
          → Chain known rows position ids t → option_and_then f (run (leaf name c) (place rows None idle position false) (w ∷ words)) ≡ made_of t (arguments_of (w ∷ words))
      unfolding run walked
      operand_read w words again p rest rows position [] t chain =
          rw (run_plain (leaf name c) rows None idle position w words p, arguments_plain w words p, chain.0.slot)
          (sym (made_operand t w (arguments_of words) ∙ made_none (one_more_operand t w) (λ budgets operands. chain.2 budgets w operands) (arguments_of words)))
      operand_read w words again p rest rows position (id ∷ ids) t chain =
          let after = chain.3 w in
          let stands = stands_of known _ _ ids _ after in
          rw (run_plain (leaf name c) rows None idle position w words p, arguments_plain w words p, chain.0.slot)
          (ap (option_and_then f) (operand_settles name c _ (next_of ids) stands.slot sparse knows rows position id w chain.2 words rest)
          ∙ again _ _ ids (one_more_operand t w) after rest
          ∙ sym (made_operand t w (arguments_of words)))

      known_of : (rows : List Row) (position : ℕ) (ids : List CommandWord) (t : Made B) → Chain known rows position ids t → known rows position ids t
      known_of rows position [] t chain = chain.1
      known_of rows position (id ∷ ids) t chain = chain.1

      reads : ReadsOption → (words : List CommandWord) → AreRead words
      unfolding run walked
      reads by [] rows position ids t chain classes = (stands_of known rows position ids t chain).ends
      reads by (w ∷ words) rows position ids t chain classes = go classes.0 (reads by words)
        where
          stands : Stands rows position (next_of ids) t
          stands = stands_of known rows position ids t chain

          go : WordClass w → AreRead words → option_and_then f (run (leaf name c) (place rows None idle position false) (w ∷ words)) ≡ made_of t (arguments_of (w ∷ words))
          go (ends e) again = rw e (closed rows position ids t chain words)
          go (class.option e) again = rw e (by.next rows position ids t stands (known_of rows position ids t chain) words (classes.1 (rw e refl)))
          go (joined n e) again =
              rw e (by.same rows position ids t stands (known_of rows position ids t chain) n words (classes.1 (rw e refl)) ∙ sym (made_budget t n (arguments_of words)))
          go (other o) again = rw (run_other (leaf name c) sparse rows None idle position w words o, arguments_other w words o) refl
          go (plain p) again = operand_read w words again p (classes.1 p.not_ends) rows position ids t chain

    -- ---- where the option may not come, and where it may

    made_after_none : (t : Made B) → ((n : CommandWord) (budgets operands : List CommandWord) → t (n ∷ budgets) operands ≡ None) → (words : List CommandWord) → made_of t (arguments_after_option words) ≡ None
    made_after_none t none [] = refl
    made_after_none t none (n ∷ words) = go (begins_option n)
      where
        go : (b : Bool) → made_of t (cond b None (with_budget n (arguments_of words))) ≡ None
        go true = refl
        go false = made_budget t n (arguments_of words) ∙ made_none (one_more_budget t n) (none n) (arguments_of words)

    never_next : (rows : List Row) (position : ℕ) (ids : List CommandWord) (t : Made B) → Stands rows position (next_of ids) t
        → (arg_by_long c (codes "budget") ≡ None) ⊎ (HasOption c × (has_row (codes "budget") rows ≡ true)) → (words : List CommandWord) → WordClasses words
        → run (leaf name c) (place rows None idle position false) (codes "--budget" ∷ words) ≡ None
    unfolding run walked
    never_next rows position ids t stands (inl e) words classes = rw e refl
    never_next rows position ids t stands (inr h) words classes =
        rw h.0.by_long (waits name c position (next_of ids) stands.slot sparse h.0 rows words classes ∙ go words classes)
      where
        go : (words : List CommandWord) → WordClasses words → value_next name c position (next_of ids) stands.slot sparse h.0 rows words ≡ None
        go [] classes = refl
        go (n ∷ words) classes = value (begins_option n) refl
          where
            value : (b : Bool) → begins_option n ≡ b → cond b None (run (leaf name c) (place rows (Some (codes "budget", n ∷ [])) idle position false) words) ≡ None
            value true e = refl
            value false e = value_refused name c position (next_of ids) stands.slot sparse h.0 rows h.1 n words (classes.1 (begins_none n e))

    never_same : (rows : List Row) (position : ℕ)
        → (arg_by_long c (codes "budget") ≡ None) ⊎ (HasOption c × (has_row (codes "budget") rows ≡ true)) → (n : CommandWord) (words : List CommandWord)
        → run (leaf name c) (place rows None idle position false) ((codes "--budget=" ++ n) ∷ words) ≡ None
    unfolding run walked
    never_same rows position (inl e) n words = rw e refl
    never_same rows position (inr h) n words = rw (h.0.by_long, h.1) refl

    never : ReadsOption Never
    never = record {
      next = λ rows position ids t stands known words classes.
          ap (option_and_then f) (never_next rows position ids t stands known.refused words classes) ∙ sym (made_after_none t known.none words);
      same = λ rows position ids t stands known n words classes.
          ap (option_and_then f) (never_same rows position known.refused n words) ∙ sym (made_none (one_more_budget t n) (known.none n) (arguments_of words));
    }

    pub reads_without : (rows : List Row) (position : ℕ) (ids : List CommandWord) (t : Made B) → Chain Never rows position ids t → (words : List CommandWord) → WordClasses words
        → option_and_then f (run (leaf name c) (place rows None idle position false) words) ≡ made_of t (arguments_of words)
    reads_without rows position ids t chain words classes = reads Never never words rows position ids t chain classes

    once_next : (rows : List Row) (position : ℕ) (ids : List CommandWord) (t : Made B) → Stands rows position (next_of ids) t → Once rows position ids t
        → (words : List CommandWord) → WordClasses words
        → option_and_then f (run (leaf name c) (place rows None idle position false) (codes "--budget" ∷ words)) ≡ made_of t (arguments_after_option words)
    unfolding run walked
    once_next rows position ids t stands known words classes =
        rw known.option.by_long (ap (option_and_then f) (waits name c position (next_of ids) stands.slot sparse known.option rows words classes) ∙ go words classes)
      where
        go : (words : List CommandWord) → WordClasses words
            → option_and_then f (value_next name c position (next_of ids) stands.slot sparse known.option rows words) ≡ made_of t (arguments_after_option words)
        go [] classes = refl
        go (n ∷ words) classes = value (begins_option n) refl
          where
            value : (b : Bool) → begins_option n ≡ b
                → option_and_then f (cond b None (run (leaf name c) (place rows (Some (codes "budget", n ∷ [])) idle position false) words))
                ≡ made_of t (cond b None (with_budget n (arguments_of words)))
            value true e = refl
            value false e =
                let rest = classes.1 (begins_none n e) in
                ap (option_and_then f) (value_settles name c position (next_of ids) stands.slot sparse known.option rows known.fresh n words rest)
                ∙ reads_without (used budget (n ∷ []) rows) position ids (one_more_budget t n) (known.given n) words rest
                ∙ sym (made_budget t n (arguments_of words))

    once_same : (rows : List Row) (position : ℕ) (ids : List CommandWord) (t : Made B) → Once rows position ids t → (n : CommandWord) (words : List CommandWord) → WordClasses words
        → option_and_then f (run (leaf name c) (place rows None idle position false) ((codes "--budget=" ++ n) ∷ words)) ≡ made_of (one_more_budget t n) (arguments_of words)
    unfolding run walked
    once_same rows position ids t known n words classes =
        rw (known.option.by_long, known.fresh) (reads_without (used budget (n ∷ []) rows) position ids (one_more_budget t n) (known.given n) words classes)

    pub reads_with : (rows : List Row) (position : ℕ) (ids : List CommandWord) (t : Made B) → Chain Once rows position ids t → (words : List CommandWord) → WordClasses words
        → option_and_then f (run (leaf name c) (place rows None idle position false) words) ≡ made_of t (arguments_of words)
    reads_with rows position ids t chain words classes = reads Once once words rows position ids t chain classes
      where
        once : ReadsOption Once
        once = record {
          next = once_next;
          same = λ rows position ids t stands known n words classes. once_same rows position ids t known n words classes;
        }
