-- The option, and the operand that is pending.
use Rattle.std.proofs.Common.{◌≡◌, ◌∙◌, ℕ, cond, true, false, refl, List, [], ◌∷◌, Option, Some, None, codes}
use Rattle.clap.specs.Walk.{Row, Rule, idle, option, arg_by_id, arg_by_index, has_row, used, walked}
use Rattle.cap_top_words.specs.Meaning.{CommandWord, begins_option}
use Rattle.cap_top_words.proofs.Classes.{WordClass, WordClasses, ends, joined, other, plain}
use Rattle.cap_top_words.proofs.Classes as class
use Rattle.cap_top_words.proofs.Leaf.{HasOption, IsSparse, Knows, budget, has, leaf, operand, operand_at, place, run, run_other, run_plain}
use Rattle.cap_top_words.proofs.Settling.{settles, settles_closed}

-- the operand can be read here
pub record Takes (c : List Rule) (rows : List Row) (position : ℕ) (id : CommandWord) : Type 0 where
  pub by_id : arg_by_id c id ≡ Some (operand id position)
  pub fresh : has_row id rows ≡ false

module _ (name : CommandWord) (c : List Rule) (position : ℕ) (slot : Option CommandWord) (stands : arg_by_index c position ≡ operand_at position slot) where
  -- an operand before this place
  pub operand_settles : IsSparse c → Knows c → (rows : List Row) (before : ℕ) (id w : CommandWord) → Takes c rows before id → (words : List CommandWord) → WordClasses words
      → run (leaf name c) (place rows (Some (id, w ∷ [])) idle position false) words ≡ run (leaf name c) (place (used (operand id before) (w ∷ []) rows) None idle position false) words
  operand_settles sparse knows rows before id w takes words t =
      settles name c position slot stands rows (id, w ∷ []) sparse knows words t ∙ rw (takes.by_id, takes.fresh) refl

  pub operand_settles_closed : (rows : List Row) (before : ℕ) (id w : CommandWord) → Takes c rows before id → (words : List CommandWord)
      → run (leaf name c) (place rows (Some (id, w ∷ [])) idle position true) words ≡ run (leaf name c) (place (used (operand id before) (w ∷ []) rows) None idle position true) words
  operand_settles_closed rows before id w takes words =
      settles_closed name c position slot stands rows (id, w ∷ []) idle words ∙ rw (takes.by_id, takes.fresh) refl

  module _ (sparse : IsSparse c) (h : HasOption c) (rows : List Row) where
    -- the option's value
    pub value_settles : has_row (codes "budget") rows ≡ false → (n : CommandWord) (words : List CommandWord) → WordClasses words
        → run (leaf name c) (place rows (Some (codes "budget", n ∷ [])) idle position false) words ≡ run (leaf name c) (place (used budget (n ∷ []) rows) None idle position false) words
    value_settles fresh n words t = settles name c position slot stands rows (codes "budget", n ∷ []) sparse (has h) words t ∙ rw (h.by_id, fresh) refl

    -- a second value
    pub value_refused : has_row (codes "budget") rows ≡ true → (n : CommandWord) (words : List CommandWord) → WordClasses words
        → run (leaf name c) (place rows (Some (codes "budget", n ∷ [])) idle position false) words ≡ None
    value_refused given n words t = settles name c position slot stands rows (codes "budget", n ∷ []) sparse (has h) words t ∙ rw (h.by_id, given) refl

    -- the option waits for its value
    abbrev pub value_next : List CommandWord → Option (List Row)
    value_next [] = None
    value_next (n ∷ words) = cond (begins_option n) None (run (leaf name c) (place rows (Some (codes "budget", n ∷ [])) idle position false) words)

    pub waits : (words : List CommandWord) → WordClasses words
        → run (leaf name c) (place rows (Some (codes "budget", [])) (option (codes "budget")) position false) words ≡ value_next words
    unfolding run walked
    waits [] t = rw h.by_id refl
    waits (w ∷ words) t = go t.0
      where
        go : WordClass w → run (leaf name c) (place rows (Some (codes "budget", [])) (option (codes "budget")) position false) (w ∷ words) ≡ value_next (w ∷ words)
        go (ends e) = rw e (settles_closed name c position slot stands rows (codes "budget", []) (option (codes "budget")) words ∙ rw h.by_id refl)
        go (class.option e) = rw (e, h.by_long, h.by_id) refl
        go (joined n e) = rw (e, h.by_long, h.by_id) refl
        go (other o) = rw (run_other (leaf name c) sparse rows (Some (codes "budget", [])) (option (codes "budget")) position w words o, o.begins) refl
        go (plain p) = rw (run_plain (leaf name c) rows (Some (codes "budget", [])) (option (codes "budget")) position w words p, p.begins, h.by_id) refl
