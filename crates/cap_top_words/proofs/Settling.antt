-- Where nothing waits for a value, what is pending may as well be used before the next word.
use Rattle.std.proofs.Common.{◌≡◌, ◌&&◌, ◌++◌, ℕ, Bool, cond, true, false, refl, List, [], ◌∷◌, Option, Some, None, codes}
use Rattle.std.specs.Str.{bytes_eq}
use Rattle.clap.specs.Walk.{Row, Rule, Waiting, idle, arg_by_index, settled_rows, walked}
use Rattle.clap.specs.Kinds.{Kinds, or_else}
use Rattle.clap.specs.Faults.{settle_fault}
use Rattle.cap_top_words.specs.Meaning.{CommandWord}
use Rattle.cap_top_words.proofs.Classes.{WordClass, WordClasses, IsPlain, ends, joined, other, plain}
use Rattle.cap_top_words.proofs.Classes as class
use Rattle.cap_top_words.proofs.Leaf.{IsSparse, Knows, has, held, is_clear, lacks, leaf, operand_at, place, run, run_other, run_plain}

guard : (k next : Kinds) (o : Option (List Row)) → cond (is_clear (or_else k next)) o None ≡ cond (is_clear k) (cond (is_clear next) o None) None
guard [] next o = refl
guard (k ∷ ks) next o = refl

nested : (k first next : Kinds) (o : Option (List Row))
    → cond (is_clear (or_else (or_else k first) next)) o None ≡ cond (is_clear k) (cond (is_clear (or_else first next)) o None) None
nested [] first next o = refl
nested (k ∷ ks) first next o = refl

neither : (b : Bool) → ◌≡◌ {A = Option (List Row)} None (cond b None None)
neither true = refl
neither false = refl

and_false : (b : Bool) → (b && false) ≡ false
and_false true = refl
and_false false = refl

module _ (name : CommandWord) (c : List Rule) (position : ℕ) (slot : Option CommandWord) (stands : arg_by_index c position ≡ operand_at position slot)
    (rows : List Row) (p : CommandWord × List CommandWord) where
  abbrev fault : Kinds
  fault = settle_fault c false (held rows (Some p))

  abbrev after : List Row
  after = settled_rows c (Some p) rows

  -- after `--`
  pub settles_closed : (waiting : Waiting) (words : List CommandWord)
      → run (leaf name c) (place rows (Some p) waiting position true) words
      ≡ cond (is_clear fault) (run (leaf name c) (place after None waiting position true) words) None
  unfolding run walked
  settles_closed waiting [] = guard fault _ _
  settles_closed waiting (w ∷ words) = go slot stands
    where
      go : (slot : Option CommandWord) → arg_by_index c position ≡ operand_at position slot
          → run (leaf name c) (place rows (Some p) waiting position true) (w ∷ words)
          ≡ cond (is_clear fault) (run (leaf name c) (place after None waiting position true) (w ∷ words)) None
      go None e = rw e (neither (is_clear fault))
      go (Some id) e = rw (e, and_false (bytes_eq p.0 id)) refl

  -- before it
  pub settles : IsSparse c → Knows c → (words : List CommandWord) → WordClasses words
      → run (leaf name c) (place rows (Some p) idle position false) words
      ≡ cond (is_clear fault) (run (leaf name c) (place after None idle position false) words) None
  unfolding run walked
  settles sparse knows [] t = guard fault _ _
  settles sparse knows (w ∷ words) t = go t.0
    where
      option_met : Knows c → run (leaf name c) (place rows (Some p) idle position false) (codes "--budget" ∷ words)
          ≡ cond (is_clear fault) (run (leaf name c) (place after None idle position false) (codes "--budget" ∷ words)) None
      option_met (has h) = rw h.by_long (guard fault [] _)
      option_met (lacks e) = rw e (neither (is_clear fault))

      joined_met : (n : CommandWord) → Knows c → run (leaf name c) (place rows (Some p) idle position false) ((codes "--budget=" ++ n) ∷ words)
          ≡ cond (is_clear fault) (run (leaf name c) (place after None idle position false) ((codes "--budget=" ++ n) ∷ words)) None
      joined_met n (has h) = rw h.by_long (nested fault _ _ _)
      joined_met n (lacks e) = rw e (neither (is_clear fault))

      plain_met : IsPlain w → (slot : Option CommandWord) → arg_by_index c position ≡ operand_at position slot
          → run (leaf name c) (place rows (Some p) idle position false) (w ∷ words)
          ≡ cond (is_clear fault) (run (leaf name c) (place after None idle position false) (w ∷ words)) None
      plain_met is None e = rw (run_plain (leaf name c) rows (Some p) idle position w words is, run_plain (leaf name c) after None idle position w words is, e) (neither (is_clear fault))
      plain_met is (Some id) e = rw (run_plain (leaf name c) rows (Some p) idle position w words is, run_plain (leaf name c) after None idle position w words is, e, and_false (bytes_eq p.0 id)) refl

      go : WordClass w → run (leaf name c) (place rows (Some p) idle position false) (w ∷ words)
          ≡ cond (is_clear fault) (run (leaf name c) (place after None idle position false) (w ∷ words)) None
      go (ends e) = rw e (settles_closed idle words)
      go (class.option e) = rw e (option_met knows)
      go (joined n e) = rw e (joined_met n knows)
      go (other o) = rw (run_other (leaf name c) sparse rows (Some p) idle position w words o, run_other (leaf name c) sparse after None idle position w words o) (neither (is_clear fault))
      go (plain is) = plain_met is slot stands
