-- What a word before the first `--` can be, to the definition and to `clap` alike.
use Rattle.std.proofs.Common.{◌≡◌, ◌∙◌, ◌<◌, ◌==◌, ◌||◌, ℕ, Bool, cond, true, false, zero, suc, refl, sym, ap, ap₂, inl, inr, ◌⊎◌, ◌≤◌, subst, arith, List, [], ◌∷◌, ◌++◌, length, take, Option, Some, None, true≢false, eqb-true, get_or, codes}
use Rattle.std.specs.List.{before_first, after_first, position_or_len}
use Rattle.std.specs.Prelude.{slice_get}
use Rattle.std.specs.Str.{IsUtf8, bytes_eq, chars, encode_utf8_all}
use Rattle.std.proofs.lemmas.Str.{IsCharBoundary-after_ascii, IsUtf8-drop, encodes-chars}
use Rattle.std.proofs.lemmas.Bool.{cases_lt}
use Rattle.std.proofs.lemmas.Bool.Decides.{Decides-like, same_from_decides}
use Rattle.std.proofs.lemmas.Slice.Eq.{bytes_eq-Decides}
use Rattle.std.proofs.lemmas.List.Sums.{passes_at_first, split_at_first}
use Rattle.clap.specs.Lexer.{long_of, name_and_value, short_of}
use Rattle.cap_top_words.specs.Meaning.{CommandWord, begins_option, rest_after}
use Rattle.cap_top_words.specs.Parser.{has_lone_dash}

-- `clap` takes the word for a flag other than `--budget`
pub data IsFlag (w : CommandWord) : Type 0 where
  long : (name : CommandWord) (v : Option CommandWord) → long_of w ≡ Some (name, v) → bytes_eq (codes "budget") name ≡ false → IsFlag w
  short : (x : ℕ) (f : ℕ) (fs : CommandWord) → long_of w ≡ None → short_of w ≡ Some (f ∷ fs) → slice_get (chars (f ∷ fs)) 0 ≡ Some x → IsFlag w

pub record IsOther (w : CommandWord) : Type 0 where
  pub not_ends : bytes_eq w (codes "--") ≡ false
  pub not_option : bytes_eq w (codes "--budget") ≡ false
  pub not_joined : rest_after (codes "--budget=") w ≡ None
  pub begins : begins_option w ≡ true
  pub flag : IsFlag w

pub record IsPlain (w : CommandWord) : Type 0 where
  pub not_ends : bytes_eq w (codes "--") ≡ false
  pub not_option : bytes_eq w (codes "--budget") ≡ false
  pub not_joined : rest_after (codes "--budget=") w ≡ None
  pub begins : begins_option w ≡ false
  pub no_long : long_of w ≡ None
  pub no_short : short_of w ≡ None

pub data WordClass (w : CommandWord) : Type 0 where
  ends : w ≡ codes "--" → WordClass w
  option : w ≡ codes "--budget" → WordClass w
  joined : (n : CommandWord) → w ≡ codes "--budget=" ++ n → WordClass w
  other : IsOther w → WordClass w
  plain : IsPlain w → WordClass w

-- each word before the first `--` has its class
abbrev pub WordClasses : List CommandWord → Type 0
WordClasses [] = Unit {0}
WordClasses (w ∷ words) = WordClass w × (bytes_eq w (codes "--") ≡ false → WordClasses words)

-- the words are text
abbrev pub AreTexts : List CommandWord → Type 0
AreTexts [] = Unit {0}
AreTexts (w ∷ words) = IsUtf8 w × AreTexts words

-- ---- tests of bytes

pub same_bytes : (xs ys : CommandWord) → bytes_eq xs ys ≡ true → xs ≡ ys
same_bytes xs ys = (bytes_eq-Decides xs ys).0

pub equal_bytes : (bs : CommandWord) → bytes_eq bs bs ≡ true
equal_bytes bs = (bytes_eq-Decides bs bs).1 refl

pub bytes_eq-flipped : (xs ys : CommandWord) → bytes_eq xs ys ≡ bytes_eq ys xs
bytes_eq-flipped xs ys = same_from_decides (bytes_eq xs ys) (bytes_eq ys xs) (bytes_eq-Decides xs ys) (Decides-like (bytes_eq ys xs) sym sym (bytes_eq-Decides ys xs))

-- a word that begins with no `-` is not `--`
pub begins_none : (w : CommandWord) → begins_option w ≡ false → bytes_eq w (codes "--") ≡ false
begins_none w e = go (bytes_eq w (codes "--")) refl
  where
    go : (b : Bool) → bytes_eq w (codes "--") ≡ b → b ≡ false
    go false h = refl
    go true h = absurd (true≢false (sym (ap begins_option (same_bytes w (codes "--") h)) ∙ e))

pub rest_after-Some : (front w n : CommandWord) → rest_after front w ≡ Some n → w ≡ front ++ n
rest_after-Some [] w n e = cc
rest_after-Some (c ∷ cs) [] n e = cc
rest_after-Some (c ∷ cs) (x ∷ xs) n e = go (rest_after-Some cs xs n) (x == c) refl e
  where
    go : (rest_after cs xs ≡ Some n → xs ≡ cs ++ n) → (b : Bool) → (x == c) ≡ b → cond b (rest_after cs xs) None ≡ Some n → x ∷ xs ≡ c ∷ (cs ++ n)
    go rest true t h = ap₂ (λ y ys. y ∷ ys) (eqb-true x c t) (rest h)
    go rest false t h = cc

take_all : (n : ℕ) (t : CommandWord) → length t ≤ n → take n t ≡ t
take_all zero [] le = refl
take_all zero (x ∷ xs) le = absurd (omega arith)
take_all (suc n) [] le = refl
take_all (suc n) (x ∷ xs) le = ap (λ (ys : CommandWord). x ∷ ys) (take_all n xs (omega arith))

-- ---- words that begin with `--` and more

-- the name before `=` is the option's in two words only
other_name : (t : CommandWord) → bytes_eq t (codes "budget") ≡ false → rest_after (codes "budget=") t ≡ None
    → bytes_eq (codes "budget") (before_first (λ x. x == 61) t) ≡ false
other_name t word front = go (bytes_eq (codes "budget") (before_first (λ x. x == 61) t)) refl
  where
    cut : codes "budget" ≡ before_first (λ x. x == 61) t → (position_or_len (λ x. x == 61) t < length t) ⊎ (length t ≤ position_or_len (λ x. x == 61) t) → ⊥
    cut name (inl inside) =
        let p : ℕ → Bool = λ x. x == 61 in
        let i = position_or_len p t in
        let here = eqb-true (get_or t i 0) 61 (passes_at_first p t 0 inside) in
        let is : t ≡ codes "budget" ++ (61 ∷ after_first p t) = split_at_first p t 0 inside ∙ ap₂ (λ (a : CommandWord) (b : ℕ). a ++ (b ∷ after_first p t)) (sym name) here in
        let found : rest_after (codes "budget=") t ≡ Some (after_first p t) = ap (rest_after (codes "budget=")) is in
        let bad : None ≡ Some (after_first p t) = sym front ∙ found in cc
    cut name (inr past) =
        let is : t ≡ codes "budget" = sym (take_all (position_or_len (λ x. x == 61) t) t past) ∙ sym name in
        let same : bytes_eq t (codes "budget") ≡ true = ap (λ (a : CommandWord). bytes_eq a (codes "budget")) is in
        true≢false (sym same ∙ word)

    go : (b : Bool) → bytes_eq (codes "budget") (before_first (λ x. x == 61) t) ≡ b → b ≡ false
    go false e = refl
    go true e = absurd (cut (same_bytes _ _ e) (cases_lt _ _))

long_class : (x : ℕ) (xs : CommandWord) → WordClass (45 ∷ 45 ∷ x ∷ xs)
long_class x xs = go (bytes_eq t (codes "budget")) (rest_after (codes "budget=") t) refl refl
  where
    t : CommandWord
    t = x ∷ xs

    go : (b : Bool) (o : Option CommandWord) → bytes_eq t (codes "budget") ≡ b → rest_after (codes "budget=") t ≡ o → WordClass (45 ∷ 45 ∷ t)
    go true o e f = option (ap (λ (r : CommandWord). 45 ∷ 45 ∷ r) (same_bytes t (codes "budget") e))
    go false (Some n) e f = joined n (ap (λ (r : CommandWord). 45 ∷ 45 ∷ r) (rest_after-Some (codes "budget=") t n f))
    go false None e f = other (record {
      not_ends = refl;
      not_option = e;
      not_joined = f;
      begins = refl;
      flag = long (before_first (λ y. y == 61) t) (name_and_value t).1 refl (other_name t e f);
    })

-- ---- words that begin with one `-`

-- text that is not empty has a character
some_char : (bs : CommandWord) → IsUtf8 bs → 0 < length bs → (c : ℕ) × (slice_get (chars bs) 0 ≡ Some c)
some_char bs u more = go (chars bs) (encodes-chars bs u)
  where
    go : (cs : CommandWord) → encode_utf8_all cs ≡ bs → (c : ℕ) × (slice_get cs 0 ≡ Some c)
    go [] e = let none : length bs ≡ 0 = ap length (sym e) in absurd (omega arith)
    go (c ∷ cs) e = (c, refl)

short_class : (x : ℕ) (xs : CommandWord) → (x == 45) ≡ false → IsUtf8 (45 ∷ x ∷ xs) → WordClass (45 ∷ x ∷ xs)
short_class x xs e u =
    let rest : IsUtf8 (x ∷ xs) = IsUtf8-drop (45 ∷ x ∷ xs) 1 u (IsCharBoundary-after_ascii (45 ∷ x ∷ xs) 0 u (omega arith) (omega arith)) in
    let char = some_char (x ∷ xs) rest (omega arith) in
    other (record {
      not_ends = rw e refl;
      not_option = rw e refl;
      not_joined = rw e refl;
      begins = refl;
      flag = short char.0 x xs (rw e refl) (rw e refl) char.1;
    })

begun : (xs : CommandWord) → bytes_eq (45 ∷ xs) (codes "-") ≡ false → IsUtf8 (45 ∷ xs) → WordClass (45 ∷ xs)
begun [] lone u = absurd (true≢false lone)
begun (y ∷ ys) lone u = go (y == 45) refl
  where
    two_operands : (zs : CommandWord) → WordClass (45 ∷ 45 ∷ zs)
    two_operands [] = ends refl
    two_operands (z ∷ zs) = long_class z zs

    go : (b : Bool) → (y == 45) ≡ b → WordClass (45 ∷ y ∷ ys)
    go false t = short_class y ys t u
    go true t = subst (λ z. WordClass (45 ∷ z ∷ ys)) (sym (eqb-true y 45 t)) (two_operands ys)

-- ---- all words

pub class_of : (w : CommandWord) → IsUtf8 w → bytes_eq w (codes "-") ≡ false → WordClass w
class_of [] u lone = plain (record { not_ends = refl; not_option = refl; not_joined = refl; begins = refl; no_long = refl; no_short = refl })
class_of (x ∷ xs) u lone = go (x == 45) refl
  where
    go : (b : Bool) → (x == 45) ≡ b → WordClass (x ∷ xs)
    go false t = plain (record {
      not_ends = rw t refl;
      not_option = rw t refl;
      not_joined = rw t refl;
      begins = t;
      no_long = rw t refl;
      no_short = rw t refl;
    })
    go true t =
        let is = eqb-true x 45 t in
        subst (λ z. WordClass (z ∷ xs)) (sym is) (begun xs (subst (λ z. bytes_eq (z ∷ xs) (codes "-") ≡ false) is lone) (subst (λ z. IsUtf8 (z ∷ xs)) is u))

pub word_classes_of : (words : List CommandWord) → AreTexts words → has_lone_dash words ≡ false → WordClasses words
word_classes_of [] t l = tt
word_classes_of (w ∷ words) t l = go (bytes_eq w (codes "--")) (bytes_eq w (codes "-")) refl refl l (word_classes_of words t.1)
  where
    go : (e d : Bool) → bytes_eq w (codes "--") ≡ e → bytes_eq w (codes "-") ≡ d → cond e false (d || has_lone_dash words) ≡ false
        → (has_lone_dash words ≡ false → WordClasses words) → WordClass w × (bytes_eq w (codes "--") ≡ false → WordClasses words)
    go true d e f g rest = (ends (same_bytes w (codes "--") e), λ h. absurd (true≢false (sym e ∙ h)))
    go false true e f g rest = absurd (true≢false g)
    go false false e f g rest = (class_of w t.0 f, λ h. rest g)
