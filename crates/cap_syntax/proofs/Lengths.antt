-- A text is one of the words of its length, or none.
use Rattle.std.proofs.Common.{◌≡◌, ℕ, arith, Bor, Bool, true, false, cond, ◌&&◌, ◌||◌, eqb, ◌≢◌, get_or, List, [], ◌∷◌, length, map, refl, sym, ap, subst, ◌∙◌, ⊎_elim}
use Rattle.std.specs.List.{list_any}
use Rattle.std.specs.Str.{bytes_eq}
use Rattle.std.proofs.lemmas.Bool.{true≢false, cond-true, cond-false, cases_Bool, and_right, false_from_ne_true, eq-eqb}
use Rattle.std.proofs.lemmas.Slice.Eq.{bytes_eq-Decides}
use Rattle.cap_syntax.specs.Spelling.{is_one_of}

-- the words of this length
abbrev pub of_length : ℕ → List (List ℕ) → List (List ℕ)
of_length n [] = []
of_length n (w ∷ ws) = cond (eqb (length w) n) (w ∷ of_length n ws) (of_length n ws)

other_length : (w text : List ℕ) → eqb (length w) (length text) ≡ false → bytes_eq w text ≡ false
other_length w text apart = false_from_ne_true _ (λ same. true≢false (sym (eq-eqb _ _ (ap length ((bytes_eq-Decides w text).0 same))) ∙ apart))

same_length : (words : List (List ℕ)) (text : List ℕ) → is_one_of words text ≡ is_one_of (of_length (length text) words) text
same_length [] text = refl
same_length (w ∷ ws) text =
    ⊎_elim
    (λ same. rw (cond-true (eqb (length w) (length text)) (w ∷ of_length (length text) ws) (of_length (length text) ws) same, same_length ws text) refl)
    (λ apart. rw (cond-false (eqb (length w) (length text)) (w ∷ of_length (length text) ws) (of_length (length text) ws) apart, other_length w text apart) (same_length ws text))
    (cases_Bool (eqb (length w) (length text)))

pub by_length : (words : List (List ℕ)) (text : List ℕ) (n : ℕ) → length text ≡ n → is_one_of words text ≡ is_one_of (of_length n words) text
by_length words text n long = subst (λ k. is_one_of words text ≡ is_one_of (of_length k words) text) long (same_length words text)

-- no word has this length
abbrev pub AreApart : ℕ → List (List ℕ) → Type 0
AreApart n [] = Unit
AreApart n (w ∷ ws) = (length w ≢ n) × AreApart n ws

-- a text is none of some words of other lengths
pub none_of : (words : List (List ℕ)) (text : List ℕ) → AreApart (length text) words → is_one_of words text ≡ false
none_of [] text apart = refl
none_of (w ∷ ws) text apart = rw (false_from_ne_true (bytes_eq w text) (λ same. apart.0 (ap length ((bytes_eq-Decides w text).0 same)))) (none_of ws text apart.1)

pub one_of_views : (words : List (Bor (List ℕ))) (text : List ℕ) → list_any (λ w. bytes_eq w.now text) words ≡ is_one_of (map (λ w. w.now) words) text
one_of_views [] text = refl
one_of_views (w ∷ ws) text = ap (λ rest. bytes_eq w.now text || rest) (one_of_views ws text)

-- the bytes that are words alone
abbrev pub bytes_alone : List (List ℕ) → List ℕ
bytes_alone [] = []
bytes_alone ((b ∷ []) ∷ ws) = b ∷ bytes_alone ws
bytes_alone (w ∷ ws) = bytes_alone ws

and-true : (x : Bool) → (x && true) ≡ x
and-true true = refl
and-true false = refl

one_byte : (words : List (List ℕ)) (b : ℕ) → is_one_of words (b ∷ []) ≡ list_any (λ s. eqb s b) (bytes_alone words)
one_byte [] b = refl
one_byte ([] ∷ ws) b = one_byte ws b
one_byte ((a ∷ []) ∷ ws) b = rw (one_byte ws b, and-true (eqb a b)) refl
one_byte ((a ∷ c ∷ cs) ∷ ws) b = rw (and_right (eqb a b) false refl) (one_byte ws b)

-- a text of one byte is one of the words that are single bytes, or none
pub by_byte : (words : List (List ℕ)) (text : List ℕ) → length text ≡ 1 → is_one_of words text ≡ list_any (λ s. eqb s (get_or text 0 0)) (bytes_alone words)
by_byte words [] single = absurd (omega (arith, single))
by_byte words (b ∷ []) single = one_byte words b
by_byte words (b ∷ c ∷ text) single = absurd (omega (arith, single))
