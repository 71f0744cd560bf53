-- The class that a table gives a text is that of the rows of its length.
use Rattle.std.proofs.Common.{◌≡◌, ℕ, arith, cond, eqb, ◌≢◌, false, get_or, List, [], ◌∷◌, length, refl, sym, ap, subst, ◌∙◌, ⊎_elim}
use Rattle.std.specs.Str.{bytes_eq}
use Rattle.std.proofs.lemmas.Bool.{true≢false, cond-true, cond-false, cases_Bool, false_from_ne_true, eq-eqb}
use Rattle.std.proofs.lemmas.Slice.Eq.{bytes_eq-Decides}
use Rattle.cap_parse_laws.specs.declared.class.Class.{Class}
use Rattle.cap_parse_laws.specs.declared.class.Class.TheVariants.{Other}
use Rattle.cap_parse_laws.specs.Classes.{class_in}

-- the rows whose word has this length
abbrev pub of_length : ℕ → List (List ℕ × Class) → List (List ℕ × Class)
of_length n [] = []
of_length n (row ∷ rows) = cond (eqb (length row.0) n) (row ∷ of_length n rows) (of_length n rows)

other_length : (w text : List ℕ) → eqb (length w) (length text) ≡ false → bytes_eq text w ≡ false
other_length w text apart = false_from_ne_true _ (λ same. true≢false (sym (eq-eqb _ _ (ap length (sym ((bytes_eq-Decides text w).0 same)))) ∙ apart))

same_length : (rows : List (List ℕ × Class)) (text : List ℕ) → class_in rows text ≡ class_in (of_length (length text) rows) text
same_length [] text = refl
same_length (row ∷ rows) text =
    ⊎_elim
    (λ same. rw (cond-true (eqb (length row.0) (length text)) (row ∷ of_length (length text) rows) (of_length (length text) rows) same, same_length rows text) refl)
    (λ apart. rw (cond-false (eqb (length row.0) (length text)) (row ∷ of_length (length text) rows) (of_length (length text) rows) apart, other_length row.0 text apart) (same_length rows text))
    (cases_Bool (eqb (length row.0) (length text)))

pub by_length : (rows : List (List ℕ × Class)) (text : List ℕ) (n : ℕ) → length text ≡ n → class_in rows text ≡ class_in (of_length n rows) text
by_length rows text n long = subst (λ k. class_in rows text ≡ class_in (of_length k rows) text) long (same_length rows text)

-- no row's word has this length
abbrev pub AreApart : ℕ → List (List ℕ × Class) → Type 0
AreApart n [] = Unit
AreApart n (row ∷ rows) = (length row.0 ≢ n) × AreApart n rows

-- a text has no class by rows of other lengths
pub none_of : (rows : List (List ℕ × Class)) (text : List ℕ) → AreApart (length text) rows → class_in rows text ≡ Other
none_of [] text apart = refl
none_of (row ∷ rows) text apart = rw (false_from_ne_true (bytes_eq text row.0) (λ same. apart.0 (ap length (sym ((bytes_eq-Decides text row.0).0 same))))) (none_of rows text apart.1)

-- a text of one byte is its first byte
pub single : (text : List ℕ) → length text ≡ 1 → get_or text 0 0 ∷ [] ≡ text
single [] long = absurd (omega (arith, long))
single (b ∷ []) long = refl
single (b ∷ c ∷ text) long = absurd (omega (arith, long))
