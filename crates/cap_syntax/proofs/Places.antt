-- The place moves with what is left of the text.
use Rattle.std.proofs.Common.{◌≡◌, ℕ, ◌+◌, ◌-◌, ◌<◌, ◌≤◌, false, cond, List, [], ◌∷◌, ◌++◌, length, take, drop, refl, sym, ap, subst, ◌∙◌, arith, inl, inr, ⊎_elim, append_assoc, length-take, length-drop}
use Rattle.std.specs.Prelude.{count_by, reverse, not}
use Rattle.std.specs.List.{prefix_len}
use Rattle.std.proofs.Math.Seq.{take-add}
use Rattle.std.proofs.lemmas.List.{drop-drop, length-reverse, reverse-append}
use Rattle.std.proofs.lemmas.Bool.{cases_Bool, cond-true, cond-false, not_from_false}
use Rattle.std.proofs.lemmas.List.Sums.{sum_by-append, count_by-le-length, prefix_len-le-length}
use Rattle.cap_syntax.specs.declared.place.Place.{Place}
use Rattle.cap_syntax.specs.Place.{is_line_feed, place_after, place_at, place_of, StandsAt, IsEarlier}

pub starts_at : (bytes : List ℕ) → StandsAt bytes bytes (record { line = 1; column = 1 })
starts_at bytes =
    let none : length bytes - length bytes ≡ 0 = omega arith in
    record {
      within = omega arith;
      rest_of = ap (λ i. drop i bytes) none;
      at = sym (ap (place_at bytes) none);
    }

-- the bytes before what is left of a rest
front_of : (bytes rest : List ℕ) (place : Place) (n : ℕ) → StandsAt bytes rest place → n ≤ length rest → (length bytes - length (drop n rest) ≡ (length bytes - length rest) + n) × (take (length bytes - length (drop n rest)) bytes ≡ take (length bytes - length rest) bytes ++ take n rest)
front_of bytes rest place n stands le =
    let i = length bytes - length rest in
    let index : length bytes - length (drop n rest) ≡ (length bytes - length rest) + n = omega (arith, length-drop n rest, stands.within) in
    (index, ap (λ (k : ℕ). take k bytes) index ∙ take-add i n bytes ∙ ap (λ (r : List ℕ). take i bytes ++ take n r) stands.rest_of)

pub stands_behind : (bytes rest : List ℕ) (place : Place) (n : ℕ) → StandsAt bytes rest place → n ≤ length rest → StandsAt bytes (drop n rest) (place_of bytes (drop n rest))
stands_behind bytes rest place n stands le =
    let i = length bytes - length rest in
    record {
      within = omega (arith, length-drop n rest, stands.within);
      rest_of = ap (λ k. drop k bytes) (front_of bytes rest place n stands le).0 ∙ sym (drop-drop n i bytes) ∙ ap (drop n) stands.rest_of;
      at = refl;
    }

pub moves : (bytes rest : List ℕ) (place next : Place) (n : ℕ) → StandsAt bytes rest place → n ≤ length rest → ((front : List ℕ) → place ≡ place_after front → next ≡ place_after (front ++ take n rest)) → StandsAt bytes (drop n rest) next
moves bytes rest place next n stands le moved =
    let behind = stands_behind bytes rest place n stands le in
    record {
      within = behind.within;
      rest_of = behind.rest_of;
      at = moved (take (length bytes - length rest) bytes) stands.at ∙ ap place_after (sym (front_of bytes rest place n stands le).1);
    }

-- no place has a greater number than there are bytes before it, and one
pub numbers_fit : (bytes rest : List ℕ) (place : Place) → StandsAt bytes rest place → (place.line + length rest ≤ length bytes + 1) × (place.column + length rest ≤ length bytes + 1)
numbers_fit bytes rest place stands =
    let front = take (length bytes - length rest) bytes in
    let line : place.line ≡ 1 + count_by is_line_feed front = ap (λ (p : Place). p.line) stands.at in
    let column : place.column ≡ 1 + prefix_len (λ b. not (is_line_feed b)) (reverse front) = ap (λ (p : Place). p.column) stands.at in
    let few = length-take (length bytes - length rest) bytes in
    (omega (arith, line, count_by-le-length is_line_feed front, few, stands.within), omega (arith, column, prefix_len-le-length (λ b. not (is_line_feed b)) (reverse front), length-reverse front, few, stands.within))

-- the same, as `split_at` cuts the rest
pub moves_on : (bytes rest passed after : List ℕ) (place next : Place) (n : ℕ) → StandsAt bytes rest place → n ≤ length rest → passed ≡ take n rest → after ≡ drop n rest
    → ((front : List ℕ) → place ≡ place_after front → next ≡ place_after (front ++ passed)) → StandsAt bytes after next
moves_on bytes rest passed after place next n stands le passed-is after-is moved =
    rw after-is (moves bytes rest place next n stands le (λ front at. moved front at ∙ ap (λ (p : List ℕ). place_after (front ++ p)) passed-is))

-- ---- the order of places

not_earlier_itself : (p : Place) → IsEarlier p p → ⊥
not_earlier_itself p (inl less) = omega arith
not_earlier_itself p (inr same) = omega (arith, same.1)

pub not_earlier_at_one : (p q : Place) → p ≡ q → IsEarlier p q → ⊥
not_earlier_at_one p q same earlier = not_earlier_itself q (subst (λ r. IsEarlier r q) same earlier)

pub not_both_earlier : (p q : Place) → IsEarlier p q → IsEarlier q p → ⊥
not_both_earlier p q (inl a) (inl b) = omega arith
not_both_earlier p q (inl a) (inr b) = omega (arith, b.0)
not_both_earlier p q (inr a) (inl b) = omega (arith, a.0)
not_both_earlier p q (inr a) (inr b) = omega (arith, a.1, b.1)

earlier_along : (p q r : Place) → IsEarlier p q → IsEarlier q r → IsEarlier p r
earlier_along p q r (inl a) (inl b) = inl (omega arith)
earlier_along p q r (inl a) (inr b) = inl (omega (arith, b.0))
earlier_along p q r (inr a) (inl b) = inl (omega (arith, a.0))
earlier_along p q r (inr a) (inr b) = inr (a.0 ∙ b.0, omega (arith, a.1, b.1))

line_behind : (front : List ℕ) (b : ℕ) → count_by is_line_feed (front ++ b ∷ []) ≡ count_by is_line_feed front + cond (is_line_feed b) 1 0
line_behind front b = sum_by-append (λ x. cond (is_line_feed x) 1 0) front (b ∷ []) ∙ omega arith

earlier_by_one : (front : List ℕ) (b : ℕ) → IsEarlier (place_after front) (place_after (front ++ b ∷ []))
earlier_by_one front b =
    ⊎_elim
    (λ feed. inl (omega (arith, line_behind front b ∙ ap (λ (n : ℕ). count_by is_line_feed front + n) (cond-true (is_line_feed b) 1 0 feed))))
    (λ other. inr (ap (λ (n : ℕ). 1 + n) (sym (line_behind front b ∙ ap (λ (n : ℕ). count_by is_line_feed front + n) (cond-false (is_line_feed b) 1 0 other) ∙ omega arith)), column other))
    (cases_Bool (is_line_feed b))
  where
    column : is_line_feed b ≡ false → 1 + prefix_len (λ x. not (is_line_feed x)) (reverse front) < 1 + prefix_len (λ x. not (is_line_feed x)) (reverse (front ++ b ∷ []))
    column other = rw (reverse-append front (b ∷ [])) (rw (cond-true (not (is_line_feed b)) (1 + prefix_len (λ x. not (is_line_feed x)) (reverse front)) 0 (not_from_false _ other)) (omega arith))

earlier_behind : (front more : List ℕ) → 0 < length more → IsEarlier (place_after front) (place_after (front ++ more))
earlier_behind front [] lt = absurd (omega arith)
earlier_behind front (b ∷ []) lt = earlier_by_one front b
earlier_behind front (b ∷ c ∷ more) lt =
    earlier_along _ _ _ (earlier_by_one front b)
    (subst (λ (bytes : List ℕ). IsEarlier (place_after (front ++ b ∷ [])) (place_after bytes)) (append_assoc front (b ∷ []) (c ∷ more)) (earlier_behind (front ++ b ∷ []) (c ∷ more) (omega arith)))

-- a rest begins earlier than what is left of it
pub earlier_before : (bytes rest : List ℕ) (place : Place) (n : ℕ) → StandsAt bytes rest place → 0 < n → n ≤ length rest → IsEarlier (place_of bytes rest) (place_of bytes (drop n rest))
earlier_before bytes rest place n stands lt le =
    subst (λ (front : List ℕ). IsEarlier (place_of bytes rest) (place_after front)) (sym (front_of bytes rest place n stands le).1)
    (earlier_behind (take (length bytes - length rest) bytes) (take n rest) (omega (arith, length-take n rest)))
