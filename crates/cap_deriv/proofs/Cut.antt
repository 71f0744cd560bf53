-- A line and what follows it.
use Rattle.std.proofs.Common.{◌≡◌, ℕ, ◌==◌, cond, Bool, true, false, List, [], ◌∷◌, ◌++◌, length, take, drop, get_or, ◌+◌, ◌-◌, ◌≤◌, ◌<◌, suc, refl, ap, ◌∙◌, arith, append-nil, length-drop, drop-cons}
use Rattle.std.proofs.lemmas.List.{take_all, drop_all}
use Rattle.cap_deriv.specs.Told.{ended_lines, in_first_line}

-- the bytes before the first LF, and those after it
abbrev pub front : List ℕ → List ℕ
front [] = []
front (x ∷ xs) = cond (x == 10) [] (x ∷ front xs)

abbrev pub back : List ℕ → List ℕ
back [] = []
back (x ∷ xs) = cond (x == 10) xs (back xs)

cut_at : (b : Bool) (x : ℕ) (xs : List ℕ) → (cond b [] (ended_lines xs) ≡ cond b [] (front xs ∷ ended_lines (back xs))) → cond b ([] ∷ ended_lines xs) (in_first_line x (ended_lines xs)) ≡ cond b [] (x ∷ front xs) ∷ ended_lines (cond b xs (back xs))
cut_at true x xs e = refl
cut_at false x xs e = ap (in_first_line x) e

cut_none : (b : Bool) (x : ℕ) → cond b ([] ∷ []) ((x ∷ []) ∷ []) ≡ cond b [] (x ∷ []) ∷ ended_lines (cond b [] [])
cut_none true x = refl
cut_none false x = refl

pub cut_first : (x : ℕ) (xs : List ℕ) → ended_lines (x ∷ xs) ≡ front (x ∷ xs) ∷ ended_lines (back (x ∷ xs))
cut_first x [] = cut_none (x == 10) x
cut_first x (y ∷ ys) = cut_at (x == 10) x (y ∷ ys) (ap (cond (x == 10) []) (cut_first y ys))

pub cut : (xs : List ℕ) → 0 < length xs → ended_lines xs ≡ front xs ∷ ended_lines (back xs)
cut [] h = absurd (omega arith)
cut (x ∷ xs) h = cut_first x xs

here : (xs : List ℕ) (i : ℕ) → i < length xs → get_or xs i 0 ≡ 10 → (front (drop i xs) ≡ []) × (back (drop i xs) ≡ drop (i + 1) xs)
here xs i h e =
    let parts : drop i xs ≡ 10 ∷ drop (suc i) xs = drop-cons xs i 0 h ∙ ap (λ c. c ∷ drop (suc i) xs) e in
    let next : suc i ≡ i + 1 = omega arith in
    (ap front parts, ap back parts ∙ ap (λ k. drop k xs) next)

pub cut_here : (xs : List ℕ) (i : ℕ) → i < length xs → get_or xs i 0 ≡ 10 → front xs ≡ take i xs ++ front (drop i xs) → back xs ≡ back (drop i xs)
    → ended_lines xs ≡ take i xs ∷ ended_lines (take (length xs - (i + 1)) (drop (i + 1) xs))
cut_here xs i h e f b =
    let p = here xs i h e in
    let before : front xs ≡ take i xs = f ∙ ap (λ s. take i xs ++ s) p.0 ∙ append-nil (take i xs) in
    let after : back xs ≡ drop (i + 1) xs = b ∙ p.1 in
    let all : take (length xs - (i + 1)) (drop (i + 1) xs) ≡ drop (i + 1) xs = take_all (length xs - (i + 1)) (drop (i + 1) xs) (simp length-drop (omega arith)) in
    cut xs (omega arith) ∙ rw (before, after, all) refl

pub cut_end : (xs : List ℕ) (i : ℕ) → 0 < length xs → length xs ≤ i → front xs ≡ take i xs ++ front (drop i xs) → back xs ≡ back (drop i xs) → ended_lines xs ≡ xs ∷ []
cut_end xs i some h f b =
    let none : drop i xs ≡ [] = drop_all i xs h in
    let before : front xs ≡ xs = f ∙ rw (none, take_all i xs h) (append-nil xs) in
    let after : back xs ≡ [] = b ∙ ap back none in
    cut xs some ∙ rw (before, after) refl
