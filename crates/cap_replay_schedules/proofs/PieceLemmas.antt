-- The first piece of a text, found from left to right.
use Rattle.std.proofs.Common.{◌≡◌, ◌∙◌, ap, sym, refl, ℕ, zero, suc, ◌+◌, ◌≤◌, Bool, true, false, nat_eq, List, [], ◌∷◌, ◌++◌, take, drop, length, append_assoc, take_all, arith}
use Rattle.std.proofs.lemmas.Bool.Decides.{nat_tests}
use Rattle.cap_replay_schedules.specs.Pieces.{grow, put, pieces}

-- a text in front of the first of these pieces
abbrev pub join : List ℕ → List (List ℕ) → List (List ℕ)
join xs [] = xs ∷ []
join xs (p ∷ ps) = (xs ++ p) ∷ ps

append_nil : (xs : List ℕ) → xs ++ [] ≡ xs
append_nil [] = refl
append_nil (x ∷ xs) = ap (λ ys. x ∷ ys) (append_nil xs)

-- what was read is in front of the pieces of the rest
abbrev pub IsFirst : ℕ → List ℕ → ℕ → Type 0
IsFirst separator bytes i = pieces separator bytes ≡ join (take i bytes) (pieces separator (drop i bytes))

same : (b s : ℕ) → b ≡ s → nat_eq b s ≡ true
same b s e = grind (arith, nat_tests)

other : (b s : ℕ) → (b ≡ s → ⊥) → nat_eq b s ≡ false
other b s e = grind (arith, nat_tests)

pub first_whole : (separator : ℕ) (bytes : List ℕ) → pieces separator bytes ≡ join [] (pieces separator bytes)
first_whole separator [] = refl
first_whole separator (b ∷ bs) = go (nat_eq b separator) (pieces separator bs)
  where
    go : (t : Bool) (ps : List (List ℕ)) → put t b ps ≡ join [] (put t b ps)
    go true ps = refl
    go false [] = refl
    go false (p ∷ ps) = refl

joined : (xs : List ℕ) (b : ℕ) (ps : List (List ℕ)) → join xs (grow b ps) ≡ join (xs ++ b ∷ []) ps
joined xs b [] = refl
joined xs b (p ∷ ps) = ap (λ x. x ∷ ps) (sym (append_assoc xs (b ∷ []) p))

pub first_all : (separator : ℕ) (bytes : List ℕ) (i : ℕ) → length bytes ≤ i → IsFirst separator bytes i → pieces separator bytes ≡ bytes ∷ []
first_all separator bytes i l h =
    h ∙ (ap (λ x. join (take i bytes) (pieces separator x)) (past bytes i l) ∙ (ap (λ x. x ∷ []) (append_nil (take i bytes)) ∙ ap (λ x. x ∷ []) (take_all i bytes l)))
  where
    past : (xs : List ℕ) (k : ℕ) → length xs ≤ k → drop k xs ≡ []
    past [] zero m = refl
    past [] (suc k) m = refl
    past (x ∷ xs) zero m = absurd (omega arith)
    past (x ∷ xs) (suc k) m = past xs k (omega arith)
