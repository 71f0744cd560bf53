-- Linear terms: a constant, and pairs of a variable and its coefficient in ascending order of
-- variables.
use Rattle.std.specs.Prelude.{◌≢◌, ℕ, zero, suc, ◌+◌, ◌≤◌, ◌<◌, ◌≡◌, List, [], ◌∷◌, map, filter}
use Rattle.std.specs.Prelude.{length, get_or, not, ◌&&◌, Option, Some, None, ℤ, pos, negsuc, ◌+ℤ◌}
use Rattle.std.specs.Prelude.{◌*ℤ◌, Bool, true, false, ◌==◌, nat_lt, if◌then◌else◌}
use Rattle.std.specs.List.{All}
use Rattle.cap_lin.specs.declared.term.Pair.{Pair}

pub record Linear : Type 0 where
  pub constant : ℤ
  pub parts : List (ℕ × ℤ)

-- the variables ascend from `low` on, and no coefficient is 0
abbrev pub AscendFrom : ℕ → List (ℕ × ℤ) → Type 0
AscendFrom low [] = Unit {0}
AscendFrom low (p ∷ ps) = (low ≤ p.0) × (p.1 ≢ pos 0) × AscendFrom (p.0 + 1) ps

abbrev pub is_zero : ℤ → Bool
is_zero (pos zero) = true
is_zero (pos (suc n)) = false
is_zero (negsuc n) = false

-- whether two terms are the same
abbrev pub same_number : ℤ → ℤ → Bool
same_number (pos m) (pos n) = m == n
same_number (negsuc m) (negsuc n) = m == n
same_number _ _ = false

abbrev pub same_parts : List (ℕ × ℤ) → List (ℕ × ℤ) → Bool
same_parts [] [] = true
same_parts (p ∷ ps) (q ∷ qs) = (p.0 == q.0) && same_number p.1 q.1 && same_parts ps qs
same_parts _ _ = false

unfoldable pub same_term : Linear → Linear → Bool
same_term s t = same_number s.constant t.constant && same_parts s.parts t.parts

-- a part in front of others, left out where its coefficient is 0
abbrev pub put_part : ℕ → ℤ → List (ℕ × ℤ) → List (ℕ × ℤ)
put_part x k ps = if is_zero k then ps else ((x, k) ∷ ps)

-- the coefficient of a variable
unfoldable pub coefficient : ℕ → List (ℕ × ℤ) → ℤ
coefficient x [] = pos 0
coefficient x (p ∷ ps) = if p.0 == x then p.1 +ℤ coefficient x ps else coefficient x ps

abbrev pub number : ℤ → Linear
number k = record { constant = k; parts = [] }

abbrev pub variable : ℕ → Linear
variable x = record { constant = pos 0; parts = (x, pos 1) ∷ [] }

-- the parts of two terms side by side, in ascending order, with 0 where a term lacks the variable
abbrev pub only_left : ℕ × ℤ → Pair
only_left p = record { variable = p.0; left = p.1; right = pos 0 }

abbrev pub only_right : ℕ × ℤ → Pair
only_right p = record { variable = p.0; left = pos 0; right = p.1 }

abbrev pub merged_from : ℕ × ℤ → (List (ℕ × ℤ) → List Pair) → List (ℕ × ℤ) → List Pair
merged_from p rest [] = only_left p ∷ rest []
merged_from p rest (q ∷ qs) =
    if nat_lt p.0 q.0
    then only_left p ∷ rest (q ∷ qs)
    else (if nat_lt q.0 p.0 then only_right q ∷ merged_from p rest qs
    else record { variable = p.0; left = p.1; right = q.1 } ∷ rest qs)

unfoldable pub merged : List (ℕ × ℤ) → List (ℕ × ℤ) → List Pair
merged [] qs = map only_right qs
merged (p ∷ ps) qs = merged_from p (merged ps) qs

-- the parts without the first, where it is of this variable
abbrev pub parts_behind : ℕ → List (ℕ × ℤ) → List (ℕ × ℤ)
parts_behind x [] = []
parts_behind x (p ∷ ps) = if p.0 == x then ps else p ∷ ps

unfoldable pub sums : List Pair → List (ℕ × ℤ)
sums [] = []
sums (j ∷ js) = put_part j.variable (j.left +ℤ j.right) (sums js)

unfoldable pub plus : Linear → Linear → Linear
plus s t = record { constant = s.constant +ℤ t.constant; parts = sums (merged s.parts t.parts) }

unfoldable pub multiples : ℤ → List (ℕ × ℤ) → List (ℕ × ℤ)
multiples k [] = []
multiples k (p ∷ ps) = put_part p.0 (k *ℤ p.1) (multiples k ps)

unfoldable pub times : ℤ → Linear → Linear
times k t = record { constant = k *ℤ t.constant; parts = multiples k t.parts }

-- a multiple of one term plus a multiple of another, part by part
unfoldable pub combined_parts : ℤ → ℤ → List Pair → List (ℕ × ℤ)
combined_parts a b [] = []
combined_parts a b (j ∷ js) =
    put_part j.variable (a *ℤ j.left +ℤ b *ℤ j.right) (combined_parts a b js)

unfoldable pub combination : ℤ → Linear → ℤ → Linear → Linear
combination a s b t =
    record {
      constant = a *ℤ s.constant +ℤ b *ℤ t.constant;
      parts = combined_parts a b (merged s.parts t.parts);
    }

abbrev pub negative : Linear → Linear
negative t = times (negsuc 0) t

abbrev pub minus : Linear → Linear → Linear
minus s t = plus s (negative t)

abbrev pub plus_one : Linear → Linear
plus_one t = record { constant = t.constant +ℤ pos 1; parts = t.parts }

abbrev pub parts_without : ℕ → List (ℕ × ℤ) → List (ℕ × ℤ)
parts_without x ps = filter (λ p. not (p.0 == x)) ps

abbrev pub without : ℕ → Linear → Linear
without x t = record { constant = t.constant; parts = parts_without x t.parts }

-- the term with another term in the place of a variable that has this coefficient
abbrev pub replaced_at : ℤ → ℕ → Linear → Linear → Linear
replaced_at k x by t = if is_zero k then t else plus (without x t) (times k by)

unfoldable pub replaced : ℕ → Linear → Linear → Linear
replaced x by t = replaced_at (coefficient x t.parts) x by t

-- each variable is below a number
abbrev pub IsBelow : ℕ → Linear → Type 0
IsBelow count t = All (λ p. p.0 < count) t.parts

-- the least variable that is at least `low`, where there is one
abbrev pub IsLeastFrom : ℕ → List (ℕ × ℤ) → Option ℕ → Type 0
IsLeastFrom low ps None = (x : ℕ) → low ≤ x → coefficient x ps ≡ pos 0
IsLeastFrom low ps (Some y) =
    (low ≤ y) × (coefficient y ps ≢ pos 0) × ((x : ℕ) → low ≤ x → x < y → coefficient x ps ≡ pos 0)

-- a place that splits the parts: the variables before it are below `low`, and those from it on are
-- not
pub record IsPlaceFrom (low : ℕ) (ps : List (ℕ × ℤ)) (place : ℕ) : Type 0 where
  pub bound : place ≤ length ps
  pub below : (k : ℕ) → k < place → (get_or ps k (0, pos 0)).0 < low
  pub above : (k : ℕ) → place ≤ k → k < length ps → low ≤ (get_or ps k (0, pos 0)).0
