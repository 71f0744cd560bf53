-- Sets of indices that are finite or lack finitely many. A set is told by its bounds, in ascending
-- order: from the first bound on an index is in the set, from the second on it isn't, from the third
-- on it is again, and so on. No bounds are the empty set.
use Rattle.std.specs.Prelude.{◌≡◌, ℕ, ◌+◌, ◌≤◌, List, [], ◌∷◌, ◌++◌, Bool, true, false, not, ◌&&◌}
use Rattle.std.specs.Prelude.{◌||◌, ◌==◌, nat_lt, nat_le, if◌then◌else◌, Option, Some, None}
use Rattle.std.specs.List.{list_any}

-- the bounds ascend, and the first is at least this
abbrev pub AscendFrom : ℕ → List ℕ → Type 0
AscendFrom low [] = Unit {0}
AscendFrom low (x ∷ xs) = (low ≤ x) × AscendFrom (x + 1) xs

-- these are the bounds of a set
abbrev pub AreBounds : List ℕ → Type 0
AreBounds xs = AscendFrom 0 xs

-- just one of two is so
abbrev pub exactly_one : Bool → Bool → Bool
exactly_one true b = not b
exactly_one false b = b

-- an index is in the set where an odd number of bounds are at most the index
abbrev pub has : List ℕ → ℕ → Bool
has [] n = false
has (x ∷ xs) n = exactly_one (nat_le x n) (has xs n)

-- all indices; one index; all from one on; all from one on that are below another
abbrev pub all_indices : List ℕ
all_indices = 0 ∷ []

abbrev pub one_index : ℕ → List ℕ
one_index i = i ∷ ((i + 1) ∷ [])

abbrev pub indices_from : ℕ → List ℕ
indices_from i = i ∷ []

abbrev pub index_range : ℕ → ℕ → List ℕ
index_range i j = if nat_lt i j then i ∷ (j ∷ []) else []

-- whether a set is empty, and whether all indices are in it
abbrev pub is_empty : List ℕ → Bool
is_empty [] = true
is_empty _ = false

abbrev pub is_full : List ℕ → Bool
is_full (x ∷ []) = x == 0
is_full _ = false

-- whether no index is in both sets: then none of their bounds is
abbrev pub are_disjoint : List ℕ → List ℕ → Bool
are_disjoint xs ys = not (list_any (λ n. has xs n && has ys n) (xs ++ ys))

-- whether each index of the first set is in the second: then each of their bounds is that is in
-- the first
abbrev pub is_within : List ℕ → List ℕ → Bool
is_within xs ys = not (list_any (λ n. has xs n && not (has ys n)) (xs ++ ys))

-- a bound among others, in its place; beside an equal one it goes with that, since two sets touch
-- there
unfoldable pub with_bound : ℕ → List ℕ → List ℕ
with_bound x [] = x ∷ []
with_bound x (y ∷ ys) =
    if nat_lt x y then x ∷ (y ∷ ys) else (if nat_lt y x then y ∷ with_bound x ys else ys)

-- the union of two sets that are disjoint: the bounds that just one of them has
unfoldable pub disjoint_union : List ℕ → List ℕ → List ℕ
disjoint_union [] ys = ys
disjoint_union (x ∷ xs) ys = with_bound x (disjoint_union xs ys)

-- what two sets compose to: their union, where no index is in both, and else nothing
abbrev pub composed : List ℕ → List ℕ → Option (List ℕ)
composed xs ys = if are_disjoint xs ys then Some (disjoint_union xs ys) else None

-- no index is in both parts, and the whole has just the indices of both
abbrev pub ArePartsOf : List ℕ → List ℕ → List ℕ → Type 0
ArePartsOf xs ys zs =
    (n : ℕ) → ((has xs n && has ys n) ≡ false) × (has zs n ≡ (has xs n || has ys n))

-- some set completes the first to the second
abbrev pub IsCompletedTo : List ℕ → List ℕ → Type 0
IsCompletedTo xs ys = (zs : List ℕ) × AreBounds zs × (composed xs zs ≡ Some ys)
