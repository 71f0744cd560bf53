-- The choices that come into question at a goal, in order, by the head of its tasks. They have no
-- certificates yet.
use Rattle.std.specs.Prelude.{ℕ, suc, ◌+◌, ◌-◌, ◌&&◌, Bool, nat_lt, nat_le, if◌then◌else◌, List, [], ◌∷◌, ◌++◌, map, flat_map, length, reverse, slice_get, Option, Some, None}
use Rattle.std.specs.List.{range_with_len}
use Rattle.cap_galg.specs.Algebras.{atoms}
use Rattle.cap_rules.specs.cap_prog.Program.{PlainAct, set, alloc, call, fork, branch, loop, check, give_back, PlainRegionType, PlainProgram}
use Rattle.cap_rules.specs.cap_goal_spec.States.{PlainFact, PlainState}
use Rattle.cap_rules.specs.cap_goal_spec.Choices.{PlainChoice, by_clash, by_set, by_alloc, by_assert, by_if, by_loop, by_call, by_fork, by_return, by_enter, by_pick, by_region, by_guard, by_convert, by_create}
use Rattle.cap_rules.specs.Taking.{Side, Sides, sum_count, sum_in}

-- the numbers below n
abbrev pub numbers_below : ℕ → List ℕ
numbers_below n = range_with_len 0 n

-- ---- at a statement

-- the one rule of a statement that isn't a heap statement
abbrev pub own_rule : PlainAct → List PlainChoice
own_rule (set x t) = by_set ∷ []
own_rule (alloc x n) = by_alloc ∷ []
own_rule (call x f args) = by_call ∷ []
own_rule (fork f args) = by_fork ∷ []
own_rule (branch c a b) = by_if ∷ []
own_rule (loop c i a) = by_loop ∷ []
own_rule (check c) = by_assert [] ∷ []
own_rule (give_back t) = by_return ∷ []
own_rule _ = []

-- pairs of cells: the first with each later one, then the second, and so on
abbrev pub clashes_with : ℕ → ℕ → List PlainChoice
clashes_with n i = map (λ d. by_clash i (suc i + d) []) (numbers_below (n - suc i))

abbrev pub clashes : PlainState → List PlainChoice
clashes s = flat_map (clashes_with (length s.cells)) (numbers_below (length s.cells))

abbrev pub openings : PlainState → List PlainChoice
openings s = map (λ i. by_enter i []) (numbers_below (length s.facts))

-- ---- at an item that is to be given up

abbrev pub known_regions : PlainState → List PlainChoice
known_regions s = map (λ j. by_region j []) (numbers_below (length s.facts))

abbrev pub new_regions : Option PlainRegionType → List PlainChoice
new_regions None = []
new_regions (Some k) = map by_create (numbers_below (length k.cases))

-- all of each piece, or else a part; and then no tokens
abbrev pub cuts : PlainState → List PlainChoice
cuts s =
    flat_map (λ j. by_guard j 0 [] ∷ by_guard j 1 [] ∷ []) (numbers_below (length s.guards))
    ++ by_guard 0 2 [] ∷ []

abbrev pub has_atom : Side → ℕ → Bool
has_atom x i = nat_le x.atom i && nat_lt i (x.atom + atoms x.algebra)

-- from the other side of a sum that has the atom on one side
abbrev pub conversion : ℕ → ℕ → Option Sides → List PlainChoice
conversion i n None = []
conversion i n (Some x) =
    if has_atom x.left i
    then by_convert n 1 [] ∷ []
    else (if has_atom x.right i then by_convert n 0 [] ∷ [] else [])

abbrev pub conversions : Option PlainRegionType → ℕ → List PlainChoice
conversions None i = []
conversions (Some k) i =
    flat_map (λ n. conversion i n (sum_in k.algebra 0 n)) (numbers_below (sum_count k.algebra))

-- ---- at a region that is to be closed

abbrev pub moves_of : ℕ → PlainRegionType → ℕ → List PlainChoice
moves_of o k c = map (λ m. by_pick o c m) (numbers_below (suc (length k.actions)))

abbrev pub closings_of : ℕ → Option PlainRegionType → List PlainChoice
closings_of o None = []
closings_of o (Some k) = flat_map (moves_of o k) (numbers_below (length k.cases))

abbrev pub type_of_opened : PlainProgram → Option PlainFact → Option PlainRegionType
type_of_opened p None = None
type_of_opened p (Some f) = slice_get p.regions f.kind

-- opened regions from the last to the first, for each its cases, and for each of these the moves
abbrev pub closings : PlainProgram → PlainState → List PlainChoice
closings p s =
    flat_map (λ o. closings_of o (type_of_opened p (slice_get s.opened o)))
    (reverse (numbers_below (length s.opened)))
