-- Values by name: at which values the states hold that Rests lead to.
use Rattle.std.proofs.Common.{ℕ, suc, ℤ, pos, ◌*ℤ◌, List, ◌∷◌, Option, Some, None}
use Rattle.std.specs.Prelude.{get_or, if◌then◌else◌}
use Rattle.cap_lin.specs.Linear.{Linear}
use Rattle.cap_lin.specs.Values.{Valuation, denominator, value}
use Rattle.cap_goal_spec.specs.States.{PlainFact}
use Rattle.cap_goal_spec.specs.Choices.{PlainChoice, by_settle, node, PlainTrees, no_trees, tree}
use Rattle.cap_account_resources.specs.Parts.{Known, Table}
use Rattle.cap_account_states.proofs.Meets.{with_value}

-- one variable gets a number, as a fraction too
abbrev pub set_to : Valuation → ℕ → ℤ → Valuation
set_to v x z = with_value v x z (z *ℤ denominator v.fraction)

-- ---- the table's states

abbrev pub state_or : Option ℤ → ℤ
state_or (Some b) = b
state_or None = pos 0

abbrev pub known_state : Option Known → ℤ
known_state (Some e) = state_or e.state
known_state None = pos 0

-- the state that the table gives the fact's region
abbrev pub told_state : Table → Valuation → PlainFact → ℤ
told_state T v f = known_state (T (value v.whole f.region))

-- ---- joining

-- the variable that the term is
abbrev pub lone : Linear → ℕ
lone t = (get_or {A = ℕ × ℤ} t.parts 0 (0, pos 0)).0

-- the values once the fact of a region is joined with what is found of that region: if that is loose,
-- its variable is the fact's state
abbrev pub joined_values : Valuation → PlainFact → Option PlainFact → Valuation
joined_values v f None = v
joined_values v f (Some h) =
    if h.loose then set_to v (lone h.state) (value v.whole f.state) else v

-- ---- Rests

-- one fact rests: where it settles, variable n is the state that the table gives its region
abbrev pub rest_value : Table → PlainFact → PlainChoice → ℕ → Valuation → Valuation
rest_value U f (by_settle list cs) n v = set_to v n (told_state U v f)
rest_value U f c n v = v

abbrev pub rest_next : PlainChoice → ℕ → ℕ
rest_next (by_settle list cs) n = suc n
rest_next c n = n

-- all facts rest in turn, each as its tree says; n is the first variable that is new
abbrev pub rest_values : Table → List PlainFact → PlainTrees → ℕ → Valuation → Valuation
rest_values U (f ∷ fs) (tree (node c kids) no_trees) n v =
    rest_values U fs kids (rest_next c n) (rest_value U f c n v)
rest_values U fs trees n v = v

-- so many variables there are then
abbrev pub rest_counts : List PlainFact → PlainTrees → ℕ → ℕ
rest_counts (f ∷ fs) (tree (node c kids) no_trees) n = rest_counts fs kids (rest_next c n)
rest_counts fs trees n = n

-- and these are the trees then
abbrev pub rest_children : List PlainFact → PlainTrees → PlainTrees
rest_children (f ∷ fs) (tree (node c kids) no_trees) = rest_children fs kids
rest_children fs trees = trees
