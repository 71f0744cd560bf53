-- What is wrong in a tree: a place and a cause. Of several findings the first is refused.
use Rattle.std.specs.Prelude.{ℕ, ◌+◌, Bool, ◌==◌, ◌&&◌, ◌||◌, nat_lt, if◌then◌else◌, codes, List, [], ◌∷◌, ◌++◌, fold, Option, Some, None}
use Rattle.cap_syntax.specs.declared.place.Place.{Place}
use Rattle.cap_parse_tree.specs.declared.word.Word.{Word}

pub data Limit : Type 0 where
  function_count region_count parameter_count guard_count variable_count cell_count width : Limit

-- a name that isn't known; a name that stands twice or where it may not; a wrong number of
-- arguments; a wrong sort; a product of two names; no function `main`; a `main` that asks for more
-- than cells; a region that states itself; a limit that is passed
pub data Cause : Type 0 where
  unknown : List ℕ → Cause
  twice : List ℕ → Cause
  wrong_arity wrong_sort nonlinear no_main main_precondition self_fact : Cause
  limit : Limit → Cause

pub record Finding : Type 0 where
  pub place : Place
  pub cause : Cause

-- limits are listed in this order
abbrev pub limit_number : Limit → ℕ
limit_number function_count = 0
limit_number region_count = 1
limit_number parameter_count = 2
limit_number guard_count = 3
limit_number variable_count = 4
limit_number cell_count = 5
limit_number width = 6

abbrev pub cause_number : Cause → ℕ
cause_number (unknown x) = 1
cause_number (twice x) = 2
cause_number wrong_arity = 3
cause_number wrong_sort = 4
cause_number nonlinear = 5
cause_number no_main = 6
cause_number main_precondition = 7
cause_number self_fact = 8
cause_number (limit l) = 9 + limit_number l

abbrev pub limit_name : Limit → List ℕ
limit_name function_count = codes "functions"
limit_name region_count = codes "regions"
limit_name parameter_count = codes "parameters"
limit_name guard_count = codes "guards"
limit_name variable_count = codes "variables"
limit_name cell_count = codes "alloc"
limit_name width = codes "width"

-- a cause as it is printed
abbrev pub cause_text : Cause → List ℕ
cause_text (unknown x) = codes "unknown name " ++ x
cause_text (twice x) = codes "name " ++ (x ++ codes " twice")
cause_text wrong_arity = codes "wrong number of arguments"
cause_text wrong_sort = codes "wrong sort"
cause_text nonlinear = codes "product of two names"
cause_text no_main = codes "no main"
cause_text main_precondition = codes "main asks for more than cells"
cause_text self_fact = codes "region states itself"
cause_text (limit l) = codes "limit " ++ limit_name l

-- one place comes before another
abbrev pub is_earlier : Place → Place → Bool
is_earlier p q = nat_lt p.line q.line || (p.line == q.line && nat_lt p.column q.column)

abbrev pub is_same_place : Place → Place → Bool
is_same_place p q = p.line == q.line && p.column == q.column

-- an earlier place, or the same place and a smaller number
abbrev pub is_before : Finding → Finding → Bool
is_before f g =
    is_earlier f.place g.place
    || (is_same_place f.place g.place && nat_lt (cause_number f.cause) (cause_number g.cause))

-- the first finding up to now, once this one is seen as well
abbrev pub note : Option Finding → Finding → Option Finding
note None f = Some f
note (Some g) f = Some (if is_before f g then f else g)

abbrev pub first_finding : List Finding → Option Finding
first_finding fs = fold note None fs

-- a finding where the condition holds
abbrev pub found_if : Bool → Place → Cause → List Finding
found_if b p c = if b then record { place = p; cause = c } ∷ [] else []

abbrev pub unknown_word : Word → Finding
unknown_word w = record { place = w.place; cause = unknown w.text }

abbrev pub twice_word : Word → Finding
twice_word w = record { place = w.place; cause = twice w.text }
