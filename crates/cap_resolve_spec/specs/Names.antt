-- Which names are known at a place, by the numbers of their variables, and of which sort they are.
use Rattle.std.specs.Prelude.{ℕ, Bool, false, not, if◌then◌else◌, codes, List, [], ◌∷◌, ◌++◌, map, filter, fold, find, drop, take, flat_map, count_by, nat_lt, Option, Some, None}
use Rattle.std.specs.List.{list_any, position_or_len}
use Rattle.std.specs.Str.{bytes_eq}
use Rattle.cap_lin.specs.declared.row.Sort.{Sort}
use Rattle.cap_lin.specs.declared.row.Sort.TheVariants.{Int}
use Rattle.cap_syntax.specs.declared.place.Place.{Place}
use Rattle.cap_prog.specs.Scopes as sorted
use Rattle.cap_prog.specs.WellFormed.{most_params, most_variables}
use Rattle.cap_parse_tree.specs.declared.word.Word.{Word}
use Rattle.cap_resolve_spec.specs.Finding.{Finding, is_earlier, found_if, Limit, limit, parameter_count, variable_count, twice_word}

pub record KnownName : Type 0 where
  pub name : List ℕ
  pub sort : Sort

-- of each variable its name and sort, or none where its name isn't known
abbrev pub NameScope : Type 0
NameScope = List (Option KnownName)

-- the same without the names
abbrev pub known_sort : Option KnownName → Option Sort
known_sort None = None
known_sort (Some k) = Some k.sort

abbrev pub sorts_of : NameScope → sorted.Scope
sorts_of scope = map known_sort scope

abbrev pub has_name : List ℕ → Option KnownName → Bool
has_name x None = false
has_name x (Some k) = bytes_eq x k.name

abbrev pub knows : NameScope → List ℕ → Bool
knows scope x = list_any (has_name x) scope

-- the number of the variable that a name stands for
abbrev pub variable_of : NameScope → List ℕ → ℕ
variable_of scope x = position_or_len (has_name x) scope

abbrev pub found_sort : Option (Option KnownName) → Option Sort
found_sort None = None
found_sort (Some k) = known_sort k

-- a name that isn't known has no sort
abbrev pub sort_of : NameScope → List ℕ → Option Sort
sort_of scope x = found_sort (find (has_name x) scope)

abbrev pub known_as : Sort → Word → Option KnownName
known_as s w = Some (record { name = w.text; sort = s })

abbrev pub whole_numbers : List Word → NameScope
whole_numbers ws = map (known_as Int) ws

abbrev pub hidden : List Word → NameScope
hidden ws = map (λ w. None) ws

-- ---- names in the order of the text

abbrev pub word_text : Word → List ℕ
word_text w = w.text

abbrev pub word_place : Word → Place
word_place w = w.place

abbrev pub is_among : List Word → List ℕ → Bool
is_among ws x = list_any (λ w. bytes_eq x w.text) ws

-- each that has the name of one before it, where these are before the first
abbrev pub repeated_after : List Word → List Word → List Word
repeated_after before [] = []
repeated_after before (w ∷ ws) =
    (if is_among before w.text then w ∷ [] else []) ++ repeated_after (before ++ w ∷ []) ws

abbrev pub repeated : List Word → List Word
repeated ws = repeated_after [] ws

-- the first of each name, in the order in which they come
abbrev pub with_first : {A : Type 0} → (A → List ℕ) → List A → A → List A
with_first name firsts a =
    if list_any (λ b. bytes_eq (name a) (name b)) firsts then firsts else firsts ++ a ∷ []

abbrev pub firsts : {A : Type 0} → (A → List ℕ) → List A → List A
firsts name all = fold (with_first name) [] all

abbrev pub is_ret : List ℕ → Bool
is_ret x = bytes_eq (codes "ret") x

-- ---- limits on the number of names

-- of the places of names that are counted together, more than 64 stand at this one or before it
abbrev pub is_past : List Place → Place → Bool
is_past places p = nat_lt most_variables (count_by (λ q. not (is_earlier p q)) places)

abbrev pub past_variables : List Place → List Finding
past_variables places =
    flat_map (λ p. found_if (is_past places p) p (limit variable_count)) places

-- of names that are declared together, the one that passes the limit
abbrev pub past : ℕ → Limit → List Word → List Finding
past n l ws = map (λ w. record { place = w.place; cause = limit l }) (take 1 (drop n ws))

-- no parameter may be declared twice or be `ret`
abbrev pub parameters_findings : List Word → List Finding
parameters_findings ws =
    map twice_word (repeated ws ++ filter (λ w. is_ret w.text) ws)
    ++ past most_params parameter_count ws
