-- The names that occur in an assertion, the region types that its facts tell, and what is wrong in
-- its items.
use Rattle.std.specs.Prelude.{ℕ, ◌+◌, Bool, true, false, not, ◌&&◌, ◌==◌, List, [], ◌∷◌, ◌++◌, map, length, flat_map, filter, filter_map, find, Option, Some, None, option_map, is_some}
use Rattle.std.specs.List.{enumerate_from, list_any}
use Rattle.std.specs.Str.{bytes_eq}
use Rattle.cap_lin.specs.declared.row.Sort.{Sort}
use Rattle.cap_lin.specs.declared.row.Sort.TheVariants.{Int, Perm}
use Rattle.cap_galg.specs.Algebras.{PlainAlgebra}
use Rattle.cap_galg.specs.Algebras as algebra
use Rattle.cap_parse_tree.specs.declared.assertion.Counted.{Counted}
use Rattle.cap_parse_tree.specs.declared.assertion.Counted.TheVariants.{At, From}
use Rattle.cap_parse_tree.specs.declared.word.Word.{Word}
use Rattle.cap_parse_tree.specs.Tree.{SlotTree, any, is, GuardTree, alone, amount, count, ItemTree, fact, guards, cell, compare, choose, DeclaredTree, unique, divisible, counting, indexed, grouped, RegionTree}
use Rattle.cap_resolve_spec.specs.Finding.{Finding, found_if, unknown_word, twice_word, wrong_arity, wrong_sort, self_fact}
use Rattle.cap_resolve_spec.specs.Parts.{PlacedItem, term_words, comparison_words, whole_name, held_atoms, atom_word, atom_place, atom_slots, algebra_guards, region_parameters}
use Rattle.cap_resolve_spec.specs.Names.{KnownName, NameScope, known_as, sort_of, knows, firsts, repeated, is_ret}
use Rattle.cap_resolve_spec.specs.Terms.{WantedTerm, wanted_as, clash, comparison_wanted, slot_wanted}

-- ---- region types and their guards

-- a region type and its number
pub record NumberedRegion : Type 0 where
  pub number : ℕ
  pub region : RegionTree

abbrev pub numbered : ℕ × RegionTree → NumberedRegion
numbered e = record { number = e.0; region = e.1 }

abbrev pub numbered_regions : List RegionTree → List NumberedRegion
numbered_regions rs = map numbered (enumerate_from 0 rs)

-- of two declarations of one name the first counts
abbrev pub is_region : List ℕ → NumberedRegion → Bool
is_region x k = bytes_eq x k.region.name.text

abbrev pub region_named : List RegionTree → List ℕ → Option NumberedRegion
region_named rs x = find (is_region x) (numbered_regions rs)

-- an algebra in brackets has no name of its own
abbrev pub guard_words : DeclaredTree → List Word
guard_words (unique w) = w ∷ []
guard_words (divisible p w) = w ∷ []
guard_words (counting p w q) = w ∷ []
guard_words (indexed p w q) = w ∷ []
guard_words (grouped p a q) = []

abbrev pub guard_kind : DeclaredTree → PlainAlgebra
guard_kind (divisible p w) = algebra.divisible
guard_kind (counting p w q) = algebra.counting
guard_kind (indexed p w q) = algebra.indexed
guard_kind _ = algebra.unique

abbrev pub is_guard : List ℕ → DeclaredTree → Bool
is_guard x d = list_any (λ w. bytes_eq x w.text) (guard_words d)

abbrev pub region_guards : RegionTree → List DeclaredTree
region_guards r = algebra_guards r.algebra

abbrev pub guard_in : NumberedRegion → List ℕ → Option PlainAlgebra
guard_in k x = option_map guard_kind (find (is_guard x) (region_guards k.region))

abbrev pub declared_kind : Option NumberedRegion → GuardTree → Option PlainAlgebra
declared_kind None g = None
declared_kind (Some k) g = guard_in k (atom_word g).text

-- a name, and the type of the region that it stands for
pub record TypedName : Type 0 where
  pub name : List ℕ
  pub type : NumberedRegion

abbrev pub typed : List ℕ → NumberedRegion → TypedName
typed x k = record { name = x; type = k }

abbrev pub is_typed : List ℕ → TypedName → Bool
is_typed x t = bytes_eq x t.name

abbrev pub name_type : TypedName → NumberedRegion
name_type t = t.type

-- of two types of a name the first counts
abbrev pub type_of : List TypedName → List ℕ → Option NumberedRegion
type_of types x = option_map name_type (find (is_typed x) types)

abbrev pub fact_type : List RegionTree → ItemTree → Option TypedName
fact_type rs (fact k p r args q s e) = option_map (typed r.text) (region_named rs k.text)
fact_type rs _ = None

-- the facts in the sides of conditionals tell types as well
abbrev pub types_told : List RegionTree → List PlacedItem → List TypedName
types_told rs items = filter_map (λ i. fact_type rs i.1) items

-- ---- occurrences of names

-- A name where it occurs. It is bound in a binding position outside the sides of conditionals. The
-- sort of a name is that of its first occurrence: Perm in the amount of a divisible guard, and else
-- Int.
pub record Occurrence : Type 0 where
  pub word : Word
  pub bound : Bool
  pub sort : Sort

abbrev pub occurs : Bool → Sort → Word → Occurrence
occurs b s w = record { word = w; bound = b; sort = s }

abbrev pub name_of : Occurrence → List ℕ
name_of o = o.word.text

abbrev pub is_bound : Occurrence → Bool
is_bound o = o.bound

abbrev pub unbound : List Word → List Occurrence
unbound ws = map (occurs false Int) ws

-- a slot that is one NAME alone is a binding position
abbrev pub slot_occurrences : Bool → Sort → SlotTree → List Occurrence
slot_occurrences inside s (any p) = []
slot_occurrences inside s (is t) =
    map (occurs (is_some (whole_name t) && not inside) s) (term_words t)

abbrev pub kind_sort : PlainAlgebra → Sort
kind_sort algebra.divisible = Perm
kind_sort _ = Int

abbrev pub amount_sort : Option PlainAlgebra → GuardTree → Sort
amount_sort (Some algebra.divisible) (amount w p s q) = Perm
amount_sort _ _ = Int

abbrev pub atom_occurrences : Bool → Option NumberedRegion → GuardTree → List Occurrence
atom_occurrences inside k g =
    flat_map (slot_occurrences inside (amount_sort (declared_kind k g) g)) (atom_slots g)

abbrev pub item_occurrences : List TypedName → PlacedItem → List Occurrence
item_occurrences types (inside, fact k p r args q s e) =
    occurs (not inside) Int r
    ∷ (flat_map (λ a. slot_occurrences inside Int a.1) args ++ slot_occurrences inside Int s)
item_occurrences types (inside, guards r p g) =
    occurs false Int r ∷ flat_map (atom_occurrences inside (type_of types r.text)) (held_atoms g)
item_occurrences types (inside, cell t p s) =
    unbound (term_words t) ++ slot_occurrences inside Int s
item_occurrences types (inside, compare c) = unbound (comparison_words c)
item_occurrences types (inside, choose c p a q b) = unbound (comparison_words c)
item_occurrences types (inside, _) = []

abbrev pub occurrences : List TypedName → List PlacedItem → List Occurrence
occurrences types items = flat_map (item_occurrences types) items

-- the first occurrence of each name that isn't known
abbrev pub new_names : NameScope → List Occurrence → List Occurrence
new_names scope os = firsts name_of (filter (λ o. not (knows scope (name_of o))) os)

abbrev pub occurs_among : List Occurrence → List ℕ → Bool
occurs_among os x = list_any (λ o. bytes_eq x (name_of o)) os

abbrev pub known_name : Occurrence → Option KnownName
known_name o = known_as o.sort o.word

abbrev pub scope_of : List Occurrence → NameScope
scope_of os = map known_name os

abbrev pub occurrence_word : Occurrence → Word
occurrence_word o = o.word

abbrev pub occurrence_words : List Occurrence → List Word
occurrence_words os = map occurrence_word os

-- no new name may be `ret`
abbrev pub ret_findings : List Occurrence → List Finding
ret_findings os = map twice_word (filter (λ w. is_ret w.text) (occurrence_words os))

-- ---- what is wrong in items

-- `at` and `from` are of indices, `src` and `tok` of counts
abbrev pub counts_indices : Counted → Bool
counts_indices At = true
counts_indices From = true
counts_indices _ = false

abbrev pub has_index : GuardTree → Bool
has_index (count c k w p s q) = counts_indices c
has_index _ = false

-- the form of an atom is that of its declaration
abbrev pub has_form : PlainAlgebra → GuardTree → Bool
has_form algebra.unique (alone w) = true
has_form algebra.divisible (amount w p s q) = true
has_form algebra.counting (count c k w p s q) = not (counts_indices c)
has_form algebra.indexed (count c k w p s q) = counts_indices c
has_form _ _ = false

abbrev pub atom_wanted : Option NumberedRegion → GuardTree → List WantedTerm
atom_wanted k g = flat_map (slot_wanted (option_map kind_sort (declared_kind k g))) (atom_slots g)

abbrev pub item_wanted : List TypedName → NameScope → ItemTree → List WantedTerm
item_wanted types scope (fact k p r args q s e) =
    flat_map (λ a. slot_wanted (Some Int) a.1) args ++ slot_wanted (Some Int) s
item_wanted types scope (guards r p g) =
    flat_map (atom_wanted (type_of types r.text)) (held_atoms g)
item_wanted types scope (cell t p s) = wanted_as (Some Int) t ∷ slot_wanted (Some Int) s
item_wanted types scope (compare c) = comparison_wanted scope c
item_wanted types scope (choose c p a q b) = comparison_wanted scope c
item_wanted types scope _ = []

-- a guard that its region type doesn't declare, or declares of another form
abbrev pub guard_findings : Option PlainAlgebra → GuardTree → List Finding
guard_findings None g = unknown_word (atom_word g) ∷ []
guard_findings (Some a) g = found_if (not (has_form a g)) (atom_place g) wrong_sort

abbrev pub atom_findings : NumberedRegion → GuardTree → List Finding
atom_findings k g = guard_findings (guard_in k (atom_word g).text) g

-- a guard's name twice in one list of atoms
abbrev pub atoms_twice : List GuardTree → List Finding
atoms_twice gs = map twice_word (repeated (map atom_word gs))

-- a name before `@` without a type; where it has one, its atoms
abbrev pub held_findings : Option NumberedRegion → Word → List GuardTree → List Finding
held_findings None r gs = found_if true r.place wrong_sort
held_findings (Some k) r gs = flat_map (atom_findings k) gs

-- a fact of a type that isn't declared, or with a wrong number of arguments
abbrev pub arity_findings : Option NumberedRegion → Word → ℕ → List Finding
arity_findings None k args = unknown_word k ∷ []
arity_findings (Some y) k args =
    found_if (not (length (region_parameters y.region) == args + 1)) k.place wrong_arity

-- two region types that are told and differ
abbrev pub is_other_type : Option NumberedRegion → Option NumberedRegion → Bool
is_other_type (Some a) (Some b) = not (a.number == b.number)
is_other_type _ _ = false

-- a region is a whole number
abbrev pub region_findings : NameScope → Word → List Finding
region_findings scope r = found_if (clash (Some Int) (sort_of scope r.text)) r.place wrong_sort

-- `own` is the first parameter of the region type around the item, if there is one
abbrev pub is_own : Option Word → List ℕ → Bool
is_own None x = false
is_own (Some w) x = bytes_eq x w.text

abbrev pub item_findings :
    List RegionTree → Option Word → List TypedName → NameScope → ItemTree → List Finding
item_findings rs own types scope (fact k p r args q s e) =
    arity_findings (region_named rs k.text) k (length args)
    ++ (found_if (is_own own r.text) k.place self_fact
    ++ (region_findings scope r
    ++ found_if (is_other_type (region_named rs k.text) (type_of types r.text)) r.place wrong_sort))
item_findings rs own types scope (guards r p g) =
    region_findings scope r
    ++ (held_findings (type_of types r.text) r (held_atoms g) ++ atoms_twice (held_atoms g))
item_findings rs own types scope _ = []
