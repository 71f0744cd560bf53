-- The sorts of terms, and what is wrong in a term: a factor of the wrong sort, a product of two
-- names, a number past 128 bits.
use Rattle.std.specs.Prelude.{Bool, true, false, not, ◌&&◌, ◌||◌, if◌then◌else◌, get_or, List, [], ◌∷◌, ◌++◌, flat_map, filter, Option, Some}
use Rattle.cap_lin.specs.declared.row.Sort.{Sort}
use Rattle.cap_lin.specs.declared.row.Sort.TheVariants.{Int, Perm}
use Rattle.cap_parse_tree.specs.Tree.{FactorTree, literal, whole_share, named, bracketed, ProductTree, product, FactorTrees, no_factor, times, TermTree, term, ComparisonTree, SlotTree, any, is}
use Rattle.cap_resolve_spec.specs.Finding.{Finding, found_if, wrong_sort, nonlinear, limit, width}
use Rattle.cap_resolve_spec.specs.Parts.{term_brackets, products, factors, first_factor, factor_place, term_place, is_multiplier, holds_name}
use Rattle.cap_resolve_spec.specs.Names.{NameScope, sort_of}
use Rattle.cap_resolve_spec.specs.Linear.{is_wide}

-- The sort of a product is that of its first factor that is no multiplier, and Int where there is
-- none. The sort of a term is that of its first product. A name that isn't known has none.
abbrev mutual
  pub factor_sort : NameScope → FactorTree → Option Sort
  factor_sort scope (literal n) = Some Int
  factor_sort scope (whole_share p) = Some Perm
  factor_sort scope (named w) = sort_of scope w.text
  factor_sort scope (bracketed p t q) = term_sort scope t

  pub product_sort : NameScope → ProductTree → Option Sort
  product_sort scope (product f fs) =
      if is_multiplier f then factors_sort scope fs else factor_sort scope f

  pub factors_sort : NameScope → FactorTrees → Option Sort
  factors_sort scope no_factor = Some Int
  factors_sort scope (times p f fs) =
      if is_multiplier f then factors_sort scope fs else factor_sort scope f

  pub term_sort : NameScope → TermTree → Option Sort
  term_sort scope (term p m ms) = product_sort scope m

-- two sorts that are told and differ
abbrev pub clash : Option Sort → Option Sort → Bool
clash (Some Int) (Some Perm) = true
clash (Some Perm) (Some Int) = true
clash _ _ = false

-- the factors that hold a name or `1p`
abbrev pub main_factors : ProductTree → List FactorTree
main_factors m = filter (λ f. not (is_multiplier f)) (factors m)

-- a product of another sort than is wanted, at its first such factor, else at its first factor
abbrev pub wrong_product : NameScope → Option Sort → ProductTree → List Finding
wrong_product scope wanted m =
    found_if (clash wanted (product_sort scope m))
    (factor_place (get_or (main_factors m) 0 (first_factor m))) wrong_sort

-- a second such factor, unless both hold names
abbrev pub wrong_second : List FactorTree → List Finding
wrong_second (f ∷ g ∷ more) =
    found_if (not (holds_name f && holds_name g)) (factor_place g) wrong_sort
wrong_second _ = []

-- each `*` before a factor that holds a name, where one before it holds a name
abbrev pub products_of_names : Bool → FactorTrees → List Finding
products_of_names earlier no_factor = []
products_of_names earlier (times p f fs) =
    found_if (earlier && holds_name f) p nonlinear
    ++ products_of_names (earlier || holds_name f) fs

abbrev pub names_multiplied : ProductTree → List Finding
names_multiplied (product f fs) = products_of_names (holds_name f) fs

abbrev pub product_findings : NameScope → Option Sort → ProductTree → List Finding
product_findings scope wanted m =
    wrong_product scope wanted m ++ (wrong_second (main_factors m) ++ names_multiplied m)

abbrev pub products_findings : NameScope → Option Sort → TermTree → List Finding
products_findings scope wanted t = flat_map (product_findings scope wanted) (products t)

-- a term, and the sort that is wanted where it stands, if one is
pub record WantedTerm : Type 0 where
  pub sort : Option Sort
  pub term : TermTree

abbrev pub wanted_as : Option Sort → TermTree → WantedTerm
wanted_as s t = record { sort = s; term = t }

-- the products in brackets are to be of the sort of the first of them
abbrev pub term_findings : NameScope → WantedTerm → List Finding
term_findings scope w =
    products_findings scope w.sort w.term
    ++ (flat_map (λ t. products_findings scope (term_sort scope t) t) (term_brackets w.term)
    ++ found_if (is_wide scope w.term) (term_place w.term) (limit width))

abbrev pub terms_findings : NameScope → List WantedTerm → List Finding
terms_findings scope ws = flat_map (term_findings scope) ws

-- both sides of a comparison are to be of the sort of its first product
abbrev pub comparison_wanted : NameScope → ComparisonTree → List WantedTerm
comparison_wanted scope c =
    wanted_as (term_sort scope c.left) c.left ∷ wanted_as (term_sort scope c.left) c.right ∷ []

abbrev pub slot_wanted : Option Sort → SlotTree → List WantedTerm
slot_wanted s (any p) = []
slot_wanted s (is t) = wanted_as s t ∷ []
