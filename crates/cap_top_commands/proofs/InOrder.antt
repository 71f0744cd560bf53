-- The parts of the terms of a text's program are in order.
use Rattle.std.proofs.Common.{◌≡◌, ℕ, ℤ, negsuc, List, [], ◌∷◌, map, Option, Some, None, sym, subst}
use Rattle.std.specs.Prelude.{slice_get}
use Rattle.std.specs.List.{AllByRecursion}
use Rattle.cap_syntax.specs.declared.place.Place.{Place}
use Rattle.cap_lin.specs.Linear.{Linear}
use Rattle.cap_prog.specs.Program.{Items, none, item, append_items, PlainFunction, PlainProgram}
use Rattle.cap_prog.specs.Program as plain
use Rattle.cap_parse_tree.specs.declared.word.Word.{Word}
use Rattle.cap_parse_tree.specs.declared.term.Sign.{Sign}
use Rattle.cap_parse_tree.specs.declared.term.Sign.TheVariants.{Plus, Minus}
use Rattle.cap_parse_tree.specs.Tree.{FactorTree, literal, whole_share, named, bracketed, ProductTree, product, FactorTrees, no_factor, times, TermTree, term, ProductTrees, no_product, signed, ComparisonTree, GuardTree, ItemTree, holds, fails, fact, guards, cell, compare, choose, ItemTrees, no_item, and_item, AssertionTree, assertion, ClauseTree, CaseTree, RegionTree, FunctionTree, ProgramTree}
use Rattle.cap_resolve_spec.specs.Linear.{product_by_parts, product_of, signed_sum, opened, factor_form, product_form, factors_form, term_form, products_form}
use Rattle.cap_resolve_spec.specs.Names.{NameScope, variable_of}
use Rattle.cap_resolve_spec.specs.Items.{NumberedRegion, numbered_regions, TypedName, type_of}
use Rattle.cap_resolve_spec.specs.Parts.{held_atoms, regions, functions, when_comparisons}
use Rattle.cap_resolve_spec.specs.Program.{comparison_program, atoms_program, item_program, items_program, assertion_program, clause_program, case_program, region_program, function_program, program_of}
use Rattle.cap_resolve_spec.specs.Regions.{case_scope}
use Rattle.cap_resolve_spec.specs.Functions.{requires_types, requires_scope}
use Rattle.cap_top_reading.specs.Refused.{IsTextOf}
use Rattle.cap_rules_ascending.specs.Ascending.{TermAscends, CompAscends, CaseAscends, TypeAscends, ProgramAscends}
use Rattle.cap_rules_ascending.proofs.Lists.{IfSome, all-get}
use Rattle.cap_rules_ascending.proofs.Terms.{variable-ascends, plus-ascends, times-ascends, minus-ascends}
use Rattle.cap_search_starts.specs.Laws.{ItemsAscend}

-- ---- terms

product-by-ascends : (a b : Linear) (ps qs : List (ℕ × ℤ)) → TermAscends a → TermAscends b → TermAscends (product_by_parts a b ps qs)
product-by-ascends a b ps [] h k = times-ascends b.constant a h
product-by-ascends a b [] (q ∷ qs) h k = times-ascends a.constant b k
product-by-ascends a b (p ∷ ps) (q ∷ qs) h k = tt

product-ascends : (a b : Linear) → TermAscends a → TermAscends b → TermAscends (product_of a b)
product-ascends a b h k = product-by-ascends a b a.parts b.parts h k

signed-ascends : (s : Sign) (a b : Linear) → TermAscends a → TermAscends b → TermAscends (signed_sum s a b)
signed-ascends Plus a b h k = plus-ascends a b h k
signed-ascends Minus a b h k = minus-ascends a b h k

opened-ascends : (o : Option Place) (a : Linear) → TermAscends a → TermAscends (opened o a)
opened-ascends None a h = h
opened-ascends (Some p) a h = times-ascends (negsuc 0) a h

mutual
  factor-ascends : (scope : NameScope) (f : FactorTree) → TermAscends (factor_form scope f)
  factor-ascends scope (literal n) = tt
  factor-ascends scope (whole_share p) = tt
  factor-ascends scope (named w) = variable-ascends (variable_of scope w.text)
  factor-ascends scope (bracketed p t q) = form-ascends scope t

  written-ascends : (scope : NameScope) (m : ProductTree) → TermAscends (product_form scope m)
  written-ascends scope (product f fs) = factors-ascend scope (factor_form scope f) fs (factor-ascends scope f)

  factors-ascend : (scope : NameScope) (a : Linear) (fs : FactorTrees) → TermAscends a → TermAscends (factors_form scope a fs)
  factors-ascend scope a no_factor h = h
  factors-ascend scope a (times p f fs) h =
      factors-ascend scope (product_of a (factor_form scope f)) fs
      (product-ascends a (factor_form scope f) h (factor-ascends scope f))

  form-ascends : (scope : NameScope) (t : TermTree) → TermAscends (term_form scope t)
  form-ascends scope (term p m ms) =
      products-ascend scope (opened p (product_form scope m)) ms
      (opened-ascends p (product_form scope m) (written-ascends scope m))

  products-ascend : (scope : NameScope) (a : Linear) (ms : ProductTrees) → TermAscends a → TermAscends (products_form scope a ms)
  products-ascend scope a no_product h = h
  products-ascend scope a (signed s p m ms) h =
      products-ascend scope (signed_sum s a (product_form scope m)) ms
      (signed-ascends s a (product_form scope m) h (written-ascends scope m))

-- ---- region types

each-of : {X Y : Type 0} (P : Y → Type 0) (f : X → Y) (xs : List X) → ((x : X) → P (f x)) → AllByRecursion P (map f xs)
each-of P f [] h = tt
each-of P f (x ∷ xs) h = (h x, each-of P f xs h)

comparison-ascends : (scope : NameScope) (c : ComparisonTree) → CompAscends (comparison_program scope c)
comparison-ascends scope c = record { left = form-ascends scope c.left; right = form-ascends scope c.right }

case-ascends : (rs : List RegionTree) (k : NumberedRegion) (c : CaseTree) → CaseAscends (case_program rs k c)
case-ascends rs k c = record {
  state = form-ascends (case_scope rs k c) c.state;
  when = each-of CompAscends (comparison_program (case_scope rs k c)) (when_comparisons c.when) (comparison-ascends (case_scope rs k c));
}

type-ascends : (rs : List RegionTree) (k : NumberedRegion) → TypeAscends (region_program rs k)
type-ascends rs k = each-of CaseAscends (case_program rs k) k.region.cases.parts (case-ascends rs k)

tree-ascends : (t : ProgramTree) → ProgramAscends (program_of t)
tree-ascends t = each-of TypeAscends (region_program (regions t)) (numbered_regions (regions t)) (type-ascends (regions t))

pub text-ascends : (bytes : List ℕ) (p : PlainProgram) → IsTextOf bytes p → ProgramAscends p
text-ascends bytes p t = subst ProgramAscends (sym t.stands.same) (tree-ascends t.tree)

-- ---- preconditions

append-ascends : (a b : Items) → ItemsAscend a → ItemsAscend b → ItemsAscend (append_items a b)
append-ascends none b h k = k
append-ascends (item (plain.compare c) a) b h k = (h.0, append-ascends a b h.1 k)
append-ascends (item (plain.cell place x s) a) b h k = (h.0, append-ascends a b h.1 k)
append-ascends (item (plain.choose c x y) a) b h k = append-ascends a b h k
append-ascends (item (plain.fact place n t args s) a) b h k = append-ascends a b h k
append-ascends (item (plain.atom place n t i asked) a) b h k = append-ascends a b h k

atoms-ascend : (k : Option NumberedRegion) (scope : NameScope) (r : Word) (gs : List GuardTree) → ItemsAscend (atoms_program k scope r gs)
atoms-ascend None scope r gs = tt
atoms-ascend (Some k) scope r [] = tt
atoms-ascend (Some k) scope r (g ∷ gs) = atoms-ascend (Some k) scope r gs

module _ (rs : List RegionTree) (types : List TypedName) (scope : NameScope) where
  item-ascends : (i : ItemTree) → ItemsAscend (item_program rs types scope i)
  item-ascends (holds p) = tt
  item-ascends (fails p) = (record { left = tt; right = tt }, tt)
  item-ascends (fact k p r args q s e) = tt
  item-ascends (guards r p g) = atoms-ascend (type_of types r.text) scope r (held_atoms g)
  item-ascends (cell t p s) = (form-ascends scope t, tt)
  item-ascends (compare c) = (comparison-ascends scope c, tt)
  item-ascends (choose c p a q b) = tt

  items-ascend : (is : ItemTrees) → ItemsAscend (items_program rs types scope is)
  items-ascend no_item = tt
  items-ascend (and_item p i more) =
      append-ascends (item_program rs types scope i) (items_program rs types scope more) (item-ascends i) (items-ascend more)

  assertion-ascends : (a : AssertionTree) → ItemsAscend (assertion_program rs types scope a)
  assertion-ascends (assertion i more) =
      append-ascends (item_program rs types scope i) (items_program rs types scope more) (item-ascends i) (items-ascend more)

  clause-ascends : (c : Option ClauseTree) → ItemsAscend (clause_program rs types scope c)
  clause-ascends None = tt
  clause-ascends (Some c) = assertion-ascends c.assertion

abbrev RequiresAscend : PlainFunction → Type 0
RequiresAscend f = ItemsAscend f.requires

function-ascends : (rs : List RegionTree) (fs : List FunctionTree) (f : FunctionTree) → RequiresAscend (function_program rs fs f)
function-ascends rs fs f = clause-ascends rs (requires_types rs f) (requires_scope rs f) f.precondition

functions-ascend : (t : ProgramTree) → AllByRecursion RequiresAscend (program_of t).functions
functions-ascend t = each-of RequiresAscend (function_program (regions t) (functions t)) (functions t) (function-ascends (regions t) (functions t))

pub requires-ascend : (bytes : List ℕ) (p : PlainProgram) → IsTextOf bytes p → (n : ℕ) (f : PlainFunction) → slice_get p.functions n ≡ Some f → ItemsAscend f.requires
requires-ascend bytes p t n f e =
    let all = subst (λ q. AllByRecursion RequiresAscend q.functions) (sym t.stands.same) (functions-ascend t.tree) in
    subst (IfSome RequiresAscend) e (all-get RequiresAscend p.functions n all)
