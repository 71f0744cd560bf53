-- The parts of a tree at any depth, in the order of the text.
use Rattle.std.specs.Prelude.{ℕ, Bool, true, false, List, [], ◌∷◌, ◌++◌, filter_map, flat_map, option_to_list, Option, Some, None}
use Rattle.std.specs.List.{list_any, list_all}
use Rattle.std.specs.Str.{bytes_eq}
use Rattle.cap_syntax.specs.declared.place.Place.{Place}
use Rattle.cap_parse_tree.specs.declared.word.Word.{Word}
use Rattle.cap_parse_tree.specs.declared.word.Literal.{Literal}
use Rattle.cap_parse_tree.specs.Tree.{parts_of, listed_parts, FactorTree, literal, whole_share, named, bracketed, ProductTree, product, FactorTrees, no_factor, times, TermTree, term, ProductTrees, no_product, signed, ComparisonTree, SlotTree, GuardTree, alone, amount, count, HeldTree, bare, in_parentheses, ItemTree, holds, fails, fact, guards, cell, compare, choose, ItemTrees, no_item, and_item, AssertionTree, assertion, SideTree, side, ClauseTree, ValueTree, value, load, alloc, cas, faa, result_of, StatementTree, assign, store, call, fork, branch, loop, check, give_back, dispose, ElseTree, no_else, else_block, StatementTrees, no_statement, then_statement, BlockTree, block, DeclaredTree, grouped, DeclaredTrees, no_declared, and_declared, JointTree, joint, JointTrees, no_joint, or_joint, AlgebraTree, algebra, WhenTree, RegionTree, FunctionTree, DeclarationTree, region, function, ProgramTree}

-- ---- terms

-- the numbers, whole shares and names of a term
abbrev mutual
  pub factor_leaves : FactorTree → List FactorTree
  factor_leaves (bracketed p t q) = term_leaves t
  factor_leaves f = f ∷ []

  pub product_leaves : ProductTree → List FactorTree
  product_leaves (product f fs) = factor_leaves f ++ factors_leaves fs

  pub factors_leaves : FactorTrees → List FactorTree
  factors_leaves no_factor = []
  factors_leaves (times p f fs) = factor_leaves f ++ factors_leaves fs

  pub term_leaves : TermTree → List FactorTree
  term_leaves (term p m ms) = product_leaves m ++ products_leaves ms

  pub products_leaves : ProductTrees → List FactorTree
  products_leaves no_product = []
  products_leaves (signed s p m ms) = product_leaves m ++ products_leaves ms

abbrev pub named_word : FactorTree → Option Word
named_word (named w) = Some w
named_word _ = None

-- the names of a term, where they stand
abbrev pub term_words : TermTree → List Word
term_words t = filter_map named_word (term_leaves t)

abbrev pub comparison_words : ComparisonTree → List Word
comparison_words c = term_words c.left ++ term_words c.right

abbrev pub is_name : FactorTree → Bool
is_name (named w) = true
is_name _ = false

abbrev pub is_number : FactorTree → Bool
is_number (literal n) = true
is_number _ = false

abbrev pub holds_name : FactorTree → Bool
holds_name f = list_any is_name (factor_leaves f)

-- a factor that holds neither a name nor `1p`
abbrev pub is_multiplier : FactorTree → Bool
is_multiplier f = list_all is_number (factor_leaves f)

-- the terms in brackets
abbrev mutual
  pub factor_brackets : FactorTree → List TermTree
  factor_brackets (bracketed p t q) = t ∷ term_brackets t
  factor_brackets _ = []

  pub product_brackets : ProductTree → List TermTree
  product_brackets (product f fs) = factor_brackets f ++ factors_brackets fs

  pub factors_brackets : FactorTrees → List TermTree
  factors_brackets no_factor = []
  factors_brackets (times p f fs) = factor_brackets f ++ factors_brackets fs

  pub term_brackets : TermTree → List TermTree
  term_brackets (term p m ms) = product_brackets m ++ products_brackets ms

  pub products_brackets : ProductTrees → List TermTree
  products_brackets no_product = []
  products_brackets (signed s p m ms) = product_brackets m ++ products_brackets ms

-- the products of a term that stand in no brackets of it
abbrev pub more_products : ProductTrees → List ProductTree
more_products no_product = []
more_products (signed s p m ms) = m ∷ more_products ms

abbrev pub products : TermTree → List ProductTree
products (term p m ms) = m ∷ more_products ms

abbrev pub more_factors : FactorTrees → List FactorTree
more_factors no_factor = []
more_factors (times p f fs) = f ∷ more_factors fs

abbrev pub factors : ProductTree → List FactorTree
factors (product f fs) = f ∷ more_factors fs

abbrev pub first_factor : ProductTree → FactorTree
first_factor (product f fs) = f

-- the place of the first token
abbrev pub factor_place : FactorTree → Place
factor_place (literal n) = n.place
factor_place (whole_share p) = p
factor_place (named w) = w.place
factor_place (bracketed p t q) = p

abbrev pub term_place : TermTree → Place
term_place (term None m ms) = factor_place (first_factor m)
term_place (term (Some p) m ms) = p

-- the NAME where the term is one NAME alone
abbrev pub whole_name : TermTree → Option Word
whole_name (term None (product (named w) no_factor) no_product) = Some w
whole_name _ = None

abbrev pub is_word : List ℕ → Option Word → Bool
is_word x None = false
is_word x (Some w) = bytes_eq x w.text

-- ---- guards

abbrev pub held_atoms : HeldTree → List GuardTree
held_atoms (bare g) = parts_of g
held_atoms (in_parentheses p g q) = parts_of g

abbrev pub atom_word : GuardTree → Word
atom_word (alone w) = w
atom_word (amount w p s q) = w
atom_word (count c k w p s q) = w

-- the place of the first token
abbrev pub atom_place : GuardTree → Place
atom_place (alone w) = w.place
atom_place (amount w p s q) = w.place
atom_place (count c k w p s q) = k

-- the amount or count
abbrev pub atom_slots : GuardTree → List SlotTree
atom_slots (alone w) = []
atom_slots (amount w p s q) = s ∷ []
atom_slots (count c k w p s q) = s ∷ []

-- the guards that an algebra declares
abbrev mutual
  pub declared_guards : DeclaredTree → List DeclaredTree
  declared_guards (grouped p a q) = algebra_guards a
  declared_guards d = d ∷ []

  pub declareds_guards : DeclaredTrees → List DeclaredTree
  declareds_guards no_declared = []
  declareds_guards (and_declared p d ds) = declared_guards d ++ declareds_guards ds

  pub joint_guards : JointTree → List DeclaredTree
  joint_guards (joint d ds) = declared_guards d ++ declareds_guards ds

  pub joints_guards : JointTrees → List DeclaredTree
  joints_guards no_joint = []
  joints_guards (or_joint p j js) = joint_guards j ++ joints_guards js

  pub algebra_guards : AlgebraTree → List DeclaredTree
  algebra_guards (algebra j js) = joint_guards j ++ joints_guards js

-- ---- assertions

-- an item, and whether it stands in a side of a conditional
abbrev pub PlacedItem : Type 0
PlacedItem = Bool × ItemTree

-- a conditional comes before the items of its sides
abbrev mutual
  pub item_parts : Bool → ItemTree → List PlacedItem
  item_parts inside (choose c p a q b) =
      (inside, choose c p a q b) ∷ (side_parts a ++ side_parts b)
  item_parts inside i = (inside, i) ∷ []

  pub items_parts : Bool → ItemTrees → List PlacedItem
  items_parts inside no_item = []
  items_parts inside (and_item p i more) = item_parts inside i ++ items_parts inside more

  pub assertion_parts : Bool → AssertionTree → List PlacedItem
  assertion_parts inside (assertion i more) = item_parts inside i ++ items_parts inside more

  pub side_parts : SideTree → List PlacedItem
  side_parts (side p a q) = assertion_parts true a

abbrev pub placed_items : AssertionTree → List PlacedItem
placed_items a = assertion_parts false a

-- an absent clause has no items
abbrev pub clause_parts : Option ClauseTree → List PlacedItem
clause_parts None = []
clause_parts (Some c) = placed_items c.assertion

-- the items that stand in no side
abbrev pub more_items : ItemTrees → List ItemTree
more_items no_item = []
more_items (and_item p i more) = i ∷ more_items more

abbrev pub outer_items : AssertionTree → List ItemTree
outer_items (assertion i more) = i ∷ more_items more

abbrev pub clause_items : Option ClauseTree → List ItemTree
clause_items None = []
clause_items (Some c) = outer_items c.assertion

-- the place of the first token
abbrev pub item_place : ItemTree → Place
item_place (holds p) = p
item_place (fails p) = p
item_place (fact k p r args q s e) = k.place
item_place (guards r p g) = r.place
item_place (cell t p s) = term_place t
item_place (compare c) = term_place c.left
item_place (choose c p a q b) = term_place c.left

abbrev pub when_comparisons : Option WhenTree → List ComparisonTree
when_comparisons None = []
when_comparisons (Some w) = parts_of w.comparisons

-- ---- statements

-- an `if` or `while` comes before the statements of its blocks
abbrev mutual
  pub statement_parts : StatementTree → List StatementTree
  statement_parts (branch p q c r b e) = branch p q c r b e ∷ (block_parts b ++ else_parts e)
  statement_parts (loop p q c r i b) = loop p q c r i b ∷ block_parts b
  statement_parts s = s ∷ []

  pub else_parts : ElseTree → List StatementTree
  else_parts no_else = []
  else_parts (else_block p b) = block_parts b

  pub statements_parts : StatementTrees → List StatementTree
  statements_parts no_statement = []
  statements_parts (then_statement s ss) = statement_parts s ++ statements_parts ss

  pub block_parts : BlockTree → List StatementTree
  block_parts (block p ss q) = statements_parts ss

abbrev pub value_terms : ValueTree → List TermTree
value_terms (value t) = t ∷ []
value_terms (load p t q) = t ∷ []
value_terms (alloc p q n r) = []
value_terms (cas p q a c e d f r) = a ∷ e ∷ f ∷ []
value_terms (faa p q a c e r) = a ∷ e ∷ []
value_terms (result_of w l) = listed_parts l

-- a statement's own terms, without its comparison, its invariant and its blocks
abbrev pub statement_terms : StatementTree → List TermTree
statement_terms (assign w p v e) = value_terms v
statement_terms (store p a q r t e) = a ∷ t ∷ []
statement_terms (call w l e) = listed_parts l
statement_terms (fork p w l e) = listed_parts l
statement_terms (give_back p t e) = option_to_list t
statement_terms (dispose p q t r e) = t ∷ []
statement_terms _ = []

abbrev pub statement_comparison : StatementTree → Option ComparisonTree
statement_comparison (branch p q c r b e) = Some c
statement_comparison (loop p q c r i b) = Some c
statement_comparison (check p c e) = Some c
statement_comparison _ = None

abbrev pub destination : StatementTree → Option Word
destination (assign w p v e) = Some w
destination _ = None

abbrev pub invariant : StatementTree → Option ClauseTree
invariant (loop p q c r i b) = i
invariant _ = None

-- the function that is called or forked, and its arguments
abbrev pub callee : StatementTree → Option (Word × List TermTree)
callee (assign w p (result_of f l) e) = Some (f, listed_parts l)
callee (call f l e) = Some (f, listed_parts l)
callee (fork p f l e) = Some (f, listed_parts l)
callee _ = None

-- the number of cells of an allocation
abbrev pub cells : StatementTree → Option Literal
cells (assign w p (alloc q r n s) e) = Some n
cells _ = None

-- the names in the terms and the comparison of a statement
abbrev pub statement_names : StatementTree → List Word
statement_names s =
    flat_map term_words (statement_terms s)
    ++ flat_map comparison_words (option_to_list (statement_comparison s))

-- ---- declarations

abbrev pub region_in : DeclarationTree → Option RegionTree
region_in (region r) = Some r
region_in (function f) = None

abbrev pub function_in : DeclarationTree → Option FunctionTree
function_in (region r) = None
function_in (function f) = Some f

abbrev pub regions : ProgramTree → List RegionTree
regions t = filter_map region_in t.declarations

abbrev pub functions : ProgramTree → List FunctionTree
functions t = filter_map function_in t.declarations

abbrev pub region_parameters : RegionTree → List Word
region_parameters r = parts_of r.parameters

abbrev pub parameters : FunctionTree → List Word
parameters f = listed_parts f.parameters
