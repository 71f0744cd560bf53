-- The program of a tree: each name replaced by what it names, each term by its linear form, and
-- each absent part filled in.
use Rattle.std.specs.Prelude.{ℕ, ◌+◌, pos, codes, List, [], ◌∷◌, ◌++◌, map, length, Option, Some, None}
use Rattle.std.specs.List.{position_or_len}
use Rattle.cap_lin.specs.Linear.{Linear, number}
use Rattle.cap_lin.specs.declared.row.Sort.{Sort}
use Rattle.cap_lin.specs.declared.row.Sort.TheVariants.{Int}
use Rattle.cap_lin.specs.declared.row.Op.{Op}
use Rattle.cap_lin.specs.declared.row.Op.TheVariants as op
use Rattle.cap_galg.specs.Algebras.{PlainAlgebra}
use Rattle.cap_galg.specs.Algebras as algebras
use Rattle.cap_syntax.specs.declared.place.Place.{Place}
use Rattle.cap_prog.specs.declared.assertion.Comp.{Comp}
use Rattle.cap_prog.specs.declared.assertion.Slot.{Slot}
use Rattle.cap_prog.specs.declared.assertion.Slot.TheVariants.{Any, Is}
use Rattle.cap_prog.specs.declared.assertion.Asked.{Asked}
use Rattle.cap_prog.specs.declared.assertion.Asked.TheVariants.{One, Share, Src, Tok, At, From}
use Rattle.cap_prog.specs.Program.{PlainItem, Items, none, item, append_items, PlainAssertion, PlainCase, PlainAction, PlainRegionType, Label, PlainAct, Block, done, first, append, PlainFunction, PlainProgram}
use Rattle.cap_prog.specs.Program as plain
use Rattle.cap_parse_tree.specs.declared.word.Word.{Word}
use Rattle.cap_parse_tree.specs.declared.term.Relation.{Relation}
use Rattle.cap_parse_tree.specs.declared.term.Relation.TheVariants.{Equal, Unequal, Less, AtMost, Greater, AtLeast}
use Rattle.cap_parse_tree.specs.declared.assertion.Counted.TheVariants as counted
use Rattle.cap_parse_tree.specs.Tree.{parts_of, listed_parts, TermTree, ComparisonTree, SlotTree, any, is, GuardTree, alone, amount, count, ItemTree, holds, fails, fact, guards, cell, compare, choose, ItemTrees, no_item, and_item, AssertionTree, assertion, SideTree, side, ClauseTree, ValueTree, value, load, alloc, cas, faa, result_of, StatementTree, assign, store, call, fork, branch, loop, check, give_back, dispose, ElseTree, no_else, else_block, StatementTrees, no_statement, then_statement, BlockTree, block, DeclaredTree, unique, divisible, counting, indexed, grouped, DeclaredTrees, no_declared, and_declared, JointTree, joint, JointTrees, no_joint, or_joint, AlgebraTree, algebra, CaseTree, ActionTree, RegionTree, FunctionTree, ProgramTree}
use Rattle.cap_resolve_spec.specs.Parts.{term_place, held_atoms, atom_word, atom_place, when_comparisons, statement_parts, block_parts, regions, functions, parameters}
use Rattle.cap_resolve_spec.specs.Names.{NameScope, variable_of, word_text}
use Rattle.cap_resolve_spec.specs.Linear.{term_form}
use Rattle.cap_resolve_spec.specs.Terms.{term_sort}
use Rattle.cap_resolve_spec.specs.Items.{NumberedRegion, numbered_regions, is_region, is_guard, region_guards, TypedName, type_of, Occurrence}
use Rattle.cap_resolve_spec.specs.Regions.{own_parameters, guard_names, case_types, case_known, case_scope, action_known, action_scope}
use Rattle.cap_resolve_spec.specs.Functions.{locals, fixed_names, fixed_words, requires_types, requires_scope, Context, context_of, clause_types, clause_bound, clause_scope, is_function}

-- ---- comparisons and slots

abbrev pub relation_op : Relation → Op
relation_op Equal = op.Eq
relation_op Unequal = op.Ne
relation_op Less = op.Lt
relation_op AtMost = op.Le
relation_op Greater = op.Gt
relation_op AtLeast = op.Ge

abbrev pub sort_or_int : Option Sort → Sort
sort_or_int None = Int
sort_or_int (Some s) = s

abbrev pub comparison_program : NameScope → ComparisonTree → Comp
comparison_program scope c = record {
  left = term_form scope c.left;
  op = relation_op c.relation;
  right = term_form scope c.right;
  sort = sort_or_int (term_sort scope c.left);
  place = term_place c.left;
}

abbrev pub slot_program : NameScope → SlotTree → Slot
slot_program scope (any p) = Any
slot_program scope (is t) = Is (term_form scope t)

-- ---- assertions

abbrev pub asked_program : NameScope → GuardTree → Asked
asked_program scope (alone w) = One
asked_program scope (amount w p s q) = Share (slot_program scope s)
asked_program scope (count counted.Source k w p s q) = Src (slot_program scope s)
asked_program scope (count counted.Tokens k w p s q) = Tok (slot_program scope s)
asked_program scope (count counted.At k w p s q) = At (slot_program scope s)
asked_program scope (count counted.From k w p s q) = From (slot_program scope s)

-- the number of a guard in its region type, and of a region type: of the first that has the name
abbrev pub guard_number : NumberedRegion → GuardTree → ℕ
guard_number k g = position_or_len (is_guard (atom_word g).text) (region_guards k.region)

abbrev pub type_number : List RegionTree → List ℕ → ℕ
type_number rs x = position_or_len (is_region x) (numbered_regions rs)

-- without a type there is no atom
abbrev pub atoms_program : Option NumberedRegion → NameScope → Word → List GuardTree → Items
atoms_program None scope r gs = none
atoms_program (Some k) scope r [] = none
atoms_program (Some k) scope r (g ∷ gs) =
    item (plain.atom r.place (variable_of scope r.text) k.number (guard_number k g)
    (asked_program scope g))
    (atoms_program (Some k) scope r gs)

abbrev pub lone : PlainItem → Items
lone i = item i none

-- 0 = 1, which stands for `false`
abbrev pub false_comparison : Place → Comp
false_comparison p =
    record { left = number (pos 0); op = op.Eq; right = number (pos 1); sort = Int; place = p }

-- `true` is no item
abbrev mutual
  pub item_program : List RegionTree → List TypedName → NameScope → ItemTree → Items
  item_program rs types scope (holds p) = none
  item_program rs types scope (fails p) = lone (plain.compare (false_comparison p))
  item_program rs types scope (fact k p r args q s e) =
      lone (plain.fact k.place (variable_of scope r.text) (type_number rs k.text)
      (map (λ a. slot_program scope a.1) args) (slot_program scope s))
  item_program rs types scope (guards r p g) =
      atoms_program (type_of types r.text) scope r (held_atoms g)
  item_program rs types scope (cell t p s) =
      lone (plain.cell (term_place t) (term_form scope t) (slot_program scope s))
  item_program rs types scope (compare c) = lone (plain.compare (comparison_program scope c))
  item_program rs types scope (choose c p a q b) =
      lone (plain.choose (comparison_program scope c)
      (side_program rs types scope a) (side_program rs types scope b))

  pub items_program : List RegionTree → List TypedName → NameScope → ItemTrees → Items
  items_program rs types scope no_item = none
  items_program rs types scope (and_item p i more) =
      append_items (item_program rs types scope i) (items_program rs types scope more)

  pub assertion_program : List RegionTree → List TypedName → NameScope → AssertionTree → Items
  assertion_program rs types scope (assertion i more) =
      append_items (item_program rs types scope i) (items_program rs types scope more)

  pub side_program : List RegionTree → List TypedName → NameScope → SideTree → Items
  side_program rs types scope (side p a q) = assertion_program rs types scope a

-- an absent clause is `true`
abbrev pub clause_program : List RegionTree → List TypedName → NameScope → Option ClauseTree → Items
clause_program rs types scope None = none
clause_program rs types scope (Some c) = assertion_program rs types scope c.assertion

abbrev pub occurrence_sort : Occurrence → Sort
occurrence_sort o = o.sort

abbrev pub occurrence_sorts : List Occurrence → List Sort
occurrence_sorts os = map occurrence_sort os

-- ---- region types

-- `+` and `*` associate to the left
abbrev mutual
  pub declared_program : DeclaredTree → PlainAlgebra
  declared_program (unique w) = algebras.unique
  declared_program (divisible p w) = algebras.divisible
  declared_program (counting p w q) = algebras.counting
  declared_program (indexed p w q) = algebras.indexed
  declared_program (grouped p a q) = algebra_program a

  pub declareds_program : PlainAlgebra → DeclaredTrees → PlainAlgebra
  declareds_program a no_declared = a
  declareds_program a (and_declared p d ds) =
      declareds_program (algebras.product a (declared_program d)) ds

  pub joint_program : JointTree → PlainAlgebra
  joint_program (joint d ds) = declareds_program (declared_program d) ds

  pub joints_program : PlainAlgebra → JointTrees → PlainAlgebra
  joints_program a no_joint = a
  joints_program a (or_joint p j js) = joints_program (algebras.sum a (joint_program j)) js

  pub algebra_program : AlgebraTree → PlainAlgebra
  algebra_program (algebra j js) = joints_program (joint_program j) js

abbrev pub case_program : List RegionTree → NumberedRegion → CaseTree → PlainCase
case_program rs k c = record {
  names = occurrence_sorts (case_known rs k c);
  state = term_form (case_scope rs k c) c.state;
  when = map (comparison_program (case_scope rs k c)) (when_comparisons c.when);
  items = assertion_program rs (case_types rs k c) (case_scope rs k c) c.assertion;
  place = term_place c.state;
}

abbrev pub action_guard : NumberedRegion → NameScope → GuardTree → ℕ × Asked
action_guard k scope g = (guard_number k g, asked_program scope g)

abbrev pub action_program : NumberedRegion → ActionTree → PlainAction
action_program k a = record {
  names = occurrence_sorts (action_known k a);
  guards = map (action_guard k (action_scope k a)) (parts_of a.guards);
  source = term_form (action_scope k a) a.source;
  target = term_form (action_scope k a) a.target;
  when = map (comparison_program (action_scope k a)) (when_comparisons a.when);
  place = atom_place a.guards.first;
}

abbrev pub region_program : List RegionTree → NumberedRegion → PlainRegionType
region_program rs k = record {
  name = k.region.name.text;
  params = length (own_parameters k);
  algebra = algebra_program k.region.algebra;
  atoms = map word_text (guard_names k.region);
  cases = map (case_program rs k) k.region.cases.parts;
  actions = map (action_program k) k.region.actions.parts;
  place = k.region.key;
}

-- ---- functions

abbrev pub function_number : List FunctionTree → List ℕ → ℕ
function_number fs x = position_or_len (is_function x) fs

abbrev pub destination_number : Context → Word → ℕ
destination_number g w = variable_of g.body w.text

abbrev pub body_term : Context → TermTree → Linear
body_term g t = term_form g.body t

abbrev pub body_terms : Context → List TermTree → List Linear
body_terms g ts = map (body_term g) ts

abbrev pub new_assertion : Context → NameScope → Option ClauseTree → PlainAssertion
new_assertion g known c = record {
  names = occurrence_sorts (clause_bound g known c);
  items = clause_program g.regions (clause_types g c) (clause_scope g known c) c;
}

abbrev pub assign_program : Context → ℕ → ValueTree → PlainAct
assign_program g x (value t) = plain.set x (body_term g t)
assign_program g x (load p t q) = plain.read x (body_term g t)
assign_program g x (alloc p q n e) = plain.alloc x n.value
assign_program g x (cas p q a c e d f h) =
    plain.cas x (body_term g a) (body_term g e) (body_term g f)
assign_program g x (faa p q a c e r) = plain.faa x (body_term g a) (body_term g e)
assign_program g x (result_of w l) =
    plain.call (Some x) (function_number g.functions w.text) (body_terms g (listed_parts l))

-- the place of the first token
abbrev pub statement_place : StatementTree → Place
statement_place (assign w p v e) = w.place
statement_place (store p a q r t e) = p
statement_place (call w l e) = w.place
statement_place (fork p w l e) = p
statement_place (branch p q c r b e) = p
statement_place (loop p q c r i b) = p
statement_place (check p c e) = p
statement_place (give_back p t e) = p
statement_place (dispose p q t r e) = p

-- `return;` returns 0
abbrev pub returned : Context → Option TermTree → Linear
returned g None = number (pos 0)
returned g (Some t) = body_term g t

abbrev pub label : ℕ → Place → Label
label n p = record { number = n; place = p }

-- statements are numbered in the order of the text, and the first of these has the number n
abbrev mutual
  pub act_program : Context → ℕ → StatementTree → PlainAct
  act_program g n (assign w p v e) = assign_program g (destination_number g w) v
  act_program g n (store p a q r t e) = plain.write (body_term g a) (body_term g t)
  act_program g n (call w l e) =
      plain.call None (function_number g.functions w.text) (body_terms g (listed_parts l))
  act_program g n (fork p w l e) =
      plain.fork (function_number g.functions w.text) (body_terms g (listed_parts l))
  act_program g n (branch p q c r b e) =
      plain.branch (comparison_program g.body c) (block_program g (n + 1) b)
      (else_program g (n + 1 + length (block_parts b)) e)
  act_program g n (loop p q c r i b) =
      plain.loop (comparison_program g.body c) (new_assertion g g.loop i)
      (block_program g (n + 1) b)
  act_program g n (check p c e) = plain.check (comparison_program g.body c)
  act_program g n (give_back p t e) = plain.give_back (returned g t)
  act_program g n (dispose p q t r e) = plain.dispose (body_term g t)

  pub else_program : Context → ℕ → ElseTree → Block
  else_program g n no_else = done
  else_program g n (else_block p b) = block_program g n b

  pub statements_program : Context → ℕ → StatementTrees → Block
  statements_program g n no_statement = done
  statements_program g n (then_statement s ss) =
      first (label n (statement_place s)) (act_program g n s)
      (statements_program g (n + length (statement_parts s)) ss)

  pub block_program : Context → ℕ → BlockTree → Block
  block_program g n (block p ss q) = statements_program g n ss

abbrev pub block_end : BlockTree → Place
block_end (block p ss q) = q

-- a body is followed by `return 0;` at the place of its closing brace
abbrev pub closing_return : ℕ → Place → Block
closing_return n p = first (label n p) (plain.give_back (number (pos 0))) done

abbrev pub body_program : Context → BlockTree → Block
body_program g b =
    append (block_program g 1 b) (closing_return (1 + length (block_parts b)) (block_end b))

abbrev pub function_program : List RegionTree → List FunctionTree → FunctionTree → PlainFunction
function_program rs fs f = record {
  name = f.name.text;
  params = length (parameters f);
  locals = length (locals rs f);
  fixed = occurrence_sorts (fixed_names rs f);
  variables = map word_text (parameters f ++ (locals rs f ++ fixed_words rs f));
  requires = clause_program rs (requires_types rs f) (requires_scope rs f) f.precondition;
  ensures = new_assertion (context_of rs fs f) (context_of rs fs f).result f.postcondition;
  body = body_program (context_of rs fs f) f.body;
  place = f.key;
}

abbrev pub program_of : ProgramTree → PlainProgram
program_of t = record {
  regions = map (region_program (regions t)) (numbered_regions (regions t));
  functions = map (function_program (regions t) (functions t)) (functions t);
  main = function_number (functions t) (codes "main");
}
