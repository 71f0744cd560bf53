-- What is seen of the trees of the code.
use Rattle.std.specs.Prelude.{List, [], ◌∷◌, map, Option, Some, None, option_map}
use Rattle.cap_syntax.specs.declared.place.Place.{Place}
use Rattle.cap_parse_tree.specs.declared.list.Separated.{Separated}
use Rattle.cap_parse_tree.specs.declared.list.Listed.{Listed}
use Rattle.cap_parse_tree.specs.declared.list.Group.{Group}
use Rattle.cap_parse_tree.specs.declared.term.Sign.{Sign}
use Rattle.cap_parse_tree.specs.declared.term.Factor.{Factor, fold-Factor}
use Rattle.cap_parse_tree.specs.declared.term.Factor.TheOpen.{Factor-F, Times-F, Product-F, Addend-F, Term-F}
use Rattle.cap_parse_tree.specs.declared.term.Times.{Times, fold-Times}
use Rattle.cap_parse_tree.specs.declared.term.Product.{Product, fold-Product}
use Rattle.cap_parse_tree.specs.declared.term.Addend.{Addend, fold-Addend}
use Rattle.cap_parse_tree.specs.declared.term.Term.{Term, fold-Term}
use Rattle.cap_parse_tree.specs.declared.term.Comparison.{Comparison}
use Rattle.cap_parse_tree.specs.declared.term.Slot.{Slot}
use Rattle.cap_parse_tree.specs.declared.term.Slot.TheVariants.{Any, Is}
use Rattle.cap_parse_tree.specs.declared.assertion.GuardAtom.{GuardAtom}
use Rattle.cap_parse_tree.specs.declared.assertion.GuardAtom.TheVariants.{Alone, Amount, Count}
use Rattle.cap_parse_tree.specs.declared.assertion.Guards.{Guards}
use Rattle.cap_parse_tree.specs.declared.assertion.Guards.TheVariants.{Bare, Bracketed}
use Rattle.cap_parse_tree.specs.declared.assertion.Item.{Item, fold-Item}
use Rattle.cap_parse_tree.specs.declared.assertion.Item.TheOpen.{Item-F, And-F, Assertion-F, Side-F}
use Rattle.cap_parse_tree.specs.declared.assertion.And.{And, fold-And}
use Rattle.cap_parse_tree.specs.declared.assertion.Assertion.{Assertion, fold-Assertion}
use Rattle.cap_parse_tree.specs.declared.assertion.Side.{Side, fold-Side}
use Rattle.cap_parse_tree.specs.declared.assertion.Clause.{Clause}
use Rattle.cap_parse_tree.specs.declared.statement.Value.{Value}
use Rattle.cap_parse_tree.specs.declared.statement.Value.TheVariants as a_value
use Rattle.cap_parse_tree.specs.declared.statement.Statement.{Statement, fold-Statement}
use Rattle.cap_parse_tree.specs.declared.statement.Statement.TheOpen.{Statement-F, Block-F, Else-F}
use Rattle.cap_parse_tree.specs.declared.statement.Block.{Block, fold-Block}
use Rattle.cap_parse_tree.specs.declared.statement.Else.{Else, fold-Else}
use Rattle.cap_parse_tree.specs.declared.region.Declared.{Declared, fold-Declared}
use Rattle.cap_parse_tree.specs.declared.region.Declared.TheOpen.{Declared-F, Algebra-F, Both-F, Either-F, Joint-F}
use Rattle.cap_parse_tree.specs.declared.region.Both.{Both, fold-Both}
use Rattle.cap_parse_tree.specs.declared.region.Joint.{Joint, fold-Joint}
use Rattle.cap_parse_tree.specs.declared.region.Either.{Either, fold-Either}
use Rattle.cap_parse_tree.specs.declared.region.Algebra.{Algebra, fold-Algebra}
use Rattle.cap_parse_tree.specs.declared.region.When.{When}
use Rattle.cap_parse_tree.specs.declared.region.Case.{Case}
use Rattle.cap_parse_tree.specs.declared.region.Action.{Action}
use Rattle.cap_parse_tree.specs.declared.region.Region.{Region}
use Rattle.cap_parse_tree.specs.declared.tree.Function.{Function}
use Rattle.cap_parse_tree.specs.declared.tree.Declaration.{Declaration}
use Rattle.cap_parse_tree.specs.declared.tree.Declaration.TheVariants as a_declaration
use Rattle.cap_parse_tree.specs.declared.tree.Tree.{Tree}
use Rattle.cap_parse_tree.specs.declared.word.Word.{Word}
use Rattle.cap_parse_tree.specs.Tree.{Several, InParentheses, InBraces, FactorTree, literal, whole_share, named, bracketed, ProductTree, product, FactorTrees, no_factor, times, TermTree, term, ProductTrees, no_product, signed, ComparisonTree, SlotTree, any, is, GuardTree, alone, amount, count, GuardsTree, HeldTree, bare, in_parentheses, ItemTree, holds, fails, fact, guards, cell, compare, choose, ItemTrees, no_item, and_item, AssertionTree, assertion, SideTree, side, ClauseTree, ValueTree, value, load, alloc, cas, faa, result_of, StatementTree, assign, store, call, fork, branch, loop, check, give_back, dispose, ElseTree, no_else, else_block, StatementTrees, no_statement, then_statement, BlockTree, block, DeclaredTree, unique, divisible, counting, indexed, grouped, DeclaredTrees, no_declared, and_declared, JointTree, joint, JointTrees, no_joint, or_joint, AlgebraTree, algebra, WhenTree, CaseTree, ActionTree, RegionTree, FunctionTree, DeclarationTree, region, function, ProgramTree}

-- lists

abbrev pub behind_view : {A B : Type 0} → (A → B) → Place × A → Place × B
behind_view view a = (a.0, view a.1)

abbrev pub several_view : {A B : Type 0} → (A → B) → Separated A → Several B
several_view view s =
    record { first = view s.first; more = map (behind_view view) s.more.items }

abbrev pub listed_view : {A B : Type 0} → (A → B) → Listed A → InParentheses B
listed_view view l =
    record { before = l.«open»; parts = option_map (several_view view) l.parts; behind = l.close }

abbrev pub group_view : {A B : Type 0} → (A → B) → Group A → InBraces B
group_view view g =
    record { key = g.key; before = g.«open»; parts = map view g.parts.items; behind = g.close }

abbrev pub word_view : Word → Word
word_view w = w

-- terms

abbrev pub TimesTree : Type 0
TimesTree = Place × FactorTree

pub record AddendTree : Type 0 where
  pub sign : Sign
  pub place : Place
  pub product : ProductTree

abbrev pub factors_of : List TimesTree → FactorTrees
factors_of [] = no_factor
factors_of (f ∷ fs) = times f.0 f.1 (factors_of fs)

abbrev pub products_of : List AddendTree → ProductTrees
products_of [] = no_product
products_of (a ∷ more) = signed a.sign a.place a.product (products_of more)

abbrev pub factor_step : Factor-F FactorTree AddendTree ProductTree TermTree TimesTree → FactorTree
factor_step (Factor-F.Number n) = literal n
factor_step (Factor-F.WholeShare p) = whole_share p
factor_step (Factor-F.Name w) = named w
factor_step (Factor-F.Bracketed p t q) = bracketed p t.value q

abbrev pub times_step : Times-F FactorTree AddendTree ProductTree TermTree TimesTree → TimesTree
times_step t = (t.star, t.factor)

abbrev pub product_step : Product-F FactorTree AddendTree ProductTree TermTree TimesTree → ProductTree
product_step m = product m.first (factors_of m.more.items)

abbrev pub addend_step : Addend-F FactorTree AddendTree ProductTree TermTree TimesTree → AddendTree
addend_step a = record { sign = a.sign; place = a.place; product = a.product }

abbrev pub term_step : Term-F FactorTree AddendTree ProductTree TermTree TimesTree → TermTree
term_step t = term t.minus t.first (products_of t.more.items)

abbrev pub factor_view : Factor → FactorTree
factor_view =
    fold-Factor FactorTree AddendTree ProductTree TermTree TimesTree
    factor_step addend_step product_step term_step times_step

abbrev pub times_view : Times → TimesTree
times_view =
    fold-Times FactorTree AddendTree ProductTree TermTree TimesTree
    factor_step addend_step product_step term_step times_step

abbrev pub product_view : Product → ProductTree
product_view =
    fold-Product FactorTree AddendTree ProductTree TermTree TimesTree
    factor_step addend_step product_step term_step times_step

abbrev pub addend_view : Addend → AddendTree
addend_view =
    fold-Addend FactorTree AddendTree ProductTree TermTree TimesTree
    factor_step addend_step product_step term_step times_step

abbrev pub term_view : Term → TermTree
term_view =
    fold-Term FactorTree AddendTree ProductTree TermTree TimesTree
    factor_step addend_step product_step term_step times_step

abbrev pub comparison_view : Comparison → ComparisonTree
comparison_view c =
    record { left = term_view c.left; relation = c.relation; place = c.place; right = term_view c.right }

abbrev pub slot_view : Slot → SlotTree
slot_view (Any p) = any p
slot_view (Is t) = is (term_view t)

-- assertions

abbrev pub guard_view : GuardAtom → GuardTree
guard_view (Alone w) = alone w
guard_view (Amount w p s q) = amount w p (slot_view s) q
guard_view (Count c k w p s q) = count c k w p (slot_view s) q

abbrev pub held_view : Guards → HeldTree
held_view (Bare g) = bare (several_view guard_view g)
held_view (Bracketed p g q) = in_parentheses p (several_view guard_view g) q

abbrev pub AndTree : Type 0
AndTree = Place × ItemTree

abbrev pub items_of : List AndTree → ItemTrees
items_of [] = no_item
items_of (i ∷ more) = and_item i.0 i.1 (items_of more)

abbrev pub item_step : Item-F ItemTree AndTree AssertionTree SideTree → ItemTree
item_step (Item-F.True p) = holds p
item_step (Item-F.False p) = fails p
item_step (Item-F.Fact k p r arguments q s e) =
    fact k p r (map (behind_view slot_view) arguments.items) q (slot_view s) e
item_step (Item-F.Guards r p g) = guards r p (held_view g)
item_step (Item-F.Cell t p s) = cell (term_view t) p (slot_view s)
item_step (Item-F.Compare c) = compare (comparison_view c)
item_step (Item-F.Choose c p a q b) = choose (comparison_view c) p a q b

abbrev pub and_step : And-F ItemTree AndTree AssertionTree SideTree → AndTree
and_step a = (a.place, a.item)

abbrev pub assertion_step : Assertion-F ItemTree AndTree AssertionTree SideTree → AssertionTree
assertion_step a = assertion a.first (items_of a.more.items)

abbrev pub side_step : Side-F ItemTree AndTree AssertionTree SideTree → SideTree
side_step s = side s.«open» s.assertion.value s.close

abbrev pub item_view : Item → ItemTree
item_view =
    fold-Item ItemTree AndTree AssertionTree SideTree item_step and_step assertion_step side_step

abbrev pub and_view : And → AndTree
and_view =
    fold-And ItemTree AndTree AssertionTree SideTree item_step and_step assertion_step side_step

abbrev pub assertion_view : Assertion → AssertionTree
assertion_view =
    fold-Assertion ItemTree AndTree AssertionTree SideTree item_step and_step assertion_step side_step

abbrev pub side_view : Side → SideTree
side_view =
    fold-Side ItemTree AndTree AssertionTree SideTree item_step and_step assertion_step side_step

abbrev pub clause_view : Clause → ClauseTree
clause_view c = record { key = c.key; assertion = assertion_view c.assertion; semicolon = c.semicolon }

-- statements

abbrev pub value_view : Value → ValueTree
value_view (a_value.Term t) = value (term_view t)
value_view (a_value.Load p t q) = load p (term_view t) q
value_view (a_value.Alloc p q n r) = alloc p q n r
value_view (a_value.Cas p q a c e d f r) = cas p q (term_view a) c (term_view e) d (term_view f) r
value_view (a_value.Faa p q a c e r) = faa p q (term_view a) c (term_view e) r
value_view (a_value.Call w l) = result_of w (listed_view term_view l)

abbrev pub statements_of : List StatementTree → StatementTrees
statements_of [] = no_statement
statements_of (s ∷ more) = then_statement s (statements_of more)

abbrev pub else_of : Option ElseTree → ElseTree
else_of None = no_else
else_of (Some e) = e

abbrev pub statement_step : Statement-F StatementTree BlockTree ElseTree → StatementTree
statement_step (Statement-F.Assign w p v e) = assign w p (value_view v) e
statement_step (Statement-F.Store p a q r t e) = store p (term_view a) q r (term_view t) e
statement_step (Statement-F.Call w l e) = call w (listed_view term_view l) e
statement_step (Statement-F.Fork p w l e) = fork p w (listed_view term_view l) e
statement_step (Statement-F.If p q c r b e) = branch p q (comparison_view c) r b (else_of e)
statement_step (Statement-F.While p q c r i b) =
    loop p q (comparison_view c) r (option_map clause_view i) b
statement_step (Statement-F.Assert p c e) = check p (comparison_view c) e
statement_step (Statement-F.Return p t e) = give_back p (option_map term_view t) e
statement_step (Statement-F.Dispose p q t r e) = dispose p q (term_view t) r e

abbrev pub block_step : Block-F StatementTree BlockTree ElseTree → BlockTree
block_step b = block b.«open» (statements_of b.statements.items) b.close

abbrev pub else_step : Else-F StatementTree BlockTree ElseTree → ElseTree
else_step e = else_block e.key e.block

abbrev pub statement_view : Statement → StatementTree
statement_view =
    fold-Statement StatementTree BlockTree ElseTree statement_step block_step else_step

abbrev pub block_view : Block → BlockTree
block_view = fold-Block StatementTree BlockTree ElseTree statement_step block_step else_step

abbrev pub else_view : Else → ElseTree
else_view = fold-Else StatementTree BlockTree ElseTree statement_step block_step else_step

-- region types

abbrev pub BothTree : Type 0
BothTree = Place × DeclaredTree

abbrev pub EitherTree : Type 0
EitherTree = Place × JointTree

abbrev pub declareds_of : List BothTree → DeclaredTrees
declareds_of [] = no_declared
declareds_of (d ∷ more) = and_declared d.0 d.1 (declareds_of more)

abbrev pub joints_of : List EitherTree → JointTrees
joints_of [] = no_joint
joints_of (j ∷ more) = or_joint j.0 j.1 (joints_of more)

abbrev pub declared_step : Declared-F DeclaredTree AlgebraTree BothTree EitherTree JointTree → DeclaredTree
declared_step (Declared-F.Unique w) = unique w
declared_step (Declared-F.Divisible p w) = divisible p w
declared_step (Declared-F.Counting p w q) = counting p w q
declared_step (Declared-F.Indexed p w q) = indexed p w q
declared_step (Declared-F.Bracketed p a q) = grouped p a.value q

abbrev pub algebra_step : Algebra-F DeclaredTree AlgebraTree BothTree EitherTree JointTree → AlgebraTree
algebra_step a = algebra a.first (joints_of a.more.items)

abbrev pub both_step : Both-F DeclaredTree AlgebraTree BothTree EitherTree JointTree → BothTree
both_step b = (b.star, b.declared)

abbrev pub either_step : Either-F DeclaredTree AlgebraTree BothTree EitherTree JointTree → EitherTree
either_step e = (e.plus, e.joint)

abbrev pub joint_step : Joint-F DeclaredTree AlgebraTree BothTree EitherTree JointTree → JointTree
joint_step j = joint j.first (declareds_of j.more.items)

abbrev pub declared_view : Declared → DeclaredTree
declared_view =
    fold-Declared DeclaredTree AlgebraTree BothTree EitherTree JointTree
    declared_step algebra_step both_step either_step joint_step

abbrev pub both_view : Both → BothTree
both_view =
    fold-Both DeclaredTree AlgebraTree BothTree EitherTree JointTree
    declared_step algebra_step both_step either_step joint_step

abbrev pub joint_view : Joint → JointTree
joint_view =
    fold-Joint DeclaredTree AlgebraTree BothTree EitherTree JointTree
    declared_step algebra_step both_step either_step joint_step

abbrev pub either_view : Either → EitherTree
either_view =
    fold-Either DeclaredTree AlgebraTree BothTree EitherTree JointTree
    declared_step algebra_step both_step either_step joint_step

abbrev pub algebra_view : Algebra → AlgebraTree
algebra_view =
    fold-Algebra DeclaredTree AlgebraTree BothTree EitherTree JointTree
    declared_step algebra_step both_step either_step joint_step

abbrev pub when_view : When → WhenTree
when_view w = record { key = w.key; comparisons = several_view comparison_view w.comparisons }

abbrev pub case_view : Case → CaseTree
case_view c = record {
  state = term_view c.state;
  when = option_map when_view c.when;
  colon = c.colon;
  assertion = assertion_view c.assertion;
  semicolon = c.semicolon;
}

abbrev pub action_view : Action → ActionTree
action_view a = record {
  guards = several_view guard_view a.guards;
  colon = a.colon;
  source = term_view a.source;
  arrow = a.arrow;
  target = term_view a.target;
  when = option_map when_view a.when;
  semicolon = a.semicolon;
}

abbrev pub region_view : Region → RegionTree
region_view r = record {
  key = r.key;
  name = r.name;
  before = r.«open»;
  parameters = several_view word_view r.parameters;
  behind = r.close;
  brace = r.brace;
  guards = r.guards;
  algebra = algebra_view r.algebra;
  semicolon = r.semicolon;
  cases = group_view case_view r.cases;
  actions = group_view action_view r.actions;
  end = r.end;
}

abbrev pub function_view : Function → FunctionTree
function_view f = record {
  key = f.key;
  name = f.name;
  parameters = listed_view word_view f.parameters;
  precondition = option_map clause_view f.precondition;
  postcondition = option_map clause_view f.postcondition;
  body = block_view f.body;
}

abbrev pub declaration_view : Declaration → DeclarationTree
declaration_view (a_declaration.Region r) = region (region_view r)
declaration_view (a_declaration.Function f) = function (function_view f)

abbrev pub tree_view : Tree → ProgramTree
tree_view t = record { header = t.header; declarations = map declaration_view t.declarations.items }
