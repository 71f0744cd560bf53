-- What is seen of lists of references to parts.
use Rattle.std.specs.Prelude.{List, ◌++◌, map, fold, Option, option_map, option_to_list}
use Rattle.std.specs.Borrow.{Bor}
use Rattle.cap_parse_tree.specs.declared.word.Word.{Word}
use Rattle.cap_parse_tree.specs.declared.word.Literal.{Literal}
use Rattle.cap_parse_tree.specs.declared.list.Listed.{Listed}
use Rattle.cap_parse_tree.specs.declared.term.Term.{Term}
use Rattle.cap_parse_tree.specs.declared.term.Comparison.{Comparison}
use Rattle.cap_parse_tree.specs.declared.assertion.GuardAtom.{GuardAtom}
use Rattle.cap_parse_tree.specs.declared.assertion.Item.{Item}
use Rattle.cap_parse_tree.specs.declared.assertion.Clause.{Clause}
use Rattle.cap_parse_tree.specs.declared.statement.Statement.{Statement}
use Rattle.cap_parse_tree.specs.declared.region.Declared.{Declared}
use Rattle.cap_parse_tree.specs.declared.region.Region.{Region}
use Rattle.cap_parse_tree.specs.declared.tree.Function.{Function}
use Rattle.cap_parse_tree.specs.Tree.{listed_parts, FactorTree, TermTree, ComparisonTree, GuardTree, ItemTree, ClauseTree, StatementTree, DeclaredTree, RegionTree, FunctionTree}
use Rattle.cap_parse_tree.specs.Views.{listed_view, term_view, comparison_view, guard_view, item_view, clause_view, statement_view, declared_view, region_view, function_view}
use Rattle.cap_resolve_spec.specs.Parts.{PlacedItem, named_word}
use Rattle.cap_resolve_parts.specs.declared.items.Placed.{Placed}

abbrev pub words_view : List (Bor Word) → List Word
words_view ws = map (λ (w : Bor Word). w.now) ws

abbrev pub terms_view : List (Bor Term) → List TermTree
terms_view ts = map (λ (t : Bor Term). term_view t.now) ts

abbrev pub comparisons_view : List (Bor Comparison) → List ComparisonTree
comparisons_view cs = map (λ (c : Bor Comparison). comparison_view c.now) cs

abbrev pub guards_view : List (Bor GuardAtom) → List GuardTree
guards_view gs = map (λ (g : Bor GuardAtom). guard_view g.now) gs

abbrev pub placed_view : Placed → PlacedItem
placed_view p = (p.inside, item_view p.item.now)

abbrev pub parts_view : List Placed → List PlacedItem
parts_view ps = map placed_view ps

abbrev pub items_view : List (Bor Item) → List ItemTree
items_view is = map (λ (i : Bor Item). item_view i.now) is

abbrev pub statements_view : List (Bor Statement) → List StatementTree
statements_view ss = map (λ (s : Bor Statement). statement_view s.now) ss

abbrev pub declareds_view : List (Bor Declared) → List DeclaredTree
declareds_view ds = map (λ (d : Bor Declared). declared_view d.now) ds

abbrev pub regions_view : List (Bor Region) → List RegionTree
regions_view rs = map (λ (r : Bor Region). region_view r.now) rs

abbrev pub functions_view : List (Bor Function) → List FunctionTree
functions_view fs = map (λ (f : Bor Function). function_view f.now) fs

abbrev pub word_seen : Option (Bor Word) → Option Word
word_seen w = option_map (λ (x : Bor Word). x.now) w

abbrev pub clause_seen : Option (Bor Clause) → Option ClauseTree
clause_seen c = option_map (λ (x : Bor Clause). clause_view x.now) c

-- a number or a share adds no word
abbrev pub add_word : List Word → FactorTree → List Word
add_word ws f = ws ++ option_to_list (named_word f)

abbrev pub with_words : List Word → List FactorTree → List Word
with_words ws fs = fold add_word ws fs

abbrev pub comparison_seen : Option (Bor Comparison) → Option ComparisonTree
comparison_seen c = option_map (λ (x : Bor Comparison). comparison_view x.now) c

abbrev pub literal_seen : Option (Bor Literal) → Option Literal
literal_seen n = option_map (λ (x : Bor Literal). x.now) n

-- the function that is called, and its arguments
abbrev pub one_call : Bor Word × Bor (Listed Term) → Word × List TermTree
one_call c = (c.0.now, listed_parts (listed_view term_view c.1.now))

abbrev pub call_seen : Option (Bor Word × Bor (Listed Term)) → Option (Word × List TermTree)
call_seen c = option_map one_call c
