-- Reading each production from left to right, with one token ahead. The number is how many brackets may
-- still open.
use Rattle.std.specs.Prelude.{ℕ, zero, suc, not, Bool, true, false, List, [], ◌∷◌, Option, Some, None, Result, Ok, Err}
use Rattle.cap_syntax.specs.declared.place.Place.{Place}
use Rattle.cap_syntax.specs.declared.token.Token.{Token}
use Rattle.cap_parse_tree.specs.declared.word.Word.{Word}
use Rattle.cap_parse_tree.specs.declared.term.Sign.{Sign}
use Rattle.cap_parse_tree.specs.declared.term.Sign.TheVariants.{Plus, Minus}
use Rattle.cap_parse_tree.specs.declared.term.Relation.{Relation}
use Rattle.cap_parse_tree.specs.declared.term.Relation.TheVariants.{Equal, Unequal, Less, AtMost, Greater, AtLeast}
use Rattle.cap_parse_tree.specs.declared.assertion.Counted.{Counted}
use Rattle.cap_parse_tree.specs.declared.tree.Header.{Header}
use Rattle.cap_parse_tree.specs.declared.assertion.Counted.TheVariants.{Source, Tokens, At, From}
use Rattle.cap_parse_tree.specs.Tree.{Several, InParentheses, InBraces, FactorTree, literal, whole_share, named, bracketed, ProductTree, product, TermTree, term, ComparisonTree, SlotTree, any, is, GuardTree, alone, amount, count, GuardsTree, HeldTree, bare, in_parentheses, ItemTree, holds, fails, fact, guards, cell, compare, choose, AssertionTree, assertion, SideTree, side, ClauseTree, ValueTree, value, load, alloc, cas, faa, result_of, StatementTree, assign, store, call, fork, branch, loop, check, give_back, dispose, ElseTree, no_else, else_block, BlockTree, block, DeclaredTree, unique, divisible, counting, indexed, grouped, JointTree, joint, AlgebraTree, algebra, WhenTree, CaseTree, ActionTree, RegionTree, FunctionTree, DeclarationTree, region, function, ProgramTree}
use Rattle.cap_parse_tree.specs.Views.{TimesTree, AddendTree, factors_of, products_of, AndTree, items_of, statements_of, else_of, BothTree, EitherTree, declareds_of, joints_of}
use Rattle.cap_parse_laws.specs.declared.class.Class.{Class}
use Rattle.cap_parse_laws.specs.declared.class.Class.TheVariants as c
use Rattle.cap_parse_laws.specs.Classes.{are_same}
use Rattle.cap_parse_laws.specs.Readers.{Fault, unexpected, too_deep, Outcome, Reader, ◌>>=◌, ahead, next_place, next_word, next_literal, expect, read_name, read_number, no_room, read_opening, read_optional, read_while, read_until, read_behind, read_more, read_several, read_listed, read_group}

-- terms

abbrev pub factor_by : Reader FactorTree → Class → Reader FactorTree
factor_by bracket c.Number ts = do
  n ← next_literal ts
  Ok (literal n.0, n.1)
factor_by bracket c.Share ts = do
  p ← next_place ts
  Ok (whole_share p.0, p.1)
factor_by bracket c.Name ts = do
  w ← next_word ts
  Ok (named w.0, w.1)
factor_by bracket k ts = bracket ts

abbrev pub read_factor : Reader FactorTree → Reader FactorTree
read_factor bracket ts = factor_by bracket (ahead ts) ts

-- the product that begins with this factor
abbrev pub read_product_from : Reader FactorTree → FactorTree → Reader ProductTree
read_product_from bracket f ts = do
  fs ← read_more c.Star (read_factor bracket) ts
  Ok (product f (factors_of fs.0), fs.1)

abbrev pub read_product : Reader FactorTree → Reader ProductTree
read_product bracket ts = do
  f ← read_factor bracket ts
  read_product_from bracket f.0 f.1

abbrev pub is_sign : Class → Bool
is_sign c.Plus = true
is_sign c.Minus = true
is_sign k = false

abbrev pub sign_by : Class → Reader (Sign × Place)
sign_by c.Plus ts = do
  p ← next_place ts
  Ok ((Plus, p.0), p.1)
sign_by c.Minus ts = do
  p ← next_place ts
  Ok ((Minus, p.0), p.1)
sign_by k ts = Err (unexpected ts)

abbrev pub read_sign : Reader (Sign × Place)
read_sign ts = sign_by (ahead ts) ts

abbrev pub read_addend : Reader FactorTree → Reader AddendTree
read_addend bracket ts = do
  s ← read_sign ts
  m ← read_product bracket s.1
  Ok (record { sign = s.0.0; place = s.0.1; product = m.0 }, m.1)

-- the term that begins with this factor, behind a minus or nothing
abbrev pub read_term_from : Reader FactorTree → Option Place → FactorTree → Reader TermTree
read_term_from bracket minus f ts = do
  m ← read_product_from bracket f ts
  more ← read_while is_sign (read_addend bracket) m.1
  Ok (term minus m.0 (products_of more.0), more.1)

abbrev pub read_term_with : Reader FactorTree → Reader TermTree
read_term_with bracket ts = do
  minus ← read_optional (are_same c.Minus) next_place ts
  f ← read_factor bracket minus.1
  read_term_from bracket minus.0 f.0 f.1

abbrev pub read_bracketed : Reader TermTree → Reader FactorTree
read_bracketed inner ts = do
  p ← expect c.Open ts
  t ← inner p.1
  q ← expect c.Close t.1
  Ok (bracketed p.0 t.0 q.0, q.1)

abbrev pub bracketed_at : ℕ → Reader FactorTree
bracketed_at zero ts = no_room c.Open ts
bracketed_at (suc room) ts = read_bracketed (read_term_with (bracketed_at room)) ts

abbrev pub read_term : ℕ → Reader TermTree
read_term room = read_term_with (bracketed_at room)

abbrev pub relation_by : Class → Reader (Relation × Place)
relation_by c.Equal ts = do
  p ← next_place ts
  Ok ((Equal, p.0), p.1)
relation_by c.Unequal ts = do
  p ← next_place ts
  Ok ((Unequal, p.0), p.1)
relation_by c.Less ts = do
  p ← next_place ts
  Ok ((Less, p.0), p.1)
relation_by c.AtMost ts = do
  p ← next_place ts
  Ok ((AtMost, p.0), p.1)
relation_by c.Greater ts = do
  p ← next_place ts
  Ok ((Greater, p.0), p.1)
relation_by c.AtLeast ts = do
  p ← next_place ts
  Ok ((AtLeast, p.0), p.1)
relation_by k ts = Err (unexpected ts)

abbrev pub read_relation : Reader (Relation × Place)
read_relation ts = relation_by (ahead ts) ts

-- the comparison that begins with this term
abbrev pub read_comparison_from : ℕ → TermTree → Reader ComparisonTree
read_comparison_from room left ts = do
  r ← read_relation ts
  right ← read_term room r.1
  Ok (record { left = left; relation = r.0.0; place = r.0.1; right = right.0 }, right.1)

abbrev pub read_comparison : ℕ → Reader ComparisonTree
read_comparison room ts = do
  left ← read_term room ts
  read_comparison_from room left.0 left.1

abbrev pub slot_by : ℕ → Class → Reader SlotTree
slot_by room c.Wildcard ts = do
  p ← next_place ts
  Ok (any p.0, p.1)
slot_by room k ts = do
  t ← read_term room ts
  Ok (is t.0, t.1)

abbrev pub read_slot : ℕ → Reader SlotTree
read_slot room ts = slot_by room (ahead ts) ts

-- assertions

-- a guard's name, behind which an amount may come
abbrev pub amount_by : ℕ → Word → Class → Reader GuardTree
amount_by room w c.OpenBracket ts = do
  o ← read_opening room c.OpenBracket ts
  s ← read_slot o.0.0 o.1
  q ← expect c.CloseBracket s.1
  Ok (amount w o.0.1 s.0 q.0, q.1)
amount_by room w k ts = Ok (alone w, ts)

abbrev pub read_amount : ℕ → Word → Reader GuardTree
read_amount room w ts = amount_by room w (ahead ts) ts

abbrev pub read_counted : ℕ → Counted → Reader GuardTree
read_counted room kind ts = do
  p ← next_place ts
  w ← read_name p.1
  o ← read_opening room c.OpenBracket w.1
  s ← read_slot o.0.0 o.1
  q ← expect c.CloseBracket s.1
  Ok (count kind p.0 w.0 o.0.1 s.0 q.0, q.1)

abbrev pub guard_by : ℕ → Class → Reader GuardTree
guard_by room c.Name ts = do
  w ← next_word ts
  read_amount room w.0 w.1
guard_by room c.Source ts = read_counted room Source ts
guard_by room c.Tokens ts = read_counted room Tokens ts
guard_by room c.AtIndex ts = read_counted room At ts
guard_by room c.FromIndex ts = read_counted room From ts
guard_by room k ts = Err (unexpected ts)

abbrev pub read_guard : ℕ → Reader GuardTree
read_guard room ts = guard_by room (ahead ts) ts

abbrev pub read_guards : ℕ → Reader GuardsTree
read_guards room = read_several c.Star (read_guard room)

abbrev pub held_by : ℕ → Class → Reader HeldTree
held_by room c.Open ts = do
  o ← read_opening room c.Open ts
  g ← read_guards o.0.0 o.1
  q ← expect c.Close g.1
  Ok (in_parentheses o.0.1 g.0 q.0, q.1)
held_by room k ts = do
  g ← read_guards room ts
  Ok (bare g.0, g.1)

abbrev pub read_held : ℕ → Reader HeldTree
read_held room ts = held_by room (ahead ts) ts

-- a comparison, behind which two sides may come
abbrev pub choice_by : Reader SideTree → ComparisonTree → Class → Reader ItemTree
choice_by sides k c.Question ts = do
  p ← next_place ts
  a ← sides p.1
  q ← expect c.Colon a.1
  b ← sides q.1
  Ok (choose k p.0 a.0 q.0 b.0, b.1)
choice_by sides k _ ts = Ok (compare k, ts)

abbrev pub read_choice : Reader SideTree → ComparisonTree → Reader ItemTree
read_choice sides k ts = choice_by sides k (ahead ts) ts

-- a term, behind which a cell's value or a comparison's other side comes
abbrev pub item_from_by : Reader SideTree → ℕ → TermTree → Class → Reader ItemTree
item_from_by sides room t c.PointsTo ts = do
  p ← next_place ts
  s ← read_slot room p.1
  Ok (cell t p.0 s.0, s.1)
item_from_by sides room t k ts = do
  k ← read_comparison_from room t ts
  read_choice sides k.0 k.1

abbrev pub read_item_from : Reader SideTree → ℕ → TermTree → Reader ItemTree
read_item_from sides room t ts = item_from_by sides room t (ahead ts) ts

abbrev pub read_fact : ℕ → Word → Reader ItemTree
read_fact room w ts = do
  o ← read_opening room c.Open ts
  r ← read_name o.1
  arguments ← read_more c.Comma (read_slot o.0.0) r.1
  q ← expect c.Semicolon arguments.1
  s ← read_slot o.0.0 q.1
  e ← expect c.Close s.1
  Ok (fact w o.0.1 r.0 arguments.0 q.0 s.0 e.0, e.1)

-- a name, behind which a fact's parts, guards or more of a term come
abbrev pub named_item_by : Reader SideTree → ℕ → Word → Class → Reader ItemTree
named_item_by sides room w c.Open ts = read_fact room w ts
named_item_by sides room w c.At ts = do
  p ← next_place ts
  g ← read_held room p.1
  Ok (guards w p.0 g.0, g.1)
named_item_by sides room w k ts = do
  t ← read_term_from (bracketed_at room) None (named w) ts
  read_item_from sides room t.0 t.1

abbrev pub read_named_item : Reader SideTree → ℕ → Word → Reader ItemTree
read_named_item sides room w ts = named_item_by sides room w (ahead ts) ts

abbrev pub item_by : Reader SideTree → ℕ → Class → Reader ItemTree
item_by sides room c.True ts = do
  p ← next_place ts
  Ok (holds p.0, p.1)
item_by sides room c.False ts = do
  p ← next_place ts
  Ok (fails p.0, p.1)
item_by sides room c.Name ts = do
  w ← next_word ts
  read_named_item sides room w.0 w.1
item_by sides room k ts = do
  t ← read_term room ts
  read_item_from sides room t.0 t.1

abbrev pub read_item : Reader SideTree → ℕ → Reader ItemTree
read_item sides room ts = item_by sides room (ahead ts) ts

abbrev pub read_assertion_with : Reader SideTree → ℕ → Reader AssertionTree
read_assertion_with sides room ts = do
  i ← read_item sides room ts
  more ← read_more c.And (read_item sides room) i.1
  Ok (assertion i.0 (items_of more.0), more.1)

abbrev pub read_side : Reader AssertionTree → Reader SideTree
read_side inner ts = do
  p ← expect c.OpenBrace ts
  a ← inner p.1
  q ← expect c.CloseBrace a.1
  Ok (side p.0 a.0 q.0, q.1)

abbrev pub side_at : ℕ → Reader SideTree
side_at zero ts = no_room c.OpenBrace ts
side_at (suc room) ts = read_side (read_assertion_with (side_at room) room) ts

abbrev pub read_assertion : ℕ → Reader AssertionTree
read_assertion room = read_assertion_with (side_at room) room

-- a clause behind the keyword of this class
abbrev pub read_clause : ℕ → Class → Reader ClauseTree
read_clause room k ts = do
  key ← expect k ts
  a ← read_assertion room key.1
  e ← expect c.Semicolon a.1
  Ok (record { key = key.0; assertion = a.0; semicolon = e.0 }, e.1)

-- statements

abbrev pub read_terms : ℕ → Reader (InParentheses TermTree)
read_terms room = read_listed room read_term

abbrev pub read_load : ℕ → Reader ValueTree
read_load room ts = do
  o ← read_opening room c.OpenBracket ts
  t ← read_term o.0.0 o.1
  q ← expect c.CloseBracket t.1
  Ok (load o.0.1 t.0 q.0, q.1)

abbrev pub read_alloc : ℕ → Reader ValueTree
read_alloc room ts = do
  p ← next_place ts
  o ← read_opening room c.Open p.1
  n ← read_number o.1
  q ← expect c.Close n.1
  Ok (alloc p.0 o.0.1 n.0 q.0, q.1)

abbrev pub read_cas : ℕ → Reader ValueTree
read_cas room ts = do
  p ← next_place ts
  o ← read_opening room c.Open p.1
  a ← read_term o.0.0 o.1
  m ← expect c.Comma a.1
  e ← read_term o.0.0 m.1
  n ← expect c.Comma e.1
  f ← read_term o.0.0 n.1
  q ← expect c.Close f.1
  Ok (cas p.0 o.0.1 a.0 m.0 e.0 n.0 f.0 q.0, q.1)

abbrev pub read_faa : ℕ → Reader ValueTree
read_faa room ts = do
  p ← next_place ts
  o ← read_opening room c.Open p.1
  a ← read_term o.0.0 o.1
  m ← expect c.Comma a.1
  e ← read_term o.0.0 m.1
  q ← expect c.Close e.1
  Ok (faa p.0 o.0.1 a.0 m.0 e.0 q.0, q.1)

-- a name, behind which a call's arguments or more of a term come
abbrev pub named_value_by : ℕ → Word → Class → Reader ValueTree
named_value_by room w c.Open ts = do
  l ← read_terms room ts
  Ok (result_of w l.0, l.1)
named_value_by room w k ts = do
  t ← read_term_from (bracketed_at room) None (named w) ts
  Ok (value t.0, t.1)

abbrev pub read_named_value : ℕ → Word → Reader ValueTree
read_named_value room w ts = named_value_by room w (ahead ts) ts

abbrev pub value_by : ℕ → Class → Reader ValueTree
value_by room c.OpenBracket ts = read_load room ts
value_by room c.Alloc ts = read_alloc room ts
value_by room c.Cas ts = read_cas room ts
value_by room c.Faa ts = read_faa room ts
value_by room c.Name ts = do
  w ← next_word ts
  read_named_value room w.0 w.1
value_by room k ts = do
  t ← read_term room ts
  Ok (value t.0, t.1)

abbrev pub read_value : ℕ → Reader ValueTree
read_value room ts = value_by room (ahead ts) ts

-- a name, behind which a value or a call's arguments come
abbrev pub named_statement_by : ℕ → Word → Class → Reader StatementTree
named_statement_by room w c.Becomes ts = do
  p ← next_place ts
  v ← read_value room p.1
  e ← expect c.Semicolon v.1
  Ok (assign w p.0 v.0 e.0, e.1)
named_statement_by room w c.Open ts = do
  l ← read_terms room ts
  e ← expect c.Semicolon l.1
  Ok (call w l.0 e.0, e.1)
named_statement_by room w k ts = Err (unexpected ts)

abbrev pub read_named_statement : ℕ → Word → Reader StatementTree
read_named_statement room w ts = named_statement_by room w (ahead ts) ts

abbrev pub read_store : ℕ → Reader StatementTree
read_store room ts = do
  o ← read_opening room c.OpenBracket ts
  a ← read_term o.0.0 o.1
  q ← expect c.CloseBracket a.1
  r ← expect c.Becomes q.1
  t ← read_term room r.1
  e ← expect c.Semicolon t.1
  Ok (store o.0.1 a.0 q.0 r.0 t.0 e.0, e.1)

abbrev pub read_fork : ℕ → Reader StatementTree
read_fork room ts = do
  p ← next_place ts
  w ← read_name p.1
  l ← read_terms room w.1
  e ← expect c.Semicolon l.1
  Ok (fork p.0 w.0 l.0 e.0, e.1)

abbrev pub read_else : Reader BlockTree → Reader ElseTree
read_else blocks ts = do
  p ← next_place ts
  b ← blocks p.1
  Ok (else_block p.0 b.0, b.1)

abbrev pub read_branch : Reader BlockTree → ℕ → Reader StatementTree
read_branch blocks room ts = do
  p ← next_place ts
  o ← read_opening room c.Open p.1
  k ← read_comparison o.0.0 o.1
  r ← expect c.Close k.1
  b ← blocks r.1
  e ← read_optional (are_same c.Else) (read_else blocks) b.1
  Ok (branch p.0 o.0.1 k.0 r.0 b.0 (else_of e.0), e.1)

abbrev pub read_loop : Reader BlockTree → ℕ → Reader StatementTree
read_loop blocks room ts = do
  p ← next_place ts
  o ← read_opening room c.Open p.1
  k ← read_comparison o.0.0 o.1
  r ← expect c.Close k.1
  i ← read_optional (are_same c.Invariant) (read_clause room c.Invariant) r.1
  b ← blocks i.1
  Ok (loop p.0 o.0.1 k.0 r.0 i.0 b.0, b.1)

abbrev pub read_check : ℕ → Reader StatementTree
read_check room ts = do
  p ← next_place ts
  k ← read_comparison room p.1
  e ← expect c.Semicolon k.1
  Ok (check p.0 k.0 e.0, e.1)

abbrev pub read_give_back : ℕ → Reader StatementTree
read_give_back room ts = do
  p ← next_place ts
  t ← read_optional (λ a. not (are_same c.Semicolon a)) (read_term room) p.1
  e ← expect c.Semicolon t.1
  Ok (give_back p.0 t.0 e.0, e.1)

abbrev pub read_dispose : ℕ → Reader StatementTree
read_dispose room ts = do
  p ← next_place ts
  o ← read_opening room c.Open p.1
  t ← read_term o.0.0 o.1
  q ← expect c.Close t.1
  e ← expect c.Semicolon q.1
  Ok (dispose p.0 o.0.1 t.0 q.0 e.0, e.1)

abbrev pub statement_by : Reader BlockTree → ℕ → Class → Reader StatementTree
statement_by blocks room c.Name ts = do
  w ← next_word ts
  read_named_statement room w.0 w.1
statement_by blocks room c.OpenBracket ts = read_store room ts
statement_by blocks room c.Fork ts = read_fork room ts
statement_by blocks room c.If ts = read_branch blocks room ts
statement_by blocks room c.While ts = read_loop blocks room ts
statement_by blocks room c.Assert ts = read_check room ts
statement_by blocks room c.Return ts = read_give_back room ts
statement_by blocks room c.Dispose ts = read_dispose room ts
statement_by blocks room k ts = Err (unexpected ts)

abbrev pub read_statement : Reader BlockTree → ℕ → Reader StatementTree
read_statement blocks room ts = statement_by blocks room (ahead ts) ts

abbrev pub read_block_with : Reader StatementTree → Reader BlockTree
read_block_with one ts = do
  p ← expect c.OpenBrace ts
  ss ← read_until c.CloseBrace one p.1
  q ← expect c.CloseBrace ss.1
  Ok (block p.0 (statements_of ss.0) q.0, q.1)

abbrev pub block_at : ℕ → Reader BlockTree
block_at zero ts = no_room c.OpenBrace ts
block_at (suc room) ts = read_block_with (read_statement (block_at room) room) ts

-- region types

abbrev pub read_indexed : ℕ → Reader DeclaredTree
read_indexed room ts = do
  o ← read_opening room c.Index ts
  w ← read_name o.1
  q ← expect c.CloseBracket w.1
  Ok (indexed o.0.1 w.0 q.0, q.1)

abbrev pub declared_by : ℕ → Reader DeclaredTree → Class → Reader DeclaredTree
declared_by room bracket c.Name ts = do
  w ← next_word ts
  Ok (unique w.0, w.1)
declared_by room bracket c.Percent ts = do
  p ← next_place ts
  w ← read_name p.1
  Ok (divisible p.0 w.0, w.1)
declared_by room bracket c.Bar ts = do
  p ← next_place ts
  w ← read_name p.1
  q ← expect c.Bar w.1
  Ok (counting p.0 w.0 q.0, q.1)
declared_by room bracket c.Index ts = read_indexed room ts
declared_by room bracket k ts = bracket ts

abbrev pub read_declared : ℕ → Reader DeclaredTree → Reader DeclaredTree
read_declared room bracket ts = declared_by room bracket (ahead ts) ts

abbrev pub read_joint : ℕ → Reader DeclaredTree → Reader JointTree
read_joint room bracket ts = do
  d ← read_declared room bracket ts
  more ← read_more c.Star (read_declared room bracket) d.1
  Ok (joint d.0 (declareds_of more.0), more.1)

abbrev pub read_algebra_with : ℕ → Reader DeclaredTree → Reader AlgebraTree
read_algebra_with room bracket ts = do
  j ← read_joint room bracket ts
  more ← read_more c.Plus (read_joint room bracket) j.1
  Ok (algebra j.0 (joints_of more.0), more.1)

abbrev pub read_grouped : Reader AlgebraTree → Reader DeclaredTree
read_grouped inner ts = do
  p ← expect c.Open ts
  a ← inner p.1
  q ← expect c.Close a.1
  Ok (grouped p.0 a.0 q.0, q.1)

abbrev pub grouped_at : ℕ → Reader DeclaredTree
grouped_at zero ts = no_room c.Open ts
grouped_at (suc room) ts = read_grouped (read_algebra_with room (grouped_at room)) ts

abbrev pub read_algebra : ℕ → Reader AlgebraTree
read_algebra room = read_algebra_with room (grouped_at room)

abbrev pub read_when : ℕ → Reader WhenTree
read_when room ts = do
  p ← expect c.When ts
  ks ← read_several c.Comma (read_comparison room) p.1
  Ok (record { key = p.0; comparisons = ks.0 }, ks.1)

abbrev pub read_optional_when : ℕ → Reader (Option WhenTree)
read_optional_when room = read_optional (are_same c.When) (read_when room)

abbrev pub read_case : ℕ → Reader CaseTree
read_case room ts = do
  s ← read_term room ts
  w ← read_optional_when room s.1
  p ← expect c.Colon w.1
  a ← read_assertion room p.1
  e ← expect c.Semicolon a.1
  Ok (record { state = s.0; when = w.0; colon = p.0; assertion = a.0; semicolon = e.0 }, e.1)

abbrev pub read_action : ℕ → Reader ActionTree
read_action room ts = do
  g ← read_guards room ts
  p ← expect c.Colon g.1
  s ← read_term room p.1
  q ← expect c.LeadsTo s.1
  t ← read_term room q.1
  w ← read_optional_when room t.1
  e ← expect c.Semicolon w.1
  Ok (
    record {
      guards = g.0;
      colon = p.0;
      source = s.0;
      arrow = q.0;
      target = t.0;
      when = w.0;
      semicolon = e.0;
    },
    e.1,
  )

-- the head of a region type, behind its keyword
pub record HeadTree : Type 0 where
  pub name : Word
  pub before : Place
  pub parameters : Several Word
  pub behind : Place

abbrev pub read_head : ℕ → Reader HeadTree
read_head room ts = do
  w ← read_name ts
  o ← read_opening room c.Open w.1
  ps ← read_several c.Comma read_name o.1
  q ← expect c.Close ps.1
  Ok (record { name = w.0; before = o.0.1; parameters = ps.0; behind = q.0 }, q.1)

-- the body of a region type, behind its head and in the brace at this place
abbrev pub read_region_body : ℕ → Place → HeadTree → Place → Reader RegionTree
read_region_body room key head brace ts = do
  g ← expect c.Guards ts
  a ← read_algebra room g.1
  e ← expect c.Semicolon a.1
  cases ← read_group room c.Interpretation read_case e.1
  actions ← read_group room c.Actions read_action cases.1
  q ← expect c.CloseBrace actions.1
  Ok (
    record {
      key = key;
      name = head.name;
      before = head.before;
      parameters = head.parameters;
      behind = head.behind;
      brace = brace;
      guards = g.0;
      algebra = a.0;
      semicolon = e.0;
      cases = cases.0;
      actions = actions.0;
      end = q.0;
    },
    q.1,
  )

abbrev pub read_region : ℕ → Reader RegionTree
read_region room ts = do
  key ← next_place ts
  head ← read_head room key.1
  brace ← read_opening room c.OpenBrace head.1
  read_region_body brace.0.0 key.0 head.0 brace.0.1 brace.1

abbrev pub read_function : ℕ → Reader FunctionTree
read_function room ts = do
  key ← next_place ts
  w ← read_name key.1
  ps ← read_listed room (λ inner. read_name) w.1
  pre ← read_optional (are_same c.Requires) (read_clause room c.Requires) ps.1
  post ← read_optional (are_same c.Ensures) (read_clause room c.Ensures) pre.1
  b ← block_at room post.1
  Ok (
    record {
      key = key.0;
      name = w.0;
      parameters = ps.0;
      precondition = pre.0;
      postcondition = post.0;
      body = b.0;
    },
    b.1,
  )

abbrev pub declaration_by : ℕ → Class → Reader DeclarationTree
declaration_by room c.Region ts = do
  r ← read_region room ts
  Ok (region r.0, r.1)
declaration_by room c.Function ts = do
  f ← read_function room ts
  Ok (function f.0, f.1)
declaration_by room k ts = Err (unexpected ts)

abbrev pub read_declaration : ℕ → Reader DeclarationTree
read_declaration room ts = declaration_by room (ahead ts) ts

-- in front of a text of the second version
abbrev pub read_header : Reader Header
read_header ts = do
  p ← expect c.Caper ts
  q ← expect c.Two p.1
  e ← expect c.Semicolon q.1
  Ok (record { key = p.0; version = q.0; semicolon = e.0 }, e.1)

abbrev pub read_parts : ℕ → Reader (Option Header × List DeclarationTree)
read_parts room ts = do
  h ← read_optional (are_same c.Caper) read_header ts
  ds ← read_until c.End (read_declaration room) h.1
  Ok ((h.0, ds.0), ds.1)

-- the whole text, where so many brackets may be open at once
abbrev pub read_program : ℕ → List Token → Result ProgramTree Fault
read_program room ts = do
  x ← read_parts room ts
  Ok (record { header = x.0.0; declarations = x.0.1 })
