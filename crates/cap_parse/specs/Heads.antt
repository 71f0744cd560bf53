-- The heads and the bodies of region types, and the parts of functions. Only private functions cite this.
use Rattle.std.specs.Prelude.{ℕ, Option, Ok, option_map}
use Rattle.cap_syntax.specs.declared.place.Place.{Place}
use Rattle.cap_parse_tree.specs.declared.word.Word.{Word}
use Rattle.cap_parse_tree.specs.Tree.{InParentheses, InBraces, ClauseTree, BlockTree, AlgebraTree, CaseTree, ActionTree, RegionTree, FunctionTree}
use Rattle.cap_parse_tree.specs.Views.{several_view, listed_view, group_view, word_view, clause_view, algebra_view, case_view, action_view}
use Rattle.cap_parse_laws.specs.declared.class.Class.{Class}
use Rattle.cap_parse_laws.specs.declared.class.Class.TheVariants as c
use Rattle.cap_parse_laws.specs.Classes.{are_same}
use Rattle.cap_parse_laws.specs.Readers.{Reader, ◌>>=◌, next_place, expect, read_name, read_listed, read_optional, read_group}
use Rattle.cap_parse_laws.specs.Grammar.{HeadTree, read_algebra, read_case, read_action, read_clause, block_at}
use Rattle.cap_parse.specs.declared.region.Head.{Head}
use Rattle.cap_parse.specs.declared.region.Guarded.{Guarded}
use Rattle.cap_parse.specs.declared.region.RegionBody.{RegionBody}
use Rattle.cap_parse.specs.declared.program.FunctionHead.{FunctionHead}
use Rattle.cap_parse.specs.declared.program.Contract.{Contract}

abbrev pub head_view : Head → HeadTree
head_view h = record {
  name = h.name;
  before = h.«open»;
  parameters = several_view word_view h.parameters;
  behind = h.close;
}

-- `guards`, an algebra and a semicolon

abbrev pub guarded_view : Guarded → Place × AlgebraTree × Place
guarded_view g = (g.guards, algebra_view g.algebra, g.semicolon)

abbrev pub read_guarded : ℕ → Reader (Place × AlgebraTree × Place)
read_guarded room ts = do
  g ← expect c.Guards ts
  a ← read_algebra room g.1
  e ← expect c.Semicolon a.1
  Ok ((g.0, a.0, e.0), e.1)

-- what stands in the braces of a region type, and the closing one
pub record RegionBodyTree : Type 0 where
  pub guarded : Place × AlgebraTree × Place
  pub cases : InBraces CaseTree
  pub actions : InBraces ActionTree
  pub end : Place

abbrev pub region_body_view : RegionBody → RegionBodyTree
region_body_view b = record {
  guarded = guarded_view b.guarded;
  cases = group_view case_view b.cases;
  actions = group_view action_view b.actions;
  end = b.end;
}

abbrev pub read_region_parts : ℕ → Reader RegionBodyTree
read_region_parts room ts = do
  g ← read_guarded room ts
  cases ← read_group room c.Interpretation read_case g.1
  actions ← read_group room c.Actions read_action cases.1
  q ← expect c.CloseBrace actions.1
  Ok (record { guarded = g.0; cases = cases.0; actions = actions.0; end = q.0 }, q.1)

-- the region type of a keyword, a head, an opening brace and what stands behind it
abbrev pub region_tree : Place → HeadTree → Place → RegionBodyTree → RegionTree
region_tree key head brace body = record {
  key = key;
  name = head.name;
  before = head.before;
  parameters = head.parameters;
  behind = head.behind;
  brace = brace;
  guards = body.guarded.0;
  algebra = body.guarded.1;
  semicolon = body.guarded.2;
  cases = body.cases;
  actions = body.actions;
  end = body.end;
}

-- a function's keyword, name and parameters
pub record FunctionHeadTree : Type 0 where
  pub key : Place
  pub name : Word
  pub parameters : InParentheses Word

abbrev pub function_head_view : FunctionHead → FunctionHeadTree
function_head_view h = record { key = h.key; name = h.name; parameters = listed_view word_view h.parameters }

abbrev pub read_function_head : ℕ → Reader FunctionHeadTree
read_function_head room ts = do
  key ← next_place ts
  w ← read_name key.1
  ps ← read_listed room (λ inner. read_name) w.1
  Ok (record { key = key.0; name = w.0; parameters = ps.0 }, ps.1)

-- A clause and a block, as the grammar reads them, under names of their own: a proof that goes through
-- several of them need not look into each.
unfoldable pub read_whole_clause : ℕ → Class → Reader ClauseTree
read_whole_clause = read_clause

unfoldable pub read_whole_block : ℕ → Reader BlockTree
read_whole_block = block_at

-- what a function requires and ensures
abbrev pub contract_view : Contract → Option ClauseTree × Option ClauseTree
contract_view k = (option_map clause_view k.precondition, option_map clause_view k.postcondition)

abbrev pub read_contract : ℕ → Reader (Option ClauseTree × Option ClauseTree)
read_contract room ts = do
  pre ← read_optional (are_same c.Requires) (read_whole_clause room c.Requires) ts
  post ← read_optional (are_same c.Ensures) (read_whole_clause room c.Ensures) pre.1
  Ok ((pre.0, post.0), post.1)

-- the function of a head, a contract and a body
abbrev pub function_tree : FunctionHeadTree → Option ClauseTree × Option ClauseTree → BlockTree → FunctionTree
function_tree h k b = record {
  key = h.key;
  name = h.name;
  parameters = h.parameters;
  precondition = k.0;
  postcondition = k.1;
  body = b;
}
