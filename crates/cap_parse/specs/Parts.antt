-- Parts of productions that are read by functions of their own. Only private functions cite this.
use Rattle.std.specs.Prelude.{ℕ, List, Option, map, option_map, Ok}
use Rattle.cap_syntax.specs.declared.place.Place.{Place}
use Rattle.cap_parse_tree.specs.declared.word.Word.{Word}
use Rattle.cap_parse_tree.specs.declared.list.Separated.{Separated}
use Rattle.cap_parse_tree.specs.declared.term.Term.{Term}
use Rattle.cap_parse_tree.specs.declared.assertion.GuardAtom.{GuardAtom}
use Rattle.cap_parse_tree.specs.declared.region.When.{When}
use Rattle.cap_parse_tree.specs.Tree.{TermTree, ComparisonTree, SlotTree, GuardsTree, SideTree, DeclaredTree, divisible, counting, WhenTree}
use Rattle.cap_parse_tree.specs.Views.{behind_view, several_view, term_view, comparison_view, slot_view, guard_view, side_view, when_view}
use Rattle.cap_parse_laws.specs.declared.class.Class.TheVariants as c
use Rattle.cap_parse_laws.specs.Readers.{Reader, ◌>>=◌, next_place, expect, read_name, read_opening, read_more}
use Rattle.cap_parse_laws.specs.Grammar.{read_term, read_comparison, read_slot, read_guards, read_optional_when}
use Rattle.cap_parse.specs.declared.term.TermInBrackets.{TermInBrackets}
use Rattle.cap_parse.specs.declared.term.SlotInBrackets.{SlotInBrackets}
use Rattle.cap_parse.specs.declared.assertion.FactFront.{FactFront}
use Rattle.cap_parse.specs.declared.assertion.Sides.{Sides}
use Rattle.cap_parse.specs.declared.statement.Operands.{Operands}
use Rattle.cap_parse.specs.declared.statement.Condition.{Condition}
use Rattle.cap_parse.specs.declared.region.CaseHead.{CaseHead}
use Rattle.cap_parse.specs.declared.region.Transition.{Transition}

-- terms and slots in square brackets

abbrev pub term_in_brackets_view : TermInBrackets → Place × TermTree × Place
term_in_brackets_view b = (b.«open», term_view b.term, b.close)

abbrev pub read_term_in_brackets : ℕ → Reader (Place × TermTree × Place)
read_term_in_brackets room ts = do
  o ← read_opening room c.OpenBracket ts
  t ← read_term o.0.0 o.1
  q ← expect c.CloseBracket t.1
  Ok ((o.0.1, t.0, q.0), q.1)

abbrev pub slot_in_brackets_view : SlotInBrackets → Place × SlotTree × Place
slot_in_brackets_view b = (b.«open», slot_view b.slot, b.close)

abbrev pub read_slot_in_brackets : ℕ → Reader (Place × SlotTree × Place)
read_slot_in_brackets room ts = do
  o ← read_opening room c.OpenBracket ts
  s ← read_slot o.0.0 o.1
  q ← expect c.CloseBracket s.1
  Ok ((o.0.1, s.0, q.0), q.1)

-- a fact's region and arguments, and the semicolon behind them

abbrev pub fact_front_view : FactFront → Word × List (Place × SlotTree) × Place
fact_front_view f = (f.region, map (behind_view slot_view) f.arguments.items, f.semicolon)

abbrev pub read_fact_front : ℕ → Reader (Word × List (Place × SlotTree) × Place)
read_fact_front room ts = do
  r ← read_name ts
  arguments ← read_more c.Comma (read_slot room) r.1
  q ← expect c.Semicolon arguments.1
  Ok ((r.0, arguments.0, q.0), q.1)

-- `?`, and two sides with a colon between them

abbrev pub sides_view : Sides → Place × SideTree × Place × SideTree
sides_view s = (s.question, side_view s.holds, s.colon, side_view s.fails)

abbrev pub read_sides : Reader SideTree → Reader (Place × SideTree × Place × SideTree)
read_sides one ts = do
  p ← next_place ts
  a ← one p.1
  q ← expect c.Colon a.1
  b ← one q.1
  Ok ((p.0, a.0, q.0, b.0), b.1)

-- a term and a comma, and the three terms of a CAS

abbrev pub operand_view : Term × Place → TermTree × Place
operand_view t = (term_view t.0, t.1)

abbrev pub read_operand : ℕ → Reader (TermTree × Place)
read_operand room ts = do
  t ← read_term room ts
  m ← expect c.Comma t.1
  Ok ((t.0, m.0), m.1)

abbrev pub operands_view : Operands → TermTree × Place × TermTree × Place × TermTree
operands_view o = (term_view o.address, o.first, term_view o.expected, o.second, term_view o.new)

abbrev pub read_operands : ℕ → Reader (TermTree × Place × TermTree × Place × TermTree)
read_operands room ts = do
  a ← read_term room ts
  m ← expect c.Comma a.1
  e ← read_term room m.1
  n ← expect c.Comma e.1
  f ← read_term room n.1
  Ok ((a.0, m.0, e.0, n.0, f.0), f.1)

-- a keyword, and a comparison in parentheses

abbrev pub condition_view : Condition → Place × Place × ComparisonTree × Place
condition_view k = (k.key, k.«open», comparison_view k.comparison, k.close)

abbrev pub read_condition : ℕ → Reader (Place × Place × ComparisonTree × Place)
read_condition room ts = do
  p ← next_place ts
  o ← read_opening room c.Open p.1
  k ← read_comparison o.0.0 o.1
  r ← expect c.Close k.1
  Ok ((p.0, o.0.1, k.0, r.0), r.1)

-- a declared guard behind `%` and between bars

abbrev pub read_divisible : Reader DeclaredTree
read_divisible ts = do
  p ← next_place ts
  w ← read_name p.1
  Ok (divisible p.0 w.0, w.1)

abbrev pub read_counting : Reader DeclaredTree
read_counting ts = do
  p ← next_place ts
  w ← read_name p.1
  q ← expect c.Bar w.1
  Ok (counting p.0 w.0 q.0, q.1)

-- the parts of cases and actions

abbrev pub case_head_view : CaseHead → TermTree × Option WhenTree × Place
case_head_view h = (term_view h.state, option_map when_view h.when, h.colon)

abbrev pub read_case_head : ℕ → Reader (TermTree × Option WhenTree × Place)
read_case_head room ts = do
  s ← read_term room ts
  w ← read_optional_when room s.1
  p ← expect c.Colon w.1
  Ok ((s.0, w.0, p.0), p.1)

abbrev pub action_guards_view : Separated GuardAtom × Place → GuardsTree × Place
action_guards_view g = (several_view guard_view g.0, g.1)

abbrev pub read_action_guards : ℕ → Reader (GuardsTree × Place)
read_action_guards room ts = do
  g ← read_guards room ts
  p ← expect c.Colon g.1
  Ok ((g.0, p.0), p.1)

abbrev pub transition_view : Transition → TermTree × Place × TermTree
transition_view t = (term_view t.source, t.arrow, term_view t.target)

abbrev pub read_transition : ℕ → Reader (TermTree × Place × TermTree)
read_transition room ts = do
  s ← read_term room ts
  q ← expect c.LeadsTo s.1
  t ← read_term room q.1
  Ok ((s.0, q.0, t.0), t.1)

abbrev pub action_end_view : Option When × Place → Option WhenTree × Place
action_end_view e = (option_map when_view e.0, e.1)

abbrev pub read_action_end : ℕ → Reader (Option WhenTree × Place)
read_action_end room ts = do
  w ← read_optional_when room ts
  e ← expect c.Semicolon w.1
  Ok ((w.0, e.0), e.1)
