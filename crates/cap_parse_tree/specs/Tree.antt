-- Trees as plain data: one type for each production of the grammar. A constructor has, in the order of
-- the text, the places of its own tokens and its parts.
use Rattle.std.specs.Prelude.{List, [], ◌∷◌, map, Option, Some, None}
use Rattle.cap_syntax.specs.declared.place.Place.{Place}
use Rattle.cap_parse_tree.specs.declared.word.Word.{Word}
use Rattle.cap_parse_tree.specs.declared.word.Literal.{Literal}
use Rattle.cap_parse_tree.specs.declared.term.Sign.{Sign}
use Rattle.cap_parse_tree.specs.declared.term.Relation.{Relation}
use Rattle.cap_parse_tree.specs.declared.assertion.Counted.{Counted}
use Rattle.cap_parse_tree.specs.declared.tree.Header.{Header}

-- A { "," A }, A { "*" A }: a part, and others, each behind the place of its separator
pub record Several (A : Type 0) : Type 0 where
  pub first : A
  pub more : List (Place × A)

abbrev pub parts_of : {A : Type 0} → Several A → List A
parts_of s = s.first ∷ map (λ m. m.1) s.more

-- "(" [ A { "," A } ] ")"
pub record InParentheses (A : Type 0) : Type 0 where
  pub before : Place
  pub parts : Option (Several A)
  pub behind : Place

abbrev pub parts_or_none : {A : Type 0} → Option (Several A) → List A
parts_or_none None = []
parts_or_none (Some s) = parts_of s

abbrev pub listed_parts : {A : Type 0} → InParentheses A → List A
listed_parts l = parts_or_none l.parts

-- a keyword, and { A } in braces
pub record InBraces (A : Type 0) : Type 0 where
  pub key : Place
  pub before : Place
  pub parts : List A
  pub behind : Place

-- factor = NUMBER | "1p" | NAME | "(" term ")"
-- mono = factor { "*" factor }
-- term = [ "-" ] mono { ( "+" | "-" ) mono }
mutual
  pub data FactorTree : Type 0 where
    literal : Literal → FactorTree
    whole_share : Place → FactorTree
    named : Word → FactorTree
    bracketed : Place → TermTree → Place → FactorTree

  pub data ProductTree : Type 0 where
    product : FactorTree → FactorTrees → ProductTree

  pub data FactorTrees : Type 0 where
    no_factor : FactorTrees
    times : Place → FactorTree → FactorTrees → FactorTrees

  pub data TermTree : Type 0 where
    term : Option Place → ProductTree → ProductTrees → TermTree

  pub data ProductTrees : Type 0 where
    no_product : ProductTrees
    signed : Sign → Place → ProductTree → ProductTrees → ProductTrees

-- comp = term ( "=" | "!=" | "<" | "<=" | ">" | ">=" ) term
pub record ComparisonTree : Type 0 where
  pub left : TermTree
  pub relation : Relation
  pub place : Place
  pub right : TermTree

-- slot = "_" | term
pub data SlotTree : Type 0 where
  any : Place → SlotTree
  is : TermTree → SlotTree

-- gatom = NAME [ "[" slot "]" ] | ( "src" | "tok" | "at" | "from" ) NAME "[" slot "]"
pub data GuardTree : Type 0 where
  alone : Word → GuardTree
  amount : Word → Place → SlotTree → Place → GuardTree
  count : Counted → Place → Word → Place → SlotTree → Place → GuardTree

-- guards = gatom { "*" gatom }
abbrev pub GuardsTree : Type 0
GuardsTree = Several GuardTree

-- guards | "(" guards ")"
pub data HeldTree : Type 0 where
  bare : GuardsTree → HeldTree
  in_parentheses : Place → GuardsTree → Place → HeldTree

-- item = "true" | "false" | NAME "(" NAME { "," slot } ";" slot ")" | NAME "@" held | term "|->" slot
--      | comp [ "?" "{" assertion "}" ":" "{" assertion "}" ]
-- assertion = item { "&*&" item }
mutual
  pub data ItemTree : Type 0 where
    holds : Place → ItemTree
    fails : Place → ItemTree
    fact : Word → Place → Word → List (Place × SlotTree) → Place → SlotTree → Place → ItemTree
    guards : Word → Place → HeldTree → ItemTree
    cell : TermTree → Place → SlotTree → ItemTree
    compare : ComparisonTree → ItemTree
    choose : ComparisonTree → Place → SideTree → Place → SideTree → ItemTree

  pub data ItemTrees : Type 0 where
    no_item : ItemTrees
    and_item : Place → ItemTree → ItemTrees → ItemTrees

  pub data AssertionTree : Type 0 where
    assertion : ItemTree → ItemTrees → AssertionTree

  pub data SideTree : Type 0 where
    side : Place → AssertionTree → Place → SideTree

-- a keyword, and assertion ";"
pub record ClauseTree : Type 0 where
  pub key : Place
  pub assertion : AssertionTree
  pub semicolon : Place

-- rhs = term | "[" term "]" | "alloc" "(" NUMBER ")" | "CAS" "(" term "," term "," term ")"
--     | NAME "(" [ term { "," term } ] ")"
pub data ValueTree : Type 0 where
  value : TermTree → ValueTree
  load : Place → TermTree → Place → ValueTree
  alloc : Place → Place → Literal → Place → ValueTree
  cas : Place → Place → TermTree → Place → TermTree → Place → TermTree → Place → ValueTree
  faa : Place → Place → TermTree → Place → TermTree → Place → ValueTree
  result_of : Word → InParentheses TermTree → ValueTree

-- stmt = NAME ":=" rhs ";" | "[" term "]" ":=" term ";" | NAME "(" [ term { "," term } ] ")" ";"
--      | "fork" NAME "(" [ term { "," term } ] ")" ";" | "if" "(" comp ")" block [ "else" block ]
--      | "while" "(" comp ")" [ "invariant" assertion ";" ] block | "assert" comp ";"
--      | "return" [ term ] ";" | "dispose" "(" term ")" ";"
-- block = "{" { stmt } "}"
mutual
  pub data StatementTree : Type 0 where
    assign : Word → Place → ValueTree → Place → StatementTree
    store : Place → TermTree → Place → Place → TermTree → Place → StatementTree
    call : Word → InParentheses TermTree → Place → StatementTree
    fork : Place → Word → InParentheses TermTree → Place → StatementTree
    branch : Place → Place → ComparisonTree → Place → BlockTree → ElseTree → StatementTree
    loop : Place → Place → ComparisonTree → Place → Option ClauseTree → BlockTree → StatementTree
    check : Place → ComparisonTree → Place → StatementTree
    give_back : Place → Option TermTree → Place → StatementTree
    dispose : Place → Place → TermTree → Place → Place → StatementTree

  pub data ElseTree : Type 0 where
    no_else : ElseTree
    else_block : Place → BlockTree → ElseTree

  pub data StatementTrees : Type 0 where
    no_statement : StatementTrees
    then_statement : StatementTree → StatementTrees → StatementTrees

  pub data BlockTree : Type 0 where
    block : Place → StatementTrees → Place → BlockTree

-- galg = NAME | "%" NAME | "|" NAME "|" | "[" NAME "]" | "(" algebra ")"
-- product = galg { "*" galg }
-- algebra = product { "+" product }
mutual
  pub data DeclaredTree : Type 0 where
    unique : Word → DeclaredTree
    divisible : Place → Word → DeclaredTree
    counting : Place → Word → Place → DeclaredTree
    indexed : Place → Word → Place → DeclaredTree
    grouped : Place → AlgebraTree → Place → DeclaredTree

  pub data DeclaredTrees : Type 0 where
    no_declared : DeclaredTrees
    and_declared : Place → DeclaredTree → DeclaredTrees → DeclaredTrees

  pub data JointTree : Type 0 where
    joint : DeclaredTree → DeclaredTrees → JointTree

  pub data JointTrees : Type 0 where
    no_joint : JointTrees
    or_joint : Place → JointTree → JointTrees → JointTrees

  pub data AlgebraTree : Type 0 where
    algebra : JointTree → JointTrees → AlgebraTree

-- "when" comp { "," comp }
pub record WhenTree : Type 0 where
  pub key : Place
  pub comparisons : Several ComparisonTree

-- case = term [ when ] ":" assertion ";"
pub record CaseTree : Type 0 where
  pub state : TermTree
  pub when : Option WhenTree
  pub colon : Place
  pub assertion : AssertionTree
  pub semicolon : Place

-- action = guards ":" term "~>" term [ when ] ";"
pub record ActionTree : Type 0 where
  pub guards : GuardsTree
  pub colon : Place
  pub source : TermTree
  pub arrow : Place
  pub target : TermTree
  pub when : Option WhenTree
  pub semicolon : Place

-- region = "region" NAME "(" NAME { "," NAME } ")" "{" "guards" algebra ";"
--          "interpretation" "{" { case } "}" "actions" "{" { action } "}" "}"
pub record RegionTree : Type 0 where
  pub key : Place
  pub name : Word
  pub before : Place
  pub parameters : Several Word
  pub behind : Place
  pub brace : Place
  pub guards : Place
  pub algebra : AlgebraTree
  pub semicolon : Place
  pub cases : InBraces CaseTree
  pub actions : InBraces ActionTree
  pub end : Place

-- function = "function" NAME "(" [ NAME { "," NAME } ] ")"
--            [ "requires" assertion ";" ] [ "ensures" assertion ";" ] block
pub record FunctionTree : Type 0 where
  pub key : Place
  pub name : Word
  pub parameters : InParentheses Word
  pub precondition : Option ClauseTree
  pub postcondition : Option ClauseTree
  pub body : BlockTree

pub data DeclarationTree : Type 0 where
  region : RegionTree → DeclarationTree
  function : FunctionTree → DeclarationTree

-- program = { region | function }
pub record ProgramTree : Type 0 where
  pub header : Option Header
  pub declarations : List DeclarationTree
