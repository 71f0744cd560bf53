-- The tokens that spell a tree, one case for each production, each in front of what follows.
use Rattle.std.specs.Prelude.{ℕ, List, [], ◌∷◌, Option, Some, None, codes}
use Rattle.cap_syntax.specs.declared.place.Place.{Place}
use Rattle.cap_syntax.specs.declared.token.Token.{Token}
use Rattle.cap_parse_tree.specs.declared.word.Word.{Word}
use Rattle.cap_parse_tree.specs.declared.term.Sign.{Sign}
use Rattle.cap_parse_tree.specs.declared.term.Sign.TheVariants.{Plus, Minus}
use Rattle.cap_parse_tree.specs.declared.term.Relation.{Relation}
use Rattle.cap_parse_tree.specs.declared.term.Relation.TheVariants.{Equal, Unequal, Less, AtMost, Greater, AtLeast}
use Rattle.cap_parse_tree.specs.declared.assertion.Counted.{Counted}
use Rattle.cap_parse_tree.specs.declared.tree.Header.{Header}
use Rattle.cap_parse_tree.specs.declared.assertion.Counted.TheVariants.{Source, Tokens, At, From}
use Rattle.cap_parse_tree.specs.Tree.{Several, InParentheses, InBraces, FactorTree, literal, whole_share, named, bracketed, ProductTree, product, FactorTrees, no_factor, times, TermTree, term, ProductTrees, no_product, signed, ComparisonTree, SlotTree, any, is, GuardTree, alone, amount, count, GuardsTree, HeldTree, bare, in_parentheses, ItemTree, holds, fails, fact, guards, cell, compare, choose, ItemTrees, no_item, and_item, AssertionTree, assertion, SideTree, side, ClauseTree, ValueTree, value, load, alloc, cas, faa, result_of, StatementTree, assign, store, call, fork, branch, loop, check, give_back, dispose, ElseTree, no_else, else_block, StatementTrees, no_statement, then_statement, BlockTree, block, DeclaredTree, unique, divisible, counting, indexed, grouped, DeclaredTrees, no_declared, and_declared, JointTree, joint, JointTrees, no_joint, or_joint, AlgebraTree, algebra, WhenTree, CaseTree, ActionTree, RegionTree, FunctionTree, DeclarationTree, region, function, ProgramTree}
use Rattle.cap_parse_tree.specs.Tokens.{name, number, share, wildcard, keyword, symbol}

-- what a part spells, in front of what follows
abbrev pub Spells : Type 0 → Type 0
Spells A = A → List Token → List Token

-- lists of parts, and parts that may be absent

abbrev pub spell_all : {A : Type 0} → Spells A → Spells (List A)
spell_all spell [] ts = ts
spell_all spell (a ∷ more) ts = spell a (spell_all spell more ts)

-- the separator's text
abbrev pub spell_behind : {A : Type 0} → List ℕ → Spells A → Spells (Place × A)
spell_behind separator spell a ts = symbol separator a.0 ∷ spell a.1 ts

abbrev pub spell_more : {A : Type 0} → List ℕ → Spells A → Spells (List (Place × A))
spell_more separator spell = spell_all (spell_behind separator spell)

abbrev pub spell_several : {A : Type 0} → List ℕ → Spells A → Spells (Several A)
spell_several separator spell s ts = spell s.first (spell_more separator spell s.more ts)

abbrev pub spell_option : {A : Type 0} → Spells A → Spells (Option A)
spell_option spell None ts = ts
spell_option spell (Some a) ts = spell a ts

abbrev pub spell_listed : {A : Type 0} → Spells A → Spells (InParentheses A)
spell_listed spell l ts =
    symbol (codes "(") l.before
    ∷ spell_option (spell_several (codes ",") spell) l.parts (symbol (codes ")") l.behind ∷ ts)

abbrev pub spell_group : {A : Type 0} → List ℕ → Spells A → Spells (InBraces A)
spell_group key spell g ts =
    keyword key g.key ∷ symbol (codes "{") g.before
    ∷ spell_all spell g.parts (symbol (codes "}") g.behind ∷ ts)

abbrev pub spell_name : Spells Word
spell_name w ts = name w ∷ ts

-- terms and comparisons

abbrev pub sign_text : Sign → List ℕ
sign_text Plus = codes "+"
sign_text Minus = codes "-"

abbrev pub spell_minus : Spells Place
spell_minus p ts = symbol (codes "-") p ∷ ts

abbrev mutual
  pub spell_factor : Spells FactorTree
  spell_factor (literal n) ts = number n ∷ ts
  spell_factor (whole_share p) ts = share p ∷ ts
  spell_factor (named w) ts = name w ∷ ts
  spell_factor (bracketed p t q) ts = symbol (codes "(") p ∷ spell_term t (symbol (codes ")") q ∷ ts)

  pub spell_product : Spells ProductTree
  spell_product (product f fs) ts = spell_factor f (spell_factors fs ts)

  pub spell_factors : Spells FactorTrees
  spell_factors no_factor ts = ts
  spell_factors (times p f fs) ts = symbol (codes "*") p ∷ spell_factor f (spell_factors fs ts)

  pub spell_term : Spells TermTree
  spell_term (term p m ms) ts = spell_option spell_minus p (spell_product m (spell_products ms ts))

  pub spell_products : Spells ProductTrees
  spell_products no_product ts = ts
  spell_products (signed s p m ms) ts = symbol (sign_text s) p ∷ spell_product m (spell_products ms ts)

abbrev pub relation_text : Relation → List ℕ
relation_text Equal = codes "="
relation_text Unequal = codes "!="
relation_text Less = codes "<"
relation_text AtMost = codes "<="
relation_text Greater = codes ">"
relation_text AtLeast = codes ">="

abbrev pub spell_comparison : Spells ComparisonTree
spell_comparison c ts =
    spell_term c.left (symbol (relation_text c.relation) c.place ∷ spell_term c.right ts)

abbrev pub spell_slot : Spells SlotTree
spell_slot (any p) ts = wildcard p ∷ ts
spell_slot (is t) ts = spell_term t ts

-- assertions

abbrev pub counted_text : Counted → List ℕ
counted_text Source = codes "src"
counted_text Tokens = codes "tok"
counted_text At = codes "at"
counted_text From = codes "from"

abbrev pub spell_guard : Spells GuardTree
spell_guard (alone w) ts = name w ∷ ts
spell_guard (amount w p s q) ts =
    name w ∷ symbol (codes "[") p ∷ spell_slot s (symbol (codes "]") q ∷ ts)
spell_guard (count c k w p s q) ts =
    keyword (counted_text c) k ∷ name w ∷ symbol (codes "[") p
    ∷ spell_slot s (symbol (codes "]") q ∷ ts)

abbrev pub spell_guards : Spells GuardsTree
spell_guards = spell_several (codes "*") spell_guard

abbrev pub spell_held : Spells HeldTree
spell_held (bare g) ts = spell_guards g ts
spell_held (in_parentheses p g q) ts = symbol (codes "(") p ∷ spell_guards g (symbol (codes ")") q ∷ ts)

abbrev mutual
  pub spell_item : Spells ItemTree
  spell_item (holds p) ts = keyword (codes "true") p ∷ ts
  spell_item (fails p) ts = keyword (codes "false") p ∷ ts
  spell_item (fact k p r arguments q s e) ts =
      name k ∷ symbol (codes "(") p ∷ name r
      ∷ spell_more (codes ",") spell_slot arguments
      (symbol (codes ";") q ∷ spell_slot s (symbol (codes ")") e ∷ ts))
  spell_item (guards r p g) ts = name r ∷ symbol (codes "@") p ∷ spell_held g ts
  spell_item (cell t p s) ts = spell_term t (symbol (codes "|->") p ∷ spell_slot s ts)
  spell_item (compare c) ts = spell_comparison c ts
  spell_item (choose c p a q b) ts =
      spell_comparison c
      (symbol (codes "?") p ∷ spell_side a (symbol (codes ":") q ∷ spell_side b ts))

  pub spell_items : Spells ItemTrees
  spell_items no_item ts = ts
  spell_items (and_item p i more) ts = symbol (codes "&*&") p ∷ spell_item i (spell_items more ts)

  pub spell_assertion : Spells AssertionTree
  spell_assertion (assertion i more) ts = spell_item i (spell_items more ts)

  pub spell_side : Spells SideTree
  spell_side (side p a q) ts = symbol (codes "{") p ∷ spell_assertion a (symbol (codes "}") q ∷ ts)

abbrev pub spell_clause : List ℕ → Spells ClauseTree
spell_clause key c ts =
    keyword key c.key ∷ spell_assertion c.assertion (symbol (codes ";") c.semicolon ∷ ts)

-- statements

abbrev pub spell_terms : Spells (InParentheses TermTree)
spell_terms = spell_listed spell_term

abbrev pub spell_value : Spells ValueTree
spell_value (value t) ts = spell_term t ts
spell_value (load p t q) ts = symbol (codes "[") p ∷ spell_term t (symbol (codes "]") q ∷ ts)
spell_value (alloc p q n r) ts =
    keyword (codes "alloc") p ∷ symbol (codes "(") q ∷ number n ∷ symbol (codes ")") r ∷ ts
spell_value (cas p q a c e d f r) ts =
    keyword (codes "CAS") p ∷ symbol (codes "(") q
    ∷ spell_term a (symbol (codes ",") c
    ∷ spell_term e (symbol (codes ",") d ∷ spell_term f (symbol (codes ")") r ∷ ts)))
spell_value (faa p q a c e r) ts =
    keyword (codes "FAA") p ∷ symbol (codes "(") q
    ∷ spell_term a (symbol (codes ",") c ∷ spell_term e (symbol (codes ")") r ∷ ts))
spell_value (result_of w l) ts = name w ∷ spell_terms l ts

abbrev mutual
  pub spell_statement : Spells StatementTree
  spell_statement (assign w p v e) ts =
      name w ∷ symbol (codes ":=") p ∷ spell_value v (symbol (codes ";") e ∷ ts)
  spell_statement (store p a q r t e) ts =
      symbol (codes "[") p
      ∷ spell_term a (symbol (codes "]") q ∷ symbol (codes ":=") r
      ∷ spell_term t (symbol (codes ";") e ∷ ts))
  spell_statement (call w l e) ts = name w ∷ spell_terms l (symbol (codes ";") e ∷ ts)
  spell_statement (fork p w l e) ts =
      keyword (codes "fork") p ∷ name w ∷ spell_terms l (symbol (codes ";") e ∷ ts)
  spell_statement (branch p q c r b e) ts =
      keyword (codes "if") p ∷ symbol (codes "(") q
      ∷ spell_comparison c (symbol (codes ")") r ∷ spell_block b (spell_else e ts))
  spell_statement (loop p q c r i b) ts =
      keyword (codes "while") p ∷ symbol (codes "(") q
      ∷ spell_comparison c (symbol (codes ")") r
      ∷ spell_option (spell_clause (codes "invariant")) i (spell_block b ts))
  spell_statement (check p c e) ts =
      keyword (codes "assert") p ∷ spell_comparison c (symbol (codes ";") e ∷ ts)
  spell_statement (give_back p t e) ts =
      keyword (codes "return") p ∷ spell_option spell_term t (symbol (codes ";") e ∷ ts)
  spell_statement (dispose p q t r e) ts =
      keyword (codes "dispose") p ∷ symbol (codes "(") q
      ∷ spell_term t (symbol (codes ")") r ∷ symbol (codes ";") e ∷ ts)

  pub spell_else : Spells ElseTree
  spell_else no_else ts = ts
  spell_else (else_block p b) ts = keyword (codes "else") p ∷ spell_block b ts

  pub spell_statements : Spells StatementTrees
  spell_statements no_statement ts = ts
  spell_statements (then_statement s more) ts = spell_statement s (spell_statements more ts)

  pub spell_block : Spells BlockTree
  spell_block (block p ss q) ts =
      symbol (codes "{") p ∷ spell_statements ss (symbol (codes "}") q ∷ ts)

-- region types

abbrev mutual
  pub spell_declared : Spells DeclaredTree
  spell_declared (unique w) ts = name w ∷ ts
  spell_declared (divisible p w) ts = symbol (codes "%") p ∷ name w ∷ ts
  spell_declared (counting p w q) ts = symbol (codes "|") p ∷ name w ∷ symbol (codes "|") q ∷ ts
  spell_declared (indexed p w q) ts = keyword (codes "[") p ∷ name w ∷ symbol (codes "]") q ∷ ts
  spell_declared (grouped p a q) ts = symbol (codes "(") p ∷ spell_algebra a (symbol (codes ")") q ∷ ts)

  pub spell_declareds : Spells DeclaredTrees
  spell_declareds no_declared ts = ts
  spell_declareds (and_declared p d more) ts =
      symbol (codes "*") p ∷ spell_declared d (spell_declareds more ts)

  pub spell_joint : Spells JointTree
  spell_joint (joint d more) ts = spell_declared d (spell_declareds more ts)

  pub spell_joints : Spells JointTrees
  spell_joints no_joint ts = ts
  spell_joints (or_joint p j more) ts = symbol (codes "+") p ∷ spell_joint j (spell_joints more ts)

  pub spell_algebra : Spells AlgebraTree
  spell_algebra (algebra j more) ts = spell_joint j (spell_joints more ts)

abbrev pub spell_when : Spells WhenTree
spell_when w ts =
    keyword (codes "when") w.key ∷ spell_several (codes ",") spell_comparison w.comparisons ts

abbrev pub spell_case : Spells CaseTree
spell_case c ts =
    spell_term c.state (spell_option spell_when c.when (symbol (codes ":") c.colon
    ∷ spell_assertion c.assertion (symbol (codes ";") c.semicolon ∷ ts)))

abbrev pub spell_action : Spells ActionTree
spell_action a ts =
    spell_guards a.guards (symbol (codes ":") a.colon
    ∷ spell_term a.source (symbol (codes "~>") a.arrow
    ∷ spell_term a.target (spell_option spell_when a.when (symbol (codes ";") a.semicolon ∷ ts))))

abbrev pub spell_region : Spells RegionTree
spell_region r ts =
    keyword (codes "region") r.key ∷ name r.name
    ∷ symbol (codes "(") r.before ∷ spell_several (codes ",") spell_name r.parameters
    (symbol (codes ")") r.behind ∷ symbol (codes "{") r.brace
    ∷ keyword (codes "guards") r.guards ∷ spell_algebra r.algebra (symbol (codes ";") r.semicolon
    ∷ spell_group (codes "interpretation") spell_case r.cases
    (spell_group (codes "actions") spell_action r.actions
    (symbol (codes "}") r.end ∷ ts))))

abbrev pub spell_function : Spells FunctionTree
spell_function f ts =
    keyword (codes "function") f.key ∷ name f.name ∷ spell_listed spell_name f.parameters
    (spell_option (spell_clause (codes "requires")) f.precondition
    (spell_option (spell_clause (codes "ensures")) f.postcondition
    (spell_block f.body ts)))

abbrev pub spell_declaration : Spells DeclarationTree
spell_declaration (region r) ts = spell_region r ts
spell_declaration (function f) ts = spell_function f ts

-- of a text of the second version: its first two tokens are seen as keywords
abbrev pub spell_header : Spells Header
spell_header h ts =
    keyword (codes "caper") h.key ∷ keyword (codes "2") h.version ∷ symbol (codes ";") h.semicolon ∷ ts

-- the tokens of the whole text, its end left out
abbrev pub spelling : ProgramTree → List Token
spelling t = spell_option spell_header t.header (spell_all spell_declaration t.declarations [])
