-- An automaton with a stack of what is still to come, and how many brackets may still open. A device of
-- the proofs alone.
use Rattle.std.proofs.Common.{ℕ, Bool, true, false, cond, List, [], ◌∷◌, ◌++◌, map, Option, Some, None}
use Rattle.cap_syntax.specs.declared.token.Token.{Token}
use Rattle.cap_parse_tree.specs.Nesting.{room_behind}
use Rattle.cap_parse_laws.specs.declared.class.Class.{Class}
use Rattle.cap_parse_laws.specs.declared.class.Class.TheVariants as c
use Rattle.cap_parse_laws.specs.Classes.{class, are_same}

-- what ends a list of conditions
pub data Ending : Type 0 where
  a_colon a_semicolon : Ending

abbrev pub end_class : Ending → Class
end_class a_colon = c.Colon
end_class a_semicolon = c.Semicolon

-- what the next token decides. `may_` and `more_` parts may be empty; a part named for what it ends in
-- has its last token too: `terms` and `names` end in a parenthesis, `slots` and `returned` in a
-- semicolon, `statements`, `cases` and `actions` in a brace
pub data Rule : Type 0 where
  may_minus a_factor more_factors a_sign more_products a_relation a_slot : Rule
  a_guard may_amount more_guards a_held : Rule
  an_item named_item item_rest may_choose more_items slots : Rule
  a_value named_value terms more_terms : Rule
  a_statement named_statement may_else may_invariant returned statements : Rule
  a_declared more_declared more_joints : Rule
  may_when more_comparisons : Ending → Rule
  cases actions names more_names may_requires may_ensures a_declaration declarations a_text : Rule

pub data Symbol : Type 0 where
  fixed : Class → Symbol
  rule : Rule → Symbol

abbrev pub Stack : Type 0
Stack = List Symbol

abbrev pub the_rest_of_a_term : Stack
the_rest_of_a_term = rule more_factors ∷ rule more_products ∷ []

abbrev pub a_product : Stack
a_product = rule a_factor ∷ rule more_factors ∷ []

abbrev pub a_term : Stack
a_term = rule may_minus ∷ rule a_factor ∷ the_rest_of_a_term

abbrev pub a_comparison : Stack
a_comparison = a_term ++ rule a_relation ∷ a_term

abbrev pub some_guards : Stack
some_guards = rule a_guard ∷ rule more_guards ∷ []

abbrev pub an_assertion : Stack
an_assertion = rule an_item ∷ rule more_items ∷ []

abbrev pub a_side : Stack
a_side = fixed c.OpenBrace ∷ an_assertion ++ fixed c.CloseBrace ∷ []

abbrev pub a_clause : Class → Stack
a_clause key = fixed key ∷ an_assertion ++ fixed c.Semicolon ∷ []

abbrev pub a_block : Stack
a_block = fixed c.OpenBrace ∷ rule statements ∷ []

abbrev pub a_joint : Stack
a_joint = rule a_declared ∷ rule more_declared ∷ []

abbrev pub an_algebra : Stack
an_algebra = a_joint ++ rule more_joints ∷ []

abbrev pub a_case : Stack
a_case = a_term ++ rule (may_when a_colon) ∷ an_assertion ++ fixed c.Semicolon ∷ []

abbrev pub the_rest_of_an_action : Stack
the_rest_of_an_action = rule more_guards ∷ fixed c.Colon ∷ a_term ++ fixed c.LeadsTo ∷ a_term ++ rule (may_when a_semicolon) ∷ []

-- what comes behind a token of each class that may come next
abbrev pub Steps : Type 0
Steps = List (Class × Stack)

abbrev pub behind : Stack → Steps → Steps
behind w steps = map (λ step. (step.0, step.1 ++ w)) steps

abbrev pub factor_steps : Steps
factor_steps = (c.Number, []) ∷ (c.Share, []) ∷ (c.Name, []) ∷ (c.Open, a_term ++ fixed c.Close ∷ []) ∷ []

abbrev pub term_steps : Steps
term_steps = (c.Minus, rule a_factor ∷ the_rest_of_a_term) ∷ behind the_rest_of_a_term factor_steps

-- behind a term's first factor
abbrev pub rest_steps : Steps
rest_steps =
    (c.Star, rule a_factor ∷ the_rest_of_a_term) ∷ (c.Plus, rule a_factor ∷ the_rest_of_a_term)
    ∷ (c.Minus, rule a_factor ∷ the_rest_of_a_term) ∷ []

abbrev pub relation_steps : Steps
relation_steps =
    (c.Equal, []) ∷ (c.Unequal, []) ∷ (c.Less, []) ∷ (c.AtMost, []) ∷ (c.Greater, []) ∷ (c.AtLeast, []) ∷ []

abbrev pub counted_guard : Stack
counted_guard = fixed c.Name ∷ fixed c.OpenBracket ∷ rule a_slot ∷ fixed c.CloseBracket ∷ []

abbrev pub guard_steps : Steps
guard_steps = (c.Name, rule may_amount ∷ []) ∷ (c.Source, counted_guard) ∷ (c.Tokens, counted_guard) ∷ (c.AtIndex, counted_guard) ∷ (c.FromIndex, counted_guard) ∷ []

abbrev pub item_rest_steps : Steps
item_rest_steps =
    (c.PointsTo, rule a_slot ∷ []) ∷ behind (a_term ++ rule may_choose ∷ []) relation_steps

abbrev pub statement_steps : Steps
statement_steps =
    (c.Name, rule named_statement ∷ [])
    ∷ (c.OpenBracket, a_term ++ fixed c.CloseBracket ∷ fixed c.Becomes ∷ a_term ++ fixed c.Semicolon ∷ [])
    ∷ (c.Fork, fixed c.Name ∷ fixed c.Open ∷ rule terms ∷ fixed c.Semicolon ∷ [])
    ∷ (c.If, fixed c.Open ∷ a_comparison ++ fixed c.Close ∷ a_block ++ rule may_else ∷ [])
    ∷ (c.While, fixed c.Open ∷ a_comparison ++ fixed c.Close ∷ rule may_invariant ∷ a_block)
    ∷ (c.Assert, a_comparison ++ fixed c.Semicolon ∷ []) ∷ (c.Return, rule returned ∷ [])
    ∷ (c.Dispose, fixed c.Open ∷ a_term ++ fixed c.Close ∷ fixed c.Semicolon ∷ []) ∷ []

abbrev pub the_rest_of_a_region : Stack
the_rest_of_a_region =
    fixed c.Name ∷ fixed c.Open ∷ fixed c.Name ∷ rule more_names ∷ fixed c.OpenBrace
    ∷ fixed c.Guards ∷ an_algebra ++ fixed c.Semicolon
    ∷ fixed c.Interpretation ∷ fixed c.OpenBrace ∷ rule cases
    ∷ fixed c.Actions ∷ fixed c.OpenBrace ∷ rule actions ∷ fixed c.CloseBrace ∷ []

abbrev pub the_rest_of_a_function : Stack
the_rest_of_a_function =
    fixed c.Name ∷ fixed c.Open ∷ rule names ∷ rule may_requires ∷ rule may_ensures ∷ a_block

abbrev pub declaration_steps : Steps
declaration_steps = (c.Region, the_rest_of_a_region) ∷ (c.Function, the_rest_of_a_function) ∷ []

abbrev pub steps : Rule → Steps
steps may_minus = (c.Minus, []) ∷ []
steps a_factor = factor_steps
steps more_factors = (c.Star, a_product) ∷ []
steps a_sign = (c.Plus, []) ∷ (c.Minus, []) ∷ []
steps more_products = (c.Plus, rule a_factor ∷ the_rest_of_a_term) ∷ (c.Minus, rule a_factor ∷ the_rest_of_a_term) ∷ []
steps a_relation = relation_steps
steps a_slot = (c.Wildcard, []) ∷ term_steps
steps a_guard = guard_steps
steps may_amount = (c.OpenBracket, rule a_slot ∷ fixed c.CloseBracket ∷ []) ∷ []
steps more_guards = (c.Star, some_guards) ∷ []
steps a_held = (c.Open, some_guards ++ fixed c.Close ∷ []) ∷ behind (rule more_guards ∷ []) guard_steps
steps an_item =
    (c.True, []) ∷ (c.False, []) ∷ (c.Name, rule named_item ∷ []) ∷ behind (rule item_rest ∷ []) term_steps
steps named_item =
    (c.Open, fixed c.Name ∷ rule slots ∷ rule a_slot ∷ fixed c.Close ∷ []) ∷ (c.At, rule a_held ∷ [])
    ∷ behind (rule item_rest ∷ []) rest_steps ++ item_rest_steps
steps item_rest = item_rest_steps
steps may_choose = (c.Question, a_side ++ fixed c.Colon ∷ a_side) ∷ []
steps more_items = (c.And, an_assertion) ∷ []
steps slots = (c.Comma, rule a_slot ∷ rule slots ∷ []) ∷ (c.Semicolon, []) ∷ []
steps a_value =
    (c.OpenBracket, a_term ++ fixed c.CloseBracket ∷ [])
    ∷ (c.Alloc, fixed c.Open ∷ fixed c.Number ∷ fixed c.Close ∷ [])
    ∷ (c.Cas, fixed c.Open ∷ a_term ++ fixed c.Comma ∷ a_term ++ fixed c.Comma ∷ a_term ++ fixed c.Close ∷ [])
    ∷ (c.Faa, fixed c.Open ∷ a_term ++ fixed c.Comma ∷ a_term ++ fixed c.Close ∷ [])
    ∷ (c.Name, rule named_value ∷ []) ∷ term_steps
steps named_value = (c.Open, rule terms ∷ []) ∷ rest_steps
steps terms = (c.Close, []) ∷ behind (rule more_terms ∷ []) term_steps
steps more_terms = (c.Comma, a_term ++ rule more_terms ∷ []) ∷ (c.Close, []) ∷ []
steps a_statement = statement_steps
steps named_statement =
    (c.Becomes, rule a_value ∷ fixed c.Semicolon ∷ []) ∷ (c.Open, rule terms ∷ fixed c.Semicolon ∷ []) ∷ []
steps may_else = (c.Else, a_block) ∷ []
steps may_invariant = (c.Invariant, an_assertion ++ fixed c.Semicolon ∷ []) ∷ []
steps returned = (c.Semicolon, []) ∷ behind (fixed c.Semicolon ∷ []) term_steps
steps statements = (c.CloseBrace, []) ∷ behind (rule statements ∷ []) statement_steps
steps a_declared =
    (c.Name, []) ∷ (c.Percent, fixed c.Name ∷ []) ∷ (c.Bar, fixed c.Name ∷ fixed c.Bar ∷ [])
    ∷ (c.Index, fixed c.Name ∷ fixed c.CloseBracket ∷ [])
    ∷ (c.Open, an_algebra ++ fixed c.Close ∷ []) ∷ []
steps more_declared = (c.Star, a_joint) ∷ []
steps more_joints = (c.Plus, an_algebra) ∷ []
steps (may_when end) = (c.When, a_comparison ++ rule (more_comparisons end) ∷ []) ∷ (end_class end, []) ∷ []
steps (more_comparisons end) = (c.Comma, a_comparison ++ rule (more_comparisons end) ∷ []) ∷ (end_class end, []) ∷ []
steps cases =
    (c.CloseBrace, [])
    ∷ behind (rule (may_when a_colon) ∷ an_assertion ++ fixed c.Semicolon ∷ rule cases ∷ []) term_steps
steps actions = (c.CloseBrace, []) ∷ behind (the_rest_of_an_action ++ rule actions ∷ []) guard_steps
steps names = (c.Close, []) ∷ (c.Name, rule more_names ∷ []) ∷ []
steps more_names = (c.Comma, fixed c.Name ∷ rule more_names ∷ []) ∷ (c.Close, []) ∷ []
steps may_requires = (c.Requires, an_assertion ++ fixed c.Semicolon ∷ []) ∷ []
steps may_ensures = (c.Ensures, an_assertion ++ fixed c.Semicolon ∷ []) ∷ []
steps a_declaration = declaration_steps
steps declarations = behind (rule declarations ∷ []) declaration_steps
steps a_text =
    (c.Caper, fixed c.Two ∷ fixed c.Semicolon ∷ rule declarations ∷ [])
    ∷ behind (rule declarations ∷ []) declaration_steps

abbrev pub may_be_empty : Rule → Bool
may_be_empty may_minus = true
may_be_empty more_factors = true
may_be_empty more_products = true
may_be_empty may_amount = true
may_be_empty more_guards = true
may_be_empty may_choose = true
may_be_empty more_items = true
may_be_empty named_value = true
may_be_empty may_else = true
may_be_empty may_invariant = true
may_be_empty more_declared = true
may_be_empty more_joints = true
may_be_empty may_requires = true
may_be_empty may_ensures = true
may_be_empty declarations = true
may_be_empty a_text = true
may_be_empty r = false

-- what the stack is behind a token of the class; none may come; or nothing is left at the end
pub data Move : Type 0 where
  on : Stack → Move
  stop done : Move

abbrev pub found : Steps → Class → Stack → Move → Move
found [] k s otherwise = otherwise
found (step ∷ more) k s otherwise = cond (are_same step.0 k) (on (step.1 ++ s)) (found more k s otherwise)

abbrev pub next : Stack → Class → Move
next [] k = cond (are_same c.End k) done stop
next (fixed j ∷ s) k = cond (are_same j k) (on s) stop
next (rule r ∷ s) k = found (steps r) k s (cond (may_be_empty r) (next s k) stop)

-- the whole list was walked, or what is left begins with the token at fault
pub data Answer : Type 0 where
  whole : Answer
  wrong deep : List Token → Answer

abbrev pub ended : Move → Answer
ended done = whole
ended m = wrong []

abbrev pub goes : Move → (Stack → Answer) → Answer → Answer
goes (on s) f refused = f s
goes m f refused = refused

abbrev pub within : Option ℕ → (ℕ → Answer) → Answer → Answer
within (Some left) f refused = f left
within None f refused = refused

-- where so many brackets may still open
abbrev pub run : Stack → ℕ → List Token → Answer
run s d [] = ended (next s c.End)
run s d (t ∷ ts) =
    goes (next s (class t)) (λ s2. within (room_behind d t) (λ left. run s2 left ts) (deep (t ∷ ts))) (wrong (t ∷ ts))

-- where any number may open
abbrev pub walk : Stack → List Token → Answer
walk s [] = ended (next s c.End)
walk s (t ∷ ts) = goes (next s (class t)) (λ s2. walk s2 ts) (wrong (t ∷ ts))

abbrev pub start : Stack
start = rule a_text ∷ []

abbrev pub the_declarations : Stack
the_declarations = rule declarations ∷ []
