-- Parts of a tree whose numbers stay within the widths of a program: the results on the way to each
-- linear form within 128 bits; the number of cells of each allocation, the numbers of variables where
-- a name stands, and those of parameters, locals and statements of a function, within 32.
use Rattle.std.specs.Prelude.{◌≡◌, ◌+◌, ◌<◌, ◌^◌, length, List, ◌∷◌, ◌++◌, [], Option, Some, None}
use Rattle.std.specs.List.{AllByRecursion}
use Rattle.cap_lin.specs.Steps.{first_wide}
use Rattle.cap_syntax.specs.declared.place.Place.{Place}
use Rattle.cap_parse_tree.specs.declared.word.Word.{Word}
use Rattle.cap_parse_tree.specs.Tree.{listed_parts, TermTree, ComparisonTree, SlotTree, any, is, GuardTree, alone, amount, count, ItemTree, holds, fails, fact, guards, cell, compare, choose, ItemTrees, no_item, and_item, AssertionTree, assertion, SideTree, side, ClauseTree, ValueTree, value, load, alloc, cas, faa, result_of, StatementTree, assign, store, call, fork, branch, loop, check, give_back, dispose, ElseTree, no_else, else_block, StatementTrees, no_statement, then_statement, BlockTree, block, RegionTree, FunctionTree}
use Rattle.cap_resolve_spec.specs.Parts.{PlacedItem, held_atoms, block_parts}
use Rattle.cap_resolve_spec.specs.Names.{NameScope, whole_numbers, hidden}
use Rattle.cap_resolve_spec.specs.Linear.{term_steps}
use Rattle.cap_resolve_spec.specs.Items.{TypedName, types_told, scope_of}
use Rattle.cap_resolve_spec.specs.Functions.{Context, clause_scope, result_entry}
use Rattle.cap_resolve_functions.specs.Functions.{fixed_in, Named, context_built, named_by}

-- the variables are numbered within 32 bits
abbrev pub HasFew : NameScope → Type 0
HasFew scope = length scope < 2 ^ 32

-- no result on the way to the linear form leaves 128 bits
abbrev pub IsNarrow : NameScope → TermTree → Type 0
IsNarrow scope t = HasFew scope × (first_wide (term_steps scope t) ≡ None)

abbrev pub AreNarrow : NameScope → List TermTree → Type 0
AreNarrow scope ts = AllByRecursion (IsNarrow scope) ts

abbrev pub IsNarrowComparison : NameScope → ComparisonTree → Type 0
IsNarrowComparison scope c = IsNarrow scope c.left × IsNarrow scope c.right

abbrev pub IsNarrowSlot : NameScope → SlotTree → Type 0
IsNarrowSlot scope (any p) = Unit {0}
IsNarrowSlot scope (is t) = IsNarrow scope t

-- a slot behind its comma
abbrev pub IsNarrowPart : NameScope → Place × SlotTree → Type 0
IsNarrowPart scope a = IsNarrowSlot scope a.1

abbrev pub IsNarrowGuard : NameScope → GuardTree → Type 0
IsNarrowGuard scope (alone w) = HasFew scope
IsNarrowGuard scope (amount w p s q) = HasFew scope × IsNarrowSlot scope s
IsNarrowGuard scope (count c k w p s q) = HasFew scope × IsNarrowSlot scope s

-- ---- assertions

abbrev mutual
  pub IsNarrowItem : NameScope → ItemTree → Type 0
  IsNarrowItem scope (holds p) = Unit {0}
  IsNarrowItem scope (fails p) = Unit {0}
  IsNarrowItem scope (fact k p r args q s e) =
      HasFew scope × (AllByRecursion (IsNarrowPart scope) args × IsNarrowSlot scope s)
  IsNarrowItem scope (guards r p g) = AllByRecursion (IsNarrowGuard scope) (held_atoms g)
  IsNarrowItem scope (cell t p s) = IsNarrow scope t × IsNarrowSlot scope s
  IsNarrowItem scope (compare c) = IsNarrowComparison scope c
  IsNarrowItem scope (choose c p a q b) =
      IsNarrowComparison scope c × (IsNarrowSide scope a × IsNarrowSide scope b)

  pub AreNarrowItems : NameScope → ItemTrees → Type 0
  AreNarrowItems scope no_item = Unit {0}
  AreNarrowItems scope (and_item p i more) = IsNarrowItem scope i × AreNarrowItems scope more

  pub IsNarrowAssertion : NameScope → AssertionTree → Type 0
  IsNarrowAssertion scope (assertion i more) = IsNarrowItem scope i × AreNarrowItems scope more

  pub IsNarrowSide : NameScope → SideTree → Type 0
  IsNarrowSide scope (side p a q) = IsNarrowAssertion scope a

abbrev pub IsNarrowClause : NameScope → Option ClauseTree → Type 0
IsNarrowClause scope None = Unit {0}
IsNarrowClause scope (Some c) = IsNarrowAssertion scope c.assertion

-- `ensures` or an invariant, where these names are known
abbrev pub IsNarrowNew : Context → NameScope → Option ClauseTree → Type 0
IsNarrowNew g known c = IsNarrowClause (clause_scope g known c) c

-- ---- statements

abbrev pub IsNarrowValue : NameScope → ValueTree → Type 0
IsNarrowValue scope (value t) = IsNarrow scope t
IsNarrowValue scope (load p t q) = IsNarrow scope t
IsNarrowValue scope (alloc p q n r) = n.value < 2 ^ 32
IsNarrowValue scope (cas p q a c e d f r) = IsNarrow scope a × (IsNarrow scope e × IsNarrow scope f)
IsNarrowValue scope (faa p q a c e r) = IsNarrow scope a × IsNarrow scope e
IsNarrowValue scope (result_of w l) = AreNarrow scope (listed_parts l)

abbrev pub IsNarrowReturn : NameScope → Option TermTree → Type 0
IsNarrowReturn scope None = Unit {0}
IsNarrowReturn scope (Some t) = IsNarrow scope t

abbrev mutual
  pub IsNarrowStatement : Context → StatementTree → Type 0
  IsNarrowStatement g (assign w p v e) = HasFew g.body × IsNarrowValue g.body v
  IsNarrowStatement g (store p a q r t e) = IsNarrow g.body a × IsNarrow g.body t
  IsNarrowStatement g (call w l e) = AreNarrow g.body (listed_parts l)
  IsNarrowStatement g (fork p w l e) = AreNarrow g.body (listed_parts l)
  IsNarrowStatement g (branch p q c r b e) =
      IsNarrowComparison g.body c × (IsNarrowBlock g b × IsNarrowElse g e)
  IsNarrowStatement g (loop p q c r i b) =
      IsNarrowComparison g.body c × (IsNarrowNew g g.loop i × IsNarrowBlock g b)
  IsNarrowStatement g (check p c e) = IsNarrowComparison g.body c
  IsNarrowStatement g (give_back p t e) = IsNarrowReturn g.body t
  IsNarrowStatement g (dispose p q t r e) = IsNarrow g.body t

  pub IsNarrowElse : Context → ElseTree → Type 0
  IsNarrowElse g no_else = Unit {0}
  IsNarrowElse g (else_block p b) = IsNarrowBlock g b

  pub AreNarrowStatements : Context → StatementTrees → Type 0
  AreNarrowStatements g no_statement = Unit {0}
  AreNarrowStatements g (then_statement s ss) = IsNarrowStatement g s × AreNarrowStatements g ss

  pub IsNarrowBlock : Context → BlockTree → Type 0
  IsNarrowBlock g (block p ss q) = AreNarrowStatements g ss

-- ---- functions

-- a function with these names, where its body is read with this context
pub record IsNarrowFunction (g : Context) (n : Named) (f : FunctionTree) : Type 0 where
  pub requires : IsNarrowClause
      (whole_numbers n.parameters ++ (hidden n.locals ++ scope_of n.fixed)) f.precondition
  pub ensures : IsNarrowNew g
      (whole_numbers n.parameters
      ++ (hidden n.locals ++ (scope_of n.fixed ++ result_entry ∷ []))) f.postcondition
  pub body : IsNarrowBlock g f.body
  pub names : length n.parameters + length n.locals < 2 ^ 32
  pub counted : length (block_parts f.body) + 1 < 2 ^ 32

abbrev pub IsNarrowBuilt :
    List RegionTree → List FunctionTree → List TypedName → Named → FunctionTree → Type 0
IsNarrowBuilt rs fs types n f = IsNarrowFunction (context_built rs fs types n) n f

-- a function with these parameters and these items of `requires`
abbrev pub IsNarrowBy :
    List RegionTree → List FunctionTree → List Word → List PlacedItem → FunctionTree → Type 0
IsNarrowBy rs fs ps parts f =
    IsNarrowBuilt rs fs (types_told rs parts)
    (named_by ps (fixed_in ps (types_told rs parts) parts) (block_parts f.body)) f
