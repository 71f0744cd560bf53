-- A function has no more statements than tokens.
use Rattle.std.proofs.Common.{◌≡◌, ◌+◌, ◌≤◌, codes, List, ◌∷◌, ◌++◌, length, arith, length-append}
use Rattle.std.specs.List.{AllByRecursion}
use Rattle.cap_syntax.specs.declared.token.Token.{Token}
use Rattle.cap_prog.specs.WellFormed.{most_members}
use Rattle.cap_parse_tree.specs.Tree.{ValueTree, value, load, alloc, cas, faa, result_of, StatementTree, assign, store, call, fork, branch, loop, check, give_back, dispose, ElseTree, no_else, else_block, StatementTrees, no_statement, then_statement, BlockTree, block, FunctionTree, ProgramTree}
use Rattle.cap_parse_tree.specs.Tokens.{symbol}
use Rattle.cap_parse_tree.specs.Spelling.{spell_option, spell_name, spell_term, spell_clause, spell_value, spell_statement, spell_else, spell_statements, spell_block, spell_function, spelling}
use Rattle.cap_resolve_spec.specs.Parts.{statement_parts, else_parts, statements_parts, block_parts, functions}
use Rattle.cap_resolve_spec.proofs.Every.{each_weaker}
use Rattle.cap_resolve_spec.proofs.Tokens.{term-adds, comparison-adds, name-adds, option-adds, listed-adds, clause-adds}
use Rattle.cap_resolve_spec.proofs.Short.{IsShortFunction, functions-short}

value_adds : (v : ValueTree) (ts : List Token) → length ts ≤ length (spell_value v ts)
value_adds (value t) ts = omega (arith, term-adds t ts)
value_adds (load p t q) ts = omega (arith, term-adds t (symbol (codes "]") q ∷ ts))
value_adds (alloc p q n r) ts = omega arith
value_adds (cas p q a c e d f r) ts = omega (arith, term-adds a (symbol (codes ",") c ∷ spell_term e (symbol (codes ",") d ∷ spell_term f (symbol (codes ")") r ∷ ts))), term-adds e (symbol (codes ",") d ∷ spell_term f (symbol (codes ")") r ∷ ts)), term-adds f (symbol (codes ")") r ∷ ts))
value_adds (faa p q a c e r) ts = omega (arith, term-adds a (symbol (codes ",") c ∷ spell_term e (symbol (codes ")") r ∷ ts)), term-adds e (symbol (codes ")") r ∷ ts))
value_adds (result_of w l) ts = omega (arith, listed-adds spell_term term-adds l ts)

mutual
  statement_counted : (s : StatementTree) (ts : List Token) → length (statement_parts s) + length ts ≤ length (spell_statement s ts)
  statement_counted (assign w p v e) ts = omega (arith, value_adds v (symbol (codes ";") e ∷ ts))
  statement_counted (store p a q r t e) ts = omega (arith, term-adds a (symbol (codes "]") q ∷ symbol (codes ":=") r ∷ spell_term t (symbol (codes ";") e ∷ ts)), term-adds t (symbol (codes ";") e ∷ ts))
  statement_counted (call w l e) ts = omega (arith, listed-adds spell_term term-adds l (symbol (codes ";") e ∷ ts))
  statement_counted (fork p w l e) ts = omega (arith, listed-adds spell_term term-adds l (symbol (codes ";") e ∷ ts))
  statement_counted (branch p q c r b e) ts =
      let a : length (block_parts b ++ else_parts e) ≡ length (block_parts b) + length (else_parts e) = length-append (block_parts b) (else_parts e) in
      omega (arith, a, comparison-adds c (symbol (codes ")") r ∷ spell_block b (spell_else e ts)), block_counted b (spell_else e ts), else_counted e ts)
  statement_counted (loop p q c r i b) ts = omega (arith, comparison-adds c (symbol (codes ")") r ∷ spell_option (spell_clause (codes "invariant")) i (spell_block b ts)), option-adds (spell_clause (codes "invariant")) (clause-adds (codes "invariant")) i (spell_block b ts), block_counted b ts)
  statement_counted (check p c e) ts = omega (arith, comparison-adds c (symbol (codes ";") e ∷ ts))
  statement_counted (give_back p t e) ts = omega (arith, option-adds spell_term term-adds t (symbol (codes ";") e ∷ ts))
  statement_counted (dispose p q t r e) ts = omega (arith, term-adds t (symbol (codes ")") r ∷ symbol (codes ";") e ∷ ts))

  else_counted : (e : ElseTree) (ts : List Token) → length (else_parts e) + length ts ≤ length (spell_else e ts)
  else_counted no_else ts = omega arith
  else_counted (else_block p b) ts = omega (arith, block_counted b ts)

  statements_counted : (ss : StatementTrees) (ts : List Token) → length (statements_parts ss) + length ts ≤ length (spell_statements ss ts)
  statements_counted no_statement ts = omega arith
  statements_counted (then_statement s ss) ts =
      let a : length (statement_parts s ++ statements_parts ss) ≡ length (statement_parts s) + length (statements_parts ss) = length-append (statement_parts s) (statements_parts ss) in
      omega (arith, a, statement_counted s (spell_statements ss ts), statements_counted ss ts)

  block_counted : (b : BlockTree) (ts : List Token) → length (block_parts b) + length ts ≤ length (spell_block b ts)
  block_counted (block p ss q) ts = omega (arith, statements_counted ss (symbol (codes "}") q ∷ ts))

function_counted : (f : FunctionTree) (ts : List Token) → length (spell_function f ts) ≤ most_members → length (block_parts f.body) ≤ most_members
function_counted f ts h =
    omega (
      arith,
      h,
      listed-adds spell_name name-adds f.parameters (spell_option (spell_clause (codes "requires")) f.precondition (spell_option (spell_clause (codes "ensures")) f.postcondition (spell_block f.body ts))),
      option-adds (spell_clause (codes "requires")) (clause-adds (codes "requires")) f.precondition (spell_option (spell_clause (codes "ensures")) f.postcondition (spell_block f.body ts)),
      option-adds (spell_clause (codes "ensures")) (clause-adds (codes "ensures")) f.postcondition (spell_block f.body ts),
      block_counted f.body ts,
    )

pub functions_counted : (t : ProgramTree) → length (spelling t) ≤ most_members → AllByRecursion (λ (f : FunctionTree). length (block_parts f.body) ≤ most_members) (functions t)
functions_counted t h = each_weaker IsShortFunction (λ (f : FunctionTree). length (block_parts f.body) ≤ most_members) (λ f s. function_counted f s.behind s.short) (functions t) (functions-short t h)
