-- Statements behind statements.
use Rattle.std.proofs.Common.{◌≡◌, ℕ, ◌+◌, ◌<◌, List, [], ◌∷◌, ◌++◌, map, length, refl, ap, sym, ◌∙◌, arith, length-append}
use Rattle.std.proofs.lemmas.List.{map-append}
use Rattle.cap_prog.specs.declared.function.Statement.{Statement}
use Rattle.cap_prog.specs.Program.{Label, PlainAct, PlainStatement, Block, done, first, block_of, append}
use Rattle.cap_prog.specs.Views.{statement_view, block_view}
use Rattle.cap_parse_tree.specs.Tree.{StatementTree, assign, store, call, fork, branch, loop, check, give_back, dispose, StatementTrees, then_statement}
use Rattle.cap_resolve_spec.specs.Parts.{statement_parts, statements_parts}

pub block_behind : (a b : List PlainStatement) → block_of (a ++ b) ≡ append (block_of a) (block_of b)
block_behind [] b = refl
block_behind (s ∷ a) b = ap (first s.label s.act) (block_behind a b)

pub append_done : (a : Block) → append a done ≡ a
append_done done = refl
append_done (first l s a) = ap (first l s) (append_done a)

pub append_block : (a b c : Block) → append (append a b) c ≡ append a (append b c)
append_block done b c = refl
append_block (first l s a) b c = ap (first l s) (append_block a b c)

pub statement_more : (ss : List Statement) (s : Statement) → block_view (ss ++ s ∷ []) ≡ append (block_view ss) (block_of (statement_view s ∷ []))
statement_more ss s = ap block_of (map-append statement_view ss (s ∷ [])) ∙ block_behind (map statement_view ss) (statement_view s ∷ [])

pub ruleset joined = (statement_more, append_done, append_block)

-- ---- a loop over statements

pub statement_stays : (a b : Block) (l : Label) (act : PlainAct) (rest whole : Block) → b ≡ append a (first l act done) → append a (first l act rest) ≡ whole → append b rest ≡ whole
statement_stays a b l act rest whole e h = ap (λ y. append y rest) e ∙ (append_block a (first l act done) rest ∙ h)

pub done_stays : (a rest whole : Block) → rest ≡ done → append a rest ≡ whole → a ≡ whole
done_stays a rest whole e h = sym (ap (append a) e ∙ append_done a) ∙ h

pub counted_on : (n m whole : ℕ) (s : StatementTree) (ss : StatementTrees) → m ≡ n + length (statement_parts s) → n + length (statement_parts s ++ statements_parts ss) ≡ whole → m + length (statements_parts ss) ≡ whole
counted_on n m whole s ss e h =
    let a : length (statement_parts s ++ statements_parts ss) ≡ length (statement_parts s) + length (statements_parts ss) = length-append (statement_parts s) (statements_parts ss) in
    omega arith

-- ---- each number is below a bound

-- a statement counts itself
pub one_more : (n whole : ℕ) (s : StatementTree) → n + length (statement_parts s) < whole → n + 1 < whole
one_more n whole (assign w p v e) h = omega (arith, h)
one_more n whole (store p a q r t e) h = omega (arith, h)
one_more n whole (call w l e) h = omega (arith, h)
one_more n whole (fork p w l e) h = omega (arith, h)
one_more n whole (branch p q c r b e) h = omega (arith, h)
one_more n whole (loop p q c r i b) h = omega (arith, h)
one_more n whole (check p c e) h = omega (arith, h)
one_more n whole (give_back p t e) h = omega (arith, h)
one_more n whole (dispose p q t r e) h = omega (arith, h)

-- of statements that remain, the first
pub first_below : (n all whole : ℕ) (s : StatementTree) (ss rest : StatementTrees) → rest ≡ then_statement s ss → n + length (statements_parts rest) ≡ all → all < whole → n + length (statement_parts s) < whole
first_below n all whole s ss rest e h b =
    let a : length (statement_parts s ++ statements_parts ss) ≡ length (statement_parts s) + length (statements_parts ss) = length-append (statement_parts s) (statements_parts ss) in
    let c : length (statements_parts rest) ≡ length (statement_parts s ++ statements_parts ss) = ap (λ ts. length (statements_parts ts)) e in
    omega arith
