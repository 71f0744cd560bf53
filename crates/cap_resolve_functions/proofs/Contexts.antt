-- The program of a body does not depend on what a body does not read.
use Rattle.std.proofs.Common.{◌≡◌, ℕ, ◌+◌, List, length, Option, Some, None, refl, ap, ◌∙◌}
use Rattle.cap_syntax.specs.declared.place.Place.{Place}
use Rattle.cap_parse_tree.specs.declared.word.Word.{Word}
use Rattle.cap_parse_tree.specs.Tree.{TermTree, ValueTree, value, load, alloc, cas, faa, result_of, StatementTree, assign, store, call, fork, branch, loop, check, give_back, dispose, ElseTree, no_else, else_block, StatementTrees, no_statement, then_statement, BlockTree, block}
use Rattle.cap_prog.specs.Program.{PlainAct, Block, first, append}
use Rattle.cap_prog.specs.Program as plain
use Rattle.cap_resolve_spec.specs.Parts.{statement_parts, block_parts}
use Rattle.cap_resolve_spec.specs.Names.{NameScope}
use Rattle.cap_resolve_spec.specs.Functions.{Context}
use Rattle.cap_resolve_spec.specs.Program.{comparison_program, assign_program, act_program, else_program, statements_program, block_program, body_program, returned, new_assertion, statement_place, label, destination_number, closing_return, block_end}

-- another context with the same declarations, types and scopes of the body
abbrev pub with_rest : Context → NameScope → List Word → List Place → Context
with_rest g r given counted = record {
  regions = g.regions;
  functions = g.functions;
  types = g.types;
  result = r;
  loop = g.loop;
  body = g.body;
  given = given;
  counted = counted;
}

module _ (g : Context) (r : NameScope) (given : List Word) (counted : List Place) where
  assign-same : (x : ℕ) (v : ValueTree) → assign_program (with_rest g r given counted) x v ≡ assign_program g x v
  assign-same x (value t) = refl
  assign-same x (load p t q) = refl
  assign-same x (alloc p q n e) = refl
  assign-same x (cas p q a c e d f h) = refl
  assign-same x (faa p q a c e r) = refl
  assign-same x (result_of w l) = refl

  returned-same : (t : Option TermTree) → returned (with_rest g r given counted) t ≡ returned g t
  returned-same None = refl
  returned-same (Some t) = refl

  mutual
    act-same : (n : ℕ) (s : StatementTree) → act_program (with_rest g r given counted) n s ≡ act_program g n s
    act-same n (assign w p v e) = assign-same (destination_number g w) v
    act-same n (store p a q k t e) = refl
    act-same n (call w l e) = refl
    act-same n (fork p w l e) = refl
    act-same n (branch p q c k b e) =
        ap (λ x. plain.branch (comparison_program g.body c) x (else_program (with_rest g r given counted) (n + 1 + length (block_parts b)) e)) (block-same (n + 1) b)
        ∙ ap (plain.branch (comparison_program g.body c) (block_program g (n + 1) b)) (else-same (n + 1 + length (block_parts b)) e)
    act-same n (loop p q c k i b) = ap (plain.loop (comparison_program g.body c) (new_assertion g g.loop i)) (block-same (n + 1) b)
    act-same n (check p c e) = refl
    act-same n (give_back p t e) = ap plain.give_back (returned-same t)
    act-same n (dispose p q t r e) = refl

    else-same : (n : ℕ) (e : ElseTree) → else_program (with_rest g r given counted) n e ≡ else_program g n e
    else-same n no_else = refl
    else-same n (else_block p b) = block-same n b

    statements-same : (n : ℕ) (ss : StatementTrees) → statements_program (with_rest g r given counted) n ss ≡ statements_program g n ss
    statements-same n no_statement = refl
    statements-same n (then_statement s ss) =
        ap (λ x. first (label n (statement_place s)) x (statements_program (with_rest g r given counted) (n + length (statement_parts s)) ss)) (act-same n s)
        ∙ ap (first (label n (statement_place s)) (act_program g n s)) (statements-same (n + length (statement_parts s)) ss)

    pub block-same : (n : ℕ) (b : BlockTree) → block_program (with_rest g r given counted) n b ≡ block_program g n b
    block-same n (block p ss q) = statements-same n ss

  pub body-same : (b : BlockTree) → body_program (with_rest g r given counted) b ≡ body_program g b
  body-same b = ap (λ x. append x (closing_return (1 + length (block_parts b)) (block_end b))) (block-same 1 b)
