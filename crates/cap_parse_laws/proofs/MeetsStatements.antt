-- The automaton goes along with the readers of statements.
use Rattle.std.proofs.Common.{◌≡◌, ℕ, zero, suc, not, List, [], ◌∷◌, ◌++◌, Option, Some, None, refl, ap, ◌∙◌, codes}
use Rattle.cap_syntax.specs.declared.token.Token.{Token}
use Rattle.cap_parse_tree.specs.declared.word.Word.{Word}
use Rattle.cap_parse_tree.specs.Tree.{StatementTree, ElseTree}
use Rattle.cap_parse_tree.specs.Tokens.{name}
use Rattle.cap_parse_tree.specs.Spelling.{Spells, spell_all, spell_option, spell_terms, spell_value, spell_statement, spell_else, spell_statements, spell_block}
use Rattle.cap_parse_tree.specs.Views.{statements_of, else_of}
use Rattle.cap_parse_laws.specs.declared.class.Class.{Class}
use Rattle.cap_parse_laws.specs.declared.class.Class.TheVariants as c
use Rattle.cap_parse_laws.specs.Classes.{are_same}
use Rattle.cap_parse_laws.specs.Readers.{ahead}
use Rattle.cap_parse_laws.specs.Grammar.{read_term, read_clause, read_terms, read_load, read_alloc, read_cas, read_faa, named_value_by, value_by, named_statement_by, read_store, read_fork, read_else, read_branch, read_loop, read_check, read_give_back, read_dispose, statement_by, block_at}
use Rattle.cap_parse_laws.specs.Laws.Taking.{Keeps, takes-keeps, term-takes, statement-takes}
use Rattle.cap_parse_laws.proofs.Automaton.{fixed, rule, a_value, named_value, terms, more_terms, a_statement, named_statement, may_else, may_invariant, returned, statements, Stack, the_rest_of_a_term, a_term, a_comparison, an_assertion, a_clause, a_block, next, run}
use Rattle.cap_parse_laws.proofs.Meets.{Meets, IsChoice, so, chain, enter, refuse, this-token, place-meets, word-meets, expect-meets, name-meets, number-meets, no_room-meets, opened, opened-within, Read, IsMet, lead, until, optional-meets, while-meets, listed-meets}
use Rattle.cap_parse_laws.proofs.MeetsTerms.{term-meets, term_from-meets, comparison-meets}
use Rattle.cap_parse_laws.proofs.MeetsAssertions.{clause-meets}

-- the comma leads one more term, and the parenthesis ends them
more-terms : (s : Stack)
    → IsChoice (rule more_terms ∷ s) (fixed c.Comma ∷ a_term ++ rule more_terms ∷ s) (fixed c.Close ∷ s) (are_same c.Comma)
more-terms s = lead (rule more_terms ∷ s) (fixed c.Comma ∷ a_term ++ rule more_terms ∷ s) (fixed c.Close ∷ s) (a_term ++ rule more_terms ∷ s) c.Comma (λ k. refl) (λ k. refl)

some-terms : (s : Stack)
    → IsChoice (rule terms ∷ s) (a_term ++ rule more_terms ∷ s) (fixed c.Close ∷ s) (λ k. not (are_same c.Close k))
some-terms s = until (rule terms ∷ s) (a_term ++ rule more_terms ∷ s) s c.Close (λ k. refl)

term-keeps : (d : ℕ) → Keeps (read_term d)
term-keeps d = takes-keeps (read_term d) (term-takes d)

terms-meets : (d : ℕ) → IsMet (fixed c.Open ∷ rule terms ∷ []) spell_terms d (read_terms d)
terms-meets d ts s = listed-meets (rule terms) (rule more_terms) a_term d ts s (some-terms s) (more-terms s) term-keeps term-meets

load-meets : (d : ℕ)
    → IsMet (fixed c.OpenBracket ∷ a_term ++ fixed c.CloseBracket ∷ []) spell_value d (read_load d)
load-meets d ts s =
    opened c.OpenBracket d ts (a_term ++ fixed c.CloseBracket ∷ s) refl (λ n. refl) (λ o f.
    chain (term-meets o.0.0 o.1 (fixed c.CloseBracket ∷ s)) (λ t g.
    chain (expect-meets c.CloseBracket o.0.0 (suc o.0.0) t.1 s refl refl) (λ q i. so (rw (f, g, i)))))

alloc-meets : (d : ℕ) (ts : List Token) (s : Stack) → ahead ts ≡ c.Alloc
    → Meets (Read spell_value ts) (run (fixed c.Alloc ∷ fixed c.Open ∷ fixed c.Number ∷ fixed c.Close ∷ s) d ts) s d (read_alloc d ts)
alloc-meets d ts s e =
    chain (place-meets c.Alloc d d ts (fixed c.Open ∷ fixed c.Number ∷ fixed c.Close ∷ s) refl refl e) (λ p f.
    opened c.Open d p.1 (fixed c.Number ∷ fixed c.Close ∷ s) refl (λ n. refl) (λ o g.
    chain (number-meets o.0.0 o.1 (fixed c.Close ∷ s)) (λ n i.
    chain (expect-meets c.Close o.0.0 (suc o.0.0) n.1 s refl refl) (λ q j. so (rw (f, g, i, j))))))

cas-meets : (d : ℕ) (ts : List Token) (s : Stack) → ahead ts ≡ c.Cas
    → Meets (Read spell_value ts) (run (fixed c.Cas ∷ fixed c.Open ∷ a_term ++ fixed c.Comma ∷ a_term ++ fixed c.Comma ∷ a_term ++ fixed c.Close ∷ s) d ts) s d (read_cas d ts)
cas-meets d ts s e =
    chain (place-meets c.Cas d d ts (fixed c.Open ∷ a_term ++ fixed c.Comma ∷ a_term ++ fixed c.Comma ∷ a_term ++ fixed c.Close ∷ s) refl refl e) (λ p f1.
    opened c.Open d p.1 (a_term ++ fixed c.Comma ∷ a_term ++ fixed c.Comma ∷ a_term ++ fixed c.Close ∷ s) refl (λ n. refl) (λ o f2.
    chain (term-meets o.0.0 o.1 (fixed c.Comma ∷ a_term ++ fixed c.Comma ∷ a_term ++ fixed c.Close ∷ s)) (λ x f3.
    chain (expect-meets c.Comma o.0.0 o.0.0 x.1 (a_term ++ fixed c.Comma ∷ a_term ++ fixed c.Close ∷ s) refl refl) (λ m f4.
    chain (term-meets o.0.0 m.1 (fixed c.Comma ∷ a_term ++ fixed c.Close ∷ s)) (λ y f5.
    chain (expect-meets c.Comma o.0.0 o.0.0 y.1 (a_term ++ fixed c.Close ∷ s) refl refl) (λ n f6.
    chain (term-meets o.0.0 n.1 (fixed c.Close ∷ s)) (λ z f7.
    chain (expect-meets c.Close o.0.0 (suc o.0.0) z.1 s refl refl) (λ q f8. so (rw (f1, f2, f3, f4, f5, f6, f7, f8))))))))))

faa-meets : (d : ℕ) (ts : List Token) (s : Stack) → ahead ts ≡ c.Faa
    → Meets (Read spell_value ts) (run (fixed c.Faa ∷ fixed c.Open ∷ a_term ++ fixed c.Comma ∷ a_term ++ fixed c.Close ∷ s) d ts) s d (read_faa d ts)
faa-meets d ts s e =
    chain (place-meets c.Faa d d ts (fixed c.Open ∷ a_term ++ fixed c.Comma ∷ a_term ++ fixed c.Close ∷ s) refl refl e) (λ p f1.
    opened c.Open d p.1 (a_term ++ fixed c.Comma ∷ a_term ++ fixed c.Close ∷ s) refl (λ n. refl) (λ o f2.
    chain (term-meets o.0.0 o.1 (fixed c.Comma ∷ a_term ++ fixed c.Close ∷ s)) (λ x f3.
    chain (expect-meets c.Comma o.0.0 o.0.0 x.1 (a_term ++ fixed c.Close ∷ s) refl refl) (λ m f4.
    chain (term-meets o.0.0 m.1 (fixed c.Close ∷ s)) (λ y f5.
    chain (expect-meets c.Close o.0.0 (suc o.0.0) y.1 s refl refl) (λ q f6. so (rw (f1, f2, f3, f4, f5, f6))))))))

named_value_by-meets : (d : ℕ) (w : Word) (k : Class) (ts : List Token) (s : Stack) (all : List Token)
    → all ≡ name w ∷ ts → ahead ts ≡ k
    → Meets (Read spell_value all) (run (rule named_value ∷ s) d ts) s d (named_value_by d w k ts)
named_value_by-meets d w c.Open ts s all a e =
    enter _ (fixed c.Open ∷ rule terms ∷ s) d ts c.Open e refl (chain (terms-meets d ts s) (λ l f. so (rw (a, f))))
named_value_by-meets d w k ts s all a e =
    enter _ (the_rest_of_a_term ++ s) d ts k e refl (chain (term_from-meets d w ts s all a) (λ t f. so f))

value_by-meets : (d : ℕ) (k : Class) (ts : List Token) (s : Stack) → ahead ts ≡ k
    → Meets (Read spell_value ts) (run (rule a_value ∷ s) d ts) s d (value_by d k ts)
value_by-meets d c.OpenBracket ts s e = enter _ (fixed c.OpenBracket ∷ a_term ++ fixed c.CloseBracket ∷ s) d ts c.OpenBracket e refl (load-meets d ts s)
value_by-meets d c.Alloc ts s e = enter _ (fixed c.Alloc ∷ fixed c.Open ∷ fixed c.Number ∷ fixed c.Close ∷ s) d ts c.Alloc e refl (alloc-meets d ts s e)
value_by-meets d c.Cas ts s e =
    enter _ (fixed c.Cas ∷ fixed c.Open ∷ a_term ++ fixed c.Comma ∷ a_term ++ fixed c.Comma ∷ a_term ++ fixed c.Close ∷ s) d ts c.Cas e refl (cas-meets d ts s e)
value_by-meets d c.Faa ts s e =
    enter _ (fixed c.Faa ∷ fixed c.Open ∷ a_term ++ fixed c.Comma ∷ a_term ++ fixed c.Close ∷ s) d ts c.Faa e refl (faa-meets d ts s e)
value_by-meets d c.Name ts s e =
    enter _ (fixed c.Name ∷ rule named_value ∷ s) d ts c.Name e refl
    (chain (word-meets d ts (rule named_value ∷ s) e) (λ w f. named_value_by-meets d w.0 (ahead w.1) w.1 s ts f refl))
value_by-meets d k ts s e = enter _ (a_term ++ s) d ts k e refl (chain (term-meets d ts s) (λ t f. so f))

named_statement_by-meets : (d : ℕ) (w : Word) (k : Class) (ts : List Token) (s : Stack) (all : List Token)
    → all ≡ name w ∷ ts → ahead ts ≡ k
    → Meets (Read spell_statement all) (run (rule named_statement ∷ s) d ts) s d (named_statement_by d w k ts)
named_statement_by-meets d w c.Becomes ts s all a e =
    enter _ (fixed c.Becomes ∷ rule a_value ∷ fixed c.Semicolon ∷ s) d ts c.Becomes e refl
    (chain (place-meets c.Becomes d d ts (rule a_value ∷ fixed c.Semicolon ∷ s) refl refl e) (λ p f.
    chain (value_by-meets d (ahead p.1) p.1 (fixed c.Semicolon ∷ s) refl) (λ v g.
    chain (expect-meets c.Semicolon d d v.1 s refl refl) (λ q i. so (rw (a, f, g, i))))))
named_statement_by-meets d w c.Open ts s all a e =
    enter _ (fixed c.Open ∷ rule terms ∷ fixed c.Semicolon ∷ s) d ts c.Open e refl
    (chain (terms-meets d ts (fixed c.Semicolon ∷ s)) (λ l f.
    chain (expect-meets c.Semicolon d d l.1 s refl refl) (λ q i. so (rw (a, f, i)))))
named_statement_by-meets d w k ts s all a e = refuse (rule named_statement ∷ s) d ts (ap (next (rule named_statement ∷ s)) e)

store-meets : (d : ℕ)
    → IsMet (fixed c.OpenBracket ∷ a_term ++ fixed c.CloseBracket ∷ fixed c.Becomes ∷ a_term ++ fixed c.Semicolon ∷ []) spell_statement d (read_store d)
store-meets d ts s =
    opened-within c.OpenBracket d ts (a_term ++ fixed c.CloseBracket ∷ fixed c.Becomes ∷ a_term ++ fixed c.Semicolon ∷ s) refl (λ n. refl) (λ o n f1.
    chain (term-meets o.0.0 o.1 (fixed c.CloseBracket ∷ fixed c.Becomes ∷ a_term ++ fixed c.Semicolon ∷ s)) (λ x f2.
    chain (expect-meets c.CloseBracket o.0.0 d x.1 (fixed c.Becomes ∷ a_term ++ fixed c.Semicolon ∷ s) refl (ap Some n)) (λ q f3.
    chain (expect-meets c.Becomes d d q.1 (a_term ++ fixed c.Semicolon ∷ s) refl refl) (λ r f4.
    chain (term-meets d r.1 (fixed c.Semicolon ∷ s)) (λ t f5.
    chain (expect-meets c.Semicolon d d t.1 s refl refl) (λ e f6. so (rw (f1, f2, f3, f4, f5, f6))))))))

fork-meets : (d : ℕ) (ts : List Token) (s : Stack) → ahead ts ≡ c.Fork
    → Meets (Read spell_statement ts) (run (fixed c.Fork ∷ fixed c.Name ∷ fixed c.Open ∷ rule terms ∷ fixed c.Semicolon ∷ s) d ts) s d (read_fork d ts)
fork-meets d ts s e =
    chain (place-meets c.Fork d d ts (fixed c.Name ∷ fixed c.Open ∷ rule terms ∷ fixed c.Semicolon ∷ s) refl refl e) (λ p f.
    chain (name-meets d p.1 (fixed c.Open ∷ rule terms ∷ fixed c.Semicolon ∷ s)) (λ w g.
    chain (terms-meets d w.1 (fixed c.Semicolon ∷ s)) (λ l i.
    chain (expect-meets c.Semicolon d d l.1 s refl refl) (λ q j. so (rw (f, g, i, j))))))

-- a block in braces
abbrev BlockMeets : ℕ → Type 0
BlockMeets d = IsMet a_block spell_block d (block_at d)

abbrev spell_else_block : Spells ElseTree
spell_else_block e ts = spell_else e ts

else-spelled : (o : Option ElseTree) (ts : List Token)
    → spell_option spell_else o ts ≡ spell_else (else_of o) ts
else-spelled None ts = refl
else-spelled (Some e) ts = refl

may-else : (s : Stack)
    → IsChoice (rule may_else ∷ s) (fixed c.Else ∷ a_block ++ s) s (are_same c.Else)
may-else s = lead (rule may_else ∷ s) (fixed c.Else ∷ a_block ++ s) s (a_block ++ s) c.Else (λ k. refl) (λ k. refl)

branch-meets : (d : ℕ) → BlockMeets d → (ts : List Token) (s : Stack) → ahead ts ≡ c.If
    → Meets (Read spell_statement ts) (run (fixed c.If ∷ fixed c.Open ∷ a_comparison ++ fixed c.Close ∷ a_block ++ rule may_else ∷ s) d ts) s d (read_branch (block_at d) d ts)
branch-meets d h ts s e =
    chain (place-meets c.If d d ts (fixed c.Open ∷ a_comparison ++ fixed c.Close ∷ a_block ++ rule may_else ∷ s) refl refl e) (λ p f1.
    opened-within c.Open d p.1 (a_comparison ++ fixed c.Close ∷ a_block ++ rule may_else ∷ s) refl (λ n. refl) (λ o n f2.
    chain (comparison-meets o.0.0 o.1 (fixed c.Close ∷ a_block ++ rule may_else ∷ s)) (λ x f3.
    chain (expect-meets c.Close o.0.0 d x.1 (a_block ++ rule may_else ∷ s) refl (ap Some n)) (λ r f4.
    chain (h r.1 (rule may_else ∷ s)) (λ b f5.
    chain (optional-meets {spell = spell_else} (read_else (block_at d)) d b.1 (may-else s) (λ y.
    chain (place-meets c.Else d d b.1 (a_block ++ s) refl refl (this-token c.Else b.1 y)) (λ q g1.
    chain (h q.1 s) (λ z g2. so (rw (g1, g2)))))) (λ l f6.
    so (rw (f1, f2, f3, f4, f5, f6 ∙ else-spelled l.0 l.1))))))))

may-invariant : (s : Stack)
    → IsChoice (rule may_invariant ∷ s) (a_clause c.Invariant ++ s) s (are_same c.Invariant)
may-invariant s = lead (rule may_invariant ∷ s) (a_clause c.Invariant ++ s) s (an_assertion ++ fixed c.Semicolon ∷ s) c.Invariant (λ k. refl) (λ k. refl)

loop-meets : (d : ℕ) → BlockMeets d → (ts : List Token) (s : Stack) → ahead ts ≡ c.While
    → Meets (Read spell_statement ts) (run (fixed c.While ∷ fixed c.Open ∷ a_comparison ++ fixed c.Close ∷ rule may_invariant ∷ a_block ++ s) d ts) s d (read_loop (block_at d) d ts)
loop-meets d h ts s e =
    chain (place-meets c.While d d ts (fixed c.Open ∷ a_comparison ++ fixed c.Close ∷ rule may_invariant ∷ a_block ++ s) refl refl e) (λ p f1.
    opened-within c.Open d p.1 (a_comparison ++ fixed c.Close ∷ rule may_invariant ∷ a_block ++ s) refl (λ n. refl) (λ o n f2.
    chain (comparison-meets o.0.0 o.1 (fixed c.Close ∷ rule may_invariant ∷ a_block ++ s)) (λ x f3.
    chain (expect-meets c.Close o.0.0 d x.1 (rule may_invariant ∷ a_block ++ s) refl (ap Some n)) (λ r f4.
    chain (optional-meets (read_clause d c.Invariant) d r.1 (may-invariant (a_block ++ s)) (λ y. clause-meets d c.Invariant (codes "invariant") r.1 (a_block ++ s) refl refl (λ q. refl))) (λ i f5.
    chain (h i.1 s) (λ b f6. so (rw (f1, f2, f3, f4, f5, f6))))))))

check-meets : (d : ℕ) (ts : List Token) (s : Stack) → ahead ts ≡ c.Assert
    → Meets (Read spell_statement ts) (run (fixed c.Assert ∷ a_comparison ++ fixed c.Semicolon ∷ s) d ts) s d (read_check d ts)
check-meets d ts s e =
    chain (place-meets c.Assert d d ts (a_comparison ++ fixed c.Semicolon ∷ s) refl refl e) (λ p f.
    chain (comparison-meets d p.1 (fixed c.Semicolon ∷ s)) (λ x g.
    chain (expect-meets c.Semicolon d d x.1 s refl refl) (λ q i. so (rw (f, g, i)))))

give_back-meets : (d : ℕ) (ts : List Token) (s : Stack) → ahead ts ≡ c.Return
    → Meets (Read spell_statement ts) (run (fixed c.Return ∷ rule returned ∷ s) d ts) s d (read_give_back d ts)
give_back-meets d ts s e =
    chain (place-meets c.Return d d ts (rule returned ∷ s) refl refl e) (λ p f.
    chain (optional-meets (read_term d) d p.1 (until (rule returned ∷ s) (a_term ++ fixed c.Semicolon ∷ s) s c.Semicolon (λ k. refl)) (λ y. term-meets d p.1 (fixed c.Semicolon ∷ s))) (λ t g.
    chain (expect-meets c.Semicolon d d t.1 s refl refl) (λ q i. so (rw (f, g, i)))))

dispose-meets : (d : ℕ) (ts : List Token) (s : Stack) → ahead ts ≡ c.Dispose
    → Meets (Read spell_statement ts) (run (fixed c.Dispose ∷ fixed c.Open ∷ a_term ++ fixed c.Close ∷ fixed c.Semicolon ∷ s) d ts) s d (read_dispose d ts)
dispose-meets d ts s e =
    chain (place-meets c.Dispose d d ts (fixed c.Open ∷ a_term ++ fixed c.Close ∷ fixed c.Semicolon ∷ s) refl refl e) (λ p f1.
    opened-within c.Open d p.1 (a_term ++ fixed c.Close ∷ fixed c.Semicolon ∷ s) refl (λ n. refl) (λ o n f2.
    chain (term-meets o.0.0 o.1 (fixed c.Close ∷ fixed c.Semicolon ∷ s)) (λ t f3.
    chain (expect-meets c.Close o.0.0 d t.1 (fixed c.Semicolon ∷ s) refl (ap Some n)) (λ q f4.
    chain (expect-meets c.Semicolon d d q.1 s refl refl) (λ r f5. so (rw (f1, f2, f3, f4, f5)))))))

statement_by-meets : (d : ℕ) → BlockMeets d → (k : Class) (ts : List Token) (s : Stack)
    → ahead ts ≡ k
    → Meets (Read spell_statement ts) (run (rule a_statement ∷ s) d ts) s d (statement_by (block_at d) d k ts)
statement_by-meets d h c.Name ts s e =
    enter _ (fixed c.Name ∷ rule named_statement ∷ s) d ts c.Name e refl
    (chain (word-meets d ts (rule named_statement ∷ s) e) (λ w f. named_statement_by-meets d w.0 (ahead w.1) w.1 s ts f refl))
statement_by-meets d h c.OpenBracket ts s e =
    enter _ (fixed c.OpenBracket ∷ a_term ++ fixed c.CloseBracket ∷ fixed c.Becomes ∷ a_term ++ fixed c.Semicolon ∷ s) d ts c.OpenBracket e refl (store-meets d ts s)
statement_by-meets d h c.Fork ts s e =
    enter _ (fixed c.Fork ∷ fixed c.Name ∷ fixed c.Open ∷ rule terms ∷ fixed c.Semicolon ∷ s) d ts c.Fork e refl (fork-meets d ts s e)
statement_by-meets d h c.If ts s e =
    enter _ (fixed c.If ∷ fixed c.Open ∷ a_comparison ++ fixed c.Close ∷ a_block ++ rule may_else ∷ s) d ts c.If e refl (branch-meets d h ts s e)
statement_by-meets d h c.While ts s e =
    enter _ (fixed c.While ∷ fixed c.Open ∷ a_comparison ++ fixed c.Close ∷ rule may_invariant ∷ a_block ++ s) d ts c.While e refl (loop-meets d h ts s e)
statement_by-meets d h c.Assert ts s e = enter _ (fixed c.Assert ∷ a_comparison ++ fixed c.Semicolon ∷ s) d ts c.Assert e refl (check-meets d ts s e)
statement_by-meets d h c.Return ts s e = enter _ (fixed c.Return ∷ rule returned ∷ s) d ts c.Return e refl (give_back-meets d ts s e)
statement_by-meets d h c.Dispose ts s e =
    enter _ (fixed c.Dispose ∷ fixed c.Open ∷ a_term ++ fixed c.Close ∷ fixed c.Semicolon ∷ s) d ts c.Dispose e refl (dispose-meets d ts s e)
statement_by-meets d h k ts s e = refuse (rule a_statement ∷ s) d ts (ap (next (rule a_statement ∷ s)) e)

pub statements-spelled : (ss : List StatementTree) (ts : List Token)
    → spell_all spell_statement ss ts ≡ spell_statements (statements_of ss) ts
statements-spelled [] ts = refl
statements-spelled (s ∷ ss) ts = ap (spell_statement s) (statements-spelled ss ts)

pub block-meets : (d : ℕ) → BlockMeets d
block-meets zero ts s = no_room-meets c.OpenBrace ts (rule statements ∷ s) s 0 refl refl
block-meets (suc d) ts s =
    chain (expect-meets c.OpenBrace (suc d) d ts (rule statements ∷ s) refl refl) (λ p f.
    chain (while-meets d p.1 (until (rule statements ∷ s) (rule a_statement ∷ rule statements ∷ s) s c.CloseBrace (λ k. refl)) (statement-takes d) (λ b. refl)
    (λ us. statement_by-meets d (block-meets d) (ahead us) us (rule statements ∷ s) refl)) (λ ss g.
    chain (expect-meets c.CloseBrace d (suc d) ss.1 s refl refl) (λ q i. so (rw (f, g ∙ statements-spelled ss.0 ss.1, i)))))
