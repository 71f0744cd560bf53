-- What is spelled is read: statements, region types and the whole text.
use Rattle.std.proofs.Common.{◌≡◌, ℕ, zero, suc, not, Bool, true, false, List, [], ◌∷◌, Option, Some, None, Result, Ok, Err, refl, sym, ap, ◌∙◌, subst, codes}
use Rattle.cap_syntax.specs.declared.place.Place.{Place}
use Rattle.cap_syntax.specs.declared.token.Token.{Token}
use Rattle.cap_parse_tree.specs.declared.word.Word.{Word}
use Rattle.cap_parse_tree.specs.declared.tree.Header.{Header}
use Rattle.cap_parse_tree.specs.Tree.{value, load, alloc, cas, faa, result_of, region, function, TermTree, ValueTree, StatementTree, ElseTree, BlockTree, DeclaredTree, JointTree, AlgebraTree, DeclarationTree, InParentheses, InBraces, ComparisonTree, ClauseTree, WhenTree, CaseTree, ActionTree, RegionTree, FunctionTree, ProgramTree, literal, whole_share, named, bracketed, product, term, assign, store, call, fork, branch, loop, check, give_back, dispose, no_else, else_block, block, unique, divisible, counting, indexed, grouped, joint, algebra}
use Rattle.cap_parse_tree.specs.Tokens.{name, number, keyword, symbol}
use Rattle.cap_parse_tree.specs.Spelling.{Spells, spell_all, spell_more, spell_several, spell_option, spell_listed, spell_group, spell_name, spell_factors, spell_term, spell_products, spell_comparison, spell_guard, spell_assertion, spell_clause, spell_terms, spell_value, spell_statement, spell_block, spell_declared, spell_declareds, spell_joint, spell_joints, spell_algebra, spell_when, spell_case, spell_action, spell_region, spell_function, spell_declaration, spell_header, spelling}
use Rattle.cap_parse_tree.specs.Views.{statements_of, BothTree, EitherTree, declareds_of, joints_of}
use Rattle.cap_parse_laws.specs.declared.class.Class.{Class}
use Rattle.cap_parse_laws.specs.declared.class.Class.TheVariants as c
use Rattle.cap_parse_laws.specs.Classes.{class, are_same}
use Rattle.cap_parse_laws.specs.Readers.{Fault, unexpected, too_deep, Outcome, Reader, ◌>>=◌, ahead, read_name, read_until, read_several, read_listed, read_group}
use Rattle.cap_parse_laws.specs.Grammar.{read_term_from, bracketed_at, read_term, read_comparison, read_clause, read_terms, named_value_by, read_value, read_branch, read_statement, read_block_with, block_at, read_declared, read_joint, grouped_at, read_algebra, read_when, read_optional_when, read_case, read_action, read_region, read_function, read_declaration, read_header, read_parts, read_program}
use Rattle.cap_parse_laws.specs.Laws.Taking.{Takes, Keeps, takes-keeps, name-takes, term-takes, comparison-takes, statement-takes, declared-takes, joint-takes, case-takes, action-takes, declaration-takes}
use Rattle.cap_parse_laws.proofs.MeetsStatements.{statements-spelled}
use Rattle.cap_parse_laws.proofs.MeetsTexts.{declareds-spelled, joints-spelled}
use Rattle.cap_parse_laws.proofs.Gives.{Gives, gives, not-here, yields, where-false, opens-then, optional-gives, Begins, while-gives, more-gives, several-gives}
use Rattle.cap_parse_laws.proofs.Complete.{list_of_statements, statements-again, list_of_declareds, declareds-again, list_of_joints, joints-again, no_star, no-star, ends_term, term-gives, begins_term, term-begins, rest-begins, comparison-gives, guards-gives, begins_guard, guard-begins, no_item_of_its_own, assertion-gives, expect-gives, clause-gives}

-- lists of parts

not-closing : (k : Class) → begins_term k ≡ true → not (are_same c.Close k) ≡ true
not-closing c.Close e = cc
not-closing k e = refl

listed-gives : {A : Type 0} (spell : Spells A) (follows : Class → Bool) (one : ℕ → Reader A)
    → follows c.Comma ≡ true → follows c.Close ≡ true → ((d : ℕ) → Keeps (one d))
    → ((a : A) (ts : List Token) → not (are_same c.Close (ahead (spell a ts))) ≡ true)
    → ((d : ℕ) (a : A) (ts : List Token) → follows (ahead ts) ≡ true → Gives a ts (one d (spell a ts)))
    → (d : ℕ) (l : InParentheses A) (ts : List Token)
    → Gives l ts (read_listed d one (spell_listed spell l ts))
listed-gives spell follows one f g keeps first each d l ts =
    let rest = symbol (codes ")") l.behind ∷ ts in
    opens-then _ c.Open d (symbol (codes "(") l.before) (spell_option (spell_several (codes ",") spell) l.parts rest) refl (λ n.
    yields _ (optional-gives (spell_several (codes ",") spell) (λ k. not (are_same c.Close k)) (read_several c.Comma (one n)) l.parts rest refl
    (λ a. first a.first (spell_more (codes ",") spell a.more rest))
    (λ a. several-gives spell follows c.Comma (codes ",") (one n) (λ p. refl) refl f (keeps n) (each n) a rest refl g)) gives)

group-gives : {A : Type 0} (spell : Spells A) (k : Class) (text : List ℕ) (one : ℕ → Reader A)
    → ((p : Place) → class (keyword text p) ≡ k) → ((d : ℕ) → Takes (one d))
    → ((a : A) (ts : List Token) → Begins (λ j. not (are_same c.CloseBrace j)) (λ j. true) (spell a ts))
    → ((d : ℕ) (a : A) (ts : List Token) → Gives a ts (one d (spell a ts)))
    → (d : ℕ) (l : InBraces A) (ts : List Token)
    → Gives l ts (read_group d k one (spell_group text spell l ts))
group-gives spell k text one e takes first each d l ts =
    let rest = symbol (codes "}") l.behind ∷ ts in
    yields _ (expect-gives k (keyword text l.key) (symbol (codes "{") l.before ∷ spell_all spell l.parts rest) (e l.key))
    (opens-then _ c.OpenBrace d (symbol (codes "{") l.before) (spell_all spell l.parts rest) refl (λ n.
    yields _ (while-gives spell (λ j. not (are_same c.CloseBrace j)) (λ j. true) (one n) (takes n) first (λ a us f. each n a us) l.parts rest refl refl) gives))

-- statements

terms-gives : (d : ℕ) (l : InParentheses TermTree) (ts : List Token)
    → Gives l ts (read_terms d (spell_terms l ts))
terms-gives d l ts =
    listed-gives spell_term ends_term read_term refl refl (λ n. takes-keeps (read_term n) (term-takes n))
    (λ t us. not-closing (ahead (spell_term t us)) (term-begins t us)) term-gives d l ts

no-call : (d : ℕ) (w : Word) (k : Class) (us : List Token) → no_item_of_its_own k ≡ true
    → named_value_by d w k us ≡ (read_term_from (bracketed_at d) None (named w) us >>= λ t. Ok (value t.0, t.1))
no-call d w c.Open us e = cc
no-call d w k us e = refl

value-of-term : (d : ℕ) (t : TermTree) (us : List Token) → no_item_of_its_own (ahead us) ≡ true
    → read_value d (spell_term t us) ≡ (read_term d (spell_term t us) >>= λ t. Ok (value t.0, t.1))
value-of-term d (term (Some p) (product f fs) ms) us e = refl
value-of-term d (term None (product (literal n) fs) ms) us e = refl
value-of-term d (term None (product (whole_share p) fs) ms) us e = refl
value-of-term d (term None (product (named w) fs) ms) us e =
    let rest = spell_factors fs (spell_products ms us) in
    no-call d w (ahead rest) rest (rest-begins no_item_of_its_own refl refl refl fs ms us e)
value-of-term d (term None (product (bracketed p t q) fs) ms) us e = refl

-- a value, before its semicolon
value-gives : (d : ℕ) (v : ValueTree) (e : Place) (ts : List Token)
    → Gives v (symbol (codes ";") e ∷ ts) (read_value d (spell_value v (symbol (codes ";") e ∷ ts)))
value-gives d (value t) e ts =
    let rest = symbol (codes ";") e ∷ ts in
    subst (Gives (value t) rest) (sym (value-of-term d t rest refl)) (yields _ (term-gives d t rest refl) gives)
value-gives d (load p t q) e ts =
    let rest = symbol (codes "]") q ∷ symbol (codes ";") e ∷ ts in
    opens-then _ c.OpenBracket d (symbol (codes "[") p) (spell_term t rest) refl (λ n. yields _ (term-gives n t rest refl) gives)
value-gives d (alloc p q n r) e ts =
    opens-then _ c.Open d (symbol (codes "(") q) (number n ∷ symbol (codes ")") r ∷ symbol (codes ";") e ∷ ts) refl (λ m. gives)
value-gives d (cas p q x a y b z r) e ts =
    let rest3 = symbol (codes ")") r ∷ symbol (codes ";") e ∷ ts in
    let rest2 = symbol (codes ",") b ∷ spell_term z rest3 in
    let rest1 = symbol (codes ",") a ∷ spell_term y rest2 in
    opens-then _ c.Open d (symbol (codes "(") q) (spell_term x rest1) refl (λ n.
    yields _ (term-gives n x rest1 refl) (yields _ (term-gives n y rest2 refl) (yields _ (term-gives n z rest3 refl) gives)))
value-gives d (faa p q x a y r) e ts =
    let rest2 = symbol (codes ")") r ∷ symbol (codes ";") e ∷ ts in
    let rest1 = symbol (codes ",") a ∷ spell_term y rest2 in
    opens-then _ c.Open d (symbol (codes "(") q) (spell_term x rest1) refl (λ n.
    yields _ (term-gives n x rest1 refl) (yields _ (term-gives n y rest2 refl) gives))
value-gives d (result_of w l) e ts = yields _ (terms-gives d l (symbol (codes ";") e ∷ ts)) gives

abbrev BlockGives : ℕ → Type 0
BlockGives d = (b : BlockTree) (ts : List Token) → Gives b ts (block_at d (spell_block b ts))

abbrev no_else_ahead : Class → Bool
no_else_ahead k = not (are_same c.Else k)

no-else : (k : Class) → no_else_ahead k ≡ true → are_same c.Else k ≡ false
no-else c.Else e = cc
no-else k e = refl

branch-gives : (d : ℕ) → BlockGives d
    → (p q : Place) (x : ComparisonTree) (r : Place) (b : BlockTree) (f : ElseTree) (ts : List Token)
    → are_same c.Else (ahead ts) ≡ false
    → Gives (branch p q x r b f) ts (read_branch (block_at d) d (spell_statement (branch p q x r b f) ts))
branch-gives d h p q x r b no_else ts e =
    let rest = symbol (codes ")") r ∷ spell_block b ts in
    opens-then _ c.Open d (symbol (codes "(") q) (spell_comparison x rest) refl (λ n.
    yields _ (comparison-gives n x rest refl)
    (yields _ (h b ts) (yields _ (where-false (are_same c.Else (ahead ts)) _ e gives) gives)))
branch-gives d h p q x r b (else_block s o) ts e =
    let after = keyword (codes "else") s ∷ spell_block o ts in
    let rest = symbol (codes ")") r ∷ spell_block b after in
    opens-then _ c.Open d (symbol (codes "(") q) (spell_comparison x rest) refl (λ n.
    yields _ (comparison-gives n x rest refl)
    (yields _ (h b after) (yields _ (yields _ (yields _ (h o ts) gives) gives) gives)))

block-begins : (b : BlockTree) (ts : List Token) → ahead (spell_block b ts) ≡ c.OpenBrace
block-begins (block p ss q) ts = refl

no-semicolon : (k : Class) → begins_term k ≡ true → not (are_same c.Semicolon k) ≡ true
no-semicolon c.Semicolon e = cc
no-semicolon k e = refl

statement-gives : (d : ℕ) → BlockGives d → (s : StatementTree) (ts : List Token)
    → no_else_ahead (ahead ts) ≡ true
    → Gives s ts (read_statement (block_at d) d (spell_statement s ts))
statement-gives d h (assign w p v e) ts f = yields _ (value-gives d v e ts) gives
statement-gives d h (store p a q r t e) ts f =
    let rest2 = symbol (codes ";") e ∷ ts in
    let rest1 = symbol (codes "]") q ∷ symbol (codes ":=") r ∷ spell_term t rest2 in
    opens-then _ c.OpenBracket d (symbol (codes "[") p) (spell_term a rest1) refl (λ n.
    yields _ (term-gives n a rest1 refl) (yields _ (term-gives d t rest2 refl) gives))
statement-gives d h (call w l e) ts f = yields _ (terms-gives d l (symbol (codes ";") e ∷ ts)) gives
statement-gives d h (fork p w l e) ts f = yields _ (terms-gives d l (symbol (codes ";") e ∷ ts)) gives
statement-gives d h (branch p q x r b o) ts f = branch-gives d h p q x r b o ts (no-else (ahead ts) f)
statement-gives d h (loop p q x r i b) ts f =
    let after = spell_block b ts in
    let rest = symbol (codes ")") r ∷ spell_option (spell_clause (codes "invariant")) i after in
    opens-then _ c.Open d (symbol (codes "(") q) (spell_comparison x rest) refl (λ n.
    yields _ (comparison-gives n x rest refl)
    (yields _ (optional-gives (spell_clause (codes "invariant")) (are_same c.Invariant) (read_clause d c.Invariant) i after (ap (are_same c.Invariant) (block-begins b ts)) (λ y. refl) (λ y. clause-gives d c.Invariant (codes "invariant") y after (λ p. refl)))
    (yields _ (h b ts) gives)))
statement-gives d h (check p x e) ts f = yields _ (comparison-gives d x (symbol (codes ";") e ∷ ts) refl) gives
statement-gives d h (give_back p t e) ts f =
    let rest = symbol (codes ";") e ∷ ts in
    yields _ (optional-gives spell_term (λ k. not (are_same c.Semicolon k)) (read_term d) t rest refl (λ y. no-semicolon (ahead (spell_term y rest)) (term-begins y rest)) (λ y. term-gives d y rest refl)) gives
statement-gives d h (dispose p q t r e) ts f =
    let rest = symbol (codes ")") r ∷ symbol (codes ";") e ∷ ts in
    opens-then _ c.Open d (symbol (codes "(") q) (spell_term t rest) refl (λ n. yields _ (term-gives n t rest refl) gives)

statement-begins : (s : StatementTree) (ts : List Token)
    → Begins (λ k. not (are_same c.CloseBrace k)) no_else_ahead (spell_statement s ts)
statement-begins (assign w p v e) ts = (refl, refl, refl)
statement-begins (store p a q r t e) ts = (refl, refl, refl)
statement-begins (call w l e) ts = (refl, refl, refl)
statement-begins (fork p w l e) ts = (refl, refl, refl)
statement-begins (branch p q x r b o) ts = (refl, refl, refl)
statement-begins (loop p q x r i b) ts = (refl, refl, refl)
statement-begins (check p x e) ts = (refl, refl, refl)
statement-begins (give_back p t e) ts = (refl, refl, refl)
statement-begins (dispose p q t r e) ts = (refl, refl, refl)

block-gives : (d : ℕ) → BlockGives d
block-gives zero (block p ss q) ts = not-here
block-gives (suc d) (block p ss q) ts =
    subst (λ m. Gives (block p m q) ts (block_at (suc d) (spell_block (block p m q) ts))) (statements-again ss) (by (block-gives d) (list_of_statements ss))
  where
    by : BlockGives d → (l : List StatementTree) → Gives (block p (statements_of l) q) ts (block_at (suc d) (spell_block (block p (statements_of l) q) ts))
    by h l =
        let rest = symbol (codes "}") q ∷ ts in
        subst (λ us. Gives (block p (statements_of l) q) ts (read_block_with (read_statement (block_at d) d) (symbol (codes "{") p ∷ us))) (statements-spelled l rest)
        (yields _ (while-gives spell_statement (λ k. not (are_same c.CloseBrace k)) no_else_ahead (read_statement (block_at d) d) (statement-takes d) statement-begins (statement-gives d h) l rest refl refl) gives)

-- region types

abbrev GroupedGives : ℕ → Type 0
GroupedGives d = (p : Place) (a : AlgebraTree) (q : Place) (ts : List Token) → Gives (grouped p a q) ts (grouped_at d (symbol (codes "(") p ∷ spell_algebra a (symbol (codes ")") q ∷ ts)))

declared-gives : (d : ℕ) → GroupedGives d → (x : DeclaredTree) (ts : List Token)
    → Gives x ts (read_declared d (grouped_at d) (spell_declared x ts))
declared-gives d h (unique w) ts = gives
declared-gives d h (divisible p w) ts = gives
declared-gives d h (counting p w q) ts = gives
declared-gives d h (indexed p w q) ts = opens-then _ c.Index d (keyword (codes "[") p) (name w ∷ symbol (codes "]") q ∷ ts) refl (λ n. gives)
declared-gives d h (grouped p a q) ts = h p a q ts

joint-gives : (d : ℕ) → GroupedGives d → (j : JointTree) (ts : List Token)
    → no_star (ahead ts) ≡ true → Gives j ts (read_joint d (grouped_at d) (spell_joint j ts))
joint-gives d h (joint x more) ts e =
    subst (λ m. Gives (joint x m) ts (read_joint d (grouped_at d) (spell_declared x (spell_declareds m ts)))) (declareds-again more) (by (list_of_declareds more))
  where
    by : (l : List BothTree) → Gives (joint x (declareds_of l)) ts (read_joint d (grouped_at d) (spell_declared x (spell_declareds (declareds_of l) ts)))
    by l =
        subst (λ us. Gives (joint x (declareds_of l)) ts (read_joint d (grouped_at d) (spell_declared x us))) (declareds-spelled l ts)
        (yields _ (declared-gives d h x (spell_more (codes "*") spell_declared l ts))
        (yields _ (more-gives spell_declared (λ k. true) c.Star (codes "*") (read_declared d (grouped_at d)) (λ p. refl) refl refl (takes-keeps (read_declared d (grouped_at d)) (declared-takes d)) (λ a us f. declared-gives d h a us) l ts (no-star (ahead ts) e) refl) gives))

plus-no-star : (more : List EitherTree) (ts : List Token) → no_star (ahead ts) ≡ true
    → no_star (ahead (spell_more (codes "+") spell_joint more ts)) ≡ true
plus-no-star [] ts e = e
plus-no-star (j ∷ more) ts e = refl

algebra-gives-with : (d : ℕ) → GroupedGives d → (a : AlgebraTree) (ts : List Token)
    → are_same c.Plus (ahead ts) ≡ false → no_star (ahead ts) ≡ true
    → Gives a ts (read_algebra d (spell_algebra a ts))
algebra-gives-with d h (algebra j more) ts e f =
    subst (λ m. Gives (algebra j m) ts (read_algebra d (spell_joint j (spell_joints m ts)))) (joints-again more) (by (list_of_joints more))
  where
    by : (l : List EitherTree) → Gives (algebra j (joints_of l)) ts (read_algebra d (spell_joint j (spell_joints (joints_of l) ts)))
    by l =
        subst (λ us. Gives (algebra j (joints_of l)) ts (read_algebra d (spell_joint j us))) (joints-spelled l ts)
        (yields _ (joint-gives d h j (spell_more (codes "+") spell_joint l ts) (plus-no-star l ts f))
        (yields _ (more-gives spell_joint no_star c.Plus (codes "+") (read_joint d (grouped_at d)) (λ p. refl) refl refl (takes-keeps (read_joint d (grouped_at d)) (joint-takes d)) (joint-gives d h) l ts e f) gives))

grouped-gives : (d : ℕ) → GroupedGives d
grouped-gives zero p a q ts = not-here
grouped-gives (suc d) p a q ts = yields _ (algebra-gives-with d (grouped-gives d) a (symbol (codes ")") q ∷ ts) refl refl) gives

-- no conditions go on with this
abbrev ends_when : Class → Bool
ends_when c.Comma = false
ends_when k = ends_term k

when-gives : (d : ℕ) (w : WhenTree) (ts : List Token) → ends_term (ahead ts) ≡ true
    → are_same c.Comma (ahead ts) ≡ false → Gives w ts (read_when d (spell_when w ts))
when-gives d w ts e f =
    yields _ (several-gives spell_comparison ends_term c.Comma (codes ",") (read_comparison d) (λ p. refl) refl refl (takes-keeps (read_comparison d) (comparison-takes d)) (comparison-gives d) w.comparisons ts f e) gives

-- conditions, or none, before a token of a class that ends them
optional_when-gives : (d : ℕ) (w : Option WhenTree) (t : Token) (ts : List Token)
    → ends_term (class t) ≡ true → are_same c.Comma (class t) ≡ false
    → are_same c.When (class t) ≡ false
    → Gives w (t ∷ ts) (read_optional_when d (spell_option spell_when w (t ∷ ts)))
optional_when-gives d w t ts e f g = optional-gives spell_when (are_same c.When) (read_when d) w (t ∷ ts) g (λ y. refl) (λ y. when-gives d y (t ∷ ts) e f)

when-ends : (w : Option WhenTree) (t : Token) (ts : List Token) → ends_term (class t) ≡ true
    → ends_term (ahead (spell_option spell_when w (t ∷ ts))) ≡ true
when-ends None t ts e = e
when-ends (Some w) t ts e = refl

case-gives : (d : ℕ) (x : CaseTree) (ts : List Token) → Gives x ts (read_case d (spell_case x ts))
case-gives d x ts =
    let end = symbol (codes ";") x.semicolon ∷ ts in
    let colon = symbol (codes ":") x.colon in
    let rest = spell_assertion x.assertion end in
    yields _ (term-gives d x.state (spell_option spell_when x.when (colon ∷ rest)) (when-ends x.when colon rest refl))
    (yields _ (optional_when-gives d x.when colon rest refl refl refl)
    (yields _ (assertion-gives d x.assertion end refl refl) gives))

action-gives : (d : ℕ) (x : ActionTree) (ts : List Token)
    → Gives x ts (read_action d (spell_action x ts))
action-gives d x ts =
    let end = symbol (codes ";") x.semicolon in
    let target = spell_term x.target (spell_option spell_when x.when (end ∷ ts)) in
    let source = spell_term x.source (symbol (codes "~>") x.arrow ∷ target) in
    yields _ (guards-gives d x.guards (symbol (codes ":") x.colon ∷ source) refl refl)
    (yields _ (term-gives d x.source (symbol (codes "~>") x.arrow ∷ target) refl)
    (yields _ (term-gives d x.target (spell_option spell_when x.when (end ∷ ts)) (when-ends x.when end ts refl))
    (yields _ (optional_when-gives d x.when end ts refl refl refl) gives)))

term-in-braces : (k : Class) → begins_term k ≡ true
    → (not (are_same c.CloseBrace k) ≡ true) × (true ≡ true) × (are_same c.End k ≡ false)
term-in-braces c.CloseBrace e = cc
term-in-braces c.End e = cc
term-in-braces k e = (refl, refl, refl)

guard-in-braces : (k : Class) → begins_guard k ≡ true
    → (not (are_same c.CloseBrace k) ≡ true) × (true ≡ true) × (are_same c.End k ≡ false)
guard-in-braces c.CloseBrace e = cc
guard-in-braces c.End e = cc
guard-in-braces k e = (refl, refl, refl)

case-begins : (x : CaseTree) (ts : List Token)
    → Begins (λ j. not (are_same c.CloseBrace j)) (λ j. true) (spell_case x ts)
case-begins x ts = let l = spell_case x ts in term-in-braces (ahead l) (term-begins x.state (spell_option spell_when x.when (symbol (codes ":") x.colon ∷ spell_assertion x.assertion (symbol (codes ";") x.semicolon ∷ ts))))

action-begins : (x : ActionTree) (ts : List Token)
    → Begins (λ j. not (are_same c.CloseBrace j)) (λ j. true) (spell_action x ts)
action-begins x ts =
    let l = spell_action x ts in
    guard-in-braces (ahead l) (guard-begins x.guards.first (spell_more (codes "*") spell_guard x.guards.more (symbol (codes ":") x.colon ∷ spell_term x.source (symbol (codes "~>") x.arrow ∷ spell_term x.target (spell_option spell_when x.when (symbol (codes ";") x.semicolon ∷ ts))))))

region-gives : (d : ℕ) (x : RegionTree) (ts : List Token)
    → Gives x ts (read_region d (spell_region x ts))
region-gives d x ts =
    let end = symbol (codes "}") x.end ∷ ts in
    let acts = spell_group (codes "actions") spell_action x.actions end in
    let cs = spell_group (codes "interpretation") spell_case x.cases acts in
    let body = keyword (codes "guards") x.guards ∷ spell_algebra x.algebra (symbol (codes ";") x.semicolon ∷ cs) in
    let rest = symbol (codes ")") x.behind ∷ symbol (codes "{") x.brace ∷ body in
    yields _ (
    opens-then _ c.Open d (symbol (codes "(") x.before) (spell_several (codes ",") spell_name x.parameters rest) refl (λ n.
    yields _ (several-gives spell_name (λ k. true) c.Comma (codes ",") read_name (λ p. refl) refl refl (takes-keeps read_name name-takes) (λ a us f. gives) x.parameters rest refl refl) gives))
    (opens-then _ c.OpenBrace d (symbol (codes "{") x.brace) body refl (λ n.
    yields _ (algebra-gives-with n (grouped-gives n) x.algebra (symbol (codes ";") x.semicolon ∷ cs) refl refl)
    (yields _ (group-gives spell_case c.Interpretation (codes "interpretation") read_case (λ p. refl) case-takes case-begins case-gives n x.cases acts)
    (yields _ (group-gives spell_action c.Actions (codes "actions") read_action (λ p. refl) action-takes action-begins action-gives n x.actions end) gives))))

no-clause : (j : Class) (x : Option ClauseTree) (b : BlockTree) (ts : List Token)
    → are_same j c.Ensures ≡ false → are_same j c.OpenBrace ≡ false
    → are_same j (ahead (spell_option (spell_clause (codes "ensures")) x (spell_block b ts))) ≡ false
no-clause j None b ts e f = ap (are_same j) (block-begins b ts) ∙ f
no-clause j (Some x) b ts e f = e

function-gives : (d : ℕ) (x : FunctionTree) (ts : List Token)
    → Gives x ts (read_function d (spell_function x ts))
function-gives d x ts =
    let body = spell_block x.body ts in
    let post = spell_option (spell_clause (codes "ensures")) x.postcondition body in
    let pre = spell_option (spell_clause (codes "requires")) x.precondition post in
    yields _ (listed-gives spell_name (λ k. true) (λ n. read_name) refl refl (λ n. takes-keeps read_name name-takes) (λ a us. refl) (λ n a us f. gives) d x.parameters pre)
    (yields _ (optional-gives (spell_clause (codes "requires")) (are_same c.Requires) (read_clause d c.Requires) x.precondition post (no-clause c.Requires x.postcondition x.body ts refl refl) (λ y. refl) (λ y. clause-gives d c.Requires (codes "requires") y post (λ p. refl)))
    (yields _ (optional-gives (spell_clause (codes "ensures")) (are_same c.Ensures) (read_clause d c.Ensures) x.postcondition body (ap (are_same c.Ensures) (block-begins x.body ts)) (λ y. refl) (λ y. clause-gives d c.Ensures (codes "ensures") y body (λ p. refl)))
    (yields _ (block-gives d x.body ts) gives)))

declaration-gives : (d : ℕ) (x : DeclarationTree) (ts : List Token)
    → Gives x ts (read_declaration d (spell_declaration x ts))
declaration-gives d (region r) ts = yields _ (region-gives d r ts) gives
declaration-gives d (function f) ts = yields _ (function-gives d f ts) gives

declaration-begins : (x : DeclarationTree) (ts : List Token)
    → Begins (λ j. not (are_same c.End j)) (λ j. true) (spell_declaration x ts)
declaration-begins (region r) ts = (refl, refl, refl)
declaration-begins (function f) ts = (refl, refl, refl)

-- the tree is read, or a bracket opens too deep
abbrev pub IsReadUnlessDeep : ProgramTree → Result ProgramTree Fault → Type 0
IsReadUnlessDeep t (Ok u) = u ≡ t
IsReadUnlessDeep t (Err (unexpected rest)) = ⊥
IsReadUnlessDeep t (Err (too_deep rest)) = Unit {0}

no-header : (ds : List DeclarationTree) → are_same c.Caper (ahead (spell_all spell_declaration ds [])) ≡ false
no-header [] = refl
no-header (region r ∷ ds) = refl
no-header (function f ∷ ds) = refl

parts-give : (d : ℕ) (t : ProgramTree) → Gives (t.header, t.declarations) [] (read_parts d (spelling t))
parts-give d t =
    yields _ (optional-gives spell_header (are_same c.Caper) read_header t.header (spell_all spell_declaration t.declarations []) (no-header t.declarations) (λ y. refl) (λ y. gives))
    (yields _ (while-gives spell_declaration (λ j. not (are_same c.End j)) (λ j. true) (read_declaration d) (declaration-takes d) declaration-begins (λ a us f. declaration-gives d a us) t.declarations [] refl refl) gives)

pub program-gives : (d : ℕ) (t : ProgramTree) → IsReadUnlessDeep t (read_program d (spelling t))
program-gives d t = by (read_parts d (spelling t)) (parts-give d t)
  where
    by : (r : Outcome (Option Header × List DeclarationTree)) → Gives (t.header, t.declarations) [] r → IsReadUnlessDeep t (r >>= λ x. Ok (record { header = x.0.0; declarations = x.0.1 }))
    by (Ok x) h = ap (λ (y : (Option Header × List DeclarationTree) × List Token). record { header = y.0.0; declarations = y.0.1 }) h.held
    by (Err (unexpected rest)) h = h.held
    by (Err (too_deep rest)) h = tt
