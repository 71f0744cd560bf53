-- The lists of region types and functions are short, where the tree has no more tokens than a text may have.
use Rattle.std.proofs.Common.{◌≡◌, ℕ, ◌+◌, ◌<◌, ◌≤◌, ◌^◌, codes, List, [], ◌∷◌, length, filter_map, Option, Some, None, sym, subst, arith, length-append}
use Rattle.std.specs.List.{AllByRecursion}
use Rattle.cap_syntax.specs.declared.token.Token.{Token}
use Rattle.cap_prog.specs.Program.{none, PlainAct, Block, done, first, append, PlainStatement}
use Rattle.cap_prog.specs.Parts.{all_statements, block_statements, blocks, block_length}
use Rattle.cap_prog.specs.WellFormed.{most_members}
use Rattle.cap_parse_tree.specs.Tree.{value, load, alloc, cas, faa, result_of, StatementTree, assign, store, call, fork, branch, loop, check, give_back, dispose, ElseTree, no_else, else_block, StatementTrees, no_statement, then_statement, BlockTree, block, DeclaredTree, unique, divisible, counting, indexed, grouped, DeclaredTrees, no_declared, and_declared, JointTree, joint, JointTrees, no_joint, or_joint, AlgebraTree, algebra, WhenTree, CaseTree, ActionTree, RegionTree, FunctionTree, DeclarationTree, region, function, ProgramTree}
use Rattle.cap_parse_tree.specs.Tokens.{symbol, keyword}
use Rattle.cap_parse_tree.specs.Spelling.{spell_all, spell_option, spell_listed, spell_group, spell_name, spell_term, spell_comparison, spell_guard, spell_assertion, spell_clause, spell_value, spell_statement, spell_else, spell_statements, spell_block, spell_declared, spell_declareds, spell_joint, spell_joints, spell_algebra, spell_when, spell_case, spell_action, spell_region, spell_function, spell_declaration, spell_header, spelling}
use Rattle.cap_resolve_spec.specs.Parts.{when_comparisons, statement_parts, else_parts, statements_parts, block_parts, declared_guards, declareds_guards, joint_guards, joints_guards, algebra_guards, invariant, region_in, function_in, regions, functions}
use Rattle.cap_resolve_spec.specs.Items.{NumberedRegion, region_guards}
use Rattle.cap_resolve_spec.specs.Functions.{Context, context_of, clause_types, clause_scope, requires_types, requires_scope}
use Rattle.cap_resolve_spec.specs.Regions.{case_types, case_scope}
use Rattle.cap_resolve_spec.specs.Program.{new_assertion, act_program, else_program, statements_program, block_program, closing_return, block_end}
use Rattle.cap_resolve_spec.proofs.Every.{each_append, each_weaker}
use Rattle.cap_resolve_spec.proofs.Regions.{ItemsShort, CaseShort, ActionShort, RegionShort}
use Rattle.cap_resolve_spec.proofs.Bodies.{all_statements-append}
use Rattle.cap_resolve_spec.proofs.Statements.{FunctionShort}
use Rattle.cap_resolve_spec.proofs.Tokens.{Adds, all-add, term-adds, comparison-adds, guard-adds, name-adds, several-add, option-adds, listed-adds, group-add, clause-adds, clause-items, assertion-items, assertion-adds}

-- ---- statements

value-adds : Adds spell_value
value-adds (value t) ts = term-adds t ts
value-adds (load p t q) ts = omega (arith, term-adds t (symbol (codes "]") q ∷ ts))
value-adds (alloc p q n r) ts = omega arith
value-adds (cas p q a c e d f r) ts = omega (arith, term-adds a (symbol (codes ",") c ∷ spell_term e (symbol (codes ",") d ∷ spell_term f (symbol (codes ")") r ∷ ts))), term-adds e (symbol (codes ",") d ∷ spell_term f (symbol (codes ")") r ∷ ts)), term-adds f (symbol (codes ")") r ∷ ts))
value-adds (faa p q a c e r) ts = omega (arith, term-adds a (symbol (codes ",") c ∷ spell_term e (symbol (codes ")") r ∷ ts)), term-adds e (symbol (codes ")") r ∷ ts))
value-adds (result_of w l) ts = omega (arith, listed-adds spell_term term-adds l ts)

mutual
  statement-adds : Context → Adds spell_statement
  statement-adds g (assign w p v e) ts = omega (arith, value-adds v (symbol (codes ";") e ∷ ts))
  statement-adds g (store p a q r t e) ts = omega (arith, term-adds a (symbol (codes "]") q ∷ symbol (codes ":=") r ∷ spell_term t (symbol (codes ";") e ∷ ts)), term-adds t (symbol (codes ";") e ∷ ts))
  statement-adds g (call w l e) ts = omega (arith, listed-adds spell_term term-adds l (symbol (codes ";") e ∷ ts))
  statement-adds g (fork p w l e) ts = omega (arith, listed-adds spell_term term-adds l (symbol (codes ";") e ∷ ts))
  statement-adds g (branch p q c r b e) ts = omega (arith, comparison-adds c (symbol (codes ")") r ∷ spell_block b (spell_else e ts)), block-adds g 0 b (spell_else e ts), else-adds g e ts)
  statement-adds g (loop p q c r i b) ts = omega (arith, comparison-adds c (symbol (codes ")") r ∷ spell_option (spell_clause (codes "invariant")) i (spell_block b ts)), option-adds (spell_clause (codes "invariant")) (clause-adds (codes "invariant")) i (spell_block b ts), block-adds g 0 b ts)
  statement-adds g (check p c e) ts = omega (arith, comparison-adds c (symbol (codes ";") e ∷ ts))
  statement-adds g (give_back p t e) ts = omega (arith, option-adds spell_term term-adds t (symbol (codes ";") e ∷ ts))
  statement-adds g (dispose p q t r e) ts = omega (arith, term-adds t (symbol (codes ")") r ∷ symbol (codes ";") e ∷ ts))

  else-adds : Context → (e : ElseTree) (ts : List Token) → length ts ≤ length (spell_else e ts)
  else-adds g no_else ts = omega arith
  else-adds g (else_block p b) ts = omega (arith, block-adds g 0 b ts)

  statements-add : (g : Context) (n : ℕ) (ss : StatementTrees) (ts : List Token) → block_length (statements_program g n ss) + length ts ≤ length (spell_statements ss ts)
  statements-add g n no_statement ts = omega arith
  statements-add g n (then_statement s ss) ts = omega (arith, statement-adds g s (spell_statements ss ts), statements-add g (n + length (statement_parts s)) ss ts)

  block-adds : (g : Context) (n : ℕ) (b : BlockTree) (ts : List Token) → block_length (block_program g n b) + 2 + length ts ≤ length (spell_block b ts)
  block-adds g n (block p ss q) ts = omega (arith, statements-add g n ss (symbol (codes "}") q ∷ ts))

else-length : (g : Context) (n : ℕ) (e : ElseTree) (ts : List Token) → block_length (else_program g n e) + length ts ≤ length (spell_else e ts)
else-length g n no_else ts = omega arith
else-length g n (else_block p b) ts = omega (arith, block-adds g n b ts)

abbrev ShortBlocks : PlainAct → Type 0
ShortBlocks s = AllByRecursion (λ b. block_length b ≤ most_members) (blocks s)

abbrev BlocksShort : List PlainStatement → Type 0
BlocksShort ss = AllByRecursion (λ (s : PlainStatement). ShortBlocks s.act) ss

mutual
  act-blocks : (g : Context) (n : ℕ) (s : StatementTree) (ts : List Token) → length (spell_statement s ts) ≤ most_members → ShortBlocks (act_program g n s) × BlocksShort (block_statements (act_program g n s))
  act-blocks g n (assign w q (value t) e) ts h = (tt, tt)
  act-blocks g n (assign w q (load b t d) e) ts h = (tt, tt)
  act-blocks g n (assign w q (alloc b c m d) e) ts h = (tt, tt)
  act-blocks g n (assign w q (cas b c t d u k v m) e) ts h = (tt, tt)
  act-blocks g n (assign w q (faa b c t d u m) e) ts h = (tt, tt)
  act-blocks g n (assign w q (result_of v l) e) ts h = (tt, tt)
  act-blocks g n (store b t c d u e) ts h = (tt, tt)
  act-blocks g n (call v l e) ts h = (tt, tt)
  act-blocks g n (fork b v l e) ts h = (tt, tt)
  act-blocks g n (branch p q c r b e) ts h =
      let x : length (spell_block b (spell_else e ts)) ≤ most_members = omega (arith, comparison-adds c (symbol (codes ")") r ∷ spell_block b (spell_else e ts))) in
      let y : length (spell_else e ts) ≤ most_members = omega (arith, block-adds g (n + 1) b (spell_else e ts)) in (
        (omega (arith, block-adds g (n + 1) b (spell_else e ts)), (omega (arith, else-length g (n + 1 + length (block_parts b)) e ts), tt)),
        each_append (λ (s : PlainStatement). ShortBlocks s.act) (all_statements (block_program g (n + 1) b)) (all_statements (else_program g (n + 1 + length (block_parts b)) e))
            (block-blocks g (n + 1) b (spell_else e ts) x) (else-blocks g (n + 1 + length (block_parts b)) e ts y),
      )
  act-blocks g n (loop p q c r i b) ts h =
      let x : length (spell_block b ts) ≤ most_members = omega (arith, comparison-adds c (symbol (codes ")") r ∷ spell_option (spell_clause (codes "invariant")) i (spell_block b ts)), option-adds (spell_clause (codes "invariant")) (clause-adds (codes "invariant")) i (spell_block b ts)) in
      ((omega (arith, block-adds g (n + 1) b ts), tt), block-blocks g (n + 1) b ts x)
  act-blocks g n (check b c e) ts h = (tt, tt)
  act-blocks g n (give_back b t e) ts h = (tt, tt)
  act-blocks g n (dispose b c t d e) ts h = (tt, tt)

  else-blocks : (g : Context) (n : ℕ) (e : ElseTree) (ts : List Token) → length (spell_else e ts) ≤ most_members → BlocksShort (all_statements (else_program g n e))
  else-blocks g n no_else ts h = tt
  else-blocks g n (else_block p b) ts h = let x : length (spell_block b ts) ≤ most_members = omega arith in block-blocks g n b ts x

  statements-blocks : (g : Context) (n : ℕ) (ss : StatementTrees) (ts : List Token) → length (spell_statements ss ts) ≤ most_members → BlocksShort (all_statements (statements_program g n ss))
  statements-blocks g n no_statement ts h = tt
  statements-blocks g n (then_statement s ss) ts h =
      let y : length (spell_statements ss ts) ≤ most_members = omega (arith, statement-adds g s (spell_statements ss ts)) in
      let x = act-blocks g n s (spell_statements ss ts) h in
      (x.0, each_append (λ (t : PlainStatement). ShortBlocks t.act) (block_statements (act_program g n s)) (all_statements (statements_program g (n + length (statement_parts s)) ss)) x.1 (statements-blocks g (n + length (statement_parts s)) ss ts y))

  block-blocks : (g : Context) (n : ℕ) (b : BlockTree) (ts : List Token) → length (spell_block b ts) ≤ most_members → BlocksShort (all_statements (block_program g n b))
  block-blocks g n (block p ss q) ts h = let x : length (spell_statements ss (symbol (codes "}") q ∷ ts)) ≤ most_members = omega arith in statements-blocks g n ss (symbol (codes "}") q ∷ ts) x

abbrev InvariantShort : Context → StatementTree → Type 0
InvariantShort g s = ItemsShort (new_assertion g g.loop (invariant s)).items

no-items : ItemsShort none
no-items = record { length = omega arith; sides = tt }

mutual
  statement-invariants : (g : Context) (s : StatementTree) (ts : List Token) → length (spell_statement s ts) ≤ most_members → AllByRecursion (InvariantShort g) (statement_parts s)
  statement-invariants g (assign w q v e) ts h = (no-items, tt)
  statement-invariants g (store b t c d u e) ts h = (no-items, tt)
  statement-invariants g (call v l e) ts h = (no-items, tt)
  statement-invariants g (fork b v l e) ts h = (no-items, tt)
  statement-invariants g (branch p q c r b e) ts h =
      let x : length (spell_block b (spell_else e ts)) ≤ most_members = omega (arith, comparison-adds c (symbol (codes ")") r ∷ spell_block b (spell_else e ts))) in
      let y : length (spell_else e ts) ≤ most_members = omega (arith, block-adds g 0 b (spell_else e ts)) in
      (no-items, each_append (InvariantShort g) (block_parts b) (else_parts e) (block-invariants g b (spell_else e ts) x) (else-invariants g e ts y))
  statement-invariants g (loop p q c r i b) ts h =
      let x : length (spell_option (spell_clause (codes "invariant")) i (spell_block b ts)) ≤ most_members = omega (arith, comparison-adds c (symbol (codes ")") r ∷ spell_option (spell_clause (codes "invariant")) i (spell_block b ts))) in
      let y : length (spell_block b ts) ≤ most_members = omega (arith, option-adds (spell_clause (codes "invariant")) (clause-adds (codes "invariant")) i (spell_block b ts)) in
      (clause-items g.regions (clause_types g i) (clause_scope g g.loop i) (codes "invariant") i (spell_block b ts) x, block-invariants g b ts y)
  statement-invariants g (check b c e) ts h = (no-items, tt)
  statement-invariants g (give_back b t e) ts h = (no-items, tt)
  statement-invariants g (dispose b c t d e) ts h = (no-items, tt)

  else-invariants : (g : Context) (e : ElseTree) (ts : List Token) → length (spell_else e ts) ≤ most_members → AllByRecursion (InvariantShort g) (else_parts e)
  else-invariants g no_else ts h = tt
  else-invariants g (else_block p b) ts h = let x : length (spell_block b ts) ≤ most_members = omega arith in block-invariants g b ts x

  statements-invariants : (g : Context) (ss : StatementTrees) (ts : List Token) → length (spell_statements ss ts) ≤ most_members → AllByRecursion (InvariantShort g) (statements_parts ss)
  statements-invariants g no_statement ts h = tt
  statements-invariants g (then_statement s ss) ts h =
      let y : length (spell_statements ss ts) ≤ most_members = omega (arith, statement-adds g s (spell_statements ss ts)) in
      each_append (InvariantShort g) (statement_parts s) (statements_parts ss) (statement-invariants g s (spell_statements ss ts) h) (statements-invariants g ss ts y)

  block-invariants : (g : Context) (b : BlockTree) (ts : List Token) → length (spell_block b ts) ≤ most_members → AllByRecursion (InvariantShort g) (block_parts b)
  block-invariants g (block p ss q) ts h = let x : length (spell_statements ss (symbol (codes "}") q ∷ ts)) ≤ most_members = omega arith in statements-invariants g ss (symbol (codes "}") q ∷ ts) x

append-length : (a b : Block) → block_length (append a b) ≡ block_length a + block_length b
append-length done b = omega arith
append-length (first l s a) b = omega (arith, append-length a b)

-- ---- functions

listed-names : (f : FunctionTree) (ts : List Token) → length ts < length (spell_listed spell_name f.parameters ts)
listed-names f ts = listed-adds spell_name name-adds f.parameters ts

function-adds : (rs : List RegionTree) (fs : List FunctionTree) → Adds spell_function
function-adds rs fs f ts =
    omega (
      arith,
      listed-names f (spell_option (spell_clause (codes "requires")) f.precondition (spell_option (spell_clause (codes "ensures")) f.postcondition (spell_block f.body ts))),
      option-adds (spell_clause (codes "requires")) (clause-adds (codes "requires")) f.precondition (spell_option (spell_clause (codes "ensures")) f.postcondition (spell_block f.body ts)),
      option-adds (spell_clause (codes "ensures")) (clause-adds (codes "ensures")) f.postcondition (spell_block f.body ts),
      block-adds (context_of rs fs f) 1 f.body ts,
    )

pub function-short : (rs : List RegionTree) (fs : List FunctionTree) (f : FunctionTree) (ts : List Token) → length (spell_function f ts) ≤ most_members → FunctionShort rs fs f
function-short rs fs f ts h =
    let g = context_of rs fs f in
    let x : length (spell_option (spell_clause (codes "requires")) f.precondition (spell_option (spell_clause (codes "ensures")) f.postcondition (spell_block f.body ts))) + 3 ≤ most_members = omega (arith, listed-names f (spell_option (spell_clause (codes "requires")) f.precondition (spell_option (spell_clause (codes "ensures")) f.postcondition (spell_block f.body ts)))) in
    let x1 : length (spell_option (spell_clause (codes "requires")) f.precondition (spell_option (spell_clause (codes "ensures")) f.postcondition (spell_block f.body ts))) ≤ most_members = omega arith in
    let y : length (spell_option (spell_clause (codes "ensures")) f.postcondition (spell_block f.body ts)) + 3 ≤ most_members = omega (arith, option-adds (spell_clause (codes "requires")) (clause-adds (codes "requires")) f.precondition (spell_option (spell_clause (codes "ensures")) f.postcondition (spell_block f.body ts))) in
    let y1 : length (spell_option (spell_clause (codes "ensures")) f.postcondition (spell_block f.body ts)) ≤ most_members = omega arith in
    let z : length (spell_block f.body ts) + 3 ≤ most_members = omega (arith, option-adds (spell_clause (codes "ensures")) (clause-adds (codes "ensures")) f.postcondition (spell_block f.body ts)) in
    let z1 : length (spell_block f.body ts) ≤ most_members = omega arith in
    record {
      requires = clause-items rs (requires_types rs f) (requires_scope rs f) (codes "requires") f.precondition (spell_option (spell_clause (codes "ensures")) f.postcondition (spell_block f.body ts)) x1;
      ensures = clause-items rs (clause_types g f.postcondition) (clause_scope g g.result f.postcondition) (codes "ensures") f.postcondition (spell_block f.body ts) y1;
      invariants = block-invariants g f.body ts z1;
      length = omega (arith, block-adds g 1 f.body ts, append-length (block_program g 1 f.body) (closing_return (1 + length (block_parts f.body)) (block_end f.body)));
      blocks = subst BlocksShort (sym (all_statements-append (block_program g 1 f.body) (closing_return (1 + length (block_parts f.body)) (block_end f.body))))
          (each_append (λ (s : PlainStatement). ShortBlocks s.act) (all_statements (block_program g 1 f.body)) (all_statements (closing_return (1 + length (block_parts f.body)) (block_end f.body))) (block-blocks g 1 f.body ts z1) (tt, tt));
    }

-- ---- region types

mutual
  declared-adds : Adds spell_declared
  declared-adds (unique w) ts = omega arith
  declared-adds (divisible p w) ts = omega arith
  declared-adds (counting p w q) ts = omega arith
  declared-adds (indexed p w q) ts = omega arith
  declared-adds (grouped p a q) ts = omega (arith, algebra-adds a (symbol (codes ")") q ∷ ts))

  declareds-add : (ds : DeclaredTrees) (ts : List Token) → length ts ≤ length (spell_declareds ds ts)
  declareds-add no_declared ts = omega arith
  declareds-add (and_declared p d ds) ts = omega (arith, declared-adds d (spell_declareds ds ts), declareds-add ds ts)

  joint-adds : Adds spell_joint
  joint-adds (joint d ds) ts = omega (arith, declared-adds d (spell_declareds ds ts), declareds-add ds ts)

  joints-add : (js : JointTrees) (ts : List Token) → length ts ≤ length (spell_joints js ts)
  joints-add no_joint ts = omega arith
  joints-add (or_joint p j js) ts = omega (arith, joint-adds j (spell_joints js ts), joints-add js ts)

  algebra-adds : Adds spell_algebra
  algebra-adds (algebra j js) ts = omega (arith, joint-adds j (spell_joints js ts), joints-add js ts)

when-add : (o : Option WhenTree) (ts : List Token) → length (when_comparisons o) + length ts ≤ length (spell_option spell_when o ts)
when-add None ts = omega arith
when-add (Some w) ts = omega (arith, several-add (codes ",") spell_comparison comparison-adds w.comparisons ts)

case-adds : Adds spell_case
case-adds c ts =
    omega (
      arith,
      term-adds c.state (spell_option spell_when c.when (symbol (codes ":") c.colon ∷ spell_assertion c.assertion (symbol (codes ";") c.semicolon ∷ ts))),
      when-add c.when (symbol (codes ":") c.colon ∷ spell_assertion c.assertion (symbol (codes ";") c.semicolon ∷ ts)),
      assertion-adds [] [] [] c.assertion (symbol (codes ";") c.semicolon ∷ ts),
    )

action-adds : Adds spell_action
action-adds a ts =
    omega (
      arith,
      several-add (codes "*") spell_guard guard-adds a.guards (symbol (codes ":") a.colon ∷ spell_term a.source (symbol (codes "~>") a.arrow ∷ spell_term a.target (spell_option spell_when a.when (symbol (codes ";") a.semicolon ∷ ts)))),
      term-adds a.source (symbol (codes "~>") a.arrow ∷ spell_term a.target (spell_option spell_when a.when (symbol (codes ";") a.semicolon ∷ ts))),
      term-adds a.target (spell_option spell_when a.when (symbol (codes ";") a.semicolon ∷ ts)),
      when-add a.when (symbol (codes ";") a.semicolon ∷ ts),
    )

case-short : (rs : List RegionTree) (k : NumberedRegion) (c : CaseTree) (ts : List Token) → length (spell_case c ts) ≤ most_members → CaseShort rs k c
case-short rs k c ts h =
    let x : length (spell_option spell_when c.when (symbol (codes ":") c.colon ∷ spell_assertion c.assertion (symbol (codes ";") c.semicolon ∷ ts))) ≤ most_members = omega (arith, term-adds c.state (spell_option spell_when c.when (symbol (codes ":") c.colon ∷ spell_assertion c.assertion (symbol (codes ";") c.semicolon ∷ ts)))) in
    let y : length (spell_assertion c.assertion (symbol (codes ";") c.semicolon ∷ ts)) ≤ most_members = omega (arith, when-add c.when (symbol (codes ":") c.colon ∷ spell_assertion c.assertion (symbol (codes ";") c.semicolon ∷ ts))) in
    record {
      items = assertion-items rs (case_types rs k c) (case_scope rs k c) c.assertion (symbol (codes ";") c.semicolon ∷ ts) y;
      comparisons = omega (arith, when-add c.when (symbol (codes ":") c.colon ∷ spell_assertion c.assertion (symbol (codes ";") c.semicolon ∷ ts)));
    }

action-short : (a : ActionTree) (ts : List Token) → length (spell_action a ts) ≤ most_members → ActionShort a
action-short a ts h =
    let b = several-add (codes "*") spell_guard guard-adds a.guards (symbol (codes ":") a.colon ∷ spell_term a.source (symbol (codes "~>") a.arrow ∷ spell_term a.target (spell_option spell_when a.when (symbol (codes ";") a.semicolon ∷ ts)))) in
    record {
      guards = omega (arith, b);
      comparisons = omega (
        arith,
        b,
        term-adds a.source (symbol (codes "~>") a.arrow ∷ spell_term a.target (spell_option spell_when a.when (symbol (codes ";") a.semicolon ∷ ts))),
        term-adds a.target (spell_option spell_when a.when (symbol (codes ";") a.semicolon ∷ ts)),
        when-add a.when (symbol (codes ";") a.semicolon ∷ ts),
      );
    }

cases-short : (rs : List RegionTree) (k : NumberedRegion) (cs : List CaseTree) (ts : List Token) → length (spell_all spell_case cs ts) ≤ most_members → AllByRecursion (CaseShort rs k) cs
cases-short rs k [] ts h = tt
cases-short rs k (c ∷ cs) ts h =
    let x : length (spell_all spell_case cs ts) ≤ most_members = omega (arith, case-adds c (spell_all spell_case cs ts)) in
    (case-short rs k c (spell_all spell_case cs ts) h, cases-short rs k cs ts x)

actions-short : (cs : List ActionTree) (ts : List Token) → length (spell_all spell_action cs ts) ≤ most_members → AllByRecursion ActionShort cs
actions-short [] ts h = tt
actions-short (c ∷ cs) ts h =
    let x : length (spell_all spell_action cs ts) ≤ most_members = omega (arith, action-adds c (spell_all spell_action cs ts)) in
    (action-short c (spell_all spell_action cs ts) h, actions-short cs ts x)

abbrev after_actions : RegionTree → List Token → List Token
after_actions r ts = symbol (codes "}") r.end ∷ ts

abbrev after_cases : RegionTree → List Token → List Token
after_cases r ts = spell_group (codes "actions") spell_action r.actions (after_actions r ts)

abbrev after_algebra : RegionTree → List Token → List Token
after_algebra r ts = symbol (codes ";") r.semicolon ∷ spell_group (codes "interpretation") spell_case r.cases (after_cases r ts)

abbrev after_parameters : RegionTree → List Token → List Token
after_parameters r ts = symbol (codes ")") r.behind ∷ symbol (codes "{") r.brace ∷ keyword (codes "guards") r.guards ∷ spell_algebra r.algebra (after_algebra r ts)

region-adds : Adds spell_region
region-adds r ts =
    omega (
      arith,
      several-add (codes ",") spell_name name-adds r.parameters (after_parameters r ts),
      algebra-adds r.algebra (after_algebra r ts),
      group-add (codes "interpretation") spell_case case-adds r.cases (after_cases r ts),
      group-add (codes "actions") spell_action action-adds r.actions (after_actions r ts),
    )

pub region-short : (rs : List RegionTree) (k : NumberedRegion) (ts : List Token) → length (spell_region k.region ts) ≤ most_members → RegionShort rs k
region-short rs k ts h =
    let r = k.region in
    let x : length (spell_group (codes "interpretation") spell_case r.cases (after_cases r ts)) ≤ most_members = omega (arith, several-add (codes ",") spell_name name-adds r.parameters (after_parameters r ts), algebra-adds r.algebra (after_algebra r ts)) in
    let y : length (after_cases r ts) ≤ most_members = omega (arith, group-add (codes "interpretation") spell_case case-adds r.cases (after_cases r ts)) in
    let c : length (spell_all spell_case r.cases.parts (symbol (codes "}") r.cases.behind ∷ after_cases r ts)) ≤ most_members = omega arith in
    let a : length (spell_all spell_action r.actions.parts (symbol (codes "}") r.actions.behind ∷ after_actions r ts)) ≤ most_members = omega arith in
    record {
      cases = cases-short rs k r.cases.parts (symbol (codes "}") r.cases.behind ∷ after_cases r ts) c;
      case_count = omega (arith, group-add (codes "interpretation") spell_case case-adds r.cases (after_cases r ts));
      actions = actions-short r.actions.parts (symbol (codes "}") r.actions.behind ∷ after_actions r ts) a;
      action_count = omega (arith, group-add (codes "actions") spell_action action-adds r.actions (after_actions r ts));
    }

-- ---- how many guards

mutual
  declared-guards : (d : DeclaredTree) (ts : List Token) → length (declared_guards d) + length ts ≤ length (spell_declared d ts)
  declared-guards (unique w) ts = omega arith
  declared-guards (divisible p w) ts = omega arith
  declared-guards (counting p w q) ts = omega arith
  declared-guards (indexed p w q) ts = omega arith
  declared-guards (grouped p a q) ts = omega (arith, algebra-guards a (symbol (codes ")") q ∷ ts))

  declareds-guards : (ds : DeclaredTrees) (ts : List Token) → length (declareds_guards ds) + length ts ≤ length (spell_declareds ds ts)
  declareds-guards no_declared ts = omega arith
  declareds-guards (and_declared p d ds) ts = omega (arith, length-append (declared_guards d) (declareds_guards ds), declared-guards d (spell_declareds ds ts), declareds-guards ds ts)

  joint-guards : (j : JointTree) (ts : List Token) → length (joint_guards j) + length ts ≤ length (spell_joint j ts)
  joint-guards (joint d ds) ts = omega (arith, length-append (declared_guards d) (declareds_guards ds), declared-guards d (spell_declareds ds ts), declareds-guards ds ts)

  joints-guards : (js : JointTrees) (ts : List Token) → length (joints_guards js) + length ts ≤ length (spell_joints js ts)
  joints-guards no_joint ts = omega arith
  joints-guards (or_joint p j js) ts = omega (arith, length-append (joint_guards j) (joints_guards js), joint-guards j (spell_joints js ts), joints-guards js ts)

  algebra-guards : (a : AlgebraTree) (ts : List Token) → length (algebra_guards a) + length ts ≤ length (spell_algebra a ts)
  algebra-guards (algebra j js) ts = omega (arith, length-append (joint_guards j) (joints_guards js), joint-guards j (spell_joints js ts), joints-guards js ts)

-- ---- the whole

-- a region type or function with all that it spells
pub record IsShortRegion (r : RegionTree) : Type 0 where
  pub behind : List Token
  pub short : length (spell_region r behind) ≤ most_members

pub record IsShortFunction (f : FunctionTree) : Type 0 where
  pub behind : List Token
  pub short : length (spell_function f behind) ≤ most_members

short-regions : (ds : List DeclarationTree) (ts : List Token) → length (spell_all spell_declaration ds ts) ≤ most_members → AllByRecursion IsShortRegion (filter_map region_in ds)
short-regions [] ts h = tt
short-regions (region r ∷ ds) ts h =
    let x : length (spell_all spell_declaration ds ts) ≤ most_members = omega (arith, region-adds r (spell_all spell_declaration ds ts)) in
    (record { behind = spell_all spell_declaration ds ts; short = h }, short-regions ds ts x)
short-regions (function f ∷ ds) ts h =
    let x : length (spell_all spell_declaration ds ts) ≤ most_members = omega (arith, function-adds [] [] f (spell_all spell_declaration ds ts)) in
    short-regions ds ts x

short-functions : (ds : List DeclarationTree) (ts : List Token) → length (spell_all spell_declaration ds ts) ≤ most_members → AllByRecursion IsShortFunction (filter_map function_in ds)
short-functions [] ts h = tt
short-functions (region r ∷ ds) ts h =
    let x : length (spell_all spell_declaration ds ts) ≤ most_members = omega (arith, region-adds r (spell_all spell_declaration ds ts)) in
    short-functions ds ts x
short-functions (function f ∷ ds) ts h =
    let x : length (spell_all spell_declaration ds ts) ≤ most_members = omega (arith, function-adds [] [] f (spell_all spell_declaration ds ts)) in
    (record { behind = spell_all spell_declaration ds ts; short = h }, short-functions ds ts x)

header-adds : Adds spell_header
header-adds h ts = omega arith

declarations-short : (t : ProgramTree) → length (spelling t) ≤ most_members → length (spell_all spell_declaration t.declarations []) ≤ most_members
declarations-short t h =
    let x : length (spell_option spell_header t.header (spell_all spell_declaration t.declarations [])) ≤ most_members = h in
    omega (arith, option-adds spell_header header-adds t.header (spell_all spell_declaration t.declarations []), x)

pub regions-short : (t : ProgramTree) → length (spelling t) ≤ most_members → AllByRecursion IsShortRegion (regions t)
regions-short t h = short-regions t.declarations [] (declarations-short t h)

pub functions-short : (t : ProgramTree) → length (spelling t) ≤ most_members → AllByRecursion IsShortFunction (functions t)
functions-short t h = short-functions t.declarations [] (declarations-short t h)

-- ---- how many region types, functions and guards

declaration-adds : Adds spell_declaration
declaration-adds (region r) ts = region-adds r ts
declaration-adds (function f) ts = function-adds [] [] f ts

few-declarations : (t : ProgramTree) → length (spelling t) ≤ most_members → length t.declarations ≤ most_members
few-declarations t h = omega (arith, declarations-short t h, all-add spell_declaration declaration-adds t.declarations [])

regions-among : (ds : List DeclarationTree) → length (filter_map region_in ds) ≤ length ds
regions-among [] = omega arith
regions-among (region r ∷ ds) = omega (arith, regions-among ds)
regions-among (function f ∷ ds) = omega (arith, regions-among ds)

functions-among : (ds : List DeclarationTree) → length (filter_map function_in ds) ≤ length ds
functions-among [] = omega arith
functions-among (region r ∷ ds) = omega (arith, functions-among ds)
functions-among (function f ∷ ds) = omega (arith, functions-among ds)

pub few-regions : (t : ProgramTree) → length (spelling t) ≤ most_members → length (regions t) < 2 ^ 32
few-regions t h = omega (arith, few-declarations t h, regions-among t.declarations)

pub few-functions : (t : ProgramTree) → length (spelling t) ≤ most_members → length (functions t) < 2 ^ 32
few-functions t h = omega (arith, few-declarations t h, functions-among t.declarations)

guards-within : (r : RegionTree) (ts : List Token) → length (spell_region r ts) ≤ most_members → length (region_guards r) < 2 ^ 32
guards-within r ts h =
    omega (
      arith,
      h,
      several-add (codes ",") spell_name name-adds r.parameters (after_parameters r ts),
      algebra-guards r.algebra (after_algebra r ts),
    )

pub few-guards : (t : ProgramTree) → length (spelling t) ≤ most_members → AllByRecursion (λ (r : RegionTree). length (region_guards r) < 2 ^ 32) (regions t)
few-guards t h = each_weaker IsShortRegion (λ (r : RegionTree). length (region_guards r) < 2 ^ 32) (λ r s. guards-within r s.behind s.short) (regions t) (regions-short t h)
