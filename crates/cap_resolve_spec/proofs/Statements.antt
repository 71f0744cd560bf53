-- The statements and the contract of a function in which nothing is found fit a program.
use Rattle.std.proofs.Common.{◌≡◌, ℕ, ◌+◌, ◌<◌, ◌≤◌, Bool, true, false, true≢false, not, ◌&&◌, List, [], ◌∷◌, ◌++◌, map, filter, flat_map, length, slice_get, Option, Some, None, option_to_list, IsSomeAnd, refl, sym, subst, ◌∙◌, arith, length-append, eqb-true, ltb-true, leb-true}
use Rattle.std.specs.Prelude.{◌==◌, nat_lt, nat_le}
use Rattle.std.specs.List.{AllByRecursion}
use Rattle.std.proofs.lemmas.List.{length-map}
use Rattle.std.proofs.lemmas.List.Folds.{find_at}
use Rattle.std.proofs.lemmas.Option.{slice_get-map}
use Rattle.cap_prog.specs.Program.{PlainStatement, PlainProgram, PlainFunction}
use Rattle.cap_prog.specs.Parts.{all_statements, block_statements, blocks, block_length}
use Rattle.cap_prog.specs.Scopes.{Scope, requires_scope, ensures_scope, invariant_scope, fixed_start}
use Rattle.cap_prog.specs.WellFormed.{most_cells, most_members, most_variables, ItemFits, ItemsFit, ActFits, IsLocal, IsValue, CallFits, AssertionFits, FunctionFits}
use Rattle.cap_parse_tree.specs.declared.word.Word.{Word}
use Rattle.cap_parse_tree.specs.declared.word.Literal.{Literal}
use Rattle.cap_parse_tree.specs.Tree.{listed_parts, TermTree, ClauseTree, value, load, alloc, cas, faa, result_of, StatementTree, assign, store, call, fork, branch, loop, check, give_back, dispose, ElseTree, no_else, else_block, StatementTrees, no_statement, then_statement, BlockTree, block, RegionTree, FunctionTree}
use Rattle.cap_resolve_spec.specs.Finding.{wrong_arity, limit, cell_count}
use Rattle.cap_resolve_spec.specs.Parts.{clause_parts, statement_parts, else_parts, statements_parts, block_parts, destination, invariant, parameters}
use Rattle.cap_resolve_spec.specs.Names.{NameScope, sorts_of, word_text, parameters_findings, is_among}
use Rattle.cap_resolve_spec.specs.Items.{TypedName, types_told, occurrence_word}
use Rattle.cap_resolve_spec.specs.Functions.{requires_types, fixed_names, fixed_words, statements, statement_words, destinations, is_local, locals, name_in_body, Context, context_of, clause_types, clause_bound, clause_scope, requires_findings, clause_findings, is_function, function_named, called_findings, callee_findings, cells_findings, statement_findings, body_findings, function_findings}
use Rattle.cap_resolve_spec.specs.Functions as names
use Rattle.cap_resolve_spec.specs.Names as tree
use Rattle.cap_resolve_spec.specs.Program.{occurrence_sort, occurrence_sorts, function_number, destination_number, body_term, body_terms, new_assertion, act_program, else_program, statements_program, block_program, closing_return, block_end, function_program}
use Rattle.cap_resolve_spec.proofs.Every.{each_append, each_front, each_behind, each_flat, each_weaker}
use Rattle.cap_resolve_spec.proofs.Nothing.{cons_not_nil, nothing_front, nothing_behind, nothing_flat, not_found}
use Rattle.cap_resolve_spec.proofs.Known.{all-put}
use Rattle.cap_resolve_spec.proofs.Items.{HasRegions, IsNumbered, TypesNumbered, told-numbered, ItemsAre}
use Rattle.cap_resolve_spec.proofs.Clauses.{clause-fit, requires-right, clause-right, clause-count, requires-sorts, result-sorts, loop-sorts}
use Rattle.cap_resolve_spec.proofs.Regions.{ItemsShort, parameters-count}
use Rattle.cap_resolve_spec.proofs.Bodies.{HasFunctions, local-variable, body-numbered, all_statements-append, closing}
use Rattle.cap_resolve_spec.proofs.Functions.{Local, Free, RightStatement, FunctionReads, free-destination, hidden-names, flat-options, options-flat, kept-if, among-from, local-destinations, after-names, after-callee, statement-invariant, statement-values, statement-comparisons}

-- ---- assertions of the function

-- the types that are known in its assertions are numbered
types-numbered : (rs : List RegionTree) (fs : List FunctionTree) (f : FunctionTree) (c : Option ClauseTree) → TypesNumbered rs (clause_types (context_of rs fs f) c)
types-numbered rs fs f c = each_append (λ (t : TypedName). IsNumbered rs t.type) (requires_types rs f) (types_told rs (clause_parts c)) (told-numbered rs (clause_parts f.precondition)) (told-numbered rs (clause_parts c))

counted-length : (rs : List RegionTree) (fs : List FunctionTree) (f : FunctionTree) → length (context_of rs fs f).counted ≡ length (parameters f) + length (locals rs f) + length (occurrence_sorts (fixed_names rs f))
counted-length rs fs f =
    let a : length (context_of rs fs f).counted ≡ length (parameters f ++ (fixed_words rs f ++ locals rs f)) = length-map (parameters f ++ (fixed_words rs f ++ locals rs f)) tree.word_place in
    let b : length (parameters f ++ (fixed_words rs f ++ locals rs f)) ≡ length (parameters f) + length (fixed_words rs f ++ locals rs f) = length-append (parameters f) (fixed_words rs f ++ locals rs f) in
    let c : length (fixed_words rs f ++ locals rs f) ≡ length (fixed_words rs f) + length (locals rs f) = length-append (fixed_words rs f) (locals rs f) in
    let d : length (fixed_words rs f) ≡ length (occurrence_sorts (fixed_names rs f)) = length-map (fixed_names rs f) occurrence_word ∙ sym (length-map (fixed_names rs f) occurrence_sort) in
    omega arith

assertion-counts : (rs : List RegionTree) (fs : List FunctionTree) (f : FunctionTree) (known : NameScope) (c : Option ClauseTree) → clause_findings (context_of rs fs f) known c ≡ [] → fixed_start (function_program rs fs f) + length (function_program rs fs f).fixed + length (new_assertion (context_of rs fs f) known c).names ≤ most_variables
assertion-counts rs fs f known c e = subst (λ m. m + length (occurrence_sorts (clause_bound (context_of rs fs f) known c)) ≤ most_variables) (counted-length rs fs f) (clause-count (context_of rs fs f) known c e)

clause-items : (p : PlainProgram) (rs : List RegionTree) (fs : List FunctionTree) (f : FunctionTree) → FunctionReads p rs fs f → (known : NameScope) (c : Option ClauseTree) → clause_findings (context_of rs fs f) known c ≡ [] → (scope : Scope) → sorts_of (clause_scope (context_of rs fs f) known c) ≡ scope → ItemsAre (ItemFits p scope) (new_assertion (context_of rs fs f) known c).items
clause-items p rs fs f h known c e scope s =
    subst (λ sc. ItemsAre (ItemFits p sc) (new_assertion (context_of rs fs f) known c).items) s
    (clause-fit p rs (clause_types (context_of rs fs f) c) (clause_scope (context_of rs fs f) known c) (record { declared = h.regions; told = types-numbered rs fs f c }) c (clause-right (context_of rs fs f) known c e))

pub ensures-fits : (p : PlainProgram) (rs : List RegionTree) (fs : List FunctionTree) (f : FunctionTree) → FunctionReads p rs fs f → clause_findings (context_of rs fs f) (context_of rs fs f).result f.postcondition ≡ [] → ItemsShort (function_program rs fs f).ensures.items → AssertionFits p (function_program rs fs f) (ensures_scope (function_program rs fs f) (function_program rs fs f).ensures.names) (function_program rs fs f).ensures
ensures-fits p rs fs f h e short = record {
  variables = assertion-counts rs fs f (context_of rs fs f).result f.postcondition e;
  items = record {
    items = clause-items p rs fs f h (context_of rs fs f).result f.postcondition e (ensures_scope (function_program rs fs f) (function_program rs fs f).ensures.names)
        (result-sorts (parameters f) (locals rs f) (fixed_names rs f) (clause_bound (context_of rs fs f) (context_of rs fs f).result f.postcondition));
    length = short.length;
    sides = short.sides;
  };
}

invariant-fits : (p : PlainProgram) (rs : List RegionTree) (fs : List FunctionTree) (f : FunctionTree) → FunctionReads p rs fs f → (c : Option ClauseTree) → clause_findings (context_of rs fs f) (context_of rs fs f).loop c ≡ [] → ItemsShort (new_assertion (context_of rs fs f) (context_of rs fs f).loop c).items → AssertionFits p (function_program rs fs f) (invariant_scope (function_program rs fs f) (new_assertion (context_of rs fs f) (context_of rs fs f).loop c).names) (new_assertion (context_of rs fs f) (context_of rs fs f).loop c)
invariant-fits p rs fs f h c e short = record {
  variables = assertion-counts rs fs f (context_of rs fs f).loop c e;
  items = record {
    items = clause-items p rs fs f h (context_of rs fs f).loop c e (invariant_scope (function_program rs fs f) (new_assertion (context_of rs fs f) (context_of rs fs f).loop c).names)
        (loop-sorts (parameters f) (locals rs f) (fixed_names rs f) (clause_bound (context_of rs fs f) (context_of rs fs f).loop c));
    length = short.length;
    sides = short.sides;
  };
}

pub requires-fits : (p : PlainProgram) (rs : List RegionTree) (fs : List FunctionTree) (f : FunctionTree) → HasRegions p rs → requires_findings rs f ≡ [] → ItemsShort (function_program rs fs f).requires → ItemsFit p (requires_scope (function_program rs fs f)) (function_program rs fs f).requires
requires-fits p rs fs f h e short = record {
  items = subst (λ sc. ItemsAre (ItemFits p sc) (function_program rs fs f).requires) (requires-sorts (parameters f) (locals rs f) (fixed_names rs f))
      (clause-fit p rs (requires_types rs f) (names.requires_scope rs f) (record { declared = h; told = told-numbered rs (clause_parts f.precondition) }) f.precondition (requires-right rs f e));
  length = short.length;
  sides = short.sides;
}

-- ---- statements

is-local : (rs : List RegionTree) (fs : List FunctionTree) (f : FunctionTree) (w : Word) → Local rs f w → IsLocal (function_program rs fs f) (destination_number (context_of rs fs f) w)
is-local rs fs f w a =
    let v = local-variable (parameters f) (locals rs f) (map (name_in_body f) (fixed_names rs f)) w.text a.0 a.1 in
    record { low = v.0; high = v.1 }

function-at : (p : PlainProgram) (rs : List RegionTree) (fs : List FunctionTree) → HasFunctions p rs fs → (x : List ℕ) (k : FunctionTree) → function_named fs x ≡ Some k → (Q : PlainFunction → Type 0) → Q (function_program rs fs k) → IsSomeAnd (slice_get p.functions (function_number fs x)) Q
function-at p rs fs h x k e Q q = rw h (rw (slice_get-map (function_program rs fs) fs (function_number fs x)) (rw (sym (find_at (is_function x) fs) ∙ e) q))

call-fits : (p : PlainProgram) (rs : List RegionTree) (fs : List FunctionTree) (f : FunctionTree) → HasFunctions p rs fs → (w : Word) (args : List TermTree) → called_findings (function_named fs w.text) w args ≡ [] → AllByRecursion (IsValue (function_program rs fs f)) (body_terms (context_of rs fs f) args) → CallFits p (function_program rs fs f) (function_number fs w.text) (body_terms (context_of rs fs f) args)
call-fits p rs fs f h w args e a = record { arity = by (function_named fs w.text) refl e; values = a }
  where
    truly : (b : Bool) → not b ≡ false → b ≡ true
    truly true d = refl
    truly false d = absurd (true≢false d)

    by : (o : Option FunctionTree) → function_named fs w.text ≡ o → called_findings o w args ≡ [] → IsSomeAnd (slice_get p.functions (function_number fs w.text)) (λ g. length (body_terms (context_of rs fs f) args) ≡ g.params)
    by None n d = cons_not_nil d
    by (Some k) n d = function-at p rs fs h w.text k n (λ g. length (body_terms (context_of rs fs f) args) ≡ g.params)
        (length-map args (body_term (context_of rs fs f)) ∙ sym (eqb-true (length (parameters k)) (length args) (truly (length (parameters k) == length args) (not_found (not (length (parameters k) == length args)) w.place wrong_arity d))))

cells-fit : (n : Literal) → cells_findings n ≡ [] → (0 < n.value) × (n.value ≤ most_cells)
cells-fit n e = both (nat_lt 0 n.value) (nat_le n.value most_cells) refl refl (not_found (not (nat_lt 0 n.value && nat_le n.value most_cells)) n.place (limit cell_count) e)
  where
    both : (a b : Bool) → nat_lt 0 n.value ≡ a → nat_le n.value most_cells ≡ b → not (a && b) ≡ false → (0 < n.value) × (n.value ≤ most_cells)
    both true true x y d = (ltb-true 0 n.value x, leb-true n.value most_cells y)
    both true false x y d = absurd (true≢false d)
    both false b x y d = absurd (true≢false d)

act-fits : (p : PlainProgram) (rs : List RegionTree) (fs : List FunctionTree) (f : FunctionTree) → FunctionReads p rs fs f → (n : ℕ) (s : StatementTree) → RightStatement rs fs f s → ActFits p (function_program rs fs f) (act_program (context_of rs fs f) n s)
act-fits p rs fs f h n (assign w q (value t) e) a = (is-local rs fs f w a.local.0, (statement-values p rs fs f h _ a).0)
act-fits p rs fs f h n (assign w q (load b t d) e) a = (is-local rs fs f w a.local.0, (statement-values p rs fs f h _ a).0)
act-fits p rs fs f h n (assign w q (alloc b c m d) e) a =
    let few = cells-fit m (nothing_front (cells_findings m) [] (nothing_front (flat_map cells_findings (m ∷ [])) _ (after-callee (context_of rs fs f) (assign w q (alloc b c m d) e) a.nothing))) in
    (is-local rs fs f w a.local.0, few.0, few.1)
act-fits p rs fs f h n (assign w q (cas b c t d u k v m) e) a = let vs = statement-values p rs fs f h (assign w q (cas b c t d u k v m) e) a in (is-local rs fs f w a.local.0, vs.0, vs.1.0, vs.1.1.0)
act-fits p rs fs f h n (assign w q (faa b c t d u m) e) a = let vs = statement-values p rs fs f h (assign w q (faa b c t d u m) e) a in (is-local rs fs f w a.local.0, vs.0, vs.1.0)
act-fits p rs fs f h n (assign w q (result_of v l) e) a = (is-local rs fs f w a.local.0, call-fits p rs fs f h.functions v (listed_parts l) (nothing_front (callee_findings fs (v, listed_parts l)) [] (nothing_front (flat_map (callee_findings fs) ((v, listed_parts l) ∷ [])) _ (after-names (context_of rs fs f) (assign w q (result_of v l) e) a.nothing))) (statement-values p rs fs f h _ a))
act-fits p rs fs f h n (store b t c d u e) a = let vs = statement-values p rs fs f h (store b t c d u e) a in (vs.0, vs.1.0)
act-fits p rs fs f h n (call v l e) a = (tt, call-fits p rs fs f h.functions v (listed_parts l) (nothing_front (callee_findings fs (v, listed_parts l)) [] (nothing_front (flat_map (callee_findings fs) ((v, listed_parts l) ∷ [])) _ (after-names (context_of rs fs f) (call v l e) a.nothing))) (statement-values p rs fs f h _ a))
act-fits p rs fs f h n (fork b v l e) a = call-fits p rs fs f h.functions v (listed_parts l) (nothing_front (callee_findings fs (v, listed_parts l)) [] (nothing_front (flat_map (callee_findings fs) ((v, listed_parts l) ∷ [])) _ (after-names (context_of rs fs f) (fork b v l e) a.nothing))) (statement-values p rs fs f h _ a)
act-fits p rs fs f h n (branch b c d e k l) a = (statement-comparisons p rs fs f h _ a).0
act-fits p rs fs f h n (loop b c d e i k) a = ((statement-comparisons p rs fs f h _ a).0, invariant-fits p rs fs f h i (statement-invariant (context_of rs fs f) (loop b c d e i k) a.nothing) a.short)
act-fits p rs fs f h n (check b c e) a = (statement-comparisons p rs fs f h _ a).0
act-fits p rs fs f h n (give_back b None e) a = tt
act-fits p rs fs f h n (give_back b (Some t) e) a = (statement-values p rs fs f h _ a).0
act-fits p rs fs f h n (dispose b c t d e) a = (statement-values p rs fs f h _ a).0

abbrev AllFit : PlainProgram → PlainFunction → List PlainStatement → Type 0
AllFit p f ss = AllByRecursion (λ (s : PlainStatement). ActFits p f s.act) ss

mutual
  inner-fit : (p : PlainProgram) (rs : List RegionTree) (fs : List FunctionTree) (f : FunctionTree) → FunctionReads p rs fs f → (n : ℕ) (s : StatementTree) → AllByRecursion (RightStatement rs fs f) (statement_parts s) → ActFits p (function_program rs fs f) (act_program (context_of rs fs f) n s) × AllFit p (function_program rs fs f) (block_statements (act_program (context_of rs fs f) n s))
  inner-fit p rs fs f h n (assign w q (value t) e) a = (act-fits p rs fs f h n (assign w q (value t) e) a.0, tt)
  inner-fit p rs fs f h n (assign w q (load b t d) e) a = (act-fits p rs fs f h n (assign w q (load b t d) e) a.0, tt)
  inner-fit p rs fs f h n (assign w q (alloc b c m d) e) a = (act-fits p rs fs f h n (assign w q (alloc b c m d) e) a.0, tt)
  inner-fit p rs fs f h n (assign w q (cas b c t d u k v m) e) a = (act-fits p rs fs f h n (assign w q (cas b c t d u k v m) e) a.0, tt)
  inner-fit p rs fs f h n (assign w q (faa b c t d u m) e) a = (act-fits p rs fs f h n (assign w q (faa b c t d u m) e) a.0, tt)
  inner-fit p rs fs f h n (assign w q (result_of v l) e) a = (act-fits p rs fs f h n (assign w q (result_of v l) e) a.0, tt)
  inner-fit p rs fs f h n (store b t c d u e) a = (act-fits p rs fs f h n (store b t c d u e) a.0, tt)
  inner-fit p rs fs f h n (call v l e) a = (act-fits p rs fs f h n (call v l e) a.0, tt)
  inner-fit p rs fs f h n (fork b v l e) a = (act-fits p rs fs f h n (fork b v l e) a.0, tt)
  inner-fit p rs fs f h n (branch b c d e k l) a = (
    act-fits p rs fs f h n (branch b c d e k l) a.0,
    each_append (λ (s : PlainStatement). ActFits p (function_program rs fs f) s.act) (all_statements (block_program (context_of rs fs f) (n + 1) k)) (all_statements (else_program (context_of rs fs f) (n + 1 + length (block_parts k)) l))
        (block-fit p rs fs f h (n + 1) k (each_front (RightStatement rs fs f) (block_parts k) (else_parts l) a.1))
        (else-fit p rs fs f h (n + 1 + length (block_parts k)) l (each_behind (RightStatement rs fs f) (block_parts k) (else_parts l) a.1)),
  )
  inner-fit p rs fs f h n (loop b c d e i k) a = (act-fits p rs fs f h n (loop b c d e i k) a.0, block-fit p rs fs f h (n + 1) k a.1)
  inner-fit p rs fs f h n (check b c e) a = (act-fits p rs fs f h n (check b c e) a.0, tt)
  inner-fit p rs fs f h n (give_back b t e) a = (act-fits p rs fs f h n (give_back b t e) a.0, tt)
  inner-fit p rs fs f h n (dispose b c t d e) a = (act-fits p rs fs f h n (dispose b c t d e) a.0, tt)

  else-fit : (p : PlainProgram) (rs : List RegionTree) (fs : List FunctionTree) (f : FunctionTree) → FunctionReads p rs fs f → (n : ℕ) (e : ElseTree) → AllByRecursion (RightStatement rs fs f) (else_parts e) → AllFit p (function_program rs fs f) (all_statements (else_program (context_of rs fs f) n e))
  else-fit p rs fs f h n no_else a = tt
  else-fit p rs fs f h n (else_block q b) a = block-fit p rs fs f h n b a

  statements-fit : (p : PlainProgram) (rs : List RegionTree) (fs : List FunctionTree) (f : FunctionTree) → FunctionReads p rs fs f → (n : ℕ) (ss : StatementTrees) → AllByRecursion (RightStatement rs fs f) (statements_parts ss) → AllFit p (function_program rs fs f) (all_statements (statements_program (context_of rs fs f) n ss))
  statements-fit p rs fs f h n no_statement a = tt
  statements-fit p rs fs f h n (then_statement s ss) a =
      let x = inner-fit p rs fs f h n s (each_front (RightStatement rs fs f) (statement_parts s) (statements_parts ss) a) in (
        x.0,
        each_append (λ (t : PlainStatement). ActFits p (function_program rs fs f) t.act) (block_statements (act_program (context_of rs fs f) n s)) (all_statements (statements_program (context_of rs fs f) (n + length (statement_parts s)) ss)) x.1
            (statements-fit p rs fs f h (n + length (statement_parts s)) ss (each_behind (RightStatement rs fs f) (statement_parts s) (statements_parts ss) a)),
      )

  block-fit : (p : PlainProgram) (rs : List RegionTree) (fs : List FunctionTree) (f : FunctionTree) → FunctionReads p rs fs f → (n : ℕ) (b : BlockTree) → AllByRecursion (RightStatement rs fs f) (block_parts b) → AllFit p (function_program rs fs f) (all_statements (block_program (context_of rs fs f) n b))
  block-fit p rs fs f h n (block q ss r) a = statements-fit p rs fs f h n ss a

-- ---- the function

-- its lists have no more members than a text has tokens
pub record FunctionShort (rs : List RegionTree) (fs : List FunctionTree) (f : FunctionTree) : Type 0 where
  pub requires : ItemsShort (function_program rs fs f).requires
  pub ensures : ItemsShort (function_program rs fs f).ensures.items
  pub invariants : AllByRecursion (λ s. ItemsShort (new_assertion (context_of rs fs f) (context_of rs fs f).loop (invariant s)).items) (statements f)
  pub length : block_length (function_program rs fs f).body ≤ most_members
  pub blocks : AllByRecursion (λ (s : PlainStatement). AllByRecursion (λ b. block_length b ≤ most_members) (blocks s.act)) (all_statements (function_program rs fs f).body)

right-statements : (rs : List RegionTree) (fs : List FunctionTree) (f : FunctionTree) (ss : List StatementTree) → AllByRecursion (λ s. AllByRecursion (Local rs f) (option_to_list (destination s))) ss → AllByRecursion (λ s. statement_findings (context_of rs fs f) s ≡ []) ss → AllByRecursion (λ s. ItemsShort (new_assertion (context_of rs fs f) (context_of rs fs f).loop (invariant s)).items) ss → AllByRecursion (RightStatement rs fs f) ss
right-statements rs fs f [] a b c = tt
right-statements rs fs f (s ∷ ss) a b c = (record { local = a.0; nothing = b.0; short = c.0 }, right-statements rs fs f ss a.1 b.1 c.1)

pub function-fits : (p : PlainProgram) (rs : List RegionTree) (fs : List FunctionTree) → HasRegions p rs → HasFunctions p rs fs → (f : FunctionTree) → function_findings rs fs f ≡ [] → FunctionShort rs fs f → FunctionFits p (function_program rs fs f)
function-fits p rs fs hr hf f e short = record {
  params = parameters-count (parameters f) (nothing_front (parameters_findings (parameters f)) _ e);
  named = variables;
  requires = requires-fits p rs fs f hr (nothing_front (requires_findings rs f) _ rest) short.requires;
  ensures = ensures-fits p rs fs f reads (nothing_front (clause_findings (context_of rs fs f) (context_of rs fs f).result f.postcondition) _ body) short.ensures;
  body = record {
    statements = subst (λ ss. AllByRecursion (λ (s : PlainStatement). ActFits p (function_program rs fs f) s.act) ss) (sym (all_statements-append (block_program (context_of rs fs f) 1 f.body) (closing_return (1 + length (block_parts f.body)) (block_end f.body))))
        (each_append (λ (s : PlainStatement). ActFits p (function_program rs fs f) s.act) (all_statements (block_program (context_of rs fs f) 1 f.body)) (all_statements (closing_return (1 + length (block_parts f.body)) (block_end f.body)))
        (block-fit p rs fs f reads 1 f.body (right-statements rs fs f (statements f) locals-are each short.invariants)) (tt, tt));
    numbered = body-numbered (context_of rs fs f) f.body;
    closing = closing (1 + length (block_parts f.body)) (block_end f.body) (block_program (context_of rs fs f) 1 f.body);
    length = short.length;
    blocks = short.blocks;
  };
}
  where
    rest : requires_findings rs f ++ body_findings (context_of rs fs f) f ≡ []
    rest = nothing_behind (parameters_findings (parameters f)) _ e

    body : body_findings (context_of rs fs f) f ≡ []
    body = nothing_behind (requires_findings rs f) _ rest

    each : AllByRecursion (λ s. statement_findings (context_of rs fs f) s ≡ []) (statements f)
    each = nothing_flat (statement_findings (context_of rs fs f)) (statements f) (nothing_behind (clause_findings (context_of rs fs f) (context_of rs fs f).result f.postcondition) _ body)

    free : AllByRecursion (Free f rs) (destinations f)
    free = flat-options (Free f rs) destination (statements f) (each_weaker (λ s. statement_findings (context_of rs fs f) s ≡ []) (λ s. AllByRecursion (Free f rs) (option_to_list (destination s))) (λ s x. free-destination rs fs f s x) (statements f) each)

    reads : FunctionReads p rs fs f
    reads = record {
      regions = hr;
      functions = hf;
      hidden = hidden-names f (fixed_names rs f) (each_weaker (Free f rs) (λ d. is_among (fixed_words rs f) d.text ≡ false) (λ d x. x.1) (destinations f) free);
    }

    locals-are : AllByRecursion (λ s. AllByRecursion (Local rs f) (option_to_list (destination s))) (statements f)
    locals-are =
        local-destinations rs fs f (statements f)
        (options-flat (λ w. is_among (destinations f) w.text ≡ true) destination (statements f) (among-from [] (destinations f)))
        (each_flat (λ w. is_local rs f w ≡ true → is_among (locals rs f) w.text ≡ true) statement_words (statements f)
        (kept-if (λ w. is_among (locals rs f) w.text ≡ true) (is_local rs f) (flat_map statement_words (statements f)) (all-put word_text [] (filter (is_local rs f) (flat_map statement_words (statements f))))))
        each

    variables : length (function_program rs fs f).variables ≡ fixed_start (function_program rs fs f) + length (function_program rs fs f).fixed
    variables =
        let a : length (function_program rs fs f).variables ≡ length (parameters f ++ (locals rs f ++ fixed_words rs f)) = length-map (parameters f ++ (locals rs f ++ fixed_words rs f)) word_text in
        let b : length (parameters f ++ (locals rs f ++ fixed_words rs f)) ≡ length (parameters f) + length (locals rs f ++ fixed_words rs f) = length-append (parameters f) (locals rs f ++ fixed_words rs f) in
        let c : length (locals rs f ++ fixed_words rs f) ≡ length (locals rs f) + length (fixed_words rs f) = length-append (locals rs f) (fixed_words rs f) in
        let d : length (fixed_words rs f) ≡ length (occurrence_sorts (fixed_names rs f)) = length-map (fixed_names rs f) occurrence_word ∙ sym (length-map (fixed_names rs f) occurrence_sort) in
        omega arith
