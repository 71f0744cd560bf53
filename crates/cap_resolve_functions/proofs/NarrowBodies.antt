-- Statements and functions in which nothing is found are narrow.
use Rattle.std.proofs.Common.{◌≡◌, ◌+◌, ◌<◌, ◌≤◌, ◌^◌, length, Bool, true, false, true≢false, not, ◌&&◌, List, [], ◌∷◌, ◌++◌, map, filter, flat_map, Option, Some, None, option_to_list, refl, sym, ap, subst, ◌∙◌, arith, leb-true, length-append}
use Rattle.std.specs.Prelude.{nat_lt, nat_le}
use Rattle.std.specs.List.{AllByRecursion}
use Rattle.std.proofs.lemmas.List.{length-map}
use Rattle.cap_lin.specs.declared.row.Sort.TheVariants.{Int}
use Rattle.cap_syntax.specs.declared.place.Place.{Place}
use Rattle.cap_prog.specs.WellFormed.{most_cells, most_members, most_variables}
use Rattle.cap_parse_tree.specs.declared.word.Word.{Word}
use Rattle.cap_parse_tree.specs.declared.word.Literal.{Literal}
use Rattle.cap_parse_tree.specs.Tree.{TermTree, value, load, alloc, cas, faa, result_of, StatementTree, assign, store, call, fork, branch, loop, check, give_back, dispose, ElseTree, no_else, else_block, StatementTrees, no_statement, then_statement, BlockTree, block, RegionTree, FunctionTree}
use Rattle.cap_resolve_spec.specs.Finding.{unknown_word, twice_word, limit, cell_count}
use Rattle.cap_resolve_spec.specs.Parts.{PlacedItem, term_words, clause_parts, statement_parts, else_parts, statements_parts, block_parts, statement_terms, statement_comparison, statement_names, destination, invariant, cells, parameters}
use Rattle.cap_resolve_spec.specs.Names.{KnownName, NameScope, known_as, knows, whole_numbers, hidden, word_place, parameters_findings}
use Rattle.cap_resolve_spec.specs.Terms.{wanted_as, term_findings, terms_findings}
use Rattle.cap_resolve_spec.specs.Items.{TypedName, known_name, scope_of, occurrence_word}
use Rattle.cap_resolve_spec.specs.Functions.{Context, context_of, requires_types, requires_scope, requires_findings, clause_findings, unknown_in, cells_findings, is_forbidden, statement_wanted, statement_findings, statements, body_findings, function_findings, fixed_names, fixed_words, locals, name_in_body, result_entry}
use Rattle.cap_resolve_spec.proofs.Every.{each_front, each_behind, each_weaker}
use Rattle.cap_resolve_spec.proofs.Nothing.{nothing_front, nothing_behind, nothing_flat, nothing_mapped, nothing_kept, not_found}
use Rattle.cap_resolve_spec.proofs.Sorts.{IsKnown}
use Rattle.cap_resolve_spec.proofs.Terms.{terms-front, terms-behind}
use Rattle.cap_resolve_spec.proofs.Clauses.{requires-right, clause-count}
use Rattle.cap_resolve_spec.proofs.Functions.{after-callee, statement-invariant}
use Rattle.cap_resolve_functions.specs.Functions.{Named, context_built, named_by}
use Rattle.cap_resolve_functions.specs.Narrow.{HasFew, AreNarrow, IsNarrowComparison, IsNarrowNew, IsNarrowStatement, IsNarrowElse, AreNarrowStatements, IsNarrowBlock, IsNarrowFunction, IsNarrowBuilt, IsNarrowBy}
use Rattle.cap_resolve_functions.proofs.Contexts.{with_rest}
use Rattle.cap_resolve_functions.proofs.FunctionNames.{the_names, names_same, context_same}
use Rattle.cap_resolve_functions.proofs.NarrowItems.{term_narrow, comparisons_narrow, clause_narrow, new_narrow}

-- ---- one statement

names_known : (scope : NameScope) (ws : List Word) → unknown_in scope ws ≡ [] → AllByRecursion (IsKnown scope) ws
names_known scope ws e =
    each_weaker (λ w. not (knows scope w.text) ≡ false) (IsKnown scope) (λ w x. back (knows scope w.text) x) ws
    (nothing_kept (λ w. not (knows scope w.text)) ws (nothing_mapped unknown_word (filter (λ w. not (knows scope w.text)) ws) e))
  where
    back : (b : Bool) → not b ≡ false → b ≡ true
    back true h = refl
    back false h = absurd (true≢false h)

terms_narrow : (scope : NameScope) (few : HasFew scope) (ts : List TermTree) → AllByRecursion (IsKnown scope) (flat_map term_words ts) → terms_findings scope (map (wanted_as (Some Int)) ts) ≡ [] → AreNarrow scope ts
terms_narrow scope few [] a e = tt
terms_narrow scope few (t ∷ ts) a e = (
  term_narrow scope few (Some Int) t (each_front (IsKnown scope) (term_words t) (flat_map term_words ts) a) (nothing_front (term_findings scope (wanted_as (Some Int) t)) _ e),
  terms_narrow scope few ts (each_behind (IsKnown scope) (term_words t) (flat_map term_words ts) a) (nothing_behind (term_findings scope (wanted_as (Some Int) t)) _ e),
)

few_cells : (n : Literal) → cells_findings n ≡ [] → n.value < 2 ^ 32
few_cells n e = by (nat_lt 0 n.value) (nat_le n.value most_cells) refl (not_found (not (nat_lt 0 n.value && nat_le n.value most_cells)) n.place (limit cell_count) e)
  where
    by : (a b : Bool) → nat_le n.value most_cells ≡ b → not (a && b) ≡ false → n.value < 2 ^ 32
    by true true y d = let h : n.value ≤ most_cells = leb-true n.value most_cells y in omega arith
    by true false y d = absurd (true≢false d)
    by false b y d = absurd (true≢false d)

module _ (g : Context) (few : HasFew g.body) (n : length g.loop ≤ length g.counted + 1) where
  known_in : (s : StatementTree) → statement_findings g s ≡ [] → AllByRecursion (IsKnown g.body) (statement_names s)
  known_in s e = names_known g.body (statement_names s) (nothing_front (unknown_in g.body (statement_names s)) _ (nothing_behind (map twice_word (filter (is_forbidden g) (option_to_list (destination s)))) _ e))

  terms_in : (s : StatementTree) → statement_findings g s ≡ [] → terms_findings g.body (statement_wanted g.body s) ≡ []
  terms_in s e = nothing_front (terms_findings g.body (statement_wanted g.body s)) _ (nothing_behind (flat_map cells_findings (option_to_list (cells s))) _ (after-callee g s e))

  values : (s : StatementTree) → statement_findings g s ≡ [] → AreNarrow g.body (statement_terms s)
  values s e = terms_narrow g.body few (statement_terms s) (each_front (IsKnown g.body) (flat_map term_words (statement_terms s)) _ (known_in s e)) (terms-front g.body (map (wanted_as (Some Int)) (statement_terms s)) _ (terms_in s e))

  comparisons : (s : StatementTree) → statement_findings g s ≡ [] → AllByRecursion (IsNarrowComparison g.body) (option_to_list (statement_comparison s))
  comparisons s e = comparisons_narrow g.body few (option_to_list (statement_comparison s)) (each_behind (IsKnown g.body) (flat_map term_words (statement_terms s)) _ (known_in s e)) (terms-behind g.body (map (wanted_as (Some Int)) (statement_terms s)) _ (terms_in s e))

  invariant_in : (s : StatementTree) → statement_findings g s ≡ [] → IsNarrowNew g g.loop (invariant s)
  invariant_in s e = new_narrow g g.loop (invariant s) n (statement-invariant g s e)

  cells_in : (n : Literal) (more : List Literal) → flat_map cells_findings (n ∷ more) ≡ [] → n.value < 2 ^ 32
  cells_in n more e = few_cells n (nothing_front (cells_findings n) (flat_map cells_findings more) e)

  abbrev NothingIn : StatementTree → Type 0
  NothingIn s = statement_findings g s ≡ []

  -- ---- statements, also where a context has other names than those that a body reads

  module _ (r : NameScope) (given : List Word) (counted : List Place) where
    mutual
      statement_narrow : (s : StatementTree) → AllByRecursion NothingIn (statement_parts s) → IsNarrowStatement (with_rest g r given counted) s
      statement_narrow (assign w q (value t) e) a = (few, (values (assign w q (value t) e) a.0).0)
      statement_narrow (assign w q (load b t d) e) a = (few, (values (assign w q (load b t d) e) a.0).0)
      statement_narrow (assign w q (alloc b c m d) e) a = (few, cells_in m [] (nothing_front (flat_map cells_findings (m ∷ [])) _ (after-callee g (assign w q (alloc b c m d) e) a.0)))
      statement_narrow (assign w q (cas b c t d u k v m) e) a = let vs = values (assign w q (cas b c t d u k v m) e) a.0 in (few, (vs.0, (vs.1.0, vs.1.1.0)))
      statement_narrow (assign w q (faa b c t d u m) e) a = let vs = values (assign w q (faa b c t d u m) e) a.0 in (few, (vs.0, vs.1.0))
      statement_narrow (assign w q (result_of v l) e) a = (few, values (assign w q (result_of v l) e) a.0)
      statement_narrow (store b t c d u e) a = let vs = values (store b t c d u e) a.0 in (vs.0, vs.1.0)
      statement_narrow (call v l e) a = values (call v l e) a.0
      statement_narrow (fork b v l e) a = values (fork b v l e) a.0
      statement_narrow (branch b c d e k l) a = (
        (comparisons (branch b c d e k l) a.0).0,
        (
          block_narrow k (each_front NothingIn (block_parts k) (else_parts l) a.1),
          else_narrow l (each_behind NothingIn (block_parts k) (else_parts l) a.1),
        ),
      )
      statement_narrow (loop b c d e i k) a = ((comparisons (loop b c d e i k) a.0).0, (invariant_in (loop b c d e i k) a.0, block_narrow k a.1))
      statement_narrow (check b c e) a = (comparisons (check b c e) a.0).0
      statement_narrow (give_back b None e) a = tt
      statement_narrow (give_back b (Some t) e) a = (values (give_back b (Some t) e) a.0).0
      statement_narrow (dispose b c t d e) a = (values (dispose b c t d e) a.0).0

      else_narrow : (e : ElseTree) → AllByRecursion NothingIn (else_parts e) → IsNarrowElse (with_rest g r given counted) e
      else_narrow no_else a = tt
      else_narrow (else_block q b) a = block_narrow b a

      statements_narrow : (ss : StatementTrees) → AllByRecursion NothingIn (statements_parts ss) → AreNarrowStatements (with_rest g r given counted) ss
      statements_narrow no_statement a = tt
      statements_narrow (then_statement s ss) a = (statement_narrow s (each_front NothingIn (statement_parts s) (statements_parts ss) a), statements_narrow ss (each_behind NothingIn (statement_parts s) (statements_parts ss) a))

      block_narrow : (b : BlockTree) → AllByRecursion NothingIn (block_parts b) → IsNarrowBlock (with_rest g r given counted) b
      block_narrow (block q ss e) a = statements_narrow ss a

-- ---- a function

-- a context with these scopes of its invariants and of its body
abbrev pub context_with : List RegionTree → List FunctionTree → List TypedName → NameScope → NameScope → Context
context_with rs fs types kept scope = record {
  regions = rs;
  functions = fs;
  types = types;
  result = [];
  loop = kept;
  body = scope;
  given = [];
  counted = [];
}

pub narrow_with : (rs : List RegionTree) (fs : List FunctionTree) (types : List TypedName) (n : Named) (f : FunctionTree) (kept scope : NameScope) → kept ≡ (context_built rs fs types n).loop → scope ≡ (context_built rs fs types n).body → IsNarrowBuilt rs fs types n f → IsNarrowFunction (context_with rs fs types kept scope) n f
narrow_with rs fs types n f kept scope l b a =
    subst (λ x. IsNarrowFunction (context_with rs fs types x scope) n f) (sym l)
    (subst (λ x. IsNarrowFunction (context_with rs fs types (context_built rs fs types n).loop x) n f) (sym b) a)

module _ (rs : List RegionTree) (fs : List FunctionTree) (f : FunctionTree) (e : function_findings rs fs f ≡ []) (small : length (block_parts f.body) ≤ most_members) where
  rest : requires_findings rs f ++ body_findings (context_of rs fs f) f ≡ []
  rest = nothing_behind (parameters_findings (parameters f)) _ e

  body : body_findings (context_of rs fs f) f ≡ []
  body = nothing_behind (requires_findings rs f) _ rest

  ensured : clause_findings (context_of rs fs f) (context_of rs fs f).result f.postcondition ≡ []
  ensured = nothing_front (clause_findings (context_of rs fs f) (context_of rs fs f).result f.postcondition) _ body

  -- all names of a function are counted
  counted_all : length (context_of rs fs f).counted ≡ length (parameters f) + (length (fixed_names rs f) + length (locals rs f))
  counted_all =
      length-map (parameters f ++ (fixed_words rs f ++ locals rs f)) word_place
      ∙ (length-append (parameters f) (fixed_words rs f ++ locals rs f)
      ∙ ap (λ k. length (parameters f) + k) (length-append (fixed_words rs f) (locals rs f) ∙ ap (λ k. k + length (locals rs f)) (length-map (fixed_names rs f) occurrence_word)))

  few_names : length (context_of rs fs f).counted ≤ most_variables
  few_names =
      let h = clause-count (context_of rs fs f) (context_of rs fs f).result f.postcondition ensured in
      omega arith

  -- the scopes of a function, by the entries of its locals and of its fixed names
  three : (a b c : NameScope) → length a ≡ length (parameters f) → length b ≡ length (locals rs f) → length c ≡ length (fixed_names rs f) → length (a ++ (b ++ c)) ≡ length (context_of rs fs f).counted
  three a b c p l x =
      let d : length (a ++ (b ++ c)) ≡ length a + length (b ++ c) = length-append a (b ++ c) in
      let e : length (b ++ c) ≡ length b + length c = length-append b c in
      omega (arith, counted_all)

  four : (a b c : NameScope) (k : Option KnownName) → length a ≡ length (parameters f) → length b ≡ length (locals rs f) → length c ≡ length (fixed_names rs f) → length (a ++ (b ++ (c ++ k ∷ []))) ≡ length (context_of rs fs f).counted + 1
  four a b c k p l x =
      let d : length (a ++ (b ++ (c ++ k ∷ []))) ≡ length a + length (b ++ (c ++ k ∷ [])) = length-append a (b ++ (c ++ k ∷ [])) in
      let e : length (b ++ (c ++ k ∷ [])) ≡ length b + length (c ++ k ∷ []) = length-append b (c ++ k ∷ []) in
      let g : length (c ++ k ∷ []) ≡ length c + 1 = length-append c (k ∷ []) in
      omega (arith, counted_all)

  whole : (ws : List Word) → length (whole_numbers ws) ≡ length ws
  whole ws = length-map ws (known_as Int)

  unseen : (ws : List Word) → length (hidden ws) ≡ length ws
  unseen ws = length-map ws (λ w. None)

  few_required : HasFew (requires_scope rs f)
  few_required =
      let h = three (whole_numbers (parameters f)) (hidden (locals rs f)) (scope_of (fixed_names rs f)) (whole (parameters f)) (unseen (locals rs f)) (length-map (fixed_names rs f) known_name) in
      omega (arith, few_names)

  few_in_body : HasFew (context_of rs fs f).body
  few_in_body =
      let h = three (whole_numbers (parameters f)) (whole_numbers (locals rs f)) (map (name_in_body f) (fixed_names rs f)) (whole (parameters f)) (whole (locals rs f)) (length-map (fixed_names rs f) (name_in_body f)) in
      omega (arith, few_names)

  in_loops : length (context_of rs fs f).loop ≤ length (context_of rs fs f).counted + 1
  in_loops =
      let h = four (whole_numbers (parameters f)) (whole_numbers (locals rs f)) (scope_of (fixed_names rs f)) None (whole (parameters f)) (whole (locals rs f)) (length-map (fixed_names rs f) known_name) in
      omega arith

  in_ensures : length (context_of rs fs f).result ≤ length (context_of rs fs f).counted + 1
  in_ensures =
      let h = four (whole_numbers (parameters f)) (hidden (locals rs f)) (scope_of (fixed_names rs f)) result_entry (whole (parameters f)) (unseen (locals rs f)) (length-map (fixed_names rs f) known_name) in
      omega arith

  function_narrow : IsNarrowFunction (with_rest (context_of rs fs f) [] [] []) (the_names rs fs f) f
  function_narrow = record {
    requires = clause_narrow rs (requires_types rs f) (requires_scope rs f) few_required f.precondition (requires-right rs f (nothing_front (requires_findings rs f) _ rest));
    ensures = new_narrow (context_of rs fs f) (context_of rs fs f).result f.postcondition in_ensures ensured;
    body = block_narrow (context_of rs fs f) few_in_body in_loops [] [] [] f.body (nothing_flat (statement_findings (context_of rs fs f)) (statements f) (nothing_behind (clause_findings (context_of rs fs f) (context_of rs fs f).result f.postcondition) _ body));
    names = omega (arith, few_names, counted_all);
    counted = omega (arith, small);
  }

  built_narrow : IsNarrowBuilt rs fs (requires_types rs f) (named_by (parameters f) (fixed_names rs f) (statements f)) f
  built_narrow =
      subst (λ n. IsNarrowBuilt rs fs (requires_types rs f) n f) (sym (names_same rs fs f))
      (subst (λ g. IsNarrowFunction g (the_names rs fs f) f) (sym (context_same rs fs f)) function_narrow)

  pub is_narrow_by : (ps : List Word) (parts : List PlacedItem) → ps ≡ parameters f → parts ≡ clause_parts f.precondition → IsNarrowBy rs fs ps parts f
  is_narrow_by ps parts p q =
      subst (λ xs. IsNarrowBy rs fs xs parts f) (sym p)
      (subst (λ xs. IsNarrowBy rs fs (parameters f) xs f) (sym q) built_narrow)
