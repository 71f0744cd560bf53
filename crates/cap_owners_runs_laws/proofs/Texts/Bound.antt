-- In the program of a text each name that is new in an assertion is bound there, outside the sides
-- of conditionals; a case's name may also be its whole state.
use Rattle.std.proofs.Common.{◌≡◌, ◌⊎◌, inl, inr, ℕ, suc, ◌+◌, ◌<◌, Bool, true, false, true≢false, not, cond, ◌||◌, List, [], ◌∷◌, ◌++◌, map, filter, flat_map, length, bytes_eq, Option, Some, None, refl, sym, ap, subst, ◌∙◌, arith, append_assoc, length-append}
use Rattle.std.specs.List.{AllByRecursion, list_any}
use Rattle.std.proofs.lemmas.List.{length-map}
use Rattle.cap_lin.specs.declared.row.Sort.TheVariants.{Int}
use Rattle.cap_prog.specs.Program.{Items, PlainCase, PlainAct, loop as plain_loop, PlainStatement, PlainRegionType, PlainFunction}
use Rattle.cap_prog.specs.Parts.{block_statements, all_statements}
use Rattle.cap_prog.specs.Scopes.{fixed_start, names_start}
use Rattle.cap_goal_spec.specs.Terms.{lone_variable}
use Rattle.cap_goal_spec.specs.Environments.{is_bound_by}
use Rattle.cap_parse_tree.specs.declared.word.Word.{Word}
use Rattle.cap_parse_tree.specs.Tree.{TermTree, ClauseTree, value, load, alloc, cas, faa, result_of, StatementTree, assign, store, call, fork, branch, loop, check, give_back, dispose, ElseTree, no_else, else_block, StatementTrees, no_statement, then_statement, BlockTree, block, CaseTree, RegionTree, FunctionTree}
use Rattle.cap_resolve_spec.specs.Finding.{unknown_word}
use Rattle.cap_resolve_spec.specs.Parts.{PlacedItem, whole_name, is_word, clause_parts, statement_parts, else_parts, statements_parts, block_parts, parameters}
use Rattle.cap_resolve_spec.specs.Names.{NameScope, variable_of, whole_numbers, hidden, known_as, word_place, past_variables}
use Rattle.cap_resolve_spec.specs.Items.{NumberedRegion, Occurrence, name_of, is_bound, known_name, scope_of, occurrences, occurrence_word, occurrence_words, ret_findings, item_findings}
use Rattle.cap_resolve_spec.specs.Linear.{term_form}
use Rattle.cap_resolve_spec.specs.Regions.{own_parameters, own_name, parameters_scope, case_types, assertion_occurrences, case_new, is_bound_in, is_known_in, case_known, case_unknown, case_scope, case_items_findings, case_findings}
use Rattle.cap_resolve_spec.specs.Functions.{requires_types, requires_new, fixed_names, statements, locals, requires_scope, result_entry, result_scope, loop_scope, Context, context_of, clause_types, clause_new, clause_bound, clause_scope, new_findings, requires_findings, clause_findings, statement_findings}
use Rattle.cap_resolve_spec.specs.Program.{clause_program, occurrence_sort, occurrence_sorts, case_program, region_program, new_assertion, act_program, else_program, statements_program, block_program, closing_return, block_end, function_program}
use Rattle.cap_resolve_spec.proofs.Every.{each_append, each_front, each_behind, each_weaker}
use Rattle.cap_resolve_spec.proofs.Nothing.{nothing_front, nothing_behind, nothing_mapped, nothing_kept}
use Rattle.cap_resolve_spec.proofs.Known.{same-text, all-kept}
use Rattle.cap_resolve_spec.proofs.Clauses.{all-bound}
use Rattle.cap_resolve_spec.proofs.Bodies.{all_statements-append}
use Rattle.cap_resolve_spec.proofs.Functions.{statement-invariant}
use Rattle.cap_owners_runs_laws.proofs.Texts.Binding.{WhereBound, whole-is, assertion-binds, clause-binds}
use Rattle.cap_owners_runs_laws.proofs.Texts.Named.{get-each, there-is, all-pass, new-are, IsUnknown, new-unknown, AreDistinct, new-distinct, variable-new, BindsFrom, new-bound, unknown-hidden}

binds-from :
    (s t n m : ℕ) (items : Items) → s ≡ t → n ≡ m → BindsFrom s n items → BindsFrom t m items
binds-from s t n m items e d h =
    subst (λ k. BindsFrom k m items) e (subst (λ k. BindsFrom s k items) d h)

sorts-length : (os : List Occurrence) → length os ≡ length (occurrence_sorts os)
sorts-length os = sym (length-map os occurrence_sort)

hidden-length : (ws : List Word) → length (hidden ws) ≡ length ws
hidden-length [] = refl
hidden-length (w ∷ ws) = ap suc (hidden-length ws)

-- ---- `requires`

pub requires-bound :
    (rs : List RegionTree) (fs : List FunctionTree) (f : FunctionTree) →
    requires_findings rs f ≡ [] →
    BindsFrom (fixed_start (function_program rs fs f)) (length (function_program rs fs f).fixed)
    (function_program rs fs f).requires
requires-bound rs fs f e =
    let new = requires_new rs f in
    let os = fixed_names rs f in
    let types = requires_types rs f in
    let scope = requires_scope rs f in
    let ps = whole_numbers (parameters f) in
    let ls = hidden (locals rs f) in
    let items = clause_program rs types scope f.precondition in
    let occ = occurrences types (clause_parts f.precondition) in
    let same : new ≡ os = sym (all-bound new (nothing_front (new_findings new) _ e)) in
    let P = WhereBound scope (λ x. is_bound_by x items ≡ true) in
    let wrong = flat_map (λ (i : PlacedItem). item_findings rs None types scope i.1)
    (clause_parts f.precondition) in
    let binds : AllByRecursion P new = new-are P ps occ
    (clause-binds rs None types scope f.precondition
    (nothing_front wrong _ (nothing_behind (new_findings new) _ e))) in
    let joined : scope ≡ (ps ++ ls) ++ scope_of os = sym (append_assoc ps ls (scope_of os)) in
    let m = length-append ps ls in
    let n = length-map (parameters f) (known_as Int) in
    let k = hidden-length (locals rs f) in
    let size : length (ps ++ ls) ≡ length (parameters f) + length (locals rs f) =
    omega (arith, m, n, k) in
    binds-from (length (ps ++ ls)) (length (parameters f) + length (locals rs f)) (length os)
    (length (occurrence_sorts os)) items size (sorts-length os)
    (new-bound (ps ++ ls) os items
    (subst (AllByRecursion (IsUnknown (ps ++ ls))) same
    (each_weaker (IsUnknown ps) (IsUnknown (ps ++ ls))
    (λ o u. unknown-hidden ps (locals rs f) o u) new (new-unknown ps occ)))
    (subst AreDistinct same (new-distinct ps occ)) (all-pass is_bound new)
    (subst (λ sc. AllByRecursion (WhereBound sc (λ x. is_bound_by x items ≡ true)) os) joined
    (subst (AllByRecursion P) same binds)))

-- ---- `ensures` and invariants

pub clause-bound :
    (g : Context) (known : NameScope) (c : Option ClauseTree) → clause_findings g known c ≡ [] →
    BindsFrom (length known) (length (new_assertion g known c).names)
    (new_assertion g known c).items
clause-bound g known c e =
    let new = clause_new g known c in
    let os = clause_bound g known c in
    let types = clause_types g c in
    let scope = clause_scope g known c in
    let items = clause_program g.regions types scope c in
    let occ = occurrences types (clause_parts c) in
    let same : new ≡ os = sym (all-bound new (nothing_front (new_findings new) _ e)) in
    let P = WhereBound scope (λ x. is_bound_by x items ≡ true) in
    let many = past_variables
    (g.counted ++ map word_place (occurrence_words (clause_bound g known c))) in
    let wrong = flat_map (λ (i : PlacedItem). item_findings g.regions None types scope i.1)
    (clause_parts c) in
    let binds : AllByRecursion P new = new-are P known occ
    (clause-binds g.regions None types scope c
    (nothing_front wrong _ (nothing_behind many _ (nothing_behind (new_findings new) _ e)))) in
    binds-from (length known) (length known) (length os) (length (occurrence_sorts os)) items refl
    (sorts-length os)
    (new-bound known os items
    (subst (AllByRecursion (IsUnknown known)) same (new-unknown known occ))
    (subst AreDistinct same (new-distinct known occ)) (all-pass is_bound new)
    (subst (AllByRecursion P) same binds))

-- the names of an assertion come behind the parameters, the locals, the fixed names and the result
scope-length :
    {A : Type 0} (ps ls : List Word) (f : Word → A) (g : Word → A) (h : Occurrence → A)
    (os : List Occurrence) (k : A) →
    length (map f ps ++ (map g ls ++ (map h os ++ k ∷ [])))
    ≡ length ps + length ls + length (occurrence_sorts os) + 1
scope-length ps ls f g h os k =
    let a = length-append (map f ps) (map g ls ++ (map h os ++ k ∷ [])) in
    let b = length-append (map g ls) (map h os ++ k ∷ []) in
    let c = length-append (map h os) (k ∷ []) in
    let x = length-map ps f in
    let y = length-map ls g in
    let z = length-map os h in
    let w = length-map os occurrence_sort in
    omega (arith, a, b, c, x, y, z, w)

-- of a loop
abbrev pub InvariantBinds : PlainFunction → PlainAct → Type 0
InvariantBinds f (plain_loop c i a) = BindsFrom (names_start f) (length i.names) i.items
InvariantBinds f a = Unit {0}

module _ (rs : List RegionTree) (fs : List FunctionTree) (f : FunctionTree) where
  abbrev g : Context
  g = context_of rs fs f

  abbrev fn : PlainFunction
  fn = function_program rs fs f

  pub ensures-bound :
      clause_findings (context_of rs fs f) (context_of rs fs f).result f.postcondition ≡ [] →
      BindsFrom (names_start (function_program rs fs f))
      (length (function_program rs fs f).ensures.names) (function_program rs fs f).ensures.items
  ensures-bound e =
      binds-from (length (result_scope rs f)) (names_start fn) (length fn.ensures.names)
      (length fn.ensures.names) fn.ensures.items
      (scope-length (parameters f) (locals rs f) (known_as Int) (λ w. None) known_name
      (fixed_names rs f) result_entry) refl (clause-bound g g.result f.postcondition e)

  invariant-bound :
      (c : Option ClauseTree) → clause_findings g g.loop c ≡ [] →
      BindsFrom (names_start fn) (length (new_assertion g g.loop c).names)
      (new_assertion g g.loop c).items
  invariant-bound c e =
      let a = new_assertion g g.loop c in
      binds-from (length (loop_scope rs f)) (names_start fn) (length a.names) (length a.names)
      a.items
      (scope-length (parameters f) (locals rs f) (known_as Int) (known_as Int) known_name
      (fixed_names rs f) None) refl (clause-bound g g.loop c e)

  -- ---- statements

  abbrev AllBind : List PlainStatement → Type 0
  AllBind ss = AllByRecursion (λ s. InvariantBinds (function_program rs fs f) s.act) ss

  abbrev Nothing : StatementTree → Type 0
  Nothing s = statement_findings g s ≡ []

  mutual
    inner-bound :
        (n : ℕ) (s : StatementTree) → AllByRecursion Nothing (statement_parts s) →
        InvariantBinds fn (act_program g n s) × AllBind (block_statements (act_program g n s))
    inner-bound n (assign w q (value t) e) a = (tt, tt)
    inner-bound n (assign w q (load b t d) e) a = (tt, tt)
    inner-bound n (assign w q (alloc b c m d) e) a = (tt, tt)
    inner-bound n (assign w q (cas b c t d u k v m) e) a = (tt, tt)
    inner-bound n (assign w q (faa b c t d u m) e) a = (tt, tt)
    inner-bound n (assign w q (result_of v l) e) a = (tt, tt)
    inner-bound n (store b t c d u e) a = (tt, tt)
    inner-bound n (call v l e) a = (tt, tt)
    inner-bound n (fork b v l e) a = (tt, tt)
    inner-bound n (branch b c d e k l) a = (
      tt,
      each_append (λ (s : PlainStatement). InvariantBinds fn s.act)
          (all_statements (block_program g (n + 1) k))
          (all_statements (else_program g (n + 1 + length (block_parts k)) l))
          (block-bound (n + 1) k (each_front Nothing (block_parts k) (else_parts l) a.1))
          (else-bound (n + 1 + length (block_parts k)) l
          (each_behind Nothing (block_parts k) (else_parts l) a.1)),
    )
    inner-bound n (loop b c d e i k) a = (
      invariant-bound i (statement-invariant g (loop b c d e i k) a.0),
      block-bound (n + 1) k a.1,
    )
    inner-bound n (check b c e) a = (tt, tt)
    inner-bound n (give_back b t e) a = (tt, tt)
    inner-bound n (dispose b c t d e) a = (tt, tt)

    else-bound :
        (n : ℕ) (e : ElseTree) → AllByRecursion Nothing (else_parts e) →
        AllBind (all_statements (else_program g n e))
    else-bound n no_else a = tt
    else-bound n (else_block q b) a = block-bound n b a

    statements-bound :
        (n : ℕ) (ss : StatementTrees) → AllByRecursion Nothing (statements_parts ss) →
        AllBind (all_statements (statements_program g n ss))
    statements-bound n no_statement a = tt
    statements-bound n (then_statement s ss) a =
        let x = inner-bound n s (each_front Nothing (statement_parts s) (statements_parts ss) a) in (
          x.0,
          each_append (λ (t : PlainStatement). InvariantBinds fn t.act)
              (block_statements (act_program g n s))
              (all_statements (statements_program g (n + length (statement_parts s)) ss)) x.1
              (statements-bound (n + length (statement_parts s)) ss
              (each_behind Nothing (statement_parts s) (statements_parts ss) a)),
        )

    block-bound :
        (n : ℕ) (b : BlockTree) → AllByRecursion Nothing (block_parts b) →
        AllBind (all_statements (block_program g n b))
    block-bound n (block q ss c) a = statements-bound n ss a

  pub body-bound :
      AllByRecursion (λ s. statement_findings (context_of rs fs f) s ≡ []) (statements f) →
      AllByRecursion (λ s. InvariantBinds (function_program rs fs f) s.act)
      (all_statements (function_program rs fs f).body)
  body-bound a =
      let last = closing_return (1 + length (block_parts f.body)) (block_end f.body) in
      subst AllBind (sym (all_statements-append (block_program g 1 f.body) last))
      (each_append (λ (s : PlainStatement). InvariantBinds fn s.act)
      (all_statements (block_program g 1 f.body)) (all_statements last) (block-bound 1 f.body a)
      (tt, tt))

-- ---- cases

-- each name is bound by the items, or is the whole state
abbrev pub BindsCase : PlainRegionType → PlainCase → Type 0
BindsCase k c =
    (i : ℕ) → i < length c.names →
    (is_bound_by (k.params + i) c.items ≡ true) ⊎ (lone_variable c.state ≡ Some (k.params + i))

any-is :
    {A : Type 0} (Q : A → Type 0) (p : A → Bool) (xs : List A) → list_any p xs ≡ true →
    AllByRecursion Q xs → (x : A) × (p x ≡ true) × Q x
any-is Q p [] e h = absurd (true≢false (sym e))
any-is {A} Q p (x ∷ xs) e h = by (p x) refl e (λ d. any-is Q p xs d h.1)
  where
    by :
        (b : Bool) → p x ≡ b → (b || list_any p xs) ≡ true →
        (list_any p xs ≡ true → (y : A) × (p y ≡ true) × Q y) → (y : A) × (p y ≡ true) × Q y
    by true d k rest = (x, d, h.0)
    by false d k rest = rest k

each-where :
    (P : Occurrence → Type 0) (os : List Occurrence) →
    AllByRecursion (λ o. is_bound o ≡ true → P o) os → AllByRecursion P (filter is_bound os)
each-where P [] h = tt
each-where P (o ∷ os) h = by o.bound refl (each-where P os h.1)
  where
    by :
        (b : Bool) → o.bound ≡ b → AllByRecursion P (filter is_bound os) →
        AllByRecursion P (cond b (o ∷ filter is_bound os) (filter is_bound os))
    by true e rest = (h.0 e, rest)
    by false e rest = rest

-- a state that is one name alone
state-is :
    (scope : NameScope) (t : TermTree) (x : List ℕ) → is_word x (whole_name t) ≡ true →
    lone_variable (term_form scope t) ≡ Some (variable_of scope x)
state-is scope t x e = by (whole_name t) refl e
  where
    by :
        (o : Option Word) → whole_name t ≡ o → is_word x o ≡ true →
        lone_variable (term_form scope t) ≡ Some (variable_of scope x)
    by None h d = absurd (true≢false (sym d))
    by (Some w) h d =
        ap (λ u. lone_variable (term_form scope u)) (whole-is t w h)
        ∙ ap (λ y. Some (variable_of scope y)) (sym (same-text x w.text d))

module _ (rs : List RegionTree) (k : NumberedRegion) (c : CaseTree)
    (e : case_findings rs k c ≡ []) where
  abbrev new : List Occurrence
  new = case_new rs k c

  abbrev scope : NameScope
  scope = case_scope rs k c

  same-names : new ≡ case_known rs k c
  same-names =
      sym (all-kept (is_known_in rs k c) new
      (nothing_kept (λ o. not (is_known_in rs k c o)) new
      (nothing_front (filter (λ o. not (is_known_in rs k c o)) new) _
      (nothing_mapped occurrence_word (case_unknown rs k c)
      (nothing_mapped unknown_word (occurrence_words (case_unknown rs k c))
      (nothing_front (map unknown_word (occurrence_words (case_unknown rs k c))) _ e))))))

  abbrev items_of_case : Items
  items_of_case = (case_program rs k c).items

  case-binds :
      AllByRecursion (WhereBound scope (λ x. is_bound_by x items_of_case ≡ true))
      (assertion_occurrences rs k c)
  case-binds =
      let rest1 = nothing_behind (map unknown_word (occurrence_words (case_unknown rs k c))) _ e in
      let rest2 = nothing_behind (ret_findings new) _ rest1 in
      let rest3 = nothing_behind
      (past_variables (map word_place (own_parameters k ++ occurrence_words (case_known rs k c))))
      _ rest2 in
      assertion-binds rs (Some (own_name k)) (case_types rs k c) scope c.assertion
      (nothing_front (case_items_findings rs k c) _ rest3)

  pub case-bound : BindsCase (region_program rs k) (case_program rs k c)
  case-bound i l =
      let os = case_known rs k c in
      let n = length-map os occurrence_sort in
      let o = there-is os i (omega (arith, n, l)) in
      let a = parameters_scope k in
      let unknown = subst (AllByRecursion (IsUnknown a)) same-names (new-unknown a _) in
      let distinct = subst AreDistinct same-names (new-distinct a _) in
      let m = length-map (own_parameters k) (known_as Int) in
      let at : variable_of scope (name_of o.0) ≡ length (own_parameters k) + i =
      variable-new a os i o.0 (get-each (IsUnknown a) os i o.0 unknown o.1) distinct o.1
      ∙ ap (λ z. z + i) m in
      by o.0 (is_bound_in rs k c (name_of o.0)) refl
      (get-each (λ q. is_known_in rs k c q ≡ true) os i o.0 (all-pass (is_known_in rs k c) new) o.1)
      at
    where
      by :
          (o : Occurrence) (b : Bool) → is_bound_in rs k c (name_of o) ≡ b →
          (b || is_word (name_of o) (whole_name c.state)) ≡ true →
          variable_of scope (name_of o) ≡ length (own_parameters k) + i →
          (is_bound_by (length (own_parameters k) + i) items_of_case ≡ true)
          ⊎ (lone_variable (term_form scope c.state) ≡ Some (length (own_parameters k) + i))
      by o true h d at =
          let q = any-is
          (λ (z : Occurrence). is_bound_by (variable_of scope (name_of z)) items_of_case ≡ true)
          (λ (z : Occurrence). bytes_eq (name_of o) (name_of z))
          (filter is_bound (assertion_occurrences rs k c)) h
          (each-where
          (λ (z : Occurrence). is_bound_by (variable_of scope (name_of z)) items_of_case ≡ true)
          (assertion_occurrences rs k c) case-binds) in
          inl (subst (λ y. is_bound_by y items_of_case ≡ true)
          (ap (variable_of scope) (sym (same-text (name_of o) (name_of q.0) q.1)) ∙ at) q.2)
      by o false h d at = inr (state-is scope c.state (name_of o) d ∙ ap Some at)
