-- Terms and items in which nothing is found, and whose names are known, are narrow.
use Rattle.std.proofs.Common.{◌≡◌, ◌+◌, ◌≤◌, ℤ, Bool, true, false, true≢false, List, [], ◌∷◌, ◌++◌, flat_map, length, Option, Some, None, is_some, refl, sym, ap, ◌∙◌, arith, length-append}
use Rattle.std.proofs.lemmas.List.{length-map}
use Rattle.std.specs.List.{AllByRecursion}
use Rattle.cap_lin.specs.Steps.{first_wide}
use Rattle.cap_lin.specs.declared.row.Sort.{Sort}
use Rattle.cap_lin.specs.declared.row.Sort.TheVariants.{Int}
use Rattle.cap_syntax.specs.declared.place.Place.{Place}
use Rattle.cap_parse_tree.specs.declared.word.Word.{Word}
use Rattle.cap_parse_tree.specs.Tree.{TermTree, ComparisonTree, SlotTree, any, is, GuardTree, alone, amount, count, ItemTree, holds, fails, fact, guards, cell, compare, choose, ItemTrees, no_item, and_item, AssertionTree, assertion, SideTree, side, ClauseTree, RegionTree}
use Rattle.cap_resolve_spec.specs.Finding.{limit, width}
use Rattle.cap_resolve_spec.specs.Parts.{term_words, term_leaves, term_brackets, term_place, comparison_words, held_atoms, item_parts, items_parts, assertion_parts, side_parts, clause_parts}
use Rattle.cap_resolve_spec.specs.Names.{NameScope, whole_numbers}
use Rattle.cap_resolve_spec.specs.Linear.{with_names, is_wide, term_steps}
use Rattle.cap_resolve_spec.specs.Terms.{wanted_as, term_sort, products_findings, term_findings, terms_findings, comparison_wanted, slot_wanted}
use Rattle.cap_resolve_spec.specs.Items.{NumberedRegion, TypedName, type_of, known_name, scope_of, occurs, unbound, slot_occurrences, atom_occurrences, amount_sort, declared_kind, atom_wanted}
use Rattle.cap_resolve_spec.specs.Functions.{Context, clause_types, clause_bound, clause_scope, clause_findings}
use Rattle.cap_resolve_spec.specs.Program.{occurrence_sort, occurrence_sorts}
use Rattle.cap_resolve_spec.proofs.Every.{each_front, each_behind, each_mapped}
use Rattle.cap_resolve_spec.proofs.Nothing.{nothing_front, nothing_behind, not_found}
use Rattle.cap_resolve_spec.proofs.Known.{OccursKnown}
use Rattle.cap_resolve_spec.proofs.Sorts.{IsKnown}
use Rattle.cap_resolve_spec.proofs.Terms.{TermKnown, ComparisonKnown, terms-front, terms-behind}
use Rattle.cap_resolve_spec.proofs.Variables.{words-leaves}
use Rattle.cap_resolve_spec.proofs.Items.{RightItem, Right}
use Rattle.cap_resolve_spec.proofs.Clauses.{clause-right, clause-count}
use Rattle.cap_resolve_functions.specs.Narrow.{HasFew, IsNarrow, IsNarrowComparison, IsNarrowSlot, IsNarrowPart, IsNarrowGuard, IsNarrowItem, AreNarrowItems, IsNarrowAssertion, IsNarrowSide, IsNarrowClause, IsNarrowNew}
use Rattle.cap_resolve_functions.proofs.KnownForms.{term-steps-same}

-- ---- terms

not_wide : (o : Option (ℤ × ℤ)) → is_some o ≡ false → o ≡ None
not_wide None e = refl
not_wide (Some x) e = absurd (true≢false e)

pub term_narrow : (scope : NameScope) (few : HasFew scope) (s : Option Sort) (t : TermTree) → TermKnown scope t → term_findings scope (wanted_as s t) ≡ [] → IsNarrow scope t
term_narrow scope few s t a e = (
  few,
  sym (ap first_wide (term-steps-same scope (whole_numbers (term_words t)) t (words-leaves (IsKnown scope) (term_leaves t) a)))
      ∙ not_wide (first_wide (term_steps (with_names scope t) t))
      (not_found (is_wide scope t) (term_place t) (limit width)
      (nothing_behind (flat_map (λ u. products_findings scope (term_sort scope u) u) (term_brackets t)) _
      (nothing_behind (products_findings scope s t) _ e))),
)

pub comparison_narrow : (scope : NameScope) (few : HasFew scope) (c : ComparisonTree) → ComparisonKnown scope c → terms_findings scope (comparison_wanted scope c) ≡ [] → IsNarrowComparison scope c
comparison_narrow scope few c a e = (
  term_narrow scope few (term_sort scope c.left) c.left (each_front (IsKnown scope) (term_words c.left) (term_words c.right) a) (nothing_front (term_findings scope (wanted_as (term_sort scope c.left) c.left)) _ e),
  term_narrow scope few (term_sort scope c.left) c.right (each_behind (IsKnown scope) (term_words c.left) (term_words c.right) a)
      (nothing_front (term_findings scope (wanted_as (term_sort scope c.left) c.right)) [] (nothing_behind (term_findings scope (wanted_as (term_sort scope c.left) c.left)) _ e)),
)

pub comparisons_narrow : (scope : NameScope) (few : HasFew scope) (cs : List ComparisonTree) → AllByRecursion (IsKnown scope) (flat_map comparison_words cs) → terms_findings scope (flat_map (comparison_wanted scope) cs) ≡ [] → AllByRecursion (IsNarrowComparison scope) cs
comparisons_narrow scope few [] a e = tt
comparisons_narrow scope few (c ∷ cs) a e = (
  comparison_narrow scope few c (each_front (IsKnown scope) (comparison_words c) (flat_map comparison_words cs) a) (terms-front scope (comparison_wanted scope c) (flat_map (comparison_wanted scope) cs) e),
  comparisons_narrow scope few cs (each_behind (IsKnown scope) (comparison_words c) (flat_map comparison_words cs) a) (terms-behind scope (comparison_wanted scope c) (flat_map (comparison_wanted scope) cs) e),
)

slot_narrow : (scope : NameScope) (few : HasFew scope) (inside : Bool) (b : Sort) (s : Option Sort) (t : SlotTree) → AllByRecursion (OccursKnown scope) (slot_occurrences inside b t) → terms_findings scope (slot_wanted s t) ≡ [] → IsNarrowSlot scope t
slot_narrow scope few inside b s (any p) a e = tt
slot_narrow scope few inside b s (is t) a e = term_narrow scope few s t (each_mapped (OccursKnown scope) (occurs _ b) (term_words t) a) (nothing_front (term_findings scope (wanted_as s t)) [] e)

pub guard_narrow : (scope : NameScope) (few : HasFew scope) (inside : Bool) (k : Option NumberedRegion) (g : GuardTree) → AllByRecursion (OccursKnown scope) (atom_occurrences inside k g) → terms_findings scope (atom_wanted k g) ≡ [] → IsNarrowGuard scope g
guard_narrow scope few inside k (alone w) a e = few
guard_narrow scope few inside k (amount w p s q) a e = (
  few,
  slot_narrow scope few inside (amount_sort (declared_kind k (amount w p s q)) (amount w p s q)) _ s
      (each_front (OccursKnown scope) (slot_occurrences inside (amount_sort (declared_kind k (amount w p s q)) (amount w p s q)) s) [] a)
      (terms-front scope (slot_wanted _ s) [] e),
)
guard_narrow scope few inside k (count c p w q s r) a e = (
  few,
  slot_narrow scope few inside (amount_sort (declared_kind k (count c p w q s r)) (count c p w q s r)) _ s
      (each_front (OccursKnown scope) (slot_occurrences inside (amount_sort (declared_kind k (count c p w q s r)) (count c p w q s r)) s) [] a)
      (terms-front scope (slot_wanted _ s) [] e),
)

pub guards_narrow : (scope : NameScope) (few : HasFew scope) (inside : Bool) (k : Option NumberedRegion) (gs : List GuardTree) → AllByRecursion (OccursKnown scope) (flat_map (atom_occurrences inside k) gs) → terms_findings scope (flat_map (atom_wanted k) gs) ≡ [] → AllByRecursion (IsNarrowGuard scope) gs
guards_narrow scope few inside k [] a e = tt
guards_narrow scope few inside k (g ∷ gs) a e = (
  guard_narrow scope few inside k g (each_front (OccursKnown scope) (atom_occurrences inside k g) (flat_map (atom_occurrences inside k) gs) a) (terms-front scope (atom_wanted k g) (flat_map (atom_wanted k) gs) e),
  guards_narrow scope few inside k gs (each_behind (OccursKnown scope) (atom_occurrences inside k g) (flat_map (atom_occurrences inside k) gs) a) (terms-behind scope (atom_wanted k g) (flat_map (atom_wanted k) gs) e),
)

slots_narrow : (scope : NameScope) (few : HasFew scope) (inside : Bool) (args : List (Place × SlotTree)) → AllByRecursion (OccursKnown scope) (flat_map (λ (a : Place × SlotTree). slot_occurrences inside Int a.1) args) → terms_findings scope (flat_map (λ (a : Place × SlotTree). slot_wanted (Some Int) a.1) args) ≡ [] → AllByRecursion (IsNarrowPart scope) args
slots_narrow scope few inside [] k e = tt
slots_narrow scope few inside (a ∷ args) k e = (
  slot_narrow scope few inside Int (Some Int) a.1 (each_front (OccursKnown scope) (slot_occurrences inside Int a.1) _ k) (terms-front scope (slot_wanted (Some Int) a.1) _ e),
  slots_narrow scope few inside args (each_behind (OccursKnown scope) (slot_occurrences inside Int a.1) _ k) (terms-behind scope (slot_wanted (Some Int) a.1) _ e),
)

-- ---- items

mutual
  item_narrow : (rs : List RegionTree) (own : Option Word) (types : List TypedName) (scope : NameScope) (few : HasFew scope) (inside : Bool) (i : ItemTree) → Right rs own types scope (item_parts inside i) → IsNarrowItem scope i
  item_narrow rs own types scope few inside (holds q) a = tt
  item_narrow rs own types scope few inside (fails q) a = tt
  item_narrow rs own types scope few inside (fact k q r args c s e) a = (
    few,
    (
      slots_narrow scope few inside args (each_front (OccursKnown scope) (flat_map (λ (x : Place × SlotTree). slot_occurrences inside Int x.1) args) _ a.0.known.1) (terms-front scope (flat_map (λ (x : Place × SlotTree). slot_wanted (Some Int) x.1) args) _ a.0.wanted),
      slot_narrow scope few inside Int (Some Int) s (each_behind (OccursKnown scope) (flat_map (λ (x : Place × SlotTree). slot_occurrences inside Int x.1) args) _ a.0.known.1) (terms-behind scope (flat_map (λ (x : Place × SlotTree). slot_wanted (Some Int) x.1) args) _ a.0.wanted),
    ),
  )
  item_narrow rs own types scope few inside (guards r q g) a = guards_narrow scope few inside (type_of types r.text) (held_atoms g) a.0.known.1 a.0.wanted
  item_narrow rs own types scope few inside (cell t q s) a = (
    term_narrow scope few (Some Int) t (each_mapped (OccursKnown scope) (occurs false Int) (term_words t) (each_front (OccursKnown scope) (unbound (term_words t)) _ a.0.known)) (nothing_front (term_findings scope (wanted_as (Some Int) t)) _ a.0.wanted),
    slot_narrow scope few inside Int (Some Int) s (each_behind (OccursKnown scope) (unbound (term_words t)) _ a.0.known) (nothing_behind (term_findings scope (wanted_as (Some Int) t)) _ a.0.wanted),
  )
  item_narrow rs own types scope few inside (compare c) a = comparison_narrow scope few c (each_mapped (OccursKnown scope) (occurs false Int) (comparison_words c) a.0.known) a.0.wanted
  item_narrow rs own types scope few inside (choose c q x d y) a = (
    comparison_narrow scope few c (each_mapped (OccursKnown scope) (occurs false Int) (comparison_words c) a.0.known) a.0.wanted,
    (
      side_narrow rs own types scope few x (each_front (RightItem rs own types scope) (side_parts x) (side_parts y) a.1),
      side_narrow rs own types scope few y (each_behind (RightItem rs own types scope) (side_parts x) (side_parts y) a.1),
    ),
  )

  items_narrow : (rs : List RegionTree) (own : Option Word) (types : List TypedName) (scope : NameScope) (few : HasFew scope) (inside : Bool) (more : ItemTrees) → Right rs own types scope (items_parts inside more) → AreNarrowItems scope more
  items_narrow rs own types scope few inside no_item a = tt
  items_narrow rs own types scope few inside (and_item q i more) a = (
    item_narrow rs own types scope few inside i (each_front (RightItem rs own types scope) (item_parts inside i) (items_parts inside more) a),
    items_narrow rs own types scope few inside more (each_behind (RightItem rs own types scope) (item_parts inside i) (items_parts inside more) a),
  )

  pub assertion_narrow : (rs : List RegionTree) (own : Option Word) (types : List TypedName) (scope : NameScope) (few : HasFew scope) (inside : Bool) (a : AssertionTree) → Right rs own types scope (assertion_parts inside a) → IsNarrowAssertion scope a
  assertion_narrow rs own types scope few inside (assertion i more) a = (
    item_narrow rs own types scope few inside i (each_front (RightItem rs own types scope) (item_parts inside i) (items_parts inside more) a),
    items_narrow rs own types scope few inside more (each_behind (RightItem rs own types scope) (item_parts inside i) (items_parts inside more) a),
  )

  side_narrow : (rs : List RegionTree) (own : Option Word) (types : List TypedName) (scope : NameScope) (few : HasFew scope) (x : SideTree) → Right rs own types scope (side_parts x) → IsNarrowSide scope x
  side_narrow rs own types scope few (side q a e) r = assertion_narrow rs own types scope few true a r

-- ---- clauses

pub clause_narrow : (rs : List RegionTree) (types : List TypedName) (scope : NameScope) (few : HasFew scope) (c : Option ClauseTree) → Right rs None types scope (clause_parts c) → IsNarrowClause scope c
clause_narrow rs types scope few None a = tt
clause_narrow rs types scope few (Some c) a = assertion_narrow rs None types scope few false c.assertion a

-- new names are counted, so a clause has no more variables than are counted, but for one
few_with : (g : Context) (known : NameScope) (c : Option ClauseTree) → length known ≤ length g.counted + 1 → clause_findings g known c ≡ [] → HasFew (clause_scope g known c)
few_with g known c n e =
    let h = clause-count g known c e in
    let a : length (known ++ scope_of (clause_bound g known c)) ≡ length known + length (scope_of (clause_bound g known c)) = length-append known (scope_of (clause_bound g known c)) in
    let b : length (scope_of (clause_bound g known c)) ≡ length (clause_bound g known c) = length-map (clause_bound g known c) known_name in
    let d : length (occurrence_sorts (clause_bound g known c)) ≡ length (clause_bound g known c) = length-map (clause_bound g known c) occurrence_sort in
    omega arith

pub new_narrow : (g : Context) (known : NameScope) (c : Option ClauseTree) → length known ≤ length g.counted + 1 → clause_findings g known c ≡ [] → IsNarrowNew g known c
new_narrow g known c n e = clause_narrow g.regions (clause_types g c) (clause_scope g known c) (few_with g known c n e) c (clause-right g known c e)
