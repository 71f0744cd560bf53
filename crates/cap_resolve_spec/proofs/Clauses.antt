-- The assertions of a function and of a case fit a program, where nothing is found in them.
use Rattle.std.proofs.Common.{◌≡◌, ℕ, ◌+◌, ◌≤◌, Bool, true, false, not, ◌||◌, List, [], ◌∷◌, ◌++◌, map, filter, length, flat_map, Option, Some, None, refl, sym, ap, subst, ◌∙◌, append_assoc, length-append}
use Rattle.std.specs.List.{AllByRecursion}
use Rattle.std.proofs.lemmas.List.{length-map, replicate-append-replicate}
use Rattle.std.proofs.lemmas.List.Folds.{list_any-append}
use Rattle.cap_lin.specs.declared.row.Sort.TheVariants.{Int}
use Rattle.cap_prog.specs.Program.{PlainProgram}
use Rattle.cap_prog.specs.Scopes.{Scope, known}
use Rattle.cap_prog.specs.Scopes as sorted
use Rattle.cap_prog.specs.WellFormed.{ItemFits, most_variables}
use Rattle.cap_parse_tree.specs.declared.word.Word.{Word}
use Rattle.cap_parse_tree.specs.Tree.{ClauseTree, RegionTree, FunctionTree}
use Rattle.cap_resolve_spec.specs.Finding.{Finding, unknown_word}
use Rattle.cap_resolve_spec.specs.Parts.{PlacedItem, clause_parts, parameters}
use Rattle.cap_resolve_spec.specs.Names.{KnownName, NameScope, knows, has_name, known_sort, sorts_of, whole_numbers, hidden, word_place, past_variables}
use Rattle.cap_resolve_spec.specs.Terms.{terms_findings}
use Rattle.cap_resolve_spec.specs.Items.{TypedName, Occurrence, name_of, is_bound, occurrences, item_occurrences, scope_of, occurrence_word, occurrence_words, ret_findings, item_findings, item_wanted}
use Rattle.cap_resolve_spec.specs.Functions.{requires_types, requires_new, fixed_names, locals, requires_scope, result_entry, Context, new_findings, items_findings, requires_findings, clause_types, clause_new, clause_bound, clause_scope, clause_findings}
use Rattle.cap_resolve_spec.specs.Program.{clause_program, occurrence_sort, occurrence_sorts}
use Rattle.cap_resolve_spec.proofs.Every.{each_flat, each_weaker}
use Rattle.cap_resolve_spec.proofs.Nothing.{nothing_front, nothing_behind, nothing_flat, nothing_mapped, nothing_kept}
use Rattle.cap_resolve_spec.proofs.Known.{OccursKnown, occurrences-known, all-kept, knows-front, knows-behind, sorts-whole, sorts-hidden, sorts-names, sorts-last}
use Rattle.cap_resolve_spec.proofs.Terms.{terms-flat}
use Rattle.cap_resolve_spec.proofs.Items.{Right, ReadsTrees, ItemsAre, assertion-fit}
use Rattle.cap_resolve_spec.proofs.Counts.{within-limit}

-- each item is right
pub right-items : (rs : List RegionTree) (own : Option Word) (types : List TypedName) (scope : NameScope) (items : List PlacedItem) → AllByRecursion (OccursKnown scope) (occurrences types items) → flat_map (λ (i : PlacedItem). item_findings rs own types scope i.1) items ≡ [] → terms_findings scope (flat_map (λ (i : PlacedItem). item_wanted types scope i.1) items) ≡ [] → Right rs own types scope items
right-items rs own types scope items a b c = zipped items (each_flat (OccursKnown scope) (item_occurrences types) items a) (nothing_flat (λ (i : PlacedItem). item_findings rs own types scope i.1) items b) (terms-flat scope (λ (i : PlacedItem). item_wanted types scope i.1) items c)
  where
    zipped : (is' : List PlacedItem) → AllByRecursion (λ i. AllByRecursion (OccursKnown scope) (item_occurrences types i)) is' → AllByRecursion (λ (i : PlacedItem). item_findings rs own types scope i.1 ≡ []) is' → AllByRecursion (λ (i : PlacedItem). terms_findings scope (item_wanted types scope i.1) ≡ []) is' → Right rs own types scope is'
    zipped [] x y z = tt
    zipped (i ∷ more) x y z = (record { known = x.0; nothing = y.0; wanted = z.0 }, zipped more x.1 y.1 z.1)

pub clause-fit : (p : PlainProgram) (rs : List RegionTree) (types : List TypedName) (scope : NameScope) → ReadsTrees p rs types → (c : Option ClauseTree) → Right rs None types scope (clause_parts c) → ItemsAre (ItemFits p (sorts_of scope)) (clause_program rs types scope c)
clause-fit p rs types scope h None a = tt
clause-fit p rs types scope h (Some c) a = assertion-fit p rs None types scope h false c.assertion a

-- all new names are bound
pub all-bound : (os : List Occurrence) → new_findings os ≡ [] → filter is_bound os ≡ os
all-bound os e = all-kept is_bound os (nothing_kept (λ o. not o.bound) os (nothing_mapped occurrence_word (filter (λ o. not o.bound) os) (nothing_mapped unknown_word (occurrence_words (filter (λ o. not o.bound) os)) (nothing_front _ (ret_findings os) e))))

-- ---- `requires`

between : (a h b : NameScope) (x : List ℕ) → knows (a ++ b) x ≡ true → knows (a ++ (h ++ b)) x ≡ true
between a h b x e = by (knows a x) refl (sym (list_any-append (has_name x) a b) ∙ e)
  where
    by : (c : Bool) → knows a x ≡ c → (c || knows b x) ≡ true → knows (a ++ (h ++ b)) x ≡ true
    by true d f = knows-front a (h ++ b) x d
    by false d f = knows-behind a (h ++ b) x (knows-behind h b x f)

pub requires-right : (rs : List RegionTree) (f : FunctionTree) → requires_findings rs f ≡ [] → Right rs None (requires_types rs f) (requires_scope rs f) (clause_parts f.precondition)
requires-right rs f e =
    right-items rs None (requires_types rs f) (requires_scope rs f) (clause_parts f.precondition)
    (each_weaker (OccursKnown (whole_numbers (parameters f) ++ scope_of (requires_new rs f))) (OccursKnown (requires_scope rs f))
    (λ o x. between (whole_numbers (parameters f)) (hidden (locals rs f)) (scope_of (fixed_names rs f)) (name_of o)
    (subst (λ os. knows (whole_numbers (parameters f) ++ scope_of os) (name_of o) ≡ true) (sym (all-bound (requires_new rs f) (nothing_front (new_findings (requires_new rs f)) _ e))) x))
    (occurrences (requires_types rs f) (clause_parts f.precondition))
    (occurrences-known (whole_numbers (parameters f)) (occurrences (requires_types rs f) (clause_parts f.precondition))))
    (nothing_front (flat_map (λ (i : PlacedItem). item_findings rs None (requires_types rs f) (requires_scope rs f) i.1) (clause_parts f.precondition)) _ (nothing_behind (new_findings (requires_new rs f)) _ e))
    (nothing_behind (flat_map (λ (i : PlacedItem). item_findings rs None (requires_types rs f) (requires_scope rs f) i.1) (clause_parts f.precondition)) _ (nothing_behind (new_findings (requires_new rs f)) _ e))

-- ---- `ensures` and invariants

pub clause-right : (g : Context) (known : NameScope) (c : Option ClauseTree) → clause_findings g known c ≡ [] → Right g.regions None (clause_types g c) (clause_scope g known c) (clause_parts c)
clause-right g known c e =
    right-items g.regions None (clause_types g c) (clause_scope g known c) (clause_parts c)
    (subst (λ os. AllByRecursion (OccursKnown (known ++ scope_of os)) (occurrences (clause_types g c) (clause_parts c))) (sym (all-bound (clause_new g known c) (nothing_front (new_findings (clause_new g known c)) _ e)))
    (occurrences-known known (occurrences (clause_types g c) (clause_parts c))))
    (nothing_front items _ rest)
    (nothing_behind items _ rest)
  where
    items : List Finding
    items = flat_map (λ (i : PlacedItem). item_findings g.regions None (clause_types g c) (clause_scope g known c) i.1) (clause_parts c)

    rest : items_findings g.regions (clause_types g c) (clause_scope g known c) (clause_parts c) ≡ []
    rest = nothing_behind (past_variables (g.counted ++ map word_place (occurrence_words (clause_bound g known c)))) _ (nothing_behind (new_findings (clause_new g known c)) _ e)

pub clause-count : (g : Context) (known : NameScope) (c : Option ClauseTree) → clause_findings g known c ≡ [] → length g.counted + length (occurrence_sorts (clause_bound g known c)) ≤ most_variables
clause-count g known c e =
    let h = within-limit (g.counted ++ map word_place (occurrence_words (clause_bound g known c))) (nothing_front (past_variables (g.counted ++ map word_place (occurrence_words (clause_bound g known c)))) _ (nothing_behind (new_findings (clause_new g known c)) _ e)) in
    let n : length (g.counted ++ map word_place (occurrence_words (clause_bound g known c))) ≡ length g.counted + length (occurrence_sorts (clause_bound g known c)) =
    length-append g.counted (map word_place (occurrence_words (clause_bound g known c))) ∙ ap (λ k. length g.counted + k) (length-map (occurrence_words (clause_bound g known c)) word_place ∙ (length-map (clause_bound g known c) occurrence_word ∙ sym (length-map (clause_bound g known c) occurrence_sort))) in
    subst (λ k. k ≤ most_variables) n h

-- ---- the sorts of the scopes of a function

pub requires-sorts : (ps ls : List Word) (os : List Occurrence) → sorts_of (whole_numbers ps ++ (hidden ls ++ scope_of os)) ≡ sorted.whole_numbers (length ps) ++ (sorted.hidden (length ls) ++ known (occurrence_sorts os))
requires-sorts ps ls os =
    sorts-whole ps (hidden ls ++ scope_of os)
    ∙ ap (λ ss. sorted.whole_numbers (length ps) ++ ss) (sorts-hidden ls (scope_of os) ∙ ap (λ ss. sorted.hidden (length ls) ++ ss) (sorts-last os))

moved : {A : Type 0} (a b c : List A) (d : A) (e : List A) → (a ++ (b ++ (c ++ (d ∷ [])))) ++ e ≡ a ++ (b ++ (c ++ (d ∷ e)))
moved a b c d e = simp append_assoc

last-sorts : (os vs : List Occurrence) (k : Option KnownName) → sorts_of (scope_of os ++ (k ∷ scope_of vs)) ≡ known (occurrence_sorts os) ++ (known_sort k ∷ known (occurrence_sorts vs))
last-sorts os vs k = sorts-names os (k ∷ scope_of vs) ∙ ap (λ ss. known (occurrence_sorts os) ++ (known_sort k ∷ ss)) (sorts-last vs)

pub result-sorts : (ps ls : List Word) (os vs : List Occurrence) → sorts_of ((whole_numbers ps ++ (hidden ls ++ (scope_of os ++ (result_entry ∷ [])))) ++ scope_of vs) ≡ sorted.whole_numbers (length ps) ++ (sorted.hidden (length ls) ++ (known (occurrence_sorts os) ++ (Some Int ∷ known (occurrence_sorts vs))))
result-sorts ps ls os vs =
    ap sorts_of (moved (whole_numbers ps) (hidden ls) (scope_of os) result_entry (scope_of vs))
    ∙ (sorts-whole ps (hidden ls ++ (scope_of os ++ (result_entry ∷ scope_of vs)))
    ∙ ap (λ ss. sorted.whole_numbers (length ps) ++ ss) (sorts-hidden ls (scope_of os ++ (result_entry ∷ scope_of vs))
    ∙ ap (λ ss. sorted.hidden (length ls) ++ ss) (last-sorts os vs result_entry)))

joined-sorts : (n m : ℕ) (b : Scope) → sorted.whole_numbers n ++ (sorted.whole_numbers m ++ b) ≡ sorted.whole_numbers (n + m) ++ b
joined-sorts n m b = sym (append_assoc (sorted.whole_numbers n) (sorted.whole_numbers m) b) ∙ ap (λ ss. ss ++ b) (replicate-append-replicate n m (Some Int))

pub loop-sorts : (ps ls : List Word) (os vs : List Occurrence) → sorts_of ((whole_numbers ps ++ (whole_numbers ls ++ (scope_of os ++ (None ∷ [])))) ++ scope_of vs) ≡ sorted.whole_numbers (length ps + length ls) ++ (known (occurrence_sorts os) ++ (None ∷ known (occurrence_sorts vs)))
loop-sorts ps ls os vs =
    ap sorts_of (moved (whole_numbers ps) (whole_numbers ls) (scope_of os) None (scope_of vs))
    ∙ (sorts-whole ps (whole_numbers ls ++ (scope_of os ++ (None ∷ scope_of vs)))
    ∙ (ap (λ ss. sorted.whole_numbers (length ps) ++ ss) (sorts-whole ls (scope_of os ++ (None ∷ scope_of vs))
    ∙ ap (λ ss. sorted.whole_numbers (length ls) ++ ss) (last-sorts os vs None))
    ∙ joined-sorts (length ps) (length ls) (known (occurrence_sorts os) ++ (None ∷ known (occurrence_sorts vs)))))
