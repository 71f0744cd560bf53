-- A region type in which nothing is found fits a program.
use Rattle.std.proofs.Common.{◌≡◌, ℕ, ◌+◌, ◌≤◌, false, not, nat_eq, find, List, [], ◌∷◌, ◌++◌, map, filter, length, flat_map, Option, Some, None, option_map, refl, sym, ap, subst, ◌∙◌, arith, length-append}
use Rattle.std.specs.List.{AllByRecursion, IsDistinct}
use Rattle.std.proofs.lemmas.List.{length-map}
use Rattle.cap_lin.specs.declared.row.Sort.TheVariants.{Int}
use Rattle.cap_prog.specs.declared.assertion.Asked.{Asked}
use Rattle.cap_prog.specs.Program.{Items, PlainProgram}
use Rattle.cap_prog.specs.Parts.{all_items, sides, items_length}
use Rattle.cap_prog.specs.Scopes.{known, region_scope, TermFits, CompFits}
use Rattle.cap_prog.specs.Scopes as sorted
use Rattle.cap_prog.specs.WellFormed.{most_members, most_variables, most_atoms, most_params, AtomFits, ItemFits, CaseFits, ActionFits, RegionFits}
use Rattle.cap_parse_tree.specs.declared.word.Word.{Word}
use Rattle.cap_parse_tree.specs.Tree.{parts_of, ComparisonTree, GuardTree, DeclaredTree, unique, divisible, counting, indexed, grouped, DeclaredTrees, no_declared, and_declared, JointTree, joint, JointTrees, no_joint, or_joint, AlgebraTree, algebra, CaseTree, ActionTree, RegionTree}
use Rattle.cap_resolve_spec.specs.Finding.{unknown_word, twice_word, guard_count, parameter_count}
use Rattle.cap_resolve_spec.specs.Parts.{PlacedItem, term_words, comparison_words, when_comparisons, placed_items, atom_word, declared_guards, declareds_guards, joint_guards, joints_guards, algebra_guards}
use Rattle.cap_resolve_spec.specs.Names.{NameScope, sorts_of, word_text, word_place, repeated, past_variables, past, parameters_findings}
use Rattle.cap_resolve_spec.specs.Linear.{term_form}
use Rattle.cap_resolve_spec.specs.Terms.{wanted_as, term_findings, terms_findings, comparison_wanted}
use Rattle.cap_resolve_spec.specs.Items.{NumberedRegion, is_guard, guard_words, guard_kind, region_guards, Occurrence, occurs, unbound, atom_occurrences, scope_of, occurrence_word, occurrence_words, ret_findings, item_wanted, atom_wanted, atom_findings, guard_findings, atoms_twice}
use Rattle.cap_resolve_spec.specs.Regions.{own_parameters, own_name, parameters_scope, case_types, case_occurrences, case_new, is_known_in, case_known, case_unknown, case_scope, case_wanted, case_items_findings, case_findings, action_atoms, action_occurrences, action_new, is_whole_in, action_known, action_unknown, action_indices_findings, action_scope, action_wanted, action_findings, guard_names, region_type_findings}
use Rattle.cap_resolve_spec.specs.Program.{comparison_program, guard_number, action_guard, assertion_program, occurrence_sort, occurrence_sorts, case_program, action_program, region_program}
use Rattle.cap_resolve_spec.proofs.Every.{each_append, each_front, each_behind, each_mapped, each_flat, each_weaker}
use Rattle.cap_resolve_spec.proofs.Nothing.{cons_not_nil, nothing_front, nothing_behind, nothing_flat, nothing_mapped, nothing_kept, not_past}
use Rattle.cap_resolve_spec.proofs.Sorts.{IsKnown}
use Rattle.cap_resolve_spec.proofs.Known.{OccursKnown, occurrences-known, all-kept, sorts-whole, sorts-last}
use Rattle.cap_resolve_spec.proofs.Algebras.{algebra-count}
use Rattle.cap_resolve_spec.proofs.Terms.{term-fits, comparison-fits, terms-front, terms-behind, terms-flat}
use Rattle.cap_resolve_spec.proofs.Items.{HasRegions, IsNumbered, told-numbered, ItemsAre, assertion-fit, atom-fits}
use Rattle.cap_resolve_spec.proofs.Clauses.{right-items}
use Rattle.cap_resolve_spec.proofs.Counts.{IsDeclared, within-limit, distinct}

-- the lists of items have no more members than a text has tokens
pub record ItemsShort (list : Items) : Type 0 where
  pub length : items_length list ≤ most_members
  pub sides : AllByRecursion (λ i. AllByRecursion (λ side. items_length side ≤ most_members) (sides i)) (all_items list)

pub unbound-known : (scope : NameScope) (ws : List Word) → AllByRecursion (OccursKnown scope) (unbound ws) → AllByRecursion (IsKnown scope) ws
unbound-known scope ws a = each_mapped (OccursKnown scope) (occurs false Int) ws a

pub comparisons-fit : (scope : NameScope) (cs : List ComparisonTree) → AllByRecursion (IsKnown scope) (flat_map comparison_words cs) → terms_findings scope (flat_map (comparison_wanted scope) cs) ≡ [] → AllByRecursion (CompFits (sorts_of scope)) (map (comparison_program scope) cs)
comparisons-fit scope [] a e = tt
comparisons-fit scope (c ∷ cs) a e = (
  comparison-fits scope c (each_front (IsKnown scope) (comparison_words c) (flat_map comparison_words cs) a) (terms-front scope (comparison_wanted scope c) (flat_map (comparison_wanted scope) cs) e),
  comparisons-fit scope cs (each_behind (IsKnown scope) (comparison_words c) (flat_map comparison_words cs) a) (terms-behind scope (comparison_wanted scope c) (flat_map (comparison_wanted scope) cs) e),
)

-- ---- the names of a case or an action

names-sorts : (k : NumberedRegion) (os : List Occurrence) → sorts_of (parameters_scope k ++ scope_of os) ≡ sorted.whole_numbers (length (own_parameters k)) ++ known (occurrence_sorts os)
names-sorts k os = sorts-whole (own_parameters k) (scope_of os) ∙ ap (λ ss. sorted.whole_numbers (length (own_parameters k)) ++ ss) (sorts-last os)

pub names-count : (k : NumberedRegion) (os : List Occurrence) → past_variables (map word_place (own_parameters k ++ occurrence_words os)) ≡ [] → length (own_parameters k) + length (occurrence_sorts os) ≤ most_variables
names-count k os e =
    let h = within-limit (map word_place (own_parameters k ++ occurrence_words os)) e in
    let n : length (map word_place (own_parameters k ++ occurrence_words os)) ≡ length (own_parameters k) + length (occurrence_sorts os) =
    length-map (own_parameters k ++ occurrence_words os) word_place ∙ (length-append (own_parameters k) (occurrence_words os) ∙ ap (λ m. length (own_parameters k) + m) (length-map os occurrence_word ∙ sym (length-map os occurrence_sort))) in
    subst (λ m. m ≤ most_variables) n h

none-unknown : (os : List Occurrence) → map unknown_word (occurrence_words os) ≡ [] → os ≡ []
none-unknown os e = nothing_mapped occurrence_word os (nothing_mapped unknown_word (occurrence_words os) e)

-- ---- a case

pub case-fits : (p : PlainProgram) (rs : List RegionTree) → HasRegions p rs → (k : NumberedRegion) → IsNumbered rs k → (c : CaseTree) → case_findings rs k c ≡ [] → ItemsShort (assertion_program rs (case_types rs k c) (case_scope rs k c) c.assertion) → length (when_comparisons c.when) ≤ most_members → CaseFits p (region_program rs k) (case_program rs k c)
case-fits p rs h k n c e short few = record {
  variables = names-count k (case_known rs k c) (nothing_front (past_variables (map word_place (own_parameters k ++ occurrence_words (case_known rs k c)))) _ rest2);
  state = in-scope (λ sc. TermFits sc Int (term_form (case_scope rs k c) c.state)) (term-fits (case_scope rs k c) Int c.state (each_front (IsKnown (case_scope rs k c)) (term_words c.state) _ words) (nothing_front (term_findings (case_scope rs k c) (wanted_as (Some Int) c.state)) _ terms));
  when = in-scope (λ sc. AllByRecursion (CompFits sc) (map (comparison_program (case_scope rs k c)) (when_comparisons c.when))) (comparisons-fit (case_scope rs k c) (when_comparisons c.when) (each_behind (IsKnown (case_scope rs k c)) (term_words c.state) _ words) (terms-front (case_scope rs k c) (flat_map (comparison_wanted (case_scope rs k c)) (when_comparisons c.when)) _ terms2));
  comparisons = subst (λ m. m ≤ most_members) (sym (length-map (when_comparisons c.when) (comparison_program (case_scope rs k c)))) few;
  items = record {
    items = in-scope (λ sc. ItemsAre (ItemFits p sc) (assertion_program rs (case_types rs k c) (case_scope rs k c) c.assertion))
        (assertion-fit p rs (Some (own_name k)) (case_types rs k c) (case_scope rs k c) (record { declared = h; told = (n, told-numbered rs (placed_items c.assertion)) }) false c.assertion
        (right-items rs (Some (own_name k)) (case_types rs k c) (case_scope rs k c) (placed_items c.assertion)
        (each_behind (OccursKnown (case_scope rs k c)) (unbound (term_words c.state ++ flat_map comparison_words (when_comparisons c.when))) _ all-known)
        (nothing_front (case_items_findings rs k c) _ rest3)
        (terms-behind (case_scope rs k c) (flat_map (comparison_wanted (case_scope rs k c)) (when_comparisons c.when)) _ terms2)));
    length = short.length;
    sides = short.sides;
  };
}
  where
    rest1 : ret_findings (case_new rs k c) ++ (past_variables (map word_place (own_parameters k ++ occurrence_words (case_known rs k c))) ++ (case_items_findings rs k c ++ terms_findings (case_scope rs k c) (case_wanted rs k c))) ≡ []
    rest1 = nothing_behind (map unknown_word (occurrence_words (case_unknown rs k c))) _ e

    rest2 : past_variables (map word_place (own_parameters k ++ occurrence_words (case_known rs k c))) ++ (case_items_findings rs k c ++ terms_findings (case_scope rs k c) (case_wanted rs k c)) ≡ []
    rest2 = nothing_behind (ret_findings (case_new rs k c)) _ rest1

    rest3 : case_items_findings rs k c ++ terms_findings (case_scope rs k c) (case_wanted rs k c) ≡ []
    rest3 = nothing_behind (past_variables (map word_place (own_parameters k ++ occurrence_words (case_known rs k c)))) _ rest2

    terms : terms_findings (case_scope rs k c) (case_wanted rs k c) ≡ []
    terms = nothing_behind (case_items_findings rs k c) _ rest3

    terms2 : terms_findings (case_scope rs k c) (flat_map (comparison_wanted (case_scope rs k c)) (when_comparisons c.when) ++ flat_map (λ (i : PlacedItem). item_wanted (case_types rs k c) (case_scope rs k c) i.1) (placed_items c.assertion)) ≡ []
    terms2 = nothing_behind (term_findings (case_scope rs k c) (wanted_as (Some Int) c.state)) _ terms

    kept : case_known rs k c ≡ case_new rs k c
    kept = all-kept (is_known_in rs k c) (case_new rs k c) (nothing_kept (λ o. not (is_known_in rs k c o)) (case_new rs k c) (nothing_front (filter (λ o. not (is_known_in rs k c o)) (case_new rs k c)) _ (none-unknown (case_unknown rs k c) (nothing_front (map unknown_word (occurrence_words (case_unknown rs k c))) _ e))))

    all-known : AllByRecursion (OccursKnown (case_scope rs k c)) (case_occurrences rs k c)
    all-known = subst (λ os. AllByRecursion (OccursKnown (parameters_scope k ++ scope_of os)) (case_occurrences rs k c)) (sym kept) (occurrences-known (parameters_scope k) (case_occurrences rs k c))

    words : AllByRecursion (IsKnown (case_scope rs k c)) (term_words c.state ++ flat_map comparison_words (when_comparisons c.when))
    words = unbound-known (case_scope rs k c) (term_words c.state ++ flat_map comparison_words (when_comparisons c.when)) (each_front (OccursKnown (case_scope rs k c)) (unbound (term_words c.state ++ flat_map comparison_words (when_comparisons c.when))) _ all-known)

    in-scope : (P : sorted.Scope → Type 0) → P (sorts_of (case_scope rs k c)) → P (region_scope (region_program rs k) (case_program rs k c).names)
    in-scope P x = subst P (names-sorts k (case_known rs k c)) x

-- ---- an action

declared-atom : (k : NumberedRegion) (g : GuardTree) → atom_findings k g ≡ [] → IsDeclared k g
declared-atom k g e = by (find (is_guard (atom_word g).text) (region_guards k.region)) refl
  where
    by : (o : Option DeclaredTree) → find (is_guard (atom_word g).text) (region_guards k.region) ≡ o → IsDeclared k g
    by None h = cons_not_nil (sym (ap (λ x. guard_findings (option_map guard_kind x) g) h) ∙ e)
    by (Some d) h = (d, h)

first-parts : (k : NumberedRegion) (scope : NameScope) (gs : List GuardTree) → map (λ (g : ℕ × Asked). g.0) (map (action_guard k scope) gs) ≡ map (guard_number k) gs
first-parts k scope [] = refl
first-parts k scope (g ∷ gs) = ap (λ ns. guard_number k g ∷ ns) (first-parts k scope gs)

guards-fit : (rs : List RegionTree) (scope : NameScope) (k : NumberedRegion) (gs : List GuardTree) → AllByRecursion (λ g. atom_findings k g ≡ []) gs → AllByRecursion (λ g. AllByRecursion (OccursKnown scope) (atom_occurrences false (Some k) g)) gs → AllByRecursion (λ g. terms_findings scope (atom_wanted (Some k) g) ≡ []) gs → AllByRecursion (λ (g : ℕ × Asked). AtomFits (sorts_of scope) (region_program rs k) g.0 g.1) (map (action_guard k scope) gs)
guards-fit rs scope k [] a b c = tt
guards-fit rs scope k (g ∷ gs) a b c = (atom-fits rs scope false k g a.0 b.0 c.0, guards-fit rs scope k gs a.1 b.1 c.1)

pub action-fits : (rs : List RegionTree) (k : NumberedRegion) (a : ActionTree) → action_findings k a ≡ [] → length (parts_of a.guards) ≤ most_members → length (when_comparisons a.when) ≤ most_members → ActionFits (region_program rs k) (action_program k a)
action-fits rs k a e some few = record {
  variables = names-count k (action_known k a) (nothing_front (past_variables (map word_place (own_parameters k ++ occurrence_words (action_known k a)))) _ rest2);
  guards = in-scope (λ sc. AllByRecursion (λ (g : ℕ × Asked). AtomFits sc (region_program rs k) g.0 g.1) (map (action_guard k (action_scope k a)) (parts_of a.guards)))
      (guards-fit rs (action_scope k a) k (parts_of a.guards) found
      (each_flat (OccursKnown (action_scope k a)) (atom_occurrences false (Some k)) (parts_of a.guards) (each_front (OccursKnown (action_scope k a)) (action_atoms k a) _ all-known))
      (terms-flat (action_scope k a) (atom_wanted (Some k)) (parts_of a.guards) (terms-front (action_scope k a) (flat_map (atom_wanted (Some k)) (parts_of a.guards)) _ terms)));
  distinct = subst (IsDistinct nat_eq) (sym (first-parts k (action_scope k a) (parts_of a.guards))) (distinct k [] (parts_of a.guards) (nothing_mapped twice_word (repeated (map atom_word (parts_of a.guards))) (nothing_front (atoms_twice (parts_of a.guards)) _ rest4)) (each_weaker (λ g. atom_findings k g ≡ []) (IsDeclared k) (λ g x. declared-atom k g x) (parts_of a.guards) found));
  atoms = subst (λ m. m ≤ most_members) (sym (length-map (parts_of a.guards) (action_guard k (action_scope k a)))) some;
  source = in-scope (λ sc. TermFits sc Int (term_form (action_scope k a) a.source)) (term-fits (action_scope k a) Int a.source (each_front (IsKnown (action_scope k a)) (term_words a.source) _ words) (nothing_front (term_findings (action_scope k a) (wanted_as (Some Int) a.source)) _ terms2));
  target = in-scope (λ sc. TermFits sc Int (term_form (action_scope k a) a.target)) (term-fits (action_scope k a) Int a.target (each_front (IsKnown (action_scope k a)) (term_words a.target) _ words2) (nothing_front (term_findings (action_scope k a) (wanted_as (Some Int) a.target)) _ (nothing_behind (term_findings (action_scope k a) (wanted_as (Some Int) a.source)) _ terms2)));
  when = in-scope (λ sc. AllByRecursion (CompFits sc) (map (comparison_program (action_scope k a)) (when_comparisons a.when))) (comparisons-fit (action_scope k a) (when_comparisons a.when) (each_behind (IsKnown (action_scope k a)) (term_words a.target) _ words2) (nothing_behind (term_findings (action_scope k a) (wanted_as (Some Int) a.target)) _ (nothing_behind (term_findings (action_scope k a) (wanted_as (Some Int) a.source)) _ terms2)));
  comparisons = subst (λ m. m ≤ most_members) (sym (length-map (when_comparisons a.when) (comparison_program (action_scope k a)))) few;
}
  where
    rest1 : map unknown_word (occurrence_words (action_unknown k a)) ++ (ret_findings (action_new k a) ++ (past_variables (map word_place (own_parameters k ++ occurrence_words (action_known k a))) ++ (flat_map (atom_findings k) (parts_of a.guards) ++ (atoms_twice (parts_of a.guards) ++ terms_findings (action_scope k a) (action_wanted k a))))) ≡ []
    rest1 = nothing_behind (action_indices_findings k a) _ e

    rest2 : past_variables (map word_place (own_parameters k ++ occurrence_words (action_known k a))) ++ (flat_map (atom_findings k) (parts_of a.guards) ++ (atoms_twice (parts_of a.guards) ++ terms_findings (action_scope k a) (action_wanted k a))) ≡ []
    rest2 = nothing_behind (ret_findings (action_new k a)) _ (nothing_behind (map unknown_word (occurrence_words (action_unknown k a))) _ rest1)

    rest3 : flat_map (atom_findings k) (parts_of a.guards) ++ (atoms_twice (parts_of a.guards) ++ terms_findings (action_scope k a) (action_wanted k a)) ≡ []
    rest3 = nothing_behind (past_variables (map word_place (own_parameters k ++ occurrence_words (action_known k a)))) _ rest2

    found : AllByRecursion (λ g. atom_findings k g ≡ []) (parts_of a.guards)
    found = nothing_flat (atom_findings k) (parts_of a.guards) (nothing_front (flat_map (atom_findings k) (parts_of a.guards)) _ rest3)

    rest4 : atoms_twice (parts_of a.guards) ++ terms_findings (action_scope k a) (action_wanted k a) ≡ []
    rest4 = nothing_behind (flat_map (atom_findings k) (parts_of a.guards)) _ rest3

    terms : terms_findings (action_scope k a) (action_wanted k a) ≡ []
    terms = nothing_behind (atoms_twice (parts_of a.guards)) _ rest4

    terms2 : terms_findings (action_scope k a) (wanted_as (Some Int) a.source ∷ wanted_as (Some Int) a.target ∷ flat_map (comparison_wanted (action_scope k a)) (when_comparisons a.when)) ≡ []
    terms2 = terms-behind (action_scope k a) (flat_map (atom_wanted (Some k)) (parts_of a.guards)) _ terms

    kept : action_known k a ≡ action_new k a
    kept = all-kept (is_whole_in k a) (action_new k a) (nothing_kept (λ o. not (is_whole_in k a o)) (action_new k a) (none-unknown (action_unknown k a) (nothing_front (map unknown_word (occurrence_words (action_unknown k a))) _ rest1)))

    all-known : AllByRecursion (OccursKnown (action_scope k a)) (action_occurrences k a)
    all-known = subst (λ os. AllByRecursion (OccursKnown (parameters_scope k ++ scope_of os)) (action_occurrences k a)) (sym kept) (occurrences-known (parameters_scope k) (action_occurrences k a))

    words : AllByRecursion (IsKnown (action_scope k a)) (term_words a.source ++ (term_words a.target ++ flat_map comparison_words (when_comparisons a.when)))
    words = unbound-known (action_scope k a) (term_words a.source ++ (term_words a.target ++ flat_map comparison_words (when_comparisons a.when))) (each_behind (OccursKnown (action_scope k a)) (action_atoms k a) _ all-known)

    words2 : AllByRecursion (IsKnown (action_scope k a)) (term_words a.target ++ flat_map comparison_words (when_comparisons a.when))
    words2 = each_behind (IsKnown (action_scope k a)) (term_words a.source) _ words

    in-scope : (P : sorted.Scope → Type 0) → P (sorts_of (action_scope k a)) → P (region_scope (region_program rs k) (action_program k a).names)
    in-scope P x = subst P (names-sorts k (action_known k a)) x

-- ---- a region type

-- each guard that an algebra declares has one name
abbrev OneWord : DeclaredTree → Type 0
OneWord d = length (guard_words d) ≡ 1

mutual
  declared-words : (d : DeclaredTree) → AllByRecursion OneWord (declared_guards d)
  declared-words (unique w) = (refl, tt)
  declared-words (divisible p w) = (refl, tt)
  declared-words (counting p w q) = (refl, tt)
  declared-words (indexed p w q) = (refl, tt)
  declared-words (grouped p a q) = algebra-words a

  declareds-words : (ds : DeclaredTrees) → AllByRecursion OneWord (declareds_guards ds)
  declareds-words no_declared = tt
  declareds-words (and_declared p d ds) = each_append OneWord (declared_guards d) (declareds_guards ds) (declared-words d) (declareds-words ds)

  joint-words : (j : JointTree) → AllByRecursion OneWord (joint_guards j)
  joint-words (joint d ds) = each_append OneWord (declared_guards d) (declareds_guards ds) (declared-words d) (declareds-words ds)

  joints-words : (js : JointTrees) → AllByRecursion OneWord (joints_guards js)
  joints-words no_joint = tt
  joints-words (or_joint p j js) = each_append OneWord (joint_guards j) (joints_guards js) (joint-words j) (joints-words js)

  algebra-words : (a : AlgebraTree) → AllByRecursion OneWord (algebra_guards a)
  algebra-words (algebra j js) = each_append OneWord (joint_guards j) (joints_guards js) (joint-words j) (joints-words js)

words-count : (ds : List DeclaredTree) → AllByRecursion OneWord ds → length (flat_map guard_words ds) ≡ length ds
words-count [] a = refl
words-count (d ∷ ds) a =
    let h : length (flat_map guard_words ds) ≡ length ds = words-count ds a.1 in
    length-append (guard_words d) (flat_map guard_words ds) ∙ (ap (λ m. m + length (flat_map guard_words ds)) a.0 ∙ omega arith)

-- of each case and action, how many parts it has
pub record CaseShort (rs : List RegionTree) (k : NumberedRegion) (c : CaseTree) : Type 0 where
  pub items : ItemsShort (assertion_program rs (case_types rs k c) (case_scope rs k c) c.assertion)
  pub comparisons : length (when_comparisons c.when) ≤ most_members

pub record ActionShort (a : ActionTree) : Type 0 where
  pub guards : length (parts_of a.guards) ≤ most_members
  pub comparisons : length (when_comparisons a.when) ≤ most_members

pub record RegionShort (rs : List RegionTree) (k : NumberedRegion) : Type 0 where
  pub cases : AllByRecursion (CaseShort rs k) k.region.cases.parts
  pub case_count : length k.region.cases.parts ≤ most_members
  pub actions : AllByRecursion ActionShort k.region.actions.parts
  pub action_count : length k.region.actions.parts ≤ most_members

cases-fit : (p : PlainProgram) (rs : List RegionTree) → HasRegions p rs → (k : NumberedRegion) → IsNumbered rs k → (cs : List CaseTree) → AllByRecursion (λ c. case_findings rs k c ≡ []) cs → AllByRecursion (CaseShort rs k) cs → AllByRecursion (CaseFits p (region_program rs k)) (map (case_program rs k) cs)
cases-fit p rs h k n [] a b = tt
cases-fit p rs h k n (c ∷ cs) a b = (case-fits p rs h k n c a.0 b.0.items b.0.comparisons, cases-fit p rs h k n cs a.1 b.1)

actions-fit : (rs : List RegionTree) (k : NumberedRegion) (cs : List ActionTree) → AllByRecursion (λ c. action_findings k c ≡ []) cs → AllByRecursion ActionShort cs → AllByRecursion (ActionFits (region_program rs k)) (map (action_program k) cs)
actions-fit rs k [] a b = tt
actions-fit rs k (c ∷ cs) a b = (action-fits rs k c a.0 b.0.guards b.0.comparisons, actions-fit rs k cs a.1 b.1)

pub parameters-count : (ws : List Word) → parameters_findings ws ≡ [] → length ws ≤ most_params
parameters-count ws e = not_past most_params parameter_count ws (nothing_behind (map twice_word _) (past most_params parameter_count ws) e)

pub region-fits : (p : PlainProgram) (rs : List RegionTree) → HasRegions p rs → (k : NumberedRegion) → IsNumbered rs k → region_type_findings rs k ≡ [] → RegionShort rs k → RegionFits p (region_program rs k)
region-fits p rs h k n e short = record {
  itself = omega arith;
  params = parameters-count (own_parameters k) (nothing_front (parameters_findings (own_parameters k)) _ e);
  named = length-map (guard_names k.region) word_text ∙ (words ∙ sym (algebra-count k.region.algebra));
  atoms = subst (λ m. m ≤ most_atoms) (words ∙ sym (algebra-count k.region.algebra)) (not_past most_atoms guard_count (guard_names k.region) (nothing_front (past most_atoms guard_count (guard_names k.region)) _ rest2));
  cases = cases-fit p rs h k n k.region.cases.parts (nothing_flat (case_findings rs k) k.region.cases.parts (nothing_front (flat_map (case_findings rs k) k.region.cases.parts) _ rest3)) short.cases;
  case_count = subst (λ m. m ≤ most_members) (sym (length-map k.region.cases.parts (case_program rs k))) short.case_count;
  actions = actions-fit rs k k.region.actions.parts (nothing_flat (action_findings k) k.region.actions.parts (nothing_behind (flat_map (case_findings rs k) k.region.cases.parts) _ rest3)) short.actions;
  action_count = subst (λ m. m ≤ most_members) (sym (length-map k.region.actions.parts (action_program k))) short.action_count;
}
  where
    words : length (guard_names k.region) ≡ length (region_guards k.region)
    words = words-count (region_guards k.region) (algebra-words k.region.algebra)

    rest2 : past most_atoms guard_count (guard_names k.region) ++ (flat_map (case_findings rs k) k.region.cases.parts ++ flat_map (action_findings k) k.region.actions.parts) ≡ []
    rest2 = nothing_behind (map twice_word (repeated (guard_names k.region))) _ (nothing_behind (parameters_findings (own_parameters k)) _ e)

    rest3 : flat_map (case_findings rs k) k.region.cases.parts ++ flat_map (action_findings k) k.region.actions.parts ≡ []
    rest3 = nothing_behind (past most_atoms guard_count (guard_names k.region)) _ rest2
