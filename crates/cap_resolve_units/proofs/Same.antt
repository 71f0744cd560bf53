-- What is noted part by part is what is wrong.
use Rattle.std.proofs.Common.{◌≡◌, Bool, true, false, not, cond, ◌||◌, ◌&&◌, List, [], ◌∷◌, ◌++◌, map, filter, flat_map, refl, sym, ap, ◌∙◌, append_assoc, None, option_to_list, bytes_eq}
use Rattle.std.proofs.lemmas.List.{map-append}
use Rattle.std.proofs.lemmas.List.Folds.{list_any-append}
use Rattle.std.specs.Prelude.{if◌then◌else◌}
use Rattle.cap_parse_tree.specs.declared.word.Word.{Word}
use Rattle.cap_parse_tree.specs.Tree.{parts_of, CaseTree, ActionTree, StatementTree, RegionTree, FunctionTree}
use Rattle.cap_resolve_spec.specs.Finding.{Finding, guard_count, twice_word, unknown_word}
use Rattle.cap_resolve_spec.specs.Parts.{placed_items, when_comparisons, whole_name, is_word, destination, clause_parts, invariant, statement_names, callee, cells, parameters}
use Rattle.cap_resolve_spec.specs.Names.{NameScope, knows, whole_numbers, is_among, is_ret, firsts, word_text, word_place, known_as, past_variables, parameters_findings, repeated, past}
use Rattle.cap_resolve_spec.specs.Terms.{terms_findings}
use Rattle.cap_resolve_spec.specs.Items.{NumberedRegion, TypedName, Occurrence, name_of, is_bound, new_names, occurrence_words, ret_findings, atom_findings, atoms_twice}
use Rattle.cap_resolve_spec.specs.Regions.{own_parameters, own_name, parameters_scope, case_types, assertion_occurrences, case_new, is_bound_in, is_known_in, is_bound_late, case_known, case_unknown, case_scope, case_wanted, case_items_findings, case_findings, action_new, counted_names, is_whole_in, action_known, action_unknown, action_indices_findings, action_scope, action_wanted, action_findings, guard_names, region_type_findings}
use Rattle.cap_syntax.specs.declared.place.Place.{Place}
use Rattle.cap_resolve_spec.specs.Functions.{new_findings, items_findings, requires_scope, statements, destinations, is_local, locals, fixed_names, fixed_words, requires_types, requires_new, name_in_body, Context, context_of, is_forbidden, statement_words, unknown_in, callee_findings, cells_findings, statement_wanted, clause_findings, statement_findings, body_findings, function_findings}
use Rattle.cap_resolve_tables.proofs.Firsts.{known_among, whole_among}
use Rattle.cap_resolve_scopes.specs.Lists.{bound_entries, is_known_with, is_late_with, is_whole_with, is_known_local, firsts_known, known_entry}
use Rattle.cap_resolve_findings.specs.Clauses.{is_forbidden_by}
use Rattle.cap_resolve_units.specs.Parts.{known_part, action_part, amount_names, clause_part, statement_part}
use Rattle.cap_resolve_units.specs.Bodies.{locals_part, function_part}
use Rattle.cap_resolve_units.specs.Regions.{one_case_part, one_action_part, region_part}

-- ---- lists

filter_same : {A : Type 0} (p q : A → Bool) → ((a : A) → p a ≡ q a) → (xs : List A) → filter p xs ≡ filter q xs
filter_same p q h [] = refl
filter_same p q h (x ∷ xs) = ap (λ b. cond b (x ∷ filter p xs) (filter p xs)) (h x) ∙ ap (λ ys. cond (q x) (x ∷ ys) ys) (filter_same p q h xs)

flat_map_same : {A B : Type 0} (f g : A → List B) → ((a : A) → f a ≡ g a) → (xs : List A) → flat_map f xs ≡ flat_map g xs
flat_map_same f g h [] = refl
flat_map_same f g h (x ∷ xs) = ap (λ ys. ys ++ flat_map f xs) (h x) ∙ ap (λ ys. g x ++ ys) (flat_map_same f g h xs)

map_same : {A B : Type 0} (f g : A → B) → ((a : A) → f a ≡ g a) → (xs : List A) → map f xs ≡ map g xs
map_same f g h [] = refl
map_same f g h (x ∷ xs) = ap (λ y. y ∷ map f xs) (h x) ∙ ap (λ ys. g x ∷ ys) (map_same f g h xs)

-- ---- cases

pub case_same : (rs : List RegionTree) (k : NumberedRegion) (c : CaseTree) → one_case_part rs k (own_name k) (own_parameters k) c ≡ case_findings rs k c
case_same rs k c =
    ap (λ us. (map unknown_word (occurrence_words us) ++ ret_findings (case_new rs k c)) ++ rest found)
    (ap (λ us. us ++ filter (is_late_with bound) firstly) unknown ∙ ap (λ ls. filter (λ o. not (is_known_in rs k c o)) (case_new rs k c) ++ ls) late)
    ∙ (ap (λ ks. (noted ++ ret_findings (case_new rs k c)) ++ rest ks) known
    ∙ (append_assoc noted (ret_findings (case_new rs k c)) (rest (case_known rs k c))
    ∙ ap (λ ps. noted ++ (ret_findings (case_new rs k c) ++ (past_variables ps ++ (case_items_findings rs k c ++ terms_findings (case_scope rs k c) (case_wanted rs k c))))) (sym (map-append word_place (own_parameters k) (occurrence_words (case_known rs k c))))))
  where
    bound : NameScope
    bound = bound_entries (assertion_occurrences rs k c)

    firstly : List Occurrence
    firstly = new_names (parameters_scope k) (assertion_occurrences rs k c)

    noted : List Finding
    noted = map unknown_word (occurrence_words (case_unknown rs k c))

    found : List Occurrence
    found = filter (is_known_with bound (whole_name c.state)) (case_new rs k c)

    rest : List Occurrence → List Finding
    rest ks = known_part rs (own_name k) (case_types rs k c) (own_parameters k) ks c.state (when_comparisons c.when) (placed_items c.assertion)

    bounds : (o : Occurrence) → knows bound (name_of o) ≡ is_bound_in rs k c (name_of o)
    bounds o = known_among (filter is_bound (assertion_occurrences rs k c)) (name_of o)

    same : (o : Occurrence) → is_known_with bound (whole_name c.state) o ≡ is_known_in rs k c o
    same o = ap (λ b. b || is_word (name_of o) (whole_name c.state)) (bounds o)

    known : found ≡ case_known rs k c
    known = filter_same (is_known_with bound (whole_name c.state)) (is_known_in rs k c) same (case_new rs k c)

    unknown : filter (λ o. not (is_known_with bound (whole_name c.state) o)) (case_new rs k c) ≡ filter (λ o. not (is_known_in rs k c o)) (case_new rs k c)
    unknown = filter_same (λ o. not (is_known_with bound (whole_name c.state) o)) (λ o. not (is_known_in rs k c o)) (λ o. ap not (same o)) (case_new rs k c)

    late : filter (is_late_with bound) firstly ≡ filter (is_bound_late rs k c) firstly
    late = filter_same (is_late_with bound) (is_bound_late rs k c) (λ o. ap (λ b. b && not o.bound) (bounds o)) firstly

-- ---- actions

pub action_same : (k : NumberedRegion) (a : ActionTree) → one_action_part k (own_parameters k) a ≡ action_findings k a
action_same k a =
    ap (λ fs. action_indices_findings k a ++ fs)
    (ap (λ us. (map unknown_word (occurrence_words us) ++ ret_findings (action_new k a)) ++ rest found) unknown
    ∙ (ap (λ ks. (noted ++ ret_findings (action_new k a)) ++ rest ks) known
    ∙ (append_assoc noted (ret_findings (action_new k a)) (rest (action_known k a))
    ∙ ap (λ ps. noted ++ (ret_findings (action_new k a) ++ (past_variables ps ++ (flat_map (atom_findings k) (parts_of a.guards) ++ (atoms_twice (parts_of a.guards) ++ terms_findings (action_scope k a) (action_wanted k a)))))) (sym (map-append word_place (own_parameters k) (occurrence_words (action_known k a)))))))
  where
    bound : NameScope
    bound = bound_entries (amount_names k (parts_of a.guards))

    noted : List Finding
    noted = map unknown_word (occurrence_words (action_unknown k a))

    found : List Occurrence
    found = filter (is_whole_with bound (whole_name a.source) (whole_name a.target)) (action_new k a)

    rest : List Occurrence → List Finding
    rest ks = action_part k (own_parameters k) ks (parts_of a.guards) a.source a.target (when_comparisons a.when)

    same : (o : Occurrence) → is_whole_with bound (whole_name a.source) (whole_name a.target) o ≡ is_whole_in k a o
    same o = ap (λ b. is_word (name_of o) (whole_name a.source) || (is_word (name_of o) (whole_name a.target) || b)) (known_among (filter is_bound (counted_names k a)) (name_of o))

    known : found ≡ action_known k a
    known = filter_same (is_whole_with bound (whole_name a.source) (whole_name a.target)) (is_whole_in k a) same (action_new k a)

    unknown : filter (λ o. not (is_whole_with bound (whole_name a.source) (whole_name a.target) o)) (action_new k a) ≡ action_unknown k a
    unknown = filter_same (λ o. not (is_whole_with bound (whole_name a.source) (whole_name a.target) o)) (λ o. not (is_whole_in k a o)) (λ o. ap not (same o)) (action_new k a)

-- ---- region types

pub region_same : (rs : List RegionTree) (k : NumberedRegion) → region_part rs k ≡ region_type_findings rs k
region_same rs k =
    ap (λ fs. parameters_findings (own_parameters k) ++ ((twice ++ over) ++ (fs ++ flat_map (one_action_part k (own_parameters k)) k.region.actions.parts))) (flat_map_same (one_case_part rs k (own_name k) (own_parameters k)) (case_findings rs k) (case_same rs k) k.region.cases.parts)
    ∙ (ap (λ fs. parameters_findings (own_parameters k) ++ ((twice ++ over) ++ (flat_map (case_findings rs k) k.region.cases.parts ++ fs))) (flat_map_same (one_action_part k (own_parameters k)) (action_findings k) (action_same k) k.region.actions.parts)
    ∙ ap (λ fs. parameters_findings (own_parameters k) ++ fs) (append_assoc twice over (flat_map (case_findings rs k) k.region.cases.parts ++ flat_map (action_findings k) k.region.actions.parts)))
  where
    twice : List Finding
    twice = map twice_word (repeated (guard_names k.region))

    over : List Finding
    over = past 16 guard_count (guard_names k.region)

-- ---- statements

forbidden_same : (words : List Word) (g : Context) → words ≡ g.given → (w : Word) → is_forbidden_by (whole_numbers words) w ≡ is_forbidden g w
forbidden_same words g e w = ap (λ b. b || is_ret w.text) (whole_among words w.text ∙ ap (λ ws. is_among ws w.text) e)

statement_same : (g : Context) (s : StatementTree) → statement_part g.regions g.functions g.types g.counted (whole_numbers g.given) g.loop g.body s ≡ statement_findings g s
statement_same g s =
    ap (λ ws. (map twice_word ws ++ (a ++ (b ++ (c ++ d)))) ++ e) (filter_same (is_forbidden_by (whole_numbers g.given)) (is_forbidden g) (forbidden_same g.given g refl) (option_to_list (destination s)))
    ∙ (append_assoc f (a ++ (b ++ (c ++ d))) e
    ∙ ap (λ xs. f ++ xs) (append_assoc a (b ++ (c ++ d)) e
    ∙ ap (λ xs. a ++ xs) (append_assoc b (c ++ d) e
    ∙ ap (λ xs. b ++ xs) (append_assoc c d e))))
  where
    a : List Finding
    a = unknown_in g.body (statement_names s)

    b : List Finding
    b = flat_map (callee_findings g.functions) (option_to_list (callee s))

    c : List Finding
    c = flat_map cells_findings (option_to_list (cells s))

    d : List Finding
    d = terms_findings g.body (statement_wanted g.body s)

    e : List Finding
    e = clause_findings g g.loop (invariant s)

    f : List Finding
    f = map twice_word (filter (is_forbidden g) (option_to_list (destination s)))

-- ---- functions

not_or : (a b : Bool) → not (a || b) ≡ (not a && not b)
not_or true b = refl
not_or false b = refl

pub function_same : (rs : List RegionTree) (fs : List FunctionTree) (f : FunctionTree) → function_part rs fs (parameters f) (clause_parts f.precondition) f.postcondition (statements f) ≡ function_findings rs fs f
function_same rs fs f =
    ap (λ l. declared ++ (new ++ locals_part rs fs types (parameters f) (fixed_names rs f) given (whole_numbers given) (whole_numbers (destinations f)) l (clause_parts f.precondition) f.postcondition (statements f))) same_locals
    ∙ (ap (λ b. declared ++ (new ++ (items ++ (clause_part rs types counted context.result f.postcondition ++ flat_map (statement_part rs fs types counted (whole_numbers given) context.loop (whole_numbers (parameters f) ++ (whole_numbers (locals rs f) ++ b))) (statements f))))) same_body
    ∙ (ap (λ p. declared ++ (new ++ (items ++ (clause_part rs types p context.result f.postcondition ++ flat_map (statement_part rs fs types p (whole_numbers given) context.loop context.body) (statements f))))) (ap (map word_place) (append_assoc (parameters f) (fixed_words rs f) (locals rs f)))
    ∙ (ap (λ s. declared ++ (new ++ (items ++ (clause_findings context context.result f.postcondition ++ s)))) (flat_map_same (statement_part rs fs types context.counted (whole_numbers given) context.loop context.body) (statement_findings context) (statement_same context) (statements f))
    ∙ ap (λ s. declared ++ s) (sym (append_assoc new items (body_findings context f))))))
  where
    context : Context
    context = context_of rs fs f

    types : List TypedName
    types = requires_types rs f

    given : List Word
    given = parameters f ++ fixed_words rs f

    declared : List Finding
    declared = parameters_findings (parameters f)

    new : List Finding
    new = new_findings (requires_new rs f)

    items : List Finding
    items = items_findings rs types (requires_scope rs f) (clause_parts f.precondition)

    counted : List Place
    counted = map word_place (given ++ locals rs f)

    is_same_local : (w : Word) → is_known_local (whole_numbers (destinations f)) (whole_numbers given) w ≡ is_local rs f w
    is_same_local w =
        ap (λ b. b && not (knows (whole_numbers given) w.text)) (whole_among (destinations f) w.text)
        ∙ (ap (λ b. is_among (destinations f) w.text && not b) (whole_among given w.text ∙ list_any-append (λ v. bytes_eq w.text v.text) (parameters f) (fixed_words rs f))
        ∙ ap (λ b. is_among (destinations f) w.text && b) (not_or (is_among (parameters f) w.text) (is_among (fixed_words rs f) w.text)))

    same_locals : firsts_known (whole_numbers (destinations f)) (whole_numbers given) (flat_map statement_words (statements f)) ≡ locals rs f
    same_locals = ap (firsts word_text) (filter_same (is_known_local (whole_numbers (destinations f)) (whole_numbers given)) (is_local rs f) is_same_local (flat_map statement_words (statements f)))

    same_body : map (known_entry (whole_numbers (destinations f))) (fixed_names rs f) ≡ map (name_in_body f) (fixed_names rs f)
    same_body = map_same (known_entry (whole_numbers (destinations f))) (name_in_body f) (λ o. ap (λ b. if b then known_as o.sort o.word else None) (whole_among (destinations f) (name_of o))) (fixed_names rs f)
