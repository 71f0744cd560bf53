-- A function in which nothing is found fits a program.
use Rattle.std.proofs.Common.{◌≡◌, ℕ, ℤ, Bool, true, false, true≢false, not, ◌&&◌, ◌||◌, cond, bytes_eq, List, [], ◌∷◌, ◌++◌, map, filter, filter_map, flat_map, Option, Some, None, option_to_list, refl, sym, ap, subst, ◌∙◌, append_assoc}
use Rattle.std.specs.Prelude.{if◌then◌else◌}
use Rattle.std.specs.List.{AllByRecursion, cons_option}
use Rattle.std.proofs.lemmas.List.Folds.{list_any-append}
use Rattle.cap_lin.specs.Linear.{Linear}
use Rattle.cap_lin.specs.declared.row.Sort.{Sort}
use Rattle.cap_lin.specs.declared.row.Sort.TheVariants.{Int}
use Rattle.cap_prog.specs.declared.assertion.Comp.{Comp}
use Rattle.cap_prog.specs.Program.{PlainProgram}
use Rattle.cap_prog.specs.Scopes.{HasSort, TermFits, CompFits, body_scope}
use Rattle.cap_prog.specs.WellFormed.{IsValue}
use Rattle.cap_parse_tree.specs.declared.word.Word.{Word}
use Rattle.cap_parse_tree.specs.Tree.{TermTree, StatementTree, RegionTree, FunctionTree}
use Rattle.cap_resolve_spec.specs.Finding.{unknown_word, twice_word}
use Rattle.cap_resolve_spec.specs.Parts.{term_words, statement_terms, statement_comparison, statement_names, destination, invariant, callee, cells, parameters}
use Rattle.cap_resolve_spec.specs.Names.{NameScope, knows, known_as, sorts_of, is_among, is_ret}
use Rattle.cap_resolve_spec.specs.Linear.{term_form}
use Rattle.cap_resolve_spec.specs.Terms.{wanted_as, term_findings, terms_findings}
use Rattle.cap_resolve_spec.specs.Items.{Occurrence, name_of, occurrence_words}
use Rattle.cap_resolve_spec.specs.Functions.{requires_types, fixed_names, fixed_words, statements, statement_words, clause_words, destinations, is_local, locals, name_in_body, Context, context_of, clause_types, clause_new, clause_bound, clause_scope, requires_findings, clause_findings, unknown_in, is_function, function_named, called_findings, callee_findings, cells_findings, is_forbidden, statement_wanted, statement_findings, body_findings, function_findings}
use Rattle.cap_resolve_spec.specs.Functions as names
use Rattle.cap_resolve_spec.specs.Program.{comparison_program, body_terms, new_assertion, function_program}
use Rattle.cap_resolve_spec.proofs.Every.{each_front, each_behind, each_weaker}
use Rattle.cap_resolve_spec.proofs.Nothing.{nothing_front, nothing_behind, nothing_mapped, nothing_kept}
use Rattle.cap_resolve_spec.proofs.Sorts.{IsKnown}
use Rattle.cap_resolve_spec.proofs.Known.{same-text, text-itself}
use Rattle.cap_resolve_spec.proofs.Terms.{term-fits, terms-front, terms-behind}
use Rattle.cap_resolve_spec.proofs.Items.{HasRegions}
use Rattle.cap_resolve_spec.proofs.Regions.{ItemsShort, comparisons-fit}
use Rattle.cap_resolve_spec.proofs.Bodies.{HasFunctions, IsHidden, body-variable}

-- ---- destinations

pub flat-options : {A B : Type 0} (P : B → Type 0) (h : A → Option B) (xs : List A) → AllByRecursion (λ x. AllByRecursion P (option_to_list (h x))) xs → AllByRecursion P (filter_map h xs)
flat-options P h [] a = tt
flat-options {A} {B} P h (x ∷ xs) a = by (h x) a.0 (flat-options P h xs a.1)
  where
    by : (o : Option B) → AllByRecursion P (option_to_list o) → AllByRecursion P (filter_map h xs) → AllByRecursion P (cons_option o (filter_map h xs))
    by None x y = y
    by (Some b) x y = (x.0, y)

or-false : (a b : Bool) → (a || b) ≡ false → (a ≡ false) × (b ≡ false)
or-false true b e = absurd (true≢false e)
or-false false b e = (refl, e)

not-same : (x y : List ℕ) → bytes_eq x y ≡ false → bytes_eq y x ≡ false
not-same x y e = by (bytes_eq y x) refl
  where
    by : (b : Bool) → bytes_eq y x ≡ b → b ≡ false
    by false h = refl
    by true h = absurd (true≢false (sym (subst (λ z. bytes_eq x z ≡ true) (sym (same-text y x h)) (text-itself x)) ∙ e))

abbrev pub Free : FunctionTree → List RegionTree → Word → Type 0
Free f rs w = (is_among (parameters f) w.text ≡ false) × (is_among (fixed_words rs f) w.text ≡ false)

pub free-destination : (rs : List RegionTree) (fs : List FunctionTree) (f : FunctionTree) (s : StatementTree) → statement_findings (context_of rs fs f) s ≡ [] → AllByRecursion (Free f rs) (option_to_list (destination s))
free-destination rs fs f s e =
    each_weaker (λ w. is_forbidden (context_of rs fs f) w ≡ false) (Free f rs)
    (λ w x. or-false (is_among (parameters f) w.text) (is_among (fixed_words rs f) w.text) (sym (list_any-append (λ v. bytes_eq w.text v.text) (parameters f) (fixed_words rs f)) ∙ (or-false (is_among (parameters f ++ fixed_words rs f) w.text) (is_ret w.text) x).0))
    (option_to_list (destination s))
    (nothing_kept (is_forbidden (context_of rs fs f)) (option_to_list (destination s)) (nothing_mapped twice_word (filter (is_forbidden (context_of rs fs f)) (option_to_list (destination s))) (nothing_front (map twice_word (filter (is_forbidden (context_of rs fs f)) (option_to_list (destination s)))) _ e)))

-- no fixed name is a destination
not-destination : (ds : List Word) (o : Occurrence) → AllByRecursion (λ d. bytes_eq d.text (name_of o) ≡ false) ds → is_among ds (name_of o) ≡ false
not-destination [] o a = refl
not-destination (d ∷ ds) o a = both (bytes_eq (name_of o) d.text) (not-same d.text (name_of o) a.0) (not-destination ds o a.1)
  where
    both : (b : Bool) → b ≡ false → is_among ds (name_of o) ≡ false → (b || is_among ds (name_of o)) ≡ false
    both true e h = absurd (true≢false e)
    both false e h = h

pub hidden-names : (f : FunctionTree) (os : List Occurrence) → AllByRecursion (λ d. is_among (occurrence_words os) d.text ≡ false) (destinations f) → AllByRecursion IsHidden (map (name_in_body f) os)
hidden-names f [] a = tt
hidden-names f (o ∷ os) a = (
  ap (λ b. if b then known_as o.sort o.word else None) (not-destination (destinations f) o (each_weaker (λ d. is_among (occurrence_words (o ∷ os)) d.text ≡ false) (λ d. bytes_eq d.text (name_of o) ≡ false) (λ d x. (or-false (bytes_eq d.text (name_of o)) (is_among (occurrence_words os) d.text) x).0) (destinations f) a)),
  hidden-names f os (each_weaker (λ d. is_among (occurrence_words (o ∷ os)) d.text ≡ false) (λ d. is_among (occurrence_words os) d.text ≡ false) (λ d x. (or-false (bytes_eq d.text (name_of o)) (is_among (occurrence_words os) d.text) x).1) (destinations f) a),
)

-- a destination that is free is a local
pub kept-if : {A : Type 0} (P : A → Type 0) (p : A → Bool) (xs : List A) → AllByRecursion P (filter p xs) → AllByRecursion (λ x. p x ≡ true → P x) xs
kept-if P p [] a = tt
kept-if P p (x ∷ xs) a = by (p x) a (λ d. kept-if P p xs d)
  where
    by : (b : Bool) → AllByRecursion P (cond b (x ∷ filter p xs) (filter p xs)) → (AllByRecursion P (filter p xs) → AllByRecursion (λ y. p y ≡ true → P y) xs) → (b ≡ true → P x) × AllByRecursion (λ y. p y ≡ true → P y) xs
    by true d rest = (λ e. d.0, rest d.1)
    by false d rest = (λ e. absurd (true≢false (sym e)), rest d)

in-both : (before : List Word) (w : Word) (more : List Word) → is_among (before ++ (w ∷ more)) w.text ≡ true
in-both before w more = list_any-append (λ v. bytes_eq w.text v.text) before (w ∷ more) ∙ at (is_among before w.text) (bytes_eq w.text w.text) (text-itself w.text)
  where
    at : (b c : Bool) → c ≡ true → (b || (c || is_among more w.text)) ≡ true
    at true c e = refl
    at false true e = refl
    at false false e = absurd (true≢false (sym e))

pub among-from : (before more : List Word) → AllByRecursion (λ w. is_among (before ++ more) w.text ≡ true) more
among-from before [] = tt
among-from before (w ∷ more) = (in-both before w more, subst (λ xs. AllByRecursion (λ v. is_among xs v.text ≡ true) more) (append_assoc before (w ∷ []) more) (among-from (before ++ w ∷ []) more))

abbrev pub Local : List RegionTree → FunctionTree → Word → Type 0
Local rs f w = (is_among (parameters f) w.text ≡ false) × (is_among (locals rs f) w.text ≡ true)

pub options-flat : {A B : Type 0} (P : B → Type 0) (h : A → Option B) (xs : List A) → AllByRecursion P (filter_map h xs) → AllByRecursion (λ x. AllByRecursion P (option_to_list (h x))) xs
options-flat P h [] a = tt
options-flat {A} {B} P h (x ∷ xs) a = by (h x) a (λ d. options-flat P h xs d)
  where
    by : (o : Option B) → AllByRecursion P (cons_option o (filter_map h xs)) → (AllByRecursion P (filter_map h xs) → AllByRecursion (λ y. AllByRecursion P (option_to_list (h y))) xs) → AllByRecursion P (option_to_list o) × AllByRecursion (λ y. AllByRecursion P (option_to_list (h y))) xs
    by None d rest = (tt, rest d)
    by (Some b) d rest = ((d.0, tt), rest d.1)

pub local-destinations : (rs : List RegionTree) (fs : List FunctionTree) (f : FunctionTree) (ss : List StatementTree) → AllByRecursion (λ s. AllByRecursion (λ w. is_among (destinations f) w.text ≡ true) (option_to_list (destination s))) ss → AllByRecursion (λ s. AllByRecursion (λ w. is_local rs f w ≡ true → is_among (locals rs f) w.text ≡ true) (statement_words s)) ss → AllByRecursion (λ s. statement_findings (context_of rs fs f) s ≡ []) ss → AllByRecursion (λ s. AllByRecursion (Local rs f) (option_to_list (destination s))) ss
local-destinations rs fs f [] a b c = tt
local-destinations rs fs f (s ∷ ss) a b c = (
  zipped (option_to_list (destination s)) a.0 (each_front (λ w. is_local rs f w ≡ true → is_among (locals rs f) w.text ≡ true) (option_to_list (destination s)) _ b.0) (free-destination rs fs f s c.0),
  local-destinations rs fs f ss a.1 b.1 c.1,
)
  where
    is-one : (d p x : Bool) → d ≡ true → p ≡ false → x ≡ false → (d && (not p && not x)) ≡ true
    is-one true false false d e h = refl
    is-one true false true d e h = absurd (true≢false h)
    is-one true true x d e h = absurd (true≢false e)
    is-one false p x d e h = absurd (true≢false (sym d))

    zipped : (ws : List Word) → AllByRecursion (λ w. is_among (destinations f) w.text ≡ true) ws → AllByRecursion (λ w. is_local rs f w ≡ true → is_among (locals rs f) w.text ≡ true) ws → AllByRecursion (Free f rs) ws → AllByRecursion (Local rs f) ws
    zipped [] x y z = tt
    zipped (w ∷ ws) x y z = ((z.0.0, y.0 (is-one (is_among (destinations f) w.text) (is_among (parameters f) w.text) (is_among (fixed_words rs f) w.text) x.0 z.0.0 z.0.1)), zipped ws x.1 y.1 z.1)

-- ---- one statement

pub record RightStatement (rs : List RegionTree) (fs : List FunctionTree) (f : FunctionTree) (s : StatementTree) : Type 0 where
  pub local : AllByRecursion (Local rs f) (option_to_list (destination s))
  pub nothing : statement_findings (context_of rs fs f) s ≡ []
  pub short : ItemsShort (new_assertion (context_of rs fs f) (context_of rs fs f).loop (invariant s)).items

names-known : (scope : NameScope) (ws : List Word) → unknown_in scope ws ≡ [] → AllByRecursion (IsKnown scope) ws
names-known scope ws e =
    each_weaker (λ w. not (knows scope w.text) ≡ false) (IsKnown scope) (λ w x. back (knows scope w.text) x) ws
    (nothing_kept (λ w. not (knows scope w.text)) ws (nothing_mapped unknown_word (filter (λ w. not (knows scope w.text)) ws) e))
  where
    back : (b : Bool) → not b ≡ false → b ≡ true
    back true h = refl
    back false h = absurd (true≢false h)

terms-fit : (scope : NameScope) (ts : List TermTree) → AllByRecursion (IsKnown scope) (flat_map term_words ts) → terms_findings scope (map (wanted_as (Some Int)) ts) ≡ [] → AllByRecursion (TermFits (sorts_of scope) Int) (map (term_form scope) ts)
terms-fit scope [] a e = tt
terms-fit scope (t ∷ ts) a e = (
  term-fits scope Int t (each_front (IsKnown scope) (term_words t) (flat_map term_words ts) a) (nothing_front (term_findings scope (wanted_as (Some Int) t)) _ e),
  terms-fit scope ts (each_behind (IsKnown scope) (term_words t) (flat_map term_words ts) a) (nothing_behind (term_findings scope (wanted_as (Some Int) t)) _ e),
)

-- all that a function is read with
pub record FunctionReads (p : PlainProgram) (rs : List RegionTree) (fs : List FunctionTree) (f : FunctionTree) : Type 0 where
  pub regions : HasRegions p rs
  pub functions : HasFunctions p rs fs
  pub hidden : AllByRecursion IsHidden (map (name_in_body f) (fixed_names rs f))

in-body : (p : PlainProgram) (rs : List RegionTree) (fs : List FunctionTree) (f : FunctionTree) → FunctionReads p rs fs f → (s : Sort) (t : Linear) → TermFits (sorts_of (names.body_scope rs f)) s t → TermFits (body_scope (function_program rs fs f)) s t
in-body p rs fs f h s t a = each_weaker (λ (q : ℕ × ℤ). HasSort (sorts_of (names.body_scope rs f)) s q.0) (λ (q : ℕ × ℤ). HasSort (body_scope (function_program rs fs f)) s q.0) (λ q x. body-variable (parameters f) (locals rs f) (map (name_in_body f) (fixed_names rs f)) h.hidden s q.0 x) t.parts a

-- the parts of what is found in a statement
statement-known : (rs : List RegionTree) (fs : List FunctionTree) (f : FunctionTree) (s : StatementTree) → statement_findings (context_of rs fs f) s ≡ [] → AllByRecursion (IsKnown (names.body_scope rs f)) (statement_names s)
statement-known rs fs f s e = names-known (names.body_scope rs f) (statement_names s) (nothing_front (unknown_in (names.body_scope rs f) (statement_names s)) _ (nothing_behind (map twice_word (filter (is_forbidden (context_of rs fs f)) (option_to_list (destination s)))) _ e))

pub after-names : (g : Context) (s : StatementTree) → statement_findings g s ≡ [] → flat_map (callee_findings g.functions) (option_to_list (callee s)) ++ (flat_map cells_findings (option_to_list (cells s)) ++ (terms_findings g.body (statement_wanted g.body s) ++ clause_findings g g.loop (invariant s))) ≡ []
after-names g s e = nothing_behind (unknown_in g.body (statement_names s)) _ (nothing_behind (map twice_word (filter (is_forbidden g) (option_to_list (destination s)))) _ e)

pub after-callee : (g : Context) (s : StatementTree) → statement_findings g s ≡ [] → flat_map cells_findings (option_to_list (cells s)) ++ (terms_findings g.body (statement_wanted g.body s) ++ clause_findings g g.loop (invariant s)) ≡ []
after-callee g s e = nothing_behind (flat_map (callee_findings g.functions) (option_to_list (callee s))) _ (after-names g s e)

after-cells : (g : Context) (s : StatementTree) → statement_findings g s ≡ [] → terms_findings g.body (statement_wanted g.body s) ++ clause_findings g g.loop (invariant s) ≡ []
after-cells g s e = nothing_behind (flat_map cells_findings (option_to_list (cells s))) _ (after-callee g s e)

statement-terms : (rs : List RegionTree) (fs : List FunctionTree) (f : FunctionTree) (s : StatementTree) → statement_findings (context_of rs fs f) s ≡ [] → terms_findings (names.body_scope rs f) (statement_wanted (names.body_scope rs f) s) ≡ []
statement-terms rs fs f s e = nothing_front (terms_findings (names.body_scope rs f) (statement_wanted (names.body_scope rs f) s)) _ (after-cells (context_of rs fs f) s e)

pub statement-invariant : (g : Context) (s : StatementTree) → statement_findings g s ≡ [] → clause_findings g g.loop (invariant s) ≡ []
statement-invariant g s e = nothing_behind (terms_findings g.body (statement_wanted g.body s)) _ (after-cells g s e)

pub statement-values : (p : PlainProgram) (rs : List RegionTree) (fs : List FunctionTree) (f : FunctionTree) → FunctionReads p rs fs f → (s : StatementTree) → RightStatement rs fs f s → AllByRecursion (IsValue (function_program rs fs f)) (body_terms (context_of rs fs f) (statement_terms s))
statement-values p rs fs f h s a =
    each_weaker (TermFits (sorts_of (names.body_scope rs f)) Int) (IsValue (function_program rs fs f)) (λ t x. in-body p rs fs f h Int t x) (map (term_form (names.body_scope rs f)) (statement_terms s))
    (terms-fit (names.body_scope rs f) (statement_terms s)
    (each_front (IsKnown (names.body_scope rs f)) (flat_map term_words (statement_terms s)) _ (statement-known rs fs f s a.nothing))
    (terms-front (names.body_scope rs f) (map (wanted_as (Some Int)) (statement_terms s)) _ (statement-terms rs fs f s a.nothing)))

pub statement-comparisons : (p : PlainProgram) (rs : List RegionTree) (fs : List FunctionTree) (f : FunctionTree) → FunctionReads p rs fs f → (s : StatementTree) → RightStatement rs fs f s → AllByRecursion (CompFits (body_scope (function_program rs fs f))) (map (comparison_program (names.body_scope rs f)) (option_to_list (statement_comparison s)))
statement-comparisons p rs fs f h s a =
    each_weaker (CompFits (sorts_of (names.body_scope rs f))) (CompFits (body_scope (function_program rs fs f))) (λ (c : Comp) x. (in-body p rs fs f h c.sort c.left x.0, in-body p rs fs f h c.sort c.right x.1)) (map (comparison_program (names.body_scope rs f)) (option_to_list (statement_comparison s)))
    (comparisons-fit (names.body_scope rs f) (option_to_list (statement_comparison s))
    (each_behind (IsKnown (names.body_scope rs f)) (flat_map term_words (statement_terms s)) _ (statement-known rs fs f s a.nothing))
    (terms-behind (names.body_scope rs f) (map (wanted_as (Some Int)) (statement_terms s)) _ (statement-terms rs fs f s a.nothing)))
