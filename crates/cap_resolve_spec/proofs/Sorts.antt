-- Where nothing is wrong in a term whose names are known, all its names are of the sort that is wanted.
use Rattle.std.proofs.Common.{◌≡◌, ℕ, Bool, true, false, true≢false, not, ◌&&◌, ◌||◌, cond, List, [], ◌∷◌, ◌++◌, filter, flat_map, find, Option, Some, None, option_map, refl, sym, ap, subst, ◌∙◌, if◌then◌else◌}
use Rattle.std.specs.List.{AllByRecursion, list_all}
use Rattle.std.proofs.lemmas.List.Folds.{find_at}
use Rattle.std.proofs.lemmas.Option.{slice_get-map}
use Rattle.cap_lin.specs.declared.row.Sort.{Sort}
use Rattle.cap_lin.specs.declared.row.Sort.TheVariants.{Int, Perm}
use Rattle.cap_parse_tree.specs.declared.word.Word.{Word}
use Rattle.cap_parse_tree.specs.Tree.{FactorTree, literal, whole_share, named, bracketed, ProductTree, product, FactorTrees, no_factor, times, TermTree, term, ProductTrees, no_product, signed}
use Rattle.cap_prog.specs.Scopes.{HasSort}
use Rattle.cap_resolve_spec.specs.Finding.{found_if, wrong_sort, nonlinear}
use Rattle.cap_resolve_spec.specs.Parts.{factor_leaves, product_leaves, factors_leaves, term_leaves, products_leaves, is_number, is_multiplier, holds_name, factor_brackets, product_brackets, factors_brackets, term_brackets, products_brackets, more_products, more_factors, factor_place}
use Rattle.cap_resolve_spec.specs.Names.{KnownName, NameScope, knows, has_name, sort_of, found_sort, known_sort, sorts_of, variable_of}
use Rattle.cap_resolve_spec.specs.Terms.{factor_sort, product_sort, factors_sort, term_sort, clash, main_factors, wrong_product, wrong_second, products_of_names, names_multiplied, product_findings, products_findings}
use Rattle.cap_resolve_spec.proofs.Every.{each_append, each_front, each_behind}
use Rattle.cap_resolve_spec.proofs.Nothing.{cons_not_nil, nothing_front, nothing_behind, not_found}
use Rattle.cap_resolve_spec.proofs.Variables.{NamesAre, LeavesAre}

abbrev pub IsKnown : NameScope → Word → Type 0
IsKnown scope w = knows scope w.text ≡ true

abbrev pub IsOfSort : NameScope → Sort → Word → Type 0
IsOfSort scope s w = sort_of scope w.text ≡ Some s

abbrev pub SomeSort : Option Sort → Type 0
SomeSort o = (s : Sort) × (o ≡ Some s)

-- a name that is known has a sort
pub known-sort : (scope : NameScope) (x : List ℕ) → knows scope x ≡ true → SomeSort (sort_of scope x)
known-sort [] x e = absurd (true≢false (sym e))
known-sort (None ∷ scope) x e = known-sort scope x e
known-sort (Some k ∷ scope) x e = by (has_name x (Some k)) e (λ d. known-sort scope x d)
  where
    by : (b : Bool) → (b || knows scope x) ≡ true → (knows scope x ≡ true → SomeSort (sort_of scope x)) → SomeSort (found_sort (cond b (Some (Some k)) (find (has_name x) scope)))
    by true d rest = (k.sort, refl)
    by false d rest = rest d

-- and its variable stands for it
pub sorted-variable : (scope : NameScope) (x : List ℕ) (s : Sort) → sort_of scope x ≡ Some s → HasSort (sorts_of scope) s (variable_of scope x)
sorted-variable scope x s e = slice_get-map known_sort scope (variable_of scope x) ∙ ap (option_map known_sort) (sym (find_at (has_name x) scope)) ∙ by (find (has_name x) scope) e
  where
    by : (o : Option (Option KnownName)) → found_sort o ≡ Some s → option_map known_sort o ≡ Some (Some s)
    by None d = absurd (cc)
    by (Some k) d = ap Some d

either-sorted : (b : Bool) {o p : Option Sort} → SomeSort o → SomeSort p → SomeSort (if b then o else p)
either-sorted true x y = x
either-sorted false x y = y

mutual
  factor-sorted : (scope : NameScope) (f : FactorTree) → LeavesAre (IsKnown scope) (factor_leaves f) → SomeSort (factor_sort scope f)
  factor-sorted scope (literal n) a = (Int, refl)
  factor-sorted scope (whole_share p) a = (Perm, refl)
  factor-sorted scope (named w) a = known-sort scope w.text a.0
  factor-sorted scope (bracketed p t q) a = term-sorted scope t a

  product-sorted : (scope : NameScope) (m : ProductTree) → LeavesAre (IsKnown scope) (product_leaves m) → SomeSort (product_sort scope m)
  product-sorted scope (product f fs) a =
      either-sorted (is_multiplier f)
      (factors-sorted scope fs (each_behind (NamesAre (IsKnown scope)) (factor_leaves f) (factors_leaves fs) a))
      (factor-sorted scope f (each_front (NamesAre (IsKnown scope)) (factor_leaves f) (factors_leaves fs) a))

  factors-sorted : (scope : NameScope) (fs : FactorTrees) → LeavesAre (IsKnown scope) (factors_leaves fs) → SomeSort (factors_sort scope fs)
  factors-sorted scope no_factor a = (Int, refl)
  factors-sorted scope (times p f fs) a =
      either-sorted (is_multiplier f)
      (factors-sorted scope fs (each_behind (NamesAre (IsKnown scope)) (factor_leaves f) (factors_leaves fs) a))
      (factor-sorted scope f (each_front (NamesAre (IsKnown scope)) (factor_leaves f) (factors_leaves fs) a))

  pub term-sorted : (scope : NameScope) (t : TermTree) → LeavesAre (IsKnown scope) (term_leaves t) → SomeSort (term_sort scope t)
  term-sorted scope (term p m ms) a = product-sorted scope m (each_front (NamesAre (IsKnown scope)) (product_leaves m) (products_leaves ms) a)

pub no-clash : (s : Sort) (o : Option Sort) → SomeSort o → clash (Some s) o ≡ false → o ≡ Some s
no-clash s o h e = h.1 ∙ ap Some (sym (same s h.0 (ap (clash (Some s)) (sym h.1) ∙ e)))
  where
    same : (a b : Sort) → clash (Some a) (Some b) ≡ false → a ≡ b
    same Int Int d = refl
    same Int Perm d = absurd (true≢false d)
    same Perm Int d = absurd (true≢false d)
    same Perm Perm d = refl

-- a multiplier holds no name
multiplier-leaves : (Q : Word → Type 0) (fs : List FactorTree) → list_all is_number fs ≡ true → LeavesAre Q fs
multiplier-leaves Q [] e = tt
multiplier-leaves Q (literal n ∷ fs) e = (tt, multiplier-leaves Q fs e)
multiplier-leaves Q (whole_share p ∷ fs) e = absurd (true≢false (sym e))
multiplier-leaves Q (named w ∷ fs) e = absurd (true≢false (sym e))
multiplier-leaves Q (bracketed p t q ∷ fs) e = absurd (true≢false (sym e))

all-multipliers : (Q : Word → Type 0) (fs : FactorTrees) → filter (λ f. not (is_multiplier f)) (more_factors fs) ≡ [] → LeavesAre Q (factors_leaves fs)
all-multipliers Q no_factor e = tt
all-multipliers Q (times p f fs) e = by (is_multiplier f) refl e (λ d. all-multipliers Q fs d)
  where
    by : (b : Bool) → is_multiplier f ≡ b → cond (not b) (f ∷ filter (λ g. not (is_multiplier g)) (more_factors fs)) (filter (λ g. not (is_multiplier g)) (more_factors fs)) ≡ [] → (filter (λ g. not (is_multiplier g)) (more_factors fs) ≡ [] → LeavesAre Q (factors_leaves fs)) → LeavesAre Q (factor_leaves f ++ factors_leaves fs)
    by true h d rest = each_append (NamesAre Q) (factor_leaves f) (factors_leaves fs) (multiplier-leaves Q (factor_leaves f) h) (rest d)
    by false h d rest = cons_not_nil d

-- behind a factor with a name stands none with a name
none-later : (fs : FactorTrees) → products_of_names true fs ≡ [] → AllByRecursion (λ f. holds_name f ≡ false) (more_factors fs)
none-later no_factor e = tt
none-later (times p f fs) e =
    (not_found (holds_name f) p _ (nothing_front _ (products_of_names true fs) e), none-later fs (nothing_behind (found_if (holds_name f) p _) (products_of_names true fs) e))

kept-each : {A : Type 0} (P : A → Type 0) (p : A → Bool) (xs : List A) → AllByRecursion P xs → AllByRecursion P (filter p xs)
kept-each P p [] a = tt
kept-each P p (x ∷ xs) a = by (p x) (kept-each P p xs a.1)
  where
    by : (b : Bool) → AllByRecursion P (filter p xs) → AllByRecursion P (cond b (x ∷ filter p xs) (filter p xs))
    by true rest = (a.0, rest)
    by false rest = rest

abbrev mains : FactorTrees → List FactorTree
mains fs = filter (λ f. not (is_multiplier f)) (more_factors fs)

later-unnamed : (b : Bool) (f : FactorTree) (fs : FactorTrees) (g : FactorTree) (gs : List FactorTree) → products_of_names (b || holds_name f) fs ≡ [] → mains fs ≡ g ∷ gs → holds_name f ≡ true → holds_name g ≡ false
later-unnamed b f fs g gs d h x = (subst (AllByRecursion (λ k. holds_name k ≡ false)) h (kept-each (λ k. holds_name k ≡ false) (λ k. not (is_multiplier k)) (more_factors fs) (none-later fs (sym (ap (λ c. products_of_names c fs) (either b (holds_name f) x)) ∙ d)))).0
  where
    either : (b c : Bool) → c ≡ true → (b || c) ≡ true
    either true c e = refl
    either false c e = e

both-named : (c d : Bool) → not (c && d) ≡ false → (c ≡ true) × (d ≡ true)
both-named true true e = (refl, refl)
both-named true false e = absurd (true≢false e)
both-named false d e = absurd (true≢false e)

-- no second factor that is no multiplier
no-second : (b : Bool) (f : FactorTree) (fs : FactorTrees) → wrong_second (f ∷ mains fs) ≡ [] → products_of_names (b || holds_name f) fs ≡ [] → mains fs ≡ []
no-second b f fs e d = by (mains fs) refl e
  where
    clashes : (g : FactorTree) (gs : List FactorTree) → mains fs ≡ g ∷ gs → not (holds_name f && holds_name g) ≡ false → ⊥
    clashes g gs h x = let both = both-named (holds_name f) (holds_name g) x in true≢false (sym both.1 ∙ later-unnamed b f fs g gs d h both.0)

    by : (gs : List FactorTree) → mains fs ≡ gs → wrong_second (f ∷ gs) ≡ [] → mains fs ≡ []
    by [] h x = h
    by (g ∷ gs) h x = absurd (clashes g gs h (not_found (not (holds_name f && holds_name g)) (factor_place g) wrong_sort x))

-- ---- the names of a term have its sort

abbrev Bracketed : NameScope → TermTree → Type 0
Bracketed scope t = products_findings scope (term_sort scope t) t ≡ []

-- a factor, and others behind it, where the sort of the product is this one
abbrev Rest : NameScope → Sort → FactorTrees → Type 0
Rest scope s fs = LeavesAre (IsKnown scope) (factors_leaves fs) → factors_sort scope fs ≡ Some s → wrong_second (mains fs) ≡ [] → ((b : Bool) × (products_of_names b fs ≡ [])) → AllByRecursion (Bracketed scope) (factors_brackets fs) → LeavesAre (IsOfSort scope s) (factors_leaves fs)

abbrev Joined : NameScope → Sort → FactorTree → FactorTrees → Bool → Type 0
Joined scope s f fs m =
    (if m then factors_sort scope fs else factor_sort scope f) ≡ Some s → wrong_second (cond (not m) (f ∷ mains fs) (mains fs)) ≡ [] → (b : Bool) → products_of_names (b || holds_name f) fs ≡ []
    → (factor_sort scope f ≡ Some s → LeavesAre (IsOfSort scope s) (factor_leaves f))
    → (factors_sort scope fs ≡ Some s → wrong_second (mains fs) ≡ [] → (b : Bool) × (products_of_names b fs ≡ []) → LeavesAre (IsOfSort scope s) (factors_leaves fs))
    → LeavesAre (IsOfSort scope s) (factor_leaves f ++ factors_leaves fs)

-- a factor with those behind it: where it is a multiplier they hold the names, and else it alone
joined : (scope : NameScope) (s : Sort) (f : FactorTree) (fs : FactorTrees) (m : Bool) → is_multiplier f ≡ m → Joined scope s f fs m
joined scope s f fs true h e w b d own rest = each_append (NamesAre (IsOfSort scope s)) (factor_leaves f) (factors_leaves fs) (multiplier-leaves (IsOfSort scope s) (factor_leaves f) h) (rest e w (b || holds_name f, d))
joined scope s f fs false h e w b d own rest = each_append (NamesAre (IsOfSort scope s)) (factor_leaves f) (factors_leaves fs) (own e) (all-multipliers (IsOfSort scope s) fs (no-second b f fs w d))

mutual
  factor-names : (scope : NameScope) (s : Sort) (f : FactorTree) → LeavesAre (IsKnown scope) (factor_leaves f) → factor_sort scope f ≡ Some s → AllByRecursion (Bracketed scope) (factor_brackets f) → LeavesAre (IsOfSort scope s) (factor_leaves f)
  factor-names scope s (literal n) a e b = (tt, tt)
  factor-names scope s (whole_share p) a e b = (tt, tt)
  factor-names scope s (named w) a e b = (e, tt)
  factor-names scope s (bracketed p t q) a e b = term-names scope s t a (sym (ap (λ o. products_findings scope o t) e) ∙ b.0) b.1

  rest-names : (scope : NameScope) (s : Sort) (fs : FactorTrees) → Rest scope s fs
  rest-names scope s no_factor a e w p b = tt
  rest-names scope s (times q f fs) a e w p b =
      joined scope s f fs (is_multiplier f) refl e w p.0 (nothing_behind (found_if (p.0 && holds_name f) q nonlinear) (products_of_names (p.0 || holds_name f) fs) p.1)
      (λ e1. factor-names scope s f (each_front (NamesAre (IsKnown scope)) (factor_leaves f) (factors_leaves fs) a) e1 (each_front (Bracketed scope) (factor_brackets f) (factors_brackets fs) b))
      (λ e1 w1 p1. rest-names scope s fs (each_behind (NamesAre (IsKnown scope)) (factor_leaves f) (factors_leaves fs) a) e1 w1 p1 (each_behind (Bracketed scope) (factor_brackets f) (factors_brackets fs) b))

  product-names : (scope : NameScope) (s : Sort) (m : ProductTree) → LeavesAre (IsKnown scope) (product_leaves m) → product_findings scope (Some s) m ≡ [] → AllByRecursion (Bracketed scope) (product_brackets m) → LeavesAre (IsOfSort scope s) (product_leaves m)
  product-names scope s (product f fs) a e b =
      joined scope s f fs (is_multiplier f) refl
      (no-clash s (product_sort scope (product f fs)) (product-sorted scope (product f fs) a) (not_found (clash (Some s) (product_sort scope (product f fs))) _ wrong_sort (nothing_front (wrong_product scope (Some s) (product f fs)) _ e)))
      (nothing_front (wrong_second (main_factors (product f fs))) (names_multiplied (product f fs)) (nothing_behind (wrong_product scope (Some s) (product f fs)) _ e))
      false
      (nothing_behind (wrong_second (main_factors (product f fs))) (names_multiplied (product f fs)) (nothing_behind (wrong_product scope (Some s) (product f fs)) _ e))
      (λ e1. factor-names scope s f (each_front (NamesAre (IsKnown scope)) (factor_leaves f) (factors_leaves fs) a) e1 (each_front (Bracketed scope) (factor_brackets f) (factors_brackets fs) b))
      (λ e1 w1 p1. rest-names scope s fs (each_behind (NamesAre (IsKnown scope)) (factor_leaves f) (factors_leaves fs) a) e1 w1 p1 (each_behind (Bracketed scope) (factor_brackets f) (factors_brackets fs) b))

  pub term-names : (scope : NameScope) (s : Sort) (t : TermTree) → LeavesAre (IsKnown scope) (term_leaves t) → products_findings scope (Some s) t ≡ [] → AllByRecursion (Bracketed scope) (term_brackets t) → LeavesAre (IsOfSort scope s) (term_leaves t)
  term-names scope s (term p m ms) a e b =
      each_append (NamesAre (IsOfSort scope s)) (product_leaves m) (products_leaves ms)
      (product-names scope s m (each_front (NamesAre (IsKnown scope)) (product_leaves m) (products_leaves ms) a) (nothing_front (product_findings scope (Some s) m) (flat_map (product_findings scope (Some s)) (more_products ms)) e) (each_front (Bracketed scope) (product_brackets m) (products_brackets ms) b))
      (products-names scope s ms (each_behind (NamesAre (IsKnown scope)) (product_leaves m) (products_leaves ms) a) (nothing_behind (product_findings scope (Some s) m) (flat_map (product_findings scope (Some s)) (more_products ms)) e) (each_behind (Bracketed scope) (product_brackets m) (products_brackets ms) b))

  products-names : (scope : NameScope) (s : Sort) (ms : ProductTrees) → LeavesAre (IsKnown scope) (products_leaves ms) → flat_map (product_findings scope (Some s)) (more_products ms) ≡ [] → AllByRecursion (Bracketed scope) (products_brackets ms) → LeavesAre (IsOfSort scope s) (products_leaves ms)
  products-names scope s no_product a e b = tt
  products-names scope s (signed g p m ms) a e b =
      each_append (NamesAre (IsOfSort scope s)) (product_leaves m) (products_leaves ms)
      (product-names scope s m (each_front (NamesAre (IsKnown scope)) (product_leaves m) (products_leaves ms) a) (nothing_front (product_findings scope (Some s) m) (flat_map (product_findings scope (Some s)) (more_products ms)) e) (each_front (Bracketed scope) (product_brackets m) (products_brackets ms) b))
      (products-names scope s ms (each_behind (NamesAre (IsKnown scope)) (product_leaves m) (products_leaves ms) a) (nothing_behind (product_findings scope (Some s) m) (flat_map (product_findings scope (Some s)) (more_products ms)) e) (each_behind (Bracketed scope) (product_brackets m) (products_brackets ms) b))
