-- A linear form has the value of its term as it is written.
use Rattle.std.proofs.Common.{◌≡◌, ℕ, ℤ, pos, negsuc, ◌+ℤ◌, ◌*ℤ◌, neg_ℤ, Bool, true, false, true≢false, ◌||◌, ◌&&◌, List, [], ◌∷◌, Option, Some, None, refl, sym, ap, ◌∙◌, arith, inl, inr, ◌⊎◌}
use Rattle.std.specs.List.{AllByRecursion, list_any}
use Rattle.std.proofs.lemmas.Int.{ints}
use Rattle.cap_syntax.specs.declared.place.Place.{Place}
use Rattle.cap_lin.specs.Linear.{Linear, number, variable, negative, multiples}
use Rattle.cap_lin.specs.Linear.{times as multiple}
use Rattle.cap_lin.specs.Values.{parts_value, value}
use Rattle.cap_lin.proofs.Values.{value-nil, value-plus, value-times}
use Rattle.cap_parse_tree.specs.declared.term.Sign.{Sign}
use Rattle.cap_parse_tree.specs.declared.term.Sign.TheVariants.{Plus, Minus}
use Rattle.cap_parse_tree.specs.Tree.{FactorTree, literal, whole_share, named, bracketed, ProductTree, product, FactorTrees, no_factor, times, TermTree, term, ProductTrees, no_product, signed}
use Rattle.cap_resolve_spec.specs.Finding.{found_if, nonlinear}
use Rattle.cap_resolve_spec.specs.Parts.{factor_leaves, is_name, holds_name, products, more_products, term_brackets, product_brackets, products_brackets, factor_brackets, factors_brackets}
use Rattle.cap_resolve_spec.specs.Names.{NameScope, variable_of}
use Rattle.cap_resolve_spec.specs.Linear.{product_of, product_by_parts, signed_sum, opened, factor_form, product_form, factors_form, term_form, products_form, opened_value, signed_value, factor_value, product_value, factors_value, term_value, products_value}
use Rattle.cap_resolve_spec.specs.Terms.{products_of_names, names_multiplied}
use Rattle.cap_resolve_spec.specs.Meaning.{HasNoProducts, HasValue}
use Rattle.cap_resolve_spec.proofs.Every.{each_front, each_behind}
use Rattle.cap_resolve_spec.proofs.Nothing.{nothing_front, nothing_behind, not_found}
use Rattle.cap_resolve_spec.proofs.Variables.{PartsAre, LeavesAre, factor-form-parts}

abbrev at-names : NameScope → (ℕ → ℤ) → List ℕ → ℤ
at-names scope n x = n (variable_of scope x)

number-value : (n : ℕ → ℤ) (k : ℤ) → value n (number k) ≡ k
unfolding value parts_value
number-value n k = omega (arith, ints)

variable-value : (n : ℕ → ℤ) (x : ℕ) → value n (variable x) ≡ n x
unfolding value parts_value
variable-value n x = omega (arith, ints)

constant-value : (n : ℕ → ℤ) (a : Linear) → a.parts ≡ [] → value n a ≡ a.constant
unfolding value
constant-value n a e = rw e (rw (value-nil n) (omega (arith, ints)))

swapped : (x y : ℤ) → y *ℤ x ≡ x *ℤ y
swapped x y = omega (arith, ints)

by-value : (n : ℕ → ℤ) (a b : Linear) (ps qs : List (ℕ × ℤ)) → a.parts ≡ ps → b.parts ≡ qs → (a.parts ≡ []) ⊎ (b.parts ≡ []) → value n (product_by_parts a b ps qs) ≡ value n a *ℤ value n b
by-value n a b ps [] e h c = value-times n b.constant a ∙ (ap (λ k. k *ℤ value n a) (sym (constant-value n b h)) ∙ swapped (value n a) (value n b))
by-value n a b [] (q ∷ qs) e h c = value-times n a.constant b ∙ ap (λ k. k *ℤ value n b) (sym (constant-value n a e))
by-value n a b (p ∷ ps) (q ∷ qs) e h (inl c) = absurd (nil-not (sym c ∙ e))
  where
    nil-not : [] ≡ p ∷ ps → ⊥
    nil-not d = cc
by-value n a b (p ∷ ps) (q ∷ qs) e h (inr c) = absurd (nil-not (sym c ∙ h))
  where
    nil-not : [] ≡ q ∷ qs → ⊥
    nil-not d = cc

product-of-value : (n : ℕ → ℤ) (a b : Linear) → (a.parts ≡ []) ⊎ (b.parts ≡ []) → value n (product_of a b) ≡ value n a *ℤ value n b
product-of-value n a b c = by-value n a b a.parts b.parts refl refl c

negative-value : (n : ℕ → ℤ) (a : Linear) → value n (negative a) ≡ neg_ℤ (value n a)
negative-value n a = value-times n (negsuc 0) a ∙ omega (arith, ints)

opened-value : (n : ℕ → ℤ) (p : Option Place) (a : Linear) → value n (opened p a) ≡ opened_value p (value n a)
opened-value n None a = refl
opened-value n (Some p) a = negative-value n a

signed-value : (n : ℕ → ℤ) (s : Sign) (a b : Linear) → value n (signed_sum s a b) ≡ signed_value s (value n a) (value n b)
signed-value n Plus a b = value-plus n a b
signed-value n Minus a b = value-plus n a (negative b) ∙ ap (λ z. value n a +ℤ z) (negative-value n b)

-- a factor without names has no parts
times-nil : (k : ℤ) (t : Linear) → t.parts ≡ [] → (multiple k t).parts ≡ []
unfolding multiple multiples
times-nil k t e = ap (multiples k) e

unnamed-leaves : (fs : List FactorTree) → list_any is_name fs ≡ false → LeavesAre (λ w. ⊥) fs
unnamed-leaves [] e = tt
unnamed-leaves (literal n ∷ fs) e = (tt, unnamed-leaves fs e)
unnamed-leaves (whole_share p ∷ fs) e = (tt, unnamed-leaves fs e)
unnamed-leaves (named w ∷ fs) e = absurd (true≢false e)
unnamed-leaves (bracketed p t q ∷ fs) e = (tt, unnamed-leaves fs e)

no-parts : (ps : List (ℕ × ℤ)) → PartsAre (λ x. ⊥) ps → ps ≡ []
no-parts [] a = refl
no-parts (p ∷ ps) a = absurd a.0

unnamed-parts : (scope : NameScope) (f : FactorTree) → holds_name f ≡ false → (factor_form scope f).parts ≡ []
unnamed-parts scope f e = no-parts (factor_form scope f).parts (factor-form-parts scope (λ x. ⊥) f (unnamed-leaves (factor_leaves f) e))

-- what was read up to now has no names, or parts with names
abbrev Known : Bool → Linear → Type 0
Known earlier a = earlier ≡ false → a.parts ≡ []

either-constant : (scope : NameScope) (earlier : Bool) (a : Linear) (f : FactorTree) → Known earlier a → (earlier && holds_name f) ≡ false → (a.parts ≡ []) ⊎ ((factor_form scope f).parts ≡ [])
either-constant scope true a f k e = inr (unnamed-parts scope f e)
either-constant scope false a f k e = inl (k refl)

times-none : (scope : NameScope) (earlier : Bool) (a : Linear) (f : FactorTree) → Known earlier a → Known (earlier || holds_name f) (product_of a (factor_form scope f))
times-none scope true a f k e = absurd (true≢false e)
times-none scope false a f k e = by a.parts (factor_form scope f).parts (k refl) (unnamed-parts scope f e)
  where
    by : (ps qs : List (ℕ × ℤ)) → ps ≡ [] → qs ≡ [] → (product_by_parts a (factor_form scope f) ps qs).parts ≡ []
    by ps qs x y = rw y (times-nil (factor_form scope f).constant a (k refl))

abbrev InBrackets : TermTree → Type 0
InBrackets u = AllByRecursion (λ m. names_multiplied m ≡ []) (products u)

mutual
  factor-reads : (scope : NameScope) (n : ℕ → ℤ) (f : FactorTree) → AllByRecursion InBrackets (factor_brackets f) → value n (factor_form scope f) ≡ factor_value (at-names scope n) f
  factor-reads scope n (literal l) b = number-value n (pos l.value)
  factor-reads scope n (whole_share p) b = number-value n (pos 1)
  factor-reads scope n (named w) b = variable-value n (variable_of scope w.text)
  factor-reads scope n (bracketed p t q) b = term-reads scope n t b.0 b.1

  product-reads : (scope : NameScope) (n : ℕ → ℤ) (m : ProductTree) → names_multiplied m ≡ [] → AllByRecursion InBrackets (product_brackets m) → value n (product_form scope m) ≡ product_value (at-names scope n) m
  product-reads scope n (product f fs) e b =
      factors-read scope n (holds_name f) (factor_form scope f) fs (λ h. unnamed-parts scope f h) e (each_behind InBrackets (factor_brackets f) (factors_brackets fs) b)
      ∙ ap (λ v. factors_value (at-names scope n) v fs) (factor-reads scope n f (each_front InBrackets (factor_brackets f) (factors_brackets fs) b))

  factors-read : (scope : NameScope) (n : ℕ → ℤ) (earlier : Bool) (a : Linear) (fs : FactorTrees) → Known earlier a → products_of_names earlier fs ≡ [] → AllByRecursion InBrackets (factors_brackets fs) → value n (factors_form scope a fs) ≡ factors_value (at-names scope n) (value n a) fs
  factors-read scope n earlier a no_factor k e b = refl
  factors-read scope n earlier a (times p f fs) k e b =
      factors-read scope n (earlier || holds_name f) (product_of a (factor_form scope f)) fs (times-none scope earlier a f k) (nothing_behind (found_if (earlier && holds_name f) p nonlinear) (products_of_names (earlier || holds_name f) fs) e) (each_behind InBrackets (factor_brackets f) (factors_brackets fs) b)
      ∙ ap (λ v. factors_value (at-names scope n) v fs)
      (product-of-value n a (factor_form scope f) (either-constant scope earlier a f k (not_found (earlier && holds_name f) p nonlinear (nothing_front (found_if (earlier && holds_name f) p nonlinear) (products_of_names (earlier || holds_name f) fs) e)))
      ∙ ap (λ v. value n a *ℤ v) (factor-reads scope n f (each_front InBrackets (factor_brackets f) (factors_brackets fs) b)))

  term-reads : (scope : NameScope) (n : ℕ → ℤ) (t : TermTree) → InBrackets t → AllByRecursion InBrackets (term_brackets t) → value n (term_form scope t) ≡ term_value (at-names scope n) t
  term-reads scope n (term p m ms) a b =
      products-read scope n (opened p (product_form scope m)) ms a.1 (each_behind InBrackets (product_brackets m) (products_brackets ms) b)
      ∙ ap (λ v. products_value (at-names scope n) v ms) (opened-value n p (product_form scope m) ∙ ap (opened_value p) (product-reads scope n m a.0 (each_front InBrackets (product_brackets m) (products_brackets ms) b)))

  products-read : (scope : NameScope) (n : ℕ → ℤ) (a : Linear) (ms : ProductTrees) → AllByRecursion (λ m. names_multiplied m ≡ []) (more_products ms) → AllByRecursion InBrackets (products_brackets ms) → value n (products_form scope a ms) ≡ products_value (at-names scope n) (value n a) ms
  products-read scope n a no_product e b = refl
  products-read scope n a (signed s p m ms) e b =
      products-read scope n (signed_sum s a (product_form scope m)) ms e.1 (each_behind InBrackets (product_brackets m) (products_brackets ms) b)
      ∙ ap (λ v. products_value (at-names scope n) v ms) (signed-value n s a (product_form scope m) ∙ ap (signed_value s (value n a)) (product-reads scope n m e.0 (each_front InBrackets (product_brackets m) (products_brackets ms) b)))

pub has-value : (scope : NameScope) (t : TermTree) → HasNoProducts t → HasValue scope t
has-value scope t h n = term-reads scope n t h.0 h.1
