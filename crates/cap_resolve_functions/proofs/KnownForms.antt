-- The linear form of a term, and the results on the way to it, depend on its known names alone.
use Rattle.std.proofs.Common.{◌≡◌, List, ◌++◌, refl, ap, ◌∙◌}
use Rattle.cap_lin.specs.Linear.{Linear, variable}
use Rattle.cap_parse_tree.specs.Tree.{FactorTree, literal, whole_share, named, bracketed, ProductTree, product, FactorTrees, no_factor, times, TermTree, term, ProductTrees, no_product, signed}
use Rattle.cap_resolve_spec.specs.Parts.{factor_leaves, product_leaves, factors_leaves, term_leaves, products_leaves}
use Rattle.cap_resolve_spec.specs.Names.{NameScope}
use Rattle.cap_resolve_spec.specs.Linear.{product_of, product_steps, signed_sum, signed_steps, opened, opened_steps, factor_form, product_form, factors_form, term_form, products_form, factor_steps, products_of_steps, factors_steps, term_steps, products_steps}
use Rattle.cap_resolve_spec.proofs.Every.{each_front, each_behind}
use Rattle.cap_resolve_spec.proofs.Sorts.{IsKnown}
use Rattle.cap_resolve_spec.proofs.Variables.{NamesAre, LeavesAre}
use Rattle.cap_resolve_terms.proofs.Numbers.{variable-known}

abbrev AreKnown : NameScope → List FactorTree → Type 0
AreKnown scope fs = LeavesAre (IsKnown scope) fs

factor-front : (scope : NameScope) (f : FactorTree) (fs : FactorTrees) → AreKnown scope (factor_leaves f ++ factors_leaves fs) → AreKnown scope (factor_leaves f)
factor-front scope f fs a = each_front (NamesAre (IsKnown scope)) (factor_leaves f) (factors_leaves fs) a

factors-behind : (scope : NameScope) (f : FactorTree) (fs : FactorTrees) → AreKnown scope (factor_leaves f ++ factors_leaves fs) → AreKnown scope (factors_leaves fs)
factors-behind scope f fs a = each_behind (NamesAre (IsKnown scope)) (factor_leaves f) (factors_leaves fs) a

product-front : (scope : NameScope) (m : ProductTree) (ms : ProductTrees) → AreKnown scope (product_leaves m ++ products_leaves ms) → AreKnown scope (product_leaves m)
product-front scope m ms a = each_front (NamesAre (IsKnown scope)) (product_leaves m) (products_leaves ms) a

products-behind : (scope : NameScope) (m : ProductTree) (ms : ProductTrees) → AreKnown scope (product_leaves m ++ products_leaves ms) → AreKnown scope (products_leaves ms)
products-behind scope m ms a = each_behind (NamesAre (IsKnown scope)) (product_leaves m) (products_leaves ms) a

mutual
  factor-form-same : (scope more : NameScope) (f : FactorTree) → AreKnown scope (factor_leaves f) → factor_form (scope ++ more) f ≡ factor_form scope f
  factor-form-same scope more (literal n) a = refl
  factor-form-same scope more (whole_share p) a = refl
  factor-form-same scope more (named w) a = ap variable (variable-known scope more w.text a.0)
  factor-form-same scope more (bracketed p t q) a = term-form-same scope more t a

  product-form-same : (scope more : NameScope) (m : ProductTree) → AreKnown scope (product_leaves m) → product_form (scope ++ more) m ≡ product_form scope m
  product-form-same scope more (product f fs) a =
      ap (λ x. factors_form (scope ++ more) x fs) (factor-form-same scope more f (factor-front scope f fs a))
      ∙ factors-form-same scope more fs (factor_form scope f) (factors-behind scope f fs a)

  factors-form-same : (scope more : NameScope) (fs : FactorTrees) (x : Linear) → AreKnown scope (factors_leaves fs) → factors_form (scope ++ more) x fs ≡ factors_form scope x fs
  factors-form-same scope more no_factor x a = refl
  factors-form-same scope more (times p f fs) x a =
      ap (λ y. factors_form (scope ++ more) (product_of x y) fs) (factor-form-same scope more f (factor-front scope f fs a))
      ∙ factors-form-same scope more fs (product_of x (factor_form scope f)) (factors-behind scope f fs a)

  term-form-same : (scope more : NameScope) (t : TermTree) → AreKnown scope (term_leaves t) → term_form (scope ++ more) t ≡ term_form scope t
  term-form-same scope more (term p m ms) a =
      ap (λ y. products_form (scope ++ more) (opened p y) ms) (product-form-same scope more m (product-front scope m ms a))
      ∙ products-form-same scope more ms (opened p (product_form scope m)) (products-behind scope m ms a)

  products-form-same : (scope more : NameScope) (ms : ProductTrees) (x : Linear) → AreKnown scope (products_leaves ms) → products_form (scope ++ more) x ms ≡ products_form scope x ms
  products-form-same scope more no_product x a = refl
  products-form-same scope more (signed s p m ms) x a =
      ap (λ y. products_form (scope ++ more) (signed_sum s x y) ms) (product-form-same scope more m (product-front scope m ms a))
      ∙ products-form-same scope more ms (signed_sum s x (product_form scope m)) (products-behind scope m ms a)

mutual
  factor-steps-same : (scope more : NameScope) (f : FactorTree) → AreKnown scope (factor_leaves f) → factor_steps (scope ++ more) f ≡ factor_steps scope f
  factor-steps-same scope more (literal n) a = refl
  factor-steps-same scope more (whole_share p) a = refl
  factor-steps-same scope more (named w) a = refl
  factor-steps-same scope more (bracketed p t q) a = term-steps-same scope more t a

  product-steps-same : (scope more : NameScope) (m : ProductTree) → AreKnown scope (product_leaves m) → products_of_steps (scope ++ more) m ≡ products_of_steps scope m
  product-steps-same scope more (product f fs) a =
      ap (λ xs. xs ++ factors_steps (scope ++ more) (factor_form (scope ++ more) f) fs) (factor-steps-same scope more f (factor-front scope f fs a))
      ∙ (ap (λ x. factor_steps scope f ++ factors_steps (scope ++ more) x fs) (factor-form-same scope more f (factor-front scope f fs a))
      ∙ ap (λ xs. factor_steps scope f ++ xs) (factors-steps-same scope more fs (factor_form scope f) (factors-behind scope f fs a)))

  factors-steps-same : (scope more : NameScope) (fs : FactorTrees) (x : Linear) → AreKnown scope (factors_leaves fs) → factors_steps (scope ++ more) x fs ≡ factors_steps scope x fs
  factors-steps-same scope more no_factor x a = refl
  factors-steps-same scope more (times p f fs) x a =
      ap (λ xs. xs ++ (product_steps x (factor_form (scope ++ more) f) ++ factors_steps (scope ++ more) (product_of x (factor_form (scope ++ more) f)) fs)) (factor-steps-same scope more f (factor-front scope f fs a))
      ∙ (ap (λ y. factor_steps scope f ++ (product_steps x y ++ factors_steps (scope ++ more) (product_of x y) fs)) (factor-form-same scope more f (factor-front scope f fs a))
      ∙ ap (λ xs. factor_steps scope f ++ (product_steps x (factor_form scope f) ++ xs)) (factors-steps-same scope more fs (product_of x (factor_form scope f)) (factors-behind scope f fs a)))

  pub term-steps-same : (scope more : NameScope) (t : TermTree) → AreKnown scope (term_leaves t) → term_steps (scope ++ more) t ≡ term_steps scope t
  term-steps-same scope more (term p m ms) a =
      ap (λ xs. xs ++ (opened_steps p (product_form (scope ++ more) m) ++ products_steps (scope ++ more) (opened p (product_form (scope ++ more) m)) ms)) (product-steps-same scope more m (product-front scope m ms a))
      ∙ (ap (λ y. products_of_steps scope m ++ (opened_steps p y ++ products_steps (scope ++ more) (opened p y) ms)) (product-form-same scope more m (product-front scope m ms a))
      ∙ ap (λ xs. products_of_steps scope m ++ (opened_steps p (product_form scope m) ++ xs)) (products-steps-same scope more ms (opened p (product_form scope m)) (products-behind scope m ms a)))

  products-steps-same : (scope more : NameScope) (ms : ProductTrees) (x : Linear) → AreKnown scope (products_leaves ms) → products_steps (scope ++ more) x ms ≡ products_steps scope x ms
  products-steps-same scope more no_product x a = refl
  products-steps-same scope more (signed s p m ms) x a =
      ap (λ xs. xs ++ (signed_steps s x (product_form (scope ++ more) m) ++ products_steps (scope ++ more) (signed_sum s x (product_form (scope ++ more) m)) ms)) (product-steps-same scope more m (product-front scope m ms a))
      ∙ (ap (λ y. products_of_steps scope m ++ (signed_steps s x y ++ products_steps (scope ++ more) (signed_sum s x y) ms)) (product-form-same scope more m (product-front scope m ms a))
      ∙ ap (λ xs. products_of_steps scope m ++ (signed_steps s x (product_form scope m) ++ xs)) (products-steps-same scope more ms (signed_sum s x (product_form scope m)) (products-behind scope m ms a)))
