-- The results on the way to a form, and the form, once one more part is read.
use Rattle.std.proofs.Common.{◌≡◌, ℤ, List, ◌++◌, ap, sym, subst, ◌∙◌, Option, None}
use Rattle.cap_syntax.specs.declared.place.Place.{Place}
use Rattle.cap_lin.specs.Linear.{Linear}
use Rattle.cap_lin.specs.Steps.{Step, first_wide}
use Rattle.cap_lin.specs.Exact.{Explains}
use Rattle.cap_lin.specs.declared.error.LinError.{LinError}
use Rattle.cap_lin.proofs.Results.{first_wide-nil, first-narrow, explains_same, explains_first, explains_later}
use Rattle.cap_parse_tree.specs.declared.term.Sign.{Sign}
use Rattle.cap_parse_tree.specs.Tree.{FactorTree, FactorTrees, no_factor, times, ProductTree, product, ProductTrees, no_product, signed, TermTree, term}
use Rattle.cap_resolve_spec.specs.Names.{NameScope}
use Rattle.cap_resolve_spec.specs.Linear.{product_of, product_steps, signed_sum, signed_steps, factor_form, factor_steps, factors_form, factors_steps, opened, opened_steps, term_form, term_steps, product_form, products_of_steps, products_form, products_steps}

-- ---- three lists of results in a row, where a number is replaced by what it is

first-stops : (e : LinError) (all whole xs more : List Step) → all ≡ xs ++ more → first_wide all ≡ first_wide whole → Explains e xs → Explains e whole
first-stops e all whole xs more r h x = explains_same e whole (xs ++ more) (sym h ∙ ap first_wide r) (explains_first e xs more x)

second-stops : (e : LinError) (all whole xs ys zs : List Step) → all ≡ xs ++ (ys ++ zs) → first_wide all ≡ first_wide whole → first_wide xs ≡ None → Explains e ys → Explains e whole
second-stops e all whole xs ys zs r h n y = explains_same e whole (xs ++ (ys ++ zs)) (sym h ∙ ap first_wide r) (explains_later e xs (ys ++ zs) n (explains_first e ys zs y))

third-stays : (whole : Option (ℤ × ℤ)) (all xs ys zs : List Step) → all ≡ xs ++ (ys ++ zs) → first_wide all ≡ whole → first_wide xs ≡ None → first_wide ys ≡ None → first_wide zs ≡ whole
third-stays whole all xs ys zs r h n m = sym (first-narrow xs (ys ++ zs) n ∙ first-narrow ys zs m) ∙ (sym (ap first_wide r) ∙ h)

-- ---- a factor more

module _ (scope : NameScope) (a : Linear) (rest : FactorTrees) (p : Place) (f : FactorTree) (fs : FactorTrees) (is : rest ≡ times p f fs) where
  pub factor-stops : (e : LinError) (whole : List Step) → first_wide (factors_steps scope a rest) ≡ first_wide whole → Explains e (factor_steps scope f) → Explains e whole
  factor-stops e whole h x = first-stops e _ whole _ _ (ap (factors_steps scope a) is) h x

  pub times-stops : (e : LinError) (whole : List Step) (b : Linear) → first_wide (factors_steps scope a rest) ≡ first_wide whole → first_wide (factor_steps scope f) ≡ None → b ≡ factor_form scope f → Explains e (product_steps a b) → Explains e whole
  times-stops e whole b h n d x = second-stops e _ whole _ _ _ (ap (factors_steps scope a) is) h n (subst (λ y. Explains e (product_steps a y)) d x)

  pub times-steps : (whole : Option (ℤ × ℤ)) (b c : Linear) → first_wide (factors_steps scope a rest) ≡ whole → first_wide (factor_steps scope f) ≡ None → b ≡ factor_form scope f → first_wide (product_steps a b) ≡ None → c ≡ product_of a b → first_wide (factors_steps scope c fs) ≡ whole
  times-steps whole b c h n d m k =
      ap (λ x. first_wide (factors_steps scope x fs)) (k ∙ ap (product_of a) d)
      ∙ third-stays whole _ _ _ _ (ap (factors_steps scope a) is) h n (sym (ap (λ x. first_wide (product_steps a x)) d) ∙ m)

  pub times-form : (whole : Linear) (b c : Linear) → factors_form scope a rest ≡ whole → b ≡ factor_form scope f → c ≡ product_of a b → factors_form scope c fs ≡ whole
  times-form whole b c h d k =
      ap (λ x. factors_form scope x fs) (k ∙ ap (product_of a) d) ∙ (sym (ap (factors_form scope a) is) ∙ h)

-- ---- a product more

module _ (scope : NameScope) (a : Linear) (rest : ProductTrees) (s : Sign) (p : Place) (f : ProductTree) (fs : ProductTrees) (is : rest ≡ signed s p f fs) where
  pub product-stops : (e : LinError) (whole : List Step) → first_wide (products_steps scope a rest) ≡ first_wide whole → Explains e (products_of_steps scope f) → Explains e whole
  product-stops e whole h x = first-stops e _ whole _ _ (ap (products_steps scope a) is) h x

  pub sum-stops : (e : LinError) (whole : List Step) (b : Linear) → first_wide (products_steps scope a rest) ≡ first_wide whole → first_wide (products_of_steps scope f) ≡ None → b ≡ product_form scope f → Explains e (signed_steps s a b) → Explains e whole
  sum-stops e whole b h n d x = second-stops e _ whole _ _ _ (ap (products_steps scope a) is) h n (subst (λ y. Explains e (signed_steps s a y)) d x)

  pub sum-steps : (whole : Option (ℤ × ℤ)) (b c : Linear) → first_wide (products_steps scope a rest) ≡ whole → first_wide (products_of_steps scope f) ≡ None → b ≡ product_form scope f → first_wide (signed_steps s a b) ≡ None → c ≡ signed_sum s a b → first_wide (products_steps scope c fs) ≡ whole
  sum-steps whole b c h n d m k =
      ap (λ x. first_wide (products_steps scope x fs)) (k ∙ ap (signed_sum s a) d)
      ∙ third-stays whole _ _ _ _ (ap (products_steps scope a) is) h n (sym (ap (λ x. first_wide (signed_steps s a x)) d) ∙ m)

  pub sum-form : (whole : Linear) (b c : Linear) → products_form scope a rest ≡ whole → b ≡ product_form scope f → c ≡ signed_sum s a b → products_form scope c fs ≡ whole
  sum-form whole b c h d k =
      ap (λ x. products_form scope x fs) (k ∙ ap (signed_sum s a) d) ∙ (sym (ap (products_form scope a) is) ∙ h)

-- ---- the first part

module _ (scope : NameScope) (m : ProductTree) (f : FactorTree) (fs rest : FactorTrees) (is : m ≡ product f fs) (left : rest ≡ fs) where
  pub product-begins : (b : Linear) → first_wide (factor_steps scope f) ≡ None → b ≡ factor_form scope f → first_wide (factors_steps scope b rest) ≡ first_wide (products_of_steps scope m)
  product-begins b n d =
      ap (λ x. first_wide (factors_steps scope b x)) left
      ∙ (ap (λ x. first_wide (factors_steps scope x fs)) d
      ∙ sym (ap (λ x. first_wide (products_of_steps scope x)) is ∙ first-narrow (factor_steps scope f) _ n))

  pub product-opens : (b : Linear) → b ≡ factor_form scope f → factors_form scope b rest ≡ product_form scope m
  product-opens b d = ap (factors_form scope b) left ∙ (ap (λ x. factors_form scope x fs) d ∙ sym (ap (product_form scope) is))

module _ (scope : NameScope) (t : TermTree) (p : Option Place) (f : ProductTree) (fs rest : ProductTrees) (is : t ≡ term p f fs) (left : rest ≡ fs) where
  pub opened-stops : (e : LinError) (b : Linear) → first_wide (products_of_steps scope f) ≡ None → b ≡ product_form scope f → Explains e (opened_steps p b) → Explains e (term_steps scope t)
  opened-stops e b n d x =
      subst (λ u. Explains e (term_steps scope u)) (sym is)
      (explains_later e (products_of_steps scope f) _ n (explains_first e (opened_steps p (product_form scope f)) _ (subst (λ y. Explains e (opened_steps p y)) d x)))

  pub term-begins : (b c : Linear) → first_wide (products_of_steps scope f) ≡ None → b ≡ product_form scope f → first_wide (opened_steps p b) ≡ None → c ≡ opened p b → first_wide (products_steps scope c rest) ≡ first_wide (term_steps scope t)
  term-begins b c n d m k =
      ap (λ x. first_wide (products_steps scope c x)) left
      ∙ (ap (λ x. first_wide (products_steps scope x fs)) (k ∙ ap (opened p) d)
      ∙ sym (ap (λ x. first_wide (term_steps scope x)) is
      ∙ (first-narrow (products_of_steps scope f) _ n
      ∙ first-narrow (opened_steps p (product_form scope f)) _ (sym (ap (λ x. first_wide (opened_steps p x)) d) ∙ m))))

  pub term-opens : (b c : Linear) → b ≡ product_form scope f → c ≡ opened p b → products_form scope c rest ≡ term_form scope t
  term-opens b c d k =
      ap (products_form scope c) left
      ∙ (ap (λ x. products_form scope x fs) (k ∙ ap (opened p) d) ∙ sym (ap (term_form scope) is))

-- ---- the end

pub factors-narrow : (scope : NameScope) (a : Linear) (rest : FactorTrees) (whole : Option (ℤ × ℤ)) → rest ≡ no_factor → first_wide (factors_steps scope a rest) ≡ whole → whole ≡ None
factors-narrow scope a rest whole is h = sym h ∙ (ap (λ x. first_wide (factors_steps scope a x)) is ∙ first_wide-nil)

pub factors-made : (scope : NameScope) (a : Linear) (rest : FactorTrees) (whole : Linear) → rest ≡ no_factor → factors_form scope a rest ≡ whole → a ≡ whole
factors-made scope a rest whole is h = sym (ap (factors_form scope a) is) ∙ h

pub products-narrow : (scope : NameScope) (a : Linear) (rest : ProductTrees) (whole : Option (ℤ × ℤ)) → rest ≡ no_product → first_wide (products_steps scope a rest) ≡ whole → whole ≡ None
products-narrow scope a rest whole is h = sym h ∙ (ap (λ x. first_wide (products_steps scope a x)) is ∙ first_wide-nil)

pub products-made : (scope : NameScope) (a : Linear) (rest : ProductTrees) (whole : Linear) → rest ≡ no_product → products_form scope a rest ≡ whole → a ≡ whole
products-made scope a rest whole is h = sym (ap (products_form scope a) is) ∙ h
