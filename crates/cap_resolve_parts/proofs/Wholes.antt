-- A term with more than one factor, or more than one product, is no name alone.
use Rattle.std.proofs.Common.{◌≡◌, ℕ, ◌≤◌, List, [], ◌∷◌, length, map, Option, Some, None, is_some, true, false, true≢false, refl, ap, ◌∙◌, arith, rules}
use Rattle.cap_syntax.specs.declared.place.Place.{Place}
use Rattle.cap_parse_tree.specs.declared.term.Times.{Times}
use Rattle.cap_parse_tree.specs.declared.term.Addend.{Addend}
use Rattle.cap_parse_tree.specs.declared.term.Product.{Product, out-Product}
use Rattle.cap_parse_tree.specs.declared.term.Term.{Term, out-Term}
use Rattle.cap_parse_tree.specs.declared.term.Factor.TheFolds.{the_lemmas}
use Rattle.cap_parse_tree.specs.Tree.{FactorTree, literal, whole_share, named, bracketed, ProductTree, product, FactorTrees, no_factor, times, term, no_product}
use Rattle.cap_parse_tree.specs.Views.{factors_of, products_of, times_view, addend_view, factor_view, product_view, term_view}
use Rattle.cap_resolve_spec.specs.Parts.{whole_name}

pub more_factors : (f : FactorTree) (ts : List Times) → 1 ≤ length ts → whole_name (term None (product f (factors_of (map times_view ts))) no_product) ≡ None
more_factors f [] h = absurd (omega arith)
more_factors (literal n) (t ∷ ts) h = refl
more_factors (whole_share p) (t ∷ ts) h = refl
more_factors (named w) (t ∷ ts) h = refl
more_factors (bracketed p u q) (t ∷ ts) h = refl

pub more_products : (m : ProductTree) (more : List Addend) → 1 ≤ length more → whole_name (term None m (products_of (map addend_view more))) ≡ None
more_products m [] h = absurd (omega arith)
more_products (product (literal n) fs) (a ∷ more) h = refl
more_products (product (whole_share p) fs) (a ∷ more) h = refl
more_products (product (named w) no_factor) (a ∷ more) h = refl
more_products (product (named w) (times p f fs)) (a ∷ more) h = refl
more_products (product (bracketed p u q) fs) (a ∷ more) h = refl

pub long_product : (p : Product) → 1 ≤ length (out-Product p).more.items → whole_name (term None (product_view p) no_product) ≡ None
long_product p h =
    let e : product_view p ≡ product (factor_view (out-Product p).first) (factors_of (map times_view (out-Product p).more.items)) = search (rules, the_lemmas) in
    ap (λ m. whole_name (term None m no_product)) e ∙ more_factors (factor_view (out-Product p).first) (out-Product p).more.items h

pub long_term : (t : Term) → (out-Term t).minus ≡ None → 1 ≤ length (out-Term t).more.items → whole_name (term_view t) ≡ None
long_term t n h =
    let e : term_view t ≡ term (out-Term t).minus (product_view (out-Term t).first) (products_of (map addend_view (out-Term t).more.items)) = search (rules, the_lemmas) in
    ap whole_name e
    ∙ (ap (λ m. whole_name (term m (product_view (out-Term t).first) (products_of (map addend_view (out-Term t).more.items)))) n
    ∙ more_products (product_view (out-Term t).first) (out-Term t).more.items h)

pub not_some : {A : Type 0} (o : Option A) → is_some o ≡ false → o ≡ None
not_some None e = refl
not_some (Some a) e = absurd (true≢false e)
