-- The views of terms and their parts compute, and what is left of a list of parts at one of them.
use Rattle.std.proofs.Common.{◌≡◌, ℕ, suc, ◌+◌, ◌<◌, ◌≤◌, List, ◌∷◌, length, get_or, drop, ap, sym, ◌∙◌, add-one, drop-cons, rules}
use Rattle.std.proofs.lemmas.List.{drop_all}
use Rattle.cap_syntax.specs.declared.place.Place.{Place}
use Rattle.cap_parse_tree.specs.declared.word.Word.{Word}
use Rattle.cap_parse_tree.specs.declared.word.Literal.{Literal}
use Rattle.cap_parse_tree.specs.declared.term.Factor.TheVariants as code
use Rattle.cap_parse_tree.specs.declared.term.Factor.TheFolds.{the_lemmas}
use Rattle.cap_parse_tree.specs.declared.term.Times.{Times, out-Times}
use Rattle.cap_parse_tree.specs.declared.term.Product.{Product, out-Product}
use Rattle.cap_parse_tree.specs.declared.term.Addend.{Addend, out-Addend}
use Rattle.cap_parse_tree.specs.declared.term.Term.{Term, out-Term}
use Rattle.cap_parse_tree.specs.Tree.{literal, whole_share, named, product, no_factor, times, term, no_product, signed}
use Rattle.cap_parse_tree.specs.Views.{factor_view, times_view, product_view, addend_view, term_view, TimesTree, AddendTree}
use Rattle.cap_resolve_terms.proofs.Rests.{factors_view, products_view}

pub view-Number : (n : Literal) → factor_view (code.Number n) ≡ literal n
view-Number n = search (rules, the_lemmas)

pub view-WholeShare : (p : Place) → factor_view (code.WholeShare p) ≡ whole_share p
view-WholeShare p = search (rules, the_lemmas)

pub view-Name : (w : Word) → factor_view (code.Name w) ≡ named w
view-Name w = search (rules, the_lemmas)

pub view-Times : (t : Times) → times_view t ≡ ((out-Times t).star, factor_view (out-Times t).factor)
view-Times t = search (rules, the_lemmas)

pub view-Product : (m : Product) → product_view m ≡ product (factor_view (out-Product m).first) (factors_view (out-Product m).more.items)
view-Product m = search (rules, the_lemmas)

pub view-Addend : (a : Addend) → addend_view a ≡ record { sign = (out-Addend a).sign; place = (out-Addend a).place; product = product_view (out-Addend a).product }
view-Addend a = search (rules, the_lemmas)

pub view-Term : (t : Term) → term_view t ≡ term (out-Term t).minus (product_view (out-Term t).first) (products_view (out-Term t).more.items)
view-Term t = search (rules, the_lemmas)

-- ---- what is left

dropped : {A : Type 0} (ts : List A) (i : ℕ) (r : A) → i < length ts → r ≡ get_or ts i r → drop i ts ≡ r ∷ drop (i + 1) ts
dropped ts i r h e = drop-cons ts i r h ∙ (ap (λ x. x ∷ drop (suc i) ts) (sym e) ∙ ap (λ n. r ∷ drop n ts) (sym (add-one i)))

pub factors-rest : (ts : List Times) (i : ℕ) (r : Times) → i < length ts → r ≡ get_or ts i r → factors_view (drop i ts) ≡ times (out-Times r).star (factor_view (out-Times r).factor) (factors_view (drop (i + 1) ts))
factors-rest ts i r h e =
    ap factors_view (dropped ts i r h e)
    ∙ ap (λ (x : TimesTree). times x.0 x.1 (factors_view (drop (i + 1) ts))) (view-Times r)

pub products-rest : (ts : List Addend) (i : ℕ) (r : Addend) → i < length ts → r ≡ get_or ts i r → products_view (drop i ts) ≡ signed (out-Addend r).sign (out-Addend r).place (product_view (out-Addend r).product) (products_view (drop (i + 1) ts))
products-rest ts i r h e =
    ap products_view (dropped ts i r h e)
    ∙ ap (λ (x : AddendTree). signed x.sign x.place x.product (products_view (drop (i + 1) ts))) (view-Addend r)

pub factors-done : (ts : List Times) (i : ℕ) → length ts ≤ i → factors_view (drop i ts) ≡ no_factor
factors-done ts i h = ap factors_view (drop_all i ts h)

pub products-done : (ts : List Addend) (i : ℕ) → length ts ≤ i → products_view (drop i ts) ≡ no_product
products-done ts i h = ap products_view (drop_all i ts h)
