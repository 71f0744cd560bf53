-- The element of a form: there is one alone, and by a track's values it is told of.
use Rattle.std.proofs.Common.{◌≡◌, ℕ, suc, ◌*◌, ◌<◌, ℤ, pos, ◌*ℤ◌, List, ◌∷◌, Bool, true, false, Some, None, refl, sym, ap, ◌∙◌, subst, arith}
use Rattle.std.specs.Prelude.{if◌then◌else◌}
use Rattle.cap_lin.specs.Linear.{Linear}
use Rattle.cap_lin.specs.Values.{Valuation, value, amount}
use Rattle.cap_lin.specs.Steps.{Step, product_of, value_steps}
use Rattle.cap_machine.specs.Results.{are_narrow}
use Rattle.cap_galg.specs.cap_galg_spec.declared.fraction.Fraction.{Fraction}
use Rattle.cap_galg.specs.Fractions.{IsShare, lowest}
use Rattle.cap_galg.specs.Laws.Fractions.{lowest-is, equal, cancel}
use Rattle.cap_galg.specs.Elements.{Element, share, src, tokens, indices, index_set}
use Rattle.cap_galg_indices.specs.Sets.{indices_from, index_range}
use Rattle.cap_gsolve.specs.declared.piece.Form.{Form}
use Rattle.cap_gsolve.specs.declared.piece.Form.TheVariants.{One, Share, Src, Tok, Span}
use Rattle.cap_gsolve.specs.Meaning.{IsFormElement}
use Rattle.cap_gsolve.proofs.Amounts.{natural-amount}
use Rattle.cap_machine_accounts.specs.Assertions.{NameValue}
use Rattle.cap_owners_spec.specs.Traced.{traced, past_width, ◌>>=◌, computed, over, valuation, number_in, amount_in}
use Rattle.cap_owners_spec.specs.Filling.{share_element, counted, range_element, form_element}
use Rattle.cap_owners_laws.specs.Owned.{IsTold}
use Rattle.cap_owners_walks_laws.proofs.Parts.Telling.{told-on}

-- ---- terms

computed-so : (z : ℤ) (steps : List Step) → IsTold (λ y. y ≡ z) (computed z steps)
computed-so z steps = by (are_narrow steps)
  where
    by : (b : Bool) → IsTold (λ y. y ≡ z) (if b then traced z else past_width)
    by true = refl
    by false = tt

pub number-so :
    (vs : List NameValue) (t : Linear) →
    IsTold (λ y. y ≡ value (valuation vs).whole t) (number_in vs t)
number-so vs t =
    computed-so (value (valuation vs).whole t)
    (value_steps (valuation vs).whole t.constant t.parts)

pub amount-so :
    (vs : List NameValue) (t : Linear) →
    IsTold (λ y. y ≡ amount (valuation vs).fraction t) (amount_in vs t)
amount-so vs t =
    computed-so (amount (valuation vs).fraction t)
    (product_of t.constant (pos over)
    ∷ value_steps (valuation vs).fraction.numerator (t.constant *ℤ pos over) t.parts)

-- ---- there is one element alone

pos-same : (m n : ℕ) → pos m ≡ pos n → m ≡ n
pos-same m n e = cc

-- fractions of one value are one
same-ratio :
    (a b c d u m : ℕ) → a * suc u ≡ m * b → c * suc u ≡ m * d → a * d ≡ c * b
same-ratio a b c d u m e f =
    cancel (suc u) (a * d) (c * b) (omega arith)
    (omega (arith, ap (λ w. w * d) e, ap (λ w. w * b) f))

pub form-only :
    (v : Valuation) (f : Form) (x y : Element) → IsFormElement v f x → IsFormElement v f y → x ≡ y
form-only v One x y h k = h ∙ sym k
form-only v (Share t) x y h k =
    let m = natural-amount v t h.0 h.1 h.2 in
    let n = natural-amount v t k.0 k.1 k.2 in
    let same : m.number ≡ n.number = pos-same m.number n.number (sym m.is ∙ n.is) in
    let r = same-ratio h.0.num h.0.den k.0.num k.0.den v.fraction.under n.number
    (subst (λ w. h.0.num * suc v.fraction.under ≡ w * h.0.den) same m.ratio) n.ratio in
    h.3 ∙ ap share (equal h.0 k.0 h.1.amount.lowest k.1.amount.lowest r) ∙ sym k.3
form-only v (Src t) x y h k = h.2 ∙ ap src (pos-same h.0 k.0 (sym h.1 ∙ k.1)) ∙ sym k.2
form-only v (Tok t) x y h k = h.2 ∙ ap tokens (pos-same h.0 k.0 (sym h.1 ∙ k.1)) ∙ sym k.2
form-only v (Span a None) x y h k =
    h.2 ∙ ap (λ i. indices (indices_from i)) (pos-same h.0 k.0 (sym h.1 ∙ k.1)) ∙ sym k.2
form-only v (Span a (Some e)) x y h k =
    h.5 ∙ ap (λ i. index_set (index_range i h.1)) (pos-same h.0 k.0 (sym h.2 ∙ k.2))
    ∙ ap (λ j. index_set (index_range k.0 j)) (pos-same h.1 k.1 (sym h.3 ∙ k.3)) ∙ sym k.5

-- ---- it is told of

pub counted-so :
    (make : ℕ → Element) (z : ℤ) (n : ℕ) (x : Element) → z ≡ pos n → x ≡ make n →
    IsTold (λ y. y ≡ x) (counted make z)
counted-so make z n x e f =
    subst (λ w. IsTold (λ y. y ≡ x) (counted make w)) (sym e) (sym f)

-- a fraction over the one denominator, in lowest terms
over-share :
    (d m : ℕ) (f : Fraction) → 0 < d → IsShare f → f.num * d ≡ m * f.den → lowest m d ≡ f
over-share d m f h s e =
    let r = lowest-is m d h in
    equal (lowest m d) f r.lowest s.amount.lowest
    (cancel d ((lowest m d).num * f.den) (f.num * (lowest m d).den) h
    (omega (arith, ap (λ w. w * f.den) r.value, ap (λ w. w * (lowest m d).den) e)))

pub share-so :
    (z : ℤ) (m : ℕ) (f : Fraction) (x : Element) → z ≡ pos m → IsShare f →
    f.num * over ≡ m * f.den → x ≡ share f → IsTold (λ y. y ≡ x) (share_element z)
share-so z m f x e s r is =
    subst (λ w. IsTold (λ y. y ≡ x) (share_element w)) (sym e)
    (ap share (over-share over m f (omega arith) s r) ∙ sym is)

pub form-told :
    (vs : List NameValue) (f : Form) (x : Element) → IsFormElement (valuation vs) f x →
    IsTold (λ y. y ≡ x) (form_element vs f)
form-told vs One x h = sym h
form-told vs (Share t) x h =
    let v = valuation vs in
    let m = natural-amount v t h.0 h.1 h.2 in
    let r : h.0.num * over ≡ m.number * h.0.den = (let q = m.ratio in omega (arith, q)) in
    told-on (λ z. z ≡ amount v.fraction t) (λ y. y ≡ x) (amount_in vs t) share_element
    (amount-so vs t) (λ z e. share-so z m.number h.0 x (e ∙ m.is) h.1 r h.3)
form-told vs (Src t) x h =
    told-on (λ z. z ≡ value (valuation vs).whole t) (λ y. y ≡ x) (number_in vs t) (counted src)
    (number-so vs t) (λ z e. counted-so src z h.0 x (e ∙ h.1) h.2)
form-told vs (Tok t) x h =
    told-on (λ z. z ≡ value (valuation vs).whole t) (λ y. y ≡ x) (number_in vs t) (counted tokens)
    (number-so vs t) (λ z e. counted-so tokens z h.0 x (e ∙ h.1) h.2)
form-told vs (Span a None) x h =
    told-on (λ z. z ≡ value (valuation vs).whole a) (λ y. y ≡ x) (number_in vs a)
    (counted (λ i. indices (indices_from i))) (number-so vs a)
    (λ z e. counted-so (λ i. indices (indices_from i)) z h.0 x (e ∙ h.1) h.2)
form-told vs (Span a (Some e)) x h =
    let v = valuation vs in
    told-on (λ z. z ≡ value v.whole a) (λ y. y ≡ x) (number_in vs a)
    (λ i. number_in vs e >>= λ j. range_element i j) (number-so vs a)
    (λ i p. told-on (λ z. z ≡ value v.whole e) (λ y. y ≡ x) (number_in vs e) (range_element i)
    (number-so vs e)
    (λ j q. subst (λ w. IsTold (λ y. y ≡ x) (range_element w j)) (sym (p ∙ h.2))
    (subst (λ w. IsTold (λ y. y ≡ x) (range_element (pos h.0) w)) (sym (q ∙ h.3)) (sym h.5))))
