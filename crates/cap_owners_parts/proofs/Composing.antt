-- Composition by parts, where counts stay within 128 bits.
use Rattle.std.proofs.Common.{◌≡◌, ℕ, ◌-◌, nat_lt, refl, sym, ◌∙◌, Bool, true, false, Option, Some, None}
use Rattle.std.specs.Prelude.{◌&&◌, if◌then◌else◌}
use Rattle.cap_galg.specs.Elements.{Element, nothing, one, share, tok, src, indices, both, whole, left, right, is_unit, is_full, on_left, on_right, bind, compose}
use Rattle.cap_galg.specs.Algebras.{PlainAlgebra, unique, divisible, counting, indexed, product, sum, atoms, at_atom, atom_element}
use Rattle.cap_owners_spec.specs.Traced.{traced, past_width, untold, ◌>>=◌}
use Rattle.cap_owners_spec.specs.Filling.{counts_fit}
use Rattle.cap_owners_parts.specs.Composed.{composed_element, fitted, paired}

both-fit : (s t : Bool) (x y : Element) → (if s && t then traced (both x y) else past_width) ≡ paired (if s then traced x else past_width) (if t then traced y else past_width)
both-fit true true x y = refl
both-fit true false x y = refl
both-fit false true x y = refl
both-fit false false x y = refl

untold-second : (t : Bool) (x : Element) → untold ≡ paired (if t then traced x else past_width) untold
untold-second true x = refl
untold-second false x = refl

both-by : (o p : Option Element) → fitted (bind o (λ x. bind p (λ y. Some (both x y)))) ≡ paired (fitted o) (fitted p)
both-by None p = refl
both-by (Some x) None = untold-second (counts_fit x) x
both-by (Some x) (Some y) = both-fit (counts_fit x) (counts_fit y) x y

pub composed_both : (a b c d : Element) → composed_element (both a b) (both c d) ≡ paired (composed_element a c) (composed_element b d)
composed_both a b c d = both-by (compose a c) (compose b d)

-- a full element has no tokens
and-true : (a b : Bool) → (a && b) ≡ true → (a ≡ true) × (b ≡ true)
and-true true b e = (refl, e)
and-true false b e = absurd (cc)

both-true : (a b : Bool) → a ≡ true → b ≡ true → (a && b) ≡ true
both-true a b e d = rw e d

pub full_fits : (x : Element) → is_full x ≡ true → counts_fit x ≡ true
full_fits nothing e = refl
full_fits one e = refl
full_fits (share f) e = refl
full_fits (tok k) e = absurd (cc)
full_fits (src n) e = refl
full_fits (indices xs) e = refl
full_fits (both x y) e = let p = and-true (is_full x) (is_full y) e in both-true _ _ (full_fits x p.0) (full_fits y p.1)
full_fits whole e = refl
full_fits (left x) e = absurd (cc)
full_fits (right y) e = absurd (cc)

left-fits : (b : Bool) (x : Element) → is_full x ≡ b → counts_fit (if b then whole else left x) ≡ counts_fit x
left-fits true x e = sym (full_fits x e)
left-fits false x e = refl

right-fits : (b : Bool) (x : Element) → is_full x ≡ b → counts_fit (if b then whole else right x) ≡ counts_fit x
right-fits true x e = sym (full_fits x e)
right-fits false x e = refl

pub on_left_fits : (x : Element) → counts_fit (on_left x) ≡ counts_fit x
on_left_fits x = left-fits (is_full x) x refl

pub on_right_fits : (x : Element) → counts_fit (on_right x) ≡ counts_fit x
on_right_fits x = right-fits (is_full x) x refl

side-by : (f : Element → Element) → ((x : Element) → counts_fit (f x) ≡ counts_fit x) → (o : Option Element) → fitted (bind o (λ z. Some (f z))) ≡ (fitted o >>= λ z. traced (f z))
side-by f h None = refl
side-by f h (Some z) = rw (h z) (by (counts_fit z))
  where
    by : (b : Bool) → (if b then traced (f z) else past_width) ≡ ((if b then traced z else past_width) >>= λ u. traced (f u))
    by true = refl
    by false = refl

pub composed_left : (x y : Element) → composed_element (left x) (left y) ≡ (composed_element x y >>= λ z. traced (on_left z))
composed_left x y = side-by on_left on_left_fits (compose x y)

pub composed_right : (x y : Element) → composed_element (right x) (right y) ≡ (composed_element x y >>= λ z. traced (on_right z))
composed_right x y = side-by on_right on_right_fits (compose x y)

-- ---- one atom's element

pair-fits : (t : Bool) (x y : Element) → counts_fit x ≡ true → counts_fit y ≡ true → counts_fit (if t then both x nothing else both nothing y) ≡ true
pair-fits true x y e f = rw e refl
pair-fits false x y e f = f

sum-fits : (t : Bool) (x y : Element) → counts_fit x ≡ true → counts_fit y ≡ true → counts_fit (if t then on_left x else on_right y) ≡ true
sum-fits true x y e f = on_left_fits x ∙ e
sum-fits false x y e f = on_right_fits y ∙ f

at_atom-fits : (a : PlainAlgebra) (i : ℕ) (x : Element) → counts_fit x ≡ true → counts_fit (at_atom a i x) ≡ true
at_atom-fits unique i x e = e
at_atom-fits divisible i x e = e
at_atom-fits counting i x e = e
at_atom-fits indexed i x e = e
at_atom-fits (product a b) i x e = pair-fits (nat_lt i (atoms a)) (at_atom a i x) (at_atom b (i - atoms a) x) (at_atom-fits a i x e) (at_atom-fits b (i - atoms a) x e)
at_atom-fits (sum a b) i x e = sum-fits (nat_lt i (atoms a)) (at_atom a i x) (at_atom b (i - atoms a) x) (at_atom-fits a i x e) (at_atom-fits b (i - atoms a) x e)

pub atom_fits : (a : PlainAlgebra) (i : ℕ) (x : Element) → counts_fit x ≡ true → counts_fit (atom_element a i x) ≡ true
atom_fits a i x e = by (is_unit x)
  where
    by : (b : Bool) → counts_fit (if b then nothing else at_atom a i x) ≡ true
    by true = refl
    by false = at_atom-fits a i x e
