-- Whether two rows are the same is a test that decides equality of term and kind, and so an
-- equivalence.
use Rattle.std.proofs.Common.{◌≡◌, refl, Bool, true, false, Decides}
use Rattle.std.specs.Prelude.{◌&&◌}
use Rattle.std.specs.Cmp.{IsEquivalence, decided}
use Rattle.cap_lin.specs.Linear.{Linear, same_term}
use Rattle.cap_lin.specs.Laws.Sameness.{same_term-decides}
use Rattle.cap_lin.specs.declared.row.Kind.{Kind}
use Rattle.cap_lin.specs.declared.row.Kind.TheVariants.{Le, Lt, Eq, Ne}
use Rattle.cap_fm_spec.specs.Rows.{same_kind}
use Rattle.cap_fm_elimination.specs.Forms.{same_form}

kind-is : (k l : Kind) → same_kind k l ≡ true → k ≡ l
kind-is Le Le e = refl
kind-is Le Lt e = cc
kind-is Le Eq e = cc
kind-is Le Ne e = cc
kind-is Lt Le e = cc
kind-is Lt Lt e = refl
kind-is Lt Eq e = cc
kind-is Lt Ne e = cc
kind-is Eq Le e = cc
kind-is Eq Lt e = cc
kind-is Eq Eq e = refl
kind-is Eq Ne e = cc
kind-is Ne Le e = cc
kind-is Ne Lt e = cc
kind-is Ne Eq e = cc
kind-is Ne Ne e = refl

kind-self : (k : Kind) → same_kind k k ≡ true
kind-self Le = refl
kind-self Lt = refl
kind-self Eq = refl
kind-self Ne = refl

both-true : (a b : Bool) → (a && b) ≡ true → (a ≡ true) × (b ≡ true)
both-true true true e = (refl, refl)
both-true true false e = cc
both-true false b e = cc

form-is : (t u : Linear) (k l : Kind) → t ≡ u → k ≡ l → ◌≡◌ {A = Linear × Kind} (t, k) (u, l)
form-is t u k l p q = rw (p, q) refl

same-is : (f g : Linear × Kind) → same_form f g ≡ true → f ≡ g
same-is f g e =
    let h = both-true (same_kind f.1 g.1) (same_term f.0 g.0) e in
    form-is f.0 g.0 f.1 g.1 ((same_term-decides f.0 g.0).0 h.1) (kind-is f.1 g.1 h.0)

same-self : (f g : Linear × Kind) → f ≡ g → same_form f g ≡ true
same-self f g e = rw e (rw (kind-self g.1, (same_term-decides g.0 g.0).1 refl) refl)

pub same_form-decides : (f g : Linear × Kind) → Decides (same_form f g) (f ≡ g)
same_form-decides f g = (same-is f g, same-self f g)

pub same_form-equivalence : IsEquivalence same_form
same_form-equivalence = decided same_form same_form-decides
