-- What is asked of an atom of guards at values: as assertions say, but shares are over the
-- denominator of the values.
use Rattle.cap_account_resources.proofs.Order.{cancel, swapped, grouped}
use Rattle.std.proofs.Common.{◌≡◌, ℕ, ◌+◌, ℤ, pos, ◌*ℤ◌, refl, sym, ap, ◌∙◌, subst}
use Rattle.cap_lin.specs.Linear.{Linear}
use Rattle.cap_lin.specs.Values.{Valuation, denominator, amount}
use Rattle.cap_lin.specs.declared.row.Sort.TheVariants.{Int, Perm}
use Rattle.cap_galg.specs.cap_galg_spec.declared.fraction.Fraction.{Fraction}
use Rattle.cap_galg.specs.Fractions.{IsShare}
use Rattle.cap_galg_indices.specs.Sets.{one_index, indices_from}
use Rattle.cap_galg.specs.Elements.{Element, one, share, src, tokens, indices}
use Rattle.cap_prog.specs.declared.assertion.Slot.{Slot}
use Rattle.cap_prog.specs.declared.assertion.Slot.TheVariants.{Any, Is}
use Rattle.cap_prog.specs.declared.assertion.Asked.{Asked}
use Rattle.cap_prog.specs.declared.assertion.Asked.TheVariants.{One, Share, Src, Tok, At, From}
use Rattle.cap_gsolve.specs.Meaning.{IsValueOf}
use Rattle.cap_prog.specs.Scopes.{Scope, SlotFits}
use Rattle.cap_machine_accounts.specs.Assertions.{SlotIs, IsAsked}
use Rattle.cap_account_states.proofs.Terms.{Over}
use Rattle.cap_account_states.proofs.Alike.{Alike, above-zero, value-alike, amount-alike, InScope, fits-over}
use Rattle.cap_account_states.proofs.Values.{scaled, scaled-denominator}
use Rattle.cap_account_states.proofs.Asking.{AskedOver}
use Rattle.cap_galg.specs.Algebras.{PlainAlgebra, unique, divisible, counting, indexed}
use Rattle.cap_prog.specs.WellFormed.{AskedFits}

abbrev pub AmountIs : Valuation → Slot → ℤ → Type 0
AmountIs v Any z = Unit {0}
AmountIs v (Is t) z = amount v.fraction t ≡ z

abbrev pub Wants : Valuation → Asked → Element → Type 0
Wants v One x = x ≡ one
Wants v (Share s) x =
    (f : Fraction) × (z : ℤ)
    × IsShare f
    × AmountIs v s z
    × (z *ℤ pos f.den ≡ pos f.num *ℤ denominator v.fraction)
    × (x ≡ share f)
Wants v (Src s) x = (n : ℕ) × SlotIs v s (pos n) × (x ≡ src n)
Wants v (Tok s) x = (k : ℕ) × SlotIs v s (pos k) × (x ≡ tokens k)
Wants v (At s) x = (i : ℕ) × SlotIs v s (pos i) × (x ≡ indices (one_index i))
Wants v (From s) x = (i : ℕ) × SlotIs v s (pos i) × (x ≡ indices (indices_from i))

-- it is what assertions ask for
pub wants-asked : (v : Valuation) (asked : Asked) (x : Element) → Wants v asked x →
    IsAsked v asked x
wants-asked v One x h = h
wants-asked v (Share Any) x h = (h.0, h.2, tt, h.5)
wants-asked v (Share (Is t)) x h = (h.0, h.2, ap (λ z. z *ℤ pos h.0.den) h.3 ∙ h.4, h.5)
wants-asked v (Src s) x h = h
wants-asked v (Tok s) x h = h
wants-asked v (At s) x h = h
wants-asked v (From s) x h = h

-- ---- at alike values

-- a fraction that is a term's value at values is so at alike ones
pub value-of-alike :
    (P : ℕ → Type 0) (v w : Valuation) → Alike P v w → (t : Linear) → Over P t → (f : Fraction) →
    IsValueOf v t f → IsValueOf w t f
value-of-alike P v w a t o f h =
    let n = pos f.num in
    let d = denominator v.fraction in
    let e = denominator w.fraction in
    cancel (n *ℤ e) (amount w.fraction t *ℤ pos f.den) d (above-zero v)
    (swapped n e d ∙ ap (λ z. z *ℤ e) h ∙ swapped (amount v.fraction t) (pos f.den) e
    ∙ ap (λ z. z *ℤ pos f.den) (sym (amount-alike P v w a t o))
    ∙ swapped (amount w.fraction t) d (pos f.den))

-- what a term is worth is what a slot for it asks for
pub share-wants :
    (X v : Valuation) (x : Slot) (t : Linear) (f : Fraction) → X.fraction.under ≡ v.fraction.under →
    AmountIs X x (amount v.fraction t) → IsShare f → IsValueOf v t f → Wants X (Share x) (share f)
share-wants X v x t f u a s h =
    (f, amount v.fraction t, s, a, sym h ∙ ap (λ n. pos f.num *ℤ pos (n + 1)) (sym u), refl)

-- an amount that a term says is the same at all alike values. One that nothing says is a multiple
-- of one over the denominator, and so over each of its multiples
abbrev pub IsFiner : Valuation → Valuation → Type 0
IsFiner v w = (m : ℤ) × (denominator w.fraction ≡ denominator v.fraction *ℤ m)

pub scaled-finer : (m : ℕ) (v : Valuation) → IsFiner v (scaled m v)
scaled-finer m v = (pos (m + 1), scaled-denominator m v)

abbrev pub StaysWanted : Valuation → Valuation → Asked → Type 0
StaysWanted v w (Share Any) = IsFiner v w
StaysWanted v w asked = Unit {0}

pub slot-alike :
    (sc : Scope) (v w : Valuation) → Alike (InScope sc) v w → (s : Slot) (z : ℤ) →
    SlotFits sc Int s → SlotIs v s z → SlotIs w s z
slot-alike sc v w a Any z f h = tt
slot-alike sc v w a (Is t) z f h =
    value-alike (InScope sc) v w a t (fits-over sc Int t f) ∙ h

abbrev pub wants-alike :
    (sc : Scope) (v w : Valuation) → Alike (InScope sc) v w → (asked : Asked) (x : Element) →
    AskedOver sc asked → StaysWanted v w asked → Wants v asked x → Wants w asked x
wants-alike sc v w a One x f k h = h
wants-alike sc v w a (Share Any) x f k h = (
  h.0,
  h.1 *ℤ k.0,
  h.2,
  tt,
  swapped h.1 k.0 (pos h.0.den) ∙ ap (λ z. z *ℤ k.0) h.4
      ∙ grouped (pos h.0.num) (denominator v.fraction) k.0
      ∙ ap (λ z. pos h.0.num *ℤ z) (sym k.1),
  h.5,
)
wants-alike sc v w a (Share (Is t)) x f k h =
    let i : IsValueOf v t h.0 = sym (ap (λ z. z *ℤ pos h.0.den) h.3 ∙ h.4) in
    subst (Wants w (Share (Is t))) (sym h.5)
    (share-wants w w (Is t) t h.0 refl refl h.2
    (value-of-alike (InScope sc) v w a t (fits-over sc Perm t f) h.0 i))
wants-alike sc v w a (Src s) x f k h = (h.0, slot-alike sc v w a s (pos h.0) f h.1, h.2)
wants-alike sc v w a (Tok s) x f k h = (h.0, slot-alike sc v w a s (pos h.0) f h.1, h.2)
wants-alike sc v w a (At s) x f k h = (h.0, slot-alike sc v w a s (pos h.0) f h.1, h.2)
wants-alike sc v w a (From s) x f k h = (h.0, slot-alike sc v w a s (pos h.0) f h.1, h.2)

abbrev pub stays-finer : (v w : Valuation) → IsFiner v w → (asked : Asked) → StaysWanted v w asked
stays-finer v w k One = tt
stays-finer v w k (Share Any) = k
stays-finer v w k (Share (Is t)) = tt
stays-finer v w k (Src s) = tt
stays-finer v w k (Tok s) = tt
stays-finer v w k (At s) = tt
stays-finer v w k (From s) = tt

-- over a multiple of the denominator all stays
abbrev pub wants-finer :
    (sc : Scope) (v w : Valuation) → Alike (InScope sc) v w → IsFiner v w → (asked : Asked)
    (x : Element) → AskedOver sc asked → Wants v asked x → Wants w asked x
wants-finer sc v w a k asked x f h =
    wants-alike sc v w a asked x f (stays-finer v w k asked) h

pub asked-over : (sc : Scope) (b : PlainAlgebra) (asked : Asked) → AskedFits sc b asked →
    AskedOver sc asked
asked-over sc unique One h = tt
asked-over sc divisible (Share s) h = h
asked-over sc counting (Src s) h = h
asked-over sc counting (Tok s) h = h
asked-over sc indexed (At s) h = h
asked-over sc indexed (From s) h = h
asked-over sc b asked h = absurd h
