-- Elements that are asked of guards, by the values of a track.
use Rattle.std.proofs.Common.{◌≡◌, ◌⊎◌, inl, inr, ℕ, zero, suc, ◌+◌, ◌*◌, ◌<◌, ℤ, pos, ◌*ℤ◌, false, ◌==◌, if◌then◌else◌, List, [], ◌∷◌, ◌++◌, Option, refl, sym, ap, ◌∙◌, subst, arith}
use Rattle.std.proofs.lemmas.Bool.Decides.{nat_tests}
use Rattle.std.proofs.lemmas.Int.{ints}
use Rattle.cap_lin.specs.Linear.{Linear}
use Rattle.cap_lin.specs.Steps.{product_of, value_steps}
use Rattle.cap_lin.specs.Values.{Valuation, value, amount}
use Rattle.cap_galg.specs.cap_galg_spec.declared.fraction.Fraction.{Fraction}
use Rattle.cap_galg.specs.Elements.{Element, nothing, share, src, tok, tokens, indices}
use Rattle.cap_galg_indices.specs.Sets.{one_index, indices_from}
use Rattle.cap_gsolve.specs.declared.piece.Form.{Form}
use Rattle.cap_gsolve.specs.declared.piece.Form.TheVariants as form
use Rattle.cap_gsolve.specs.Meaning.{IsValueOf}
use Rattle.cap_gsolve.proofs.Amounts.{natural-amount}
use Rattle.cap_prog.specs.declared.assertion.Slot.TheVariants.{Any, Is}
use Rattle.cap_prog.specs.declared.assertion.Asked.{Asked}
use Rattle.cap_prog.specs.declared.assertion.Asked.TheVariants.{One, Share, Src, Tok, At, From}
use Rattle.cap_goal_spec.specs.Environments.{settled, open_to}
use Rattle.cap_machine_accounts.specs.Assertions.{NameValue, a_number}
use Rattle.cap_account_resources.proofs.Order.{cancel}
use Rattle.cap_account_states.proofs.Guarding.{asked_of, first_term, CutFrom}
use Rattle.cap_account_states.proofs.Wants.{Wants}
use Rattle.cap_owners_spec.specs.Traced.{Traced, traced, past_width, untold, ◌>>=◌, over, a_share, valuation, number_in, amount_in}
use Rattle.cap_owners_spec.specs.Filling.{met, asked_element, atom_met}
use Rattle.cap_owners_spec.specs.Track.{Fill}
use Rattle.cap_owners_spec.specs.Walks.{asked_reading}
use Rattle.cap_account_resources.proofs.Lists.{join-nil}
use Rattle.cap_goal_spec.specs.States.{PlainEnv}
use Rattle.cap_owners_walks_laws.proofs.Values.Numbers.{number-is, amount-is, computed-told}
use Rattle.cap_owners_walks_laws.proofs.Values.More.{number-told}
use Rattle.cap_owners_walks_laws.proofs.Fills.Drawn.{asked_met}
use Rattle.cap_owners_laws.specs.Owned.{IsTold}
use Rattle.cap_owners_walks_laws.proofs.Parts.Forms.{counted-so, share-so}
use Rattle.cap_owners_walks_laws.proofs.Passes.Names.{slot_value, met-wildcards}

-- ---- the element of a value

pub told-or :
    {A : Type 0} (o : Traced A) (y : A) → IsTold (λ x. x ≡ y) o →
    (o ≡ past_width) ⊎ (o ≡ traced y)
told-or (traced x) y h = inr (ap traced h)
told-or past_width y h = inl refl
told-or untold y h = absurd h

-- this is the value of the term that is asked for
abbrev pub IsAskedValue : Asked → Valuation → Linear → NameValue → Type 0
IsAskedValue One v t y = Unit {0}
IsAskedValue (Share x) v t y = y ≡ a_share (amount v.fraction t)
IsAskedValue (Src x) v t y = y ≡ a_number (value v.whole t)
IsAskedValue (Tok x) v t y = y ≡ a_number (value v.whole t)
IsAskedValue (At x) v t y = y ≡ a_number (value v.whole t)
IsAskedValue (From x) v t y = y ≡ a_number (value v.whole t)

pub asked-so :
    (ns : List NameValue) (asked : Asked) (t : Linear) (y : NameValue) (x : Element) →
    IsAskedValue asked (valuation ns) t y → Wants (valuation ns) (asked_of asked t) x →
    IsTold (λ e. e ≡ x) (asked_element asked y)
asked-so ns One t y x e h = sym h
asked-so ns (Share s) t y x e h =
    let v = valuation ns in
    let i : IsValueOf v t h.0 = sym (ap (λ z. z *ℤ pos h.0.den) h.3 ∙ h.4) in
    let m = natural-amount v t h.0 h.2 i in
    let r : h.0.num * over ≡ m.number * h.0.den = (let q = m.ratio in omega (arith, q)) in
    subst (λ w. IsTold (λ e. e ≡ x) (asked_element (Share s) w)) (sym e)
    (share-so (amount v.fraction t) m.number h.0 x m.is h.2 r h.5)
asked-so ns (Src s) t y x e h =
    subst (λ w. IsTold (λ e. e ≡ x) (asked_element (Src s) w)) (sym e)
    (counted-so src (value (valuation ns).whole t) h.0 x h.1 h.2)
asked-so ns (Tok s) t y x e h =
    subst (λ w. IsTold (λ e. e ≡ x) (asked_element (Tok s) w)) (sym e)
    (counted-so tokens (value (valuation ns).whole t) h.0 x h.1 h.2)
asked-so ns (At s) t y x e h =
    subst (λ w. IsTold (λ e. e ≡ x) (asked_element (At s) w)) (sym e)
    (counted-so (λ i. indices (one_index i)) (value (valuation ns).whole t) h.0 x h.1 h.2)
asked-so ns (From s) t y x e h =
    subst (λ w. IsTold (λ e. e ≡ x) (asked_element (From s) w)) (sym e)
    (counted-so (λ i. indices (indices_from i)) (value (valuation ns).whole t) h.0 x h.1 h.2)

-- ---- by which value an atom is met

-- the value of its slot, where that is `_`
abbrev pub asked_value : Asked → NameValue → List NameValue
asked_value One y = []
asked_value (Share x) y = slot_value x y
asked_value (Src x) y = slot_value x y
asked_value (Tok x) y = slot_value x y
asked_value (At x) y = slot_value x y
asked_value (From x) y = slot_value x y

some-tokens : (n : ℕ) → tokens (suc n) ≡ tok (suc n)
some-tokens n =
    let t : (suc n == 0) ≡ false = grind (arith, nat_tests) in
    ap (λ b. if b then nothing else tok (suc n)) t

tokens-same : (m n : ℕ) → tokens m ≡ tokens n → m ≡ n
tokens-same zero zero e = refl
tokens-same zero (suc n) e = absurd (let f : nothing ≡ tok (suc n) = e ∙ some-tokens n in cc)
tokens-same (suc m) zero e =
    absurd (let f : tok (suc m) ≡ nothing = sym (some-tokens m) ∙ e in cc)
tokens-same (suc m) (suc n) e =
    let f : tok (suc m) ≡ tok (suc n) = sym (some-tokens m) ∙ e ∙ some-tokens n in cc

src-same : (m n : ℕ) → src m ≡ src n → m ≡ n
src-same m n e = cc

index-same : (m n : ℕ) → indices (one_index m) ≡ indices (one_index n) → m ≡ n
index-same m n e = cc

from-same : (m n : ℕ) → indices (indices_from m) ≡ indices (indices_from n) → m ≡ n
from-same m n e = cc

share-same : (f g : Fraction) → share f ≡ share g → f ≡ g
share-same f g e = cc

-- fractions that are one have one numerator over a denominator
one-numerator :
    (f g : Fraction) (z y : ℤ) (u w : ℕ) → f ≡ g → u ≡ w → 0 < g.den →
    z *ℤ pos f.den ≡ pos f.num *ℤ pos (u + 1) → y *ℤ pos g.den ≡ pos g.num *ℤ pos (w + 1) → z ≡ y
one-numerator f g z y u w e q p h k =
    cancel z y (pos g.den) (omega (arith, ints, p))
    (ap (λ (x : Fraction). z *ℤ pos x.den) (sym e)
    ∙ h
    ∙ ap (λ (x : Fraction). pos x.num *ℤ pos (u + 1)) e
    ∙ ap (λ n. pos g.num *ℤ pos (n + 1)) q
    ∙ sym k)

-- of an element there is one value alone
pub asked-met-so :
    (a : Valuation) (asked : Asked) (x : Element) (h : Wants a asked x) (w : Valuation)
    (t : Linear) (y : NameValue) → IsAskedValue asked w t y →
    a.fraction.under ≡ w.fraction.under → (k : Wants w (asked_of asked t) x) →
    asked_met a asked x h ≡ asked_value asked y
asked-met-so a One x h w t y e u k = refl
asked-met-so a (Share (Is s)) x h w t y e u k = refl
asked-met-so a (Share Any) x h w t y e u k =
    let f = share-same h.0 k.0 (sym h.5 ∙ k.5) in
    let z = one-numerator h.0 k.0 h.1 k.1 a.fraction.under w.fraction.under f u
    k.2.amount.lowest.positive h.4 k.4 in
    ap (λ n. a_share n ∷ []) (z ∙ sym k.3) ∙ ap (λ v. v ∷ []) (sym e)
asked-met-so a (Src (Is s)) x h w t y e u k = refl
asked-met-so a (Src Any) x h w t y e u k =
    ap (λ n. a_number n ∷ []) (ap pos (src-same h.0 k.0 (sym h.2 ∙ k.2)) ∙ sym k.1)
    ∙ ap (λ v. v ∷ []) (sym e)
asked-met-so a (Tok (Is s)) x h w t y e u k = refl
asked-met-so a (Tok Any) x h w t y e u k =
    ap (λ n. a_number n ∷ []) (ap pos (tokens-same h.0 k.0 (sym h.2 ∙ k.2)) ∙ sym k.1)
    ∙ ap (λ v. v ∷ []) (sym e)
asked-met-so a (At (Is s)) x h w t y e u k = refl
asked-met-so a (At Any) x h w t y e u k =
    ap (λ n. a_number n ∷ []) (ap pos (index-same h.0 k.0 (sym h.2 ∙ k.2)) ∙ sym k.1)
    ∙ ap (λ v. v ∷ []) (sym e)
asked-met-so a (From (Is s)) x h w t y e u k = refl
asked-met-so a (From Any) x h w t y e u k =
    ap (λ n. a_number n ∷ []) (ap pos (from-same h.0 k.0 (sym h.2 ∙ k.2)) ∙ sym k.1)
    ∙ ap (λ v. v ∷ []) (sym e)

-- ---- the value that a walk finds

-- it finds one of which this holds, or a number is too wide
abbrev pub Finds : Traced NameValue → (NameValue → Type 0) → Type 0
Finds o P = IsTold P o

with-number :
    (vs : List NameValue) (t : Linear) →
    Finds (number_in vs t >>= λ z. traced (a_number z))
    (λ y. y ≡ a_number (value (valuation vs).whole t))
with-number vs t = by (number_in vs t) refl
  where
    by :
        (o : Traced ℤ) → number_in vs t ≡ o →
        Finds (o >>= λ z. traced (a_number z)) (λ y. y ≡ a_number (value (valuation vs).whole t))
    by (traced z) e = ap a_number (number-is vs t z e)
    by past_width e = tt
    by untold e = absurd (number-told vs t e)

pub amount-told : (vs : List NameValue) (t : Linear) → amount_in vs t ≡ untold → ⊥
amount-told vs t e =
    computed-told (amount (valuation vs).fraction t)
    (product_of t.constant (pos over)
    ∷ value_steps (valuation vs).fraction.numerator (t.constant *ℤ pos over) t.parts) e

with-amount :
    (vs : List NameValue) (t : Linear) →
    Finds (amount_in vs t >>= λ n. traced (a_share n))
    (λ y. y ≡ a_share (amount (valuation vs).fraction t))
with-amount vs t = by (amount_in vs t) refl
  where
    by :
        (o : Traced ℤ) → amount_in vs t ≡ o →
        Finds (o >>= λ n. traced (a_share n)) (λ y. y ≡ a_share (amount (valuation vs).fraction t))
    by (traced z) e = ap a_share (amount-is vs t z e)
    by past_width e = tt
    by untold e = absurd (amount-told vs t e)

-- where the slot is settled
pub settled-found :
    (vs ns : List NameValue) (asked : Asked) (f : Form) (t : Linear) → CutFrom asked f →
    Finds (atom_met vs ns f (settled t)) (IsAskedValue asked (valuation ns) t)
settled-found vs ns One form.One t c = tt
settled-found vs ns (Share x) (form.Share a) t c = with-amount ns t
settled-found vs ns (Src x) (form.Src m) t c = with-number ns t
settled-found vs ns (Tok x) (form.Tok m) t c = with-number ns t
settled-found vs ns (Tok x) (form.Src m) t c = with-number ns t
settled-found vs ns (At x) (form.Span a e) t c = with-number ns t
settled-found vs ns (From x) (form.Span a e) t c = with-number ns t
settled-found vs ns asked f t c = absurd c

-- where it is open, but for amounts
abbrev pub IsCounted : Asked → Type 0
IsCounted (Share x) = ⊥
IsCounted asked = Unit {0}

pub open-found :
    (vs ns : List NameValue) (asked : Asked) (f : Form) (o : Option ℕ) → CutFrom asked f →
    IsCounted asked →
    Finds (atom_met vs ns f (open_to o)) (IsAskedValue asked (valuation vs) (first_term f))
open-found vs ns One form.One o c k = tt
open-found vs ns (Src x) (form.Src m) o c k = with-number vs m
open-found vs ns (Tok x) (form.Tok m) o c k = with-number vs m
open-found vs ns (Tok x) (form.Src m) o c k = with-number vs m
open-found vs ns (At x) (form.Span a e) o c k = with-number vs a
open-found vs ns (From x) (form.Span a e) o c k = with-number vs a
open-found vs ns (Share x) f o c k = absurd k
open-found vs ns asked f o c k = absurd c

-- what is met is added to the fill
pub asked-wildcards :
    (env : PlainEnv) (asked : Asked) (y : NameValue) (f : Fill) →
    (met (asked_reading env asked) y f).wildcards ≡ f.wildcards ++ asked_value asked y
asked-wildcards env One y f = sym (join-nil f.wildcards)
asked-wildcards env (Share x) y f = met-wildcards env x y f
asked-wildcards env (Src x) y f = met-wildcards env x y f
asked-wildcards env (Tok x) y f = met-wildcards env x y f
asked-wildcards env (At x) y f = met-wildcards env x y f
asked-wildcards env (From x) y f = met-wildcards env x y f
