-- Values of a request over a denominator that all amounts it leaves open go into.
use Rattle.cap_account_resources.proofs.Order.{swapped, grouped}
use Rattle.std.proofs.Common.{◌≡◌, ℕ, zero, suc, ◌+◌, ◌*◌, ◌<◌, ℤ, pos, ◌*ℤ◌, List, [], ◌∷◌, Option, refl, sym, ap, ◌∙◌, arith}
use Rattle.std.specs.List.{AllByRecursion}
use Rattle.std.proofs.lemmas.Int.{ints}
use Rattle.cap_numbers.proofs.Ring.{expand, product3}
use Rattle.cap_lin.specs.Values.{Valuation, denominator, amount}
use Rattle.cap_lin.specs.Solves.{IsWholeAt}
use Rattle.cap_lin.specs.declared.row.Sort.TheVariants.{Int}
use Rattle.cap_galg.specs.Elements.{Element}
use Rattle.cap_prog.specs.declared.assertion.Slot.TheVariants.{Any, Is}
use Rattle.cap_prog.specs.declared.assertion.Asked.{Asked}
use Rattle.cap_prog.specs.declared.assertion.Asked.TheVariants.{One, Share, Src, Tok, At, From}
use Rattle.cap_prog.specs.Program.{PlainProgram}
use Rattle.cap_prog.specs.Scopes.{Scope, HasSort}
use Rattle.cap_machine_accounts.specs.Assertions.{IsAsked}
use Rattle.cap_account_states.proofs.Values.{Like, like-value, like-amount, normal, like-normal, normal-whole, scaled, like-scaled}
use Rattle.cap_account_resources.proofs.Marks.{Mark}
use Rattle.cap_account_resources.proofs.Interference.{AsksAtoms}
use Rattle.cap_account_states.proofs.Asking.{IsFine, AskedOver, AllFine}

-- ---- the same is asked for over a multiple of the denominator

over-times :
    (a n d c m b : ℤ) → a *ℤ d ≡ n *ℤ c → b ≡ c *ℤ m → a *ℤ m *ℤ d ≡ n *ℤ b
over-times a n d c m b e f =
    swapped a m d ∙ (ap (λ z. z *ℤ m) e ∙ (grouped n c m ∙ ap (λ z. n *ℤ z) (sym f)))

asked-like :
    (sc : Scope) (a b : Valuation) → Like sc a b → (asked : Asked) (x : Element) →
    AskedOver sc asked → IsAsked a asked x → IsAsked b asked x
asked-like sc a b l One x f h = h
asked-like sc a b l (Share Any) x f h = h
asked-like sc a b l (Share (Is t)) x f h = (
  h.0,
  h.1,
  ap (λ z. z *ℤ pos h.0.den) (like-amount sc a b l t f)
      ∙ over-times (amount a.fraction t) (pos h.0.num) (pos h.0.den) (denominator a.fraction)
      l.times (denominator b.fraction) h.2 l.under,
  h.3,
)
asked-like sc a b l (Src Any) x f h = h
asked-like sc a b l (Src (Is t)) x f h = (h.0, like-value sc a b l t f ∙ h.1, h.2)
asked-like sc a b l (Tok Any) x f h = h
asked-like sc a b l (At Any) x f h = h
asked-like sc a b l (From Any) x f h = h
asked-like sc a b l (Tok (Is t)) x f h = (h.0, like-value sc a b l t f ∙ h.1, h.2)
asked-like sc a b l (At (Is t)) x f h = (h.0, like-value sc a b l t f ∙ h.1, h.2)
asked-like sc a b l (From (Is t)) x f h = (h.0, like-value sc a b l t f ∙ h.1, h.2)

abbrev pub AllOver : Scope → List (ℕ × Asked) → Type 0
AllOver sc gs = AllByRecursion (λ g. AskedOver sc g.1) gs

pub atoms-like :
    (p : PlainProgram) (k : ℕ) (sc : Scope) (a b : Valuation) → Like sc a b →
    (gs : List (ℕ × Asked)) (m : Option Mark) → AllOver sc gs → AsksAtoms p a k gs m →
    AsksAtoms p b k gs m
atoms-like p k sc a b l [] m f h = h
atoms-like p k sc a b l (g ∷ gs) m f h = (
  h.0,
  h.1,
  record {
    element = h.2.element;
    is_asked = asked-like sc a b l g.1 h.2.element f.0 h.2.is_asked;
    of_atom = h.2.of_atom;
    is_mark = h.2.is_mark;
  },
  atoms-like p k sc a b l gs h.1 f.1 h.3,
  h.4,
)

-- ---- the product of what amounts that are left open are over

abbrev grain_one : (X : Valuation) (asked : Asked) (x : Element) → IsAsked X asked x → ℕ
grain_one X One x h = 1
grain_one X (Share Any) x h = h.0.den
grain_one X (Share (Is t)) x h = 1
grain_one X (Src s) x h = 1
grain_one X (Tok s) x h = 1
grain_one X (At s) x h = 1
grain_one X (From s) x h = 1

abbrev pub grain :
    (p : PlainProgram) (X : Valuation) (k : ℕ) (gs : List (ℕ × Asked)) (m : Option Mark) →
    AsksAtoms p X k gs m → ℕ
grain p X k [] m h = 1
grain p X k (g ∷ gs) m h = grain_one X g.1 h.2.element h.2.is_asked * grain p X k gs h.1 h.3

grain-one-positive :
    (X : Valuation) (asked : Asked) (x : Element) (h : IsAsked X asked x) →
    0 < grain_one X asked x h
grain-one-positive X One x h = omega arith
grain-one-positive X (Share Any) x h =
    let a = h.1.positive in
    let b = h.1.amount.most in
    omega (arith, a, b)
grain-one-positive X (Share (Is t)) x h = omega arith
grain-one-positive X (Src s) x h = omega arith
grain-one-positive X (Tok s) x h = omega arith
grain-one-positive X (At s) x h = omega arith
grain-one-positive X (From s) x h = omega arith

both-positive : (x y : ℕ) → 0 < x → 0 < y → 0 < x * y
both-positive zero y h g = absurd (omega (arith, h))
both-positive (suc x) zero h g = absurd (omega (arith, g))
both-positive (suc x) (suc y) h g = omega arith

pub grain-positive :
    (p : PlainProgram) (X : Valuation) (k : ℕ) (gs : List (ℕ × Asked)) (m : Option Mark)
    (h : AsksAtoms p X k gs m) → 0 < grain p X k gs m h
grain-positive p X k [] m h = omega arith
grain-positive p X k (g ∷ gs) m h =
    both-positive (grain_one X g.1 h.2.element h.2.is_asked) (grain p X k gs h.1 h.3)
    (grain-one-positive X g.1 h.2.element h.2.is_asked) (grain-positive p X k gs h.1 h.3)

grain-one-like :
    (sc : Scope) (a b : Valuation) (l : Like sc a b) (asked : Asked) (x : Element)
    (f : AskedOver sc asked) (h : IsAsked a asked x) →
    grain_one b asked x (asked-like sc a b l asked x f h) ≡ grain_one a asked x h
unfolding asked-like
grain-one-like sc a b l One x f h = refl
grain-one-like sc a b l (Share Any) x f h = refl
grain-one-like sc a b l (Share (Is t)) x f h = refl
grain-one-like sc a b l (Src s) x f h = refl
grain-one-like sc a b l (Tok s) x f h = refl
grain-one-like sc a b l (At s) x f h = refl
grain-one-like sc a b l (From s) x f h = refl

grain-like :
    (p : PlainProgram) (k : ℕ) (sc : Scope) (a b : Valuation) (l : Like sc a b)
    (gs : List (ℕ × Asked)) (m : Option Mark) (f : AllOver sc gs) (h : AsksAtoms p a k gs m) →
    grain p b k gs m (atoms-like p k sc a b l gs m f h) ≡ grain p a k gs m h
unfolding atoms-like
grain-like p k sc a b l [] m f h = refl
grain-like p k sc a b l (g ∷ gs) m f h =
    let e = grain-one-like sc a b l g.1 h.2.element f.0 h.2.is_asked in
    let r = grain-like p k sc a b l gs h.1 f.1 h.3 in
    rw (e, r) refl

-- the amounts go into a multiple of it
is-fine :
    (X : Valuation) (asked : Asked) (x : Element) (h : IsAsked X asked x) (q : ℤ) →
    denominator X.fraction ≡ q *ℤ pos (grain_one X asked x h) → IsFine X asked x h
is-fine X One x h q e = tt
is-fine X (Share Any) x h q e = (q, e)
is-fine X (Share (Is t)) x h q e = tt
is-fine X (Src s) x h q e = tt
is-fine X (Tok s) x h q e = tt
is-fine X (At s) x h q e = tt
is-fine X (From s) x h q e = tt

first-of : (q d g : ℤ) → q *ℤ (d *ℤ g) ≡ q *ℤ g *ℤ d
first-of q d g = simp expand (omega (arith, ints, product3))

second-of : (q d g : ℤ) → q *ℤ (d *ℤ g) ≡ q *ℤ d *ℤ g
second-of q d g = simp expand (omega (arith, ints, product3))

all-fine :
    (p : PlainProgram) (X : Valuation) (sc : Scope)
    (normal : (x : ℕ) → HasSort sc Int x → IsWholeAt X x) (k : ℕ) (gs : List (ℕ × Asked))
    (m : Option Mark) (h : AsksAtoms p X k gs m) (q : ℤ) →
    denominator X.fraction ≡ q *ℤ pos (grain p X k gs m h) →
    AllFine p X sc normal k gs m h
all-fine p X sc normal k [] m h q e = tt
all-fine p X sc normal k (g ∷ gs) m h q e =
    let d = grain_one X g.1 h.2.element h.2.is_asked in
    let r = grain p X k gs h.1 h.3 in
    let split : pos (d * r) ≡ pos d *ℤ pos r = refl in
    let e' : denominator X.fraction ≡ q *ℤ (pos d *ℤ pos r) = e ∙ ap (λ z. q *ℤ z) split in (
      is-fine X g.1 h.2.element h.2.is_asked (q *ℤ pos r) (e' ∙ first-of q (pos d) (pos r)),
      all-fine p X sc normal k gs h.1 h.3 (q *ℤ pos d) (e' ∙ second-of q (pos d) (pos r)),
    )

-- ---- one denominator for the state and the request

-- one less than the product of both, which are one more
abbrev times_more : ℕ → ℕ → ℕ
times_more x g = x * g + x + g

-- the state's values and the request's, over one denominator that all amounts go into
pub record Common (p : PlainProgram) (v X : Valuation) (sc : Scope) (k : ℕ)
    (gs : List (ℕ × Asked)) (m : Option Mark) : Type 0 where
  pub times : ℕ
  pub more : ℕ
  pub same : (scaled times v).fraction.under ≡ (normal sc (scaled more X)).fraction.under
  pub asks : AsksAtoms p (normal sc (scaled more X)) k gs m
  pub fine :
      AllFine p (normal sc (scaled more X)) sc (normal-whole sc (scaled more X)) k gs m asks

before : (n : ℕ) → 0 < n → (g : ℕ) × (n ≡ g + 1)
before zero h = absurd (omega (arith, h))
before (suc g) h = (g, omega arith)

pub common :
    (p : PlainProgram) (v X : Valuation) (sc : Scope) (k : ℕ) (gs : List (ℕ × Asked))
    (m : Option Mark) → AllOver sc gs → AsksAtoms p X k gs m → Common p v X sc k gs m
common p v X sc k gs m f h =
    let g = before (grain p X k gs m h) (grain-positive p X k gs m h) in
    let c = times_more X.fraction.under g.0 in
    let d = times_more v.fraction.under g.0 in
    let X1 = scaled d X in
    let h1 = atoms-like p k sc X X1 (like-scaled sc d X) gs m f h in
    let h2 = atoms-like p k sc X1 (normal sc X1) (like-normal sc X1) gs m f h1 in
    let e : grain p (normal sc X1) k gs m h2 ≡ g.0 + 1 =
    grain-like p k sc X1 (normal sc X1) (like-normal sc X1) gs m f h1
    ∙ (grain-like p k sc X X1 (like-scaled sc d X) gs m f h ∙ g.1) in
    let q = (X.fraction.under + 1) * (v.fraction.under + 1) in
    record {
      times = c;
      more = d;
      same = turned v.fraction.under X.fraction.under g.0;
      asks = h2;
      fine = all-fine p (normal sc X1) sc (normal-whole sc X1) k gs m h2 (pos q)
          (ap pos (product X.fraction.under v.fraction.under g.0)
          ∙ ap (λ n. pos q *ℤ pos n) (sym e));
    }
  where
    turned :
        (x y g : ℕ) → x * times_more y g + x + times_more y g
        ≡ y * times_more x g + y + times_more x g
    turned x y g = omega arith

    product :
        (x y g : ℕ) → x * times_more y g + x + times_more y g + 1 ≡ (x + 1) * (y + 1) * (g + 1)
    product x y g = omega arith
