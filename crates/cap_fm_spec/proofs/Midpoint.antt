-- Fourier and Motzkin's step on numbers: where each upper bound on a number goes with each lower one, some number
-- meets all of them. It is the middle of the tightest bounds, over a common denominator.
use Rattle.std.proofs.Common.{◌≡◌, ℤ, pos, ◌+ℤ◌, ◌-ℤ◌, ◌*ℤ◌, neg_ℤ, ◌≤ℤ◌, ◌<ℤ◌, List, [], ◌∷◌, arith, inl, inr}
use Rattle.std.specs.List.{AllByRecursion}
use Rattle.std.proofs.lemmas.Int.{ints}
use Rattle.cap_numbers.proofs.Ring.{expand, product3, product4}
use Rattle.cap_numbers.proofs.Order.{mul-le, mul-lt, mul-pos, cancel-le, le_or_lt}
use Rattle.cap_lin.specs.Solves.{HoldsAs}
use Rattle.cap_lin.specs.declared.row.Kind.{Kind}
use Rattle.cap_lin.specs.declared.row.Kind.TheVariants.{Le, Lt, Eq, Ne}
use Rattle.cap_fm_spec.specs.Elimination.{strictest}
use Rattle.cap_fm_spec.proofs.Lists.{each-two, each-any, each-flip}

-- at most 0, or below 0
abbrev pub IsOrder : Kind → Type 0
IsOrder Le = Unit {0}
IsOrder Lt = Unit {0}
IsOrder Eq = ⊥
IsOrder Ne = ⊥

-- A bound on an unknown, beside a number that stands for the other terms. As an upper bound it says of the factor times
-- the unknown plus `rest`, as a lower one of `rest` minus the factor times the unknown, that it is as the kind wants it.
pub record Bound : Type 0 where
  pub factor : ℤ
  pub rest : ℤ
  pub kind : Kind

pub record IsBound (b : Bound) : Type 0 where
  pub positive : pos 0 <ℤ b.factor
  pub order : IsOrder b.kind

-- the bounds hold at x, after the other terms have been multiplied by m
abbrev pub Upper : ℤ → ℤ → Bound → Type 0
Upper m x p = HoldsAs p.kind (p.factor *ℤ x +ℤ m *ℤ p.rest)

abbrev pub Lower : ℤ → ℤ → Bound → Type 0
Lower m x q = HoldsAs q.kind (m *ℤ q.rest -ℤ q.factor *ℤ x)

-- what two bounds say together, without the unknown
abbrev pub Combined : Bound → Bound → Type 0
Combined p q = HoldsAs (strictest p.kind q.kind) (q.factor *ℤ p.rest +ℤ p.factor *ℤ q.rest)

-- ---- the tightest of some bounds

abbrev Tighter : Bound → Bound → Type 0
Tighter b q = (b.factor *ℤ q.rest) ≤ℤ (q.factor *ℤ b.rest)

tighter-trans : (b c q : Bound) → IsBound b → IsBound c → IsBound q → Tighter b c → Tighter c q → Tighter b q
tighter-trans b c q hb hc hq h k =
    let u = hb.positive in
    let v = hq.positive in
    let l = mul-le b.factor (c.factor *ℤ q.rest) (q.factor *ℤ c.rest) (omega (arith, ints)) k in
    let m = mul-le q.factor (b.factor *ℤ c.rest) (c.factor *ℤ b.rest) (omega (arith, ints)) h in
    let l' = simp expand at l in
    let m' = simp expand at m in
    cancel-le c.factor (b.factor *ℤ q.rest) (q.factor *ℤ b.rest) hc.positive (simp expand (omega (arith, ints, product3)))

each-tighter : (b c : Bound) (qs : List Bound) → IsBound b → IsBound c → AllByRecursion IsBound qs → Tighter b c → AllByRecursion (Tighter c) qs → AllByRecursion (Tighter b) qs
each-tighter b c qs hb hc p t e = each-two _ _ _ qs p e (λ q h k. tighter-trans b c q hb hc h t k)

itself : (b : Bound) → Tighter b b
itself b = omega (arith, ints)

-- the tightest of some bounds, with what holds of all
pub record Tightest (Q : Bound → Type 0) (bs : List Bound) : Type 0 where
  pub bound : Bound
  pub is : IsBound bound
  pub has : Q bound
  pub tighter : AllByRecursion (Tighter bound) bs

tightest : (Q : Bound → Type 0) (b : Bound) (bs : List Bound) → AllByRecursion IsBound (b ∷ bs) → AllByRecursion Q (b ∷ bs) → Tightest Q (b ∷ bs)
tightest Q b [] p q = record { bound = b; is = p.0; has = q.0; tighter = (itself b, tt) }
tightest Q b (d ∷ ds) p q =
    let r = tightest Q d ds p.1 q.1 in
    elim (le_or_lt (b.factor *ℤ r.bound.rest) (r.bound.factor *ℤ b.rest)) [
      | inl h ↦ record { bound = b; is = p.0; has = q.0; tighter = (itself b, each-tighter b r.bound (d ∷ ds) p.0 r.is p.1 h r.tighter) }
      | inr h ↦ record { bound = r.bound; is = r.is; has = r.has; tighter = (omega (arith, ints), r.tighter) }
    ]

-- ---- kinds

strictly : (k : Kind) (z : ℤ) → IsOrder k → z <ℤ pos 0 → HoldsAs k z
strictly Le z o h = omega (arith, ints)
strictly Lt z o h = h
strictly Eq z o h = absurd o
strictly Ne z o h = absurd o

first-of : (k l : Kind) (z : ℤ) → IsOrder k → IsOrder l → HoldsAs (strictest k l) z → HoldsAs k z
first-of Lt l z o p h = h
first-of Le Le z o p h = h
first-of Le Lt z o p h = omega (arith, ints)
first-of Le Eq z o p h = absurd p
first-of Le Ne z o p h = absurd p
first-of Eq l z o p h = absurd o
first-of Ne l z o p h = absurd o

second-of : (k l : Kind) (z : ℤ) → IsOrder k → IsOrder l → HoldsAs (strictest k l) z → HoldsAs l z
second-of Lt Le z o p h = omega (arith, ints)
second-of Lt Lt z o p h = h
second-of Lt Eq z o p h = absurd p
second-of Lt Ne z o p h = absurd p
second-of Le Le z o p h = h
second-of Le Lt z o p h = h
second-of Le Eq z o p h = absurd p
second-of Le Ne z o p h = absurd p
second-of Eq l z o p h = absurd o
second-of Ne l z o p h = absurd o

-- a * y + b * z is as the kind wants it where y is, and z at most 0
mixed : (k : Kind) (a b y z w : ℤ) → IsOrder k → pos 0 <ℤ a → pos 0 <ℤ b → HoldsAs k y → z ≤ℤ pos 0 → w ≡ a *ℤ y +ℤ b *ℤ z → HoldsAs k w
mixed Lt a b y z w o ha hb h k e = let l = mul-lt a y (pos 0) ha h in let m = mul-le b z (pos 0) (omega (arith, ints)) k in omega (arith, ints)
mixed Le a b y z w o ha hb h k e = let l = mul-le a y (pos 0) (omega (arith, ints)) h in let m = mul-le b z (pos 0) (omega (arith, ints)) k in omega (arith, ints)
mixed Eq a b y z w o ha hb h k e = absurd o
mixed Ne a b y z w o ha hb h k e = absurd o

-- ---- the middle

middle : Bound → Bound → ℤ
middle p q = p.factor *ℤ q.rest -ℤ q.factor *ℤ p.rest

scale_of : Bound → Bound → ℤ
scale_of p q = pos 2 *ℤ (p.factor *ℤ q.factor)

middle-upper : (p q u : Bound) → IsBound p → IsBound q → IsBound u → Tighter p u → Combined u q → Upper (scale_of p q) (middle p q) u
unfolding middle scale_of
middle-upper p q u hp hq hu t c =
    mixed u.kind p.factor q.factor (q.factor *ℤ u.rest +ℤ u.factor *ℤ q.rest) (p.factor *ℤ u.rest -ℤ u.factor *ℤ p.rest) _ hu.order hp.positive hq.positive
    (first-of u.kind q.kind _ hu.order hq.order c) (omega (arith, ints)) (simp expand (omega (arith, ints, product3, product4)))

middle-lower : (p q l : Bound) → IsBound p → IsBound q → IsBound l → Tighter q l → Combined p l → Lower (scale_of p q) (middle p q) l
unfolding middle scale_of
middle-lower p q l hp hq hl t c =
    mixed l.kind q.factor p.factor (l.factor *ℤ p.rest +ℤ p.factor *ℤ l.rest) (q.factor *ℤ l.rest -ℤ l.factor *ℤ q.rest) _ hl.order hq.positive hp.positive
    (second-of p.kind l.kind _ hp.order hl.order c) (omega (arith, ints)) (simp expand (omega (arith, ints, product3, product4)))

scale-positive : (u l : Bound) → IsBound u → IsBound l → pos 0 <ℤ scale_of u l
unfolding scale_of
scale-positive u l a b = let k = mul-pos u.factor l.factor a.positive b.positive in omega (arith, ints)

-- ---- bounds on one side alone

far-below : (p u : Bound) → IsBound p → IsBound u → Tighter p u → Upper p.factor (neg_ℤ p.rest -ℤ p.factor) u
far-below p u hp hu t = strictly u.kind _ hu.order (let k = mul-pos u.factor p.factor hu.positive hp.positive in simp expand (omega (arith, ints)))

far-above : (q l : Bound) → IsBound q → IsBound l → Tighter q l → Lower q.factor (q.rest +ℤ q.factor) l
far-above q l hq hl t = strictly l.kind _ hl.order (let k = mul-pos l.factor q.factor hl.positive hq.positive in simp expand (omega (arith, ints)))

-- ---- a value of the unknown, after the other terms have been multiplied by a number above 0

pub record Point (uppers lowers : List Bound) : Type 0 where
  pub scale : ℤ
  pub value : ℤ
  pub positive : pos 0 <ℤ scale
  pub upper : AllByRecursion (Upper scale value) uppers
  pub lower : AllByRecursion (Lower scale value) lowers

-- every upper bound goes with every lower one
abbrev pub AllCombined : List Bound → List Bound → Type 0
AllCombined ups lows = AllByRecursion (λ p. AllByRecursion (Combined p) lows) ups

between : (p : Bound) (ps : List Bound) (q : Bound) (qs : List Bound) → AllByRecursion IsBound (p ∷ ps) → AllByRecursion IsBound (q ∷ qs) → AllCombined (p ∷ ps) (q ∷ qs) → Point (p ∷ ps) (q ∷ qs)
between p ps q qs hp hq c =
    let u = tightest (λ b. AllByRecursion (Combined b) (q ∷ qs)) p ps hp c in
    let l = tightest (λ b. AllByRecursion (λ a. Combined a b) (p ∷ ps)) q qs hq (each-flip Combined (p ∷ ps) (q ∷ qs) c) in
    let hu = each-two _ _ (λ v. Tighter u.bound v × Combined v l.bound) (p ∷ ps) u.tighter l.has (λ v t k. (t, k)) in
    let hl = each-two _ _ (λ v. Tighter l.bound v × Combined u.bound v) (q ∷ qs) l.tighter u.has (λ v t k. (t, k)) in
    record {
      scale = scale_of u.bound l.bound;
      value = middle u.bound l.bound;
      positive = scale-positive u.bound l.bound u.is l.is;
      upper = each-two _ _ _ (p ∷ ps) hp hu (λ v h t. middle-upper u.bound l.bound v u.is l.is h t.0 t.1);
      lower = each-two _ _ _ (q ∷ qs) hq hl (λ v h t. middle-lower u.bound l.bound v u.is l.is h t.0 t.1);
    }

pub point : (ups lows : List Bound) → AllByRecursion IsBound ups → AllByRecursion IsBound lows → AllCombined ups lows → Point ups lows
point [] [] hu hl c = record { scale = pos 1; value = pos 0; positive = omega (arith, ints); upper = tt; lower = tt }
point (p ∷ ps) [] hu hl c =
    let u = tightest (λ b. Unit {0}) p ps hu (each-any _ (p ∷ ps) (λ b. tt)) in
    record {
      scale = u.bound.factor;
      value = neg_ℤ u.bound.rest -ℤ u.bound.factor;
      positive = u.is.positive;
      upper = each-two _ _ _ (p ∷ ps) hu u.tighter (λ v h t. far-below u.bound v u.is h t);
      lower = tt;
    }
point [] (q ∷ qs) hu hl c =
    let l = tightest (λ b. Unit {0}) q qs hl (each-any _ (q ∷ qs) (λ b. tt)) in
    record {
      scale = l.bound.factor;
      value = l.bound.rest +ℤ l.bound.factor;
      positive = l.is.positive;
      upper = tt;
      lower = each-two _ _ _ (q ∷ qs) hl l.tighter (λ v h t. far-above l.bound v l.is h t);
    }
point (p ∷ ps) (q ∷ qs) hu hl c = between p ps q qs hu hl c
