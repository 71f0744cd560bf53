-- What an outcome of a walk tells of faults.
use Rattle.std.proofs.Common.{◌≡◌, ◌⊎◌, inl, inr, ℕ, suc, ◌≤◌, ◌<◌, Bool, true, false, refl, sym, subst, ◌∙◌, arith}
use Rattle.cap_kernel_check_steps.specs.Faults.{Fault, failed, left_over, missing, unrooted, IsFirst, IsNode, IsShape}
use Rattle.cap_kernel_check_steps.specs.Walks.{PlainWalk, Outcome, goes_on, at_node, at_shape, After, unless_lacking}

abbrev pub Shows : Type 1
Shows = Fault → ℕ → Type 0

-- a node is missing behind those that were passed
abbrev pub Pending : PlainWalk → Shows
Pending w f k = (w.lacks ≡ true) × (f ≡ missing) × (k ≡ suc w.before)

abbrev pub With : PlainWalk → Shows → Shows
With w A f k = A f k ⊎ Pending w f k

-- what is still pending is all that shows, and otherwise this holds
pub record Stays (P : Shows) (D : Type 0) (v : PlainWalk) : Type 0 where
  pub all : (f : Fault) (k : ℕ) → P f k → Pending v f k
  pub shown : v.lacks ≡ true → P missing (suc v.before)
  pub derived : v.lacks ≡ false → D

abbrev pub Told : Shows → Type 0 → Outcome → Type 0
Told P D (goes_on v) = Stays P D v
Told P D (at_node k) = IsNode P k
Told P D (at_shape k) = IsShape P k

abbrev pub Within : ℕ → Outcome → Type 0
Within end (goes_on v) = v.before ≡ end
Within end (at_node k) = k ≤ end
Within end (at_shape k) = k ≤ end

-- ---- constructors are apart

pub true-false : {A : Type 0} → true ≡ false → A
true-false e = absurd (let k : true ≡ false = e in cc)

pub both-ways : {A : Type 0} (b : Bool) → b ≡ true → b ≡ false → A
both-ways b x y = true-false (sym x ∙ y)

pub failed-missing : {A : Type 0} → failed ≡ missing → A
failed-missing e = absurd (let k : failed ≡ missing = e in cc)

pub failed-left : {A : Type 0} → failed ≡ left_over → A
failed-left e = absurd (let k : failed ≡ left_over = e in cc)

pub failed-unrooted : {A : Type 0} → failed ≡ unrooted → A
failed-unrooted e = absurd (let k : failed ≡ unrooted = e in cc)

pub missing-unrooted : {A : Type 0} → missing ≡ unrooted → A
missing-unrooted e = absurd (let k : missing ≡ unrooted = e in cc)

-- ---- bounds

pub with-above : (w : PlainWalk) (A : Shows) → ((f : Fault) (k : ℕ) → A f k → suc w.before ≤ k) → (f : Fault) (k : ℕ) → With w A f k → suc w.before ≤ k
with-above w A above f k (inl a) = above f k a
with-above w A above f k (inr (l, m, e)) = omega (arith, e)

pub within-after : (m o : Outcome) (mid end : ℕ) (Next : PlainWalk → Outcome → Type 0) → mid ≤ end → Within mid m → ((v : PlainWalk) → v.before ≡ mid → Next v o → Within end o) → After m Next o → Within end o
within-after (goes_on v) o mid end Next le h next a = next v h a
within-after (at_node k) o mid end Next le h next a = subst (Within end) (sym a) (omega (arith, le, h))
within-after (at_shape k) o mid end Next le h next a = subst (Within end) (sym a) (omega (arith, le, h))

-- ---- the same faults

first-same : (P Q : Shows) (f : Fault) (k : ℕ) → ((f : Fault) (k : ℕ) → P f k → Q f k) → ((f : Fault) (k : ℕ) → Q f k → P f k) → IsFirst P f k → IsFirst Q f k
first-same P Q f k to from (s, least) = (to f k s, λ e j q. least e j (from e j q))

pub told-same : (P Q : Shows) (D E : Type 0) (o : Outcome) → ((f : Fault) (k : ℕ) → P f k → Q f k) → ((f : Fault) (k : ℕ) → Q f k → P f k) → (((f : Fault) (k : ℕ) → ¬ P f k) → D → E) → Told P D o → Told Q E o
told-same P Q D E (goes_on v) to from derive t = record {
  all = λ f k q. t.all f k (from f k q);
  shown = λ l. to missing (suc v.before) (t.shown l);
  derived = λ l. derive (λ f k q. both-ways v.lacks (t.all f k q).0 l) (t.derived l);
}
told-same P Q D E (at_node k) to from derive (inl t) = inl (first-same P Q failed k to from t)
told-same P Q D E (at_node k) to from derive (inr (t, none)) = inr (first-same P Q unrooted k to from t, λ q. none (from missing k q))
told-same P Q D E (at_shape k) to from derive (inl t, none) = (inl (first-same P Q left_over k to from t), λ q. none (from failed k q))
told-same P Q D E (at_shape k) to from derive (inr t, none) = (inr (first-same P Q missing k to from t), λ q. none (from failed k q))

-- ---- one part behind the other

abbrev Joined : PlainWalk → Shows → Shows → Shows
Joined w A B f k = (A f k ⊎ B f k) ⊎ Pending w f k

with-joined : (w : PlainWalk) (A B : Shows) (f : Fault) (k : ℕ) → With w A f k → Joined w A B f k
with-joined w A B f k (inl a) = inl (inl a)
with-joined w A B f k (inr p) = inr p

joined-first : (w : PlainWalk) (A B : Shows) (mid : ℕ) (f : Fault) (k : ℕ) → k ≤ mid → ((f : Fault) (k : ℕ) → B f k → mid < k) → IsFirst (With w A) f k → IsFirst (Joined w A B) f k
joined-first w A B mid f k le above (s, least) = (with-joined w A B f k s, λ e j q. go e j q)
  where
    go : (e : Fault) (j : ℕ) → Joined w A B e j → k ≤ j
    go e j (inl (inl a)) = least e j (inl a)
    go e j (inl (inr b)) = let x : mid < j = above e j b in omega (arith, le, x)
    go e j (inr p) = least e j (inr p)

joined-none : (w : PlainWalk) (A B : Shows) (mid : ℕ) (f : Fault) (k : ℕ) → k ≤ mid → ((f : Fault) (k : ℕ) → B f k → mid < k) → ¬ With w A f k → ¬ Joined w A B f k
joined-none w A B mid f k le above none (inl (inl a)) = none (inl a)
joined-none w A B mid f k le above none (inl (inr b)) = let x : mid < k = above f k b in omega (arith, le, x)
joined-none w A B mid f k le above none (inr p) = none (inr p)

pending-joined : (w v : PlainWalk) (A B : Shows) (D : Type 0) → Stays (With w A) D v → (f : Fault) (k : ℕ) → With v B f k → Joined w A B f k
pending-joined w v A B D s f k (inl b) = inl (inr b)
pending-joined w v A B D s f k (inr (l, m, e)) =
    with-joined w A B f k (subst (λ x. With w A x k) (sym m) (subst (λ x. With w A missing x) (sym e) (s.shown l)))

joined-pending : (w v : PlainWalk) (A B : Shows) (D : Type 0) → Stays (With w A) D v → (f : Fault) (k : ℕ) → Joined w A B f k → With v B f k
joined-pending w v A B D s f k (inl (inl a)) = inr (s.all f k (inl a))
joined-pending w v A B D s f k (inl (inr b)) = inl b
joined-pending w v A B D s f k (inr p) = inr (s.all f k (inr p))

derived-both : (v : PlainWalk) (B : Shows) (P : Shows) (D E : Type 0) (b : Bool) → v.lacks ≡ b → Stays P D v → ((f : Fault) (k : ℕ) → ¬ With v B f k) → E → D × E
derived-both v B P D E true l s none e = absurd (none missing (suc v.before) (inr (l, refl, refl)))
derived-both v B P D E false l s none e = (s.derived l, e)

pub told-after : (w : PlainWalk) (A B : Shows) (D E : Type 0) (mid : ℕ) (m o : Outcome) (Next : PlainWalk → Outcome → Type 0) → ((f : Fault) (k : ℕ) → B f k → mid < k) → Within mid m → Told (With w A) D m → ((v : PlainWalk) → v.before ≡ mid → Next v o → Told (With v B) E o) → After m Next o → Told (λ f k. (A f k ⊎ B f k) ⊎ Pending w f k) (D × E) o
told-after w A B D E mid (goes_on v) o Next above h t next a =
    told-same (With v B) (Joined w A B) E (D × E) o (pending-joined w v A B D t) (joined-pending w v A B D t) (λ none e. derived-both v B (With w A) D E v.lacks refl t none e) (next v h a)
told-after w A B D E mid (at_node k) o Next above h (inl t) next a =
    subst (Told (Joined w A B) (D × E)) (sym a) (inl (joined-first w A B mid failed k h above t))
told-after w A B D E mid (at_node k) o Next above h (inr (t, none)) next a =
    subst (Told (Joined w A B) (D × E)) (sym a) (inr (joined-first w A B mid unrooted k h above t, joined-none w A B mid missing k h above none))
told-after w A B D E mid (at_shape k) o Next above h (inl t, none) next a =
    subst (Told (Joined w A B) (D × E)) (sym a) (inl (joined-first w A B mid left_over k h above t), joined-none w A B mid failed k h above none)
told-after w A B D E mid (at_shape k) o Next above h (inr t, none) next a =
    subst (Told (Joined w A B) (D × E)) (sym a) (inr (joined-first w A B mid missing k h above t), joined-none w A B mid failed k h above none)

-- ---- where a node may be missing

pub unless-cases : (b : Bool) (x o : Outcome) (k : ℕ) (Next : PlainWalk → Outcome → Type 0) (R : Type 0) → (b ≡ true → o ≡ at_shape k → R) → (b ≡ false → After x Next o → R) → After (unless_lacking b x k) Next o → R
unless-cases true x o k Next R f g h = f refl h
unless-cases false x o k Next R f g h = g refl h
