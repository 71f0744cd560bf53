-- What is left of rows by pairs of bounds on a variable has a solution only where the rows have one.
use Rattle.std.proofs.Common.{◌≡◌, ℕ, zero, suc, ℤ, pos, negsuc, ◌+ℤ◌, ◌-ℤ◌, ◌*ℤ◌, neg_ℤ, ◌<ℤ◌, List, [], ◌∷◌, ◌++◌, map, arith, sym, ◌∙◌, subst, true}
use Rattle.std.specs.Prelude.{if◌then◌else◌}
use Rattle.std.specs.List.{AllByRecursion}
use Rattle.std.proofs.lemmas.Int.{ints}
use Rattle.cap_numbers.proofs.Ring.{expand, product3}
use Rattle.cap_lin.specs.Linear.{Linear, is_zero, coefficient, combination}
use Rattle.cap_lin.specs.Steps.{product_of}
use Rattle.cap_lin.specs.Values.{RationalValuation, amount}
use Rattle.cap_lin.specs.Solves.{HoldsAs}
use Rattle.cap_lin.proofs.Combinations.{combination-amount, combination-coefficient}
use Rattle.cap_fm_spec.specs.Runs.{Entry, Stage, going, results}
use Rattle.cap_fm_spec.specs.Rows.{is_positive, is_negative, combine, of_row}
use Rattle.cap_fm_spec.specs.Elimination.{lacking, uppers, lowers, strictest, combine_bounds, combine_each, combine_all}
use Rattle.cap_fm_spec.proofs.Lists.{each-left, each-right, each-join, each-map, each-two, each-filter, filter-passes}
use Rattle.cap_fm_spec.proofs.Runs.{goes-on}
use Rattle.cap_fm_spec.proofs.Midpoint.{IsOrder, Bound, IsBound, Upper, Lower, Combined, AllCombined, point}
use Rattle.cap_fm_spec.proofs.Valuations.{lifted, lifted-amount, lacking-holds}
use Rattle.cap_fm_spec.proofs.Arising.{HoldsEntry, AllHold, Arises, Kept, combine-arises, arises-keeps, arises-holds}
use Rattle.cap_fm_spec.proofs.Equations.{zero-true, going-same}

-- ---- the combinations

abbrev pub both_term : ℕ → Entry → Entry → Linear
both_term x p n = combination (negsuc 0 *ℤ of_row x n) p.term (of_row x p) n.term

bounds-arise : (x : ℕ) (present : List Entry) (p n : Entry) (s : Stage) (new : List Entry) → (combine_bounds x present p n s).found ≡ going new → Arises present (both_term x p n) (strictest p.kind n.kind) new
bounds-arise x present p n s new f =
    let g = goes-on (results (product_of (negsuc 0) (of_row x n) ∷ [])) (λ u. combine present (negsuc 0 *ℤ of_row x n) p (of_row x p) n (strictest p.kind n.kind)) s new f in
    combine-arises present (negsuc 0 *ℤ of_row x n) p (of_row x p) n (strictest p.kind n.kind) _ new g.second

-- a combination lacks the variable
pub both-lacks : (x : ℕ) (p n : Entry) → coefficient x (both_term x p n).parts ≡ pos 0
both-lacks x p n = combination-coefficient x _ p.term _ n.term ∙ cancels (of_row x p) (of_row x n)
  where
    cancels : (a b : ℤ) → negsuc 0 *ℤ b *ℤ a +ℤ a *ℤ b ≡ pos 0
    cancels a b = omega (arith, ints, product3)

abbrev pub KeptBoth : (Entry → Type 0) → ℕ → Entry → Entry → Type 0
KeptBoth P x p n = Kept P (both_term x p n) (strictest p.kind n.kind)

each-kept : (P : Entry → Type 0) (x : ℕ) (present : List Entry) (p : Entry) (ns : List Entry) (s : Stage) (left : List Entry) → (combine_each x present p ns s).found ≡ going left → AllByRecursion P present → AllByRecursion (KeptBoth P x p) ns → AllByRecursion P left
unfolding combine_each
each-kept P x present p [] s left f b k = subst (AllByRecursion P) (going-same present left f) b
each-kept P x present p (n ∷ ns) s left f b k =
    let g = goes-on (combine_bounds x present p n) (λ new. combine_each x (present ++ new) p ns) s left f in
    let new = arises-keeps P present _ _ g.value (bounds-arise x present p n s g.value g.first) k.0 in
    each-kept P x (present ++ g.value) p ns _ left g.second (each-join P present g.value b new) k.1

pub bounds-kept : (P : Entry → Type 0) (x : ℕ) (present ps ns : List Entry) (s : Stage) (left : List Entry) → (combine_all x present ps ns s).found ≡ going left → AllByRecursion P present → AllByRecursion (λ p. AllByRecursion (KeptBoth P x p) ns) ps → AllByRecursion P left
unfolding combine_all
bounds-kept P x present [] ns s left f b k = subst (AllByRecursion P) (going-same present left f) b
bounds-kept P x present (p ∷ ps) ns s left f b k =
    let g = goes-on (combine_each x present p ns) (λ more. combine_all x more ps ns) s left f in
    bounds-kept P x g.value ps ns _ left g.second (each-kept P x present p ns s g.value g.first b k.0) k.1

-- ---- what the combinations say

abbrev SaysBoth : RationalValuation → ℕ → Entry → Entry → Type 0
SaysBoth q x p n = HoldsAs (strictest p.kind n.kind) (negsuc 0 *ℤ of_row x n *ℤ amount q p.term +ℤ of_row x p *ℤ amount q n.term)

each-says : (q : RationalValuation) (x : ℕ) (present : List Entry) (p : Entry) (ns : List Entry) (s : Stage) (left : List Entry) → (combine_each x present p ns s).found ≡ going left → AllHold q left → AllHold q present × AllByRecursion (SaysBoth q x p) ns
unfolding combine_each
each-says q x present p [] s left f h = (subst (AllHold q) (sym (going-same present left f)) h, tt)
each-says q x present p (n ∷ ns) s left f h =
    let g = goes-on (combine_bounds x present p n) (λ new. combine_each x (present ++ new) p ns) s left f in
    let ih = each-says q x (present ++ g.value) p ns _ left g.second h in
    let b = each-left _ present g.value ih.0 in
    let k = arises-holds q (HoldsEntry q) present _ _ g.value (bounds-arise x present p n s g.value g.first) b (each-right _ present g.value ih.0) (λ e d a. a) in
    (b, (subst (HoldsAs (strictest p.kind n.kind)) (combination-amount q _ p.term _ n.term) k, ih.1))

all-say : (q : RationalValuation) (x : ℕ) (present ps ns : List Entry) (s : Stage) (left : List Entry) → (combine_all x present ps ns s).found ≡ going left → AllHold q left → AllHold q present × AllByRecursion (λ p. AllByRecursion (SaysBoth q x p) ns) ps
unfolding combine_all
all-say q x present [] ns s left f h = (subst (AllHold q) (sym (going-same present left f)) h, tt)
all-say q x present (p ∷ ps) ns s left f h =
    let g = goes-on (combine_each x present p ns) (λ more. combine_all x more ps ns) s left f in
    let ih = all-say q x g.value ps ns _ left g.second h in
    let one = each-says q x present p ns s g.value g.first ih.0 in
    (one.0, (one.1, ih.1))

-- ---- rows as bounds on the variable

rest_of : RationalValuation → ℕ → Entry → ℤ
rest_of q x r = amount q r.term -ℤ of_row x r *ℤ q.numerator x

upper_of : RationalValuation → ℕ → Entry → Bound
upper_of q x r = record { factor = of_row x r; rest = rest_of q x r; kind = r.kind }

lower_of : RationalValuation → ℕ → Entry → Bound
lower_of q x r = record { factor = neg_ℤ (of_row x r); rest = rest_of q x r; kind = r.kind }

says-combined : (q : RationalValuation) (x : ℕ) (p n : Entry) → SaysBoth q x p n → Combined (upper_of q x p) (lower_of q x n)
unfolding upper_of lower_of rest_of
says-combined q x p n h = subst (HoldsAs (strictest p.kind n.kind)) (same (of_row x p) (of_row x n) (amount q p.term) (amount q n.term) (q.numerator x)) h
  where
    same : (a b y z d : ℤ) → negsuc 0 *ℤ b *ℤ y +ℤ a *ℤ z ≡ neg_ℤ b *ℤ (y -ℤ a *ℤ d) +ℤ a *ℤ (z -ℤ b *ℤ d)
    same a b y z d = simp expand (omega (arith, ints, product3))

all-combined : (q : RationalValuation) (x : ℕ) (ps ns : List Entry) → AllByRecursion (λ p. AllByRecursion (SaysBoth q x p) ns) ps → AllCombined (map (upper_of q x) ps) (map (lower_of q x) ns)
all-combined q x [] ns h = tt
all-combined q x (p ∷ ps) ns h = (one ns h.0, all-combined q x ps ns h.1)
  where
    one : (ns : List Entry) → AllByRecursion (SaysBoth q x p) ns → AllByRecursion (Combined (upper_of q x p)) (map (lower_of q x) ns)
    one [] h = tt
    one (n ∷ ns) h = (says-combined q x p n h.0, one ns h.1)

upper-holds : (q : RationalValuation) (x : ℕ) (m z : ℤ) (r : Entry) → pos 0 <ℤ m → Upper m z (upper_of q x r) → HoldsEntry (lifted q x m z) r
unfolding upper_of rest_of
upper-holds q x m z r h u = subst (HoldsAs r.kind) (same (of_row x r) (amount q r.term) (q.numerator x) ∙ sym (lifted-amount q x m z r.term h)) u
  where
    same : (c y d : ℤ) → c *ℤ z +ℤ m *ℤ (y -ℤ c *ℤ d) ≡ m *ℤ y +ℤ c *ℤ (z -ℤ m *ℤ d)
    same c y d = simp expand (omega (arith, ints, product3))

lower-holds : (q : RationalValuation) (x : ℕ) (m z : ℤ) (r : Entry) → pos 0 <ℤ m → Lower m z (lower_of q x r) → HoldsEntry (lifted q x m z) r
unfolding lower_of rest_of
lower-holds q x m z r h u = subst (HoldsAs r.kind) (same (of_row x r) (amount q r.term) (q.numerator x) ∙ sym (lifted-amount q x m z r.term h)) u
  where
    same : (c y d : ℤ) → m *ℤ (y -ℤ c *ℤ d) -ℤ neg_ℤ c *ℤ z ≡ m *ℤ y +ℤ c *ℤ (z -ℤ m *ℤ d)
    same c y d = simp expand (omega (arith, ints, product3))

-- ---- all rows that are at most or below 0 where they have the variable

abbrev pub OrdersAt : ℕ → Entry → Type 0
OrdersAt x r = (of_row x r ≡ pos 0 → ⊥) → IsOrder r.kind

upper-bound : (q : RationalValuation) (x : ℕ) (r : Entry) → OrdersAt x r → is_positive (of_row x r) ≡ true → IsBound (upper_of q x r)
unfolding upper_of
upper-bound q x r o p = record { positive = above (of_row x r) p; order = o (λ e. let a = above (of_row x r) p in absurd (omega (arith, ints))) }
  where
    above : (c : ℤ) → is_positive c ≡ true → pos 0 <ℤ c
    above (pos zero) p = cc
    above (pos (suc k)) p = omega (arith, ints)
    above (negsuc k) p = cc

lower-bound : (q : RationalValuation) (x : ℕ) (r : Entry) → OrdersAt x r → is_negative (of_row x r) ≡ true → IsBound (lower_of q x r)
unfolding lower_of
lower-bound q x r o p = record { positive = below (of_row x r) p; order = o (λ e. let a = below (of_row x r) p in absurd (omega (arith, ints))) }
  where
    below : (c : ℤ) → is_negative c ≡ true → pos 0 <ℤ neg_ℤ c
    below (pos k) p = cc
    below (negsuc k) p = omega (arith, ints)

to-map : {X Y : Type 0} (P : Y → Type 0) (f : X → Y) (xs : List X) → AllByRecursion (λ x. P (f x)) xs → AllByRecursion P (map f xs)
to-map P f [] h = tt
to-map P f (x ∷ xs) h = (h.0, to-map P f xs h.1)

from-map : {X Y : Type 0} (P : Y → Type 0) (f : X → Y) (xs : List X) → AllByRecursion P (map f xs) → AllByRecursion (λ x. P (f x)) xs
from-map P f [] h = tt
from-map P f (x ∷ xs) h = (h.0, from-map P f xs h.1)

unite : (P : Entry → Type 0) (x : ℕ) (rows : List Entry) → AllByRecursion P (lacking x rows) → AllByRecursion P (uppers x rows) → AllByRecursion P (lowers x rows) → AllByRecursion P rows
unite P x [] a u l = tt
unite P x (r ∷ rows) a u l = by_sign (of_row x r) (λ a u l. unite P x rows a u l) a u l
  where
    by_sign : (c : ℤ) → (AllByRecursion P (lacking x rows) → AllByRecursion P (uppers x rows) → AllByRecursion P (lowers x rows) → AllByRecursion P rows) → AllByRecursion P (if is_zero c then r ∷ lacking x rows else lacking x rows) → AllByRecursion P (if is_positive c then r ∷ uppers x rows else uppers x rows) → AllByRecursion P (if is_negative c then r ∷ lowers x rows else lowers x rows) → AllByRecursion P (r ∷ rows)
    by_sign (pos zero) ih a u l = (a.0, ih a.1 u l)
    by_sign (pos (suc k)) ih a u l = (u.0, ih a u.1 l)
    by_sign (negsuc k) ih a u l = (l.0, ih a u l.1)

pub bounds-complete : (q : RationalValuation) (x : ℕ) (rows : List Entry) (s : Stage) (left : List Entry) → (combine_all x (lacking x rows) (uppers x rows) (lowers x rows) s).found ≡ going left → AllByRecursion (OrdersAt x) rows → AllHold q left → (w : RationalValuation) × AllHold w rows
bounds-complete q x rows s left f o h =
    let says = all-say q x (lacking x rows) (uppers x rows) (lowers x rows) s left f h in
    let ups = each-two _ _ _ (uppers x rows) (each-filter _ _ rows o) (filter-passes (λ r. is_positive (of_row x r)) rows) (λ r k p. upper-bound q x r k p) in
    let lows = each-two _ _ _ (lowers x rows) (each-filter _ _ rows o) (filter-passes (λ r. is_negative (of_row x r)) rows) (λ r k p. lower-bound q x r k p) in
    let p = point (map (upper_of q x) (uppers x rows)) (map (lower_of q x) (lowers x rows)) (to-map IsBound _ _ ups) (to-map IsBound _ _ lows) (all-combined q x (uppers x rows) (lowers x rows) says.1) in
    let w = lifted q x p.scale p.value in
    let zeros = each-two _ _ (HoldsEntry w) (lacking x rows) says.0 (filter-passes (λ r. is_zero (of_row x r)) rows) (λ r k z. lacking-holds q x p.scale p.value r.kind r.term p.positive (zero-true _ z) k) in
    let above = each-map _ (HoldsEntry w) (uppers x rows) (from-map _ (upper_of q x) (uppers x rows) p.upper) (λ r k. upper-holds q x p.scale p.value r p.positive k) in
    let below = each-map _ (HoldsEntry w) (lowers x rows) (from-map _ (lower_of q x) (lowers x rows) p.lower) (λ r k. lower-holds q x p.scale p.value r p.positive k) in
    (w, unite (HoldsEntry w) x rows zeros above below)
