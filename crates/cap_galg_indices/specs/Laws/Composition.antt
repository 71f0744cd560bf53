-- Sets compose as a partial commutative monoid with a full element, and a set is within another
-- exactly where some set completes it to that.
use Rattle.std.proofs.Common.{◌≡◌, ℕ, ◌≤◌, arith, refl, sym, ap, ◌∙◌, subst}
use Rattle.std.proofs.Common.{Bool, true, false, List, [], Option, Some, None, option_and_then}
use Rattle.std.specs.Prelude.{nat_le, nat_lt, not, ◌&&◌, ◌||◌, ◌↔◌, if◌then◌else◌}
use Rattle.std.proofs.lemmas.Bool.{and_right, or_left}
use Rattle.std.proofs.lemmas.Bool.Decides.{nat_tests}
use Rattle.cap_galg_indices.specs.Sets.{AreBounds, exactly_one, has, is_full, are_disjoint}
use Rattle.cap_galg_indices.specs.Sets.{is_within, disjoint_union, composed, ArePartsOf}
use Rattle.cap_galg_indices.specs.Sets.{IsCompletedTo, all_indices, indices_from, index_range}
use Rattle.cap_galg_indices.specs.Laws.Members.{and-commutes, or-commutes}
use Rattle.cap_galg_indices.specs.Laws.Members.{one-or, same-members, all-has, all-ascends, full-is}
use Rattle.cap_galg_indices.specs.Laws.Members.{from-has, range-has, from-ascends, range-ascends}
use Rattle.cap_galg_indices.specs.Laws.Unions.{union-has, union-ascends, union-back}
use Rattle.cap_galg_indices.specs.Laws.Tests.{disjoint-has, disjoint-from, within-has, within-from}

-- ---- answers that may be nothing

some-since : (b : Bool) (x z : List ℕ) → (if b then Some x else None) ≡ Some z
    → (b ≡ true) × (x ≡ z)
some-since true x z e = (refl, cc)
some-since false x z e = cc

some-where : (b : Bool) (x : List ℕ) → b ≡ true → (if b then Some x else None) ≡ Some x
some-where true x e = refl
some-where false x e = cc

then-some : (o : Option (List ℕ)) (f : List ℕ → Option (List ℕ)) (w : List ℕ)
    → option_and_then f o ≡ Some w → (u : List ℕ) × (o ≡ Some u) × (f u ≡ Some w)
then-some None f w e = cc
then-some (Some u) f w e = (u, refl, e)

same-answers : (o p : Option (List ℕ)) → ((z : List ℕ) → o ≡ Some z → p ≡ Some z)
    → ((z : List ℕ) → p ≡ Some z → o ≡ Some z) → o ≡ p
same-answers None None h k = refl
same-answers None (Some y) h k = k y refl
same-answers (Some x) p h k = sym (h x refl)

-- ---- parts of a whole

or-assoc : (a b c : Bool) → ((a || b) || c) ≡ (a || (b || c))
or-assoc true b c = refl
or-assoc false b c = refl

-- of three, that no two are both so
last-two : (a b c : Bool) → (a && b) ≡ false → ((a || b) && c) ≡ false → (b && c) ≡ false
last-two true true c e h = cc
last-two true false c e h = refl
last-two false b c e h = h

first-and-rest : (a b c : Bool) → (a && b) ≡ false → ((a || b) && c) ≡ false
    → (a && (b || c)) ≡ false
first-and-rest true true c e h = cc
first-and-rest true false c e h = h
first-and-rest false b c e h = refl

-- where two sets compose, they are parts of the whole
pub composed-parts : (xs ys zs : List ℕ) → composed xs ys ≡ Some zs → ArePartsOf xs ys zs
composed-parts xs ys zs e n =
    let s = some-since (are_disjoint xs ys) (disjoint_union xs ys) zs e in
    let d = disjoint-has xs ys s.0 n in
    (d, ap (λ l. has l n) (sym s.1) ∙ union-has xs ys n ∙ one-or (has xs n) (has ys n) d)

-- and compose to nothing else
pub parts-composed : (xs ys zs : List ℕ) → AreBounds xs → AreBounds ys → AreBounds zs
    → ArePartsOf xs ys zs → composed xs ys ≡ Some zs
parts-composed xs ys zs p q r h =
    some-where (are_disjoint xs ys) (disjoint_union xs ys) (disjoint-from xs ys (λ n. (h n).0))
    ∙ ap Some (same-members 0 (disjoint_union xs ys) zs (union-ascends 0 xs ys p q) r
    (λ n. union-has xs ys n ∙ one-or (has xs n) (has ys n) (h n).0 ∙ sym (h n).1))

pub composed-ascends : (xs ys zs : List ℕ) → AreBounds xs → AreBounds ys
    → composed xs ys ≡ Some zs → AreBounds zs
composed-ascends xs ys zs p q e =
    subst AreBounds (some-since (are_disjoint xs ys) (disjoint_union xs ys) zs e).1
    (union-ascends 0 xs ys p q)

-- ---- a commutative monoid

composed-turned : (xs ys zs : List ℕ) → AreBounds xs → AreBounds ys → composed xs ys ≡ Some zs
    → composed ys xs ≡ Some zs
composed-turned xs ys zs p q e =
    let h = composed-parts xs ys zs e in
    parts-composed ys xs zs q p (composed-ascends xs ys zs p q e)
    (λ n. (and-commutes (has ys n) (has xs n) ∙ (h n).0, (h n).1 ∙ or-commutes (has xs n) (has ys n)))

pub composed-commutes : (xs ys : List ℕ) → AreBounds xs → AreBounds ys
    → composed xs ys ≡ composed ys xs
composed-commutes xs ys p q = same-answers (composed xs ys) (composed ys xs)
    (λ zs e. composed-turned xs ys zs p q e) (λ zs e. composed-turned ys xs zs q p e)

-- what composes to the left composes to the right
to-the-right : (xs ys zs us ws : List ℕ) → AreBounds xs → AreBounds ys → AreBounds zs
    → composed xs ys ≡ Some us → composed us zs ≡ Some ws
    → option_and_then (λ u. composed xs u) (composed ys zs) ≡ Some ws
to-the-right xs ys zs us ws p q r e i =
    let h = composed-parts xs ys us e in
    let k = composed-parts us zs ws i in
    let us-bounds = composed-ascends xs ys us p q e in
    let both : (n : ℕ) → ((has xs n || has ys n) && has zs n) ≡ false =
    λ n. ap (λ b. b && has zs n) (sym (h n).1) ∙ (k n).0 in
    let vs = disjoint_union ys zs in
    let later : composed ys zs ≡ Some vs = some-where (are_disjoint ys zs) vs
    (disjoint-from ys zs (λ n. last-two (has xs n) (has ys n) (has zs n) (h n).0 (both n))) in
    let m = composed-parts ys zs vs later in
    let whole : composed xs vs ≡ Some ws = parts-composed xs vs ws p (union-ascends 0 ys zs q r)
    (composed-ascends us zs ws us-bounds r i)
    (λ n. (
      ap (λ b. has xs n && b) (m n).1
          ∙ first-and-rest (has xs n) (has ys n) (has zs n) (h n).0 (both n),
      (k n).1 ∙ ap (λ b. b || has zs n) (h n).1 ∙ or-assoc (has xs n) (has ys n) (has zs n)
          ∙ ap (λ b. has xs n || b) (sym (m n).1),
    )) in
    ap (option_and_then (λ u. composed xs u)) later ∙ whole

pub composed-associates : (xs ys zs : List ℕ) → AreBounds xs → AreBounds ys → AreBounds zs
    → option_and_then (λ u. composed u zs) (composed xs ys)
    ≡ option_and_then (λ u. composed xs u) (composed ys zs)
composed-associates xs ys zs p q r = same-answers _ _
    (λ ws e.
    let s = then-some (composed xs ys) (λ u. composed u zs) ws e in
    to-the-right xs ys zs s.0 ws p q r s.1 s.2)
    (λ ws e.
    let s = then-some (composed ys zs) (λ u. composed xs u) ws e in
    let v-bounds = composed-ascends ys zs s.0 q r s.1 in
    let t = to-the-right zs ys xs s.0 ws r q p (composed-turned ys zs s.0 q r s.1)
    (composed-turned xs s.0 ws p v-bounds s.2) in
    let w = then-some (composed ys xs) (λ u. composed zs u) ws t in
    let u-bounds = composed-ascends ys xs w.0 q p w.1 in
    ap (option_and_then (λ u. composed u zs)) (composed-turned ys xs w.0 q p w.1)
    ∙ composed-turned zs w.0 ws r u-bounds w.2)

or-none : (a : Bool) → a ≡ (a || false)
or-none true = refl
or-none false = refl

pub composed-unit : (xs : List ℕ) → AreBounds xs → composed xs [] ≡ Some xs
composed-unit xs p =
    parts-composed xs [] xs p tt p (λ n. (and_right (has xs n) false refl, or-none (has xs n)))

-- what one set completes to another is one set
pub composed-cancels : (xs ys ws zs : List ℕ) → AreBounds xs → AreBounds ys → AreBounds ws
    → composed xs ys ≡ Some zs → composed xs ws ≡ Some zs → ys ≡ ws
composed-cancels xs ys ws zs p q r e i =
    let s = some-since (are_disjoint xs ys) (disjoint_union xs ys) zs e in
    let t = some-since (are_disjoint xs ws) (disjoint_union xs ws) zs i in
    sym (union-back xs ys p q) ∙ ap (disjoint_union xs) (s.1 ∙ sym t.1) ∙ union-back xs ws p r

neither : (a b : Bool) → false ≡ (a || b) → a ≡ false
neither true b e = cc
neither false b e = refl

-- only the empty set is part of the empty set
pub composed-empty : (xs ys : List ℕ) → AreBounds xs → composed xs ys ≡ Some [] → xs ≡ []
composed-empty xs ys p e =
    same-members 0 xs [] p tt
    (λ n. neither (has xs n) (has ys n) (composed-parts xs ys [] e n).1)

-- ---- the full element, and completion

pub full-only : (xs : List ℕ) → (is_full xs ≡ true) ↔ (xs ≡ all_indices)
full-only xs = (full-is xs, λ e. ap is_full e)

-- nothing but the empty set composes with all indices
pub full-alone : (xs zs : List ℕ) → AreBounds xs → composed all_indices xs ≡ Some zs → xs ≡ []
full-alone xs zs p e =
    same-members 0 xs [] p tt
    (λ n. ap (λ b. b && has xs n) (sym (all-has n)) ∙ (composed-parts all_indices xs zs e n).0)

rest-apart : (a b : Bool) → (a ≡ true → b ≡ true) → (a && exactly_one a b) ≡ false
rest-apart true b h = ap not (h refl)
rest-apart false b h = refl

with-rest : (a b : Bool) → (a ≡ true → b ≡ true) → b ≡ (a || exactly_one a b)
with-rest true b h = h refl
with-rest false b h = refl

pub within-completes : (xs ys : List ℕ) → AreBounds xs → AreBounds ys → is_within xs ys ≡ true
    → IsCompletedTo xs ys
within-completes xs ys p q e =
    let h = within-has xs ys e in
    let rest = disjoint_union xs ys in
    let rest-bounds = union-ascends 0 xs ys p q in
    let others : (n : ℕ) → has rest n ≡ exactly_one (has xs n) (has ys n) = union-has xs ys in (
      rest,
      rest-bounds,
      parts-composed xs rest ys p rest-bounds q
          (λ n. (
            ap (λ b. has xs n && b) (others n) ∙ rest-apart (has xs n) (has ys n) (h n),
            with-rest (has xs n) (has ys n) (h n) ∙ ap (λ b. has xs n || b) (sym (others n)),
          )),
    )

pub completed-within : (xs ys : List ℕ) → IsCompletedTo xs ys → is_within xs ys ≡ true
completed-within xs ys h =
    let k = composed-parts xs h.0 ys h.2 in
    within-from xs ys (λ n i. (k n).1 ∙ or_left (has xs n) (has h.0 n) i)

pub below-full : (xs : List ℕ) → AreBounds xs → IsCompletedTo xs all_indices
below-full xs p =
    within-completes xs all_indices p all-ascends (within-from xs all_indices (λ n i. all-has n))

-- ---- ranges that touch

cut-apart : (i j k n : ℕ) → j ≤ k
    → ((nat_le i n && nat_lt n j) && (nat_le j n && nat_lt n k)) ≡ false
cut-apart i j k n m = grind (arith, nat_tests)

cut-whole : (i j k n : ℕ) → i ≤ j → j ≤ k
    → (nat_le i n && nat_lt n k) ≡ ((nat_le i n && nat_lt n j) || (nat_le j n && nat_lt n k))
cut-whole i j k n l m = grind (arith, nat_tests)

pub ranges-compose : (i j k : ℕ) → i ≤ j → j ≤ k
    → composed (index_range i j) (index_range j k) ≡ Some (index_range i k)
ranges-compose i j k l m =
    parts-composed (index_range i j) (index_range j k) (index_range i k) (range-ascends i j)
    (range-ascends j k) (range-ascends i k)
    (λ n. (
      ap (λ b. b && has (index_range j k) n) (range-has i j n)
          ∙ ap (λ b. (nat_le i n && nat_lt n j) && b) (range-has j k n) ∙ cut-apart i j k n m,
      range-has i k n ∙ cut-whole i j k n l m
          ∙ ap (λ b. b || (nat_le j n && nat_lt n k)) (sym (range-has i j n))
          ∙ ap (λ b. has (index_range i j) n || b) (sym (range-has j k n)),
    ))

tail-apart : (i j n : ℕ) → ((nat_le i n && nat_lt n j) && nat_le j n) ≡ false
tail-apart i j n = grind (arith, nat_tests)

tail-whole : (i j n : ℕ) → i ≤ j → nat_le i n ≡ ((nat_le i n && nat_lt n j) || nat_le j n)
tail-whole i j n l = grind (arith, nat_tests)

pub range-and-rest-compose : (i j : ℕ) → i ≤ j
    → composed (index_range i j) (indices_from j) ≡ Some (indices_from i)
range-and-rest-compose i j l =
    parts-composed (index_range i j) (indices_from j) (indices_from i) (range-ascends i j)
    (from-ascends j) (from-ascends i)
    (λ n. (
      ap (λ b. b && has (indices_from j) n) (range-has i j n)
          ∙ ap (λ b. (nat_le i n && nat_lt n j) && b) (from-has j n) ∙ tail-apart i j n,
      from-has i n ∙ tail-whole i j n l
          ∙ ap (λ b. b || nat_le j n) (sym (range-has i j n))
          ∙ ap (λ b. has (index_range i j) n || b) (sym (from-has j n)),
    ))
