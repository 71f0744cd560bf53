-- The greatest address of a heap.
use Rattle.std.proofs.Common.{◌≡◌, ◌∙◌, ap, sym, refl, subst, ◌-◌, ◌^◌, Bool, true, false, cond}
use Rattle.std.proofs.Common.{◌||◌, List, [], ◌∷◌, arith}
use Rattle.std.specs.Prelude.{ℤ, pos, negsuc, ◌+ℤ◌, ◌<ℤ◌, ◌≤ℤ◌, int_lt, Option, Some, None, is_some}
use Rattle.std.specs.Prelude.{SomeIff, MatchOption}
use Rattle.std.specs.FinMap.{keys, contains_key-keys, int_cmp-IsAntisymmetric}
use Rattle.std.specs.List.{list_any}
use Rattle.std.specs.Ordering.{int_cmp, is_eq, MatchOrdering}
use Rattle.std.specs.declared.cmp.Ordering.{Ordering}
use Rattle.std.specs.declared.cmp.Ordering.TheVariants.{Less, Equal, Greater}
use Rattle.std.specs.Cmp.{int_ranks}
use Rattle.std.proofs.lemmas.Int.{ints}
use Rattle.std.proofs.lemmas.Bool.Decides.{nat_tests}
use mir.Val.{SFits}
use mir.Syntax.{w128}
use Rattle.cap_lin.specs.Steps.{fits}
use Rattle.cap_machine.specs.Machine.{Heap}
use Rattle.cap_machine.specs.Cells.{IsTop}
use Rattle.cap_machine.proofs.HeapLemmas.{narrow, sfits_of, fits_low}
use Rattle.cap_gen_schedules.specs.Drawn.{greater, greatest, behind, free_address}

abbrev same : ℤ → ℤ → Bool
same a b = is_eq (int_cmp a b)

abbrev IsAmong : List ℤ → ℤ → Type 0
IsAmong xs a = list_any (same a) xs ≡ true

abbrev IsGreatest : List ℤ → Option ℤ → Type 0
IsGreatest xs None = (a : ℤ) → list_any (same a) xs ≡ false
IsGreatest xs (Some top) = IsAmong xs top × ((a : ℤ) → IsAmong xs a → a ≤ℤ top)

same-itself : (a : ℤ) → same a a ≡ true
same-itself a = go (int_cmp a a) (int_ranks a a)
  where
    go : (o : Ordering) → MatchOrdering o (a <ℤ a) (a ≡ a) (a <ℤ a) → is_eq o ≡ true
    go Less m = absurd (omega (arith, ints))
    go Equal m = refl
    go Greater m = absurd (omega (arith, ints))

same-is : (a b : ℤ) → same a b ≡ true → a ≡ b
same-is a b e = int_cmp-IsAntisymmetric a b (go (int_cmp a b) e)
  where
    go : (o : Ordering) → is_eq o ≡ true → o ≡ Equal
    go Less i = absurd (cc)
    go Equal i = refl
    go Greater i = absurd (cc)

either :
    (P : Type 0) (s t : Bool) → (s || t) ≡ true → (s ≡ true → P) → (t ≡ true → P) → P
either P true t e f g = f refl
either P false t e f g = g e

or-right : (s t : Bool) → t ≡ true → (s || t) ≡ true
or-right true t e = refl
or-right false t e = e

not-below : (a b : ℤ) → int_lt b a ≡ false → a ≤ℤ b
not-below a b e = grind (arith, ints)

below : (a b : ℤ) → int_lt b a ≡ true → b <ℤ a
below a b e = grind (arith, ints)

-- one address more
one-more :
    (a : ℤ) (xs : List ℤ) (o : Option ℤ) → IsGreatest xs o → IsGreatest (a ∷ xs) (greater a o)
one-more a xs None g = (ap (λ s. s || list_any (same a) xs) (same-itself a), highest)
  where
    highest : (b : ℤ) → IsAmong (a ∷ xs) b → b ≤ℤ a
    highest b m =
        either (b ≤ℤ a) (same b a) (list_any (same b) xs) m
        (λ i. let e : b ≡ a = same-is b a i in omega (arith, ints))
        (λ i. let n : list_any (same b) xs ≡ false = g b in absurd (cc))
one-more a xs (Some top) g = go (int_lt top a) refl
  where
    go : (t : Bool) → int_lt top a ≡ t → IsGreatest (a ∷ xs) (cond t (Some a) (Some top))
    go true e = (
      ap (λ s. s || list_any (same a) xs) (same-itself a),
      λ b m.
          let l : top <ℤ a = below a top e in
          either (b ≤ℤ a) (same b a) (list_any (same b) xs) m
          (λ i. let j : b ≡ a = same-is b a i in omega (arith, ints))
          (λ i. let j : b ≤ℤ top = g.1 b i in omega (arith, ints)),
    )
    go false e = (
      or-right (same top a) (list_any (same top) xs) g.0,
      λ b m.
          let l : a ≤ℤ top = not-below a top e in
          either (b ≤ℤ top) (same b a) (list_any (same b) xs) m
          (λ i. let j : b ≡ a = same-is b a i in omega (arith, ints))
          (λ i. g.1 b i),
    )

greatest-is : (xs : List ℤ) → IsGreatest xs (greatest xs)
greatest-is [] = λ a. refl
greatest-is (a ∷ xs) = one-more a xs (greatest xs) (greatest-is xs)

one-greatest : (xs : List ℤ) (o u : Option ℤ) → IsGreatest xs o → IsGreatest xs u → o ≡ u
one-greatest xs None None g h = refl
one-greatest xs None (Some b) g h =
    let n : list_any (same b) xs ≡ false = g b in
    let m : list_any (same b) xs ≡ true = h.0 in absurd (cc)
one-greatest xs (Some a) None g h =
    let n : list_any (same a) xs ≡ false = h a in
    let m : list_any (same a) xs ≡ true = g.0 in absurd (cc)
one-greatest xs (Some a) (Some b) g h =
    let l : a ≤ℤ b = h.1 a g.0 in
    let m : b ≤ℤ a = g.1 b h.0 in
    let e : a ≡ b = omega (arith, ints) in ap Some e

top-is : (heap : Heap) (o : Option ℤ) → IsTop heap o → IsGreatest (keys heap) o
top-is heap None t = λ a. sym (contains_key-keys heap a) ∙ ap is_some (t a)
top-is heap (Some top) t =
    (sym (contains_key-keys heap top) ∙ t.0, λ a m. t.1 a (contains_key-keys heap a ∙ m))

-- the address behind the one that the machine tells
pub free-behind : (heap : Heap) (o : Option ℤ) → IsTop heap o → behind o ≡ free_address heap
unfolding free_address
free-behind heap o t =
    ap behind
    (one-greatest (keys heap) o (greatest (keys heap)) (top-is heap o t) (greatest-is (keys heap)))

-- ---- past 128 bits

fits-past : (z : ℤ) → fits z ≡ false → negsuc (2 ^ 127 - 1) ≤ℤ z → pos (2 ^ 127) ≤ℤ z
fits-past (pos n) e l = grind (arith, ints, nat_tests)
fits-past (negsuc n) e l = absurd (grind (arith, ints, nat_tests))

-- the address behind the greatest one, as the code adds 1 to it
pub past-top :
    (heap : Heap) (top : ℤ) (o : Option ℤ) → SFits w128 top →
    SomeIff o (SFits w128 (top +ℤ pos 1)) (top +ℤ pos 1) → IsTop heap (Some top) →
    MatchOption o (pos (2 ^ 127) ≤ℤ free_address heap) (λ r. r ≡ free_address heap)
past-top heap top None f s t =
    subst (λ z. pos (2 ^ 127) ≤ℤ z) (free-behind heap (Some top) t)
    (past (fits (top +ℤ pos 1)) refl)
  where
    past : (b : Bool) → fits (top +ℤ pos 1) ≡ b → pos (2 ^ 127) ≤ℤ (top +ℤ pos 1)
    past true e = absurd (s (sfits_of (top +ℤ pos 1) e))
    past false e =
        let l : negsuc (2 ^ 127 - 1) ≤ℤ top = fits_low top (narrow top f) in
        fits-past (top +ℤ pos 1) e (omega (arith, ints))
past-top heap top (Some r) f s t = s.1 ∙ free-behind heap (Some top) t
