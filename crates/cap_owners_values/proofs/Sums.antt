-- The loop that adds up a term's value.
use Rattle.std.specs.Prelude.{if◌then◌else◌, is_none}
use Rattle.std.proofs.Common.{◌≡◌, Bool, true, false, suc, inl, inr, ℕ, ℤ, pos, negsuc, ◌+ℤ◌, ◌*ℤ◌, List, [], ◌∷◌, ◌++◌, ◌+◌, ◌<◌, ◌≤◌, length, get_or, drop, arith, add-one, refl, drop-cons, sym, ◌∙◌, ap, Option, Some, None, Result, Err, FitsSigned}
use Rattle.std.proofs.lemmas.List.{drop_all}
use Rattle.std.proofs.lemmas.Int.{ints}
use mir.Syntax.{w128}
use Rattle.cap_lin.specs.Steps.{fits, Step, sum_of, product_of, first_wide, value_steps}
use Rattle.cap_lin.specs.Values.{parts_value}
use Rattle.cap_numbers.proofs.Ring.{mul_assoc}
use Rattle.cap_lin.proofs.Results.{first_wide-nil, first-narrow, first-wide, sum-wide, sum-fits, product-wide, product-fits, fits_or_not, fits-yes}
use Rattle.cap_lin.specs.Linear.{Linear}
use Rattle.cap_lin.specs.Values.{value, amount}
use Rattle.cap_lin.specs.declared.row.Sort.TheVariants.{Int, Perm}
use Rattle.cap_prog.specs.declared.assertion.Comp.{Comp}
use Rattle.cap_machine.specs.Machine.{compared}
use Rattle.cap_machine_accounts.specs.Assertions.{NameValue}
use Rattle.cap_owners_spec.specs.Traced.{Traced, traced, past_width, untold, computed, over, number_in, amount_in, number_by_sort, holds_by}
use Rattle.cap_owners_values.specs.declared.error.TraceError.{TraceError}
use Rattle.cap_owners_values.specs.declared.error.TraceError.TheVariants.{PastWidth, Untold, OutOfMemory}
use Rattle.cap_owners_values.specs.Views.{Traces}
use Rattle.cap_owners_values.proofs.Tracing.{stops}
use Rattle.cap_owners_values.specs.Sums.{product_by, sum_by, total_by, total_from}

-- ---- what is computed

pub narrow_of : (z y : ℤ) (xs : List Step) → computed z xs ≡ traced y → (first_wide xs ≡ None) × (y ≡ z)
narrow_of z y xs e = by_first (first_wide xs) refl
  where
    by_first : (w : Option (ℤ × ℤ)) → first_wide xs ≡ w → (first_wide xs ≡ None) × (y ≡ z)
    by_first None h = let k = rw h at e in (h, cc)
    by_first (Some q) h = let k = rw h at e in absurd (cc)

pub computed_narrow : (z : ℤ) (xs : List Step) → first_wide xs ≡ None → computed z xs ≡ traced z
computed_narrow z xs h = rw h refl

pub computed_wide : (z : ℤ) (xs : List Step) (q : ℤ × ℤ) → first_wide xs ≡ Some q → computed z xs ≡ past_width
computed_wide z xs q h = rw h refl

-- steps behind narrow ones
pub computed_later : (z : ℤ) (xs ys : List Step) → first_wide xs ≡ None → computed z (xs ++ ys) ≡ computed z ys
computed_later z xs ys h = rw (first-narrow xs ys h) refl

-- an error of the first steps is one of all
pub computed_stops : (e : TraceError) (y z : ℤ) (xs ys : List Step) → Traces {A = ℤ} {B = ℤ} (Err e) (λ x. x) (computed y xs) → Traces {A = ℤ} {B = ℤ} (Err e) (λ x. x) (computed z (xs ++ ys))
computed_stops e y z xs ys h = by_first e (first_wide xs) refl h
  where
    by_first : (e : TraceError) (w : Option (ℤ × ℤ)) → first_wide xs ≡ w → Traces {A = ℤ} {B = ℤ} (Err e) (λ x. x) (computed y xs) → Traces {A = ℤ} {B = ℤ} (Err e) (λ x. x) (computed z (xs ++ ys))
    by_first OutOfMemory w k t = tt
    by_first PastWidth (Some q) k t = computed_wide z (xs ++ ys) q (first-wide xs ys q k)
    by_first PastWidth None k t = let u = rw k at t in absurd (cc)
    by_first Untold (Some q) k t = let u = rw k at t in absurd (cc)
    by_first Untold None k t = let u = rw k at t in absurd (cc)

-- ---- one product, one sum

pub product_there : (a b x y z : ℤ) → a ≡ x → b ≡ y → FitsSigned w128 (a *ℤ b) → z ≡ a *ℤ b → product_by y x ≡ traced z
product_there a b x y z e d h f = rw (← e, ← d, f) (computed_narrow _ _ (product-fits a b [] h ∙ first_wide-nil))

pub product_past : (a b x y : ℤ) → a ≡ x → b ≡ y → (FitsSigned w128 (a *ℤ b) → ⊥) → product_by y x ≡ past_width
product_past a b x y e d h = rw (← e, ← d) (computed_wide _ _ _ (product-wide a b [] h))

pub sum_there : (a b x y z : ℤ) → a ≡ x → b ≡ y → FitsSigned w128 (a +ℤ b) → z ≡ a +ℤ b → sum_by y x ≡ traced z
sum_there a b x y z e d h f = rw (← e, ← d, f) (computed_narrow _ _ (sum-fits a b [] h ∙ first_wide-nil))

pub sum_past : (a b x y : ℤ) → a ≡ x → b ≡ y → (FitsSigned w128 (a +ℤ b) → ⊥) → sum_by y x ≡ past_width
sum_past a b x y e d h = rw (← e, ← d) (computed_wide _ _ _ (sum-wide a b [] h))

-- ---- the loop

abbrev pub no_part : ℕ × ℤ
no_part = (0, pos 0)

steps-cons : (n : ℕ → ℤ) (s : ℤ) (p : ℕ × ℤ) (ps : List (ℕ × ℤ)) → value_steps n s (p ∷ ps) ≡ (product_of p.1 (n p.0) ∷ []) ++ ((sum_of s (p.1 *ℤ n p.0) ∷ []) ++ value_steps n (s +ℤ p.1 *ℤ n p.0) ps)
unfolding value_steps
steps-cons n s p ps = refl

value-cons : (n : ℕ → ℤ) (p : ℕ × ℤ) (ps : List (ℕ × ℤ)) → parts_value n (p ∷ ps) ≡ p.1 *ℤ n p.0 +ℤ parts_value n ps
unfolding parts_value
value-cons n p ps = refl

plus-zero : (s : ℤ) → s +ℤ pos 0 ≡ s
plus-zero s = omega (arith, ints)

pub total-nil : (n : ℕ → ℤ) (s : ℤ) → total_by n s [] ≡ traced s
unfolding parts_value value_steps first_wide
total-nil n s = rw plus-zero refl

regroup : (s p q : ℤ) → s +ℤ (p +ℤ q) ≡ (s +ℤ p) +ℤ q
regroup s p q = omega (arith, ints)

-- both the product and the sum are there
total-cons : (n : ℕ → ℤ) (s : ℤ) (p : ℕ × ℤ) (ps : List (ℕ × ℤ)) (m t : ℤ) → product_by (n p.0) p.1 ≡ traced m → sum_by m s ≡ traced t → total_by n s (p ∷ ps) ≡ total_by n t ps
total-cons n s p ps m t h k =
    let a = narrow_of _ _ _ h in
    let b = narrow_of _ _ _ k in
    let c : first_wide (sum_of s (p.1 *ℤ n p.0) ∷ []) ≡ None = rw (← a.1) b.0 in
    let d : t ≡ s +ℤ p.1 *ℤ n p.0 = b.1 ∙ ap (λ x. s +ℤ x) a.1 in
    rw (steps-cons, value-cons, computed_later _ _ _ a.0, computed_later _ _ _ c, d, regroup) refl

at-place : (ps : List (ℕ × ℤ)) (i : ℕ) → i < length ps → drop i ps ≡ get_or ps i no_part ∷ drop (suc i) ps
at-place ps i h = drop-cons ps i no_part h

-- the part is seen by its number and its coefficient
pub total_goes : (n : ℕ → ℤ) (s : ℤ) (ps : List (ℕ × ℤ)) (i : ℕ) (k z m p a t r : ℤ) (whole : Traced ℤ) → i < length ps → k ≡ (get_or ps i no_part).1 → z ≡ n (get_or ps i no_part).0 → product_by z k ≡ traced m → p ≡ m → a ≡ s → sum_by p a ≡ traced t → r ≡ t → total_by n s (drop i ps) ≡ whole → total_by n r (drop (i + 1) ps) ≡ whole
total_goes n s ps i k z m p a t r whole i_in e d h f g j o w =
    let h' : product_by (n (get_or ps i no_part).0) (get_or ps i no_part).1 ≡ traced m = rw (← e, ← d) h in
    let j' : sum_by m s ≡ traced t = rw (← f, ← g) j in
    rw (add-one, o) (sym (total-cons n s (get_or ps i no_part) (drop (suc i) ps) m t h' j') ∙ (ap (total_by n s) (sym (at-place ps i i_in)) ∙ w))

pub total_ends : (n : ℕ → ℤ) (s : ℤ) (ps : List (ℕ × ℤ)) (i : ℕ) (whole : Traced ℤ) → length ps ≤ i → total_by n s (drop i ps) ≡ whole → whole ≡ traced s
total_ends n s ps i whole h w = sym w ∙ (ap (total_by n s) (drop_all i ps h) ∙ total-nil n s)

pub total_stops_at_product : (e : TraceError) (n : ℕ → ℤ) (s : ℤ) (ps : List (ℕ × ℤ)) (i : ℕ) (k z : ℤ) (whole : Traced ℤ) → i < length ps → k ≡ (get_or ps i no_part).1 → z ≡ n (get_or ps i no_part).0 → Traces {A = ℤ} {B = ℤ} (Err e) (λ x. x) (product_by z k) → total_by n s (drop i ps) ≡ whole → Traces {A = ℤ} {B = ℤ} (Err e) (λ x. x) whole
total_stops_at_product e n s ps i k z whole i_in f d h w =
    let h' : Traces {A = ℤ} {B = ℤ} (Err e) (λ x. x) (product_by (n (get_or ps i no_part).0) (get_or ps i no_part).1) = rw (← f, ← d) h in
    let all : whole ≡ total_by n s (get_or ps i no_part ∷ drop (suc i) ps) = sym w ∙ ap (total_by n s) (at-place ps i i_in) in
    rw (all, steps-cons) (computed_stops e _ _ _ _ h')

pub total_stops_at_sum : (e : TraceError) (n : ℕ → ℤ) (s : ℤ) (ps : List (ℕ × ℤ)) (i : ℕ) (k z m p a : ℤ) (whole : Traced ℤ) → i < length ps → k ≡ (get_or ps i no_part).1 → z ≡ n (get_or ps i no_part).0 → product_by z k ≡ traced m → p ≡ m → a ≡ s → Traces {A = ℤ} {B = ℤ} (Err e) (λ x. x) (sum_by p a) → total_by n s (drop i ps) ≡ whole → Traces {A = ℤ} {B = ℤ} (Err e) (λ x. x) whole
total_stops_at_sum e n s ps i k z m p a whole i_in f d h q g j w =
    let h' : product_by (n (get_or ps i no_part).0) (get_or ps i no_part).1 ≡ traced m = rw (← f, ← d) h in
    let x = narrow_of _ _ _ h' in
    let all : whole ≡ total_by n s (get_or ps i no_part ∷ drop (suc i) ps) = sym w ∙ ap (total_by n s) (at-place ps i i_in) in
    let b : Traces {A = ℤ} {B = ℤ} (Err e) (λ x. x) (sum_by ((get_or ps i no_part).1 *ℤ n (get_or ps i no_part).0) s) = rw (← x.1, ← q, ← g) j in
    rw (all, steps-cons, computed_later _ _ _ x.0) (computed_stops e _ _ _ _ b)

-- ---- a term: that of a share begins with its constant

pub number_whole : (r : Result ℤ TraceError) (vs : List NameValue) (t : Linear) (c : ℤ) (ps : List (ℕ × ℤ)) → c ≡ t.constant → ps ≡ t.parts → Traces {A = ℤ} {B = ℤ} r (λ x. x) (total_from Int vs c ps) → Traces {A = ℤ} {B = ℤ} r (λ x. x) (number_in vs t)
unfolding value
number_whole r vs t c ps e d h = rw (e, d) at h

pub amount_stops : (e : TraceError) (vs : List NameValue) (t : Linear) (c : ℤ) → c ≡ t.constant → Traces {A = ℤ} {B = ℤ} (Err e) (λ x. x) (product_by (pos over) c) → Traces {A = ℤ} {B = ℤ} (Err e) (λ x. x) (amount_in vs t)
amount_stops e vs t c d h =
    let k : Traces {A = ℤ} {B = ℤ} (Err e) (λ x. x) (product_by (pos over) t.constant) = rw d at h in
    computed_stops e _ _ (product_of t.constant (pos over) ∷ []) _ k

pub amount_whole : (r : Result ℤ TraceError) (vs : List NameValue) (t : Linear) (c s z : ℤ) (ps : List (ℕ × ℤ)) → c ≡ t.constant → ps ≡ t.parts → product_by (pos over) c ≡ traced s → z ≡ s → Traces {A = ℤ} {B = ℤ} r (λ x. x) (total_from Perm vs z ps) → Traces {A = ℤ} {B = ℤ} r (λ x. x) (amount_in vs t)
unfolding amount
amount_whole r vs t c s z ps e d h f k =
    let a = narrow_of _ _ _ h in
    let b : first_wide (product_of t.constant (pos over) ∷ []) ≡ None = rw (← e) a.0 in
    let g : z ≡ t.constant *ℤ pos over = f ∙ (a.1 ∙ ap (λ x. x *ℤ pos over) e) in
    rw (computed_later _ (product_of t.constant (pos over) ∷ []) _ b) (rw (g, d) at k)

-- ---- a comparison

pub holds_stops : (e : TraceError) (vs : List NameValue) (c : Comp) (l : ℤ) → number_by_sort c.sort vs c.left ≡ traced l → Traces {A = ℤ} {B = ℤ} (Err e) (λ x. x) (number_by_sort c.sort vs c.right) → Traces {A = Bool} {B = Bool} (Err e) (λ b. b) (holds_by vs c)
holds_stops e vs c l h k = rw h (stops e (λ x. x) (λ b. b) _ _ k)

pub holds_seen : (vs : List NameValue) (c : Comp) (l r x y : ℤ) (b : Bool) → number_by_sort c.sort vs c.left ≡ traced l → number_by_sort c.sort vs c.right ≡ traced r → x ≡ l → y ≡ r → b ≡ compared c.op x y → holds_by vs c ≡ traced b
holds_seen vs c l r x y b h k e d f = rw (h, k, f, e, d) refl

-- ---- a coefficient times the numerator of a whole number

swapped : (k z : ℤ) → k *ℤ (z *ℤ pos over) ≡ (k *ℤ z) *ℤ pos over
swapped k z = mul_assoc k z (pos over)

times_zero : (k : ℤ) → k *ℤ pos 0 ≡ pos 0
times_zero k = omega (arith, ints)

pub product_with_zero : (k : ℤ) → product_by (pos 0) k ≡ traced (pos 0)
unfolding first_wide
product_with_zero k = rw times_zero refl

-- a product by whether it is within 128 bits
abbrev by_fits : Bool → ℤ → Traced ℤ
by_fits true z = traced z
by_fits false z = past_width

product-by : (k z : ℤ) → product_by z k ≡ by_fits (fits (k *ℤ z)) (k *ℤ z)
unfolding first_wide
product-by k z = on (fits (k *ℤ z))
  where
    on : (b : Bool) → (if is_none {T = ℤ × ℤ} (if b then None else Some (k, z)) then traced (k *ℤ z) else past_width) ≡ by_fits b (k *ℤ z)
    on true = refl
    on false = refl

-- the product of a whole number comes first
pub whole_first : (k z k' z' m p : ℤ) → k' ≡ k → z' ≡ z → product_by z' k' ≡ traced m → p ≡ m → product_by (z *ℤ pos over) k ≡ product_by (pos over) p
whole_first k z k' z' m p f g h' e =
    let h : product_by z k ≡ traced m = rw (← f, ← g) h' in
    let a = narrow_of _ _ _ h in
    let d : k *ℤ (z *ℤ pos over) ≡ p *ℤ pos over = rw (e, a.1) (swapped k z) in
    product-by k (z *ℤ pos over) ∙ (ap (λ x. by_fits (fits x) x) d ∙ sym (product-by p (pos over)))

wide_still : (m : ℤ) → (FitsSigned w128 m → ⊥) → FitsSigned w128 (m *ℤ pos over) → ⊥
wide_still (pos n) h f = h (record { sfits = omega (arith, ints, f.sfits) })
wide_still (negsuc n) h f = h (record { sfits = omega (arith, ints, f.sfits) })

stops_by : (e : TraceError) (z : ℤ) → Traces {A = ℤ} {B = ℤ} (Err e) (λ x. x) (by_fits (fits z) z) → Traces {A = ℤ} {B = ℤ} (Err e) (λ x. x) (by_fits (fits (z *ℤ pos over)) (z *ℤ pos over))
stops_by OutOfMemory z h = tt
stops_by PastWidth z h = elim (fits_or_not (z *ℤ pos over)) [ inl f ↦ narrow f | inr e ↦ rw e refl ]
  where
    narrow : FitsSigned w128 (z *ℤ pos over) → by_fits (fits (z *ℤ pos over)) (z *ℤ pos over) ≡ past_width
    narrow f = absurd (elim (fits_or_not z) [ inl g ↦ contrary (rw (fits-yes z g) at h) | inr e ↦ wide_still z (unfit e) f ])
      where
        contrary : by_fits true z ≡ past_width → ⊥
        contrary k = cc

        unfit : fits z ≡ false → FitsSigned w128 z → ⊥
        unfit e g = let y = fits-yes z g in cc
stops_by Untold z h = absurd (elim (fits_or_not z) [ inl g ↦ first (rw (fits-yes z g) at h) | inr e ↦ second (rw e at h) ])
  where
    first : by_fits true z ≡ untold → ⊥
    first k = cc

    second : by_fits false z ≡ untold → ⊥
    second k = cc

pub whole_stops : (e : TraceError) (k z k' z' : ℤ) → k' ≡ k → z' ≡ z → Traces {A = ℤ} {B = ℤ} (Err e) (λ x. x) (product_by z' k') → Traces {A = ℤ} {B = ℤ} (Err e) (λ x. x) (product_by (z *ℤ pos over) k)
whole_stops e k z k' z' f g h' =
    let h : Traces {A = ℤ} {B = ℤ} (Err e) (λ x. x) (product_by z k) = rw (← f, ← g) h' in
    rw (product-by k (z *ℤ pos over), swapped) (stops_by e (k *ℤ z) (rw (product-by k z) at h))
