-- What is left of rows by an equation has a solution only where the rows and the equation have one.
use Rattle.std.proofs.Common.{◌≡◌, ℕ, zero, suc, ℤ, pos, negsuc, ◌+ℤ◌, ◌-ℤ◌, ◌*ℤ◌, ◌<ℤ◌, List, [], ◌∷◌, ◌++◌, arith, refl, sym, ◌∙◌, subst, Bool, true, false, ◌⊎◌, inl, inr}
use Rattle.std.specs.Prelude.{if◌then◌else◌}
use Rattle.std.specs.List.{AllByRecursion}
use Rattle.std.proofs.lemmas.Int.{ints}
use Rattle.cap_numbers.proofs.Ring.{expand, product3, product4}
use Rattle.cap_lin.specs.Linear.{Linear, is_zero, coefficient, combination}
use Rattle.cap_lin.specs.Steps.{product_of}
use Rattle.cap_lin.specs.Values.{RationalValuation, amount}
use Rattle.cap_lin.specs.Solves.{HoldsAs}
use Rattle.cap_lin.specs.declared.row.Kind.TheVariants.{Eq}
use Rattle.cap_lin.proofs.Combinations.{combination-amount, combination-coefficient}
use Rattle.cap_fm_spec.specs.Runs.{Entry, Stage, Found, going, done, results}
use Rattle.cap_fm_spec.specs.Rows.{combine, of_row}
use Rattle.cap_fm_spec.specs.Elimination.{replacement, replace, replace_all}
use Rattle.cap_fm_spec.proofs.Lists.{each-left, each-right, each-join, each-map}
use Rattle.cap_fm_spec.proofs.Runs.{goes-on}
use Rattle.cap_fm_spec.proofs.Valuations.{lifted, lifted-amount, times-holds}
use Rattle.cap_fm_spec.proofs.Arising.{HoldsEntry, AllHold, Arises, Kept, combine-arises, arises-keeps, arises-holds}

-- ---- the combination in place of a row

-- the size of the equation's coefficient, and what it makes of another number
abbrev pub size_of : ℤ → ℤ
size_of (pos n) = pos n
size_of (negsuc n) = negsuc 0 *ℤ negsuc n

abbrev pub turned : ℤ → ℤ → ℤ
turned (pos n) q = negsuc 0 *ℤ q
turned (negsuc n) q = q

abbrev pub replaced_term : ℕ → Entry → Entry → Linear
replaced_term x equation r = combination (size_of (of_row x equation)) r.term (turned (of_row x equation) (of_row x r)) equation.term

replacement-arises : (present : List Entry) (e q : ℤ) (equation r : Entry) (s : Stage) (new : List Entry) → (replacement present e q equation r s).found ≡ going new → Arises present (combination (size_of e) r.term (turned e q) equation.term) r.kind new
replacement-arises present (pos n) q equation r s new f =
    let g = goes-on (results (product_of (negsuc 0) q ∷ [])) (λ u. combine present (pos n) r (negsuc 0 *ℤ q) equation r.kind) s new f in
    combine-arises present (pos n) r (negsuc 0 *ℤ q) equation r.kind _ new g.second
replacement-arises present (negsuc n) q equation r s new f =
    let g = goes-on (results (product_of (negsuc 0) (negsuc n) ∷ [])) (λ u. combine present (negsuc 0 *ℤ negsuc n) r q equation r.kind) s new f in
    combine-arises present (negsuc 0 *ℤ negsuc n) r q equation r.kind _ new g.second

-- a row stays, or its combination arises
pub record Stays (x : ℕ) (r : Entry) (new : List Entry) : Type 0 where
  pub lacks : of_row x r ≡ pos 0
  pub is : r ∷ [] ≡ new

pub record Goes (x : ℕ) (equation : Entry) (present : List Entry) (r : Entry) (new : List Entry) : Type 0 where
  pub occurs : of_row x r ≡ pos 0 → ⊥
  pub arises : Arises present (replaced_term x equation r) r.kind new

pub zero-true : (c : ℤ) → is_zero c ≡ true → c ≡ pos 0
zero-true (pos zero) t = refl
zero-true (pos (suc k)) t = cc
zero-true (negsuc k) t = cc

pub zero-false : (c : ℤ) → is_zero c ≡ false → c ≡ pos 0 → ⊥
zero-false (pos zero) t e = cc
zero-false (pos (suc k)) t e = cc
zero-false (negsuc k) t e = cc

pub going-same : (xs ys : List Entry) → ◌≡◌ {A = Found (List Entry)} (going xs) (going ys) → xs ≡ ys
going-same xs ys e = cc

pub replace-either : (x : ℕ) (equation : Entry) (present : List Entry) (r : Entry) (s : Stage) (new : List Entry) → (replace x equation present r s).found ≡ going new → Stays x r new ⊎ Goes x equation present r new
replace-either x equation present r s new f = by_test (is_zero (of_row x r)) refl f
  where
    by_test : (b : Bool) → is_zero (of_row x r) ≡ b → ((if b then done (r ∷ []) else replacement present (of_row x equation) (of_row x r) equation r) s).found ≡ going new → Stays x r new ⊎ Goes x equation present r new
    by_test true e f = inl (record { lacks = zero-true _ e; is = going-same _ _ f })
    by_test false e f = inr (record { occurs = zero-false _ e; arises = replacement-arises present (of_row x equation) (of_row x r) equation r s new f })

-- ---- the rows that are left

-- what holds of a row that is left of another
abbrev pub KeptOf : (Entry → Type 0) → ℕ → Entry → Entry → Type 0
KeptOf P x equation r = (of_row x r ≡ pos 0 → P r) × Kept P (replaced_term x equation r) r.kind

one-kept : (P : Entry → Type 0) (x : ℕ) (equation : Entry) (present : List Entry) (r : Entry) (new : List Entry) → Stays x r new ⊎ Goes x equation present r new → KeptOf P x equation r → AllByRecursion P new
one-kept P x equation present r new (inl s) k = subst (AllByRecursion P) s.is (k.0 s.lacks, tt)
one-kept P x equation present r new (inr g) k = arises-keeps P present _ r.kind new g.arises k.1

pub all-kept : (P : Entry → Type 0) (x : ℕ) (equation : Entry) (before rows : List Entry) (s : Stage) (left : List Entry) → (replace_all x equation before rows s).found ≡ going left → AllByRecursion P before → AllByRecursion (KeptOf P x equation) rows → AllByRecursion P left
unfolding replace_all
all-kept P x equation before [] s left f b k = subst (AllByRecursion P) (going-same before left f) b
all-kept P x equation before (r ∷ rows) s left f b k =
    let g = goes-on (replace x equation (before ++ rows) r) (λ new. replace_all x equation (before ++ new) rows) s left f in
    let n = one-kept P x equation (before ++ rows) r g.value (replace-either x equation (before ++ rows) r s g.value g.first) k.0 in
    all-kept P x equation (before ++ g.value) rows _ left g.second (each-join P before g.value b n) k.1

zero-alone : (e q : ℤ) → size_of e *ℤ q +ℤ turned e q *ℤ e ≡ pos 0
zero-alone (pos n) q = omega (arith, ints, product3)
zero-alone (negsuc n) q = omega (arith, ints, product3)

-- the combination lacks the variable
pub replaced-lacks : (x : ℕ) (equation r : Entry) → coefficient x (replaced_term x equation r).parts ≡ pos 0
replaced-lacks x equation r = combination-coefficient x _ r.term _ equation.term ∙ zero-alone (of_row x equation) (of_row x r)

-- ---- what the rows that are left say of those before

pub record SaysOf (q : RationalValuation) (x : ℕ) (equation r : Entry) : Type 0 where
  pub alone : of_row x r ≡ pos 0 → HoldsEntry q r
  pub together : HoldsAs r.kind (size_of (of_row x equation) *ℤ amount q r.term +ℤ turned (of_row x equation) (of_row x r) *ℤ amount q equation.term)

pub size-positive : (e : ℤ) → (e ≡ pos 0 → ⊥) → pos 0 <ℤ size_of e
size-positive (pos zero) n = absurd (n refl)
size-positive (pos (suc k)) n = omega (arith, ints)
size-positive (negsuc k) n = omega (arith, ints)

turned-zero : (e z q a : ℤ) → q ≡ pos 0 → z ≡ z +ℤ turned e q *ℤ a
turned-zero (pos n) z q a h = rw h (omega (arith, ints))
turned-zero (negsuc n) z q a h = rw h (omega (arith, ints))

-- a row that lacks the variable, or is equal to one that is left
abbrev Alone : RationalValuation → ℕ → Entry → Type 0
Alone q x e = of_row x e ≡ pos 0 → HoldsEntry q e

one-says : (q : RationalValuation) (x : ℕ) (equation : Entry) (present : List Entry) (r : Entry) (new : List Entry) → (of_row x equation ≡ pos 0 → ⊥) → Stays x r new ⊎ Goes x equation present r new → AllByRecursion (Alone q x) present → AllHold q new → SaysOf q x equation r
one-says q x equation present r new z (inl s) p h =
    let k : HoldsEntry q r = (subst (AllHold q) (sym s.is) h).0 in
    let m = times-holds r.kind (size_of (of_row x equation)) (amount q r.term) (size-positive _ z) k in
    record { alone = λ e. k; together = subst (HoldsAs r.kind) (turned-zero (of_row x equation) _ (of_row x r) (amount q equation.term) s.lacks) m }
one-says q x equation present r new z (inr g) p h =
    let k = arises-holds q (Alone q x) present _ r.kind new g.arises p h (λ e d a. a (equal-lacks e d)) in
    record { alone = λ e. absurd (g.occurs e); together = subst (HoldsAs r.kind) (combination-amount q _ r.term _ equation.term) k }
  where
    equal-lacks : (e : Entry) → e.term ≡ replaced_term x equation r → of_row x e ≡ pos 0
    equal-lacks e d = subst (λ t. coefficient x t.parts ≡ pos 0) (sym d) (replaced-lacks x equation r)

pub all-say : (q : RationalValuation) (x : ℕ) (equation : Entry) (before rows : List Entry) (s : Stage) (left : List Entry) → (of_row x equation ≡ pos 0 → ⊥) → (replace_all x equation before rows s).found ≡ going left → AllHold q left → AllHold q before × AllByRecursion (SaysOf q x equation) rows
unfolding replace_all
all-say q x equation before [] s left z f h = (subst (AllHold q) (sym (going-same before left f)) h, tt)
all-say q x equation before (r ∷ rows) s left z f h =
    let g = goes-on (replace x equation (before ++ rows) r) (λ new. replace_all x equation (before ++ new) rows) s left f in
    let ih = all-say q x equation (before ++ g.value) rows _ left z g.second h in
    let b = each-left _ before g.value ih.0 in
    let a = each-join (Alone q x) before rows (each-map _ _ before b (λ e k d. k)) (each-map _ _ rows ih.1 (λ e k. k.alone)) in
    (b, (one-says q x equation (before ++ rows) r g.value z (replace-either x equation (before ++ rows) r s g.value g.first) a (each-right _ before g.value ih.0), ih.1))

-- ---- the number that the equation gives its variable

pub solved : RationalValuation → ℕ → Entry → RationalValuation
solved q x equation = lifted q x (size_of (of_row x equation)) (turned (of_row x equation) (amount q equation.term -ℤ of_row x equation *ℤ q.numerator x))

own : (e y d : ℤ) → size_of e *ℤ y +ℤ e *ℤ (turned e (y -ℤ e *ℤ d) -ℤ size_of e *ℤ d) ≡ pos 0
own (pos k) y d = simp expand (omega (arith, ints, product3))
own (negsuc k) y d = simp expand (omega (arith, ints, product3))

others : (e q y z d : ℤ) → size_of e *ℤ z +ℤ turned e q *ℤ y ≡ size_of e *ℤ z +ℤ q *ℤ (turned e (y -ℤ e *ℤ d) -ℤ size_of e *ℤ d)
others (pos k) q y z d = simp expand (omega (arith, ints, product3))
others (negsuc k) q y z d = simp expand (omega (arith, ints, product3, product4))

pub equation-holds : (q : RationalValuation) (x : ℕ) (equation : Entry) → (of_row x equation ≡ pos 0 → ⊥) → equation.kind ≡ Eq → HoldsEntry (solved q x equation) equation
unfolding solved
equation-holds q x equation n k =
    let z : amount (solved q x equation) equation.term ≡ pos 0 =
    lifted-amount q x _ _ equation.term (size-positive _ n) ∙ own (of_row x equation) (amount q equation.term) (q.numerator x) in
    rw k z

pub others-hold : (q : RationalValuation) (x : ℕ) (equation : Entry) (rows : List Entry) → (of_row x equation ≡ pos 0 → ⊥) → AllByRecursion (SaysOf q x equation) rows → AllHold (solved q x equation) rows
unfolding solved
others-hold q x equation rows n h = each-map _ _ rows h one
  where
    one : (r : Entry) → SaysOf q x equation r → HoldsEntry (solved q x equation) r
    one r k = subst (HoldsAs r.kind) (others (of_row x equation) (of_row x r) (amount q equation.term) (amount q r.term) (q.numerator x) ∙ sym (lifted-amount q x _ _ r.term (size-positive _ n))) k.together
