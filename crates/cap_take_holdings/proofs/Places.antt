-- The first member of a list that passes a test: its place, and the list without it.
use Rattle.std.proofs.Common.{◌≡◌, ℕ, zero, suc, ◌+◌, ◌<◌, ◌≤◌, Bool, true, false, not, cond, List, [], ◌∷◌, ◌++◌, take, drop, length, get_or, Option, Some, None, Decides, refl, sym, ap, subst, ◌∙◌, arith}
use Rattle.std.specs.Prelude.{nat_lt, ◌==◌, ◌&&◌, slice_get, find, position, remove}
use Rattle.std.specs.List.{position_or_len}
use Rattle.std.proofs.lemmas.List.Folds.{find_at}
use Rattle.std.proofs.lemmas.Option.{slice_get_past, slice_get-get_or}
use Rattle.std.proofs.lemmas.Bool.Decides.{nat_tests}
use Rattle.cap_lin.specs.Linear.{same_term}
use Rattle.cap_lin.specs.Laws.Sameness.{same_term-only}
use Rattle.cap_rules_steps.specs.cap_goal_spec.States.{PlainFact}
use Rattle.cap_rules_steps.specs.cap_rules.Making.{without_first, is_of_region, is_of_other_type}
use Rattle.cap_take_holdings.specs.Holdings.{without_place}

some-if : (b : Bool) (n i : ℕ) → cond b (Some n) None ≡ Some i → (b ≡ true) × (n ≡ i)
some-if true n i e = (refl, cc)
some-if false n i e = cc

none-if : (b : Bool) (n : ℕ) → cond b (Some n) None ≡ None → b ≡ false
none-if true n e = cc
none-if false n e = refl

below : (m n : ℕ) → nat_lt m n ≡ true → m < n
below m n h = grind (arith, nat_tests)

not-below : (m n : ℕ) → nat_lt m n ≡ false → n ≤ m
not-below m n h = grind (arith, nat_tests)

pub place-is : {X : Type 0} (p : X → Bool) (xs : List X) (i : ℕ) → position p xs ≡ Some i → position_or_len p xs ≡ i
place-is p xs i e = (some-if (nat_lt (position_or_len p xs) (length xs)) (position_or_len p xs) i e).1

pub place-below : {X : Type 0} (p : X → Bool) (xs : List X) (i : ℕ) → position p xs ≡ Some i → i < length xs
place-below p xs i e =
    let f = some-if (nat_lt (position_or_len p xs) (length xs)) (position_or_len p xs) i e in
    subst (λ n. n < length xs) f.1 (below (position_or_len p xs) (length xs) f.0)

pub place-past : {X : Type 0} (p : X → Bool) (xs : List X) → position p xs ≡ None → length xs ≤ position_or_len p xs
place-past p xs e = not-below (position_or_len p xs) (length xs) (none-if (nat_lt (position_or_len p xs) (length xs)) (position_or_len p xs) e)

pub found-none : {X : Type 0} (p : X → Bool) (xs : List X) → position p xs ≡ None → find p xs ≡ None
found-none p xs e = find_at p xs ∙ slice_get_past xs (position_or_len p xs) (place-past p xs e)

pub found-some : {X : Type 0} (p : X → Bool) (xs : List X) (i : ℕ) (x : X) → position p xs ≡ Some i → x ≡ get_or xs i x → find p xs ≡ Some x
found-some p xs i x e q = find_at p xs ∙ (ap (slice_get xs) (place-is p xs i e) ∙ (slice_get-get_or xs i x (place-below p xs i e) ∙ ap Some (sym q)))

-- the list without the first member that passes
first-goes : {X : Type 0} (p : X → Bool) (x : X) (xs : List X) (b : Bool) → p x ≡ b → without_first p xs ≡ remove xs (position_or_len p xs) → without_first p (x ∷ xs) ≡ remove (x ∷ xs) (position_or_len p (x ∷ xs))
first-goes p x xs true e h = rw e refl
first-goes p x xs false e h =
    let n = position_or_len p xs in
    let one : 1 + n ≡ suc n = omega arith in
    rw (e, one) (ap (λ ys. x ∷ ys) h)

without-at : {X : Type 0} (p : X → Bool) (xs : List X) → without_first p xs ≡ remove xs (position_or_len p xs)
without-at p [] = refl
without-at p (x ∷ xs) = first-goes p x xs (p x) refl (without-at p xs)

remove-past : {X : Type 0} (xs : List X) (i : ℕ) → length xs ≤ i → remove xs i ≡ xs
remove-past [] zero h = refl
remove-past [] (suc i) h = refl
remove-past (x ∷ xs) zero h = absurd (omega arith)
remove-past (x ∷ xs) (suc i) h = ap (λ ys. x ∷ ys) (remove-past xs i (omega arith))

without-by : {X : Type 0} (p : X → Bool) (xs : List X) (o : Option ℕ) → position p xs ≡ o → without_place o xs ≡ without_first p xs
without-by p xs None e = sym (without-at p xs ∙ remove-past xs (position_or_len p xs) (place-past p xs e))
without-by p xs (Some i) e = sym (without-at p xs ∙ ap (remove xs) (place-is p xs i e))

pub without-placed : {X : Type 0} (p : X → Bool) (xs : List X) (o : Option ℕ) → o ≡ position p xs → without_place o xs ≡ without_first p xs
without-placed p xs o e = without-by p xs o (sym e)

-- ---- facts of one region

one-region : (b : Bool) (f g : PlainFact) (k : Bool) → b ≡ same_term g.region f.region → b ≡ true → k ≡ (same_term g.region f.region && k)
one-region b f g k e h = rw (← e, h) refl

no-region : (b : Bool) (f g : PlainFact) (k : Bool) → b ≡ same_term g.region f.region → b ≡ false → b ≡ (same_term g.region f.region && k)
no-region b f g k e h = rw (← e, h) refl

pub of-one : (b : Bool) (f f' g g' : PlainFact) → f ≡ f' → g ≡ g' → Decides b (g.region ≡ f.region) → b ≡ true → (g.kind == f.kind) ≡ is_of_region f' g'
of-one b f f' g g' p q d h =
    one-region b f g (g.kind == f.kind) (same_term-only b g.region f.region d) h ∙ (ap (λ x. is_of_region x g) p ∙ ap (is_of_region f') q)

pub of-none : (b : Bool) (f f' g g' : PlainFact) → f ≡ f' → g ≡ g' → Decides b (g.region ≡ f.region) → b ≡ false → b ≡ is_of_region f' g'
of-none b f f' g g' p q d h =
    no-region b f g (g.kind == f.kind) (same_term-only b g.region f.region d) h ∙ (ap (λ x. is_of_region x g) p ∙ ap (is_of_region f') q)

pub other-one : (b : Bool) (f f' g g' : PlainFact) → f ≡ f' → g ≡ g' → Decides b (g.region ≡ f.region) → b ≡ true → not (g.kind == f.kind) ≡ is_of_other_type f' g'
other-one b f f' g g' p q d h =
    one-region b f g (not (g.kind == f.kind)) (same_term-only b g.region f.region d) h ∙ (ap (λ x. is_of_other_type x g) p ∙ ap (is_of_other_type f') q)

pub other-none : (b : Bool) (f f' g g' : PlainFact) → f ≡ f' → g ≡ g' → Decides b (g.region ≡ f.region) → b ≡ false → b ≡ is_of_other_type f' g'
other-none b f f' g g' p q d h =
    no-region b f g (not (g.kind == f.kind)) (same_term-only b g.region f.region d) h ∙ (ap (λ x. is_of_other_type x g) p ∙ ap (is_of_other_type f') q)
