-- Units by their numbers.
use Rattle.std.proofs.Common.{◌≡◌, ◌<◌, ℕ, zero, suc, ◌+◌, List, [], ◌∷◌, ◌++◌, length, map, refl, sym, ap, ◌∙◌, append_assoc, arith}
use Rattle.std.specs.List.{AllByRecursion, range_with_len}
use Rattle.std.proofs.lemmas.List.{map-append}
use Rattle.std.proofs.lemmas.List.FromFn.{map-range_with_len_more}
use Rattle.cap_prog.specs.Program.{PlainProgram}
use Rattle.cap_goal_spec.specs.Roots.{PlainUnit, region_unit, function_unit, units}
use Rattle.cap_goal_roots.specs.Units.{HasUnit}
use Rattle.cap_fm_spec.proofs.Lists.{each-join}

-- a member more, of the next number
pub one-more : {A B : Type 0} (view : A → B) (f : ℕ → B) (old : List B) (xs ys : List A) (x : A) (n : ℕ) → ys ≡ xs ++ x ∷ [] → view x ≡ f n → map view xs ≡ old ++ map f (range_with_len 0 n) → map view ys ≡ old ++ map f (range_with_len 0 (n + 1))
one-more view f old xs ys x n e v h =
    ap (map view) e
    ∙ (map-append view xs (x ∷ [])
    ∙ (ap (λ b. map view xs ++ b ∷ []) v
    ∙ (ap (λ l. l ++ f n ∷ []) h
    ∙ (append_assoc old (map f (range_with_len 0 n)) (f n ∷ [])
    ∙ ap (λ l. old ++ l) (sym (map-range_with_len_more f 0 n n (omega arith)))))))

ranged : (P : PlainUnit → Type 0) (f : ℕ → PlainUnit) (a n : ℕ) → ((k : ℕ) → k < a + n → P (f k)) → AllByRecursion P (map f (range_with_len a n))
ranged P f a zero h = tt
ranged P f a (suc n) h = (h a (omega arith), ranged P f (a + 1) n (λ k l. h k (omega arith)))

below : (k n : ℕ) → k < 0 + n → k < n
below k n h = omega arith

pub units-exist : (p : PlainProgram) → AllByRecursion (HasUnit p) (units p)
units-exist p =
    each-join (HasUnit p) (map region_unit (range_with_len 0 (length p.regions))) (map function_unit (range_with_len 0 (length p.functions)))
    (ranged (HasUnit p) region_unit 0 (length p.regions) (λ k h. below k (length p.regions) h))
    (ranged (HasUnit p) function_unit 0 (length p.functions) (λ k h. below k (length p.functions) h))
