-- The loop that adds up a term's value: each lemma is one way through it.
use Rattle.std.proofs.Common.{◌≡◌, ℕ, ℤ, ◌+ℤ◌, ◌*ℤ◌, List, [], ◌∷◌, ◌++◌, ◌+◌, ◌<◌, ◌≤◌, length, get_or, drop, arith, add-one, refl, drop-cons, sym, ◌∙◌, Option, None}
use Rattle.std.proofs.lemmas.List.{drop_all}
use Rattle.std.proofs.lemmas.Int.{ints}
use Rattle.cap_lin.specs.Linear.{Linear}
use Rattle.cap_lin.specs.Steps.{Step, sum_of, product_of, first_wide, value_steps}
use Rattle.cap_lin.specs.Exact.{Explains}
use Rattle.cap_lin.specs.Values.{parts_value, value}
use Rattle.cap_lin.specs.declared.error.LinError.{LinError}
use Rattle.cap_lin.proofs.Results.{first_wide-nil, first-narrow, explains_same, explains_first, explains_later}
use Rattle.cap_lin.proofs.Values.{value-cons, value-nil}
use Rattle.cap_lin.proofs.Merge.{no_part}

steps-cons : (n : ℕ → ℤ) (s : ℤ) (p : ℕ × ℤ) (ps : List (ℕ × ℤ)) → value_steps n s (p ∷ ps) ≡ (product_of p.1 (n p.0) ∷ []) ++ ((sum_of s (p.1 *ℤ n p.0) ∷ []) ++ value_steps n (s +ℤ p.1 *ℤ n p.0) ps)
unfolding value_steps
steps-cons n s p ps = refl

steps-nil : (n : ℕ → ℤ) (s : ℤ) → value_steps n s [] ≡ []
unfolding value_steps
steps-nil n s = refl

pub starts : (n : ℕ → ℤ) (t : Linear) → t.constant +ℤ parts_value n t.parts ≡ value n t
unfolding value
starts n t = refl

pub stops_at_product : (n : ℕ → ℤ) (s : ℤ) (ps : List (ℕ × ℤ)) (i : ℕ) (e : LinError) (all : List Step) (k z : ℤ) → i < length ps → k ≡ (get_or ps i no_part).1 → z ≡ n (get_or ps i no_part).0 → Explains e (product_of k z ∷ []) → first_wide (value_steps n s (drop i ps)) ≡ first_wide all → Explains e all
stops_at_product n s ps i e all k z h d f x w =
    let m = drop-cons ps i no_part h in
    let y : Explains e (product_of (get_or ps i no_part).1 (n (get_or ps i no_part).0) ∷ []) = rw (← d, ← f) x in
    let v : Explains e (value_steps n s (drop i ps)) = rw (m, steps-cons) (explains_first e _ _ y) in
    explains_same e all _ (sym w) v

pub stops_at_sum : (n : ℕ → ℤ) (s : ℤ) (ps : List (ℕ × ℤ)) (i : ℕ) (e : LinError) (all : List Step) (k z p a : ℤ) → i < length ps → k ≡ (get_or ps i no_part).1 → z ≡ n (get_or ps i no_part).0 → first_wide (product_of k z ∷ []) ≡ None → p ≡ k *ℤ z → a ≡ s → Explains e (sum_of a p ∷ []) → first_wide (value_steps n s (drop i ps)) ≡ first_wide all → Explains e all
stops_at_sum n s ps i e all k z p a h d f o q g x w =
    let m = drop-cons ps i no_part h in
    let t : first_wide (product_of (get_or ps i no_part).1 (n (get_or ps i no_part).0) ∷ []) ≡ None = rw (← d, ← f) o in
    let y : Explains e (sum_of s ((get_or ps i no_part).1 *ℤ n (get_or ps i no_part).0) ∷ []) = rw (← d, ← f, ← q, ← g) x in
    let v : Explains e (value_steps n s (drop i ps)) = rw (m, steps-cons) (explains_later e _ _ t (explains_first e _ _ y)) in
    explains_same e all _ (sym w) v

pub goes_on : (n : ℕ → ℤ) (s : ℤ) (ps : List (ℕ × ℤ)) (i : ℕ) (whole : Option (ℤ × ℤ)) (k z p a r : ℤ) → i < length ps → k ≡ (get_or ps i no_part).1 → z ≡ n (get_or ps i no_part).0 → first_wide (product_of k z ∷ []) ≡ None → p ≡ k *ℤ z → a ≡ s → first_wide (sum_of a p ∷ []) ≡ None → r ≡ a +ℤ p → first_wide (value_steps n s (drop i ps)) ≡ whole → first_wide (value_steps n r (drop (i + 1) ps)) ≡ whole
goes_on n s ps i whole k z p a r h d f o q g x j w =
    let m = drop-cons ps i no_part h in
    let t : first_wide (product_of (get_or ps i no_part).1 (n (get_or ps i no_part).0) ∷ []) ≡ None = rw (← d, ← f) o in
    let y : first_wide (sum_of s ((get_or ps i no_part).1 *ℤ n (get_or ps i no_part).0) ∷ []) ≡ None = rw (← d, ← f, ← q, ← g) x in
    rw (add-one, j, g, q, d, f) (sym (first-narrow _ _ t ∙ first-narrow _ _ y) ∙ (rw (m, steps-cons) at w))

pub adds : (n : ℕ → ℤ) (s : ℤ) (ps : List (ℕ × ℤ)) (i : ℕ) (whole k z p a r : ℤ) → i < length ps → k ≡ (get_or ps i no_part).1 → z ≡ n (get_or ps i no_part).0 → p ≡ k *ℤ z → a ≡ s → r ≡ a +ℤ p → s +ℤ parts_value n (drop i ps) ≡ whole → r +ℤ parts_value n (drop (i + 1) ps) ≡ whole
adds n s ps i whole k z p a r h d f q g j w =
    let m = drop-cons ps i no_part h in
    let v = rw (m, value-cons) at w in
    rw (add-one, j, g, q, d, f) (omega (arith, ints, v))

pub narrow : (n : ℕ → ℤ) (s : ℤ) (ps : List (ℕ × ℤ)) (i : ℕ) (whole : Option (ℤ × ℤ)) → length ps ≤ i → first_wide (value_steps n s (drop i ps)) ≡ whole → whole ≡ None
narrow n s ps i whole h w = let x = drop_all i ps h in sym w ∙ rw (x, steps-nil, first_wide-nil) refl

pub done : (n : ℕ → ℤ) (s : ℤ) (ps : List (ℕ × ℤ)) (i : ℕ) (whole : ℤ) → length ps ≤ i → s +ℤ parts_value n (drop i ps) ≡ whole → s ≡ whole
done n s ps i whole h w = let x = drop_all i ps h in let v = rw (x, value-nil) at w in omega (arith, ints, v)
