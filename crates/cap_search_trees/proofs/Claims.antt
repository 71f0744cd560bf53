-- Comparisons, the rows of which are made one after the other.
use Rattle.std.proofs.Common.{◌≡◌, ℕ, ℤ, suc, ◌+◌, ◌<◌, ◌≤◌, Bool, true, false, if◌then◌else◌, List, [], ◌∷◌, ◌++◌, length, drop, get_or, Option, Some, None, refl, ap, sym, ◌∙◌, arith, drop-cons, append_assoc, append-nil}
use Rattle.std.specs.Option.{option_or}
use Rattle.std.proofs.lemmas.List.{drop_all}
use Rattle.cap_lin.specs.Steps.{Step, sum_of, product_of, first_wide, fits}
use Rattle.std.specs.Prelude.{◌+ℤ◌, ◌*ℤ◌}
use Rattle.cap_lin.specs.Exact.{Explains}
use Rattle.cap_lin.specs.declared.error.LinError.{LinError}
use Rattle.cap_lin.specs.declared.error.LinError.TheVariants.{Wide, OutOfMemory}
use Rattle.cap_lin.specs.declared.row.Row.{Row}
use Rattle.cap_search_trees.specs.declared.start.Claim.{Claim}
use Rattle.cap_search_trees.specs.Starts.{claim_view, claims_view, made_rows, made_steps}

-- ---- the first result that leaves 128 bits

wide-by : (b : Bool) (w : ℤ × ℤ) (x y z : Option (ℤ × ℤ)) → x ≡ option_or y z → (if b then x else Some w) ≡ option_or (if b then y else Some w) z
wide-by true w x y z e = e
wide-by false w x y z e = refl

wide-append : (xs ys : List Step) → first_wide (xs ++ ys) ≡ option_or (first_wide xs) (first_wide ys)
unfolding first_wide
wide-append [] ys = refl
wide-append (sum_of a b ∷ xs) ys = wide-by (fits (a +ℤ b)) (a, b) _ _ _ (wide-append xs ys)
wide-append (product_of a b ∷ xs) ys = wide-by (fits (a *ℤ b)) (a, b) _ _ _ (wide-append xs ys)

wide-nil : first_wide [] ≡ None
unfolding first_wide
wide-nil = refl

narrow-front : (xs ys : List Step) → first_wide xs ≡ None → first_wide (xs ++ ys) ≡ first_wide ys
narrow-front xs ys n = wide-append xs ys ∙ ap (λ o. option_or o (first_wide ys)) n

explained-by : (e : LinError) (xs ys all : List Step) → Explains e xs → first_wide (xs ++ ys) ≡ first_wide all → Explains e all
explained-by (Wide a b) xs ys all h s = sym s ∙ (wide-append xs ys ∙ ap (λ o. option_or o (first_wide ys)) h)
explained-by OutOfMemory xs ys all h s = tt

-- ---- one comparison after the other

next-claim : (cs : List Claim) (i : ℕ) (c : Claim) → i < length cs → c ≡ get_or cs i c → drop i cs ≡ c ∷ drop (i + 1) cs
next-claim cs i c h e =
    let q : suc i ≡ i + 1 = omega arith in
    drop-cons cs i c h ∙ (ap (λ x. x ∷ drop (suc i) cs) (sym e) ∙ ap (λ j. c ∷ drop j cs) q)

pub claim-stops : (cs : List Claim) (i : ℕ) (c : Claim) (e : LinError) → i < length cs → c ≡ get_or cs i c → Explains e (claim_view c).steps → first_wide (made_steps (claims_view (drop i cs))) ≡ first_wide (made_steps (claims_view cs)) → Explains e (made_steps (claims_view cs))
claim-stops cs i c e h at x s =
    explained-by e (claim_view c).steps (made_steps (claims_view (drop (i + 1) cs))) (made_steps (claims_view cs)) x
    (ap (λ ds. first_wide (made_steps (claims_view ds))) (sym (next-claim cs i c h at)) ∙ s)

pub claim-goes-on : (cs : List Claim) (i : ℕ) (c : Claim) → i < length cs → c ≡ get_or cs i c → first_wide (claim_view c).steps ≡ None → first_wide (made_steps (claims_view (drop i cs))) ≡ first_wide (made_steps (claims_view cs)) → first_wide (made_steps (claims_view (drop (i + 1) cs))) ≡ first_wide (made_steps (claims_view cs))
claim-goes-on cs i c h at n s =
    sym (narrow-front (claim_view c).steps (made_steps (claims_view (drop (i + 1) cs))) n)
    ∙ (ap (λ ds. first_wide (made_steps (claims_view ds))) (sym (next-claim cs i c h at)) ∙ s)

pub claims-end : (cs : List Claim) (i : ℕ) → length cs ≤ i → first_wide (made_steps (claims_view (drop i cs))) ≡ first_wide (made_steps (claims_view cs)) → first_wide (made_steps (claims_view cs)) ≡ None
claims-end cs i h s = sym s ∙ (ap (λ ds. first_wide (made_steps (claims_view ds))) (drop_all i cs h) ∙ wide-nil)

pub row-made : (cs : List Claim) (i : ℕ) (c : Claim) (r : Row) (rows more : List Row) → i < length cs → c ≡ get_or cs i c → r ≡ (claim_view c).row → more ≡ rows ++ r ∷ [] → rows ++ made_rows (claims_view (drop i cs)) ≡ made_rows (claims_view cs) → more ++ made_rows (claims_view (drop (i + 1) cs)) ≡ made_rows (claims_view cs)
row-made cs i c r rows more h at e m s =
    let rest = made_rows (claims_view (drop (i + 1) cs)) in
    ap (λ xs. xs ++ rest) m
    ∙ (append_assoc rows (r ∷ []) rest
    ∙ (ap (λ x. rows ++ (x ∷ rest)) e
    ∙ (ap (λ ds. rows ++ made_rows (claims_view ds)) (sym (next-claim cs i c h at)) ∙ s)))

pub rows-end : (cs : List Claim) (i : ℕ) (rows : List Row) → length cs ≤ i → rows ++ made_rows (claims_view (drop i cs)) ≡ made_rows (claims_view cs) → rows ≡ made_rows (claims_view cs)
rows-end cs i rows h s =
    sym (ap (λ ds. rows ++ made_rows (claims_view ds)) (drop_all i cs h) ∙ append-nil rows) ∙ s
