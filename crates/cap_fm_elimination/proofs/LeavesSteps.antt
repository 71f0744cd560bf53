-- The results of a leaf, one after the other, and the errors that they end in.
use Rattle.std.proofs.Common.{◌≡◌, ℕ, ◌+◌, ℤ, pos, negsuc, ◌<ℤ◌, ◌≤ℤ◌, ◌<◌, ◌≤◌, List, [], ◌∷◌, ◌++◌, length, get_or, drop, add-one, drop-cons, arith, refl, sym, ◌∙◌, true, false, Option, None}
use Rattle.std.proofs.lemmas.Int.{ints}
use Rattle.std.proofs.lemmas.List.{get_or_read, drop_all}
use Rattle.cap_lin.specs.Linear.{Linear, number, combination}
use Rattle.cap_lin.specs.Steps.{Step, first_wide, negative_steps, combination_steps}
use Rattle.cap_lin.specs.Exact.{Explains}
use Rattle.cap_lin.specs.declared.error.LinError.{LinError}
use Rattle.cap_lin.specs.declared.row.Row.{Row}
use Rattle.cap_lin.specs.declared.row.Kind.{Kind}
use Rattle.cap_lin.specs.declared.row.Kind.TheVariants.{Le, Lt, Eq, Ne}
use Rattle.cap_lin.proofs.Merge.{no_part}
use Rattle.cap_farkas.specs.Farkas.{row_at}
use Rattle.cap_lin.proofs.Results.{first-wide, first-narrow, first_wide-nil}
use Rattle.cap_fm_spec.specs.Runs.{Origin, given, combined}
use Rattle.cap_fm_spec.specs.Leaf.{own_steps, is_turned, turned, turned_steps, check_steps}
use Rattle.cap_fm_elimination.specs.declared.error.SolveError.{SolveError}
use Rattle.cap_fm_elimination.specs.declared.error.SolveError.TheVariants as error
use Rattle.cap_fm_elimination.specs.Answers.{ExplainsSteps}
use Rattle.cap_fm_elimination.specs.Errors.{solve_error}
use Rattle.cap_fm_elimination.specs.Way.{RowsBelow, term_at}
use Rattle.cap_fm_elimination.proofs.Runs.{explains-lin}

-- ---- errors

pub earlier-error : (e : SolveError) (xs ys : List Step) → ExplainsSteps e xs → ExplainsSteps e (xs ++ ys)
earlier-error (error.Wide a b) xs ys h = first-wide xs ys (a, b) h
earlier-error error.Rows xs ys h = h
earlier-error error.OutOfMemory xs ys h = tt

pub same-error : (e : SolveError) (xs ys : List Step) → first_wide xs ≡ first_wide ys → ExplainsSteps e ys → ExplainsSteps e xs
same-error (error.Wide a b) xs ys n h = n ∙ h
same-error error.Rows xs ys n h = h
same-error error.OutOfMemory xs ys n h = tt

pub later-error : (e : SolveError) (xs ys : List Step) → first_wide xs ≡ None → ExplainsSteps e ys → ExplainsSteps e (xs ++ ys)
later-error e xs ys n h = same-error e (xs ++ ys) ys (first-narrow xs ys n) h

pub both-narrow : (xs ys : List Step) → first_wide xs ≡ None → first_wide ys ≡ None → first_wide (xs ++ ys) ≡ None
both-narrow xs ys n m = first-narrow xs ys n ∙ m

-- ---- the results of one row

pub combination-fails : (o : Origin) (terms : List Linear) (a b a' b' : ℤ) (p q : ℕ) (s t : Linear) (e : LinError) → o ≡ combined a p b q → RowsBelow (length terms) o → a' ≡ a → b' ≡ b → s ≡ get_or terms p s → t ≡ get_or terms q t → Explains e (combination_steps a' s b' t) → ExplainsSteps (solve_error e) (own_steps o (term_at terms))
combination-fails o terms a b a' b' p q s t e i h f g k l x =
    let r = rw i at h in
    rw (i, ← f, ← g, ← get_or_read terms p s r.0 k (number (pos 0)), ← get_or_read terms q t r.1 l (number (pos 0))) (explains-lin e _ x)

pub given-narrow : (o : Origin) (terms : List Linear) (i : ℕ) → o ≡ given i → first_wide (own_steps o (term_at terms)) ≡ None
given-narrow o terms i e = rw e first_wide-nil

-- ---- the turn

pub turned-yes : (k : Kind) (c : ℤ) → k ≡ Eq → c <ℤ pos 0 → is_turned k c ≡ true
turned-yes k (pos n) e h = absurd (omega (arith, ints))
turned-yes k (negsuc n) e h = rw e refl

pub turned-no : (k : Kind) (c : ℤ) → k ≡ Eq → pos 0 ≤ℤ c → is_turned k c ≡ false
turned-no k (pos n) e h = rw e refl
turned-no k (negsuc n) e h = absurd (omega (arith, ints))

pub turned-other : (k : Kind) (c : ℤ) → (k ≡ Eq → ⊥) → is_turned k c ≡ false
turned-other Le c n = refl
turned-other Lt c n = refl
turned-other Eq c n = absurd (n refl)
turned-other Ne c n = refl

pub negative-fails : (k : Kind) (c : ℤ) (t : Linear) (e : LinError) → is_turned k c ≡ true → Explains e (negative_steps t) → ExplainsSteps (solve_error e) (turned_steps (is_turned k c) t)
negative-fails k c t e b h = rw b (explains-lin e _ h)

pub as_it_is : (k : Kind) (c : ℤ) (t : Linear) → is_turned k c ≡ false → (first_wide (turned_steps (is_turned k c) t) ≡ None) × (t ≡ turned (is_turned k c) t)
as_it_is k c t b = rw b (first_wide-nil, refl)

-- ---- the check

check-cons : (rows : List Row) (sum : Linear) (p : ℕ × ℤ) (ps : List (ℕ × ℤ)) → check_steps rows sum (p ∷ ps) ≡ combination_steps (pos 1) sum p.1 (row_at rows p.0).term ++ check_steps rows (combination (pos 1) sum p.1 (row_at rows p.0).term) ps
unfolding check_steps
check-cons rows sum p ps = refl

check-nil : (rows : List Row) (sum : Linear) → check_steps rows sum [] ≡ []
unfolding check_steps
check-nil rows sum = refl

pub check-stops : (rows : List Row) (leaf : List (ℕ × ℤ)) (i : ℕ) (sum : Linear) (m : ℤ) (r : Row) (e : LinError) (all : List Step) → i < length leaf → m ≡ (get_or leaf i no_part).1 → r ≡ row_at rows (get_or leaf i no_part).0 → Explains e (combination_steps (pos 1) sum m r.term) → first_wide (check_steps rows sum (drop i leaf)) ≡ first_wide all → ExplainsSteps (solve_error e) all
check-stops rows leaf i sum m r e all h f g x w =
    let d = drop-cons leaf i no_part h in
    let y : Explains e (combination_steps (pos 1) sum (get_or leaf i no_part).1 (row_at rows (get_or leaf i no_part).0).term) = rw (← f, ← g) x in
    let z : ExplainsSteps (solve_error e) (check_steps rows sum (drop i leaf)) = rw (d, check-cons) (earlier-error _ _ _ (explains-lin e _ y)) in
    same-error _ all _ (sym w) z

pub check-goes_on : (rows : List Row) (leaf : List (ℕ × ℤ)) (i : ℕ) (sum new : Linear) (m : ℤ) (r : Row) (whole : Option (ℤ × ℤ)) → i < length leaf → m ≡ (get_or leaf i no_part).1 → r ≡ row_at rows (get_or leaf i no_part).0 → first_wide (combination_steps (pos 1) sum m r.term) ≡ None → new ≡ combination (pos 1) sum m r.term → first_wide (check_steps rows sum (drop i leaf)) ≡ whole → first_wide (check_steps rows new (drop (i + 1) leaf)) ≡ whole
check-goes_on rows leaf i sum new m r whole h f g n k w =
    let d = drop-cons leaf i no_part h in
    let y : first_wide (combination_steps (pos 1) sum (get_or leaf i no_part).1 (row_at rows (get_or leaf i no_part).0).term) ≡ None = rw (← f, ← g) n in
    let z : new ≡ combination (pos 1) sum (get_or leaf i no_part).1 (row_at rows (get_or leaf i no_part).0).term = rw (← f, ← g) k in
    rw (add-one, z) (sym (first-narrow _ _ y) ∙ (rw (d, check-cons) at w))

pub check-narrow : (rows : List Row) (leaf : List (ℕ × ℤ)) (i : ℕ) (sum : Linear) (whole : Option (ℤ × ℤ)) → length leaf ≤ i → first_wide (check_steps rows sum (drop i leaf)) ≡ whole → whole ≡ None
check-narrow rows leaf i sum whole h w = let x = drop_all i leaf h in sym (rw (x, check-nil, first_wide-nil) at w)
