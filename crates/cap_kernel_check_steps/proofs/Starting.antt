-- What stands at the roots of units, one unit after the other.
use Rattle.std.proofs.Common.{◌≡◌, ℕ, ◌+◌, ℤ, List, [], ◌∷◌, ◌++◌, length, map, flat_map, Option, Some, None, refl, sym, ap, subst, ◌∙◌, append_assoc, arith}
use Rattle.std.specs.Prelude.{slice_get, replicate, Result, Ok, Err, IfOk}
use Rattle.std.specs.List.{AllByRecursion, range_with_len}
use Rattle.std.proofs.lemmas.List.{append-nil, length-map}
use Rattle.std.proofs.lemmas.List.FromFn.{map-range_with_len_more}
use Rattle.std.proofs.lemmas.Grind.{flat_map-append}
use Rattle.cap_lin.specs.Steps.{first_wide}
use Rattle.cap_prog.specs.Program.{PlainProgram, PlainCase, PlainRegionType}
use Rattle.cap_prog.specs.WellFormed.{IsWellFormed}
use Rattle.cap_goal_spec.specs.States.{PlainGoal}
use Rattle.cap_goal_spec.specs.Roots.{PlainUnit, region_unit, function_unit, roots, roots_steps, region_roots, case_root, units, all_roots}
use Rattle.cap_rules_fits.specs.Kept.{RootIsKept, RootsAreKept}
use Rattle.cap_kernel_check_steps.specs.Starts.{PlainStart, barred, start_of, starts_unless, unit_starts, starts, cases_of, case_count}
use Rattle.cap_kernel_check_steps.specs.declared.start.Start.{Start}
use Rattle.cap_kernel_check_steps.specs.Views.{StartIsKept, start_view, starts_view}
use Rattle.cap_kernel_check_steps.proofs.Roots.{no-steps, length-starts}

-- ---- a unit

pub unit-open : (p : PlainProgram) (u : PlainUnit) (rs : List (Option PlainGoal)) → first_wide (roots_steps p u) ≡ None → rs ≡ roots p u → map start_of rs ≡ unit_starts p u
unit-open p u rs n e = ap (map start_of) e ∙ sym (ap (λ w. starts_unless w (roots p u)) n)

all-barred : (rs : List (Option PlainGoal)) → map (λ r. barred) rs ≡ replicate (length rs) barred
all-barred [] = refl
all-barred (r ∷ rs) = ap (λ xs. barred ∷ xs) (all-barred rs)

cases-barred : (k : PlainRegionType) (n : ℕ) (cs : List PlainCase) → map (λ r. barred) (map (case_root k n) cs) ≡ replicate (length cs) barred
cases-barred k n [] = refl
cases-barred k n (c ∷ cs) = ap (λ xs. barred ∷ xs) (cases-barred k n cs)

region-barred : (o : Option PlainRegionType) (n : ℕ) → map (λ r. barred) (region_roots o n) ≡ replicate (cases_of o) barred
region-barred None n = refl
region-barred (Some k) n = cases-barred k n k.cases

none-some : {A B : Type 0} (w : A) → None ≡ Some w → B
none-some w e = absurd (let k : None ≡ Some w = e in cc)

pub unit-barred : (p : PlainProgram) (u : PlainUnit) (w : ℤ × ℤ) → first_wide (roots_steps p u) ≡ Some w → replicate (case_count p u) barred ≡ unit_starts p u
unit-barred p (region_unit n) w e =
    sym (region-barred (slice_get p.regions n) n) ∙ sym (ap (λ x. starts_unless x (roots p (region_unit n))) e)
unit-barred p (function_unit n) w e = none-some w (sym no-steps ∙ e)

-- ---- units by their numbers

pub one-more : (p : PlainProgram) (f : ℕ → PlainUnit) (old now next : List PlainStart) (n : ℕ) → now ≡ old ++ flat_map (unit_starts p) (map f (range_with_len 0 n)) → next ≡ now ++ unit_starts p (f n) → next ≡ old ++ flat_map (unit_starts p) (map f (range_with_len 0 (n + 1)))
one-more p f old now next n h e =
    e
    ∙ (ap (λ x. x ++ unit_starts p (f n)) h
    ∙ (append_assoc old (flat_map (unit_starts p) (map f (range_with_len 0 n))) (unit_starts p (f n))
    ∙ ap (λ x. old ++ x) (sym (more (f n) (map f (range_with_len 0 n)) (map f (range_with_len 0 (n + 1))) (map-range_with_len_more f 0 n n (omega arith))))))
  where
    lone : (u : PlainUnit) → flat_map (unit_starts p) (u ∷ []) ≡ unit_starts p u
    lone u = append-nil (unit_starts p u)

    more : (u : PlainUnit) (us vs : List PlainUnit) → vs ≡ us ++ u ∷ [] → flat_map (unit_starts p) vs ≡ flat_map (unit_starts p) us ++ unit_starts p u
    more u us vs e = ap (flat_map (unit_starts p)) e ∙ (flat_map-append (unit_starts p) us (u ∷ []) ∙ ap (λ x. flat_map (unit_starts p) us ++ x) (lone u))

-- ---- goals that are kept

each-join : {X : Type 0} (P : X → Type 0) (xs ys : List X) → AllByRecursion P xs → AllByRecursion P ys → AllByRecursion P (xs ++ ys)
each-join P [] ys a b = b
each-join P (x ∷ xs) ys a b = (a.0, each-join P xs ys a.1 b)

starts-kept : (p : PlainProgram) (rs : List (Option PlainGoal)) → AllByRecursion (RootIsKept p) rs → AllByRecursion (StartIsKept p) (map start_of rs)
starts-kept p [] h = tt
starts-kept p (None ∷ rs) h = (tt, starts-kept p rs h.1)
starts-kept p (Some g ∷ rs) h = (h.0, starts-kept p rs h.1)

barred-kept : (p : PlainProgram) (rs : List (Option PlainGoal)) → AllByRecursion (StartIsKept p) (map (λ r. barred) rs)
barred-kept p [] = tt
barred-kept p (r ∷ rs) = (tt, barred-kept p rs)

unless-kept : (p : PlainProgram) (w : Option (ℤ × ℤ)) (rs : List (Option PlainGoal)) → AllByRecursion (RootIsKept p) rs → AllByRecursion (StartIsKept p) (starts_unless w rs)
unless-kept p None rs h = starts-kept p rs h
unless-kept p (Some w) rs h = barred-kept p rs

units-kept : (p : PlainProgram) → IsWellFormed p → RootsAreKept → (us : List PlainUnit) → AllByRecursion (StartIsKept p) (flat_map (unit_starts p) us)
units-kept p w law [] = tt
units-kept p w law (u ∷ us) = each-join (StartIsKept p) (unit_starts p u) (flat_map (unit_starts p) us) (unless-kept p (first_wide (roots_steps p u)) (roots p u) (law p w u)) (units-kept p w law us)

pub all-kept : {T E : Type 0} (p : PlainProgram) (view : T → List PlainStart) (r : Result T E) → IsWellFormed p → RootsAreKept → IfOk r (λ v. view v ≡ starts p) → IfOk r (λ v. AllByRecursion (StartIsKept p) (view v))
all-kept p view (Ok v) w law e = subst (AllByRecursion (StartIsKept p)) (sym e) (units-kept p w law (units p))
all-kept p view (Err x) w law e = e

-- ---- all roots

pub starts-many : (p : PlainProgram) (ss : List Start) → starts_view ss ≡ starts p → length ss ≡ length (all_roots p)
starts-many p ss e = sym (length-map ss start_view) ∙ (ap length e ∙ length-starts p (units p))
