-- Where all units are proved, so is each, and the trees of all are valid.
use Rattle.std.proofs.Common.{◌≡◌, ◌≤◌, ℕ, ◌==◌, ◌&&◌, Bool, true, false, not, List, [], ◌∷◌, length, Option, refl, ap, sym, ◌∙◌, arith}
use Rattle.std.proofs.lemmas.Bool.Decides.{nat_tests}
use Rattle.std.specs.List.{AllByRecursion}
use Rattle.cap_prog.specs.Program.{PlainProgram}
use Rattle.cap_goal_spec.specs.Choices.{PlainTree}
use Rattle.cap_goal_spec.specs.Roots.{PlainUnit, units}
use Rattle.cap_search_spec.specs.Laws.{IsProved, ProvedAreValid}
use Rattle.cap_search_spec.specs.Starts.{empty_start}
use Rattle.cap_search_spec.specs.Verdicts.{PlainVerdict, is_proved, is_spent, is_deep, is_wide, is_rows, is_stuck, verdict}
use Rattle.cap_top_report.specs.Found.{proof_trees, found_of}
use Rattle.cap_top_report.specs.Laws.{FoundAreValid}
use Rattle.cap_top_report.specs.Report.{once_proved, count_proved, proved_count, all_proved, is_good}

-- ---- each unit is proved

at-most-once : (v : PlainVerdict) → once_proved v ≤ 1
at-most-once (is_proved ts) = omega arith
at-most-once (is_spent n) = omega arith
at-most-once is_deep = omega arith
at-most-once (is_wide a b) = omega arith
at-most-once is_rows = omega arith
at-most-once (is_stuck o) = omega arith

at-most-all : (p : PlainProgram) (n : ℕ) (us : List PlainUnit) → count_proved p n us ≤ length us
at-most-all p n [] = omega arith
at-most-all p n (u ∷ us) =
    let one = at-most-once (verdict p u n) in
    let more = at-most-all p n us in
    omega arith

-- this unit counts
abbrev Counts : PlainProgram → ℕ → PlainUnit → Type 0
Counts p n u = once_proved (verdict p u n) ≡ 1

each-counts : (p : PlainProgram) (n : ℕ) (us : List PlainUnit) → count_proved p n us ≡ length us → AllByRecursion (Counts p n) us
each-counts p n [] h = tt
each-counts p n (u ∷ us) h =
    let one = at-most-once (verdict p u n) in
    let more = at-most-all p n us in
    (omega arith, each-counts p n us (omega arith))

first-true : (a b : Bool) → (a && b) ≡ true → a ≡ true
first-true true b h = refl
first-true false b h = absurd cc

counted : (a b : ℕ) → (a == b) ≡ true → a ≡ b
counted a b h = grind (arith, nat_tests)

-- a good report is one of a program each unit of which is proved
pub good-all : (p : PlainProgram) (n : ℕ) → is_good p n ≡ true → all_proved p n ≡ true
good-all p n good = first-true (all_proved p n) (not (empty_start p)) good

all-count : (p : PlainProgram) (n : ℕ) → all_proved p n ≡ true → AllByRecursion (Counts p n) (units p)
all-count p n all = each-counts p n (units p) (counted (proved_count p n) (length (units p)) all)

-- ---- by its trees

counts-proved : (v : PlainVerdict) → once_proved v ≡ 1 → (ts : List (Option PlainTree)) × (v ≡ is_proved ts)
counts-proved (is_proved ts) h = (ts, refl)
counts-proved (is_spent n) h = absurd cc
counts-proved is_deep h = absurd cc
counts-proved (is_wide a b) h = absurd cc
counts-proved is_rows h = absurd cc
counts-proved (is_stuck o) h = absurd cc

counts-is-proved : (p : PlainProgram) (n : ℕ) (u : PlainUnit) → Counts p n u → IsProved p n u (found_of p n u)
counts-is-proved p n u h =
    let found = counts-proved (verdict p u n) h in
    found.1 ∙ ap (λ ts. is_proved ts) (sym (ap proof_trees found.1))

all-proved : (p : PlainProgram) (n : ℕ) (us : List PlainUnit) → AllByRecursion (Counts p n) us → AllByRecursion (λ u. IsProved p n u (found_of p n u)) us
all-proved p n [] h = tt
all-proved p n (u ∷ us) h = (counts-is-proved p n u h.0, all-proved p n us h.1)

-- ---- so the trees are valid

pub found-valid : ProvedAreValid → FoundAreValid
found-valid valid p n ordered all =
    valid p n (found_of p n) ordered (all-proved p n (units p) (all-count p n all))
