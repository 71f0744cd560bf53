-- The rows of candidates by their numbers.
use Rattle.std.proofs.Common.{◌≡◌, ℕ, zero, suc, ◌+◌, ◌<◌, ◌≤◌, ℤ, true, false, List, [], ◌∷◌, map, length, get_or, Option, Some, None, refl, sym, ap, subst, ◌∙◌, arith}
use Rattle.std.specs.Prelude.{nat_le, slice_get, Result, Ok, Err}
use Rattle.std.proofs.lemmas.Bool.Decides.{nat_tests}
use Rattle.cap_lin.specs.Steps.{first_wide}
use Rattle.cap_lin.specs.declared.row.Row.{Row}
use Rattle.cap_lin.specs.declared.error.LinError.{LinError}
use Rattle.cap_lin.specs.declared.error.LinError.TheVariants.{Wide, OutOfMemory}
use Rattle.cap_prog.specs.Program.{PlainRegionType}
use Rattle.cap_goal_spec.specs.States.{PlainFact, PlainState}
use Rattle.cap_goal_spec.specs.Candidates.{MadeRow, candidates, PlainCandidate, known, past, candidate_as, candidate_of}
use Rattle.cap_rules.specs.Attempts.{Attempt, unit, computed, found, need, go_on}
use Rattle.cap_rules.specs.Resting.{named_candidates}
use Rattle.cap_rules_steps.specs.Errors.{rule_error}
use Rattle.cap_rules_steps.specs.Walks.{Makes}
use Rattle.cap_rules_steps.specs.declared.error.RuleError.{RuleError}
use Rattle.cap_rules_steps.specs.declared.error.RuleError.TheVariants as rule
use Rattle.cap_rules_steps.proofs.Walking.{then_made, unmade, needed, unneeded, there, lacking, all_narrow, last_wide, no_memory}
use Rattle.cap_stab_states.specs.Finding.{candidates_seen}
use Rattle.cap_stab_states.specs.Views.{candidates_view}
use Rattle.cap_stab_states.specs.declared.candidate.Candidate.{Candidate}
use Rattle.cap_stab_states.proofs.Claiming.{go-assoc}
use Rattle.cap_stab_states.proofs.Collecting.{Collects}
use Rattle.cap_stab.specs.Rows.{IsRowOf, named_row}

-- ---- the row of a candidate that was made

as-known : (q r : Row) (w : Option (ℤ × ℤ)) → candidate_as q w ≡ known r → (w ≡ None) × (q ≡ r)
as-known q r None e = (refl, same e)
  where
    same : {q r : Row} → known q ≡ known r → q ≡ r
    same e = cc
as-known q r (Some w) e = absurd (clash e)
  where
    clash : {a b : ℤ} {r : Row} → past a b ≡ known r → ⊥
    clash e = cc

abbrev by_these : ℤ → ℤ → Option (ℤ × ℤ)
by_these a b = Some (a, b)

as-past : (q : Row) (a b : ℤ) (w : Option (ℤ × ℤ)) → candidate_as q w ≡ past a b → w ≡ Some (a, b)
as-past q a b None e = absurd (clash e)
  where
    clash : {a b : ℤ} {r : Row} → known r ≡ past a b → ⊥
    clash e = cc
as-past q a b (Some w) e = both (first e) (second e)
  where
    first : {a b c d : ℤ} → past c d ≡ past a b → c ≡ a
    first e = cc

    second : {a b c d : ℤ} → past c d ≡ past a b → d ≡ b
    second e = cc

    both : {a b c d : ℤ} → c ≡ a → d ≡ b → by_these c d ≡ by_these a b
    both {a} {b} {c} {d} e f = ap (λ x. by_these x d) e ∙ ap (by_these a) f

made-as : (r : Row) (m : MadeRow) → candidate_of m ≡ known r → Makes (Ok r) (computed m.row m.steps)
made-as r m e =
    let p = as-known m.row r (first_wide m.steps) e in
    subst (λ q. Makes (Ok q) (computed m.row m.steps)) p.1 (all_narrow m.row m.steps p.0)

pub row_made : (r : Row) (c : PlainCandidate) (m : MadeRow) → c ≡ candidate_of m → IsRowOf (Ok r) c → Makes (Ok r) (computed m.row m.steps)
row_made r c m e h = made-as r m (sym e ∙ h)

pub row_fails : (x : LinError) (c : PlainCandidate) (m : MadeRow) → c ≡ candidate_of m → IsRowOf (Err x) c → Makes (Err (rule_error x)) (computed m.row m.steps)
row_fails (Wide a b) c m e h = last_wide (Wide a b) m.row m.steps (as-past m.row a b (first_wide m.steps) (sym e ∙ h))
row_fails OutOfMemory c m e h = no_memory (computed m.row m.steps)

-- ---- members of lists that look the same

pub any_else : {A : Type 0} (xs : List A) (i : ℕ) (d e : A) → i < length xs → get_or xs i d ≡ get_or xs i e
any_else [] i d e h = absurd (omega arith)
any_else (x ∷ xs) zero d e h = refl
any_else (x ∷ xs) (suc i) d e h = any_else xs i d e (omega arith)

pub twin : {A B C : Type 0} (v : A → C) (w : B → C) (xs : List A) (ys : List B) (i : ℕ) (x : A) → map v xs ≡ map w ys → i < length xs → x ≡ get_or xs i x → (y : B) × (slice_get ys i ≡ Some y) × (v x ≡ w y)
twin v w [] ys i x e h at = absurd (omega arith)
twin v w (a ∷ xs) [] i x e h at = absurd (clash e)
  where
    clash : {C : Type 0} {c : C} {cs : List C} → c ∷ cs ≡ [] → ⊥
    clash e = cc
twin v w (a ∷ xs) (b ∷ ys) zero x e h at = (b, refl, ap v at ∙ head e)
  where
    head : {C : Type 0} {c d : C} {cs ds : List C} → c ∷ cs ≡ d ∷ ds → c ≡ d
    head e = cc
twin v w (a ∷ xs) (b ∷ ys) (suc i) x e h at = twin v w xs ys i x (tail e) (omega arith) at
  where
    tail : {C : Type 0} {c d : C} {cs ds : List C} → c ∷ cs ≡ d ∷ ds → cs ≡ ds
    tail e = cc

pub beyond : {A B C : Type 0} (v : A → C) (w : B → C) (xs : List A) (ys : List B) (i : ℕ) → map v xs ≡ map w ys → length xs ≤ i → slice_get ys i ≡ None
beyond v w [] [] i e h = refl
beyond v w [] (b ∷ ys) i e h = absurd (clash e)
  where
    clash : {C : Type 0} {c : C} {cs : List C} → [] ≡ c ∷ cs → ⊥
    clash e = cc
beyond v w (a ∷ xs) [] i e h = refl
beyond v w (a ∷ xs) (b ∷ ys) zero e h = absurd (omega arith)
beyond v w (a ∷ xs) (b ∷ ys) (suc i) e h = beyond v w xs ys i (tail e) (omega arith)
  where
    tail : {C : Type 0} {c d : C} {cs ds : List C} → c ∷ cs ≡ d ∷ ds → cs ≡ ds
    tail e = cc

-- ---- the row of a number

is-low : (low i : ℕ) → i < low → nat_le low i ≡ false
is-low low i h = grind (arith, nat_tests)

not-low : (low i : ℕ) → low ≤ i → nat_le low i ≡ true
not-low low i h = grind (arith, nat_tests)

pub number_low : (ms : List MadeRow) (low i : ℕ) → i < low → Makes (Err rule.NotApplicable) (named_row ms low i)
number_low ms low i h = unmade rule.NotApplicable (need (nat_le low i)) _ (unneeded _ (is-low low i h))

pub number_high : (ms : List MadeRow) (low i : ℕ) → low ≤ i → slice_get ms i ≡ None → Makes (Err rule.NotApplicable) (named_row ms low i)
number_high ms low i h e =
    then_made (Err rule.NotApplicable) (need (nat_le low i)) _ tt (needed _ (not-low low i h)) (unmade rule.NotApplicable (found (slice_get ms i)) _ (lacking _ e))

pub number_there : (ms : List MadeRow) (low i : ℕ) (m : MadeRow) (r : Result Row RuleError) → low ≤ i → slice_get ms i ≡ Some m → Makes r (computed m.row m.steps) → Makes r (named_row ms low i)
number_there ms low i m r h e k =
    then_made r (need (nat_le low i)) _ tt (needed _ (not-low low i h)) (then_made r (found (slice_get ms i)) _ m (there _ m e) k)

-- ---- one after the other

abbrev pub next_low : ℕ → ℕ → ℕ
next_low low i = i + 1

pub named_collect : (ms : List MadeRow) → Collects (λ low is. named_candidates low ms is) (λ low i. named_row ms low i) next_low
named_collect ms = record {
  none = λ low. refl;
  more = λ low i is.
      let rest : Row → Attempt (List Row) = λ q. go_on (named_candidates (i + 1) ms is).events (named_candidates (i + 1) ms is).value (λ more. unit (q ∷ more)) in
      ap (λ o. go_on (need (nat_le low i)).events (need (nat_le low i)).value (λ z. o)) (go-assoc [] (slice_get ms i) (λ m. computed m.row m.steps) rest)
      ∙ go-assoc (need (nat_le low i)).events (need (nat_le low i)).value (λ z. go_on [] (slice_get ms i) (λ m. computed m.row m.steps)) rest;
}

pub seen_as : (k : PlainRegionType) (s : PlainState) (f : PlainFact) (cs xs : List Candidate) → xs ≡ cs → candidates_view cs ≡ candidates_seen k s f → candidates_view xs ≡ map candidate_of (candidates k s f)
unfolding candidates_seen
seen_as k s f cs xs e h = ap candidates_view e ∙ h
