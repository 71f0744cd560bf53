-- Candidates by their numbers.
use Rattle.std.proofs.Common.{◌≡◌, ℕ, zero, suc, ◌+◌, ◌≤◌, ℤ, Bool, true, false, List, [], ◌∷◌, Option, Some, None, refl, sym, ap, subst, ◌∙◌, inl, inr, arith}
use Rattle.std.specs.Prelude.{nat_le, slice_get}
use Rattle.std.specs.List.{AllByRecursion}
use Rattle.std.proofs.lemmas.Bool.Decides.{nat_tests}
use Rattle.cap_lin.specs.Steps.{first_wide}
use Rattle.cap_lin.specs.declared.row.Row.{Row}
use Rattle.cap_goal_spec.specs.States.{PlainFact, PlainState}
use Rattle.cap_goal_spec.specs.Candidates.{MadeRow, PlainCandidate, known, past, candidate_as, candidate_of}
use Rattle.cap_rules.specs.Attempts.{Attempt, unit, ◌>>=◌, computed, found, need}
use Rattle.cap_rules.specs.Resting.{named_candidates}
use Rattle.cap_offer_spec.specs.Closures.{Listed, listed, rows_of, numbers_of, kept_if}
use Rattle.cap_offer_spec.specs.Members.{IsOneOf}
use Rattle.cap_closure_laws.proofs.Fewer.{all-by}
use Rattle.cap_closure_laws.proofs.Meeting.{Meets, meets-chain, halves, meets-unit, meets-found, meets-computed, computed-value, computed-narrow}
use Rattle.cap_closure_laws.proofs.Filters.{Ascend, ascend-lower, holds_now, present_by, present}

none-some : {A : Type 0} {x : A} → None ≡ Some x → ⊥
none-some e = cc

same-some : {A : Type 0} (x y : A) → Some x ≡ Some y → x ≡ y
same-some x y e = cc

past-known : {r : Row} (a b : ℤ) → past a b ≡ known r → ⊥
past-known a b e = cc

same-known : (q r : Row) → known q ≡ known r → q ≡ r
same-known q r e = cc

-- the member is the candidate of its number
pub record IsCandidate (all : List MadeRow) (x : Listed) : Type 0 where
  pub made : MadeRow
  pub at : slice_get all x.number ≡ Some made
  pub is : candidate_of made ≡ known x.row

-- ---- the candidates that a list names

need-true : (P : List Row → Type 0) (b : Bool) (x : Unit {0}) → Meets P (need b) x → b ≡ true
need-true P true x h = refl
need-true P false x h = absurd (none-some h.runs.value)

pub meets-need : (P : List Row → Type 0) (b : Bool) → b ≡ true → Meets P (need b) tt
meets-need P true e = meets-unit P tt
meets-need P false e = absurd (clash e)
  where
    clash : false ≡ true → ⊥
    clash e = cc

le-true : (m n : ℕ) → nat_le m n ≡ true → m ≤ n
le-true m n e = grind (arith, nat_tests)

true-le : (m n : ℕ) → m ≤ n → nat_le m n ≡ true
true-le m n h = grind (arith, nat_tests)

pub record Above (all : List MadeRow) (low : ℕ) (x : Listed) : Type 0 where
  pub least : low ≤ x.number
  pub candidate : IsCandidate all x

above-lower : (all : List MadeRow) (low high : ℕ) (xs : List Listed) → low ≤ high → AllByRecursion (Above all high) xs → AllByRecursion (Above all low) xs
above-lower all low high xs h k = all-by (Above all high) (Above all low) (λ x a. record { least = le-chain low high x.number h a.least; candidate = a.candidate }) xs k
  where
    le-chain : (a b c : ℕ) → a ≤ b → b ≤ c → a ≤ c
    le-chain a b c h k = omega arith

pub record NamedAs (all : List MadeRow) (low : ℕ) (is : List ℕ) (named : List Row) : Type 0 where
  pub members : List Listed
  pub numbers : numbers_of members ≡ is
  pub rows : rows_of members ≡ named
  pub each : AllByRecursion (Above all low) members

abbrev then_found : List MadeRow → ℕ → List ℕ → Unit {0} → Attempt (List Row)
then_found all i is u = found (slice_get all i) >>= λ m. computed m.row m.steps >>= λ r. named_candidates (i + 1) all is >>= λ rs. unit (r ∷ rs)

abbrev then_made : List MadeRow → ℕ → List ℕ → MadeRow → Attempt (List Row)
then_made all i is m = computed m.row m.steps >>= λ r. named_candidates (i + 1) all is >>= λ rs. unit (r ∷ rs)

abbrev then_others : List MadeRow → ℕ → List ℕ → Row → Attempt (List Row)
then_others all i is r = named_candidates (i + 1) all is >>= λ rs. unit (r ∷ rs)

more-low : (low i : ℕ) → low ≤ i → low ≤ i + 1
more-low low i h = omega arith

joined-rows : (q r : Row) (qs rs named : List Row) → q ≡ r → qs ≡ rs → r ∷ rs ≡ named → q ∷ qs ≡ named
joined-rows q r qs rs named e h k = ap (λ x. x ∷ qs) e ∙ (ap (λ xs. r ∷ xs) h ∙ k)

pub named-as : (P : List Row → Type 0) (all : List MadeRow) (low : ℕ) (is : List ℕ) (named : List Row) → Meets P (named_candidates low all is) named → NamedAs all low is named
named-as P all low [] named h = record { members = []; numbers = refl; rows = same-some [] named h.runs.value; each = tt }
named-as P all low (i ∷ is) named h =
    let p = halves P (need (nat_le low i)) (then_found all i is) named h in
    let q = halves P (found (slice_get all i)) (then_made all i is) named p.second in
    let m = q.middle in
    let o = halves P (computed m.row m.steps) (then_others all i is) named q.second in
    let v = halves P (named_candidates (i + 1) all is) (λ rs. unit (o.middle ∷ rs)) named o.second in
    let rest = named-as P all (i + 1) is v.middle v.first in
    let l : low ≤ i = le-true low i (need-true P (nat_le low i) p.middle p.first) in
    let e : m.row ≡ o.middle = computed-value P m.row o.middle m.steps o.first in
    let c : candidate_of m ≡ known m.row = ap (candidate_as m.row) (computed-narrow P m.row o.middle m.steps o.first) in
    record {
      members = listed i m.row ∷ rest.members;
      numbers = ap (λ l. i ∷ l) rest.numbers;
      rows = joined-rows m.row o.middle (rows_of rest.members) v.middle named e rest.rows (same-some (o.middle ∷ v.middle) named v.second.runs.value);
      each = (record { least = l; candidate = record { made = m; at = q.first.runs.value; is = c } }, above-lower all low (i + 1) rest.members (more-low low i l) rest.each);
    }

pub record Narrow (m : MadeRow) (r : Row) : Type 0 where
  pub narrow : first_wide m.steps ≡ None
  pub row : m.row ≡ r

pub narrow-by : (m : MadeRow) (r : Row) (w : Option (ℤ × ℤ)) → first_wide m.steps ≡ w → candidate_as m.row w ≡ known r → Narrow m r
narrow-by m r None e h = record { narrow = e; row = same-known m.row r h }
narrow-by m r (Some w) e h = absurd (past-known w.0 w.1 h)

pub named-meets : (P : List Row → Type 0) (all : List MadeRow) (low : ℕ) (xs : List Listed) → Ascend low xs → AllByRecursion (IsCandidate all) xs → Meets P (named_candidates low all (numbers_of xs)) (rows_of xs)
named-meets P all low [] a h = meets-unit P []
named-meets P all low (x ∷ xs) a h =
    let i = x.number in
    let m = h.0.made in
    let n = narrow-by m x.row (first_wide m.steps) refl h.0.is in
    let is = numbers_of xs in
    meets-chain P (need (nat_le low i)) (then_found all i is) tt (x.row ∷ rows_of xs) (meets-need P (nat_le low i) (true-le low i a.0))
    (meets-chain P (found (slice_get all i)) (then_made all i is) m (x.row ∷ rows_of xs) (meets-found P (slice_get all i) m h.0.at)
    (subst (λ (r : Row). Meets P (then_made all i is m) (r ∷ rows_of xs)) n.row
    (meets-chain P (computed m.row m.steps) (then_others all i is) m.row (m.row ∷ rows_of xs) (meets-computed P m.row m.steps n.narrow)
    (meets-chain P (named_candidates (i + 1) all is) (λ rs. unit (m.row ∷ rs)) (rows_of xs) (m.row ∷ rows_of xs) (named-meets P all (i + 1) xs a.1 h.1) (meets-unit P (m.row ∷ rows_of xs))))))

-- ---- those that hold at present

kept-ascend : (b : Bool) (i : ℕ) (r : Row) (xs : List Listed) → Ascend (suc i) xs → Ascend i (kept_if b (listed i r) xs)
kept-ascend true i r xs h = (omega arith, ascend-lower (i + 1) (suc i) xs (omega arith) h)
kept-ascend false i r xs h = ascend-lower i (suc i) xs (omega arith) h

by-ascend : (s : PlainState) (f : PlainFact) (i : ℕ) (c : PlainCandidate) (xs : List Listed) → Ascend (suc i) xs → Ascend i (present_by s f i c xs)
by-ascend s f i (known r) xs h = kept-ascend (holds_now s f r) i r xs h
by-ascend s f i (past a b) xs h = ascend-lower i (suc i) xs (omega arith) h

pub present-ascend : (s : PlainState) (f : PlainFact) (i : ℕ) (ms : List MadeRow) → Ascend i (present s f i ms)
present-ascend s f i [] = tt
present-ascend s f i (m ∷ ms) = by-ascend s f i (candidate_of m) (present s f (suc i) ms) (present-ascend s f (suc i) ms)

-- each is the candidate of its number, and holds at present
pub record Present (all : List MadeRow) (s : PlainState) (f : PlainFact) (x : Listed) : Type 0 where
  pub candidate : IsCandidate all x
  pub holds : holds_now s f x.row ≡ true

kept-present : (all : List MadeRow) (s : PlainState) (f : PlainFact) (b : Bool) (x : Listed) (xs : List Listed) → holds_now s f x.row ≡ b → IsCandidate all x → AllByRecursion (Present all s f) xs → AllByRecursion (Present all s f) (kept_if b x xs)
kept-present all s f true x xs e c h = (record { candidate = c; holds = e }, h)
kept-present all s f false x xs e c h = h

by-present : (all : List MadeRow) (s : PlainState) (f : PlainFact) (i : ℕ) (m : MadeRow) (c : PlainCandidate) (xs : List Listed) → candidate_of m ≡ c → slice_get all i ≡ Some m → AllByRecursion (Present all s f) xs → AllByRecursion (Present all s f) (present_by s f i c xs)
by-present all s f i m (known r) xs e a h = kept-present all s f (holds_now s f r) (listed i r) xs refl (record { made = m; at = a; is = e }) h
by-present all s f i m (past a b) xs e l h = h

pub present-each : (all : List MadeRow) (s : PlainState) (f : PlainFact) (i : ℕ) (ms : List MadeRow) → ((p : ℕ) → slice_get all (i + p) ≡ slice_get ms p) → AllByRecursion (Present all s f) (present s f i ms)
present-each all s f i [] h = tt
present-each all s f i (m ∷ ms) h =
    let z : i + 0 ≡ i = omega arith in
    by-present all s f i m (candidate_of m) (present s f (suc i) ms) refl (ap (slice_get all) (sym z) ∙ h 0) (present-each all s f (suc i) ms (λ p. ap (slice_get all) (shift i p) ∙ h (suc p)))
  where
    shift : (i p : ℕ) → suc i + p ≡ i + suc p
    shift i p = omega arith

kept-there : (b : Bool) (x : Listed) (xs : List Listed) → b ≡ true → IsOneOf (kept_if b x xs) x
kept-there true x xs e = inl refl
kept-there false x xs e = absurd (clash e)
  where
    clash : false ≡ true → ⊥
    clash e = cc

kept-other : (b : Bool) (x : Listed) (xs : List Listed) (y : Listed) → IsOneOf xs y → IsOneOf (kept_if b x xs) y
kept-other true x xs y h = inr h
kept-other false x xs y h = h

by-other : (s : PlainState) (f : PlainFact) (i : ℕ) (c : PlainCandidate) (xs : List Listed) (y : Listed) → IsOneOf xs y → IsOneOf (present_by s f i c xs) y
by-other s f i (known r) xs y h = kept-other (holds_now s f r) (listed i r) xs y h
by-other s f i (past a b) xs y h = h

pub present-has : (s : PlainState) (f : PlainFact) (i : ℕ) (ms : List MadeRow) (p : ℕ) (m : MadeRow) (r : Row) → slice_get ms p ≡ Some m → candidate_of m ≡ known r → holds_now s f r ≡ true → IsOneOf (present s f i ms) (listed (i + p) r)
present-has s f i [] p m r a e h = absurd (none-some a)
present-has s f i (n ∷ ms) zero m r a e h =
    let c : candidate_of n ≡ known r = ap candidate_of (same-some n m a) ∙ e in
    let z : i ≡ i + 0 = omega arith in
    subst (λ c. IsOneOf (present_by s f i c (present s f (suc i) ms)) (listed (i + 0) r)) (sym c)
    (subst (λ j. IsOneOf (kept_if (holds_now s f r) (listed i r) (present s f (suc i) ms)) (listed j r)) z (kept-there (holds_now s f r) (listed i r) (present s f (suc i) ms) h))
present-has s f i (n ∷ ms) (suc p) m r a e h =
    let z : suc i + p ≡ i + suc p = omega arith in
    by-other s f i (candidate_of n) (present s f (suc i) ms) (listed (i + suc p) r) (subst (λ j. IsOneOf (present s f (suc i) ms) (listed j r)) z (present-has s f (suc i) ms p m r a e h))
