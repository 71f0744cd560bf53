-- The lists of a closure, whatever was noted before: those that pass tests.
use Rattle.std.proofs.Common.{◌≡◌, ℕ, zero, suc, ◌+◌, ◌≤◌, Bool, true, false, List, [], ◌∷◌, length, refl, ap, ◌∙◌, inl, inr, arith}
use Rattle.std.specs.Prelude.{◌==◌}
use Rattle.std.specs.List.{AllByRecursion}
use Rattle.cap_lin.specs.declared.row.Row.{Row}
use Rattle.cap_prog.specs.Program.{PlainAction, PlainRegionType}
use Rattle.cap_goal_spec.specs.States.{PlainFact, PlainState}
use Rattle.cap_goal_spec.specs.Candidates.{MadeRow, PlainCandidate, known, past, candidate_of}
use Rattle.cap_rules.specs.Resting.{prove_at}
use Rattle.cap_offer_spec.specs.Claims.{keeps_after}
use Rattle.cap_offer_spec.specs.Closures.{Listed, listed, rows_of, kept_if, started_by, started, and_also, survives, surviving, unless_all, rounds}
use Rattle.cap_offer_spec.specs.Deciding.{PlainNotes, clean, Noted, succeeds}
use Rattle.cap_offer_spec.specs.Members.{IsOneOf}
use Rattle.cap_closure_laws.specs.Largest.{goes_through}
use Rattle.cap_closure_laws.proofs.Meeting.{succeeds-same}

-- ---- members that pass a test

abbrev pub passing : (Listed → Bool) → List Listed → List Listed
passing test [] = []
passing test (x ∷ xs) = kept_if (test x) x (passing test xs)

kept-one : (b : Bool) (x : Listed) (xs : List Listed) (y : Listed) → x ≡ y → b ≡ true → IsOneOf (kept_if b x xs) y
kept-one true x xs y e h = inl e
kept-one false x xs y e h = absurd (clash h)
  where
    clash : false ≡ true → ⊥
    clash e = cc

kept-later : (b : Bool) (x : Listed) (xs : List Listed) (y : Listed) → IsOneOf xs y → IsOneOf (kept_if b x xs) y
kept-later true x xs y h = inr h
kept-later false x xs y h = h

pub passing-has : (test : Listed → Bool) (xs : List Listed) (x : Listed) → IsOneOf xs x → test x ≡ true → IsOneOf (passing test xs) x
passing-has test [] x h t = absurd h
passing-has test (y ∷ xs) x (inl e) t = kept-one (test y) y (passing test xs) x e (ap test e ∙ t)
passing-has test (y ∷ xs) x (inr h) t = kept-later (test y) y (passing test xs) x (passing-has test xs x h t)

kept-all : (P : Listed → Type 0) (b : Bool) (x : Listed) (xs : List Listed) → P x → AllByRecursion P xs → AllByRecursion P (kept_if b x xs)
kept-all P true x xs h k = (h, k)
kept-all P false x xs h k = k

pub passing-all : (P : Listed → Type 0) (test : Listed → Bool) (xs : List Listed) → AllByRecursion P xs → AllByRecursion P (passing test xs)
passing-all P test [] h = tt
passing-all P test (x ∷ xs) h = kept-all P (test x) x (passing test xs) h.0 (passing-all P test xs h.1)

kept-fewer : (b : Bool) (x : Listed) (xs : List Listed) (n : ℕ) → length xs ≤ n → length (kept_if b x xs) ≤ suc n
kept-fewer true x xs n h = omega arith
kept-fewer false x xs n h = omega arith

pub passing-fewer : (test : Listed → Bool) (xs : List Listed) → length (passing test xs) ≤ length xs
passing-fewer test [] = omega arith
passing-fewer test (x ∷ xs) = kept-fewer (test x) x (passing test xs) (length xs) (passing-fewer test xs)

-- all pass where none is left out
pub record PassesAll (test : Listed → Bool) (xs : List Listed) : Type 0 where
  pub same : passing test xs ≡ xs
  pub each : AllByRecursion (λ (x : Listed). test x ≡ true) xs

whole-by : (test : Listed → Bool) (x : Listed) (xs : List Listed) (b : Bool) → test x ≡ b → length (passing test xs) ≤ length xs → length (kept_if b x (passing test xs)) ≡ suc (length xs) → (length (passing test xs) ≡ length xs → PassesAll test xs) → PassesAll test (x ∷ xs)
whole-by test x xs true e m l h =
    let n : length (passing test xs) ≡ length xs = omega arith in
    let k = h n in
    record { same = ap (λ c. kept_if c x (passing test xs)) e ∙ ap (λ ys. x ∷ ys) k.same; each = (e, k.each) }
whole-by test x xs false e m l h = absurd (omega arith)

pub passing-whole : (test : Listed → Bool) (xs : List Listed) → length (passing test xs) ≡ length xs → PassesAll test xs
passing-whole test [] l = record { same = refl; each = tt }
passing-whole test (x ∷ xs) l = whole-by test x xs (test x) refl (passing-fewer test xs) l (λ n. passing-whole test xs n)

-- numbers that ascend
abbrev pub Ascend : ℕ → List Listed → Type 0
Ascend low [] = Unit {0}
Ascend low (x ∷ xs) = (low ≤ x.number) × Ascend (x.number + 1) xs

pub ascend-lower : (low high : ℕ) (xs : List Listed) → low ≤ high → Ascend high xs → Ascend low xs
ascend-lower low high [] h k = tt
ascend-lower low high (x ∷ xs) h k = let n : high ≤ x.number = k.0 in (omega arith, k.1)

kept-ascend : (b : Bool) (low : ℕ) (x : Listed) (xs : List Listed) → low ≤ x.number → Ascend (x.number + 1) xs → Ascend low (kept_if b x xs)
kept-ascend true low x xs h k = (h, k)
kept-ascend false low x xs h k = ascend-lower low (x.number + 1) xs (omega arith) k

pub passing-ascend : (test : Listed → Bool) (low : ℕ) (xs : List Listed) → Ascend low xs → Ascend low (passing test xs)
passing-ascend test low [] h = tt
passing-ascend test low (x ∷ xs) h = kept-ascend (test x) low x (passing test xs) h.0 (passing-ascend test (x.number + 1) xs h.1)

-- ---- the lists without the notes

and-same : (b : Bool) (rest : Noted Bool) (n m : PlainNotes) → ((n m : PlainNotes) → (rest n).value ≡ (rest m).value) → (and_also b rest n).value ≡ (and_also b rest m).value
and-same true rest n m h = h n m
and-same false rest n m h = refl

pub survives-same : (k : PlainRegionType) (s : PlainState) (f : PlainFact) (rows : List Row) (r : Row) (as' : List PlainAction) (n m : PlainNotes) → (survives k s f rows r as' n).value ≡ (survives k s f rows r as' m).value
unfolding survives
survives-same k s f rows r [] n m = refl
survives-same k s f rows r (a ∷ more) n m =
    let o = keeps_after k s f rows a (r ∷ []) in
    ap (λ b. (and_also b (survives k s f rows r more) (succeeds o n).notes).value) (succeeds-same o n m)
    ∙ and-same (succeeds o m).value (survives k s f rows r more) (succeeds o n).notes (succeeds o m).notes (λ u v. survives-same k s f rows r more u v)

-- the candidate is proved after each action
abbrev pub alive : PlainRegionType → PlainState → PlainFact → List Row → Listed → Bool
alive k s f rows x = (survives k s f rows x.row k.actions clean).value

pub surviving-is : (k : PlainRegionType) (s : PlainState) (f : PlainFact) (rows : List Row) (xs : List Listed) (n : PlainNotes) → (surviving k s f rows xs n).value ≡ passing (alive k s f rows) xs
unfolding surviving
surviving-is k s f rows [] n = refl
surviving-is k s f rows (x ∷ xs) n =
    ap (λ ys. kept_if (survives k s f rows x.row k.actions n).value x ys) (surviving-is k s f rows xs (survives k s f rows x.row k.actions n).notes)
    ∙ ap (λ b. kept_if b x (passing (alive k s f rows) xs)) (survives-same k s f rows x.row k.actions n clean)

abbrev pub unless_same : Bool → List Listed → List Listed → List Listed
unless_same true ys zs = ys
unless_same false ys zs = zs

abbrev pub next_list : PlainRegionType → PlainState → PlainFact → List Listed → List Listed
next_list k s f xs = passing (alive k s f (rows_of xs)) xs

abbrev pub last_list : PlainRegionType → PlainState → PlainFact → ℕ → List Listed → List Listed
last_list k s f zero xs = xs
last_list k s f (suc n) xs = unless_same (length (next_list k s f xs) == length xs) (next_list k s f xs) (last_list k s f n (next_list k s f xs))

unless-is : (b : Bool) (ys zs : List Listed) (rest : Noted (List Listed)) (n : PlainNotes) → ((n : PlainNotes) → (rest n).value ≡ zs) → (unless_all b ys rest n).value ≡ unless_same b ys zs
unless-is true ys zs rest n h = refl
unless-is false ys zs rest n h = h n

pub rounds-is : (k : PlainRegionType) (s : PlainState) (f : PlainFact) (n : ℕ) (xs : List Listed) (m : PlainNotes) → (rounds k s f n xs m).value ≡ last_list k s f n xs
unfolding rounds
rounds-is k s f zero xs m = refl
rounds-is k s f (suc n) xs m =
    let o = surviving k s f (rows_of xs) xs m in
    ap (λ ys. (unless_all (length ys == length xs) ys (rounds k s f n ys) o.notes).value) (surviving-is k s f (rows_of xs) xs m)
    ∙ unless-is (length (next_list k s f xs) == length xs) (next_list k s f xs) (last_list k s f n (next_list k s f xs)) (rounds k s f n (next_list k s f xs)) o.notes (λ u. rounds-is k s f n (next_list k s f xs) u)

-- ---- the candidates that hold at present

abbrev pub holds_now : PlainState → PlainFact → Row → Bool
holds_now s f r = goes_through (prove_at s s.rows f.state (r ∷ []))

abbrev pub present_by : PlainState → PlainFact → ℕ → PlainCandidate → List Listed → List Listed
present_by s f i (known r) xs = kept_if (holds_now s f r) (listed i r) xs
present_by s f i (past a b) xs = xs

abbrev pub present : PlainState → PlainFact → ℕ → List MadeRow → List Listed
present s f i [] = []
present s f i (m ∷ ms) = present_by s f i (candidate_of m) (present s f (suc i) ms)

by-is : (s : PlainState) (f : PlainFact) (i : ℕ) (c : PlainCandidate) (rest : Noted (List Listed)) (xs : List Listed) (n : PlainNotes) → ((n : PlainNotes) → (rest n).value ≡ xs) → (started_by s f i c rest n).value ≡ present_by s f i c xs
by-is s f i (known r) rest xs n h =
    let o = prove_at s s.rows f.state (r ∷ []) in
    ap (λ ys. kept_if (succeeds o n).value (listed i r) ys) (h (succeeds o n).notes) ∙ ap (λ b. kept_if b (listed i r) xs) (succeeds-same o n clean)
by-is s f i (past a b) rest xs n h = h _

pub started-is : (s : PlainState) (f : PlainFact) (i : ℕ) (ms : List MadeRow) (n : PlainNotes) → (started s f i ms n).value ≡ present s f i ms
unfolding started
started-is s f i [] n = refl
started-is s f i (m ∷ ms) n = by-is s f i (candidate_of m) (started s f (suc i) ms) (present s f (suc i) ms) n (λ u. started-is s f (suc i) ms u)
