-- Closures are largest.
use Rattle.std.proofs.Common.{◌≡◌, ℕ, zero, suc, ◌+◌, ◌-◌, ◌<◌, ◌≤◌, true, List, [], ◌∷◌, ◌++◌, length, drop, Option, Some, None, refl, sym, ap, subst, ◌∙◌, inl, inr, arith, length-append}
use Rattle.std.specs.Prelude.{nat_lt, slice_get, slice_set}
use Rattle.std.specs.List.{AllByRecursion}
use Rattle.std.proofs.lemmas.Bool.Decides.{nat_tests}
use Rattle.cap_lin.specs.Steps.{first_wide}
use Rattle.cap_lin.specs.Solves.{Infeasible}
use Rattle.cap_lin.specs.declared.row.Row.{Row}
use Rattle.cap_lin.specs.declared.row.Sort.TheVariants.{Int}
use Rattle.cap_farkas.specs.declared.cert.Cert.{Cert}
use Rattle.cap_prog.specs.Program.{PlainAction, PlainRegionType}
use Rattle.cap_goal_spec.specs.States.{PlainFact, PlainState, longest_list, with_state}
use Rattle.cap_goal_spec.specs.Candidates.{MadeRow, candidates, later_state, known, candidate_of}
use Rattle.cap_rules.specs.Attempts.{Attempt, unit, ◌>>=◌, need, appended}
use Rattle.cap_rules.specs.Answers.{steps_of}
use Rattle.cap_rules.specs.Making.{with_sort, with_row, with_rows}
use Rattle.cap_rules.specs.Resting.{action_names, system, named_candidates, prove_at, prove_stable, with_settled, settle, keep}
use Rattle.cap_rules_ascending.specs.Ascending.{RowAscends, FactAscends, StateAscends}
use Rattle.cap_rules_ascending.proofs.Restings.{at-safe}
use Rattle.cap_offer_spec.specs.Claims.{keeps_after}
use Rattle.cap_offer_spec.specs.Closures.{Listed, listed, rows_of, numbers_of, started, rounds, closed_list, keeps, settles, or_settled, settled, closure}
use Rattle.cap_offer_spec.specs.Deciding.{PlainNotes, clean, certified}
use Rattle.cap_offer_spec.specs.Members.{IsOneOf}
use Rattle.cap_closure_laws.specs.Largest.{Settles, AreAmong, IsLargest, DecidesWithin, goes_through, StartsWithin, RoundsWithin, first_list, StaysWithin, HasRoomFor, ClosuresAreLargest}
use Rattle.cap_closure_laws.proofs.Fewer.{AreIn, all-one, all-by, at-one}
use Rattle.cap_closure_laws.proofs.Meeting.{HasCert, cert-infeasible, Meets, meets-chain, meets-by, meets-unit, halves, answered-meets, meets-answers, success-meets, infeasible-succeeds}
use Rattle.cap_closure_laws.proofs.Systems.{system-plain, plain-meets, system-narrow}
use Rattle.cap_closure_laws.proofs.Tests.{AtMeets, at-all, all-at, ClosedMeets, ActionMeets, stable-all, all-stable, test-parts}
use Rattle.cap_closure_laws.proofs.Filters.{passing-all, passing-ascend, Ascend, alive, last_list, rounds-is, started-is, holds_now, present}
use Rattle.cap_closure_laws.proofs.Rounds.{keeps-ascend, InOrder, rows-in-order, Stable, rounds-keep, rounds-end, rounds-last, alive-tests}
use Rattle.cap_closure_laws.proofs.Ordered.{candidates-ordered, candidate-ordered}
use Rattle.cap_closure_laws.proofs.Named.{IsCandidate, Above, named-as, named-meets, meets-need, Present, present-ascend, present-each, present-has}

-- ---- the closure's list

abbrev made : PlainRegionType → PlainState → PlainFact → List MadeRow
made k s f = drop 1 (candidates k s f)

abbrev begin : PlainRegionType → PlainState → PlainFact → List Listed
begin k s f = present s f 1 (made k s f)

abbrev end : PlainRegionType → PlainState → PlainFact → List Listed
end k s f = last_list k s f (length (begin k s f)) (begin k s f)

closed-is : (k : PlainRegionType) (s : PlainState) (f : PlainFact) (n : PlainNotes) → (closed_list k s f n).value ≡ numbers_of (end k s f)
unfolding closed_list
closed-is k s f n =
    let o = started s f 1 (made k s f) n in
    ap (λ xs. numbers_of (rounds k s f (length xs) xs o.notes).value) (started-is s f 1 (made k s f) n)
    ∙ ap numbers_of (rounds-is k s f (length (begin k s f)) (begin k s f) o.notes)

same-list : (xs ys : List ℕ) (o p : Option (List Cert)) → settles xs o ≡ settles ys p → xs ≡ ys
same-list xs ys o p e = cc

keeps-not : (cs : List Cert) (ys : List ℕ) (p : Option (List Cert)) → keeps cs ≡ settles ys p → ⊥
keeps-not cs ys p e = cc

closure-by : (k : PlainRegionType) (s : PlainState) (j : ℕ) (f : PlainFact) (n : PlainNotes) (list : List ℕ) (certs : Option (List Cert)) (kept : Option (List Cert)) → (or_settled kept (settled k s j f) n).value ≡ settles list certs → list ≡ numbers_of (end k s f)
closure-by k s j f n list certs (Some cs) h = absurd (keeps-not cs list certs h)
closure-by k s j f n list certs None h = sym (same-list (closed_list k s f n).value list _ certs h) ∙ closed-is k s f n

closure-list : (k : PlainRegionType) (s : PlainState) (j : ℕ) (f : PlainFact) (n : PlainNotes) (list : List ℕ) (certs : Option (List Cert)) → (closure k s j f n).value ≡ settles list certs → list ≡ numbers_of (end k s f)
unfolding closure
closure-list k s j f n list certs h = closure-by k s j f (certified (keep k s j f) n).notes list certs (certified (keep k s j f) n).value h

-- ---- the candidates that it begins with

behind-first : (ms : List MadeRow) (p : ℕ) → slice_get ms (suc p) ≡ slice_get (drop 1 ms) p
behind-first [] zero = refl
behind-first [] (suc p) = refl
behind-first (m ∷ ms) p = refl

all-made : (k : PlainRegionType) (s : PlainState) (f : PlainFact) (p : ℕ) → slice_get (candidates k s f) (1 + p) ≡ slice_get (made k s f) p
all-made k s f p = let one : 1 + p ≡ suc p = omega arith in ap (slice_get (candidates k s f)) one ∙ behind-first (candidates k s f) p

begin-present : (k : PlainRegionType) (s : PlainState) (f : PlainFact) → AllByRecursion (Present (candidates k s f) s f) (begin k s f)
begin-present k s f = present-each (candidates k s f) s f 1 (made k s f) (all-made k s f)

present-in-order : (k : PlainRegionType) (s : PlainState) (f : PlainFact) (xs : List Listed) → StateAscends s → FactAscends f → AllByRecursion (Present (candidates k s f) s f) xs → InOrder xs
present-in-order k s f xs o g h =
    all-by (Present (candidates k s f) s f) (λ (x : Listed). RowAscends x.row) (λ x p. candidate-ordered (candidates k s f) x (candidates-ordered k s f g o.guards) p.candidate) xs h

begins-same : (k : PlainRegionType) (s : PlainState) (f : PlainFact) → first_list k s f ≡ begin k s f
begins-same k s f = started-is s f 1 (made k s f) clean

rounds-within : (k : PlainRegionType) (s : PlainState) (f : PlainFact) → StaysWithin k s f → RoundsWithin k s f (length (begin k s f)) (begin k s f)
rounds-within k s f w = subst (λ xs. RoundsWithin k s f (length xs) xs) (begins-same k s f) w.rounds

-- ---- a list that settles the fact is among them

starts-one : (k : PlainRegionType) (s : PlainState) (f : PlainFact) (p : ℕ) (m : MadeRow) (r : Row) → StaysWithin k s f → slice_get (made k s f) p ≡ Some m → candidate_of m ≡ known r → DecidesWithin (prove_at s s.rows f.state (r ∷ []))
starts-one k s f p m r w a e = subst (StartsWithin s f) e (all-one (λ (n : MadeRow). StartsWithin s f (candidate_of n)) (made k s f) m w.starts (at-one (made k s f) p m a))

holds-one : (k : PlainRegionType) (s : PlainState) (f : PlainFact) (r : Row) → StateAscends s → FactAscends f → RowAscends r → DecidesWithin (prove_at s s.rows f.state (r ∷ [])) → AtMeets Infeasible s s.rows f.state r → holds_now s f r ≡ true
holds-one k s f r h g e w m =
    infeasible-succeeds (prove_at s s.rows f.state (r ∷ [])) tt clean (at-safe s s.rows f.state (r ∷ []) h.rows g.state (e, tt)).lists w (all-at Infeasible s s.rows f.state (r ∷ []) (m, tt))

begin-has : (k : PlainRegionType) (s : PlainState) (f : PlainFact) (x : Listed) → StateAscends s → FactAscends f → StaysWithin k s f → Above (candidates k s f) 1 x → AtMeets Infeasible s s.rows f.state x.row → IsOneOf (begin k s f) x
begin-has k s f x h g w a m =
    let c = a.candidate in
    let l : 1 ≤ x.number = a.least in
    let p : ℕ = x.number - 1 in
    let e : x.number ≡ 1 + p = omega arith in
    let i : slice_get (made k s f) p ≡ Some c.made = sym (all-made k s f p) ∙ (ap (slice_get (candidates k s f)) (sym e) ∙ c.at) in
    let o = candidate-ordered (candidates k s f) x (candidates-ordered k s f g h.guards) c in
    subst (λ n. IsOneOf (begin k s f) (listed n x.row)) (sym e)
    (present-has s f 1 (made k s f) p c.made x.row i c.is (holds-one k s f x.row h g o (starts-one k s f p c.made x.row w i c.is) m))

begin-all : (k : PlainRegionType) (s : PlainState) (f : PlainFact) (ps : List Listed) → StateAscends s → FactAscends f → StaysWithin k s f → AllByRecursion (Above (candidates k s f) 1) ps → AllByRecursion (AtMeets Infeasible s s.rows f.state) (rows_of ps) → AreIn ps (begin k s f)
begin-all k s f [] h g w a m = tt
begin-all k s f (p ∷ ps) h g w a m = (begin-has k s f p h g w a.0 m.0, begin-all k s f ps h g w a.1 m.1)

one-number : (xs : List Listed) (x : Listed) → IsOneOf xs x → IsOneOf (numbers_of xs) x.number
one-number [] x h = absurd h
one-number (y ∷ xs) x (inl e) = inl (ap (λ (z : Listed). z.number) e)
one-number (y ∷ xs) x (inr h) = inr (one-number xs x h)

numbers-in : (ps xs : List Listed) → AreIn ps xs → AreAmong (numbers_of ps) (numbers_of xs)
numbers-in [] xs h = tt
numbers-in (p ∷ ps) xs h = (one-number xs p h.0, numbers-in ps xs h.1)

abbrev then_stable : PlainRegionType → PlainState → ℕ → PlainFact → List Row → Attempt PlainState
then_stable k s j f named = prove_stable k s f named k.actions >>= λ v. with_settled s j f named

abbrev then_now : PlainRegionType → PlainState → ℕ → PlainFact → List Row → Attempt PlainState
then_now k s j f named = prove_at s s.rows f.state named >>= λ u. then_stable k s j f named

among-them : (k : PlainRegionType) (s : PlainState) (j : ℕ) (f : PlainFact) (others : List ℕ) → StateAscends s → FactAscends f → StaysWithin k s f → Settles k s j f others → AreAmong others (numbers_of (end k s f))
among-them k s j f others h g w t =
    let all = candidates k s f in
    let m = meets-by HasCert Infeasible cert-infeasible (settle k s j f others) t.next (answered-meets (settle k s j f others) t.certs t.next t.answers) in
    let p = halves Infeasible (named_candidates 1 all others) (then_now k s j f) t.next m in
    let q = halves Infeasible (prove_at s s.rows f.state p.middle) (λ u. then_stable k s j f p.middle) t.next p.second in
    let o = halves Infeasible (prove_stable k s f p.middle k.actions) (λ v. with_settled s j f p.middle) t.next q.second in
    let n = named-as Infeasible all 1 others p.middle p.first in
    let now = subst (AllByRecursion (AtMeets Infeasible s s.rows f.state)) (sym n.rows) (at-all Infeasible s s.rows f.state p.middle q.middle q.first) in
    let stable : Stable k s f n.members = record { actions = subst (λ rows. AllByRecursion (ActionMeets Infeasible k s f rows) k.actions) (sym n.rows) (stable-all Infeasible k s f p.middle k.actions o.middle o.first) } in
    let i = rounds-keep k s f n.members (length (begin k s f)) (begin k s f) h g stable (rounds-within k s f w) (present-in-order k s f (begin k s f) h g (begin-present k s f)) (begin-all k s f n.members h g w n.each now) in
    subst (λ list. AreAmong list (numbers_of (end k s f))) n.numbers (numbers-in n.members (end k s f) i)

-- ---- and they settle the fact

abbrev IsNow : PlainState → PlainFact → Listed → Type 0
IsNow s f x = holds_now s f x.row ≡ true

now-meets : (s : PlainState) (f : PlainFact) (r : Row) → StateAscends s → FactAscends f → RowAscends r → holds_now s f r ≡ true → AtMeets HasCert s s.rows f.state r
now-meets s f r h g e m =
    let o = success-meets (prove_at s s.rows f.state (r ∷ [])) clean (at-safe s s.rows f.state (r ∷ []) h.rows g.state (e, tt)).lists m in
    (at-all HasCert s s.rows f.state (r ∷ []) o.result o.meets).0

all-now : (k : PlainRegionType) (s : PlainState) (f : PlainFact) (xs : List Listed) → StateAscends s → FactAscends f → InOrder xs → AllByRecursion (Present (candidates k s f) s f) xs → AllByRecursion (AtMeets HasCert s s.rows f.state) (rows_of xs)
all-now k s f [] h g e m = tt
all-now k s f (x ∷ xs) h g e m = (now-meets s f x.row h g e.0 m.0.holds, all-now k s f xs h g e.1 m.1)

-- the tests of one candidate after actions, and those of all after one action

abbrev Tested : PlainRegionType → PlainState → PlainFact → List Row → PlainAction → Listed → Type 0
Tested k s f before a x = goes_through (keeps_after k s f before a (x.row ∷ [])) ≡ true

abbrev TestedAll : PlainRegionType → PlainState → PlainFact → List Row → List PlainAction → Listed → Type 0
TestedAll k s f before as' x = AllByRecursion (λ a. Tested k s f before a x) as'

same-some : {A : Type 0} (x y : A) → Some x ≡ Some y → x ≡ y
same-some x y e = cc

one-closed : (k : PlainRegionType) (s : PlainState) (f : PlainFact) (before : List Row) (a : PlainAction) (rows : Option (List Row)) (x : Listed) → StateAscends s → FactAscends f → AllByRecursion RowAscends before → RowAscends x.row → (system k s f before a (action_names k s f a)).value ≡ Some rows → Tested k s f before a x → ClosedMeets HasCert s a (action_names k s f a) rows x.row
one-closed k s f before a rows x h g e c v t =
    let o = success-meets (keeps_after k s f before a (x.row ∷ [])) clean (keeps-ascend k s f before (x.row ∷ []) a h g e (c, tt)).lists t in
    let m = test-parts HasCert k s f before a x.row o.result o.meets in
    subst (λ r. ClosedMeets HasCert s a (action_names k s f a) r x.row) (same-some m.rows rows (sym m.system.runs.value ∙ v)) m.closed

all-closed-by : (k : PlainRegionType) (s : PlainState) (f : PlainFact) (before : List Row) (a : PlainAction) (rows : Option (List Row)) (xs : List Listed) → StateAscends s → FactAscends f → AllByRecursion RowAscends before → InOrder xs → (system k s f before a (action_names k s f a)).value ≡ Some rows → AllByRecursion (Tested k s f before a) xs → AllByRecursion (ClosedMeets HasCert s a (action_names k s f a) rows) (rows_of xs)
all-closed-by k s f before a rows [] h g e c v t = tt
all-closed-by k s f before a rows (x ∷ xs) h g e c v t = (one-closed k s f before a rows x h g e c.0 v t.0, all-closed-by k s f before a rows xs h g e c.1 v t.1)

action-meets : (k : PlainRegionType) (s : PlainState) (f : PlainFact) (xs : List Listed) (a : PlainAction) → StateAscends s → FactAscends f → InOrder xs → first_wide (steps_of (system k s f [] a (action_names k s f a)).events) ≡ None → AllByRecursion (Tested k s f (rows_of xs) a) xs → ActionMeets HasCert k s f (rows_of xs) a
action-meets k s f xs a h g c n t =
    let before = rows_of xs in
    let names = action_names k s f a in
    let p = system-plain k s f before a names in
    record {
      rows = p.result;
      system = plain-meets HasCert (system k s f before a names) p (system-narrow k s f before a names n);
      each = all-closed-by k s f before a p.result xs h g (rows-in-order xs c) c p.value t;
    }

abbrev HasNarrow : PlainRegionType → PlainState → PlainFact → PlainAction → Type 0
HasNarrow k s f a = first_wide (steps_of (system k s f [] a (action_names k s f a)).events) ≡ None

actions-meet : (k : PlainRegionType) (s : PlainState) (f : PlainFact) (xs : List Listed) (as' : List PlainAction) → StateAscends s → FactAscends f → InOrder xs → AllByRecursion (HasNarrow k s f) as' → AllByRecursion (TestedAll k s f (rows_of xs) as') xs → AllByRecursion (ActionMeets HasCert k s f (rows_of xs)) as'
actions-meet k s f xs [] h g c n t = tt
actions-meet k s f xs (a ∷ more) h g c n t = (
  action-meets k s f xs a h g c n.0 (all-by (TestedAll k s f (rows_of xs) (a ∷ more)) (Tested k s f (rows_of xs) a) (λ x m. m.0) xs t),
  actions-meet k s f xs more h g c n.1 (all-by (TestedAll k s f (rows_of xs) (a ∷ more)) (TestedAll k s f (rows_of xs) more) (λ x m. m.1) xs t),
)

-- room

record Reaches (P : List Row → Type 0) (o : Attempt PlainState) : Type 0 where
  state : PlainState
  meets : Meets P o state

less : (m n : ℕ) → m < n → nat_lt m n ≡ true
less m n h = grind (arith, nat_tests)

appended-meets : {A : Type 0} (P : List Row → Type 0) (xs : List A) (x : A) → length xs < longest_list → Meets P (appended xs x) (xs ++ (x ∷ []))
appended-meets P xs x h =
    meets-chain P (need (nat_lt (length xs) longest_list)) (λ u. unit (xs ++ (x ∷ []))) tt (xs ++ (x ∷ [])) (meets-need P (nat_lt (length xs) longest_list) (less (length xs) longest_list h)) (meets-unit P (xs ++ (x ∷ [])))

row-meets : (P : List Row → Type 0) (s : PlainState) (r : Row) → length s.rows < longest_list → Meets P (with_row s r) (record s { rows = s.rows ++ (r ∷ []) })
row-meets P s r h = meets-chain P (appended s.rows r) (λ rows. unit (record s { rows = rows })) (s.rows ++ (r ∷ [])) (record s { rows = s.rows ++ (r ∷ []) }) (appended-meets P s.rows r h) (meets-unit P (record s { rows = s.rows ++ (r ∷ []) }))

rows-meet : (P : List Row → Type 0) (s : PlainState) (rs : List Row) → length s.rows + length rs ≤ longest_list → Reaches P (with_rows s rs)
rows-meet P s [] h = record { state = s; meets = meets-unit P s }
rows-meet P s (r ∷ rs) h =
    let l : length s.rows < longest_list = omega arith in
    let n : length (s.rows ++ (r ∷ [])) ≡ length s.rows + 1 = length-append s.rows (r ∷ []) in
    let t : PlainState = record s { rows = s.rows ++ (r ∷ []) } in
    let m = rows-meet P t rs (omega (arith, n, h)) in
    record { state = m.state; meets = meets-chain P (with_row s r) (λ u. with_rows u rs) t m.state (row-meets P s r l) m.meets }

settled-meets : (P : List Row → Type 0) (s : PlainState) (j : ℕ) (f : PlainFact) (rs : List Row) → HasRoomFor s (length rs) → Reaches P (with_settled s j f rs)
settled-meets P s j f rs h =
    let t : PlainState = record s { sorts = s.sorts ++ (Int ∷ []) } in
    let u : PlainState = record t { facts = slice_set s.facts j (with_state f (later_state s)) } in
    let m = rows-meet P u rs h.rows in
    record {
      state = m.state;
      meets = meets-chain P (with_sort s Int) (λ v. with_rows (record v { facts = slice_set s.facts j (with_state f (later_state s)) }) rs) t m.state
          (meets-chain P (appended s.sorts Int) (λ sorts. unit (record s { sorts = sorts })) (s.sorts ++ (Int ∷ [])) t (appended-meets P s.sorts Int h.sorts) (meets-unit P t))
          m.meets;
    }

same-count : (xs : List Listed) → length (numbers_of xs) ≡ length (rows_of xs)
same-count [] = refl
same-count (x ∷ xs) = let e = same-count xs in omega (arith, e)

alive-all : (k : PlainRegionType) (s : PlainState) (f : PlainFact) (rows : List Row) (xs : List Listed) → AllByRecursion (λ (x : Listed). alive k s f rows x ≡ true) xs → AllByRecursion (TestedAll k s f rows k.actions) xs
alive-all k s f rows xs h = all-by (λ (x : Listed). alive k s f rows x ≡ true) (TestedAll k s f rows k.actions) (λ x m. alive-tests k s f rows x.row k.actions clean m) xs h

settles-it : (k : PlainRegionType) (s : PlainState) (j : ℕ) (f : PlainFact) → StateAscends s → FactAscends f → StaysWithin k s f → HasRoomFor s (length (numbers_of (end k s f))) → Settles k s j f (numbers_of (end k s f))
settles-it k s j f h g w room =
    let all = candidates k s f in
    let xs = end k s f in
    let n = length (begin k s f) in
    let there = rounds-last (AllByRecursion (Present all s f)) k s f n (begin k s f) (λ test xs m. passing-all (Present all s f) test xs m) (begin-present k s f) in
    let up = rounds-last (Ascend 1) k s f n (begin k s f) (λ test xs m. passing-ascend test 1 xs m) (present-ascend s f 1 (made k s f)) in
    let order = present-in-order k s f xs h g there in
    let tests = alive-all k s f (rows_of xs) xs (rounds-end k s f n (begin k s f) (omega arith)) in
    let kept = settled-meets HasCert s j f (rows_of xs) (subst (HasRoomFor s) (same-count xs) room) in
    let m = meets-chain HasCert (named_candidates 1 all (numbers_of xs)) (then_now k s j f) (rows_of xs) kept.state (named-meets HasCert all 1 xs up (all-by (Present all s f) (IsCandidate all) (λ x p. p.candidate) xs there))
    (meets-chain HasCert (prove_at s s.rows f.state (rows_of xs)) (λ u. then_stable k s j f (rows_of xs)) tt kept.state (all-at HasCert s s.rows f.state (rows_of xs) (all-now k s f xs h g order there))
    (meets-chain HasCert (prove_stable k s f (rows_of xs) k.actions) (λ v. with_settled s j f (rows_of xs)) tt kept.state (all-stable HasCert k s f (rows_of xs) k.actions (actions-meet k s f xs k.actions h g order w.systems tests)) kept.meets)) in
    let a = meets-answers (settle k s j f (numbers_of xs)) kept.state m in
    record { certs = a.0; next = kept.state; answers = a.1 }

pub closures-largest : ClosuresAreLargest
closures-largest k s j f n list certs h g w room e =
    let l = closure-list k s j f n list certs e in
    subst (IsLargest k s j f) (sym l) (record {
      settles = settles-it k s j f h g w (subst (λ ns. HasRoomFor s (length ns)) l room);
      largest = λ others t. among-them k s j f others h g w t;
    })
