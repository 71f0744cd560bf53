-- What is said of closures: the candidates that they leave are the largest list that settles a
-- fact.
use Rattle.std.specs.Prelude.{◌≡◌, ℕ, zero, suc, ◌+◌, ◌<◌, ◌≤◌, ◌==◌, Bool, true, false, List, [], ◌∷◌, length, drop, Option, None}
use Rattle.std.specs.List.{AllByRecursion}
use Rattle.cap_lin.specs.Steps.{first_wide}
use Rattle.cap_lin.specs.declared.row.Row.{Row}
use Rattle.cap_farkas.specs.declared.cert.Cert.{Cert}
use Rattle.cap_fm_spec.specs.Events.{first_limit}
use Rattle.cap_fm_spec.specs.Solving.{solved}
use Rattle.cap_prog.specs.Program.{PlainAction, PlainRegionType}
use Rattle.cap_goal_spec.specs.States.{PlainFact, PlainState, longest_list}
use Rattle.cap_goal_spec.specs.Candidates.{MadeRow, candidates, PlainCandidate, known, past, candidate_of}
use Rattle.cap_rules.specs.Attempts.{Attempt}
use Rattle.cap_rules.specs.Answers.{applies, steps_of, owed_lists, Answers}
use Rattle.cap_rules.specs.Resting.{action_names, system, prove_at, settle}
use Rattle.cap_rules_ascending.specs.Ascending.{FactAscends, StateAscends}
use Rattle.cap_offer_spec.specs.Claims.{keeps_after}
use Rattle.cap_offer_spec.specs.Closures.{Listed, rows_of, started, surviving, settles, closure}
use Rattle.cap_offer_spec.specs.Deciding.{PlainNotes, clean, succeeds}
use Rattle.cap_offer_spec.specs.Members.{IsOneOf}

-- some certificates settle the fact by the candidates of these numbers
pub record Settles (k : PlainRegionType) (s : PlainState) (j : ℕ) (f : PlainFact)
    (list : List ℕ) : Type 0 where
  pub certs : List Cert
  pub next : PlainState
  pub answers : Answers (settle k s j f list) certs (applies next)

-- each of the numbers is one of the others
abbrev pub AreAmong : List ℕ → List ℕ → Type 0
AreAmong numbers others = AllByRecursion (IsOneOf others) numbers

pub record IsLargest (k : PlainRegionType) (s : PlainState) (j : ℕ) (f : PlainFact)
    (list : List ℕ) : Type 0 where
  pub settles : Settles k s j f list
  pub largest : (others : List ℕ) → Settles k s j f others → AreAmong others list

-- ---- decisions within their limits

abbrev pub IsWithin : List Row → Type 0
IsWithin rows = first_limit (solved rows).events ≡ None

abbrev pub DecidesWithin : {A : Type 0} → Attempt A → Type 0
DecidesWithin o = AllByRecursion IsWithin (owed_lists o.events)

abbrev pub goes_through : {A : Type 0} → Attempt A → Bool
goes_through o = (succeeds o clean).value

abbrev pub Where : Bool → Type 0 → Type 0
Where true P = P
Where false P = Unit {0}

abbrev pub Unless : Bool → Type 0 → Type 0
Unless true P = Unit {0}
Unless false P = P

-- the test of a candidate with the present state
abbrev pub StartsWithin : PlainState → PlainFact → PlainCandidate → Type 0
StartsWithin s f (known r) = DecidesWithin (prove_at s s.rows f.state (r ∷ []))
StartsWithin s f (past a b) = Unit {0}

-- its tests after the actions, in order, up to the first after which it isn't proved
abbrev pub SurvivesWithin :
    PlainRegionType → PlainState → PlainFact → List Row → Row → List PlainAction → Type 0
SurvivesWithin k s f rows r [] = Unit {0}
SurvivesWithin k s f rows r (a ∷ more) =
    DecidesWithin (keeps_after k s f rows a (r ∷ []))
    × Where (goes_through (keeps_after k s f rows a (r ∷ []))) (SurvivesWithin k s f rows r more)

abbrev pub left_of : PlainRegionType → PlainState → PlainFact → List Listed → List Listed
left_of k s f xs = (surviving k s f (rows_of xs) xs clean).value

-- those of all rounds, until none leaves
abbrev pub RoundsWithin :
    PlainRegionType → PlainState → PlainFact → ℕ → List Listed → Type 0
RoundsWithin k s f zero xs = Unit {0}
RoundsWithin k s f (suc n) xs =
    AllByRecursion (λ (x : Listed). SurvivesWithin k s f (rows_of xs) x.row k.actions) xs
    × Unless (length (left_of k s f xs) == length xs) (RoundsWithin k s f n (left_of k s f xs))

abbrev pub first_list : PlainRegionType → PlainState → PlainFact → List Listed
first_list k s f = (started s f 1 (drop 1 (candidates k s f)) clean).value

-- no decision on the way to the closure of a fact, and no term of an action's system, passes a
-- limit
pub record StaysWithin (k : PlainRegionType) (s : PlainState) (f : PlainFact) : Type 0 where
  pub starts :
      AllByRecursion (λ (m : MadeRow). StartsWithin s f (candidate_of m)) (drop 1 (candidates k s f))
  pub rounds : RoundsWithin k s f (length (first_list k s f)) (first_list k s f)
  pub systems :
      AllByRecursion
      (λ (a : PlainAction). first_wide (steps_of (system k s f [] a (action_names k s f a)).events)
      ≡ None)
      k.actions

-- ---- the law

-- for a fresh variable, and so many rows
pub record HasRoomFor (s : PlainState) (count : ℕ) : Type 0 where
  pub sorts : length s.sorts < longest_list
  pub rows : length s.rows + count ≤ longest_list

abbrev pub ClosuresAreLargest : Type 0
ClosuresAreLargest =
    (k : PlainRegionType) (s : PlainState) (j : ℕ) (f : PlainFact) (n : PlainNotes)
    (list : List ℕ) (certs : Option (List Cert)) →
    StateAscends s → FactAscends f → StaysWithin k s f → HasRoomFor s (length list) →
    (closure k s j f n).value ≡ settles list certs → IsLargest k s j f list
