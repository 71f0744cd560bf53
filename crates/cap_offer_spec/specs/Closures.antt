-- What may be known of a fact's state when the others have moved: the closure of its candidates.
use Rattle.std.specs.Prelude.{ℕ, zero, suc, ◌==◌, Bool, true, false, List, [], ◌∷◌, map, length, drop, Option, Some, None}
use Rattle.cap_lin.specs.declared.row.Row.{Row}
use Rattle.cap_farkas.specs.declared.cert.Cert.{Cert}
use Rattle.cap_fm_spec.specs.Events.{wide}
use Rattle.cap_rules.specs.cap_prog.Program.{PlainAction, PlainRegionType}
use Rattle.cap_rules.specs.cap_goal_spec.States.{PlainFact, PlainState}
use Rattle.cap_rules.specs.cap_goal_spec.Candidates.{MadeRow, candidates, PlainCandidate, known, past, candidate_of}
use Rattle.cap_rules.specs.Resting.{prove_at, settle, keep}
use Rattle.cap_offer_spec.specs.Claims.{keeps_after}
use Rattle.cap_offer_spec.specs.Deciding.{Noted, done, note, ◌>>=◌, certified, succeeds}

-- a candidate that is still in the list
pub record Listed : Type 0 where
  pub number : ℕ
  pub row : Row

abbrev pub listed : ℕ → Row → Listed
listed i r = record { number = i; row = r }

abbrev pub rows_of : List Listed → List Row
rows_of xs = map (λ (x : Listed). x.row) xs

abbrev pub numbers_of : List Listed → List ℕ
numbers_of xs = map (λ (x : Listed). x.number) xs

abbrev pub kept_if : {A : Type 0} → Bool → A → List A → List A
kept_if true x xs = x ∷ xs
kept_if false x xs = xs

-- ---- what holds of the present state

-- one that is too wide is noted, and left out
abbrev pub started_by : PlainState → PlainFact → ℕ → PlainCandidate → Noted (List Listed) →
    Noted (List Listed)
started_by s f i (known r) rest = do
  b ← succeeds (prove_at s s.rows f.state (r ∷ []))
  xs ← rest
  done (kept_if b (listed i r) xs)
started_by s f i (past a b) rest = do
  _ ← note (wide a b)
  rest

-- the candidates, numbered from `i` on, that are proved with the present state
unfoldable pub started : PlainState → PlainFact → ℕ → List MadeRow → Noted (List Listed)
started s f i [] = done []
started s f i (m ∷ ms) = started_by s f i (candidate_of m) (started s f (suc i) ms)

-- ---- what others keep

abbrev pub and_also : Bool → Noted Bool → Noted Bool
and_also true rest = rest
and_also false rest = done false

-- after each action, in order, up to the first after which it isn't proved
unfoldable pub survives :
    PlainRegionType → PlainState → PlainFact → List Row → Row → List PlainAction → Noted Bool
survives k s f rows r [] = done true
survives k s f rows r (a ∷ more) = do
  b ← succeeds (keeps_after k s f rows a (r ∷ []))
  and_also b (survives k s f rows r more)

-- those that survive, by the rows of the whole list
unfoldable pub surviving :
    PlainRegionType → PlainState → PlainFact → List Row → List Listed → Noted (List Listed)
surviving k s f rows [] = done []
surviving k s f rows (x ∷ xs) = do
  b ← survives k s f rows x.row k.actions
  ys ← surviving k s f rows xs
  done (kept_if b x ys)

abbrev pub unless_all : Bool → List Listed → Noted (List Listed) → Noted (List Listed)
unless_all true ys rest = done ys
unless_all false ys rest = rest

-- rounds, until none leaves; each but the last takes one out, so there are no more than candidates
unfoldable pub rounds :
    PlainRegionType → PlainState → PlainFact → ℕ → List Listed → Noted (List Listed)
rounds k s f zero xs = done xs
rounds k s f (suc n) xs = do
  ys ← surviving k s f (rows_of xs) xs
  unless_all (length ys == length xs) ys (rounds k s f n ys)

-- ---- the closure

-- the numbers of the candidates that the rounds leave; candidate 0 is the state itself
unfoldable pub closed_list : PlainRegionType → PlainState → PlainFact → Noted (List ℕ)
closed_list k s f = do
  xs ← started s f 1 (drop 1 (candidates k s f))
  ys ← rounds k s f (length xs) xs
  done (numbers_of ys)

-- the fact keeps its state, by these certificates; or what is known of its next state, and the
-- certificates, if there are any
pub data PlainClosure : Type 0 where
  keeps : List Cert → PlainClosure
  settles : List ℕ → Option (List Cert) → PlainClosure

abbrev pub or_settled : Option (List Cert) → Noted PlainClosure → Noted PlainClosure
or_settled (Some cs) rest = done (keeps cs)
or_settled None rest = rest

-- by the closure of the candidates of fact number j
abbrev pub settled : PlainRegionType → PlainState → ℕ → PlainFact → Noted PlainClosure
settled k s j f = do
  list ← closed_list k s f
  cs ← certified (settle k s j f list)
  done (settles list cs)

unfoldable pub closure : PlainRegionType → PlainState → ℕ → PlainFact → Noted PlainClosure
closure k s j f = do
  kept ← certified (keep k s j f)
  or_settled kept (settled k s j f)
