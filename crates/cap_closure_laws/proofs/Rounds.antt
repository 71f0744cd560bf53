-- What the rounds leave: no candidate of a list that settles the fact leaves, and those that are left
-- are proved after each action.
use Rattle.std.proofs.Common.{◌≡◌, ◌≢◌, ℕ, zero, suc, ◌≤◌, Bool, true, false, List, [], ◌∷◌, length, refl, sym, ap, subst, ◌∙◌, inl, inr, arith}
use Rattle.std.specs.Prelude.{◌==◌}
use Rattle.std.specs.List.{AllByRecursion}
use Rattle.std.proofs.lemmas.Bool.Decides.{nat_tests}
use Rattle.cap_lin.specs.Solves.{Infeasible}
use Rattle.cap_lin.specs.declared.row.Row.{Row}
use Rattle.cap_prog.specs.Program.{PlainAction, PlainRegionType}
use Rattle.cap_goal_spec.specs.States.{PlainFact, PlainState}
use Rattle.cap_rules.specs.Resting.{action_names, system, prove_closed}
use Rattle.cap_rules_ascending.specs.Ascending.{RowAscends, FactAscends, StateAscends}
use Rattle.cap_rules_ascending.proofs.Safe.{Safe, IsAny, chain}
use Rattle.cap_rules_ascending.proofs.Restings.{action-names-ascend, system-safe, closed-under-safe}
use Rattle.cap_offer_spec.specs.Claims.{keeps_after}
use Rattle.cap_offer_spec.specs.Closures.{Listed, rows_of, and_also, survives}
use Rattle.cap_offer_spec.specs.Deciding.{PlainNotes, clean, Noted, succeeds}
use Rattle.cap_offer_spec.specs.Members.{IsOneOf}
use Rattle.cap_closure_laws.specs.Largest.{goes_through, Where, Unless, SurvivesWithin, RoundsWithin}
use Rattle.cap_closure_laws.proofs.Fewer.{AreIn, all-one, all-by}
use Rattle.cap_closure_laws.proofs.Meeting.{succeeds-same, infeasible-succeeds}
use Rattle.cap_closure_laws.proofs.Tests.{ActionMeets, test-more}
use Rattle.cap_closure_laws.proofs.Filters.{passing, passing-has, passing-all, passing-fewer, passing-whole, surviving-is, alive, next_list, last_list, unless_same}

clash : false ≡ true → ⊥
clash e = cc

-- ---- terms in order

pub keeps-ascend : (k : PlainRegionType) (s : PlainState) (f : PlainFact) (known named : List Row) (a : PlainAction) → StateAscends s → FactAscends f → AllByRecursion RowAscends known → AllByRecursion RowAscends named → Safe IsAny (keeps_after k s f known a named)
keeps-ascend k s f known named a h g e n =
    let names = action_names k s f a in
    chain (system k s f known a names) (λ rows. prove_closed s named a names rows) (system-safe k s f known a names h g e (action-names-ascend k s f a g))
    (λ rows i. closed-under-safe s named a names rows n (action-names-ascend k s f a g) i)

abbrev pub InOrder : List Listed → Type 0
InOrder xs = AllByRecursion (λ (x : Listed). RowAscends x.row) xs

pub rows-in-order : (xs : List Listed) → InOrder xs → AllByRecursion RowAscends (rows_of xs)
rows-in-order [] h = tt
rows-in-order (x ∷ xs) h = (h.0, rows-in-order xs h.1)

pub one-row : (xs : List Listed) (x : Listed) → IsOneOf xs x → IsOneOf (rows_of xs) x.row
one-row [] x h = absurd h
one-row (y ∷ xs) x (inl e) = inl (ap (λ (z : Listed). z.row) e)
one-row (y ∷ xs) x (inr h) = inr (one-row xs x h)

pub rows-in : (ps xs : List Listed) → AreIn ps xs → AreIn (rows_of ps) (rows_of xs)
rows-in [] xs h = tt
rows-in (p ∷ ps) xs h = (one-row xs p h.0, rows-in ps xs h.1)

-- ---- a candidate of a list that settles the fact stays

stays : (k : PlainRegionType) (s : PlainState) (f : PlainFact) (named known : List Row) (r : Row) (as' : List PlainAction) (n : PlainNotes) → StateAscends s → FactAscends f → AllByRecursion RowAscends known → RowAscends r → AreIn named known → IsOneOf named r → AllByRecursion (ActionMeets Infeasible k s f named) as' → SurvivesWithin k s f known r as' → (survives k s f known r as' n).value ≡ true
unfolding survives
stays k s f named known r [] n h g e c m i t w = refl
stays k s f named known r (a ∷ more) n h g e c m i t w =
    let o = keeps_after k s f known a (r ∷ []) in
    let asc = (keeps-ascend k s f known (r ∷ []) a h g e (c, tt)).lists in
    let meets = test-more k s f named known a r m i t.0 in
    let rest = subst (λ b. Where b (SurvivesWithin k s f known r more)) (infeasible-succeeds o tt clean asc w.0 meets) w.1 in
    ap (λ b. (and_also b (survives k s f known r more) (succeeds o n).notes).value) (infeasible-succeeds o tt n asc w.0 meets)
    ∙ stays k s f named known r more (succeeds o n).notes h g e c m i t.1 rest

-- a list that settles the fact, as far as the actions go
pub record Stable (k : PlainRegionType) (s : PlainState) (f : PlainFact) (ps : List Listed) : Type 0 where
  pub actions : AllByRecursion (ActionMeets Infeasible k s f (rows_of ps)) k.actions

all-stay : (k : PlainRegionType) (s : PlainState) (f : PlainFact) (all ps xs : List Listed) → StateAscends s → FactAscends f → Stable k s f all → AreIn all xs → InOrder xs → AllByRecursion (λ (x : Listed). SurvivesWithin k s f (rows_of xs) x.row k.actions) xs → AreIn ps all → AreIn ps (next_list k s f xs)
all-stay k s f all [] xs h g t m e w i = tt
all-stay k s f all (p ∷ ps) xs h g t m e w i =
    let there : IsOneOf xs p = all-one (IsOneOf xs) all p m i.0 in (
      passing-has (alive k s f (rows_of xs)) xs p there (stays k s f (rows_of all) (rows_of xs) p.row k.actions clean h g (rows-in-order xs e) (all-one (λ (x : Listed). RowAscends x.row) xs p e there) (rows-in all xs m) (one-row all p i.0) t.actions (all-one (λ (x : Listed). SurvivesWithin k s f (rows_of xs) x.row k.actions) xs p w there)),
      all-stay k s f all ps xs h g t m e w i.1,
    )

in-all : (ps : List Listed) → AreIn ps ps
in-all ps = own ps
  where
    own : (ps : List Listed) → AreIn ps ps
    own [] = tt
    own (p ∷ ps) = (inl refl, all-by (IsOneOf ps) (IsOneOf (p ∷ ps)) (λ x h. inr h) ps (own ps))

unless-keeps : (b : Bool) (ps ys zs : List Listed) → AreIn ps ys → (b ≡ false → AreIn ps zs) → AreIn ps (unless_same b ys zs)
unless-keeps true ps ys zs h k = h
unless-keeps false ps ys zs h k = k refl

pub rounds-keep : (k : PlainRegionType) (s : PlainState) (f : PlainFact) (ps : List Listed) (n : ℕ) (xs : List Listed) → StateAscends s → FactAscends f → Stable k s f ps → RoundsWithin k s f n xs → InOrder xs → AreIn ps xs → AreIn ps (last_list k s f n xs)
rounds-keep k s f ps zero xs h g t w e m = m
rounds-keep k s f ps (suc n) xs h g t w e m =
    let ys = next_list k s f xs in
    let i = all-stay k s f ps ps xs h g t m e w.0 (in-all ps) in
    let u = subst (λ zs. Unless (length zs == length xs) (RoundsWithin k s f n zs)) (surviving-is k s f (rows_of xs) xs clean) w.1 in
    unless-keeps (length ys == length xs) ps ys (last_list k s f n ys) i
    (λ b. rounds-keep k s f ps n ys h g t (subst (λ c. Unless c (RoundsWithin k s f n ys)) b u) (passing-all (λ (x : Listed). RowAscends x.row) (alive k s f (rows_of xs)) xs e) i)

-- ---- the last list is proved after each action

abbrev pub AllAlive : PlainRegionType → PlainState → PlainFact → List Listed → Type 0
AllAlive k s f xs = AllByRecursion (λ (x : Listed). alive k s f (rows_of xs) x ≡ true) xs

same-length : (m n : ℕ) → (m == n) ≡ true → m ≡ n
same-length m n e = grind (arith, nat_tests)

other-length : (m n : ℕ) → (m == n) ≡ false → m ≢ n
other-length m n e = grind (arith, nat_tests)

unless-alive : (k : PlainRegionType) (s : PlainState) (f : PlainFact) (b : Bool) (ys zs : List Listed) → (b ≡ true → AllAlive k s f ys) → (b ≡ false → AllAlive k s f zs) → AllAlive k s f (unless_same b ys zs)
unless-alive k s f true ys zs h g = h refl
unless-alive k s f false ys zs h g = g refl

whole-alive : (k : PlainRegionType) (s : PlainState) (f : PlainFact) (xs : List Listed) → length (next_list k s f xs) ≡ length xs → AllAlive k s f (next_list k s f xs)
whole-alive k s f xs e = let w = passing-whole (alive k s f (rows_of xs)) xs e in subst (AllAlive k s f) (sym w.same) w.each

pub rounds-end : (k : PlainRegionType) (s : PlainState) (f : PlainFact) (n : ℕ) (xs : List Listed) → length xs ≤ n → AllAlive k s f (last_list k s f n xs)
rounds-end k s f zero [] l = tt
rounds-end k s f zero (x ∷ xs) l = absurd (omega arith)
rounds-end k s f (suc n) xs l =
    let ys = next_list k s f xs in
    let m : length ys ≤ length xs = passing-fewer (alive k s f (rows_of xs)) xs in
    unless-alive k s f (length ys == length xs) ys (last_list k s f n ys) (λ b. whole-alive k s f xs (same-length (length ys) (length xs) b))
    (λ b. let o : length ys ≢ length xs = other-length (length ys) (length xs) b in rounds-end k s f n ys (omega arith))

-- whatever holds of the first list and of those that pass holds of the last
unless-all : (P : List Listed → Type 0) (b : Bool) (ys zs : List Listed) → P ys → P zs → P (unless_same b ys zs)
unless-all P true ys zs h k = h
unless-all P false ys zs h k = k

pub rounds-last : (P : List Listed → Type 0) (k : PlainRegionType) (s : PlainState) (f : PlainFact) (n : ℕ) (xs : List Listed) → ((test : Listed → Bool) (xs : List Listed) → P xs → P (passing test xs)) → P xs → P (last_list k s f n xs)
rounds-last P k s f zero xs h p = p
rounds-last P k s f (suc n) xs h p =
    let ys = next_list k s f xs in
    let q = h (alive k s f (rows_of xs)) xs p in
    unless-all P (length ys == length xs) ys (last_list k s f n ys) q (rounds-last P k s f n ys h q)

-- ---- and so each test succeeds

also-both : (b : Bool) (rest : Noted Bool) (n : PlainNotes) → (and_also b rest n).value ≡ true → (b ≡ true) × ((rest n).value ≡ true)
also-both true rest n h = (refl, h)
also-both false rest n h = absurd (clash h)

pub alive-tests : (k : PlainRegionType) (s : PlainState) (f : PlainFact) (rows : List Row) (r : Row) (as' : List PlainAction) (n : PlainNotes) → (survives k s f rows r as' n).value ≡ true → AllByRecursion (λ a. goes_through (keeps_after k s f rows a (r ∷ [])) ≡ true) as'
unfolding survives
alive-tests k s f rows r [] n h = tt
alive-tests k s f rows r (a ∷ more) n h =
    let o = keeps_after k s f rows a (r ∷ []) in
    let b = also-both (succeeds o n).value (survives k s f rows r more) (succeeds o n).notes h in
    (succeeds-same o clean n ∙ b.0, alive-tests k s f rows r more (succeeds o n).notes b.1)
