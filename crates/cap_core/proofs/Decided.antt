-- Where no decision passes a limit, what the decisions leave is a core.
use Rattle.std.proofs.Common.{◌≡◌, ◌∙◌, ap, sym, refl, subst, append_assoc, inl, inr, Bool, true, false, List, [], ◌∷◌, ◌++◌, Option, Some, None}
use Rattle.std.specs.Prelude.{is_some}
use Rattle.cap_farkas.specs.declared.cert.Cert.{Cert}
use Rattle.cap_farkas.proofs.Sound.{refuted-excludes, excluded-infeasible}
use Rattle.cap_fm_spec.specs.Events.{Event, Limit, first_limit}
use Rattle.cap_fm_spec.specs.Solving.{RowsAscend, solved}
use Rattle.cap_fm_spec.proofs.Lists.{each-left, each-right, each-join}
use Rattle.cap_fm_spec.proofs.Certified.{certified}
use Rattle.cap_fm_spec.proofs.Solved.{solved-feasible}
use Rattle.cap_fm_elimination.proofs.Runs.{limit-later, limit-earlier}
use Rattle.cap_core.specs.Core.{Numbered, numbered_from, rows_of, numbers_of, Leaves}
use Rattle.cap_core.specs.Deciding.{stays_unless, core_from, DecidedAreCores}
use Rattle.cap_core.proofs.Needed.{rows-join, rows-numbered}

-- ---- limits

first-within : (es fs : List Event) → first_limit (es ++ fs) ≡ None → first_limit es ≡ None
first-within es fs n = by (first_limit es) refl
  where
    by : (l : Option Limit) → first_limit es ≡ l → l ≡ None
    by None e = refl
    by (Some l) e = let m = limit-earlier es fs l e in cc

rest-within : (es fs : List Event) → first_limit (es ++ fs) ≡ None → first_limit fs ≡ None
rest-within es fs n = sym (limit-later es fs (first-within es fs n)) ∙ n

-- ---- rows that ascend

abbrev Ascend : List Numbered → Type 0
Ascend ns = RowsAscend (rows_of ns)

ascend-without : (stay later : List Numbered) (n : Numbered) → Ascend (stay ++ n ∷ later) → Ascend (stay ++ later)
ascend-without stay later n a =
    let b = subst RowsAscend (rows-join stay (n ∷ later)) a in
    subst RowsAscend (sym (rows-join stay later))
    (each-join _ (rows_of stay) (rows_of later) (each-left _ (rows_of stay) (rows_of (n ∷ later)) b)
    (each-right _ (rows_of stay) (rows_of (n ∷ later)) b).1)

ascend-on : (found : Bool) (stay later : List Numbered) (n : Numbered) → Ascend (stay ++ n ∷ later) → Ascend (stays_unless found stay n ++ later)
ascend-on true stay later n a = ascend-without stay later n a
ascend-on false stay later n a = subst Ascend (sym (append_assoc stay (n ∷ []) later)) a

-- ---- the walk

record Left (stay later : List Numbered) : Type 0 where
  core : List Numbered
  leaves : Leaves stay later core
  numbers : (core_from stay later).value ≡ numbers_of core

left-by :
    (stay later : List Numbered) (n : Numbered) (found : Option Cert) → (solved (rows_of (stay ++ later))).value ≡ found →
    Ascend (stay ++ later) → first_limit (solved (rows_of (stay ++ later))).events ≡ None →
    Left (stays_unless (is_some found) stay n) later → Left stay (n ∷ later)
unfolding core_from
left-by stay later n (Some c) e a w l =
    let rows = rows_of (stay ++ later) in
    record {
      core = l.core;
      leaves = inl (excluded-infeasible rows c (refuted-excludes rows c (certified rows c a e w)), l.leaves);
      numbers = ap (λ o. (core_from (stays_unless (is_some o) stay n) later).value) e ∙ l.numbers;
    }
left-by stay later n None e a w l =
    record {
      core = l.core;
      leaves = inr (solved-feasible (rows_of (stay ++ later)) a e, l.leaves);
      numbers = ap (λ o. (core_from (stays_unless (is_some o) stay n) later).value) e ∙ l.numbers;
    }

left-of : (stay later : List Numbered) → Ascend (stay ++ later) → first_limit (core_from stay later).events ≡ None → Left stay later
unfolding core_from
left-of stay [] a w = record { core = stay; leaves = refl; numbers = refl }
left-of stay (n ∷ later) a w =
    let s = solved (rows_of (stay ++ later)) in
    let rest = core_from (stays_unless (is_some s.value) stay n) later in
    left-by stay later n s.value refl (ascend-without stay later n a) (first-within s.events rest.events w)
    (left-of (stays_unless (is_some s.value) stay n) later (ascend-on (is_some s.value) stay later n a)
    (rest-within s.events rest.events w))

pub decided-are-cores : DecidedAreCores
decided-are-cores rows a w =
    let l = left-of [] (numbered_from 0 rows) (subst RowsAscend (sym (rows-numbered 0 rows)) a) w in
    record { core = l.core; leaves = l.leaves; whole = l.numbers }
