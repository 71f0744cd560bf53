-- A core is needed as a whole.
use Rattle.std.proofs.Common.{◌≡◌, inl, inr, ℕ, suc, List, [], ◌∷◌, ◌++◌, map, length, Some, refl, sym, ap, subst, ◌∙◌, append_assoc}
use Rattle.std.proofs.lemmas.List.{append-nil}
use Rattle.std.specs.Prelude.{slice_get}
use Rattle.std.specs.List.{AllByRecursion}
use Rattle.cap_lin.specs.Solves.{Infeasible}
use Rattle.cap_lin.specs.declared.row.Row.{Row}
use Rattle.cap_farkas.proofs.Sound.{refuted-excludes, excluded-infeasible}
use Rattle.cap_offer_spec.specs.Members.{IsOneOf}
use Rattle.cap_closure_laws.proofs.Fewer.{AreIn, in-self, in-more, in-both, all-join, infeasible-more}
use Rattle.cap_core.specs.Core.{Numbered, numbered_from, rows_of, Leaves, AreNeeded, StandsIn, CoresAreIrreducible}

abbrev Excluded : List Numbered → Type 0
Excluded ns = Infeasible (rows_of ns)

-- ---- more rows

one-map : {X Y : Type 0} (f : X → Y) (xs : List X) (x : X) → IsOneOf xs x → IsOneOf (map f xs) (f x)
one-map f [] x h = absurd h
one-map f (y ∷ xs) x (inl e) = inl (ap f e)
one-map f (y ∷ xs) x (inr m) = inr (one-map f xs x m)

in-map : {X Y : Type 0} (f : X → Y) (xs ys : List X) → AreIn xs ys → AreIn (map f xs) (map f ys)
in-map f [] ys h = tt
in-map f (x ∷ xs) ys h = (one-map f ys x h.0, in-map f xs ys h.1)

with-more : (xs ys : List Numbered) → AreIn xs ys → Excluded xs → Excluded ys
with-more xs ys h i = infeasible-more (rows_of xs) (rows_of ys) (in-map (λ n. n.1) xs ys h) i

in-with : {X : Type 0} (xs ys : List X) (x : X) → AreIn (xs ++ ys) (xs ++ x ∷ ys)
in-with xs ys x = in-both xs ys xs (x ∷ ys) (in-self xs) (in-more x ys ys (in-self ys))

-- ---- what is needed among rows that are still to be tried

-- none of the second rows can be left out from between the others
abbrev Needs : List Numbered → List Numbered → List Numbered → Type 0
Needs before [] later = Unit {0}
Needs before (x ∷ more) later =
    (¬ Excluded (before ++ (more ++ later))) × Needs (before ++ x ∷ []) more later

-- the fewer others there are, the more is needed
needs-less : (before more later : List Numbered) (n : Numbered) → Needs before more (n ∷ later) → Needs before more later
needs-less before [] later n h = tt
needs-less before (x ∷ more) later n h = (
  λ i. h.0 (with-more (before ++ (more ++ later)) (before ++ (more ++ n ∷ later))
      (in-both before (more ++ later) before (more ++ n ∷ later) (in-self before) (in-with more later n)) i),
  needs-less (before ++ x ∷ []) more later n h.1,
)

needs-push :
    (before more later : List Numbered) (n : Numbered) → Needs before more (n ∷ later) →
    (¬ Excluded (before ++ (more ++ later))) → Needs before (more ++ n ∷ []) later
needs-push before [] later n h i = (i, tt)
needs-push before (x ∷ more) later n h i = (
  subst (λ l. ¬ Excluded (before ++ l)) (sym (append_assoc more (n ∷ []) later)) h.0,
  needs-push (before ++ x ∷ []) more later n h.1
      (subst (λ l. ¬ Excluded l) (sym (append_assoc before (x ∷ []) (more ++ later))) i),
)

leaves-needed :
    (stay later core : List Numbered) → Leaves stay later core → Excluded (stay ++ later) →
    Needs [] stay later → Excluded core × Needs [] core []
leaves-needed stay [] core e i n = (subst Excluded (append-nil stay ∙ sym e) i, subst (λ l. Needs [] l []) (sym e) n)
leaves-needed stay (x ∷ later) core (inl h) i n = leaves-needed stay later core h.1 h.0 (needs-less [] stay later x n)
leaves-needed stay (x ∷ later) core (inr h) i n =
    leaves-needed (stay ++ x ∷ []) later core h.1
    (subst Excluded (sym (append_assoc stay (x ∷ []) later)) i) (needs-push [] stay later x n h.0)

pub rows-join : (xs ys : List Numbered) → rows_of (xs ++ ys) ≡ rows_of xs ++ rows_of ys
rows-join [] ys = refl
rows-join (x ∷ xs) ys = ap (λ l. x.1 ∷ l) (rows-join xs ys)

are-needed : (before more : List Numbered) → Needs before more [] → AreNeeded (rows_of before) (rows_of more)
are-needed before [] h = tt
are-needed before (x ∷ more) h = (
  feasible,
  (λ c r. feasible (excluded-infeasible (rows_of before ++ rows_of more) c
      (refuted-excludes (rows_of before ++ rows_of more) c r))),
  subst (λ l. AreNeeded l (rows_of more)) (rows-join before (x ∷ [])) (are-needed (before ++ x ∷ []) more h.1),
)
  where
    feasible : ¬ Infeasible (rows_of before ++ rows_of more)
    feasible i = h.0 (subst Infeasible (sym (rows-join before more) ∙ ap (λ l. rows_of (before ++ l)) (sym (append-nil more))) i)

-- ---- numbers

here : (before : List Row) (r : Row) (rows : List Row) → slice_get (before ++ r ∷ rows) (length before) ≡ Some r
here [] r rows = refl
here (x ∷ before) r rows = here before r rows

length-push : (before : List Row) (r : Row) → length (before ++ r ∷ []) ≡ suc (length before)
length-push [] r = refl
length-push (x ∷ before) r = ap suc (length-push before r)

stand-all : (before rows : List Row) → AllByRecursion (StandsIn (before ++ rows)) (numbered_from (length before) rows)
stand-all before [] = tt
stand-all before (r ∷ rows) = (
  here before r rows,
  subst (λ l. AllByRecursion (StandsIn l) (numbered_from (suc (length before)) rows)) (append_assoc before (r ∷ []) rows)
      (subst (λ n. AllByRecursion (StandsIn ((before ++ r ∷ []) ++ rows)) (numbered_from n rows)) (length-push before r)
      (stand-all (before ++ r ∷ []) rows)),
)

leaves-all :
    (P : Numbered → Type 0) (stay later core : List Numbered) → Leaves stay later core →
    AllByRecursion P stay → AllByRecursion P later → AllByRecursion P core
leaves-all P stay [] core e h k = subst (AllByRecursion P) (sym e) h
leaves-all P stay (x ∷ later) core (inl m) h k = leaves-all P stay later core m.1 h k.1
leaves-all P stay (x ∷ later) core (inr m) h k =
    leaves-all P (stay ++ x ∷ []) later core m.1 (all-join P stay (x ∷ []) h (k.0, tt)) k.1

pub rows-numbered : (i : ℕ) (rows : List Row) → rows_of (numbered_from i rows) ≡ rows
rows-numbered i [] = refl
rows-numbered i (r ∷ rows) = ap (λ l. r ∷ l) (rows-numbered (suc i) rows)

pub cores-are-irreducible : CoresAreIrreducible
cores-are-irreducible rows numbers i c =
    let all = numbered_from 0 rows in
    let m = leaves-needed [] all c.core c.leaves (subst Infeasible (sym (rows-numbered 0 rows)) i) tt in
    record {
      core = c.core;
      whole = c.whole;
      stand = leaves-all (StandsIn rows) [] all c.core c.leaves tt (stand-all [] rows);
      infeasible = m.0;
      needed = are-needed [] c.core m.1;
    }
