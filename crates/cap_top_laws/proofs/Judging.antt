-- Choices in preorder are judged in some way.
use Rattle.std.proofs.Common.{◌≡◌, ◌⊎◌, inl, inr, ℕ, suc, ◌<◌, ◌≤◌, arith, List, [], ◌∷◌, ◌++◌, length, map, Option, Some, None, Result, Ok, Err, refl, ap}
use Rattle.std.proofs.lemmas.Bool.{cases_lt, cases_eq}
use Rattle.cap_prog.specs.Program.{PlainProgram}
use Rattle.cap_goal_spec.specs.States.{PlainGoal}
use Rattle.cap_goal_spec.specs.Choices.{PlainChoice}
use Rattle.cap_goal_spec.specs.Roots.{all_roots}
use Rattle.cap_rules.specs.Laws.{AnswersAreOne}
use Rattle.cap_rules.specs.Valid.{deepest}
use Rattle.cap_top_commands.specs.cap_kernel_check_steps.declared.error.CheckError.{CheckError}
use Rattle.cap_top_commands.specs.cap_kernel_check_steps.declared.error.CheckError.TheVariants.{Node, Shape}
use Rattle.cap_top_commands.specs.cap_kernel_check_steps.Starts.{starts}
use Rattle.cap_top_commands.specs.cap_kernel_check_steps.Owed.{PlainDebt, owes, debts_of, PaysAt, Replaces, OwedFrom, FailsNext, MisfitsNext}
use Rattle.cap_top_commands.specs.cap_kernel_check_steps.Judges.{Judged}
use Rattle.cap_top_laws.proofs.Subgoals.{SubgoalsOrNone, subgoals-or-none}

-- ---- a choice pays what is owed first, or it doesn't

abbrev PaysOrNot : PlainProgram → ℕ → Option PlainGoal → PlainChoice → Type 0
PaysOrNot p n o c =
    ((gs : List PlainGoal) × PaysAt p n o c gs) ⊎ ((gs : List PlainGoal) → ¬ PaysAt p n o c gs)

pays-or-not : AnswersAreOne → (p : PlainProgram) (n : ℕ) (o : Option PlainGoal) (c : PlainChoice) → PaysOrNot p n o c
pays-or-not one p n None c = inr (λ gs h. h)
pays-or-not one p n (Some g) c = by (cases_lt n deepest) (subgoals-or-none one p g c)
  where
    by : (n < deepest) ⊎ (deepest ≤ n) → SubgoalsOrNone p g c → PaysOrNot p n (Some g) c
    by (inl l) (inl s) = inl (s.0, (l, s.1))
    by (inl l) (inr never) = inr (λ gs h. never gs h.1)
    by (inr l) s = inr (λ gs h. let k : n < deepest = h.0 in absurd (omega arith))

-- ---- how far choices go

-- so many choices are passed, and then it is so of what is owed and of the choices that remain
record Stops (p : PlainProgram) (ds : List PlainDebt) (cs : List PlainChoice)
    (P : List PlainDebt → List PlainChoice → Type 0) : Type 0 where
  passed : List PlainChoice
  rest : List PlainChoice
  owed : List PlainDebt
  parts : cs ≡ passed ++ rest
  follows : OwedFrom p ds passed owed
  stops : P owed rest

-- nothing is owed after the choices, or one fails, or they don't fit
abbrev Goes : PlainProgram → List PlainDebt → List PlainChoice → Type 0
Goes p ds cs = OwedFrom p ds cs [] ⊎ (Stops p ds cs (FailsNext p) ⊎ Stops p ds cs MisfitsNext)

stops-here : (p : PlainProgram) (ds : List PlainDebt) (cs : List PlainChoice) (P : List PlainDebt → List PlainChoice → Type 0)
    → P ds cs → Stops p ds cs P
stops-here p ds cs P h = record { passed = []; rest = cs; owed = ds; parts = refl; follows = refl; stops = h }

stops-later : (p : PlainProgram) (ds next : List PlainDebt) (c : PlainChoice) (cs : List PlainChoice)
    (P : List PlainDebt → List PlainChoice → Type 0) → Replaces p c ds next → Stops p next cs P → Stops p ds (c ∷ cs) P
stops-later p ds next c cs P r s = record {
  passed = c ∷ s.passed;
  rest = s.rest;
  owed = s.owed;
  parts = ap (λ xs. c ∷ xs) s.parts;
  follows = (next, r, s.follows);
  stops = s.stops;
}

goes-on : (p : PlainProgram) (ds next : List PlainDebt) (c : PlainChoice) (cs : List PlainChoice)
    → Replaces p c ds next → Goes p next cs → Goes p ds (c ∷ cs)
goes-on p ds next c cs r (inl h) = inl (next, r, h)
goes-on p ds next c cs r (inr (inl s)) = inr (inl (stops-later p ds next c cs (FailsNext p) r s))
goes-on p ds next c cs r (inr (inr s)) = inr (inr (stops-later p ds next c cs MisfitsNext r s))

-- where none is left
none-left : (p : PlainProgram) (d : PlainDebt) (ds : List PlainDebt) (o : Option PlainGoal) → d.goal ≡ o → Goes p (d ∷ ds) []
none-left p d ds None e = inr (inl (stops-here p (d ∷ ds) [] (FailsNext p) e))
none-left p d ds (Some g) e =
    inr (inr (stops-here p (d ∷ ds) [] MisfitsNext (λ n. some-none g d.goal e n)))
  where
    some-none : (g : PlainGoal) (o : Option PlainGoal) → o ≡ Some g → o ≡ None → ⊥
    some-none g None f n = cc
    some-none g (Some h) f n = cc

goes : AnswersAreOne → (p : PlainProgram) (ds : List PlainDebt) (cs : List PlainChoice) → Goes p ds cs
goes one p [] [] = inl refl
goes one p [] (c ∷ cs) = inr (inr (stops-here p [] (c ∷ cs) MisfitsNext tt))
goes one p (d ∷ ds) [] = none-left p d ds d.goal refl
goes one p (d ∷ ds) (c ∷ cs) = by (λ next. goes one p next cs) (pays-or-not one p d.above d.goal c)
  where
    by : ((next : List PlainDebt) → Goes p next cs) → PaysOrNot p d.above d.goal c → Goes p (d ∷ ds) (c ∷ cs)
    by more (inl k) =
        let next : List PlainDebt = map (owes (suc d.above)) k.0 ++ ds in
        goes-on p (d ∷ ds) next c cs (k.0, k.1, refl) (more next)
    by more (inr never) = inr (inl (stops-here p (d ∷ ds) (c ∷ cs) (FailsNext p) never))

pub judged-somehow : AnswersAreOne → (p : PlainProgram) (trees : ℕ) (cs : List PlainChoice)
    → (answer : Result ℕ CheckError) × Judged p trees cs answer
judged-somehow one p trees cs = by (cases_eq trees (length (all_roots p))) (goes one p (debts_of (starts p)) cs)
  where
    by : (trees ≡ length (all_roots p)) ⊎ (trees ≡ length (all_roots p) → ⊥) → Goes p (debts_of (starts p)) cs
        → (answer : Result ℕ CheckError) × Judged p trees cs answer
    by (inr n) g = (Err (Shape 1), inl (refl, n))
    by (inl e) (inl h) = (Ok (length cs), (e, h, refl))
    by (inl e) (inr (inl s)) = (
      Err (Node (suc (length s.passed))),
      (e, record { passed = s.passed; rest = s.rest; owed = s.owed; parts = s.parts; number = refl; follows = s.follows; stops = s.stops }),
    )
    by (inl e) (inr (inr s)) = (
      Err (Shape (suc (length s.passed))),
      inr (e, record { passed = s.passed; rest = s.rest; owed = s.owed; parts = s.parts; number = refl; follows = s.follows; stops = s.stops }),
    )
