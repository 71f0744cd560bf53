-- A choice has subgoals at a goal, or none.
use Rattle.std.proofs.Common.{◌≡◌, ◌⊎◌, inl, inr, ℤ, List, [], ◌∷◌, Option, Some, None, refl}
use Rattle.cap_lin.specs.Steps.{first_wide}
use Rattle.cap_lin.specs.declared.row.Row.{Row}
use Rattle.cap_farkas.specs.declared.cert.Cert.{Cert}
use Rattle.cap_farkas.specs.Refutes.{Refutes}
use Rattle.cap_prog.specs.Program.{PlainProgram}
use Rattle.cap_goal_spec.specs.States.{PlainGoal}
use Rattle.cap_goal_spec.specs.Choices.{PlainChoice, certs_of}
use Rattle.cap_rules.specs.Attempts.{owed, Event, makes, claims, Attempt}
use Rattle.cap_rules.specs.Answers.{Answer, applies, inapplicable, too_wide, marks_of, Ending, passed, refused, stopped, Refuting, Within, Ends, answer_at, Answers, IsAnswer, Subgoals}
use Rattle.cap_rules.specs.Laws.{AnswersAreOne}
use Rattle.cap_rules.specs.Rules.{rule}
use Rattle.cap_top_laws.proofs.Certificates.{EitherWay, refutes-or-not}

-- ---- events have an end

abbrev HaveEnd : List Event → List Cert → Type 0
HaveEnd es cs = (end : Ending) × Ends es cs end

refuting-ends : (es : List Event) → ((rest : List Cert) → HaveEnd es rest) → (ls : List (List Row)) (cs : List Cert)
    → (end : Ending) × Refuting ls cs (λ rest. Ends es rest end) (end ≡ refused)
refuting-ends es more [] cs = more cs
refuting-ends es more (rows ∷ ls) [] = (refused, refl)
refuting-ends es more (rows ∷ ls) (c ∷ cs) = by (refuting-ends es more ls cs) (refutes-or-not rows c)
  where
    by : ((end : Ending) × Refuting ls cs (λ rest. Ends es rest end) (end ≡ refused)) → EitherWay (Refutes rows c)
        → (end : Ending) × Refuting (rows ∷ ls) (c ∷ cs) (λ rest. Ends es rest end) (end ≡ refused)
    by r (inl y) = (r.0, inl (y, r.1))
    by r (inr n) = (refused, inr (n, refl))

within-ends : (o : Option (ℤ × ℤ)) (es : List Event) (cs : List Cert) → HaveEnd es cs
    → (end : Ending) × Within o (Ends es cs end) (λ a b. end ≡ stopped a b)
within-ends None es cs h = h
within-ends (Some w) es cs h = (stopped w.0 w.1, refl)

have-end : (es : List Event) (cs : List Cert) → HaveEnd es cs
have-end [] cs = (passed cs, refl)
have-end (makes x ∷ es) cs = within-ends (first_wide (x ∷ [])) es cs (have-end es cs)
have-end (claims c ∷ es) cs = refuting-ends es (have-end es) (owed c) cs

-- ---- a choice has an answer

answers : {A : Type 0} (o : Attempt A) (cs : List Cert) → (a : Answer A) × Answers o cs a
answers o cs = let h = have-end o.events cs in (answer_at o.value h.0, (h.0, h.1, refl))

abbrev pub SubgoalsOrNone : PlainProgram → PlainGoal → PlainChoice → Type 0
SubgoalsOrNone p g c =
    ((gs : List PlainGoal) × Subgoals p g c gs) ⊎ ((gs : List PlainGoal) → ¬ Subgoals p g c gs)

not-applied : (gs : List PlainGoal) → applies gs ≡ inapplicable → ⊥
not-applied gs e = cc

not-wide : (gs : List PlainGoal) (a b : ℤ) → applies gs ≡ too_wide a b → ⊥
not-wide gs a b e = cc

pub subgoals-or-none : AnswersAreOne → (p : PlainProgram) (g : PlainGoal) (c : PlainChoice) → SubgoalsOrNone p g c
subgoals-or-none one p g c = let h = answers (rule p g c (marks_of c)) (certs_of c) in by h.0 h.1
  where
    by : (a : Answer (List PlainGoal)) → IsAnswer p g c a → SubgoalsOrNone p g c
    by (applies gs) h = inl (gs, h)
    by inapplicable h = inr (λ gs s. not-applied gs (one p g c (applies gs) inapplicable s h))
    by (too_wide a b) h = inr (λ gs s. not-wide gs a b (one p g c (applies gs) (too_wide a b) s h))
