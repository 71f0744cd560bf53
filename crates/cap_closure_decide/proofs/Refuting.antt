-- To prove a row is to refute the rows with each of its negations behind them.
use Rattle.std.proofs.Common.{◌≡◌, ℤ, List, [], ◌∷◌, ◌++◌, map, Bool, false, Option, Some, None, refl, sym, ap, ◌∙◌, append-nil}
use Rattle.std.specs.Prelude.{is_some, option_map, Result, Ok, Err, IfOk}
use Rattle.std.specs.declared.alloc.AllocError.{AllocError}
use Rattle.cap_lin.specs.Steps.{Step, first_wide}
use Rattle.cap_lin.specs.Rows.{negations, negations_steps}
use Rattle.cap_lin.specs.declared.row.Row.{Row}
use Rattle.cap_farkas.specs.declared.cert.Cert.{Cert}
use Rattle.cap_rules.specs.Attempts.{Claim, proved, owed, makes, claims, Attempt, prove}
use Rattle.cap_lin.specs.Exact.{Explains}
use Rattle.cap_lin.specs.declared.error.LinError.{LinError}
use Rattle.cap_lin.specs.declared.error.LinError.TheVariants as lin
use Rattle.cap_rules_steps.specs.Errors.{rule_error}
use Rattle.cap_rules_steps.specs.Judging.{IsTold}
use Rattle.cap_rules_steps.specs.declared.error.RuleError.{RuleError}
use Rattle.cap_rules_steps.specs.declared.error.RuleError.TheVariants.{NotApplicable, Wide, OutOfMemory}
use Rattle.cap_rules.specs.Answers.{Answer, applies, too_wide, steps_of, claims_of, proofs_of}
use Rattle.cap_rules_steps.specs.Places.{ended_by}
use Rattle.cap_offer_spec.specs.Closures.{and_also}
use Rattle.cap_offer_spec.specs.Deciding.{PlainNotes, Outcome, Noted, decided, and_then, decided_all, certified_by, certified, succeeds}
use Rattle.cap_closure_decide.specs.Noting.{Adds, IsFailure, refuted_all}

-- certificates in front of others
abbrev pub in_front : List Cert → Option (List Cert) → Option (List Cert)
in_front cs None = None
in_front cs (Some ds) = Some (cs ++ ds)

-- whether there are certificates
abbrev asked : Outcome (Option (List Cert)) → Outcome Bool
asked o = record { value = is_some o.value; notes = o.notes }

one-asked : (c : Option Cert) (n : PlainNotes) (more : List (List Row)) → refuted_all more n ≡ asked (decided_all more n) → and_also (is_some c) (refuted_all more) n ≡ asked (and_then c (decided_all more) n)
one-asked None n more e = refl
one-asked (Some c) n more e = e ∙ ap (λ b. record { value = b; notes = (decided_all more n).notes }) (same (decided_all more n).value)
  where
    same : (o : Option (List Cert)) → is_some o ≡ is_some (option_map (λ ds. c ∷ ds) o)
    same None = refl
    same (Some cs) = refl

all-asked : (ls : List (List Row)) (n : PlainNotes) → refuted_all ls n ≡ asked (decided_all ls n)
unfolding refuted_all decided_all
all-asked [] n = refl
all-asked (rows ∷ more) n = one-asked (decided rows n).value (decided rows n).notes more (all-asked more (decided rows n).notes)

-- ---- what is owed for a row

steps-made : (steps : List Step) (c : Claim) → steps_of (map makes steps ++ (claims c ∷ [])) ≡ steps
steps-made [] c = refl
steps-made (x ∷ steps) c = ap (λ xs. x ∷ xs) (steps-made steps c)

claims-made : (steps : List Step) (c : Claim) → claims_of (map makes steps ++ (claims c ∷ [])) ≡ c ∷ []
claims-made [] c = refl
claims-made (x ∷ steps) c = claims-made steps c

proofs-narrow : (rows : List Row) (r : Row) → first_wide (negations_steps r) ≡ None → proofs_of (prove rows r) ≡ applies (map (ended_by rows) (negations r))
proofs-narrow rows r e =
    rw (steps-made (negations_steps r) (proved rows r), e, claims-made (negations_steps r) (proved rows r), append-nil (owed (proved rows r))) refl

proofs-wide : (rows : List Row) (r : Row) (a b : ℤ) → first_wide (negations_steps r) ≡ Some (a, b) → proofs_of (prove rows r) ≡ too_wide a b
proofs-wide rows r a b e = rw (steps-made (negations_steps r) (proved rows r), e) refl

pub proves-narrow : (rows : List Row) (r : Row) (n : PlainNotes) → first_wide (negations_steps r) ≡ None → succeeds (prove rows r) n ≡ refuted_all (map (ended_by rows) (negations r)) n
unfolding certified
proves-narrow rows r n e = ap (λ a. asked (certified_by a n)) (proofs-narrow rows r e) ∙ sym (all-asked (map (ended_by rows) (negations r)) n)

pub proves-told : (e : LinError) (rows : List Row) (r : Row) → Explains e (negations_steps r) → IsTold (Err (rule_error e)) (proofs_of (prove rows r))
proves-told (lin.Wide a b) rows r h = proofs-wide rows r a b h
proves-told lin.OutOfMemory rows r h = tt

pub adds-same : (r : Result Bool AllocError) (n m : PlainNotes) (p q : Noted Bool) → p n ≡ q n → IfOk r (λ yes. Adds n m yes p) → IfOk r (λ yes. Adds n m yes q)
adds-same (Ok b) n m p q e h = (h.0 ∙ ap (λ (o : Outcome Bool). o.value) e, h.1 ∙ ap (λ (o : Outcome Bool). o.notes) e)
adds-same (Err a) n m p q e h = tt

-- ---- failures

pub failure-certifies : (e : RuleError) (a : Answer (List (List Row))) (n m : PlainNotes) → IsTold (Err e) a → IsFailure e n m (Ok tt) → Adds n m None (certified_by a)
failure-certifies NotApplicable a n m t h = rw t (refl, h)
failure-certifies (Wide x y) a n m t h = rw t (refl, h)
failure-certifies OutOfMemory a n m t h = absurd h

pub failure-fails : {A : Type 0} (e : RuleError) (o : Attempt A) (n m : PlainNotes) → IsTold (Err e) (proofs_of o) → IsFailure e n m (Ok tt) → Adds n m false (succeeds o)
unfolding certified
failure-fails e o n m t h = let c = failure-certifies e (proofs_of o) n m t h in (ap is_some c.0, c.1)
