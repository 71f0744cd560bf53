-- What the solver decides, and what is noted on the way: a decision or a term that passes a limit.
use Rattle.std.specs.Prelude.{ℤ, Bool, true, false, is_some, List, [], ◌∷◌, option_map, Option, Some, None}
use Rattle.cap_lin.specs.declared.row.Row.{Row}
use Rattle.cap_farkas.specs.declared.cert.Cert.{Cert}
use Rattle.cap_fm_spec.specs.Events.{Limit, wide, many, first_limit}
use Rattle.cap_fm_spec.specs.Solving.{Logged, solved}
use Rattle.cap_rules.specs.Attempts.{Attempt}
use Rattle.cap_rules.specs.Answers.{Answer, applies, inapplicable, too_wide, proofs_of}

-- ---- notes

-- the operands of the first result that leaves 128 bits, and whether some elimination had a row too
-- many
pub record PlainNotes : Type 0 where
  pub wide : Option (ℤ × ℤ)
  pub rows : Bool

abbrev pub clean : PlainNotes
clean = record { wide = None; rows = false }

abbrev pub or_first : Option (ℤ × ℤ) → ℤ × ℤ → Option (ℤ × ℤ)
or_first None p = Some p
or_first (Some q) p = Some q

abbrev pub with_note : PlainNotes → Limit → PlainNotes
with_note n (wide a b) = record n { wide = or_first n.wide (a, b) }
with_note n many = record n { rows = true }

-- a value, and the notes so far
pub record Outcome (A : Type 0) : Type 0 where
  pub value : A
  pub notes : PlainNotes

-- what is decided and noted, from the notes so far on
abbrev pub Noted : Type 0 → Type 0
Noted A = PlainNotes → Outcome A

abbrev pub done : {A : Type 0} → A → Noted A
done x n = record { value = x; notes = n }

abbrev pub note : Limit → Noted (Unit {0})
note l n = record { value = tt; notes = with_note n l }

infixl 20 ◌>>=◌
abbrev pub ◌>>=◌ : {A B : Type 0} → Noted A → (A → Noted B) → Noted B
(m >>= f) n = f (m n).value (m n).notes

-- ---- decisions

-- what passes a limit is noted, and counts as not proved
abbrev pub decision : Option Limit → Option Cert → Noted (Option Cert)
decision None c = done c
decision (Some l) c = do
  _ ← note l
  done None

abbrev pub decision_of : Logged (Option Cert) → Noted (Option Cert)
decision_of l = decision (first_limit l.events) l.value

-- the certificate that elimination finds of the rows
unfoldable pub decided : List Row → Noted (Option Cert)
decided rows = decision_of (solved rows)

abbrev pub and_then : Option Cert → Noted (Option (List Cert)) → Noted (Option (List Cert))
and_then None rest = done None
and_then (Some c) rest = do
  cs ← rest
  done (option_map (λ ds. c ∷ ds) cs)

-- a certificate for each list, in order, up to the first that has none
unfoldable pub decided_all : List (List Row) → Noted (Option (List Cert))
decided_all [] = done (Some [])
decided_all (rows ∷ more) = do
  c ← decided rows
  and_then c (decided_all more)

-- a certificate or none for each list
unfoldable pub decided_each : List (List Row) → Noted (List (Option Cert))
decided_each [] = done []
decided_each (rows ∷ more) = do
  c ← decided rows
  cs ← decided_each more
  done (c ∷ cs)

-- terms and conditions come first, and then the proofs
abbrev pub certified_by : Answer (List (List Row)) → Noted (Option (List Cert))
certified_by (applies ls) = decided_all ls
certified_by inapplicable = done None
certified_by (too_wide a b) = do
  _ ← note (wide a b)
  done None

-- certificates for all that the attempt has to prove
unfoldable pub certified : {A : Type 0} → Attempt A → Noted (Option (List Cert))
certified o = certified_by (proofs_of o)

abbrev pub succeeds : {A : Type 0} → Attempt A → Noted Bool
succeeds o = do
  cs ← certified o
  done (is_some cs)
