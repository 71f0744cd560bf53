-- What calls decide and note.
use Rattle.std.specs.Prelude.{◌≡◌, Bool, is_some, true, List, [], ◌∷◌, option_map, Option, Result, IfOk}
use Rattle.std.specs.declared.alloc.AllocError.{AllocError}
use Rattle.std.specs.Global.{Vec}
use Rattle.cap_lin.specs.declared.row.Row.{Row}
use Rattle.cap_farkas.specs.declared.cert.Cert.{Cert}
use Rattle.cap_fm_spec.specs.Events.{wide}
use Rattle.cap_rules_steps.specs.declared.error.RuleError.{RuleError}
use Rattle.cap_rules_steps.specs.declared.error.RuleError.TheVariants.{NotApplicable, Wide, OutOfMemory}
use Rattle.cap_offer_spec.specs.Deciding.{PlainNotes, with_note, Noted, done, ◌>>=◌, decided}
use Rattle.cap_offer_spec.specs.Closures.{and_also}

-- the value, and the notes after the call, are what is decided and noted from the notes before it
-- on
abbrev pub Adds : {A : Type 0} → PlainNotes → PlainNotes → A → Noted A → Type 0
Adds before after x m = (x ≡ (m before).value) × (after ≡ (m before).notes)

-- a failure is noted where a result leaves 128 bits; want of memory is handed on
abbrev pub IsFailure : RuleError → PlainNotes → PlainNotes → Result (Unit {0}) AllocError → Type 0
IsFailure NotApplicable before after r = IfOk r (λ x. after ≡ before)
IsFailure (Wide a b) before after r = IfOk r (λ x. after ≡ with_note before (wide a b))
IsFailure OutOfMemory before after r = IfOk r (λ x. ⊥)

abbrev pub certs_seen : Option (Vec Cert) → Option (List Cert)
certs_seen o = option_map (λ cs. cs.items) o

abbrev pub is_refuted : List Row → Noted Bool
is_refuted rows = do
  c ← decided rows
  done (is_some c)

-- each list is refuted, up to the first that isn't
unfoldable pub refuted_all : List (List Row) → Noted Bool
refuted_all [] = done true
refuted_all (rows ∷ more) = do
  b ← is_refuted rows
  and_also b (refuted_all more)
