-- What certificates make of the lists of rows that are owed.
use Rattle.std.specs.Prelude.{◌≡◌, ◌⊎◌, Bool, true, false, List, [], ◌∷◌, map, Result, Ok, Err}
use Rattle.std.specs.Global.{Vec}
use Rattle.cap_lin.specs.declared.row.Row.{Row}
use Rattle.cap_farkas.specs.declared.cert.Cert.{Cert}
use Rattle.cap_farkas.specs.Refutes.{Refutes}
use Rattle.cap_rules.specs.Attempts.{Attempt}
use Rattle.cap_rules.specs.Answers.{Answer, applies, inapplicable, too_wide, Answers}
use Rattle.cap_rules_steps.specs.declared.error.RuleError.{RuleError}
use Rattle.cap_rules_steps.specs.declared.error.RuleError.TheVariants.{NotApplicable, Wide, OutOfMemory}

-- the first certificates refute the lists, one each
abbrev pub Refuted : List (List Row) → List Cert → Type 0
Refuted [] cs = Unit {0}
Refuted (rows ∷ ls) [] = ⊥
Refuted (rows ∷ ls) (c ∷ cs) = Refutes rows c × Refuted ls cs

-- up to one that they don't refute, or for which there is none
abbrev pub RefutedNot : List (List Row) → List Cert → Type 0
RefutedNot [] cs = ⊥
RefutedNot (rows ∷ ls) [] = Unit {0}
RefutedNot (rows ∷ ls) (c ∷ cs) = (Refutes rows c × RefutedNot ls cs) ⊎ (¬ Refutes rows c)

-- the call answers what the attempt answers to these certificates; want of memory may come in
-- either case
abbrev pub Answered : {A : Type 0} → Result A RuleError → Attempt A → List Cert → Type 0
Answered (Ok x) o certs = Answers o certs (applies x)
Answered (Err NotApplicable) o certs = Answers o certs inapplicable
Answered (Err (Wide a b)) o certs = Answers o certs (too_wide a b)
Answered (Err OutOfMemory) o certs = Unit {0}

-- the call gives the answer
abbrev pub IsTold : {A : Type 0} → Result A RuleError → Answer A → Type 0
IsTold (Ok x) answer = answer ≡ applies x
IsTold (Err NotApplicable) answer = answer ≡ inapplicable
IsTold (Err (Wide a b)) answer = answer ≡ too_wide a b
IsTold (Err OutOfMemory) answer = Unit {0}

-- a failure after claims of which not all are refuted
abbrev pub refused_error : RuleError → RuleError
refused_error NotApplicable = NotApplicable
refused_error (Wide a b) = NotApplicable
refused_error OutOfMemory = OutOfMemory

abbrev pub judged_error : RuleError → Bool → RuleError
judged_error e true = e
judged_error e false = refused_error e

abbrev pub lists_view : Vec (Vec Row) → List (List Row)
lists_view ls = map (λ rows. rows.items) ls.items
