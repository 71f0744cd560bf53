-- What contracts see of the code's answers.
use Rattle.std.specs.Prelude.{◌≡◌, List, Option, Some, None, Result, Ok, Err, ⊤}
use Rattle.json.specs.Token.{Token}
use Rattle.cap_deriv_choices.specs.declared.values.Fault.{Fault}
use Rattle.cap_deriv_choices.specs.declared.values.Fault.TheVariants.{Form, OutOfMemory}

-- the answer is what the definition gives, unless memory ran out
abbrev pub Extracts : {A B : Type 0} → (A → B) → Result A Fault → Option B → Type 0
Extracts f (Ok x) o = Some (f x) ≡ o
Extracts f (Err Form) o = None ≡ o
Extracts f (Err OutOfMemory) o = ⊤

-- of the tokens, the first are read as the answer, and `rest` is left, unless memory ran out
abbrev pub Takes : {A B : Type 0} → (A → B) → Result A Fault → List Token → Option (B × List Token) → Type 0
Takes f (Ok x) rest o = Some (f x, rest) ≡ o
Takes f (Err Form) rest o = None ≡ o
Takes f (Err OutOfMemory) rest o = ⊤
