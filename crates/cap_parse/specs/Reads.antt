-- What the parser's functions return, by what the readers of the grammar give. Only private functions
-- cite this.
use Rattle.std.specs.Prelude.{◌≡◌, List, Result, Ok, Err}
use Rattle.cap_syntax.specs.declared.token.Token.{Token}
use Rattle.cap_parse_laws.specs.Readers.{Fault, unexpected, too_deep}
use Rattle.cap_parse.specs.declared.cursor.Stop.{Stop}
use Rattle.cap_parse.specs.declared.cursor.Stop.TheVariants.{Unexpected, TooDeep, OutOfMemory}

-- what a function returned, seen by view, and left to read is what the reader gives, unless memory ran
-- out
abbrev pub IsRead : {X Y : Type 0} → (X → Y) → Result X Stop → List Token → Result (Y × List Token) Fault → Type 0
IsRead view (Ok x) rest reading = reading ≡ Ok (view x, rest)
IsRead view (Err Unexpected) rest reading = reading ≡ Err (unexpected rest)
IsRead view (Err TooDeep) rest reading = reading ≡ Err (too_deep rest)
IsRead view (Err OutOfMemory) rest reading = Unit {0}
