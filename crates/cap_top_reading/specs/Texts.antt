-- A refusal as it is printed.
use Rattle.std.specs.Prelude.{ℕ, List, [], ◌++◌, codes, Option, Some, None}
use Rattle.cap_syntax.specs.declared.place.Place.{Place}
use Rattle.cap_syntax.specs.Place.{place_text}
use Rattle.cap_resolve_spec.specs.Finding.{Finding, cause_text}
use Rattle.cap_resolve.specs.Errors.{error_view}
use Rattle.cap_top_reading.specs.declared.refusal.Refusal.{Refusal}
use Rattle.cap_top_reading.specs.declared.refusal.Refusal.TheVariants.{BadByte, LongLiteral, TextTooLong, Unexpected, TooDeep, Unresolved, OutOfMemory}

abbrev pub refused_at : Place → List ℕ → List ℕ
refused_at p cause = codes "refused " ++ (place_text p ++ (codes ": " ++ (cause ++ codes "\n")))

abbrev pub finding_line : Option Finding → List ℕ
finding_line None = []
finding_line (Some f) = refused_at f.place (cause_text f.cause)

abbrev pub first_place_of_all : Place
first_place_of_all = record { line = 1; column = 1 }

-- the line; want of memory has none
abbrev pub refusal_line : Refusal → List ℕ
refusal_line (BadByte p) = refused_at p (codes "bad byte")
refusal_line (LongLiteral p) = refused_at p (codes "literal too long")
refusal_line TextTooLong = refused_at first_place_of_all (codes "text too long")
refusal_line (Unexpected p) = refused_at p (codes "unexpected token")
refusal_line (TooDeep p) = refused_at p (codes "nested too deep")
refusal_line (Unresolved e) = finding_line (error_view e)
refusal_line OutOfMemory = []
