-- The tables of a fetch exclude each other.
use Rattle.std.proofs.Common.{arith, ◌≡◌, ℕ, ◌<◌, ◌≤◌, length, List, Option, Some, None, Ok, Err, IsSomeAnd, refl}
use Rattle.cap_io.specs.declared.shelf.FetchError.TheVariants.{Failed, Absent, TooLong, OutOfMemory}
use Rattle.cap_io.specs.Files.{content}
use Rattle.cap_io.specs.Outside.{AnswersAreExact, found, longest}

found_short : (o : Option (List ℕ)) (bytes : List ℕ) → o ≡ Some bytes → length bytes ≤ longest → Ok bytes ≡ found o
found_short o bytes e l = rw e (grind (arith, l))

found_long : (o : Option (List ℕ)) (seen : ℕ) → IsSomeAnd o (λ bytes. seen ≡ length bytes) → longest < seen → Err (TooLong seen) ≡ found o
found_long None seen e l = absurd e
found_long (Some bytes) seen e l = grind (arith, e, l)

pub exact : AnswersAreExact
exact files name before now (Ok bytes) answers blame calm ample = found_short (content files name) bytes.items answers.1 answers.0
exact files name before now (Err Failed) answers blame calm ample = absurd (calm blame.1)
exact files name before now (Err Absent) answers blame calm ample = rw answers refl
exact files name before now (Err (TooLong seen)) answers blame calm ample = found_long (content files name) seen answers.1 answers.0
exact files name before now (Err OutOfMemory) answers blame calm ample = absurd (ample refl)
