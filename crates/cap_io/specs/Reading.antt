-- How a file is read to its end.
use Rattle.std.specs.Prelude.{ℕ, ◌+◌, ◌<◌, ◌≤◌, List, length, Option, IfSome, ⊤}
use Rattle.cap_io.specs.declared.shelf.FetchError.{FetchError}
use Rattle.cap_io.specs.declared.shelf.FetchError.TheVariants.{Failed, Absent, TooLong, OutOfMemory}
use Rattle.cap_io.specs.Outside.{longest}

-- why the bytes of a file cannot be had, of which some were seen and these are left, where they are known. It is
-- not said to be absent, and is too long only where so many bytes can be seen
abbrev pub IsReadError : ℕ → Option (List ℕ) → FetchError → Type 0
IsReadError seen left Failed = ⊤
IsReadError seen left Absent = ⊥
IsReadError seen left (TooLong n) = (longest < n) × IfSome left (λ bytes. n ≤ seen + length bytes)
IsReadError seen left OutOfMemory = ⊤
