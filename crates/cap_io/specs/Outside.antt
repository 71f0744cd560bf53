-- The outside as a program sees it: a shelf of files that are read by name, and a sink that takes bytes.
use Rattle.std.specs.Prelude.{◌≡◌, ◌≢◌, ℕ, ◌+◌, ◌-◌, ◌^◌, ◌<◌, ◌≤◌, ◌⊎◌, nat_lt, min, if◌then◌else◌}
use Rattle.std.specs.Prelude.{List, [], ◌∷◌, ◌++◌, length, take, Vec, ⊤}
use Rattle.std.specs.Prelude.{Option, Some, None, IfSome, IsSomeAnd, Result, Ok, Err}
use Rattle.std.specs.Global.{Global}
use Rattle.cap_io.specs.Files.{Files, content, SeenShelf, HasGiven}
use Rattle.cap_io.specs.declared.shelf.FetchError.{FetchError}
use Rattle.cap_io.specs.declared.shelf.FetchError.TheVariants.{Failed, Absent, TooLong, OutOfMemory}

-- the most bytes that a file may have
abbrev pub longest : ℕ
longest = 67108864

-- ---- counts

-- the last value of a count
abbrev pub last_count : ℕ
last_count = 2 ^ 64 - 1

-- a count after one more, which stands still at its last value
abbrev pub counted : ℕ → ℕ
counted n = if nat_lt n last_count then n + 1 else n

-- the count of faults rose in a call: it is greater, or it stands at its last value
abbrev pub Rose : ℕ → ℕ → Type 0
Rose before now = min (before + 1) last_count ≤ now

-- ---- a shelf

-- what a fetch answers
abbrev pub FetchAnswer : Type 0
FetchAnswer = Result (Vec ℕ Global) FetchError

-- what a fetch of this name answers, over a shelf that tells these files, or none
abbrev pub FetchAnswers : Option Files → List ℕ → FetchAnswer → Type 0
FetchAnswers told name (Ok bytes) =
    (length bytes.items ≤ longest) × IfSome told (λ files. content files name ≡ Some bytes.items)
FetchAnswers told name (Err Failed) = ⊤
FetchAnswers told name (Err Absent) = IsSomeAnd told (λ files. content files name ≡ None)
FetchAnswers told name (Err (TooLong seen)) =
    (longest < seen)
    × IfSome told (λ files. IsSomeAnd (content files name) (λ bytes. seen ≡ length bytes))
FetchAnswers told name (Err OutOfMemory) = ⊤

-- an answer with its bytes as a list
abbrev pub plain_answer : FetchAnswer → Result (List ℕ) FetchError
plain_answer (Ok bytes) = Ok bytes.items
plain_answer (Err e) = Err e

-- the answer at this content, where no fault comes and memory is not short
abbrev pub found : Option (List ℕ) → Result (List ℕ) FetchError
found None = Err Absent
found (Some bytes) =
    if nat_lt longest (length bytes) then Err (TooLong (length bytes)) else Ok bytes

-- what a fetch of this name adds to what was given: its bytes
abbrev pub Gives : List ℕ → SeenShelf → SeenShelf → FetchAnswer → Type 0
Gives name before now (Ok bytes) = HasGiven before now ((name, bytes.items) ∷ [])
Gives name before now (Err e) = HasGiven before now []

-- no fault came: the count of faults and the blamed name are as they were
abbrev pub Unfaulted : SeenShelf → SeenShelf → Type 0
Unfaulted before now = (now.faults ≡ before.faults) × (now.blamed ≡ before.blamed)

-- a fault came in the fetch of this name: the count rose, and the name is blamed
abbrev pub Faulted : List ℕ → SeenShelf → SeenShelf → Type 0
Faulted name before now =
    (before.faults ≤ now.faults) × Rose before.faults now.faults × (now.blamed ≡ Some name)

-- what a fetch of this name does to the count of faults and to the blamed name: a fetch that fails was
-- faulted, a file is absent only where no fault came, and a fetch may get over a fault
abbrev pub Blames : List ℕ → SeenShelf → SeenShelf → FetchAnswer → Type 0
Blames name before now (Ok _) = Unfaulted before now ⊎ Faulted name before now
Blames name before now (Err Failed) = Faulted name before now
Blames name before now (Err Absent) = Unfaulted before now
Blames name before now (Err (TooLong _)) = Unfaulted before now ⊎ Faulted name before now
Blames name before now (Err OutOfMemory) = Unfaulted before now ⊎ Faulted name before now

-- over a shelf that tells its files, a file is too long only where no fault came
abbrev pub Measures : SeenShelf → SeenShelf → FetchAnswer → Type 0
Measures before now (Ok _) = ⊤
Measures before now (Err Failed) = ⊤
Measures before now (Err Absent) = ⊤
Measures before now (Err (TooLong _)) = IfSome before.holds (λ _. now.faults ≡ before.faults)
Measures before now (Err OutOfMemory) = ⊤

-- where files are told and no fault came, a fetch answers exactly by the content, unless memory is
-- short
abbrev pub AnswersAreExact : Type 0
AnswersAreExact =
    (files : Files) (name : List ℕ) (before now : SeenShelf) (r : FetchAnswer) →
    FetchAnswers (Some files) name r → Blames name before now r →
    ¬ Rose before.faults now.faults → r ≢ Err OutOfMemory →
    plain_answer r ≡ found (content files name)

-- one fetch more is counted, over a shelf that counts them
abbrev pub IsCounted : SeenShelf → SeenShelf → Type 0
IsCounted before now = IfSome before.fetches (λ n. now.fetches ≡ Some (counted n))

-- what a fetch does to the count of fetches: one is counted unless memory is short
abbrev pub Counts : SeenShelf → SeenShelf → FetchAnswer → Type 0
Counts before now (Ok _) = IsCounted before now
Counts before now (Err Failed) = IsCounted before now
Counts before now (Err Absent) = IsCounted before now
Counts before now (Err (TooLong _)) = IsCounted before now
Counts before now (Err OutOfMemory) = now.fetches ≡ before.fetches

-- ---- a sink

-- what is seen of a sink
pub record SeenSink : Type 0 where
  pub written : Option (List ℕ)  -- the bytes that were written so far, where it tells them
  pub faults : ℕ  -- how many faults came so far, at most 2^64 - 1

-- all of these bytes were appended to what was written
abbrev pub Gains : Option (List ℕ) → Option (List ℕ) → List ℕ → Type 0
Gains written gained bytes = IfSome written (λ held. gained ≡ Some (held ++ bytes))

-- the first n of these bytes were appended to what was written, for some n
abbrev pub GainsPrefix : Option (List ℕ) → Option (List ℕ) → List ℕ → Type 0
GainsPrefix written gained bytes = IfSome written (λ held.
    (n : ℕ) × (n ≤ length bytes) × (gained ≡ Some (held ++ take n bytes)))
