-- What a shelf's files gave to a run.
use Rattle.std.specs.Prelude.{◌≡◌, ℕ, ◌<◌, ◌≤◌, ◌⊎◌, List, [], ◌∷◌, ◌++◌, length}
use Rattle.std.specs.Prelude.{Some, None, IfSome, IsSomeAnd}
use Rattle.cap_io.specs.Files.{Files, content, SeenShelf, HasGiven}
use Rattle.cap_io.specs.Outside.{longest, counted, Rose}
use Rattle.cap_top_commands.specs.Answers.{Fetched, held, unread, long}

-- Between two moments of the shelf: a file gives bytes, no more than a file may have, and those that
-- it holds where the shelf tells its files; or nothing, where a fault is blamed on it or it is not
-- there; or it has more bytes.
abbrev pub IsFetched : SeenShelf → SeenShelf → List ℕ → Fetched → Type 0
IsFetched shelf shelf_now name (held bytes) =
    (length bytes ≤ longest) × IfSome shelf.holds (λ files. content files name ≡ Some bytes)
IsFetched shelf shelf_now name unread =
    (Rose shelf.faults shelf_now.faults × (shelf_now.blamed ≡ Some name))
    ⊎ IsSomeAnd shelf.holds (λ files. content files name ≡ None)
IsFetched shelf shelf_now name long =
    IfSome shelf.holds (λ files. IsSomeAnd (content files name) (λ bytes. longest < length bytes))

-- so it is with the files of the first of these names, as many as were read
abbrev pub AreFetched : SeenShelf → SeenShelf → List (List ℕ) → List Fetched → Type 0
AreFetched shelf shelf_now names [] = Unit {0}
AreFetched shelf shelf_now [] (x ∷ xs) = ⊥
AreFetched shelf shelf_now (name ∷ names) (x ∷ xs) =
    IsFetched shelf shelf_now name x × AreFetched shelf shelf_now names xs

-- what a file of this name gave, with its name, if it gave bytes
abbrev pub gift : List ℕ → Fetched → Files
gift name (held bytes) = (name, bytes) ∷ []
gift name unread = []
gift name long = []

-- what the files of the first of these names gave, in this order
abbrev pub gifts : List (List ℕ) → List Fetched → Files
gifts names [] = []
gifts [] (x ∷ xs) = []
gifts (name ∷ names) (x ∷ xs) = gift name x ++ gifts names xs

-- a count of fetches after these were answered
abbrev pub counted_by : List Fetched → ℕ → ℕ
counted_by [] n = n
counted_by (x ∷ xs) n = counted_by xs (counted n)

-- over a shelf that counts its fetches, just these were answered
abbrev pub AreCounted : SeenShelf → SeenShelf → List Fetched → Type 0
AreCounted shelf shelf_now got =
    IfSome shelf.fetches (λ n. shelf_now.fetches ≡ Some (counted_by got n))

-- The files of the first of these names gave this, as many as were read. No other file gave bytes, and
-- none was read over a shelf that counts its fetches.
pub record AreRead (shelf shelf_now : SeenShelf) (names : List (List ℕ)) (got : List Fetched)
    : Type 0 where
  pub fetched : AreFetched shelf shelf_now names got
  pub given : HasGiven shelf shelf_now (gifts names got)
  pub counted : AreCounted shelf shelf_now got
