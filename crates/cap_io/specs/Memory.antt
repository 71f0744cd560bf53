-- A shelf and a sink in memory, whose calls fail by their numbers.
use Rattle.std.specs.Prelude.{ℕ, zero, suc, ◌+◌, ◌-◌, ◌≤◌, ◌==◌, ◌&&◌, nat_lt, min, Bool, List, [], ◌∷◌, ◌++◌, length, map, string_bytes, String, Vec, Option, Some, None, IsNone, unwrap_or, Result, Ok, Err, if◌then◌else◌}
use Rattle.std.specs.Global.{Global}
use Rattle.std.specs.List.{list_any}
use Rattle.std.specs.Map.{lookup}
use Rattle.cap_io.specs.declared.shelf.FetchError.{FetchError}
use Rattle.cap_io.specs.declared.shelf.FetchError.TheVariants.{Failed}
use Rattle.cap_io.specs.Files.{Files, content, SeenShelf}
use Rattle.cap_io.specs.Outside.{found, last_count, counted}

-- the names and contents of files
abbrev pub files_of : List (String Global × Vec ℕ Global) → Files
files_of files = map (λ f. (string_bytes f.0, f.1.items)) files

pub record ShelfState : Type 0 where
  pub files : Files
  pub failing : List ℕ  -- the numbers of the fetches that fail
  pub fetches : ℕ  -- how many fetches were counted so far
  pub blamed : Option (List ℕ)  -- the name of the last fetch that failed
  pub given : Files  -- the names and the bytes of all fetches so far that gave bytes, in order

-- the call of this number is listed
abbrev pub is_listed : List ℕ → ℕ → Bool
is_listed listed n = list_any (λ k. k == n) listed

-- how many of the first n calls, which are numbered from 1, are listed
unfoldable pub listed_among : List ℕ → ℕ → ℕ
listed_among listed zero = 0
listed_among listed (suc n) = if is_listed listed (suc n) then suc (listed_among listed n) else listed_among listed n

-- how many of the fetches so far failed
abbrev pub failed_fetches : ShelfState → ℕ
failed_fetches s = listed_among s.failing s.fetches

-- the next fetch is counted, and its number is listed
abbrev pub fails_next : ShelfState → Bool
fails_next s = nat_lt s.fetches last_count && is_listed s.failing (s.fetches + 1)

-- what the next fetch, of this name, answers with enough memory
abbrev pub fetched : ShelfState → List ℕ → Result (List ℕ) FetchError
fetched s name = if fails_next s then Err Failed else found (content s.files name)

-- what an answer to a fetch of this name adds to what was given
abbrev pub gifts_of : List ℕ → Result (List ℕ) FetchError → Files
gifts_of name (Ok bytes) = (name, bytes) ∷ []
gifts_of name (Err e) = []

-- the shelf after that answer
abbrev pub after_fetch : ShelfState → List ℕ → ShelfState
after_fetch s name = record s {
  fetches = counted s.fetches;
  blamed = if fails_next s then Some name else s.blamed;
  given = s.given ++ gifts_of name (fetched s name);
}

-- what is seen of the shelf: it tells its files, and counts fetches
abbrev pub seen_memory : ShelfState → SeenShelf
seen_memory s = record {
  holds = Some s.files;
  given = s.given;
  faults = failed_fetches s;
  blamed = s.blamed;
  fetches = Some s.fetches;
}

pub record SinkState : Type 0 where
  pub written : List ℕ
  pub room : ℕ  -- the most bytes that it may have
  pub failing : List (ℕ × ℕ)  -- the numbers of puts that fail, and how many bytes each takes before
  pub puts : ℕ  -- how many puts were counted so far
  pub failures : ℕ  -- how many puts so far failed

-- after how many bytes the next put fails, if it is counted and its number is listed. Of two pairs of one
-- number the first counts
abbrev pub fails_after : SinkState → Option ℕ
fails_after s = if nat_lt s.puts last_count then lookup (λ k. k == s.puts + 1) s.failing else None

-- how many bytes there is room for
abbrev pub room_left : SinkState → ℕ
room_left s = s.room - length s.written

-- the next put, of these bytes, does not fail
abbrev pub TakesWhole : SinkState → List ℕ → Type 0
TakesWhole s bytes = IsNone (fails_after s) × (length bytes ≤ room_left s)

-- how many of these bytes the next put takes
abbrev pub taken : SinkState → List ℕ → ℕ
taken s bytes = min (length bytes) (min (unwrap_or (fails_after s) (room_left s)) (room_left s))
