-- Files by name, and what can be said of a shelf that they are read from.
use Rattle.std.specs.Prelude.{◌≡◌, ℕ, List, ◌++◌, Option}
use Rattle.std.specs.Map.{lookup}
use Rattle.std.specs.Str.{bytes_eq}

-- files by name: pairs of a name and a content. Of two files of one name the first counts
abbrev pub Files : Type 0
Files = List (List ℕ × List ℕ)

-- the content of the file of this name
abbrev pub content : Files → List ℕ → Option (List ℕ)
content files name = lookup (bytes_eq name) files

-- what is seen of a shelf
pub record SeenShelf : Type 0 where
  pub holds : Option Files  -- its files, where it tells them
  pub given : Files  -- the names and the bytes of all fetches so far that gave bytes, in order
  pub faults : ℕ  -- how many faults came so far, at most 2^64 - 1
  pub blamed : Option (List ℕ)  -- the name whose fetch met the last fault
  pub fetches : Option ℕ  -- how many fetches were answered so far, where it counts them

-- in between, fetches gave just these, in this order
abbrev pub HasGiven : SeenShelf → SeenShelf → Files → Type 0
HasGiven before now files = now.given ≡ before.given ++ files
