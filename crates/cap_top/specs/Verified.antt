-- What status 0 of `verify` promises of the file that was read.
use Rattle.std.specs.Prelude.{◌≡◌, ℕ, List, [], ◌∷◌, Some, IfSome}
use Rattle.cap_io.specs.Files.{content, SeenShelf, HasGiven}
use Rattle.cap_top_commands.specs.SafeText.{IsSafeText}

-- In this call the file of this name gave these bytes, and no other file gave any; they are those that
-- it holds where the shelf tells its files.
pub record IsRead (shelf shelf_now : SeenShelf) (name bytes : List ℕ) : Type 0 where
  pub given : HasGiven shelf shelf_now ((name, bytes) ∷ [])
  pub held : IfSome shelf.holds (λ files. content files name ≡ Some bytes)

-- The bytes that the file gave are the text of a safe program.
pub record VerifiesFile (shelf shelf_now : SeenShelf) (name : List ℕ) : Type 0 where
  pub bytes : List ℕ
  pub read : IsRead shelf shelf_now name bytes
  pub safe : IsSafeText bytes
