-- A line's bytes, and an array's items.
use Rattle.std.proofs.Common.{◌≡◌, ℕ, cond, Bool, true, false, List, [], ◌∷◌, Option, Some, None, refl, sym, ap}
use Rattle.std.specs.Str.{IsUtf8, is_utf8}
use Rattle.std.proofs.lemmas.Str.{IsUtf8-from_is_utf8, is_utf8-from_IsUtf8}
use Rattle.serde_json.specs.Data.{Data}
use Rattle.serde_json.specs.Read.{read}
use Rattle.serde_json.specs.View.{items_of}
use Rattle.cap_deriv_choices.specs.Reading.{data_items}
use Rattle.cap_deriv.specs.Reading.{json_of_bytes}

pub data_found : (b : List ℕ) (d : Data) → IsUtf8 b → read b ≡ Some d → Some d ≡ json_of_bytes b
data_found b d u e = rw (is_utf8-from_IsUtf8 b u) (sym e)

refused_at : (t : Bool) (r : Option Data) → (t ≡ true → r ≡ None) → None ≡ cond t r None
refused_at true r h = sym (h refl)
refused_at false r h = refl

pub data_refused : (b : List ℕ) → (IsUtf8 b → read b ≡ None) → None ≡ json_of_bytes b
data_refused b h = refused_at (is_utf8 b) (read b) (λ t. h (IsUtf8-from_is_utf8 b t))

pub list_of-items_of : (ds : List Data) → data_items (items_of ds) ≡ ds
list_of-items_of [] = refl
list_of-items_of (d ∷ ds) = ap (λ xs. d ∷ xs) (list_of-items_of ds)
