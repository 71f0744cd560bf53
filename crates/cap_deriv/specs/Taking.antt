-- What a line's tokens are read as, and the tokens left. Only private functions cite this.
use Rattle.std.specs.Prelude.{ℕ, ◌==◌, List, [], ◌∷◌, Option, Some, None, if◌then◌else◌, bytes_eq, codes}
use Rattle.json.specs.Token.{Token}
use Rattle.json.specs.Json.{Parse, parse_map}
use Rattle.cap_deriv_choices.specs.Taking.{◌>>=◌, take_open, take_close, take_long, take_number, take_text, take_choice}
use Rattle.cap_deriv.specs.Told.{PlainLine, choice_line, end_line}

abbrev pub take_version_and_trees : Parse ℕ
take_version_and_trees ts = do
  version ← take_number ts
  trees ← (if version.0 == 1 then take_number version.1 else None)
  e ← take_close trees.1
  Some (trees.0, e.1)

abbrev pub take_opening_by_word : List ℕ → Parse ℕ
take_opening_by_word w ts = if bytes_eq w (codes "caper") then take_version_and_trees ts else None

abbrev pub take_opening : Parse ℕ
take_opening ts = do
  u ← take_open ts
  w ← take_text u.1
  take_opening_by_word w.0 w.1

abbrev pub take_closing : Parse ℕ
take_closing ts = do
  n ← take_long ts
  e ← take_close n.1
  Some (n.0, e.1)

abbrev pub take_line_by_word : List ℕ → Parse PlainLine
take_line_by_word w ts =
    if bytes_eq w (codes "end")
    then parse_map end_line (take_closing ts)
    else parse_map choice_line (take_choice w ts)

abbrev pub take_line : Parse PlainLine
take_line ts = do
  u ← take_open ts
  w ← take_text u.1
  take_line_by_word w.0 w.1

-- with no token behind it
abbrev pub if_alone : {A : Type 0} → Option (A × List Token) → Option A
if_alone None = None
if_alone (Some (x, [])) = Some x
if_alone (Some (x, t ∷ ts)) = None
