-- What the JSON value of the first line is read as, and that of the last.
use Rattle.std.specs.Prelude.{ℕ, ◌==◌, List, [], ◌∷◌, Option, None, option_and_then, if◌then◌else◌, bytes_eq, codes}
use Rattle.std.specs.Str.{is_utf8}
use Rattle.serde_json.specs.Data.{Data}
use Rattle.serde_json.specs.Read.{read}
use Rattle.cap_deriv_choices.specs.Reading.{long_of_json, number_of_json, head_of_json}

abbrev pub opening_of_items : List Data → Option ℕ
opening_of_items (a ∷ b ∷ []) =
    option_and_then (λ k. if k == 1 then number_of_json b else None) (number_of_json a)
opening_of_items _ = None

abbrev pub opening_by_word : List ℕ → List Data → Option ℕ
opening_by_word w ds = if bytes_eq w (codes "caper") then opening_of_items ds else None

abbrev pub opening_of_json : Data → Option ℕ
opening_of_json d = option_and_then (λ h. opening_by_word h.0 h.1) (head_of_json d)

abbrev pub closing_of_items : List Data → Option ℕ
closing_of_items (a ∷ []) = long_of_json a
closing_of_items _ = None

abbrev pub closing_by_word : List ℕ → List Data → Option ℕ
closing_by_word w ds = if bytes_eq w (codes "end") then closing_of_items ds else None

abbrev pub closing_of_json : Data → Option ℕ
closing_of_json d = option_and_then (λ h. closing_by_word h.0 h.1) (head_of_json d)

-- the value that bytes are, as a JSON text in UTF-8
abbrev pub json_of_bytes : List ℕ → Option Data
json_of_bytes bytes = if is_utf8 bytes then read bytes else None
