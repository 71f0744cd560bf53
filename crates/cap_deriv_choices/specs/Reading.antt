-- What the JSON value of a choice, or of a part of one, is read as, from left to right.
use Rattle.std.specs.Prelude.{ℕ, ◌&&◌, ◌==◌, ◌^◌, ◌-◌, nat_lt, nat_le, ℤ, pos, neg_ℤ, Bool, false, List, [], ◌∷◌, Option, Some, None, option_map, option_and_then, if◌then◌else◌, bytes_eq, codes}
use Rattle.std.specs.Str.{all_ascii_digits}
use Rattle.std.specs.Str.Parse.{digits_value}
use Rattle.serde_json.specs.Data.{Data, number, Items, no_items, item}
use Rattle.serde_json.specs.Find.{as_number, as_u64, as_str, as_array}
use Rattle.cap_farkas.specs.declared.cert.Cert.{Cert}
use Rattle.cap_farkas.specs.declared.cert.Cert.TheVariants.{Leaf, Split}
use Rattle.cap_goal_spec.specs.Choices.{PlainChoice, by_absurd, by_clash, by_set, by_alloc, by_assert, by_if, by_loop, by_turn, by_call, by_fork, by_return, by_enter, by_act, by_pick, by_shift, by_settle, by_keep, by_give, by_fact, by_cases, by_cell, by_region, by_guard, by_convert, by_create, by_made}

-- ---- arrays, words and numbers

abbrev pub data_items : Items → List Data
data_items no_items = []
data_items (item d ds) = d ∷ data_items ds

abbrev pub array_of_json : Data → Option (List Data)
array_of_json d = option_map data_items (as_array d)

abbrev pub below_limit : ℕ → ℕ → Option ℕ
below_limit limit n = if nat_lt n limit then Some n else None

abbrev pub long_of_json : Data → Option ℕ
long_of_json d = option_and_then as_u64 (as_number d)

abbrev pub number_of_json : Data → Option ℕ
number_of_json d = option_and_then (below_limit (2 ^ 32)) (long_of_json d)

-- each of them
abbrev pub each_of_json : {A : Type 0} → (Data → Option A) → List Data → Option (List A)
each_of_json f [] = Some []
each_of_json f (d ∷ ds) =
    option_and_then (λ x. option_map (λ xs. x ∷ xs) (each_of_json f ds)) (f d)

abbrev pub numbers_of_json : Data → Option (List ℕ)
numbers_of_json d = option_and_then (each_of_json number_of_json) (array_of_json d)

-- the word that an array begins with, and its arguments
abbrev pub head_of_items : List Data → Option (List ℕ × List Data)
head_of_items [] = None
head_of_items (w ∷ ds) = option_map (λ s. (s, ds)) (as_str w)

abbrev pub head_of_json : Data → Option (List ℕ × List Data)
head_of_json d = option_and_then head_of_items (array_of_json d)

-- ---- certificates

-- digits, of which the first is not 0
abbrev pub begins_with_digit : List ℕ → Bool
begins_with_digit [] = false
begins_with_digit (d ∷ ds) = nat_le 49 d && nat_le d 57

abbrev pub positive_text : ℕ → List ℕ → Option ℕ
positive_text most s =
    if begins_with_digit s && all_ascii_digits s && nat_le (digits_value 10 s) most
    then Some (digits_value 10 s)
    else None

abbrev pub begins_with_sign : List ℕ → Bool
begins_with_sign [] = false
begins_with_sign (c ∷ s) = if c == 45 then begins_with_digit s else begins_with_digit (c ∷ s)

abbrev pub multiplier_text : List ℕ → Option ℤ
multiplier_text [] = None
multiplier_text (c ∷ s) =
    if c == 45
    then option_map (λ n. neg_ℤ (pos n)) (positive_text (2 ^ 127) s)
    else option_map pos (positive_text (2 ^ 127 - 1) (c ∷ s))

abbrev pub multiplier_of_json : Data → Option ℤ
multiplier_of_json d = option_and_then multiplier_text (as_str d)

abbrev pub pair_of_items : List Data → Option (ℕ × ℤ)
pair_of_items (a ∷ b ∷ []) =
    option_and_then (λ n. option_map (λ z. (n, z)) (multiplier_of_json b)) (number_of_json a)
pair_of_items _ = None

abbrev pub pair_of_json : Data → Option (ℕ × ℤ)
pair_of_json d = option_and_then pair_of_items (array_of_json d)

abbrev pub pairs_of_json : Data → Option (List (ℕ × ℤ))
pairs_of_json d = option_and_then (each_of_json pair_of_json) (array_of_json d)

abbrev pub leaf_of_items : List Data → Option Cert
leaf_of_items (a ∷ []) = option_map Leaf (pairs_of_json a)
leaf_of_items _ = None

abbrev pub split_of_items : List Data → Option Cert
split_of_items (a ∷ b ∷ c ∷ []) =
    option_and_then
    (λ k. option_and_then (λ ps. option_map (Split k ps) (pairs_of_json c)) (pairs_of_json b))
    (number_of_json a)
split_of_items _ = None

abbrev pub cert_of_items : List ℕ → List Data → Option Cert
cert_of_items w ds =
    if bytes_eq w (codes "leaf")
    then leaf_of_items ds
    else (if bytes_eq w (codes "split") then split_of_items ds else None)

abbrev pub cert_of_json : Data → Option Cert
cert_of_json d = option_and_then (λ h. cert_of_items h.0 h.1) (head_of_json d)

abbrev pub certs_of_json : Data → Option (List Cert)
certs_of_json d = option_and_then (each_of_json cert_of_json) (array_of_json d)

-- the number 0, or a certificate
abbrev pub mark_of_json : Data → Option (Option Cert)
mark_of_json (number n) = option_and_then (λ k. if k == 0 then Some None else None) (as_u64 n)
mark_of_json d = option_map Some (cert_of_json d)

abbrev pub marks_of_json : Data → Option (List (Option Cert))
marks_of_json d = option_and_then (each_of_json mark_of_json) (array_of_json d)

-- ---- choices, by the number of their arguments

-- any list but the empty one
abbrev pub unless_empty : {A : Type 0} → List A → Option (List A)
unless_empty [] = None
unless_empty (x ∷ xs) = Some (x ∷ xs)

-- the pieces that a shift names, where it names any
abbrev pub spans_of_json : Data → Option (List ℕ)
spans_of_json d = option_and_then unless_empty (numbers_of_json d)

-- what the first row with this word says
abbrev pub row_of_word : {A : Type 0} → List ℕ → List (List ℕ × Option A) → Option A
row_of_word w [] = None
row_of_word w (row ∷ rows) = if bytes_eq w row.0 then row.1 else row_of_word w rows

abbrev pub choices_of_none : List (List ℕ × Option PlainChoice)
choices_of_none =
    (codes "set", Some by_set)
    ∷ (codes "alloc", Some by_alloc)
    ∷ (codes "if", Some by_if)
    ∷ (codes "loop", Some by_loop)
    ∷ (codes "turn", Some by_turn)
    ∷ (codes "call", Some by_call)
    ∷ (codes "fork", Some by_fork)
    ∷ (codes "return", Some by_return)
    ∷ (codes "give", Some by_give)
    ∷ (codes "cases", Some by_cases)
    ∷ []

abbrev pub choices_of_one : Data → List (List ℕ × Option PlainChoice)
choices_of_one a =
    (codes "absurd", option_map by_absurd (cert_of_json a))
    ∷ (codes "assert", option_map by_assert (certs_of_json a))
    ∷ (codes "shift", option_map (λ cs. by_shift cs []) (certs_of_json a))
    ∷ (codes "keep", option_map by_keep (certs_of_json a))
    ∷ (codes "fact", option_map by_fact (certs_of_json a))
    ∷ (codes "create", option_map by_create (number_of_json a))
    ∷ (codes "made", option_map by_made (certs_of_json a))
    ∷ []

abbrev pub choices_of_two : Data → Data → List (List ℕ × Option PlainChoice)
choices_of_two a b = (
  codes "enter",
  option_and_then (λ i. option_map (by_enter i) (certs_of_json b)) (number_of_json a),
)
    ∷ (
      codes "shift",
      option_and_then (λ cs. option_map (by_shift cs) (spans_of_json b)) (certs_of_json a),
    )
    ∷ (
      codes "settle",
      option_and_then (λ ns. option_map (by_settle ns) (certs_of_json b)) (numbers_of_json a),
    )
    ∷ (
      codes "cell",
      option_and_then (λ j. option_map (by_cell j) (certs_of_json b)) (number_of_json a),
    )
    ∷ (
      codes "region",
      option_and_then (λ j. option_map (by_region j) (certs_of_json b)) (number_of_json a),
    )
    ∷ []

abbrev pub choices_of_three : Data → Data → Data → List (List ℕ × Option PlainChoice)
choices_of_three a b c = (
  codes "clash",
  option_and_then
      (λ i.
      option_and_then (λ j. option_map (by_clash i j) (certs_of_json c)) (number_of_json b))
      (number_of_json a),
)
    ∷ (
      codes "act",
      option_and_then
          (λ j.
          option_and_then (λ cs. option_map (by_act j cs) (marks_of_json c)) (certs_of_json b))
          (number_of_json a),
    )
    ∷ (
      codes "pick",
      option_and_then
          (λ o.
          option_and_then (λ k. option_map (by_pick o k) (number_of_json c)) (number_of_json b))
          (number_of_json a),
    )
    ∷ (
      codes "guard",
      option_and_then
          (λ j.
          option_and_then (λ way. option_map (by_guard j way) (certs_of_json c)) (number_of_json b))
          (number_of_json a),
    )
    ∷ (
      codes "convert",
      option_and_then
          (λ n.
          option_and_then (λ side. option_map (by_convert n side) (certs_of_json c))
          (number_of_json b))
          (number_of_json a),
    )
    ∷ []

abbrev pub choice_of_items : List ℕ → List Data → Option PlainChoice
choice_of_items w [] = row_of_word w choices_of_none
choice_of_items w (a ∷ []) = row_of_word w (choices_of_one a)
choice_of_items w (a ∷ b ∷ []) = row_of_word w (choices_of_two a b)
choice_of_items w (a ∷ b ∷ c ∷ []) = row_of_word w (choices_of_three a b c)
choice_of_items w (a ∷ b ∷ c ∷ d ∷ ds) = None

abbrev pub choice_of_json : Data → Option PlainChoice
choice_of_json d = option_and_then (λ h. choice_of_items h.0 h.1) (head_of_json d)
