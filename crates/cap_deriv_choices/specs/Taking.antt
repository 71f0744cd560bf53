-- What the first of a JSON text's tokens are read as, up to a choice behind its word, and the tokens left.
use Rattle.std.specs.Prelude.{ℕ, zero, suc, ◌==◌, ◌^◌, ℤ, List, [], ◌∷◌, length, Option, Some, None, option_map, option_and_then, if◌then◌else◌, bytes_eq, codes, ⊤}
use Rattle.json.specs.Token.{Token, begin_object, end_object, begin_array, end_array, key, string, number, boolean, null, bad}
use Rattle.json.specs.Json.{Parse, parse_map, after_end_array}
use Rattle.serde_json.specs.Find.{as_u64}
use Rattle.serde_json.specs.Read.{number_of}
use Rattle.cap_farkas.specs.declared.cert.Cert.{Cert}
use Rattle.cap_farkas.specs.declared.cert.Cert.TheVariants.{Leaf, Split}
use Rattle.cap_goal_spec.specs.Choices.{PlainChoice, by_absurd, by_clash, by_set, by_alloc, by_assert, by_if, by_loop, by_turn, by_call, by_fork, by_return, by_enter, by_act, by_pick, by_shift, by_settle, by_keep, by_give, by_fact, by_cases, by_cell, by_region, by_guard, by_convert, by_create, by_made}
use Rattle.cap_deriv_choices.specs.Reading.{below_limit, multiplier_text, unless_empty}

infixl 10 ◌>>=◌
abbrev pub ◌>>=◌ : {A B : Type 0} → Option A → (A → Option B) → Option B
o >>= f = option_and_then f o

-- ---- one token

-- a number's text without sign, fraction and exponent, within 64 bits
abbrev pub long_of_text : List ℕ → Option ℕ
long_of_text s = option_and_then as_u64 (number_of s)

abbrev pub opening_token : Token → Option ⊤
opening_token begin_object = None
opening_token end_object = None
opening_token begin_array = Some tt
opening_token end_array = None
opening_token (key s) = None
opening_token (string s) = None
opening_token (number s) = None
opening_token (boolean b) = None
opening_token null = None
opening_token bad = None

abbrev pub long_token : Token → Option ℕ
long_token begin_object = None
long_token end_object = None
long_token begin_array = None
long_token end_array = None
long_token (key s) = None
long_token (string s) = None
long_token (number s) = long_of_text s
long_token (boolean b) = None
long_token null = None
long_token bad = None

abbrev pub text_token : Token → Option (List ℕ)
text_token begin_object = None
text_token end_object = None
text_token begin_array = None
text_token end_array = None
text_token (key s) = None
text_token (string s) = Some s
text_token (number s) = None
text_token (boolean b) = None
text_token null = None
text_token bad = None

abbrev pub take_token : {A : Type 0} → (Token → Option A) → Parse A
take_token f [] = None
take_token f (t ∷ ts) = option_map (λ a. (a, ts)) (f t)

abbrev pub take_open : Parse ⊤
take_open ts = take_token opening_token ts

abbrev pub take_close : Parse ⊤
take_close ts = option_map (λ r. (tt, r)) (after_end_array ts)

abbrev pub take_long : Parse ℕ
take_long ts = take_token long_token ts

abbrev pub take_number : Parse ℕ
take_number ts = do
  n ← take_long ts
  option_map (λ k. (k, n.1)) (below_limit (2 ^ 32) n.0)

abbrev pub take_text : Parse (List ℕ)
take_text ts = take_token text_token ts

-- ---- arrays of any length

abbrev pub items_turn : {A : Type 0} → Parse A → Parse (List A) → List Token → Option (List Token) → Option (List A × List Token)
items_turn p more ts (Some rest) = Some ([], rest)
items_turn p more ts None = option_and_then (λ q. parse_map (λ xs. q.0 ∷ xs) (more q.1)) (p ts)

-- The number bounds the turns. The count of the tokens is always enough.
unfoldable pub take_items : {A : Type 0} → Parse A → ℕ → Parse (List A)
take_items p zero ts = None
take_items p (suc n) ts = items_turn p (take_items p n) ts (after_end_array ts)

abbrev pub take_array : {A : Type 0} → Parse A → Parse (List A)
take_array p ts = do
  u ← take_open ts
  take_items p (length u.1) u.1

abbrev pub take_numbers : Parse (List ℕ)
take_numbers ts = take_array take_number ts

-- ---- certificates

abbrev pub take_multiplier : Parse ℤ
take_multiplier ts = do
  s ← take_text ts
  option_map (λ z. (z, s.1)) (multiplier_text s.0)

abbrev pub take_pair : Parse (ℕ × ℤ)
take_pair ts = do
  u ← take_open ts
  row ← take_number u.1
  factor ← take_multiplier row.1
  e ← take_close factor.1
  Some ((row.0, factor.0), e.1)

abbrev pub take_pairs : Parse (List (ℕ × ℤ))
take_pairs ts = take_array take_pair ts

abbrev pub take_leaf : Parse Cert
take_leaf ts = do
  all ← take_pairs ts
  e ← take_close all.1
  Some (Leaf all.0, e.1)

abbrev pub take_split : Parse Cert
take_split ts = do
  row ← take_number ts
  below ← take_pairs row.1
  above ← take_pairs below.1
  e ← take_close above.1
  Some (Split row.0 below.0 above.0, e.1)

abbrev pub take_cert_by_word : List ℕ → Parse Cert
take_cert_by_word w ts =
    if bytes_eq w (codes "leaf")
    then take_leaf ts
    else (if bytes_eq w (codes "split") then take_split ts else None)

-- behind the bracket that opens it
abbrev pub take_opened_cert : Parse Cert
take_opened_cert ts = do
  w ← take_text ts
  take_cert_by_word w.0 w.1

abbrev pub take_cert : Parse Cert
take_cert ts = do
  u ← take_open ts
  take_opened_cert u.1

abbrev pub take_certs : Parse (List Cert)
take_certs ts = take_array take_cert ts

abbrev pub mark_behind : Token → Parse (Option Cert)
mark_behind begin_object ts = None
mark_behind end_object ts = None
mark_behind begin_array ts = parse_map Some (take_opened_cert ts)
mark_behind end_array ts = None
mark_behind (key s) ts = None
mark_behind (string s) ts = None
mark_behind (number s) ts = option_and_then (λ k. if k == 0 then Some (None, ts) else None) (long_of_text s)
mark_behind (boolean b) ts = None
mark_behind null ts = None
mark_behind bad ts = None

abbrev pub take_mark : Parse (Option Cert)
take_mark [] = None
take_mark (t ∷ ts) = mark_behind t ts

abbrev pub take_marks : Parse (List (Option Cert))
take_marks ts = take_array take_mark ts

-- ---- choices, by their words

abbrev pub take_none : {C : Type 0} → C → Parse C
take_none k ts = Some (k, ts)

abbrev pub take_one : {A C : Type 0} → (A → C) → Parse A → Parse C
take_one k p ts = do
  a ← p ts
  Some (k a.0, a.1)

abbrev pub take_two : {A B C : Type 0} → (A → B → C) → Parse A → Parse B → Parse C
take_two k p q ts = do
  a ← p ts
  b ← q a.1
  Some (k a.0 b.0, b.1)

abbrev pub take_three : {A B C D : Type 0} → (A → B → C → D) → Parse A → Parse B → Parse C → Parse D
take_three k p q r ts = do
  a ← p ts
  b ← q a.1
  c ← r b.1
  Some (k a.0 b.0 c.0, c.1)

-- what the first row with this word says, or else the other
abbrev pub row_or : {A : Type 0} → List ℕ → List (List ℕ × A) → A → A
row_or w [] other = other
row_or w (row ∷ rows) other = if bytes_eq w row.0 then row.1 else row_or w rows other

abbrev pub rows_of_three : List Token → List (List ℕ × Option (PlainChoice × List Token))
rows_of_three ts =
    (codes "clash", take_three by_clash take_number take_number take_certs ts)
    ∷ (codes "act", take_three by_act take_number take_certs take_marks ts)
    ∷ (codes "pick", take_three by_pick take_number take_number take_number ts)
    ∷ (codes "guard", take_three by_guard take_number take_number take_certs ts)
    ∷ (codes "convert", take_three by_convert take_number take_number take_certs ts)
    ∷ []

unfoldable pub take_by_three : List ℕ → Parse PlainChoice
take_by_three w ts = row_or w (rows_of_three ts) None

abbrev pub rows_of_two : List Token → List (List ℕ × Option (PlainChoice × List Token))
rows_of_two ts =
    (codes "enter", take_two by_enter take_number take_certs ts)
    ∷ (codes "settle", take_two by_settle take_numbers take_certs ts)
    ∷ (codes "cell", take_two by_cell take_number take_certs ts)
    ∷ (codes "region", take_two by_region take_number take_certs ts)
    ∷ []

unfoldable pub take_by_two : List ℕ → Parse PlainChoice
take_by_two w ts = row_or w (rows_of_two ts) (take_by_three w ts)

abbrev pub rows_of_one : List Token → List (List ℕ × Option (PlainChoice × List Token))
rows_of_one ts =
    (codes "absurd", take_one by_absurd take_cert ts)
    ∷ (codes "assert", take_one by_assert take_certs ts)
    ∷ (codes "keep", take_one by_keep take_certs ts)
    ∷ (codes "fact", take_one by_fact take_certs ts)
    ∷ (codes "create", take_one by_create take_number ts)
    ∷ (codes "made", take_one by_made take_certs ts)
    ∷ []

unfoldable pub take_by_one : List ℕ → Parse PlainChoice
take_by_one w ts = row_or w (rows_of_one ts) (take_by_two w ts)

abbrev pub rows_of_none : List Token → List (List ℕ × Option (PlainChoice × List Token))
rows_of_none ts =
    (codes "set", take_none by_set ts)
    ∷ (codes "alloc", take_none by_alloc ts)
    ∷ (codes "if", take_none by_if ts)
    ∷ (codes "loop", take_none by_loop ts)
    ∷ (codes "turn", take_none by_turn ts)
    ∷ (codes "call", take_none by_call ts)
    ∷ (codes "fork", take_none by_fork ts)
    ∷ (codes "return", take_none by_return ts)
    ∷ (codes "give", take_none by_give ts)
    ∷ (codes "cases", take_none by_cases ts)
    ∷ []

unfoldable pub take_by_word : List ℕ → Parse PlainChoice
take_by_word w ts = row_or w (rows_of_none ts) (take_by_one w ts)

-- up to the end of its array, of any word but that of a shift
abbrev pub take_closed : List ℕ → Parse PlainChoice
take_closed w ts = do
  c ← take_by_word w ts
  e ← take_close c.1
  Some (c.0, e.1)

-- the pieces that a shift names, where it names any
abbrev pub take_spans : Parse (List ℕ)
take_spans ts = do
  ns ← take_numbers ts
  option_map (λ ks. (ks, ns.1)) (unless_empty ns.0)

abbrev pub spans_turn : List Token → Option (List Token) → Option (List ℕ × List Token)
spans_turn ts (Some rest) = Some ([], rest)
spans_turn ts None = do
  ns ← take_spans ts
  e ← take_close ns.1
  Some (ns.0, e.1)

-- none, or such pieces, up to the end of the array
abbrev pub take_last_spans : Parse (List ℕ)
take_last_spans ts = spans_turn ts (after_end_array ts)

abbrev pub take_shift : Parse PlainChoice
take_shift ts = take_two by_shift take_certs take_last_spans ts

abbrev pub take_choice : List ℕ → Parse PlainChoice
take_choice w ts = if bytes_eq w (codes "shift") then take_shift ts else take_closed w ts
