-- The forms of the lines: the JSON value that a choice is written as.
use Rattle.std.specs.Prelude.{ℕ, ℤ, List, [], ◌∷◌, map, Option, Some, None, codes}
use Rattle.std.specs.Fmt.{signed_decimal}
use Rattle.serde_json.specs.Data.{Data, number, unsigned, string, array}
use Rattle.serde_json.specs.View.{items_of}
use Rattle.cap_farkas.specs.declared.cert.Cert.{Cert}
use Rattle.cap_farkas.specs.declared.cert.Cert.TheVariants.{Leaf, Split}
use Rattle.cap_goal_spec.specs.Choices.{PlainChoice, by_absurd, by_clash, by_set, by_alloc, by_assert, by_if, by_loop, by_turn, by_call, by_fork, by_return, by_enter, by_act, by_pick, by_shift, by_settle, by_keep, by_give, by_fact, by_cases, by_cell, by_region, by_guard, by_convert, by_create, by_made}

abbrev pub array_form : List Data → Data
array_form ds = array (items_of ds)

abbrev pub list_form : {A : Type 0} → (A → Data) → List A → Data
list_form f xs = array_form (map f xs)

abbrev pub number_form : ℕ → Data
number_form n = number (unsigned n)

-- a word, and its arguments behind it
abbrev pub headed_form : List ℕ → List Data → Data
headed_form word ds = array_form (string word ∷ ds)

-- ---- certificates

abbrev pub pair_form : (ℕ × ℤ) → Data
pair_form p = array_form (number_form p.0 ∷ string (signed_decimal p.1) ∷ [])

abbrev pub pairs_form : List (ℕ × ℤ) → Data
pairs_form = list_form pair_form

abbrev pub cert_form : Cert → Data
cert_form (Leaf ps) = headed_form (codes "leaf") (pairs_form ps ∷ [])
cert_form (Split k ps qs) =
    headed_form (codes "split") (number_form k ∷ pairs_form ps ∷ pairs_form qs ∷ [])

abbrev pub certs_form : List Cert → Data
certs_form = list_form cert_form

-- the number 0, or a certificate
abbrev pub mark_form : Option Cert → Data
mark_form None = number_form 0
mark_form (Some c) = cert_form c

abbrev pub marks_form : List (Option Cert) → Data
marks_form = list_form mark_form

abbrev pub numbers_form : List ℕ → Data
numbers_form = list_form number_form

-- ---- choices

-- the pieces that a shift names, where it names any
abbrev pub spans_form : List ℕ → List Data
spans_form [] = []
spans_form (n ∷ ns) = numbers_form (n ∷ ns) ∷ []

abbrev pub choice_form : PlainChoice → Data
choice_form (by_absurd c) = headed_form (codes "absurd") (cert_form c ∷ [])
choice_form (by_clash i j cs) =
    headed_form (codes "clash") (number_form i ∷ number_form j ∷ certs_form cs ∷ [])
choice_form by_set = headed_form (codes "set") []
choice_form by_alloc = headed_form (codes "alloc") []
choice_form (by_assert cs) = headed_form (codes "assert") (certs_form cs ∷ [])
choice_form by_if = headed_form (codes "if") []
choice_form by_loop = headed_form (codes "loop") []
choice_form by_turn = headed_form (codes "turn") []
choice_form by_call = headed_form (codes "call") []
choice_form by_fork = headed_form (codes "fork") []
choice_form by_return = headed_form (codes "return") []
choice_form (by_enter i cs) = headed_form (codes "enter") (number_form i ∷ certs_form cs ∷ [])
choice_form (by_act j cs ms) =
    headed_form (codes "act") (number_form j ∷ certs_form cs ∷ marks_form ms ∷ [])
choice_form (by_pick o c m) =
    headed_form (codes "pick") (number_form o ∷ number_form c ∷ number_form m ∷ [])
choice_form (by_shift cs spans) = headed_form (codes "shift") (certs_form cs ∷ spans_form spans)
choice_form (by_settle ns cs) =
    headed_form (codes "settle") (numbers_form ns ∷ certs_form cs ∷ [])
choice_form (by_keep cs) = headed_form (codes "keep") (certs_form cs ∷ [])
choice_form by_give = headed_form (codes "give") []
choice_form (by_fact cs) = headed_form (codes "fact") (certs_form cs ∷ [])
choice_form by_cases = headed_form (codes "cases") []
choice_form (by_cell j cs) = headed_form (codes "cell") (number_form j ∷ certs_form cs ∷ [])
choice_form (by_region j cs) = headed_form (codes "region") (number_form j ∷ certs_form cs ∷ [])
choice_form (by_guard j way cs) =
    headed_form (codes "guard") (number_form j ∷ number_form way ∷ certs_form cs ∷ [])
choice_form (by_convert n side cs) =
    headed_form (codes "convert") (number_form n ∷ number_form side ∷ certs_form cs ∷ [])
choice_form (by_create c) = headed_form (codes "create") (number_form c ∷ [])
choice_form (by_made cs) = headed_form (codes "made") (certs_form cs ∷ [])

-- ---- the first line and the last

abbrev pub opening_form : ℕ → Data
opening_form trees = headed_form (codes "caper") (number_form 1 ∷ number_form trees ∷ [])

abbrev pub closing_form : ℕ → Data
closing_form nodes = headed_form (codes "end") (number_form nodes ∷ [])
