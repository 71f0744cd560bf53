-- What is written has no spaces, and is read as what was written.
use Rattle.std.proofs.Common.{◌≡◌, ℕ, suc, zero, ◌≤◌, ◌<◌, ◌^◌, ◌&&◌, inl, inr, Bool, cond, true, false, List, [], ◌∷◌, ◌++◌, Some, option_map, refl, sym, ap, ◌∙◌, arith, append-nil}
use Rattle.std.specs.Prelude.{nat_lt, nat_le, ⊤, ℤ, pos, negsuc}
use Rattle.std.specs.Fmt.{decimal, signed_decimal}
use Rattle.std.specs.Str.{IsAscii}
use Rattle.std.specs.Str.Parse.{AllDigits}
use Rattle.std.proofs.lemmas.Str.{IsUtf8-from_ascii}
use Rattle.std.proofs.lemmas.Str.Parse.{digit_from_value}
use Rattle.std.proofs.lemmas.Fmt.{decimal_is_IsNumeral_wide}
use Rattle.std.proofs.lemmas.Bool.{lt-ltb, ltb-true, leb-true, le-leb, ne_eqb, cases_eq}
use Rattle.json.specs.Lex.{tokens}
use Rattle.json.specs.Json as json
use Rattle.json.specs.Tree as tree
use Rattle.json.specs.Print.{escape_byte, escape, quoted}
use Rattle.json.proofs.Printed.Tokens.{tokens-print}
use Rattle.json.proofs.Printed.Trees.{ArePrintable-json_tokens, value-json_tokens}
use Rattle.json.proofs.Printed.Decimals.{IsNumber-decimal}
use Rattle.serde_json.specs.Data.{Data, null, boolean, number, string, array, object, Num, unsigned, negative, float, Items, no_items, item, depth, items_depth}
use Rattle.serde_json.specs.Read.{of_json, of_items, max_depth}
use Rattle.serde_json.specs.Written.{compact_text, items_text, comma_if, outline, items_outline}
use Rattle.serde_json.proofs.Numbers.{number_of-decimal}
use Rattle.serde_json.proofs.Texts.{print-outline}
use Rattle.cap_deriv_choices.proofs.Numerals.{both}
use Rattle.cap_deriv.specs.Told.{ended_lines}
use Rattle.cap_deriv_write.specs.Bounds.{IsMultiplier}
use Rattle.cap_deriv_write.specs.Spelled.{IsText, IsVisible, AreVisible}

-- ---- bytes

visible_append : (xs ys : List ℕ) → AreVisible xs → AreVisible ys → AreVisible (xs ++ ys)
visible_append [] ys h k = k
visible_append (x ∷ xs) ys h k = (h.0, visible_append xs ys h.1 k)

abbrev pub is_visible : ℕ → Bool
is_visible x = nat_le 33 x && nat_lt x 128

abbrev pub are_visible : List ℕ → Bool
are_visible [] = true
are_visible (x ∷ xs) = is_visible x && are_visible xs

pub visible_from : (xs : List ℕ) → are_visible xs ≡ true → AreVisible xs
visible_from [] e = tt
visible_from (x ∷ xs) e =
    let p = both (is_visible x) (are_visible xs) e in
    let q = both (nat_le 33 x) (nat_lt x 128) p.0 in
    ((leb-true 33 x q.0, ltb-true x 128 q.1), visible_from xs p.1)

-- the escapes of the visible bytes below n are visible
abbrev escapes_below : ℕ → Bool
escapes_below zero = true
escapes_below (suc n) = cond (is_visible n) (are_visible (escape_byte n)) true && escapes_below n

escape_below : (n : ℕ) → escapes_below n ≡ true → (x : ℕ) → x < n → IsVisible x → AreVisible (escape_byte x)
escape_below zero e x h i = absurd (omega arith)
escape_below (suc n) e x h i =
    let p = both (cond (is_visible n) (are_visible (escape_byte n)) true) (escapes_below n) e in
    elim (cases_eq x n) [
      | inl same ↦ visible_from (escape_byte x) (rw same (rw (le-leb 33 n (omega (arith, i.0)), lt-ltb n 128 (omega (arith, i.1))) at p.0))
      | inr other ↦ escape_below n p.1 x (omega arith) i
    ]

all_escapes : escapes_below 128 ≡ true
unfolding escape_byte
all_escapes = refl

visible_escape : (s : List ℕ) → AreVisible s → AreVisible (escape s)
visible_escape [] h = tt
visible_escape (x ∷ xs) h = visible_append (escape_byte x) (escape xs) (escape_below 128 all_escapes x h.0.1 h.0) (visible_escape xs h.1)

visible_quoted : (s : List ℕ) → AreVisible s → AreVisible (quoted s)
visible_quoted s h = ((omega arith, omega arith), visible_append (escape s) (34 ∷ []) (visible_escape s h) (visible_from (34 ∷ []) refl))

visible_digits : (ds : List ℕ) → AllDigits 10 ds → AreVisible ds
visible_digits [] d = tt
visible_digits (c ∷ cs) d = let r = digit_from_value c d.0 in ((omega arith, omega arith), visible_digits cs d.1)

visible_decimal : (n : ℕ) → n < 10 ^ 64 → AreVisible (decimal n)
visible_decimal n h = visible_digits (decimal n) (decimal_is_IsNumeral_wide n h).0.1

pub visible_signed : (z : ℤ) → IsMultiplier z → AreVisible (signed_decimal z)
visible_signed (pos n) m = let f : n < 2 ^ 127 = m.0.sfits in visible_decimal n (omega arith)
visible_signed (negsuc n) m = let f : n < 2 ^ 127 = m.0.sfits in ((omega arith, omega arith), visible_decimal (suc n) (omega arith))

ascii : (xs : List ℕ) → AreVisible xs → IsAscii xs
ascii [] h i = omega arith
ascii (x ∷ xs) h zero = omega (arith, h.0.1)
ascii (x ∷ xs) h (suc i) = ascii xs h.1 i

pub line_cut : (xs rest : List ℕ) → AreVisible xs → ended_lines (xs ++ 10 ∷ rest) ≡ xs ∷ ended_lines rest
line_cut [] rest h = refl
line_cut (x ∷ xs) rest h = rw (ne_eqb x 10 (λ e. omega (arith, h.0.0)), line_cut xs rest h.1) refl

-- ---- values of which the text is known to be read back

abbrev pub IsSimpleNumber : Num → Type 0
IsSimpleNumber (unsigned n) = n < 2 ^ 64
IsSimpleNumber (negative z) = ⊥
IsSimpleNumber (float x) = ⊥

abbrev mutual
  pub IsSimple : Data → Type 0
  IsSimple null = ⊥
  IsSimple (boolean b) = ⊥
  IsSimple (number n) = IsSimpleNumber n
  IsSimple (string s) = AreVisible s
  IsSimple (array ds) = AreSimple ds
  IsSimple (object ms) = ⊥

  pub AreSimple : Items → Type 0
  AreSimple no_items = ⊤
  AreSimple (item d ds) = IsSimple d × AreSimple ds

visible_comma : (b : Bool) → AreVisible (comma_if b)
visible_comma true = visible_from (44 ∷ []) refl
visible_comma false = tt

mutual
  pub visible_text : (d : Data) → IsSimple d → AreVisible (compact_text d)
  visible_text null h = absurd h
  visible_text (boolean b) h = absurd h
  visible_text (number (unsigned n)) h = visible_decimal n (omega arith)
  visible_text (number (negative z)) h = absurd h
  visible_text (number (float x)) h = absurd h
  visible_text (string s) h = visible_quoted s h
  visible_text (array ds) h = ((omega arith, omega arith), visible_items false ds h)
  visible_text (object ms) h = absurd h

  visible_items : (later : Bool) (ds : Items) → AreSimple ds → AreVisible (items_text later ds)
  visible_items later no_items h = visible_from (93 ∷ []) refl
  visible_items later (item d ds) h = visible_append (comma_if later) _ (visible_comma later) (visible_append (compact_text d) _ (visible_text d h.0) (visible_items true ds h.1))

mutual
  simple_json : (d : Data) → IsSimple d → of_json (outline d) ≡ Some d
  simple_json null h = absurd h
  simple_json (boolean b) h = absurd h
  simple_json (number (unsigned n)) h = ap (option_map number) (number_of-decimal n h)
  simple_json (number (negative z)) h = absurd h
  simple_json (number (float x)) h = absurd h
  simple_json (string s) h = refl
  simple_json (array ds) h = ap (option_map array) (simple_items ds h)
  simple_json (object ms) h = absurd h

  simple_items : (ds : Items) → AreSimple ds → of_items (items_outline ds) ≡ Some ds
  simple_items no_items h = refl
  simple_items (item d ds) h = rw (simple_json d h.0, simple_items ds h.1) refl

mutual
  simple_numbers : (d : Data) → IsSimple d → tree.HasNumbers (outline d)
  simple_numbers null h = absurd h
  simple_numbers (boolean b) h = absurd h
  simple_numbers (number (unsigned n)) h = IsNumber-decimal n h
  simple_numbers (number (negative z)) h = absurd h
  simple_numbers (number (float x)) h = absurd h
  simple_numbers (string s) h = tt
  simple_numbers (array ds) h = simple_item_numbers ds h
  simple_numbers (object ms) h = absurd h

  simple_item_numbers : (ds : Items) → AreSimple ds → tree.ItemsHaveNumbers (items_outline ds)
  simple_item_numbers no_items h = tt
  simple_item_numbers (item d ds) h = (simple_numbers d h.0, simple_item_numbers ds h.1)

mutual
  simple_depth : (d : Data) → IsSimple d → tree.depth (outline d) ≡ depth d
  simple_depth null h = absurd h
  simple_depth (boolean b) h = absurd h
  simple_depth (number n) h = refl
  simple_depth (string s) h = refl
  simple_depth (array ds) h = ap suc (simple_items_depth ds h)
  simple_depth (object ms) h = absurd h

  simple_items_depth : (ds : Items) → AreSimple ds → tree.items_depth (items_outline ds) ≡ items_depth ds
  simple_items_depth no_items h = refl
  simple_items_depth (item d ds) h = rw (simple_depth d h.0, simple_items_depth ds h.1) refl

pub simple_text : (d : Data) → IsSimple d → depth d ≤ max_depth → IsText (compact_text d) d
simple_text d h shallow =
    let ts = tree.json_tokens (outline d) in
    let same : tokens (compact_text d) ≡ ts = ap tokens (sym (print-outline d)) ∙ tokens-print ts (ArePrintable-json_tokens (outline d) (simple_numbers d h)) in
    let grammar : json.value max_depth ts ≡ Some (outline d, []) =
    ap (json.value max_depth) (sym (append-nil ts)) ∙ value-json_tokens (outline d) max_depth [] (omega (arith, simple_depth d h)) in
    (IsUtf8-from_ascii (compact_text d) (ascii (compact_text d) (visible_text d h)), rw (same, grammar) (simple_json d h))
