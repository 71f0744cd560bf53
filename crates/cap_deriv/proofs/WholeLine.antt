-- A line is read from its tokens as from its value.
use Rattle.std.proofs.Common.{◌≡◌, ℕ, suc, ◌==◌, List, [], ◌∷◌, length, Bool, true, false, cond, Option, Some, None, option_map, option_and_then, refl, sym, ap, ◌∙◌, arith}
use Rattle.std.specs.Prelude.{bytes_eq, codes}
use Rattle.std.specs.Str.{is_utf8}
use Rattle.json.specs.Token.{Token}
use Rattle.json.specs.Json as json
use Rattle.json.specs.Json.{Parse, parse_map, if_last, value}
use Rattle.json.specs.Lex.{tokens}
use Rattle.serde_json.specs.Data.{Data, Items}
use Rattle.serde_json.specs.Find.{as_str}
use Rattle.serde_json.specs.Read.{of_json, converted, read}
use Rattle.cap_deriv_choices.specs.Reading.{data_items, long_of_json, number_of_json, head_of_items, choice_of_items}
use Rattle.cap_deriv_choices.specs.Taking.{take_long, take_number, take_text, take_choice}
use Rattle.cap_deriv_choices.proofs.ReadAs.{with_rest, data_as, ReadsData, list_as, ReadsItems, long_reads, text_reads, item_reads, array_reads}
use Rattle.cap_deriv_choices.proofs.Parts.{of_one, ended, one_read, same_items, map_read, cond_read, refused_read, is_of_one, head_read, number_read, last_map, nothing, under}
use Rattle.cap_deriv_choices.proofs.Words.{word_is, choice_read}
use Rattle.cap_deriv.specs.Reading.{opening_of_items, opening_by_word, opening_of_json, closing_of_items, closing_by_word, json_of_bytes}
use Rattle.cap_deriv.specs.Told.{PlainLine, choice_line, end_line, or_end_line, line_of_json, line_of_bytes}
use Rattle.cap_deriv.specs.Taking.{take_closing, take_line_by_word, take_line, take_version_and_trees, take_opening_by_word, take_opening, if_alone}

same_map : {A : Type 0} (o : Option A) → o ≡ option_map (λ a. a) o
same_map None = refl
same_map (Some a) = refl

-- ---- the last line, and a node's

closing_read : (d : ℕ) → ReadsItems closing_of_items d take_closing
closing_read d =
    same_items (of_one (λ n. n) long_of_json) closing_of_items d take_closing
    (is_of_one closing_of_items (λ n. n) long_of_json refl (λ x. same_map (long_of_json x)) (λ x y ys. refl))
    (one_read (λ n. n) long_of_json take_long d (long_reads d))

abbrev line_by_word : List ℕ → List Data → Option PlainLine
line_by_word w xs = or_end_line (option_map choice_line (choice_of_items w xs)) (option_map end_line (closing_by_word w xs))

end_line_is : (xs : List Data) → option_map end_line (closing_of_items xs) ≡ line_by_word (codes "end") xs
end_line_is [] = refl
end_line_is (a ∷ []) = refl
end_line_is (a ∷ b ∷ []) = refl
end_line_is (a ∷ b ∷ c ∷ []) = refl
end_line_is (a ∷ b ∷ c ∷ d ∷ ds) = refl

or_none : (o : Option PlainLine) → o ≡ or_end_line o None
or_none None = refl
or_none (Some l) = refl

choice_line_is : (w : List ℕ) (xs : List Data) → bytes_eq w (codes "end") ≡ false → option_map choice_line (choice_of_items w xs) ≡ line_by_word w xs
choice_line_is w xs e =
    or_none (option_map choice_line (choice_of_items w xs))
    ∙ sym (ap (λ (t : Bool). or_end_line (option_map choice_line (choice_of_items w xs)) (option_map end_line (cond t (closing_of_items xs) None))) e)

module _ (d : ℕ) where
  abbrev deep : ℕ
  deep = suc (suc (suc (suc d)))

  line_by_word_read : (w : List ℕ) → ReadsItems (line_by_word w) deep (take_line_by_word w)
  line_by_word_read w n ts le = at (bytes_eq w (codes "end")) refl
    where
      at : (t : Bool) → bytes_eq w (codes "end") ≡ t → take_line_by_word w ts ≡ list_as (line_by_word w) deep n ts
      at true e =
          ap (λ (t : Bool). cond t (parse_map end_line (take_closing ts)) (parse_map choice_line (take_choice w ts))) e
          ∙ same_items (λ xs. option_map end_line (closing_of_items xs)) (line_by_word (codes "end")) deep (λ us. parse_map end_line (take_closing us)) end_line_is (map_read end_line closing_of_items deep take_closing (closing_read deep)) n ts le
          ∙ ap (λ v. list_as (line_by_word v) deep n ts) (sym (word_is w (codes "end") e))
      at false e =
          ap (λ (t : Bool). cond t (parse_map end_line (take_closing ts)) (parse_map choice_line (take_choice w ts))) e
          ∙ same_items (λ xs. option_map choice_line (choice_of_items w xs)) (line_by_word w) deep (λ us. parse_map choice_line (take_choice w us)) (λ xs. choice_line_is w xs e) (map_read choice_line (choice_of_items w) deep (take_choice w) (choice_read d w)) n ts le

  abbrev line_of_items : List Data → Option PlainLine
  line_of_items xs =
      or_end_line
      (option_map choice_line (option_and_then (λ h. choice_of_items h.0 h.1) (head_of_items xs)))
      (option_map end_line (option_and_then (λ h. closing_by_word h.0 h.1) (head_of_items xs)))

  abbrev line_of_array : Option Items → Option PlainLine
  line_of_array o =
      or_end_line
      (option_map choice_line (option_and_then (λ h. choice_of_items h.0 h.1) (option_and_then head_of_items (option_map data_items o))))
      (option_map end_line (option_and_then (λ h. closing_by_word h.0 h.1) (option_and_then head_of_items (option_map data_items o))))

  headed_line : (xs : List Data) (o : Option (List ℕ))
      → or_end_line (option_map choice_line (option_and_then (λ (h : List ℕ × List Data). choice_of_items h.0 h.1) (option_map (λ s. (s, xs)) o)))
      (option_map end_line (option_and_then (λ (h : List ℕ × List Data). closing_by_word h.0 h.1) (option_map (λ s. (s, xs)) o)))
      ≡ option_and_then (λ w. line_by_word w xs) o
  headed_line xs None = refl
  headed_line xs (Some w) = refl

  line_items_read : ReadsItems line_of_items deep (λ ts. option_and_then (λ (w : List ℕ × List Token). take_line_by_word w.0 w.1) (take_text ts))
  line_items_read = item_reads as_str line_of_items line_by_word take_line_by_word deep (λ x xs. headed_line xs (as_str x)) line_by_word_read refl take_text (text_reads deep)

  line_read : ReadsData line_of_json (suc deep) take_line
  line_read =
      array_reads line_of_array line_of_items (λ ds. refl) deep (λ ts. option_and_then (λ (w : List ℕ × List Token). take_line_by_word w.0 w.1) (take_text ts)) refl
      (λ ts. line_items_read (length ts) ts (omega arith))

-- ---- the first line

abbrev trees_if : Bool → List Data → Option ℕ
trees_if t xs = cond t (of_one (λ n. n) number_of_json xs) None

abbrev take_trees_if : Bool → Parse ℕ
take_trees_if t ts = option_and_then (λ (n : ℕ × List Token). ended n.0 n.1) (cond t (take_number ts) None)

abbrev no_trees : Option ℕ
no_trees = None

none_if : (t : Bool) → cond t no_trees no_trees ≡ no_trees
none_if true = refl
none_if false = refl

both_if : (t : Bool) (o u : Option ℕ) → o ≡ u → cond t o None ≡ cond t u None
both_if t o u e = ap (λ v. cond t v None) e

trees_step : (x : Data) (xs : List Data) → opening_of_items (x ∷ xs) ≡ option_and_then (λ k. trees_if (k == 1) xs) (number_of_json x)
trees_step x [] = sym (under (λ k. trees_if (k == 1) []) (λ k. None) (λ k. none_if (k == 1)) (number_of_json x) ∙ nothing (number_of_json x))
trees_step x (y ∷ []) =
    under (λ k. cond (k == 1) (number_of_json y) None) (λ k. trees_if (k == 1) (y ∷ []))
    (λ k. both_if (k == 1) (number_of_json y) (of_one (λ n. n) number_of_json (y ∷ [])) (same_map (number_of_json y) ∙ sym (last_map (λ n. n) (number_of_json y)))) (number_of_json x)
trees_step x (y ∷ z ∷ zs) =
    sym (under (λ k. trees_if (k == 1) (y ∷ z ∷ zs)) (λ k. None) (λ k. both_if (k == 1) (of_one (λ n. n) number_of_json (y ∷ z ∷ zs)) None (nothing (number_of_json y)) ∙ none_if (k == 1)) (number_of_json x) ∙ nothing (number_of_json x))

trees_read : (d : ℕ) (t : Bool) → ReadsItems (trees_if t) d (take_trees_if t)
trees_read d true = one_read (λ n. n) number_of_json take_number d (number_read d)
trees_read d false = refused_read (trees_if false) d (λ xs. refl)

version_read : (d : ℕ) → ReadsItems opening_of_items d take_version_and_trees
version_read d = item_reads number_of_json opening_of_items (λ k. trees_if (k == 1)) (λ k. take_trees_if (k == 1)) d trees_step (λ k. trees_read d (k == 1)) refl take_number (number_read d)

opening_items_read : (d : ℕ) → ReadsItems (λ xs. option_and_then (λ h. opening_by_word h.0 h.1) (head_of_items xs)) d (λ ts. option_and_then (λ (w : List ℕ × List Token). take_opening_by_word w.0 w.1) (take_text ts))
opening_items_read d =
    head_read opening_by_word take_opening_by_word d
    (λ w. cond_read (bytes_eq w (codes "caper")) opening_of_items (λ xs. None) d take_version_and_trees (λ ts. None) (version_read d) (refused_read (λ xs. None) d (λ xs. refl)))

abbrev opening_of_array : Option Items → Option ℕ
opening_of_array o = option_and_then (λ h. opening_by_word h.0 h.1) (option_and_then head_of_items (option_map data_items o))

opening_read : (d : ℕ) → ReadsData opening_of_json (suc d) take_opening
opening_read d =
    array_reads opening_of_array (λ xs. option_and_then (λ h. opening_by_word h.0 h.1) (head_of_items xs)) (λ ds. refl) d (λ ts. option_and_then (λ (w : List ℕ × List Token). take_opening_by_word w.0 w.1) (take_text ts)) refl
    (λ ts. opening_items_read d (length ts) ts (omega arith))

-- ---- a whole text

module _ {A : Type 0} (f : Data → Option A) where
  alone_value : (o : Option A) → if_alone (with_rest [] o) ≡ o
  alone_value None = refl
  alone_value (Some a) = refl

  not_alone : (t : Token) (ts : List Token) (o : Option A) → if_alone (with_rest (t ∷ ts) o) ≡ None
  not_alone t ts None = refl
  not_alone t ts (Some a) = refl

  alone_at : (v : Option (json.Json × List Token)) → if_alone (converted (data_as f) v) ≡ option_and_then f (option_and_then of_json (option_and_then (λ q. if_last q.0 q.1) v))
  alone_at None = refl
  alone_at (Some (j, [])) = alone_value (option_and_then f (of_json j))
  alone_at (Some (j, t ∷ ts)) = not_alone t ts (option_and_then f (of_json j))

  text_as : (p : Parse A) → ReadsData f 127 p → (b : List ℕ) → is_utf8 b ≡ true → if_alone (p (tokens b)) ≡ option_and_then f (json_of_bytes b)
  text_as p same b e = ap if_alone (same (tokens b)) ∙ alone_at (value 127 (tokens b)) ∙ sym (ap (λ (t : Bool). option_and_then f (cond t (read b) None)) e)

pub line_is : (b : List ℕ) → is_utf8 b ≡ true → if_alone (take_line (tokens b)) ≡ line_of_bytes b
line_is = text_as line_of_json take_line (line_read 122)

pub opening_is : (b : List ℕ) → is_utf8 b ≡ true → if_alone (take_opening (tokens b)) ≡ option_and_then opening_of_json (json_of_bytes b)
opening_is = text_as opening_of_json take_opening (opening_read 126)
