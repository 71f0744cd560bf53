-- Choices are read from tokens as from values, word by word.
use Rattle.std.proofs.Common.{◌≡◌, ℕ, suc, List, [], ◌∷◌, ◌++◌, Bool, true, false, cond, Option, Some, None, option_map, option_and_then, refl, sym, ap, ◌∙◌}
use Rattle.std.specs.Prelude.{⊤, bytes_eq, codes}
use Rattle.std.proofs.lemmas.Slice.Eq.{bytes_eq-Decides}
use Rattle.json.specs.Token.{Token}
use Rattle.json.specs.Json.{Parse}
use Rattle.serde_json.specs.Data.{Data}
use Rattle.cap_goal_spec.specs.Choices.{PlainChoice, by_absurd, by_clash, by_set, by_alloc, by_assert, by_if, by_loop, by_turn, by_call, by_fork, by_return, by_enter, by_act, by_pick, by_settle, by_keep, by_give, by_fact, by_cases, by_cell, by_region, by_guard, by_convert, by_create, by_made}
use Rattle.cap_deriv_choices.specs.Reading.{row_of_word, number_of_json, numbers_of_json, cert_of_json, certs_of_json, marks_of_json, choices_of_none, choices_of_one, choices_of_two, choices_of_three, choice_of_items}
use Rattle.cap_deriv_choices.specs.Taking.{take_close, take_number, take_numbers, take_cert, take_certs, take_marks, take_none, take_one, take_two, take_three, take_by_three, take_by_two, take_by_one, take_by_word, take_closed, take_shift, take_choice}
use Rattle.cap_deriv_choices.proofs.ReadAs.{ReadsData, list_as, ReadsItems}
use Rattle.cap_deriv_choices.proofs.Parts.{ended, one_taken, two_taken, three_taken, of_none, of_one, of_two, of_three, none_read, one_read, two_read, three_read, same_items, refused_read, NoneAt, is_of_none, is_of_one, is_of_two, is_of_three, number_read, numbers_read, cert_read, certs_read, marks_read}
use Rattle.cap_deriv_choices.proofs.Shifts.{shift_read}

pub word_is : (w v : List ℕ) → bytes_eq w v ≡ true → w ≡ v
word_is w v e = (bytes_eq-Decides w v).0 e

-- a word, and how its arguments are read
abbrev Row : Type 0
Row = List ℕ × Parse PlainChoice

abbrev rows_at : List Token → List Row → List (List ℕ × Option (PlainChoice × List Token))
rows_at ts [] = []
rows_at ts (r ∷ rs) = (r.0, r.1 ts) ∷ rows_at ts rs

abbrev behind : Option (PlainChoice × List Token) → Option (PlainChoice × List Token)
behind o = option_and_then (λ (c : PlainChoice × List Token). option_and_then (λ (e : ⊤ × List Token). Some (c.0, e.1)) (take_close c.1)) o

abbrev RowReads : ℕ → Row → Type 0
RowReads d r = ReadsItems (choice_of_items r.0) d (λ ts. behind (r.1 ts))

abbrev AllRead : ℕ → List Row → Type 0
AllRead d [] = ⊤
AllRead d (r ∷ rs) = RowReads d r × AllRead d rs

-- the word is none of these
abbrev Absent : List ℕ → List (List ℕ) → Type 0
Absent w [] = ⊤
Absent w (v ∷ vs) = (bytes_eq w v ≡ false) × Absent w vs

abbrev words : List Row → List (List ℕ)
words [] = []
words (r ∷ rs) = r.0 ∷ words rs

rows_read : (d : ℕ) (rows : List Row) → AllRead d rows → (w : List ℕ) → ((xs : List Data) → Absent w (words rows) → choice_of_items w xs ≡ None)
    → ReadsItems (choice_of_items w) d (λ ts. behind (row_of_word w (rows_at ts rows)))
rows_read d [] h w none n ts le = refused_read (choice_of_items w) d (λ xs. none xs tt) n ts le
rows_read d (r ∷ rs) h w none n ts le = row_at (λ e. rows_read d rs h.1 w (λ xs absent. none xs (e, absent)) n ts le) (bytes_eq w r.0) refl
  where
    row_at : (bytes_eq w r.0 ≡ false → behind (row_of_word w (rows_at ts rs)) ≡ list_as (choice_of_items w) d n ts) → (t : Bool) → bytes_eq w r.0 ≡ t
        → behind (row_of_word w (rows_at ts (r ∷ rs))) ≡ list_as (choice_of_items w) d n ts
    row_at again true e = ap (λ (t : Bool). behind (cond t (r.1 ts) (row_of_word w (rows_at ts rs)))) e ∙ h.0 n ts le ∙ ap (λ v. list_as (choice_of_items v) d n ts) (sym (word_is w r.0 e))
    row_at again false e = ap (λ (t : Bool). behind (cond t (r.1 ts) (row_of_word w (rows_at ts rs)))) e ∙ again e

-- ---- a word that is in no row

abbrev firsts : {A : Type 0} → List (List ℕ × A) → List (List ℕ)
firsts [] = []
firsts (r ∷ rs) = r.0 ∷ firsts rs

row_none : (w : List ℕ) (rows : List (List ℕ × Option PlainChoice)) → Absent w (firsts rows) → row_of_word w rows ≡ None
row_none w [] h = refl
row_none w (r ∷ rs) h = ap (λ (t : Bool). cond t r.1 (row_of_word w rs)) h.0 ∙ row_none w rs h.1

absent_front : (w : List ℕ) (vs us : List (List ℕ)) → Absent w (vs ++ us) → Absent w vs
absent_front w [] us h = tt
absent_front w (v ∷ vs) us h = (h.0, absent_front w vs us h.1)

absent_back : (w : List ℕ) (vs us : List (List ℕ)) → Absent w (vs ++ us) → Absent w us
absent_back w [] us h = h
absent_back w (v ∷ vs) us h = absent_back w vs us h.1

abbrev words_of_none : List (List ℕ)
words_of_none = firsts choices_of_none

abbrev words_of_one : List (List ℕ)
words_of_one = codes "absurd" ∷ codes "assert" ∷ codes "keep" ∷ codes "fact" ∷ codes "create" ∷ codes "made" ∷ []

abbrev words_of_two : List (List ℕ)
words_of_two = codes "enter" ∷ codes "settle" ∷ codes "cell" ∷ codes "region" ∷ []

abbrev words_of_three : List (List ℕ)
words_of_three = codes "clash" ∷ codes "act" ∷ codes "pick" ∷ codes "guard" ∷ codes "convert" ∷ []

choice_none : (w : List ℕ) → bytes_eq w (codes "shift") ≡ false → Absent w (words_of_none ++ (words_of_one ++ (words_of_two ++ words_of_three))) → (xs : List Data) → choice_of_items w xs ≡ None
choice_none w unlike h [] = row_none w choices_of_none (absent_front w words_of_none (words_of_one ++ (words_of_two ++ words_of_three)) h)
choice_none w unlike h (a ∷ []) =
    let one = absent_back w words_of_none (words_of_one ++ (words_of_two ++ words_of_three)) h in
    let all = absent_front w words_of_one (words_of_two ++ words_of_three) one in
    row_none w (choices_of_one a) (all.0, (all.1.0, (unlike, all.1.1)))
choice_none w unlike h (a ∷ b ∷ []) =
    let one = absent_back w words_of_none (words_of_one ++ (words_of_two ++ words_of_three)) h in
    let two = absent_back w words_of_one (words_of_two ++ words_of_three) one in
    let all = absent_front w words_of_two words_of_three two in
    row_none w (choices_of_two a b) (all.0, (unlike, all.1))
choice_none w unlike h (a ∷ b ∷ c ∷ []) =
    let one = absent_back w words_of_none (words_of_one ++ (words_of_two ++ words_of_three)) h in
    let two = absent_back w words_of_one (words_of_two ++ words_of_three) one in
    row_none w (choices_of_three a b c) (absent_back w words_of_two words_of_three two)
choice_none w unlike h (a ∷ b ∷ c ∷ d ∷ ds) = refl

-- ---- a row

behind_one : {A : Type 0} (k : A → PlainChoice) (o : Option (A × List Token))
    → behind (option_and_then (λ (a : A × List Token). Some (k a.0, a.1)) o) ≡ option_and_then (λ (a : A × List Token). ended (k a.0) a.1) o
behind_one k None = refl
behind_one k (Some a) = refl

behind_two : {A B : Type 0} (k : A → B → PlainChoice) (q : Parse B) (o : Option (A × List Token))
    → behind (option_and_then (λ (a : A × List Token). take_one (k a.0) q a.1) o) ≡ option_and_then (λ (a : A × List Token). one_taken (k a.0) q a.1) o
behind_two k q None = refl
behind_two k q (Some a) = behind_one (k a.0) (q a.1)

behind_three : {A B C : Type 0} (k : A → B → C → PlainChoice) (q : Parse B) (r : Parse C) (o : Option (A × List Token))
    → behind (option_and_then (λ (a : A × List Token). take_two (k a.0) q r a.1) o) ≡ option_and_then (λ (a : A × List Token). two_taken (k a.0) q r a.1) o
behind_three k q r None = refl
behind_three k q r (Some a) = behind_two (k a.0) r (q a.1)

-- the word has no row for this many arguments
abbrev NoneOfTwo : List ℕ → Type 0
NoneOfTwo w = (x y : Data) → choice_of_items w (x ∷ y ∷ []) ≡ None

abbrev NoneOfThree : List ℕ → Type 0
NoneOfThree w = (x y z : Data) → choice_of_items w (x ∷ y ∷ z ∷ []) ≡ None

more_than_none : (w : List ℕ) → ((x : Data) → choice_of_items w (x ∷ []) ≡ None) → NoneOfTwo w → NoneOfThree w → NoneAt (choice_of_items w)
more_than_none w one two three x [] = one x
more_than_none w one two three x (y ∷ []) = two x y
more_than_none w one two three x (y ∷ z ∷ []) = three x y z
more_than_none w one two three x (y ∷ z ∷ u ∷ us) = refl

more_than_one : (w : List ℕ) → NoneOfTwo w → NoneOfThree w → (x : Data) → NoneAt (λ xs. choice_of_items w (x ∷ xs))
more_than_one w two three x y [] = two x y
more_than_one w two three x y (z ∷ []) = three x y z
more_than_one w two three x y (z ∷ u ∷ us) = refl

more_than_two : (w : List ℕ) → NoneOfThree w → (x y : Data) → NoneAt (λ xs. choice_of_items w (x ∷ y ∷ xs))
more_than_two w three x y z [] = three x y z
more_than_two w three x y z (u ∷ us) = refl

module _ (d : ℕ) (w : List ℕ) where
  row_of_none : (k : PlainChoice) → choice_of_items w [] ≡ Some k → ((x : Data) → choice_of_items w (x ∷ []) ≡ None) → NoneOfTwo w → NoneOfThree w → RowReads d (w, take_none k)
  row_of_none k none one two three = same_items (of_none k) (choice_of_items w) d (ended k) (is_of_none (choice_of_items w) k none (more_than_none w one two three)) (none_read k d)

  row_of_one : {A : Type 0} (k : A → PlainChoice) (f : Data → Option A) (p : Parse A) → ReadsData f d p → choice_of_items w [] ≡ None → ((x : Data) → choice_of_items w (x ∷ []) ≡ option_map k (f x)) → NoneOfTwo w → NoneOfThree w
      → RowReads d (w, take_one k p)
  row_of_one k f p same none one two three n ts le =
      behind_one k (p ts)
      ∙ same_items (of_one k f) (choice_of_items w) d (one_taken k p) (is_of_one (choice_of_items w) k f none one (more_than_one w two three)) (one_read k f p d same) n ts le

  row_of_two : {A B : Type 0} (k : A → B → PlainChoice) (f : Data → Option A) (g : Data → Option B) (p : Parse A) (q : Parse B) → ReadsData f d p → ReadsData g d q
      → choice_of_items w [] ≡ None → ((x : Data) → choice_of_items w (x ∷ []) ≡ None) → ((x y : Data) → choice_of_items w (x ∷ y ∷ []) ≡ option_and_then (λ a. option_map (k a) (g y)) (f x)) → NoneOfThree w
      → RowReads d (w, take_two k p q)
  row_of_two k f g p q same next none one two three n ts le =
      behind_two k q (p ts)
      ∙ same_items (of_two k f g) (choice_of_items w) d (two_taken k p q) (is_of_two (choice_of_items w) k f g none one two (more_than_two w three)) (two_read k f g p q d same next) n ts le

  row_of_three : {A B C : Type 0} (k : A → B → C → PlainChoice) (f : Data → Option A) (g : Data → Option B) (h : Data → Option C) (p : Parse A) (q : Parse B) (r : Parse C) → ReadsData f d p → ReadsData g d q → ReadsData h d r
      → choice_of_items w [] ≡ None → ((x : Data) → choice_of_items w (x ∷ []) ≡ None) → NoneOfTwo w
      → ((x y z : Data) → choice_of_items w (x ∷ y ∷ z ∷ []) ≡ option_and_then (λ a. option_and_then (λ b. option_map (k a b) (h z)) (g y)) (f x))
      → RowReads d (w, take_three k p q r)
  row_of_three k f g h p q r same next last none one two three n ts le =
      behind_three k q r (p ts)
      ∙ same_items (of_three k f g h) (choice_of_items w) d (three_taken k p q r) (is_of_three (choice_of_items w) k f g h none one two three (λ x y z u us. refl)) (three_read k f g h p q r d same next last) n ts le

-- ---- all of them

infixr 10 ◌▹◌
abbrev ◌▹◌ : {P Q : Type 0} → P → Q → P × Q
p ▹ q = (p, q)

abbrev choice_rows : List Row
choice_rows =
    (codes "set", take_none by_set)
    ∷ (codes "alloc", take_none by_alloc)
    ∷ (codes "if", take_none by_if)
    ∷ (codes "loop", take_none by_loop)
    ∷ (codes "turn", take_none by_turn)
    ∷ (codes "call", take_none by_call)
    ∷ (codes "fork", take_none by_fork)
    ∷ (codes "return", take_none by_return)
    ∷ (codes "give", take_none by_give)
    ∷ (codes "cases", take_none by_cases)
    ∷ (codes "absurd", take_one by_absurd take_cert)
    ∷ (codes "assert", take_one by_assert take_certs)
    ∷ (codes "keep", take_one by_keep take_certs)
    ∷ (codes "fact", take_one by_fact take_certs)
    ∷ (codes "create", take_one by_create take_number)
    ∷ (codes "made", take_one by_made take_certs)
    ∷ (codes "enter", take_two by_enter take_number take_certs)
    ∷ (codes "settle", take_two by_settle take_numbers take_certs)
    ∷ (codes "cell", take_two by_cell take_number take_certs)
    ∷ (codes "region", take_two by_region take_number take_certs)
    ∷ (codes "clash", take_three by_clash take_number take_number take_certs)
    ∷ (codes "act", take_three by_act take_number take_certs take_marks)
    ∷ (codes "pick", take_three by_pick take_number take_number take_number)
    ∷ (codes "guard", take_three by_guard take_number take_number take_certs)
    ∷ (codes "convert", take_three by_convert take_number take_number take_certs)
    ∷ []

module _ (d : ℕ) where
  abbrev deep : ℕ
  deep = suc (suc (suc (suc d)))

  all_rows : AllRead deep choice_rows
  all_rows =
      row_of_none deep (codes "set") by_set refl (λ x. refl) (λ x y. refl) (λ x y z. refl)
      ▹ row_of_none deep (codes "alloc") by_alloc refl (λ x. refl) (λ x y. refl) (λ x y z. refl)
      ▹ row_of_none deep (codes "if") by_if refl (λ x. refl) (λ x y. refl) (λ x y z. refl)
      ▹ row_of_none deep (codes "loop") by_loop refl (λ x. refl) (λ x y. refl) (λ x y z. refl)
      ▹ row_of_none deep (codes "turn") by_turn refl (λ x. refl) (λ x y. refl) (λ x y z. refl)
      ▹ row_of_none deep (codes "call") by_call refl (λ x. refl) (λ x y. refl) (λ x y z. refl)
      ▹ row_of_none deep (codes "fork") by_fork refl (λ x. refl) (λ x y. refl) (λ x y z. refl)
      ▹ row_of_none deep (codes "return") by_return refl (λ x. refl) (λ x y. refl) (λ x y z. refl)
      ▹ row_of_none deep (codes "give") by_give refl (λ x. refl) (λ x y. refl) (λ x y z. refl)
      ▹ row_of_none deep (codes "cases") by_cases refl (λ x. refl) (λ x y. refl) (λ x y z. refl)
      ▹ row_of_one deep (codes "absurd") by_absurd cert_of_json take_cert (cert_read (suc d)) refl (λ x. refl) (λ x y. refl) (λ x y z. refl)
      ▹ row_of_one deep (codes "assert") by_assert certs_of_json take_certs (certs_read d) refl (λ x. refl) (λ x y. refl) (λ x y z. refl)
      ▹ row_of_one deep (codes "keep") by_keep certs_of_json take_certs (certs_read d) refl (λ x. refl) (λ x y. refl) (λ x y z. refl)
      ▹ row_of_one deep (codes "fact") by_fact certs_of_json take_certs (certs_read d) refl (λ x. refl) (λ x y. refl) (λ x y z. refl)
      ▹ row_of_one deep (codes "create") by_create number_of_json take_number (number_read deep) refl (λ x. refl) (λ x y. refl) (λ x y z. refl)
      ▹ row_of_one deep (codes "made") by_made certs_of_json take_certs (certs_read d) refl (λ x. refl) (λ x y. refl) (λ x y z. refl)
      ▹ row_of_two deep (codes "enter") by_enter number_of_json certs_of_json take_number take_certs (number_read deep) (certs_read d) refl (λ x. refl) (λ x y. refl) (λ x y z. refl)
      ▹ row_of_two deep (codes "settle") by_settle numbers_of_json certs_of_json take_numbers take_certs (numbers_read (suc (suc (suc d)))) (certs_read d) refl (λ x. refl) (λ x y. refl) (λ x y z. refl)
      ▹ row_of_two deep (codes "cell") by_cell number_of_json certs_of_json take_number take_certs (number_read deep) (certs_read d) refl (λ x. refl) (λ x y. refl) (λ x y z. refl)
      ▹ row_of_two deep (codes "region") by_region number_of_json certs_of_json take_number take_certs (number_read deep) (certs_read d) refl (λ x. refl) (λ x y. refl) (λ x y z. refl)
      ▹ row_of_three deep (codes "clash") by_clash number_of_json number_of_json certs_of_json take_number take_number take_certs (number_read deep) (number_read deep) (certs_read d) refl (λ x. refl) (λ x y. refl) (λ x y z. refl)
      ▹ row_of_three deep (codes "act") by_act number_of_json certs_of_json marks_of_json take_number take_certs take_marks (number_read deep) (certs_read d) (marks_read d) refl (λ x. refl) (λ x y. refl) (λ x y z. refl)
      ▹ row_of_three deep (codes "pick") by_pick number_of_json number_of_json number_of_json take_number take_number take_number (number_read deep) (number_read deep) (number_read deep) refl (λ x. refl) (λ x y. refl) (λ x y z. refl)
      ▹ row_of_three deep (codes "guard") by_guard number_of_json number_of_json certs_of_json take_number take_number take_certs (number_read deep) (number_read deep) (certs_read d) refl (λ x. refl) (λ x y. refl) (λ x y z. refl)
      ▹ row_of_three deep (codes "convert") by_convert number_of_json number_of_json certs_of_json take_number take_number take_certs (number_read deep) (number_read deep) (certs_read d) refl (λ x. refl) (λ x y. refl) (λ x y z. refl)
      ▹ tt

  closed_read : (w : List ℕ) → bytes_eq w (codes "shift") ≡ false → ReadsItems (choice_of_items w) deep (take_closed w)
  unfolding take_by_word take_by_one take_by_two take_by_three
  closed_read w unlike = rows_read deep choice_rows all_rows w (λ xs absent. choice_none w unlike absent xs)

  pub choice_read : (w : List ℕ) → ReadsItems (choice_of_items w) deep (take_choice w)
  choice_read w n ts le = at (bytes_eq w (codes "shift")) refl
    where
      at : (t : Bool) → bytes_eq w (codes "shift") ≡ t → take_choice w ts ≡ list_as (choice_of_items w) deep n ts
      at true e =
          ap (λ (t : Bool). cond t (take_shift ts) (take_closed w ts)) e
          ∙ shift_read d n ts le
          ∙ ap (λ v. list_as (choice_of_items v) deep n ts) (sym (word_is w (codes "shift") e))
      at false e = ap (λ (t : Bool). cond t (take_shift ts) (take_closed w ts)) e ∙ closed_read w e n ts le
