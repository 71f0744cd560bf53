-- Choices, and the first and the last line, are read from the forms that they are written in alone.
use Rattle.std.proofs.Common.{◌≡◌, ℕ, cond, inl, inr, List, [], ◌∷◌, Some, None, option_map, option_and_then, refl, ap, subst, ◌∙◌}
use Rattle.std.specs.Prelude.{codes, ◌==◌}
use Rattle.std.specs.List.{AllByRecursion}
use Rattle.std.specs.Str.{bytes_eq}
use Rattle.std.proofs.lemmas.Bool.{eqb-true}
use Rattle.serde_json.specs.Data.{Data}
use Rattle.cap_farkas.specs.declared.cert.Cert.{Cert}
use Rattle.cap_goal_spec.specs.Choices.{PlainChoice, by_absurd, by_clash, by_set, by_alloc, by_assert, by_if, by_loop, by_turn, by_call, by_fork, by_return, by_enter, by_act, by_pick, by_shift, by_settle, by_keep, by_give, by_fact, by_cases, by_cell, by_region, by_guard, by_convert, by_create, by_made}
use Rattle.cap_deriv_choices.specs.Reading.{number_of_json, numbers_of_json, cert_of_json, certs_of_json, marks_of_json, unless_empty, spans_of_json, choices_of_none, choices_of_one, choices_of_two, choices_of_three, choice_of_items, choice_of_json, head_of_json}
use Rattle.cap_deriv.specs.Reading.{opening_of_items, opening_by_word, opening_of_json, closing_of_items, closing_by_word, closing_of_json}
use Rattle.cap_deriv_write.specs.Bounds.{IsNumber, IsCert, AreCerts, IsMark, IsChoice}
use Rattle.cap_deriv_write.specs.Forms.{headed_form, number_form, numbers_form, cert_form, certs_form, marks_form, choice_form, opening_form, closing_form}
use Rattle.cap_deriv_write.proofs.Options.{some_same, then_of, test_of}
use Rattle.cap_deriv_write.proofs.Parts.{number_read, number_sound, numbers_read, numbers_sound, long_sound, head_sound}
use Rattle.cap_deriv_write.proofs.CertForms.{cert_read, cert_sound, certs_read, certs_sound, marks_read, marks_sound, headed_as}
use Rattle.cap_deriv_write.proofs.Rows.{Spells, IsSoundRow, rows_sound, row_of_none, row_of_one, row_of_two, row_of_three}

-- ---- what is written is read

pub choice_read : (c : PlainChoice) → IsChoice c → choice_of_json (choice_form c) ≡ Some c
choice_read (by_absurd c) h = ap (option_map by_absurd) (cert_read c h)
choice_read (by_clash i j cs) h = rw (number_read i h.0, number_read j h.1, certs_read cs h.2) refl
choice_read by_set h = refl
choice_read by_alloc h = refl
choice_read (by_assert cs) h = ap (option_map by_assert) (certs_read cs h)
choice_read by_if h = refl
choice_read by_loop h = refl
choice_read by_turn h = refl
choice_read by_call h = refl
choice_read by_fork h = refl
choice_read by_return h = refl
choice_read (by_enter i cs) h = rw (number_read i h.0, certs_read cs h.1) refl
choice_read (by_act j cs ms) h = rw (number_read j h.0, certs_read cs h.1, marks_read ms h.2) refl
choice_read (by_pick o c m) h = rw (number_read o h.0, number_read c h.1, number_read m h.2) refl
choice_read (by_shift cs []) h = ap (option_map (λ cs. by_shift cs [])) (certs_read cs h.0)
choice_read (by_shift cs (n ∷ ns)) h =
    ap (option_and_then (λ cs. option_map (by_shift cs) (spans_of_json (numbers_form (n ∷ ns))))) (certs_read cs h.0)
    ∙ ap (λ o. option_map (by_shift cs) (option_and_then unless_empty o)) (numbers_read (n ∷ ns) h.1)
choice_read (by_settle ns cs) h = rw (numbers_read ns h.0, certs_read cs h.1) refl
choice_read (by_keep cs) h = ap (option_map by_keep) (certs_read cs h)
choice_read by_give h = refl
choice_read (by_fact cs) h = ap (option_map by_fact) (certs_read cs h)
choice_read by_cases h = refl
choice_read (by_cell j cs) h = rw (number_read j h.0, certs_read cs h.1) refl
choice_read (by_region j cs) h = rw (number_read j h.0, certs_read cs h.1) refl
choice_read (by_guard j way cs) h = rw (number_read j h.0, number_read way h.1, certs_read cs h.2) refl
choice_read (by_convert n side cs) h = rw (number_read n h.0, number_read side h.1, certs_read cs h.2) refl
choice_read (by_create c) h = ap (option_map by_create) (number_read c h)
choice_read (by_made cs) h = ap (option_map by_made) (certs_read cs h)

pub opening_read : (t : ℕ) → IsNumber t → opening_of_json (opening_form t) ≡ Some t
opening_read t h = number_read t h

pub closing_read : (n : ℕ) → closing_of_json (closing_form n) ≡ Some n
closing_read n = refl

-- ---- what is read is of the form

proved_row : (make : List Cert → PlainChoice) (w : List ℕ) → ((cs : List Cert) → AreCerts cs → Spells (headed_form w (certs_form cs ∷ [])) (make cs))
    → (a : Data) → IsSoundRow (a ∷ []) (w, option_map make (certs_of_json a))
proved_row = row_of_one certs_of_json certs_form AreCerts certs_sound

numbered_row : (make : ℕ → List Cert → PlainChoice) (w : List ℕ)
    → ((n : ℕ) (cs : List Cert) → IsNumber n → AreCerts cs → Spells (headed_form w (number_form n ∷ certs_form cs ∷ [])) (make n cs))
    → (a b : Data) → IsSoundRow (a ∷ b ∷ []) (w, option_and_then (λ n. option_map (make n) (certs_of_json b)) (number_of_json a))
numbered_row = row_of_two number_of_json number_form IsNumber number_sound certs_of_json certs_form AreCerts certs_sound

twice_numbered_row : (make : ℕ → ℕ → List Cert → PlainChoice) (w : List ℕ)
    → ((n m : ℕ) (cs : List Cert) → IsNumber n → IsNumber m → AreCerts cs → Spells (headed_form w (number_form n ∷ number_form m ∷ certs_form cs ∷ [])) (make n m cs))
    → (a b c : Data) → IsSoundRow (a ∷ b ∷ c ∷ []) (w, option_and_then (λ n. option_and_then (λ m. option_map (make n m) (certs_of_json c)) (number_of_json b)) (number_of_json a))
twice_numbered_row =
    row_of_three number_of_json number_form IsNumber number_sound number_of_json number_form IsNumber number_sound certs_of_json certs_form AreCerts certs_sound

-- the pieces that a shift names, of which there are some
abbrev AreSpans : List ℕ → Type 0
AreSpans [] = ⊥
AreSpans (n ∷ ns) = AllByRecursion IsNumber (n ∷ ns)

spans_sound : (d : Data) (ns : List ℕ) → spans_of_json d ≡ Some ns → (d ≡ numbers_form ns) × AreSpans ns
spans_sound d ns e =
    let t = then_of unless_empty (numbers_of_json d) ns e in
    go t.0 (numbers_sound d t.0 t.1) t.2
  where
    go : (ms : List ℕ) → (d ≡ numbers_form ms) × AllByRecursion IsNumber ms → unless_empty ms ≡ Some ns → (d ≡ numbers_form ns) × AreSpans ns
    go [] s e = absurd (cc)
    go (m ∷ ms) s e = let same : m ∷ ms ≡ ns = some_same _ _ e in (s.0 ∙ ap numbers_form same, subst AreSpans same s.1)

shift_spelled : (cs : List Cert) (ns : List ℕ) → AreCerts cs → AreSpans ns → Spells (headed_form (codes "shift") (certs_form cs ∷ numbers_form ns ∷ [])) (by_shift cs ns)
shift_spelled cs [] h k = absurd k
shift_spelled cs (n ∷ ns) h k = (refl, (h, k))

none_sound : AllByRecursion (IsSoundRow []) choices_of_none
none_sound = (
  row_of_none by_set (codes "set") (refl, tt),
  (
    row_of_none by_alloc (codes "alloc") (refl, tt),
    (
      row_of_none by_if (codes "if") (refl, tt),
      (
        row_of_none by_loop (codes "loop") (refl, tt),
        (
          row_of_none by_turn (codes "turn") (refl, tt),
          (
            row_of_none by_call (codes "call") (refl, tt),
            (
              row_of_none by_fork (codes "fork") (refl, tt),
              (
                row_of_none by_return (codes "return") (refl, tt),
                (
                  row_of_none by_give (codes "give") (refl, tt),
                  (row_of_none by_cases (codes "cases") (refl, tt), tt),
                ),
              ),
            ),
          ),
        ),
      ),
    ),
  ),
)

one_sound : (a : Data) → AllByRecursion (IsSoundRow (a ∷ [])) (choices_of_one a)
one_sound a = (
  row_of_one cert_of_json cert_form IsCert cert_sound by_absurd (codes "absurd") (λ c h. (refl, h)) a,
  (
    proved_row by_assert (codes "assert") (λ cs h. (refl, h)) a,
    (
      proved_row (λ cs. by_shift cs []) (codes "shift") (λ cs h. (refl, (h, tt))) a,
      (
        proved_row by_keep (codes "keep") (λ cs h. (refl, h)) a,
        (
          proved_row by_fact (codes "fact") (λ cs h. (refl, h)) a,
          (
            row_of_one number_of_json number_form IsNumber number_sound by_create (codes "create") (λ c h. (refl, h)) a,
            (proved_row by_made (codes "made") (λ cs h. (refl, h)) a, tt),
          ),
        ),
      ),
    ),
  ),
)

two_sound : (a b : Data) → AllByRecursion (IsSoundRow (a ∷ b ∷ [])) (choices_of_two a b)
two_sound a b = (
  numbered_row by_enter (codes "enter") (λ n cs h k. (refl, (h, k))) a b,
  (
    row_of_two certs_of_json certs_form AreCerts certs_sound spans_of_json numbers_form AreSpans spans_sound by_shift (codes "shift") shift_spelled a b,
    (
      row_of_two numbers_of_json numbers_form (AllByRecursion IsNumber) numbers_sound certs_of_json certs_form AreCerts certs_sound by_settle (codes "settle") (λ ns cs h k. (refl, (h, k))) a b,
      (
        numbered_row by_cell (codes "cell") (λ n cs h k. (refl, (h, k))) a b,
        (numbered_row by_region (codes "region") (λ n cs h k. (refl, (h, k))) a b, tt),
      ),
    ),
  ),
)

three_sound : (a b c : Data) → AllByRecursion (IsSoundRow (a ∷ b ∷ c ∷ [])) (choices_of_three a b c)
three_sound a b c = (
  twice_numbered_row by_clash (codes "clash") (λ n m cs h i k. (refl, (h, i, k))) a b c,
  (
    row_of_three number_of_json number_form IsNumber number_sound certs_of_json certs_form AreCerts certs_sound marks_of_json marks_form (AllByRecursion IsMark) marks_sound
        by_act (codes "act") (λ j cs ms h i k. (refl, (h, i, k))) a b c,
    (
      row_of_three number_of_json number_form IsNumber number_sound number_of_json number_form IsNumber number_sound number_of_json number_form IsNumber number_sound
          by_pick (codes "pick") (λ o n m h i k. (refl, (h, i, k))) a b c,
      (
        twice_numbered_row by_guard (codes "guard") (λ n m cs h i k. (refl, (h, i, k))) a b c,
        (twice_numbered_row by_convert (codes "convert") (λ n m cs h i k. (refl, (h, i, k))) a b c, tt),
      ),
    ),
  ),
)

choice_items_sound : (w : List ℕ) (ds : List Data) (c : PlainChoice) → choice_of_items w ds ≡ Some c → Spells (headed_form w ds) c
choice_items_sound w [] c e = rows_sound w [] choices_of_none none_sound c e
choice_items_sound w (a ∷ []) c e = rows_sound w (a ∷ []) (choices_of_one a) (one_sound a) c e
choice_items_sound w (a ∷ b ∷ []) c e = rows_sound w (a ∷ b ∷ []) (choices_of_two a b) (two_sound a b) c e
choice_items_sound w (a ∷ b ∷ d ∷ []) c e = rows_sound w (a ∷ b ∷ d ∷ []) (choices_of_three a b d) (three_sound a b d) c e
choice_items_sound w (a ∷ b ∷ d ∷ f ∷ ds) c e = absurd (cc)

pub choice_sound : (d : Data) (c : PlainChoice) → choice_of_json d ≡ Some c → Spells d c
choice_sound d c e =
    let t = then_of (λ p. choice_of_items p.0 p.1) (head_of_json d) c e in
    let x = choice_items_sound t.0.0 t.0.1 c t.2 in
    (head_sound d t.0 t.1 ∙ x.0, x.1)

closing_items_sound : (ds : List Data) (n : ℕ) → closing_of_items ds ≡ Some n → headed_form (codes "end") ds ≡ closing_form n
closing_items_sound [] n e = absurd (cc)
closing_items_sound (a ∷ []) n e = ap (λ d. headed_form (codes "end") (d ∷ [])) (long_sound a n e)
closing_items_sound (a ∷ b ∷ ds) n e = absurd (cc)

pub closing_sound : (d : Data) (n : ℕ) → closing_of_json d ≡ Some n → d ≡ closing_form n
closing_sound d n e =
    let t = then_of (λ p. closing_by_word p.0 p.1) (head_of_json d) n e in
    elim (test_of (bytes_eq t.0.0 (codes "end")) (closing_of_items t.0.1) None n t.2) [
      | inl p ↦ head_sound d t.0 t.1 ∙ headed_as t.0.0 (codes "end") t.0.1 p.0 ∙ closing_items_sound t.0.1 n p.1
      | inr p ↦ let none = p.1 in absurd (cc)
    ]

opening_items_sound : (ds : List Data) (n : ℕ) → opening_of_items ds ≡ Some n → (headed_form (codes "caper") ds ≡ opening_form n) × IsNumber n
opening_items_sound [] n e = absurd (cc)
opening_items_sound (a ∷ []) n e = absurd (cc)
opening_items_sound (a ∷ b ∷ []) n e =
    let t = then_of (λ k. cond (k == 1) (number_of_json b) None) (number_of_json a) n e in
    elim (test_of (t.0 == 1) (number_of_json b) None n t.2) [
      | inl p ↦
          let x = number_sound a t.0 t.1 in
          let y = number_sound b n p.1 in
          (ap (λ v. headed_form (codes "caper") (v ∷ b ∷ [])) (x.0 ∙ ap number_form (eqb-true t.0 1 p.0)) ∙ ap (λ v. headed_form (codes "caper") (number_form 1 ∷ v ∷ [])) y.0, y.1)
      | inr p ↦ let none = p.1 in absurd (cc)
    ]
opening_items_sound (a ∷ b ∷ c ∷ ds) n e = absurd (cc)

pub opening_sound : (d : Data) (n : ℕ) → opening_of_json d ≡ Some n → (d ≡ opening_form n) × IsNumber n
opening_sound d n e =
    let t = then_of (λ p. opening_by_word p.0 p.1) (head_of_json d) n e in
    elim (test_of (bytes_eq t.0.0 (codes "caper")) (opening_of_items t.0.1) None n t.2) [
      | inl p ↦ let x = opening_items_sound t.0.1 n p.1 in (head_sound d t.0 t.1 ∙ headed_as t.0.0 (codes "caper") t.0.1 p.0 ∙ x.0, x.1)
      | inr p ↦ let none = p.1 in absurd (cc)
    ]
