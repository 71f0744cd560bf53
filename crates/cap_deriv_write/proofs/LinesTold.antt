-- What is told to its end are just the lines of the choices.
use Rattle.std.proofs.Common.{◌≡◌, ℕ, suc, ◌+◌, ◌≤◌, ◌<◌, ◌⊎◌, inl, inr, Bool, cond, true, false, List, [], ◌∷◌, length, Option, Some, None, option_map, option_and_then, refl, sym, ap, subst, ◌∙◌, arith}
use Rattle.std.specs.Prelude.{◌==◌, nat_lt}
use Rattle.std.specs.List.{AllByRecursion}
use Rattle.std.specs.Str.{is_utf8}
use Rattle.std.proofs.lemmas.Str.{IsUtf8-from_is_utf8}
use Rattle.std.proofs.lemmas.Bool.{lt-ltb, ltb-true, eq-eqb, eqb-true}
use Rattle.serde_json.specs.Data.{Data}
use Rattle.serde_json.specs.Read.{read}
use Rattle.cap_goal_spec.specs.Choices.{PlainChoice}
use Rattle.cap_deriv_choices.specs.Reading.{choice_of_json}
use Rattle.cap_deriv.specs.Reading.{json_of_bytes, opening_of_json, closing_of_json}
use Rattle.cap_deriv.specs.Told.{PlainLine, choice_line, end_line, Told, all_told, bad_told, too_many_told, choice_told, most_nodes, behind_end, or_end_line, line_of_json, line_of_bytes, told_at_line, told_by, opened_by, opening_told, told_by_lines, choices_told}
use Rattle.cap_deriv.proofs.Texts.{data_found}
use Rattle.cap_deriv_write.specs.Bounds.{IsNumber, IsChoice}
use Rattle.cap_deriv_write.specs.Forms.{choice_form, opening_form, closing_form}
use Rattle.cap_deriv_write.specs.Spelled.{IsText, AreTexts, later_forms, all_forms, HaveForms}
use Rattle.cap_deriv_write.proofs.Options.{some_same, then_of, test_of}
use Rattle.cap_deriv_write.proofs.ChoiceForms.{choice_read, opening_read, choice_sound, opening_sound, closing_sound}

-- ---- from lines to what is told

pub line_choice : (l : List ℕ) (c : PlainChoice) → IsText l (choice_form c) → IsChoice c → line_of_bytes l ≡ Some (choice_line c)
line_choice l c t h = rw (← data_found l (choice_form c) t.0 t.1, choice_read c h) refl

pub line_end : (l : List ℕ) (n : ℕ) → IsText l (closing_form n) → line_of_bytes l ≡ Some (end_line n)
line_end l n t = rw (← data_found l (closing_form n) t.0 t.1) refl

pub line_opening : (l : List ℕ) (t : ℕ) → IsText l (opening_form t) → IsNumber t → option_and_then opening_of_json (json_of_bytes l) ≡ Some t
line_opening l t h k = rw (← data_found l (opening_form t) h.0 h.1) (opening_read t k)

later_told : (cs : List PlainChoice) (ls : List (List ℕ)) (k n : ℕ) → n ≡ k + length cs → n ≤ most_nodes → AllByRecursion IsChoice cs → AreTexts ls (later_forms n cs)
    → told_by k ls ≡ choices_told cs all_told
later_told [] [] k n e le h t = absurd t
later_told [] (l ∷ []) k n e le h t = rw (line_end l n t.0, eq-eqb n k (omega arith)) refl
later_told [] (l ∷ m ∷ ls) k n e le h t = absurd t.1
later_told (c ∷ cs) [] k n e le h t = absurd t
later_told (c ∷ cs) (l ∷ ls) k n e le h t =
    rw (line_choice l c t.0 h.0, lt-ltb k most_nodes (omega arith)) (ap (choice_told c) (later_told cs ls (k + 1) n (omega arith) le h.1 t.1))

pub lines_told : (trees : ℕ) (cs : List PlainChoice) (ls : List (List ℕ)) → HaveForms trees cs → length cs ≤ most_nodes → AreTexts ls (all_forms trees cs)
    → told_by_lines ls ≡ opening_told trees (choices_told cs all_told)
lines_told trees cs [] w le t = absurd t
lines_told trees cs (l ∷ ls) w le t =
    rw (line_opening l trees t.0 w.0) (ap (opening_told trees) (later_told cs ls 0 (length cs) (omega arith) le w.1 t.1))

-- ---- and back

json_text : (l : List ℕ) (d : Data) → json_of_bytes l ≡ Some d → IsText l d
json_text l d e = elim (test_of (is_utf8 l) (read l) None d e) [
  | inl p ↦ (IsUtf8-from_is_utf8 l p.0, p.1)
  | inr p ↦ let none = p.1 in absurd (cc)
]

-- a line is one of a choice, or the last one
either_line : (a : Option PlainChoice) (b : Option ℕ) (x : PlainLine) → or_end_line (option_map choice_line a) (option_map end_line b) ≡ Some x
    → ((c : PlainChoice) × (a ≡ Some c) × (x ≡ choice_line c)) ⊎ ((n : ℕ) × (b ≡ Some n) × (x ≡ end_line n))
either_line (Some c) b x e = inl (c, refl, sym (some_same _ _ e))
either_line None (Some n) x e = inr (n, refl, sym (some_same _ _ e))
either_line None None x e = absurd (cc)

line_sound : (l : List ℕ) (x : PlainLine) → line_of_bytes l ≡ Some x
    → ((c : PlainChoice) × IsText l (choice_form c) × IsChoice c × (x ≡ choice_line c)) ⊎ ((n : ℕ) × IsText l (closing_form n) × (x ≡ end_line n))
line_sound l x e =
    let t = then_of line_of_json (json_of_bytes l) x e in
    elim (either_line (choice_of_json t.0) (closing_of_json t.0) x t.2) [
      | inl p ↦ let s = choice_sound t.0 p.0 p.1 in inl (p.0, json_text l (choice_form p.0) (t.1 ∙ ap Some s.0), s.1, p.2)
      | inr p ↦ inr (p.0, json_text l (closing_form p.0) (t.1 ∙ ap Some (closing_sound t.0 p.0 p.1)), p.2)
    ]

pub text_at_end : (l : List ℕ) (k : ℕ) → line_of_bytes l ≡ Some (end_line k) → IsText l (closing_form k)
text_at_end l k e = elim (line_sound l (end_line k) e) [
  | inl p ↦ let other = p.3 in absurd (cc)
  | inr p ↦ let same : p.0 ≡ k = cc (p.2) in subst (λ (n : ℕ). IsText l (closing_form n)) same p.1
]

pub text_at_choice : (l : List ℕ) (c : PlainChoice) → line_of_bytes l ≡ Some (choice_line c) → IsText l (choice_form c) × IsChoice c
text_at_choice l c e = elim (line_sound l (choice_line c) e) [
  | inl p ↦ let same : p.0 ≡ c = cc (p.3) in (subst (λ (d : PlainChoice). IsText l (choice_form d)) same p.1, subst IsChoice same p.2)
  | inr p ↦ let other = p.2 in absurd (cc)
]

pub text_at_opening : (l : List ℕ) (t : ℕ) → option_and_then opening_of_json (json_of_bytes l) ≡ Some t → IsText l (opening_form t) × IsNumber t
text_at_opening l t e =
    let d = then_of opening_of_json (json_of_bytes l) t e in
    let s = opening_sound d.0 t d.2 in
    (json_text l (opening_form t) (d.1 ∙ ap Some s.0), s.1)

-- all is told at the last line alone
end_of : (o : Option PlainLine) (k : ℕ) (ls : List (List ℕ)) (more : Told) → told_at_line o k ls more ≡ all_told → (o ≡ Some (end_line k)) × (ls ≡ [])
end_of None k ls more e = absurd (cc)
end_of (Some (choice_line c)) k ls more e = go (nat_lt k most_nodes) more e
  where
    go : (t : Bool) (more : Told) → cond t (choice_told c more) too_many_told ≡ all_told → (Some (choice_line c) ≡ Some (end_line k)) × (ls ≡ [])
    go true more e = absurd (cc)
    go false more e = absurd (cc)
end_of (Some (end_line n)) k ls more e = go (n == k) refl ls e
  where
    go : (t : Bool) → (n == k) ≡ t → (ls : List (List ℕ)) → cond t (behind_end k ls) (bad_told (k + 2)) ≡ all_told → (Some (end_line n) ≡ Some (end_line k)) × (ls ≡ [])
    go false i ls e = absurd (cc)
    go true i [] e = (ap (λ m. Some (end_line m)) (eqb-true n k i), refl)
    go true i (l ∷ ls) e = absurd (cc)

-- a choice is told at its line alone
choice_at : (o : Option PlainLine) (k : ℕ) (ls : List (List ℕ)) (more : Told) (c : PlainChoice) (t : Told) → told_at_line o k ls more ≡ choice_told c t
    → (o ≡ Some (choice_line c)) × (k < most_nodes) × (more ≡ t)
choice_at None k ls more c t e = absurd (cc)
choice_at (Some (choice_line d)) k ls more c t e = go (nat_lt k most_nodes) refl e
  where
    go : (b : Bool) → nat_lt k most_nodes ≡ b → cond b (choice_told d more) too_many_told ≡ choice_told c t → (Some (choice_line d) ≡ Some (choice_line c)) × (k < most_nodes) × (more ≡ t)
    go true i e = let same : d ≡ c = cc in (ap (λ m. Some (choice_line m)) same, ltb-true k most_nodes i, cc)
    go false i e = absurd (cc)
choice_at (Some (end_line n)) k ls more c t e = go (n == k) ls e
  where
    go : (b : Bool) (ls : List (List ℕ)) → cond b (behind_end k ls) (bad_told (k + 2)) ≡ choice_told c t → (Some (end_line n) ≡ Some (choice_line c)) × (k < most_nodes) × (more ≡ t)
    go false ls e = absurd (cc)
    go true [] e = absurd (cc)
    go true (l ∷ ls) e = absurd (cc)

told_later : (cs : List PlainChoice) (ls : List (List ℕ)) (k : ℕ) → k ≤ most_nodes → told_by k ls ≡ choices_told cs all_told
    → AreTexts ls (later_forms (k + length cs) cs) × AllByRecursion IsChoice cs × (k + length cs ≤ most_nodes)
told_later [] [] k le e = absurd (cc)
told_later [] (l ∷ ls) k le e =
    let p = end_of (line_of_bytes l) k ls (told_by (k + 1) ls) e in
    let here : IsText l (closing_form (k + 0)) = subst (λ (n : ℕ). IsText l (closing_form n)) (omega arith) (text_at_end l k p.0) in
    (subst (λ (rest : List (List ℕ)). AreTexts (l ∷ rest) (closing_form (k + 0) ∷ [])) (sym p.1) (here, tt), tt, omega arith)
told_later (c ∷ cs) [] k le e = absurd (cc)
told_later (c ∷ cs) (l ∷ ls) k le e =
    let p = choice_at (line_of_bytes l) k ls (told_by (k + 1) ls) c (choices_told cs all_told) e in
    let x = text_at_choice l c p.0 in
    let q = told_later cs ls (k + 1) (omega (arith, p.1)) p.2 in
    let same : k + 1 + length cs ≡ k + suc (length cs) = omega arith in
    ((x.0, subst (λ (n : ℕ). AreTexts ls (later_forms n cs)) same q.0), (x.1, q.1), omega (arith, q.2))

pub told_lines : (trees : ℕ) (cs : List PlainChoice) (ls : List (List ℕ)) → told_by_lines ls ≡ opening_told trees (choices_told cs all_told)
    → AreTexts ls (all_forms trees cs) × HaveForms trees cs × (length cs ≤ most_nodes)
told_lines trees cs [] e = absurd (cc)
told_lines trees cs (l ∷ ls) e = go (option_and_then opening_of_json (json_of_bytes l)) refl e
  where
    go : (o : Option ℕ) → option_and_then opening_of_json (json_of_bytes l) ≡ o → opened_by o ls ≡ opening_told trees (choices_told cs all_told)
        → AreTexts (l ∷ ls) (all_forms trees cs) × HaveForms trees cs × (length cs ≤ most_nodes)
    go None i e = absurd (cc)
    go (Some t) i e =
        let same : t ≡ trees = cc in
        let rest : told_by 0 ls ≡ choices_told cs all_told = cc in
        let first = text_at_opening l t i in
        let q = told_later cs ls 0 (omega arith) rest in
        let count : 0 + length cs ≡ length cs = omega arith in (
          (subst (λ (n : ℕ). IsText l (opening_form n)) same first.0, subst (λ (n : ℕ). AreTexts ls (later_forms n cs)) count q.0),
          (subst IsNumber same first.1, q.1),
          omega (arith, q.2),
        )
