-- The text that is written for choices has their lines, without spaces.
use Rattle.std.proofs.Common.{◌≡◌, ℕ, ◌≤◌, ◌<◌, ◌^◌, List, [], ◌∷◌, ◌++◌, map, length, Option, Some, None, refl, sym, ap, subst, ◌∙◌, arith, append_assoc, append-nil}
use Rattle.std.specs.Prelude.{ℤ, codes}
use Rattle.std.specs.List.{AllByRecursion}
use Rattle.serde_json.specs.Data.{Data, depth, items_depth}
use Rattle.serde_json.specs.Read.{max_depth}
use Rattle.serde_json.specs.View.{items_of}
use Rattle.serde_json.specs.Written.{compact_text}
use Rattle.cap_farkas.specs.declared.cert.Cert.{Cert}
use Rattle.cap_farkas.specs.declared.cert.Cert.TheVariants.{Leaf, Split}
use Rattle.cap_goal_spec.specs.Choices.{PlainChoice, by_absurd, by_clash, by_set, by_alloc, by_assert, by_if, by_loop, by_turn, by_call, by_fork, by_return, by_enter, by_act, by_pick, by_shift, by_settle, by_keep, by_give, by_fact, by_cases, by_cell, by_region, by_guard, by_convert, by_create, by_made}
use Rattle.cap_deriv.specs.Told.{ended_lines}
use Rattle.cap_deriv_write.specs.Bounds.{IsNumber, IsPair, ArePairs, IsCert, AreCerts, IsMark, IsChoice}
use Rattle.cap_deriv_write.specs.Forms.{number_form, numbers_form, pair_form, pairs_form, cert_form, certs_form, mark_form, spans_form, choice_form, opening_form, closing_form}
use Rattle.cap_deriv_write.specs.Spelled.{AreTexts, later_forms, all_forms, HaveForms, AreVisible}
use Rattle.cap_deriv_write.specs.Written.{line_text, choice_lines, text_of_choices}
use Rattle.cap_deriv_write.proofs.Visible.{IsSimple, AreSimple, visible_from, visible_signed, visible_text, line_cut, simple_text}

-- ---- the forms are values of which the text is known

all_simple : {A : Type 0} (f : A → Data) (P : A → Type 0) → ((x : A) → P x → IsSimple (f x)) → (xs : List A) → AllByRecursion P xs → AreSimple (items_of (map f xs))
all_simple f P each [] h = tt
all_simple f P each (x ∷ xs) h = (each x h.0, all_simple f P each xs h.1)

all_depth : {A : Type 0} (f : A → Data) (k : ℕ) → ((x : A) → depth (f x) ≤ k) → (xs : List A) → items_depth (items_of (map f xs)) ≤ k
all_depth f k each [] = omega arith
all_depth f k each (x ∷ xs) = omega (arith, each x, all_depth f k each xs)

simple_number : (n : ℕ) → IsNumber n → IsSimple (number_form n)
simple_number n h = omega arith

simple_pair : (p : ℕ × ℤ) → IsPair p → IsSimple (pair_form p)
simple_pair p h = (simple_number p.0 h.0, (visible_signed p.1 h.1, tt))

simple_pairs : (ps : List (ℕ × ℤ)) → ArePairs ps → IsSimple (pairs_form ps)
simple_pairs ps h = all_simple pair_form IsPair simple_pair ps h

depth_pairs : (ps : List (ℕ × ℤ)) → depth (pairs_form ps) ≤ 2
depth_pairs ps = omega (arith, all_depth pair_form 1 (λ p. omega arith) ps)

simple_cert : (c : Cert) → IsCert c → IsSimple (cert_form c)
simple_cert (Leaf ps) h = (visible_from (codes "leaf") refl, (simple_pairs ps h, tt))
simple_cert (Split k ps qs) h = (visible_from (codes "split") refl, (simple_number k h.0, (simple_pairs ps h.1, (simple_pairs qs h.2, tt))))

depth_cert : (c : Cert) → depth (cert_form c) ≤ 3
depth_cert (Leaf ps) = omega (arith, depth_pairs ps)
depth_cert (Split k ps qs) = omega (arith, depth_pairs ps, depth_pairs qs)

simple_certs : (cs : List Cert) → AreCerts cs → IsSimple (certs_form cs)
simple_certs cs h = all_simple cert_form IsCert simple_cert cs h

depth_certs : (cs : List Cert) → depth (certs_form cs) ≤ 4
depth_certs cs = omega (arith, all_depth cert_form 3 depth_cert cs)

simple_mark : (m : Option Cert) → IsMark m → IsSimple (mark_form m)
simple_mark None h = omega arith
simple_mark (Some c) h = simple_cert c h

depth_mark : (m : Option Cert) → depth (mark_form m) ≤ 3
depth_mark None = omega arith
depth_mark (Some c) = depth_cert c

simple_spans : (ns : List ℕ) → AllByRecursion IsNumber ns → AreSimple (items_of (spans_form ns))
simple_spans [] h = tt
simple_spans (n ∷ ns) h = (all_simple number_form IsNumber simple_number (n ∷ ns) h, tt)

depth_numbers : (ns : List ℕ) → depth (numbers_form ns) ≤ 1
depth_numbers ns = omega (arith, all_depth number_form 0 (λ n. omega arith) ns)

depth_alone : (d : Data) → depth d ≤ 1 → items_depth (items_of (d ∷ [])) ≤ 1
depth_alone d h = omega arith

depth_spans : (ns : List ℕ) → items_depth (items_of (spans_form ns)) ≤ 1
depth_spans [] = omega arith
depth_spans (n ∷ ns) = depth_alone (numbers_form (n ∷ ns)) (depth_numbers (n ∷ ns))

simple_choice : (c : PlainChoice) → IsChoice c → IsSimple (choice_form c)
simple_choice (by_absurd c) h = (visible_from (codes "absurd") refl, (simple_cert c h, tt))
simple_choice (by_clash i j cs) h = (visible_from (codes "clash") refl, (simple_number i h.0, (simple_number j h.1, (simple_certs cs h.2, tt))))
simple_choice by_set h = (visible_from (codes "set") refl, tt)
simple_choice by_alloc h = (visible_from (codes "alloc") refl, tt)
simple_choice (by_assert cs) h = (visible_from (codes "assert") refl, (simple_certs cs h, tt))
simple_choice by_if h = (visible_from (codes "if") refl, tt)
simple_choice by_loop h = (visible_from (codes "loop") refl, tt)
simple_choice by_turn h = (visible_from (codes "turn") refl, tt)
simple_choice by_call h = (visible_from (codes "call") refl, tt)
simple_choice by_fork h = (visible_from (codes "fork") refl, tt)
simple_choice by_return h = (visible_from (codes "return") refl, tt)
simple_choice (by_enter i cs) h = (visible_from (codes "enter") refl, (simple_number i h.0, (simple_certs cs h.1, tt)))
simple_choice (by_act j cs ms) h = (visible_from (codes "act") refl, (simple_number j h.0, (simple_certs cs h.1, (all_simple mark_form IsMark simple_mark ms h.2, tt))))
simple_choice (by_pick o c m) h = (visible_from (codes "pick") refl, (simple_number o h.0, (simple_number c h.1, (simple_number m h.2, tt))))
simple_choice (by_shift cs spans) h = (visible_from (codes "shift") refl, (simple_certs cs h.0, simple_spans spans h.1))
simple_choice (by_settle ns cs) h = (visible_from (codes "settle") refl, (all_simple number_form IsNumber simple_number ns h.0, (simple_certs cs h.1, tt)))
simple_choice (by_keep cs) h = (visible_from (codes "keep") refl, (simple_certs cs h, tt))
simple_choice by_give h = (visible_from (codes "give") refl, tt)
simple_choice (by_fact cs) h = (visible_from (codes "fact") refl, (simple_certs cs h, tt))
simple_choice by_cases h = (visible_from (codes "cases") refl, tt)
simple_choice (by_cell j cs) h = (visible_from (codes "cell") refl, (simple_number j h.0, (simple_certs cs h.1, tt)))
simple_choice (by_region j cs) h = (visible_from (codes "region") refl, (simple_number j h.0, (simple_certs cs h.1, tt)))
simple_choice (by_guard j way cs) h = (visible_from (codes "guard") refl, (simple_number j h.0, (simple_number way h.1, (simple_certs cs h.2, tt))))
simple_choice (by_convert n side cs) h = (visible_from (codes "convert") refl, (simple_number n h.0, (simple_number side h.1, (simple_certs cs h.2, tt))))
simple_choice (by_create c) h = (visible_from (codes "create") refl, (simple_number c h, tt))
simple_choice (by_made cs) h = (visible_from (codes "made") refl, (simple_certs cs h, tt))

depth_choice : (c : PlainChoice) → depth (choice_form c) ≤ 5
depth_choice (by_absurd c) = omega (arith, depth_cert c)
depth_choice (by_clash i j cs) = omega (arith, depth_certs cs)
depth_choice by_set = omega arith
depth_choice by_alloc = omega arith
depth_choice (by_assert cs) = omega (arith, depth_certs cs)
depth_choice by_if = omega arith
depth_choice by_loop = omega arith
depth_choice by_turn = omega arith
depth_choice by_call = omega arith
depth_choice by_fork = omega arith
depth_choice by_return = omega arith
depth_choice (by_enter i cs) = omega (arith, depth_certs cs)
depth_choice (by_act j cs ms) = omega (arith, depth_certs cs, all_depth mark_form 3 depth_mark ms)
depth_choice (by_pick o c m) = omega arith
depth_choice (by_shift cs spans) = omega (arith, depth_certs cs, depth_spans spans)
depth_choice (by_settle ns cs) = omega (arith, depth_certs cs, all_depth number_form 0 (λ n. omega arith) ns)
depth_choice (by_keep cs) = omega (arith, depth_certs cs)
depth_choice by_give = omega arith
depth_choice (by_fact cs) = omega (arith, depth_certs cs)
depth_choice by_cases = omega arith
depth_choice (by_cell j cs) = omega (arith, depth_certs cs)
depth_choice (by_region j cs) = omega (arith, depth_certs cs)
depth_choice (by_guard j way cs) = omega (arith, depth_certs cs)
depth_choice (by_convert n side cs) = omega (arith, depth_certs cs)
depth_choice (by_create c) = omega arith
depth_choice (by_made cs) = omega (arith, depth_certs cs)

-- ---- a line, and all of them

abbrev Shows : List (List ℕ) → List Data → Type 0
Shows ls ds = AreTexts ls ds × AllByRecursion AreVisible ls

line_shown : (d : Data) (rest : List ℕ) (ds : List Data) → IsSimple d → depth d ≤ max_depth → Shows (ended_lines rest) ds → Shows (ended_lines (line_text d ++ rest)) (d ∷ ds)
unfolding line_text
line_shown d rest ds h shallow more =
    let i = visible_text d h in
    let e : ended_lines ((compact_text d ++ 10 ∷ []) ++ rest) ≡ compact_text d ∷ ended_lines rest = ap ended_lines (append_assoc (compact_text d) (10 ∷ []) rest) ∙ line_cut (compact_text d) rest i in
    subst (λ (ls : List (List ℕ)). Shows ls (d ∷ ds)) (sym e) ((simple_text d h shallow, more.0), (i, more.1))

later_shown : (cs : List PlainChoice) (n : ℕ) → n < 2 ^ 64 → AllByRecursion IsChoice cs → Shows (ended_lines (choice_lines cs ++ line_text (closing_form n))) (later_forms n cs)
later_shown [] n le h =
    subst (λ (t : List ℕ). Shows (ended_lines t) (closing_form n ∷ [])) (append-nil (line_text (closing_form n)))
    (line_shown (closing_form n) [] [] (visible_from (codes "end") refl, (omega arith, tt)) (omega arith) (tt, tt))
later_shown (c ∷ cs) n le h =
    subst (λ (t : List ℕ). Shows (ended_lines t) (later_forms n (c ∷ cs))) (sym (append_assoc (line_text (choice_form c)) (choice_lines cs) (line_text (closing_form n))))
    (line_shown (choice_form c) (choice_lines cs ++ line_text (closing_form n)) (later_forms n cs) (simple_choice c h.0) (omega (arith, depth_choice c)) (later_shown cs n le h.1))

pub text_shown : (trees : ℕ) (cs : List PlainChoice) → HaveForms trees cs → length cs < 2 ^ 64 → Shows (ended_lines (text_of_choices trees cs)) (all_forms trees cs)
text_shown trees cs w le =
    line_shown (opening_form trees) (choice_lines cs ++ line_text (closing_form (length cs))) (later_forms (length cs) cs)
    (visible_from (codes "caper") refl, (omega arith, (simple_number trees w.0, tt))) (omega arith) (later_shown cs (length cs) le w.1)
