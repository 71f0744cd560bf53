-- Numbers of the code's types, and multipliers other than 0, are those of a line.
use Rattle.std.proofs.Common.{◌≡◌, ◌≤◌, ◌<◌, ◌^◌, ℕ, ℤ, List, [], ◌∷◌, ◌++◌, length, Option, Some, None, Result, Ok, Err, subst, sym}
use Rattle.std.specs.Prelude.{pos, ◌≢◌, IfOk}
use Rattle.std.specs.List.{AllByRecursion}
use Rattle.cap_farkas.specs.declared.cert.Cert.{Cert}
use Rattle.cap_farkas.specs.declared.cert.Cert.TheVariants.{Leaf, Split}
use Rattle.cap_goal_spec.specs.Choices.{PlainTree, PlainChoice, by_absurd, by_clash, by_set, by_alloc, by_assert, by_if, by_loop, by_turn, by_call, by_fork, by_return, by_enter, by_act, by_pick, by_shift, by_settle, by_keep, by_give, by_fact, by_cases, by_cell, by_region, by_guard, by_convert, by_create, by_made, certs_of, given_marks}
use Rattle.cap_deriv.specs.Told.{ended_lines, most_nodes, told_by_bytes, opening_told, choices_told, all_told}
use Rattle.cap_deriv_write.specs.Bounds.{PairFits, CertFits, MarkFits, ChoiceFits, HasNoZero, HaveNoZeros, TreesFit, ArePairs, IsCert, AreCerts, IsMark, IsChoice}
use Rattle.cap_deriv_write.specs.Preorder.{choices_of_roots}
use Rattle.cap_deriv_write.specs.Spelled.{AreBundle, DerivationLines, HaveNoSpaces}
use Rattle.cap_deriv_write.specs.Written.{derivation_text}
use Rattle.cap_deriv_write.proofs.LinesShown.{text_shown}
use Rattle.cap_deriv_write.proofs.LinesTold.{lines_told}

all_front : {X : Type 0} (P : X → Type 0) (xs ys : List X) → AllByRecursion P (xs ++ ys) → AllByRecursion P xs
all_front P [] ys h = tt
all_front P (x ∷ xs) ys h = (h.0, all_front P xs ys h.1)

all_behind : {X : Type 0} (P : X → Type 0) (xs ys : List X) → AllByRecursion P (xs ++ ys) → AllByRecursion P ys
all_behind P [] ys h = h
all_behind P (x ∷ xs) ys h = all_behind P xs ys h.1

pairs_both : (ps : List (ℕ × ℤ)) → AllByRecursion PairFits ps → AllByRecursion (λ (p : ℕ × ℤ). p.1 ≢ pos 0) ps → ArePairs ps
pairs_both [] f z = tt
pairs_both (p ∷ ps) f z = ((f.0.0, (f.0.1, z.0)), pairs_both ps f.1 z.1)

cert_both : (c : Cert) → CertFits c → HasNoZero c → IsCert c
cert_both (Leaf ps) f z = pairs_both ps f z
cert_both (Split k ps qs) f z = (f.0, pairs_both ps f.1 z.1, pairs_both qs f.2 z.2)

certs_both : (cs : List Cert) → AllByRecursion CertFits cs → AllByRecursion HasNoZero cs → AreCerts cs
certs_both [] f z = tt
certs_both (c ∷ cs) f z = (cert_both c f.0 z.0, certs_both cs f.1 z.1)

marks_both : (ms : List (Option Cert)) → AllByRecursion MarkFits ms → AllByRecursion HasNoZero (given_marks ms) → AllByRecursion IsMark ms
marks_both [] f z = tt
marks_both (None ∷ ms) f z = (tt, marks_both ms f.1 z)
marks_both (Some c ∷ ms) f z = (cert_both c f.0 z.0, marks_both ms f.1 z.1)

choice_both : (c : PlainChoice) → ChoiceFits c → AllByRecursion HasNoZero (certs_of c) → IsChoice c
choice_both (by_absurd c) f z = cert_both c f z.0
choice_both (by_clash i j cs) f z = (f.0, f.1, certs_both cs f.2 z)
choice_both by_set f z = tt
choice_both by_alloc f z = tt
choice_both (by_assert cs) f z = certs_both cs f z
choice_both by_if f z = tt
choice_both by_loop f z = tt
choice_both by_turn f z = tt
choice_both by_call f z = tt
choice_both by_fork f z = tt
choice_both by_return f z = tt
choice_both (by_enter i cs) f z = (f.0, certs_both cs f.1 z)
choice_both (by_act j cs ms) f z =
    (f.0, certs_both cs f.1 (all_front HasNoZero cs (given_marks ms) z), marks_both ms f.2 (all_behind HasNoZero cs (given_marks ms) z))
choice_both (by_pick o c m) f z = f
choice_both (by_shift cs spans) f z = (certs_both cs f.0 z, f.1)
choice_both (by_settle ns cs) f z = (f.0, certs_both cs f.1 z)
choice_both (by_keep cs) f z = certs_both cs f z
choice_both by_give f z = tt
choice_both (by_fact cs) f z = certs_both cs f z
choice_both by_cases f z = tt
choice_both (by_cell j cs) f z = (f.0, certs_both cs f.1 z)
choice_both (by_region j cs) f z = (f.0, certs_both cs f.1 z)
choice_both (by_guard j way cs) f z = (f.0, f.1, certs_both cs f.2 z)
choice_both (by_convert n side cs) f z = (f.0, f.1, certs_both cs f.2 z)
choice_both (by_create c) f z = f
choice_both (by_made cs) f z = certs_both cs f z

choices_both : (cs : List PlainChoice) → AllByRecursion ChoiceFits cs → AllByRecursion (λ (c : PlainChoice). AllByRecursion HasNoZero (certs_of c)) cs → AllByRecursion IsChoice cs
choices_both [] f z = tt
choices_both (c ∷ cs) f z = (choice_both c f.0 z.0, choices_both cs f.1 z.1)

pub lines_written : (roots : List (Option PlainTree)) (bytes : List ℕ) → bytes ≡ derivation_text roots → TreesFit roots → HaveNoZeros roots → length roots < 2 ^ 32
    → DerivationLines roots bytes × HaveNoSpaces bytes
lines_written roots bytes e f z few =
    let h : AreBundle roots = (few, choices_both (choices_of_roots roots) f.0 z) in
    let s = text_shown (length roots) (choices_of_roots roots) h f.1 in
    subst (λ (b : List ℕ). DerivationLines roots b × HaveNoSpaces b) (sym e) ((h, s.0), s.1)

pub lines_read_back : (roots : List (Option PlainTree)) (bytes : List ℕ) → bytes ≡ derivation_text roots → TreesFit roots → HaveNoZeros roots → length roots < 2 ^ 32
    → length (choices_of_roots roots) ≤ most_nodes → told_by_bytes bytes ≡ opening_told (length roots) (choices_told (choices_of_roots roots) all_told)
lines_read_back roots bytes e f z few nodes =
    let l = (lines_written roots bytes e f z few).0 in
    lines_told (length roots) (choices_of_roots roots) (ended_lines bytes) l.0 nodes l.1

pub lines_if : {A E : Type 0} (r : Result A E) (f : A → List ℕ) (roots : List (Option PlainTree)) → IfOk r (λ b. f b ≡ derivation_text roots) → IfOk r (λ b. TreesFit roots)
    → IfOk r (λ b. HaveNoZeros roots → (length roots < 2 ^ 32) → DerivationLines roots (f b) × HaveNoSpaces (f b))
lines_if (Ok b) f roots e t = lines_written roots (f b) e t
lines_if (Err x) f roots e t = tt

pub read_back_if : {A E : Type 0} (r : Result A E) (f : A → List ℕ) (roots : List (Option PlainTree)) → IfOk r (λ b. f b ≡ derivation_text roots) → IfOk r (λ b. TreesFit roots)
    → IfOk r (λ b. HaveNoZeros roots → (length roots < 2 ^ 32) → (length (choices_of_roots roots) ≤ most_nodes) → told_by_bytes (f b) ≡ opening_told (length roots) (choices_told (choices_of_roots roots) all_told))
read_back_if (Ok b) f roots e t = lines_read_back roots (f b) e t
read_back_if (Err x) f roots e t = tt
