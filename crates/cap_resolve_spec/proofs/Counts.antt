-- Where no limit is passed, lists are short, and where no name is repeated, its numbers are distinct.
use Rattle.std.proofs.Common.{◌≡◌, ℕ, ◌+◌, ◌≤◌, Bool, true, false, true≢false, not, cond, ◌||◌, ◌&&◌, nat_lt, nat_eq, bytes_eq, count_by, fold, find, List, [], ◌∷◌, ◌++◌, map, length, slice_get, Some, refl, sym, ap, subst, ◌∙◌, arith, ltb-false, eqb-true, zero-add}
use Rattle.std.specs.Prelude.{◌==◌, if◌then◌else◌}
use Rattle.std.specs.List.{AllByRecursion, IsDistinct}
use Rattle.std.proofs.lemmas.List.Folds.{find_at, list_any-append}
use Rattle.std.proofs.lemmas.Bool.Decides.{nat_tests}
use Rattle.std.proofs.lemmas.Map.Keys.{IsDistinct-cons}
use Rattle.std.proofs.lemmas.Option.{same_Some}
use Rattle.cap_syntax.specs.declared.place.Place.{Place}
use Rattle.cap_prog.specs.WellFormed.{most_variables}
use Rattle.cap_parse_tree.specs.declared.word.Word.{Word}
use Rattle.cap_parse_tree.specs.Tree.{GuardTree, DeclaredTree, unique, divisible, counting, indexed, grouped}
use Rattle.cap_resolve_spec.specs.Finding.{is_earlier, limit, variable_count}
use Rattle.cap_resolve_spec.specs.Parts.{atom_word}
use Rattle.cap_resolve_spec.specs.Names.{is_among, repeated_after, is_past, past_variables}
use Rattle.cap_resolve_spec.specs.Items.{NumberedRegion, is_guard, region_guards}
use Rattle.cap_resolve_spec.specs.Program.{guard_number}
use Rattle.cap_resolve_spec.proofs.Every.{each_weaker}
use Rattle.cap_resolve_spec.proofs.Nothing.{cons_not_nil, nothing_front, nothing_behind, nothing_flat, not_found}
use Rattle.cap_resolve_spec.proofs.Known.{same-text, text-itself}

-- ---- the limit on variables

not-earlier-self : (l c : ℕ) → (nat_lt l l || (l == l && nat_lt c c)) ≡ false
not-earlier-self l c = grind (arith, nat_tests)

one-way : (l c m d : ℕ) → (nat_lt l m || (l == m && nat_lt c d)) ≡ true → (nat_lt m l || (m == l && nat_lt d c)) ≡ false
one-way l c m d e = grind (arith, nat_tests, e)

through : (l c m d n k : ℕ) → (nat_lt l m || (l == m && nat_lt c d)) ≡ false → (nat_lt m n || (m == n && nat_lt d k)) ≡ false → (nat_lt l n || (l == n && nat_lt c k)) ≡ false
through l c m d n k e h = grind (arith, nat_tests, e, h)

-- of some places one is the last
record Last (P : Place → Type 0) (places : List Place) : Type 0 where
  place : Place
  holds : P place
  last : AllByRecursion (λ q. is_earlier place q ≡ false) places

last-of : (P : Place → Type 0) (p : Place) (ps : List Place) → P p → AllByRecursion P ps → Last P (p ∷ ps)
last-of P p [] h a = record { place = p; holds = h; last = (not-earlier-self p.line p.column, tt) }
last-of P p (q ∷ qs) h a = by (is_earlier p q) refl (last-of P q qs a.0 a.1) (last-of P p qs h a.1)
  where
    by : (b : Bool) → is_earlier p q ≡ b → Last P (q ∷ qs) → Last P (p ∷ qs) → Last P (p ∷ q ∷ qs)
    by true e l m = record { place = l.place; holds = l.holds; last = (through l.place.line l.place.column q.line q.column p.line p.column l.last.0 (one-way p.line p.column q.line q.column e), l.last) }
    by false e l m = record { place = m.place; holds = m.holds; last = (m.last.0, (through m.place.line m.place.column p.line p.column q.line q.column m.last.0 e, m.last.1)) }

count-all : {A : Type 0} (p : A → Bool) (n : ℕ) (xs : List A) → AllByRecursion (λ x. p x ≡ false) xs → fold (λ a x. a + cond (not (p x)) 1 0) n xs ≡ n + length xs
count-all p n [] a = omega arith
count-all p n (x ∷ xs) a =
    let e : n + cond (not (p x)) 1 0 ≡ n + 1 = ap (λ b. n + cond (not b) 1 0) a.0 in
    let h : fold (λ b y. b + cond (not (p y)) 1 0) (n + 1) xs ≡ n + 1 + length xs = count-all p (n + 1) xs a.1 in
    ap (λ m. fold (λ b y. b + cond (not (p y)) 1 0) m xs) e ∙ (h ∙ omega arith)

pub within-limit : (places : List Place) → past_variables places ≡ [] → length places ≤ most_variables
within-limit [] e = omega arith
within-limit (p ∷ ps) e =
    let none = nothing_flat _ (p ∷ ps) e in
    let l = last-of (λ q. is_past (p ∷ ps) q ≡ false) p ps (not_found (is_past (p ∷ ps) p) p (limit variable_count) none.0) (each_weaker _ (λ q. is_past (p ∷ ps) q ≡ false) (λ q x. not_found (is_past (p ∷ ps) q) q (limit variable_count) x) ps none.1) in
    let n : count_by (λ q. not (is_earlier l.place q)) (p ∷ ps) ≡ length (p ∷ ps) = count-all (is_earlier l.place) 0 (p ∷ ps) l.last ∙ zero-add (length (p ∷ ps)) in
    let h : count_by (λ q. not (is_earlier l.place q)) (p ∷ ps) ≤ most_variables = ltb-false most_variables (count_by (λ q. not (is_earlier l.place q)) (p ∷ ps)) l.holds in
    subst (λ m. m ≤ most_variables) n h

-- ---- distinct numbers of guards

one-text : (x y : List ℕ) (w : Word) → (bytes_eq x w.text || false) ≡ true → (bytes_eq y w.text || false) ≡ true → x ≡ y
one-text x y w e h = same-text x w.text (or-false (bytes_eq x w.text) e) ∙ sym (same-text y w.text (or-false (bytes_eq y w.text) h))
  where
    or-false : (b : Bool) → (b || false) ≡ true → b ≡ true
    or-false true e = refl
    or-false false e = e

same-guard : (x y : List ℕ) (d : DeclaredTree) → is_guard x d ≡ true → is_guard y d ≡ true → x ≡ y
same-guard x y (unique w) e h = one-text x y w e h
same-guard x y (divisible p w) e h = one-text x y w e h
same-guard x y (counting p w q) e h = one-text x y w e h
same-guard x y (indexed p w q) e h = one-text x y w e h
same-guard x y (grouped p a q) e h = absurd (true≢false (sym e))

found-passes : {A : Type 0} (p : A → Bool) (xs : List A) (x : A) → find p xs ≡ Some x → p x ≡ true
found-passes p [] x e = absurd (cc)
found-passes p (y ∷ ys) x e = by (p y) refl e (λ d. found-passes p ys x d)
  where
    by : (b : Bool) → p y ≡ b → cond b (Some y) (find p ys) ≡ Some x → (find p ys ≡ Some x → p x ≡ true) → p x ≡ true
    by true h d rest = subst (λ z. p z ≡ true) (same_Some y x d) h
    by false h d rest = rest d

-- the guard is declared
abbrev pub IsDeclared : NumberedRegion → GuardTree → Type 0
IsDeclared k g = (d : DeclaredTree) × (find (is_guard (atom_word g).text) (region_guards k.region) ≡ Some d)

distinct-guards : (k : NumberedRegion) (g h : GuardTree) → IsDeclared k g → IsDeclared k h → bytes_eq (atom_word h).text (atom_word g).text ≡ false → nat_eq (guard_number k g) (guard_number k h) ≡ false
distinct-guards k g h a b e = by (nat_eq (guard_number k g) (guard_number k h)) refl
  where
    at : (n : GuardTree) (d : DeclaredTree) → find (is_guard (atom_word n).text) (region_guards k.region) ≡ Some d → slice_get (region_guards k.region) (guard_number k n) ≡ Some d
    at n d f = sym (find_at (is_guard (atom_word n).text) (region_guards k.region)) ∙ f

    by : (c : Bool) → nat_eq (guard_number k g) (guard_number k h) ≡ c → c ≡ false
    by false f = refl
    by true f =
        let same : guard_number k g ≡ guard_number k h = eqb-true _ _ f in
        let one : a.0 ≡ b.0 = same_Some a.0 b.0 (sym (at g a.0 a.1) ∙ (ap (slice_get (region_guards k.region)) same ∙ at h b.0 b.1)) in
        let text : (atom_word h).text ≡ (atom_word g).text = same-guard (atom_word h).text (atom_word g).text b.0 (found-passes _ (region_guards k.region) b.0 b.1) (subst (λ d. is_guard (atom_word g).text d ≡ true) one (found-passes _ (region_guards k.region) a.0 a.1)) in
        absurd (true≢false (sym (subst (λ x. bytes_eq x (atom_word g).text ≡ true) (sym text) (text-itself (atom_word g).text)) ∙ e))

-- no later name is one of these
not-among : (before : List Word) (ws : List Word) → repeated_after before ws ≡ [] → AllByRecursion (λ w. is_among before w.text ≡ false) ws
not-among before [] e = tt
not-among before (w ∷ ws) e = (
  unless (is_among before w.text) (nothing_front (if is_among before w.text then w ∷ [] else []) _ e),
  each_weaker (λ v. is_among (before ++ w ∷ []) v.text ≡ false) (λ v. is_among before v.text ≡ false)
      (λ v x. front (is_among before v.text) (is_among (w ∷ []) v.text) (sym (list_any-append (λ u. bytes_eq v.text u.text) before (w ∷ [])) ∙ x)) ws
      (not-among (before ++ w ∷ []) ws (nothing_behind (if is_among before w.text then w ∷ [] else []) _ e)),
)
  where
    unless : (b : Bool) → (if b then w ∷ [] else []) ≡ [] → b ≡ false
    unless true h = cons_not_nil h
    unless false h = refl

    front : (a b : Bool) → (a || b) ≡ false → a ≡ false
    front true b h = absurd (true≢false h)
    front false b h = refl

distinct-nil : IsDistinct nat_eq []
unfolding IsDistinct
distinct-nil = tt

pub distinct : (k : NumberedRegion) (before : List Word) (gs : List GuardTree) → repeated_after before (map atom_word gs) ≡ [] → AllByRecursion (IsDeclared k) gs → IsDistinct nat_eq (map (guard_number k) gs)
distinct k before [] e a = distinct-nil
distinct k before (g ∷ gs) e a =
    IsDistinct-cons nat_eq (guard_number k g) (map (guard_number k) gs)
    (apart gs (not-among (before ++ atom_word g ∷ []) (map atom_word gs) rest) a.1)
    (distinct k (before ++ atom_word g ∷ []) gs rest a.1)
  where
    rest : repeated_after (before ++ atom_word g ∷ []) (map atom_word gs) ≡ []
    rest = nothing_behind (if is_among before (atom_word g).text then atom_word g ∷ [] else []) _ e

    last-not : (b c : Bool) → (b || (c || false)) ≡ false → c ≡ false
    last-not true c h = absurd (true≢false h)
    last-not false true h = absurd (true≢false h)
    last-not false false h = refl

    apart : (hs : List GuardTree) → AllByRecursion (λ w. is_among (before ++ atom_word g ∷ []) w.text ≡ false) (map atom_word hs) → AllByRecursion (IsDeclared k) hs → AllByRecursion (λ n. nat_eq (guard_number k g) n ≡ false) (map (guard_number k) hs)
    apart [] x b = tt
    apart (h ∷ hs) x b = (
      distinct-guards k g h a.0 b.0 (last-not (is_among before (atom_word h).text) (bytes_eq (atom_word h).text (atom_word g).text) (sym (list_any-append (λ u. bytes_eq (atom_word h).text u.text) before (atom_word g ∷ [])) ∙ x.0)),
      apart hs x.1 b.1,
    )
