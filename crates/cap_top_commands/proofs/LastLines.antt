-- With which bytes the last lines of a text end. In a report no line but the one on an empty
-- precondition ends with a `y`.
use Rattle.std.proofs.Common.{◌≡◌, ℕ, zero, suc, ◌+◌, ◌/◌, ◌%◌, ◌<◌, ◌==◌, ℤ, pos, negsuc, Bool, true, false, List, [], ◌∷◌, ◌++◌, flat_map, length, refl, sym, ap, ◌∙◌, subst, arith}
use Rattle.std.specs.Prelude.{codes, not, ◌&&◌, if◌then◌else◌}
use Rattle.std.specs.List.{AllByRecursion}
use Rattle.std.specs.Fmt.{decimal, signed_decimal, digits, digits_onto, digit_glyph}
use Rattle.std.proofs.lemmas.Bool.{ne_eqb, lt-ltb}
use Rattle.cap_syntax.specs.declared.place.Place.{Place}
use Rattle.cap_syntax.specs.Place.{place_text}
use Rattle.cap_prog.specs.Program.{PlainProgram}
use Rattle.cap_goal_spec.specs.Roots.{PlainUnit, units}
use Rattle.cap_search_spec.specs.Leaves.{Need, lacks_fact, lacks_cell, lacks_region, lacks_guard, lacks_move, lacks_state}
use Rattle.cap_search_spec.specs.Starts.{empty_start}
use Rattle.cap_search_spec.specs.Verdicts.{PlainVerdict, is_proved, is_spent, is_deep, is_wide, is_rows, is_stuck, verdict}
use Rattle.cap_top_report.specs.Report.{unit_line, proved_count, start_line, count_line, report_text}
use Rattle.cap_top_report.specs.Texts.{need_word, verdict_text, unit_title, titled_line}
use Rattle.cap_top_commands.specs.Output.{long_derivation_output}

-- the last byte of the line so far, of the line before it, and of the one before that
record Ends : Type 0 where
  now : ℕ
  last : ℕ
  second : ℕ

abbrev turned : Bool → ℕ → Ends → Ends
turned true x e = record { now = 0; last = e.now; second = e.last }
turned false x e = record { now = x; last = e.last; second = e.second }

abbrev ends : Ends → List ℕ → Ends
ends e [] = e
ends e (x ∷ xs) = ends (turned (x == 10) x e) xs

ends-join : (e : Ends) (xs ys : List ℕ) → ends e (xs ++ ys) ≡ ends (ends e xs) ys
ends-join e [] ys = refl
ends-join e (x ∷ xs) ys = ends-join (turned (x == 10) x e) xs ys

-- ---- bytes that are neither LF nor `y`

abbrev IsPlain : ℕ → Type 0
IsPlain x = ((x == 10) ≡ false) × ((x == 121) ≡ false)

abbrev ArePlain : List ℕ → Type 0
ArePlain xs = AllByRecursion IsPlain xs

plain-join : (xs ys : List ℕ) → ArePlain xs → ArePlain ys → ArePlain (xs ++ ys)
plain-join [] ys h k = k
plain-join (x ∷ xs) ys h k = (h.0, plain-join xs ys h.1 k)

abbrev are_plain : List ℕ → Bool
are_plain [] = true
are_plain (x ∷ xs) = not (x == 10) && (not (x == 121) && are_plain xs)

both : (a b : Bool) → (not a && b) ≡ true → (a ≡ false) × (b ≡ true)
both false b e = (refl, e)
both true b e = absurd (let f : false ≡ true = e in cc)

plain-from : (xs : List ℕ) → are_plain xs ≡ true → ArePlain xs
plain-from [] e = tt
plain-from (x ∷ xs) e =
    let p = both (x == 10) (not (x == 121) && are_plain xs) e in
    let q = both (x == 121) (are_plain xs) p.1 in
    ((p.0, q.0), plain-from xs q.1)

-- ---- numbers

glyph-plain : (d x : ℕ) → d < 10 → x ≡ digit_glyph false d → IsPlain x
glyph-plain d x h e =
    let f : x ≡ 48 + d = e ∙ ap (λ b. if b then 48 + d else 87 + d) (lt-ltb d 10 h) in
    (ne_eqb x 10 (λ g. omega (arith, f, g)), ne_eqb x 121 (λ g. omega (arith, f, g, h)))

digits-plain : (k n : ℕ) (acc : List ℕ) → ArePlain acc → ArePlain (digits_onto k 10 false n acc)
digits-plain zero n acc h = h
digits-plain (suc k) n acc h = by (n / 10 == 0) (digits-plain k (n / 10) (glyph ∷ acc) (one, h))
  where
    glyph : ℕ
    glyph = digit_glyph false (n % 10)

    one : IsPlain glyph
    one = glyph-plain (n % 10) glyph (omega arith) refl

    by : (b : Bool) → ArePlain (digits_onto k 10 false (n / 10) (glyph ∷ acc))
        → ArePlain (if b then glyph ∷ acc else digits_onto k 10 false (n / 10) (glyph ∷ acc))
    by true g = (one, h)
    by false g = g

decimal-plain : (n : ℕ) → ArePlain (decimal n)
unfolding digits
decimal-plain n = digits-plain 64 n [] tt

signed-plain : (v : ℤ) → ArePlain (signed_decimal v)
signed-plain (pos n) = decimal-plain n
signed-plain (negsuc n) = ((refl, refl), decimal-plain (suc n))

place-plain : (p : Place) → ArePlain (place_text p)
place-plain p =
    plain-join (decimal p.line ++ codes ":") (decimal p.column)
    (plain-join (decimal p.line) (codes ":") (decimal-plain p.line) (plain-from (codes ":") refl))
    (decimal-plain p.column)

-- ---- verdicts

need-plain : (n : Need) → ArePlain (need_word n)
need-plain lacks_fact = plain-from (codes "fact") refl
need-plain lacks_cell = plain-from (codes "cell") refl
need-plain lacks_region = plain-from (codes "region") refl
need-plain lacks_guard = plain-from (codes "guard") refl
need-plain lacks_move = plain-from (codes "move") refl
need-plain lacks_state = plain-from (codes "state") refl

verdict-plain : (v : PlainVerdict) → ArePlain (verdict_text v)
verdict-plain (is_proved trees) = plain-from (codes "proved") refl
verdict-plain (is_spent budget) =
    plain-join (codes "spent ") (decimal budget) (plain-from (codes "spent ") refl) (decimal-plain budget)
verdict-plain is_deep = plain-from (codes "deep 1000") refl
verdict-plain (is_wide a b) =
    plain-join (codes "wide ") (signed_decimal a ++ (codes " " ++ signed_decimal b)) (plain-from (codes "wide ") refl)
    (plain-join (signed_decimal a) (codes " " ++ signed_decimal b) (signed-plain a)
    (plain-join (codes " ") (signed_decimal b) (plain-from (codes " ") refl) (signed-plain b)))
verdict-plain is_rows = plain-from (codes "rows 4096") refl
verdict-plain (is_stuck o) =
    let end = codes " " ++ place_text o.item in
    plain-join (codes "open ") (place_text o.statement ++ (codes " needs " ++ (need_word o.need ++ end)))
    (plain-from (codes "open ") refl)
    (plain-join (place_text o.statement) (codes " needs " ++ (need_word o.need ++ end)) (place-plain o.statement)
    (plain-join (codes " needs ") (need_word o.need ++ end) (plain-from (codes " needs ") refl)
    (plain-join (need_word o.need) end (need-plain o.need)
    (plain-join (codes " ") (place_text o.item) (plain-from (codes " ") refl) (place-plain o.item)))))

-- ---- the last bytes of what is plain, and of lines

-- no byte of these ends a line
last-kept : (xs : List ℕ) (e : Ends) → ArePlain xs → (ends e xs).last ≡ e.last
last-kept [] e h = refl
last-kept (x ∷ xs) e h =
    last-kept xs (turned (x == 10) x e) h.1 ∙ ap (λ b. (turned b x e).last) h.0.0

-- and none is a `y`
now-kept : (xs : List ℕ) (e : Ends) → ArePlain xs → (e.now == 121) ≡ false → ((ends e xs).now == 121) ≡ false
now-kept [] e h k = k
now-kept (x ∷ xs) e h k =
    now-kept xs (turned (x == 10) x e) h.1
    (ap (λ b. (turned b x e).now == 121) h.0.0 ∙ h.0.1)

-- what ends with one line ends behind a plain text as behind none
second-behind : (m : ℕ) (xs ys : List ℕ) → ArePlain xs → ((e : Ends) → e.last ≡ m → (ends e ys).second ≡ m)
    → (e : Ends) → e.last ≡ m → (ends e (xs ++ ys)).second ≡ m
second-behind m xs ys p f e h =
    ap (λ (d : Ends). d.second) (ends-join e xs ys) ∙ f (ends e xs) (last-kept xs e p ∙ h)

count-second : (m proved all : ℕ) (e : Ends) → e.last ≡ m → (ends e (count_line proved all)).second ≡ m
count-second m proved all =
    second-behind m (codes "proved ") (decimal proved ++ (codes " of " ++ (decimal all ++ codes "\n"))) (plain-from (codes "proved ") refl)
    (second-behind m (decimal proved) (codes " of " ++ (decimal all ++ codes "\n")) (decimal-plain proved)
    (second-behind m (codes " of ") (decimal all ++ codes "\n") (plain-from (codes " of ") refl)
    (second-behind m (decimal all) (codes "\n") (decimal-plain all) (λ e h. h))))

-- behind these lines stands one that counts
second-counted : (e : Ends) (xs : List ℕ) (proved all : ℕ) → (ends e (xs ++ count_line proved all)).second ≡ (ends e xs).last
second-counted e xs proved all =
    ap (λ (d : Ends). d.second) (ends-join e xs (count_line proved all))
    ∙ count-second (ends e xs).last proved all (ends e xs) refl

abbrev LastIsOther : Ends → Type 0
LastIsOther e = (e.last == 121) ≡ false

line-other : (title : List ℕ) (v : PlainVerdict) (e : Ends) → LastIsOther (ends e (titled_line title v))
line-other title v e =
    let a = ends e title in
    let b = ends a (codes ": ") in
    let c = ends b (verdict_text v) in
    let f : ends e (titled_line title v) ≡ ends c (codes "\n") =
    ends-join e title (codes ": " ++ (verdict_text v ++ codes "\n"))
    ∙ (ends-join a (codes ": ") (verdict_text v ++ codes "\n")
    ∙ ends-join b (verdict_text v) (codes "\n")) in
    subst LastIsOther (sym f) (now-kept (verdict_text v) b (verdict-plain v) refl)

abbrev unit_lines : PlainProgram → ℕ → List PlainUnit → List ℕ
unit_lines p budget us = flat_map (unit_line p budget) us

units-other : (p : PlainProgram) (budget : ℕ) (us : List PlainUnit) (e : Ends) → LastIsOther e → LastIsOther (ends e (unit_lines p budget us))
units-other p budget [] e h = h
units-other p budget (u ∷ us) e h =
    subst LastIsOther (sym (ends-join e (unit_line p budget u) (unit_lines p budget us)))
    (units-other p budget us (ends e (unit_line p budget u)) (line-other (unit_title p u) (verdict p u budget) e))

-- ---- the line on an empty precondition

abbrev none : Ends
none = record { now = 0; last = 0; second = 0 }

empty-second : (before : List ℕ) (m n : ℕ) → (ends none (before ++ (start_line true ++ count_line m n))).second ≡ 121
empty-second before m n =
    ap (λ (d : Ends). d.second) (ends-join none before (start_line true ++ count_line m n))
    ∙ second-counted (ends none before) (start_line true) m n

by-start : (b : Bool) (p : PlainProgram) (budget : ℕ) (us : List PlainUnit) (j k : ℕ) (before : List ℕ) (m n : ℕ)
    → unit_lines p budget us ++ (start_line b ++ count_line j k) ≡ before ++ (start_line true ++ count_line m n) → b ≡ true
by-start true p budget us j k before m n e = refl
by-start false p budget us j k before m n e =
    let last : (ends none (unit_lines p budget us)).last ≡ 121 =
    sym (second-counted none (unit_lines p budget us) j k) ∙ (ap (λ t. (ends none t).second) e ∙ empty-second before m n) in
    let f : true ≡ false = sym (ap (λ x. x == 121) last) ∙ units-other p budget us none refl in
    absurd cc

-- a report has it only where the precondition is found empty
pub report-empty : (p : PlainProgram) (budget : ℕ) (before : List ℕ) (m n : ℕ)
    → report_text p budget ≡ before ++ (start_line true ++ count_line m n) → empty_start p ≡ true
report-empty p budget before m n e =
    by-start (empty_start p) p budget (units p) (proved_count p budget) (length (units p)) before m n e

-- nor is there one in the line on a derivation that is too long
pub long-other : (before : List ℕ) (m n : ℕ) → long_derivation_output.text ≡ before ++ (start_line true ++ count_line m n) → ⊥
long-other before m n e =
    let f : 0 ≡ 121 = ap (λ t. (ends none t).second) e ∙ empty-second before m n in
    absurd (omega (arith, f))
