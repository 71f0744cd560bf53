-- What is written of a schedule is read as that schedule.
use Rattle.std.proofs.Common.{◌≡◌, ◌∙◌, ap, sym, refl, subst, ℕ, zero, suc, ◌+◌, ◌-◌, ◌*◌, ◌/◌, ◌%◌, ◌^◌, ◌<◌, ◌≤◌, true, false, cond, ◌&&◌, nat_eq, nat_le, nat_lt, List, [], ◌∷◌, ◌++◌, map, flat_map, length, append_assoc, arith}
use Rattle.std.specs.Prelude.{ℤ, pos, negsuc, ◌<ℤ◌, int_lt, Option, Some, None, IfSome, option_map, option_and_then, Result, Ok, Err, codes}
use Rattle.std.specs.List.{AllByRecursion}
use Rattle.std.specs.Fmt.{decimal, signed_decimal}
use Rattle.std.proofs.lemmas.Fmt.{decimal_by_steps_wide}
use Rattle.std.proofs.lemmas.Int.{ints}
use Rattle.std.proofs.lemmas.Bool.Decides.{nat_tests}
use Rattle.cap_lin.specs.Steps.{fits}
use Rattle.cap_machine.specs.declared.event.Entry.{Entry}
use Rattle.cap_machine.specs.Cells.{AscendsFrom}
use Rattle.cap_replay_schedules.specs.declared.reading.ScheduleError.{ScheduleError}
use Rattle.cap_replay_schedules.specs.declared.reading.ScheduleError.TheVariants.{TooMany}
use Rattle.cap_replay_schedules.specs.declared.reading.Stage.{Stage}
use Rattle.cap_replay_schedules.specs.declared.reading.Stage.TheVariants.{Start, Cells, Steps, End}
use Rattle.cap_replay_schedules.specs.Pieces.{grow, put, pieces}
use Rattle.cap_replay_schedules.specs.Numbers.{is_digit, more_digits, zero_alone, natural, below_zero, number}
use Rattle.cap_replay_schedules.specs.Reading.{put_number, numbers_of, address_of, cell_with, entry_with, entry_of, base_of, Progress, begins, bad_unless, takes_args, takes_cell, takes_entry, of_words, take_line, lines_of, then_read, read_from, read}
use Rattle.cap_replay_schedules.specs.Writing.{numbers_text, cell_text, base_text, entry_text, schedule_lines, schedule_text, IsNarrowCell, IsNarrowEntry, PlainSchedule, IsWithinLimits, IsReadWhole}
use Rattle.cap_replay_schedules.proofs.PieceLemmas.{join, first_whole}
use Rattle.cap_replay_schedules.proofs.ReadLemmas.{one_piece}

append_nil : {A : Type 0} (xs : List A) → xs ++ [] ≡ xs
append_nil [] = refl
append_nil (x ∷ xs) = ap (λ ys. x ∷ ys) (append_nil xs)

-- ---- pieces

-- a text without the separator is in front of the first piece of what is behind it
abbrev Clear : ℕ → List ℕ → Type 0
Clear s xs = (bs : List ℕ) → pieces s (xs ++ bs) ≡ join xs (pieces s bs)

grow-join : (b : ℕ) (xs : List ℕ) (ps : List (List ℕ)) → grow b (join xs ps) ≡ join (b ∷ xs) ps
grow-join b xs [] = refl
grow-join b xs (p ∷ ps) = refl

join-join : (xs ys : List ℕ) (ps : List (List ℕ)) → join xs (join ys ps) ≡ join (xs ++ ys) ps
join-join xs ys [] = refl
join-join xs ys (p ∷ ps) = ap (λ x. x ∷ ps) (sym (append_assoc xs ys p))

same : (b s : ℕ) → b ≡ s → nat_eq b s ≡ true
same b s e = grind (arith, nat_tests)

other : (b s : ℕ) → s < b → nat_eq b s ≡ false
other b s l = grind (arith, nat_tests)

clear-nil : (s : ℕ) → Clear s []
clear-nil s bs = first_whole s bs

clear-cons : (s b : ℕ) (xs : List ℕ) → nat_eq b s ≡ false → Clear s xs → Clear s (b ∷ xs)
clear-cons s b xs e h bs =
    ap (put (nat_eq b s) b) (h bs) ∙ (ap (λ t. put t b (join xs (pieces s bs))) e ∙ grow-join b xs (pieces s bs))

clear-append : (s : ℕ) (xs ys : List ℕ) → Clear s xs → Clear s ys → Clear s (xs ++ ys)
clear-append s xs ys h k bs =
    ap (pieces s) (append_assoc xs ys bs) ∙ (h (ys ++ bs) ∙ (ap (join xs) (k bs) ∙ join-join xs ys (pieces s bs)))

abbrev Lacks : ℕ → List ℕ → Type 0
Lacks s [] = Unit {0}
Lacks s (b ∷ bs) = (nat_eq b s ≡ false) × Lacks s bs

clear-of : (s : ℕ) (xs : List ℕ) → Lacks s xs → Clear s xs
clear-of s [] h = clear-nil s
clear-of s (b ∷ bs) h = clear-cons s b bs h.0 (clear-of s bs h.1)

clear-digit : (s d : ℕ) → s < 48 → Clear s ((48 + d) ∷ [])
clear-digit s d l = clear-cons s (48 + d) [] (other (48 + d) s (omega arith)) (clear-nil s)

clear-decimal : (s n : ℕ) → s < 48 → n < 10 ^ 64 → Clear s (decimal n)
clear-decimal s n l h =
    decimal_by_steps_wide (λ m ds. Clear s ds) (λ m k. clear-digit s m l) (λ m ds k g. clear-append s ds ((48 + m % 10) ∷ []) g (clear-digit s (m % 10) l)) n h

narrow-pos : (n : ℕ) → fits (pos n) ≡ true → n < 2 ^ 127
narrow-pos n h = grind (arith, nat_tests)

narrow-neg : (n : ℕ) → fits (negsuc n) ≡ true → n < 2 ^ 127
narrow-neg n h = grind (arith, nat_tests)

clear-number : (s : ℕ) (v : ℤ) → s < 45 → fits v ≡ true → Clear s (signed_decimal v)
clear-number s (pos n) l h = let b = narrow-pos n h in clear-decimal s n (omega arith) (omega arith)
clear-number s (negsuc n) l h = let b = narrow-neg n h in clear-cons s 45 (decimal (suc n)) (other 45 s l) (clear-decimal s (suc n) (omega arith) (omega arith))

cut-at : (s : ℕ) (xs bs : List ℕ) → Clear s xs → pieces s (xs ++ s ∷ bs) ≡ xs ∷ pieces s bs
cut-at s xs bs h =
    h (s ∷ bs) ∙ (ap (λ t. join xs (put t s (pieces s bs))) (same s s refl) ∙ ap (λ x. x ∷ pieces s bs) (append_nil xs))

last-piece : (s : ℕ) (xs : List ℕ) → Clear s xs → pieces s xs ≡ xs ∷ []
last-piece s xs h = ap (pieces s) (sym (append_nil xs)) ∙ (h [] ∙ ap (λ x. x ∷ []) (append_nil xs))

-- ---- lines

line-front : (k bytes : List ℕ) → lines_of (k ∷ pieces 10 bytes) ≡ k ∷ lines_of (pieces 10 bytes)
line-front k bytes = go k (pieces 10 bytes) refl
  where
    go : (l : List ℕ) (ps : List (List ℕ)) → pieces 10 bytes ≡ ps → lines_of (l ∷ ps) ≡ l ∷ lines_of ps
    go l [] e = absurd (one_piece 10 bytes [] e refl)
    go [] (q ∷ qs) e = refl
    go (b ∷ l) (q ∷ qs) e = refl

lines-back : (ls : List (List ℕ)) → AllByRecursion (Clear 10) ls → lines_of (pieces 10 (flat_map (λ l. l ++ codes "\n") ls)) ≡ ls
lines-back [] h = refl
lines-back (l ∷ ls) h =
    ap (λ x. lines_of (pieces 10 x)) (append_assoc l (10 ∷ []) (flat_map (λ l. l ++ codes "\n") ls))
    ∙ (ap lines_of (cut-at 10 l (flat_map (λ l. l ++ codes "\n") ls) h.0)
    ∙ (line-front l (flat_map (λ l. l ++ codes "\n") ls) ∙ ap (λ x. l ∷ x) (lines-back ls h.1)))

-- ---- numbers

digit : (d : ℕ) → d < 10 → is_digit (48 + d) ≡ true
digit d l =
    let a : nat_le 48 (48 + d) ≡ true = grind (arith, nat_tests) in
    let b : nat_le (48 + d) 57 ≡ true = grind (arith, nat_tests) in
    ap (λ t. t && nat_le (48 + d) 57) a ∙ b

digit-more : (limit n d k : ℕ) (bs : List ℕ) → d < 10 → n * 10 + d ≡ k → more_digits limit n ((48 + d) ∷ bs) ≡ more_digits limit k bs
digit-more limit n d k bs l e =
    let f : n * 10 + ((48 + d) - 48) ≡ k = omega arith in
    ap (λ t. cond t (more_digits limit (n * 10 + ((48 + d) - 48)) bs) None) (digit d l) ∙ ap (λ m. more_digits limit m bs) f

digit-first : (limit d : ℕ) (bs : List ℕ) → 0 < d → d < 10 → natural limit ((48 + d) ∷ bs) ≡ more_digits limit d bs
digit-first limit d bs p l =
    let f : (48 + d) - 48 ≡ d = omega arith in
    ap (λ t. cond t (zero_alone bs) (cond (is_digit (48 + d)) (more_digits limit ((48 + d) - 48) bs) None)) (other (48 + d) 48 (omega arith))
    ∙ (ap (λ t. cond t (more_digits limit ((48 + d) - 48) bs) None) (digit d l) ∙ ap (λ m. more_digits limit m bs) f)

natural-front : (limit n : ℕ) → n < 10 ^ 64 → 0 < n → (bs : List ℕ) → natural limit (decimal n ++ bs) ≡ more_digits limit n bs
natural-front limit n h =
    decimal_by_steps_wide (λ m ds. 0 < m → (bs : List ℕ) → natural limit (ds ++ bs) ≡ more_digits limit m bs)
    (λ m l p bs. digit-first limit m bs p l)
    (λ m ds l g p bs.
    ap (natural limit) (append_assoc ds ((48 + m % 10) ∷ []) bs)
    ∙ (g (omega arith) ((48 + m % 10) ∷ bs) ∙ digit-more limit (m / 10) (m % 10) m bs (omega arith) (omega arith)))
    n h

zero-text : decimal 0 ≡ 48 ∷ []
zero-text = decimal_by_steps_wide (λ m ds. m ≡ 0 → ds ≡ 48 ∷ []) (λ m l e. ap (λ k. (48 + k) ∷ []) e) (λ m ds l g e. absurd (omega arith)) 0 (omega arith) refl

natural-back : (limit n : ℕ) → n ≤ limit → n < 10 ^ 64 → natural limit (decimal n) ≡ Some n
natural-back limit zero l h = ap (natural limit) zero-text
natural-back limit (suc n) l h =
    let e : nat_le (suc n) limit ≡ true = grind (arith, nat_tests) in
    ap (natural limit) (sym (append_nil (decimal (suc n))))
    ∙ (natural-front limit (suc n) h (omega arith) [] ∙ ap (λ t. cond t (Some (suc n)) None) e)

number-front : (n : ℕ) → n < 10 ^ 64 → (bs : List ℕ) → number (decimal n ++ bs) ≡ option_map pos (natural (2 ^ 127 - 1) (decimal n ++ bs))
number-front n h =
    decimal_by_steps_wide (λ m ds. (bs : List ℕ) → number (ds ++ bs) ≡ option_map pos (natural (2 ^ 127 - 1) (ds ++ bs)))
    (λ m l bs. ap (λ t. cond t (option_and_then below_zero (natural (2 ^ 127) bs)) (option_map pos (natural (2 ^ 127 - 1) ((48 + m) ∷ bs)))) (other (48 + m) 45 (omega arith)))
    (λ m ds l g bs.
    let a : (ds ++ (48 + m % 10) ∷ []) ++ bs ≡ ds ++ (48 + m % 10) ∷ bs = append_assoc ds ((48 + m % 10) ∷ []) bs in
    ap number a ∙ (g ((48 + m % 10) ∷ bs) ∙ ap (λ x. option_map pos (natural (2 ^ 127 - 1) x)) (sym a)))
    n h

address-back : (n : ℕ) → n < 2 ^ 127 → address_of (decimal n) ≡ Some (pos n)
address-back n h = ap (option_map pos) (natural-back (2 ^ 127 - 1) n (omega arith) (omega arith))

number-back : (v : ℤ) → fits v ≡ true → number (signed_decimal v) ≡ Some v
number-back (pos n) h =
    let b = narrow-pos n h in
    ap number (sym (append_nil (decimal n)))
    ∙ (number-front n (omega arith) [] ∙ (ap (λ x. option_map pos (natural (2 ^ 127 - 1) x)) (append_nil (decimal n)) ∙ address-back n b))
number-back (negsuc n) h = let b = narrow-neg n h in ap (option_and_then below_zero) (natural-back (2 ^ 127) (suc n) (omega arith) (omega arith))

-- ---- the first line

numbers-pieces : (vs : List ℤ) → AllByRecursion (λ v. fits v ≡ true) vs → pieces 32 (numbers_text vs) ≡ [] ∷ map signed_decimal vs
numbers-pieces [] h = refl
numbers-pieces (v ∷ vs) h =
    ap (λ ps. [] ∷ ps) (clear-number 32 v (omega arith) h.0 (numbers_text vs))
    ∙ (ap (λ ps. [] ∷ join (signed_decimal v) ps) (numbers-pieces vs h.1) ∙ ap (λ x. [] ∷ x ∷ map signed_decimal vs) (append_nil (signed_decimal v)))

numbers-back : (vs : List ℤ) → AllByRecursion (λ v. fits v ≡ true) vs → numbers_of (map signed_decimal vs) ≡ Some vs
numbers-back [] h = refl
numbers-back (v ∷ vs) h = ap (λ o. put_number o (numbers_of (map signed_decimal vs))) (number-back v h.0) ∙ ap (put_number (Some v)) (numbers-back vs h.1)

abbrev progress : Stage → ℤ → List ℤ → List (ℤ × ℤ) → List Entry → Progress
progress stage last args heap entries = record { stage = stage; last = last; args = args; heap = heap; entries = entries }

start-taken : (vs : List ℤ) → AllByRecursion (λ v. fits v ≡ true) vs → take_line 1 begins (codes "start" ++ numbers_text vs) ≡ Ok (progress Cells (pos 0) vs [] [])
start-taken vs h =
    ap (of_words 1 begins) (clear-of 32 (codes "start") (refl, (refl, (refl, (refl, (refl, tt))))) (numbers_text vs) ∙ ap (join (codes "start")) (numbers-pieces vs h))
    ∙ ap (λ o. bad_unless 1 (takes_args begins o)) (numbers-back vs h)

-- ---- cells

cell-pieces : (a v : List ℕ) → Clear 32 a → Clear 32 v → pieces 32 (codes "cell " ++ (a ++ (codes " " ++ v))) ≡ codes "cell" ∷ a ∷ v ∷ []
cell-pieces a v h k =
    cut-at 32 (codes "cell") (a ++ 32 ∷ v) (clear-of 32 (codes "cell") (refl, (refl, (refl, (refl, tt)))))
    ∙ ap (λ ps. codes "cell" ∷ ps) (cut-at 32 a v h ∙ ap (λ ps. a ∷ ps) (last-piece 32 v k))

below : (k a : ℕ) → pos k <ℤ pos a → int_lt (pos k) (pos a) ≡ true
below k a l = grind (arith, ints)

cell-taken : (n k a : ℕ) (v : ℤ) (args : List ℤ) (heap : List (ℤ × ℤ)) → pos k <ℤ pos a → IsNarrowCell (pos a, v) → take_line n (progress Cells (pos k) args heap []) (cell_text (pos a, v)) ≡ Ok (progress Cells (pos a) args (heap ++ (pos a, v) ∷ []) [])
cell-taken n k a v args heap l h =
    let p : Progress = progress Cells (pos k) args heap [] in
    ap (of_words n p) (cell-pieces (decimal a) (signed_decimal v) (clear-number 32 (pos a) (omega arith) h.0) (clear-number 32 v (omega arith) h.1))
    ∙ (ap (λ o. bad_unless n (takes_cell p (cell_with o (number (signed_decimal v))))) (address-back a (narrow-pos a h.0))
    ∙ (ap (λ o. bad_unless n (takes_cell p (cell_with (Some (pos a)) o))) (number-back v h.1)
    ∙ ap (λ t. bad_unless n (cond t (Some (progress Cells (pos a) args (heap ++ (pos a, v) ∷ []) [])) None)) (below k a l)))

cells-read : (P : Result Progress ScheduleError → Type 0) (rest : List (List ℕ)) (args : List ℤ) (cs : List (ℤ × ℤ)) (n k : ℕ) (heap : List (ℤ × ℤ)) → AscendsFrom (pos k) cs → AllByRecursion IsNarrowCell cs → ((m : ℕ) (last : ℤ) → P (read_from m (progress Cells last args (heap ++ cs) []) rest)) → P (read_from n (progress Cells (pos k) args heap []) (map cell_text cs ++ rest))
cells-read P rest args [] n k heap a h f = subst (λ hs. P (read_from n (progress Cells (pos k) args hs []) rest)) (append_nil heap) (f n (pos k))
cells-read P rest args (c ∷ cs) n k heap a h f =
    go c.0 refl a.0
    (λ b e. cells-read P rest args cs (suc n) b (heap ++ c ∷ []) (subst (λ z. AscendsFrom z cs) e a.1) h.1
    (λ m last. subst (λ hs. P (read_from m (progress Cells last args hs []) rest)) (sym (append_assoc heap (c ∷ []) cs)) (f m last)))
  where
    negative : (d : ℕ) → pos k <ℤ negsuc d → ⊥
    negative d m = grind (arith, ints)

    go : (z : ℤ) → c.0 ≡ z → pos k <ℤ c.0 → ((b : ℕ) → c.0 ≡ pos b → P (read_from (suc n) (progress Cells (pos b) args (heap ++ c ∷ []) []) (map cell_text cs ++ rest))) → P (read_from n (progress Cells (pos k) args heap []) (map cell_text (c ∷ cs) ++ rest))
    go (pos b) e l r =
        let d : c ≡ (pos b, c.1) = ap (λ z. (z, c.1)) e in
        let t : take_line n (progress Cells (pos k) args heap []) (cell_text c) ≡ Ok (progress Cells (pos b) args (heap ++ c ∷ []) []) = subst (λ x. take_line n (progress Cells (pos k) args heap []) (cell_text x) ≡ Ok (progress Cells (pos b) args (heap ++ x ∷ []) [])) (sym d) (cell-taken n k b c.1 args heap (subst (λ z. pos k <ℤ z) e l) (subst IsNarrowCell d h.0)) in
        subst P (sym (ap (λ x. then_read x (λ q. read_from (suc n) q (map cell_text cs ++ rest))) t)) (r b e)
    go (negsuc b) e l r = absurd (negative b (subst (λ z. pos k <ℤ z) e l))

-- ---- entries

abbrev IsOpen : Stage → Type 0
IsOpen Start = ⊥
IsOpen Cells = Unit {0}
IsOpen Steps = Unit {0}
IsOpen End = ⊥

abbrev base_words : Option ℤ → List (List ℕ)
base_words None = []
base_words (Some b) = signed_decimal b ∷ []

abbrev IsNarrowBase : Option ℤ → Type 0
IsNarrowBase b = IfSome b (λ v. fits v ≡ true)

entry-pieces : (t : ℕ) (b : Option ℤ) → t < 2 ^ 32 → IsNarrowBase b → pieces 32 (codes "step " ++ (decimal t ++ base_text b)) ≡ codes "step" ∷ decimal t ∷ base_words b
entry-pieces t b l h =
    cut-at 32 (codes "step") (decimal t ++ base_text b) (clear-of 32 (codes "step") (refl, (refl, (refl, (refl, tt)))))
    ∙ ap (λ ps. codes "step" ∷ ps) (go b h)
  where
    clear : Clear 32 (decimal t)
    clear = clear-decimal 32 t (omega arith) (omega arith)

    go : (b : Option ℤ) → IsNarrowBase b → pieces 32 (decimal t ++ base_text b) ≡ decimal t ∷ base_words b
    go None h = ap (pieces 32) (append_nil (decimal t)) ∙ last-piece 32 (decimal t) clear
    go (Some v) h = cut-at 32 (decimal t) (signed_decimal v) clear ∙ ap (λ ps. decimal t ∷ ps) (last-piece 32 (signed_decimal v) (clear-number 32 v (omega arith) h))

base-back : (b : Option ℤ) → IsNarrowBase b → base_of (base_words b) ≡ Some b
base-back None h = refl
base-back (Some v) h = ap (option_map Some) (number-back v h)

entry-back : (e : Entry) → IsNarrowEntry e → entry_of (decimal e.thread ∷ base_words e.base) ≡ Some e
entry-back e h =
    let l : e.thread < 2 ^ 32 = h.0 in
    ap (λ o. entry_with o (base_of (base_words e.base))) (natural-back (2 ^ 32 - 1) e.thread (omega arith) (omega arith))
    ∙ ap (entry_with (Some e.thread)) (base-back e.base h.1)

entry-taken : (n : ℕ) (s : Stage) (last : ℤ) (args : List ℤ) (heap : List (ℤ × ℤ)) (done : List Entry) (e : Entry) → IsOpen s → length done < 100000 → IsNarrowEntry e → take_line n (progress s last args heap done) (entry_text e) ≡ Ok (progress Steps last args heap (done ++ e ∷ []))
entry-taken n s last args heap done e o l h =
    ap (of_words n (progress s last args heap done)) (entry-pieces e.thread e.base h.0 h.1) ∙ go s o
  where
    few : nat_lt (length done) 100000 ≡ true
    few = grind (arith, nat_tests)

    taken : (t : Stage) → takes_entry n (progress t last args heap done) (entry_of (decimal e.thread ∷ base_words e.base)) ≡ Ok (progress Steps last args heap (done ++ e ∷ []))
    taken t =
        ap (takes_entry n (progress t last args heap done)) (entry-back e h)
        ∙ ap (λ b. cond b (Ok (progress Steps last args heap (done ++ e ∷ []))) (Err TooMany)) few

    go : (t : Stage) → IsOpen t → of_words n (progress t last args heap done) (codes "step" ∷ decimal e.thread ∷ base_words e.base) ≡ Ok (progress Steps last args heap (done ++ e ∷ []))
    go Start o = absurd o
    go Cells o = taken Cells
    go Steps o = taken Steps
    go End o = absurd o

entries-read : (P : Result Progress ScheduleError → Type 0) (rest : List (List ℕ)) (last : ℤ) (args : List ℤ) (heap : List (ℤ × ℤ)) (es : List Entry) (n : ℕ) (s : Stage) (done : List Entry) → IsOpen s → length done + length es ≤ 100000 → AllByRecursion IsNarrowEntry es → ((m : ℕ) (t : Stage) → IsOpen t → P (read_from m (progress t last args heap (done ++ es)) rest)) → P (read_from n (progress s last args heap done) (map entry_text es ++ rest))
entries-read P rest last args heap [] n s done o l h f = subst (λ xs. P (read_from n (progress s last args heap xs) rest)) (append_nil done) (f n s o)
entries-read P rest last args heap (e ∷ es) n s done o l h f =
    let more : length (done ++ e ∷ []) ≡ length done + 1 = longer done in
    subst P (sym (ap (λ r. then_read r (λ q. read_from (suc n) q (map entry_text es ++ rest))) (entry-taken n s last args heap done e o (omega arith) h.0)))
    (entries-read P rest last args heap es (suc n) Steps (done ++ e ∷ []) tt (omega arith) h.1
    (λ m t k. subst (λ xs. P (read_from m (progress t last args heap xs) rest)) (sym (append_assoc done (e ∷ []) es)) (f m t k)))
  where
    longer : (xs : List Entry) → length (xs ++ e ∷ []) ≡ length xs + 1
    longer [] = refl
    longer (x ∷ xs) = omega (arith, longer xs)

-- ---- the whole

ends-back : (s : PlainSchedule) (m : ℕ) (last : ℤ) (t : Stage) → IsOpen t → IsReadWhole s (read_from m (progress t last s.args s.heap s.entries) (codes "end" ∷ []))
ends-back s m last Start o = absurd o
ends-back s m last Cells o = (refl, refl, refl)
ends-back s m last Steps o = (refl, refl, refl)
ends-back s m last End o = absurd o

clear-numbers : (vs : List ℤ) → AllByRecursion (λ v. fits v ≡ true) vs → Clear 10 (numbers_text vs)
clear-numbers [] h = clear-nil 10
clear-numbers (v ∷ vs) h = clear-append 10 (codes " ") (signed_decimal v ++ numbers_text vs) (clear-of 10 (codes " ") (refl, tt)) (clear-append 10 (signed_decimal v) (numbers_text vs) (clear-number 10 v (omega arith) h.0) (clear-numbers vs h.1))

clear-cell : (c : ℤ × ℤ) → IsNarrowCell c → Clear 10 (cell_text c)
clear-cell c h =
    clear-append 10 (codes "cell ") (signed_decimal c.0 ++ (codes " " ++ signed_decimal c.1)) (clear-of 10 (codes "cell ") (refl, (refl, (refl, (refl, (refl, tt))))))
    (clear-append 10 (signed_decimal c.0) (codes " " ++ signed_decimal c.1) (clear-number 10 c.0 (omega arith) h.0)
    (clear-append 10 (codes " ") (signed_decimal c.1) (clear-of 10 (codes " ") (refl, tt)) (clear-number 10 c.1 (omega arith) h.1)))

clear-base : (b : Option ℤ) → IsNarrowBase b → Clear 10 (base_text b)
clear-base None h = clear-nil 10
clear-base (Some v) h = clear-append 10 (codes " ") (signed_decimal v) (clear-of 10 (codes " ") (refl, tt)) (clear-number 10 v (omega arith) h)

clear-entry : (e : Entry) → IsNarrowEntry e → Clear 10 (entry_text e)
clear-entry e h =
    let l : e.thread < 2 ^ 32 = h.0 in
    clear-append 10 (codes "step ") (decimal e.thread ++ base_text e.base) (clear-of 10 (codes "step ") (refl, (refl, (refl, (refl, (refl, tt))))))
    (clear-append 10 (decimal e.thread) (base_text e.base) (clear-decimal 10 e.thread (omega arith) (omega arith)) (clear-base e.base h.1))

clear-each : {A : Type 0} (f : A → List ℕ) (Q : A → Type 0) → ((x : A) → Q x → Clear 10 (f x)) → (xs : List A) (ls : List (List ℕ)) → AllByRecursion Q xs → AllByRecursion (Clear 10) ls → AllByRecursion (Clear 10) (map f xs ++ ls)
clear-each f Q g [] ls h k = k
clear-each f Q g (x ∷ xs) ls h k = (g x h.0, clear-each f Q g xs ls h.1 k)

clear-lines : (s : PlainSchedule) → IsWithinLimits s → AllByRecursion (Clear 10) (schedule_lines s)
clear-lines s h = (
  clear-append 10 (codes "start") (numbers_text s.args) (clear-of 10 (codes "start") (refl, (refl, (refl, (refl, (refl, tt)))))) (clear-numbers s.args h.args),
  clear-each cell_text IsNarrowCell clear-cell s.heap (map entry_text s.entries ++ codes "end" ∷ []) h.cells
      (clear-each entry_text IsNarrowEntry clear-entry s.entries (codes "end" ∷ []) h.entries
      (clear-of 10 (codes "end") (refl, (refl, (refl, tt))), tt)),
)

pub schedule-back : (s : PlainSchedule) → IsWithinLimits s → IsReadWhole s (read (schedule_text s))
schedule-back s h =
    let few : length s.entries ≤ 100000 = h.few in
    let behind : List (List ℕ) = map entry_text s.entries ++ codes "end" ∷ [] in
    subst (λ ls. IsReadWhole s (read_from 1 begins ls)) (sym (lines-back (schedule_lines s) (clear-lines s h)))
    (subst (IsReadWhole s) (sym (ap (λ r. then_read r (λ q. read_from 2 q (map cell_text s.heap ++ behind))) (start-taken s.args h.args)))
    (cells-read (IsReadWhole s) behind s.args s.heap 2 0 [] h.addresses h.cells
    (λ m last. entries-read (IsReadWhole s) (codes "end" ∷ []) last s.args s.heap s.entries m Cells [] tt (omega arith) h.entries
    (λ k t o. ends-back s k last t o))))
