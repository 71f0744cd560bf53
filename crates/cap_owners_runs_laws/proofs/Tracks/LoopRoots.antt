-- The root of a loop at which a frame stands: the loop is found by the number of its statement.
use Rattle.std.proofs.Common.{◌≡◌, inl, inr, ℕ, zero, suc, ◌+◌, ◌*◌, ◌≤◌, Bool, true, false, true≢false, cond, find, nat_lt, List, [], ◌∷◌, ◌++◌, map, flat_map, length, Some, None, refl, sym, ap, ◌∙◌, subst, arith, eqb-true, ltb-true}
use Rattle.std.specs.Prelude.{slice_get, position, ◌==◌}
use Rattle.std.specs.List.{position_or_len, range_with_len}
use Rattle.std.proofs.lemmas.List.Folds.{find_at}
use Rattle.std.proofs.lemmas.Bool.{lt-ltb}
use Rattle.std.proofs.lemmas.Bool.Decides.{nat_tests}
use Rattle.cap_prog.specs.declared.assertion.Comp.{Comp}
use Rattle.cap_prog.specs.Program.{PlainAssertion, Label, PlainAct, set, read, write, cas, faa, dispose, alloc, call, fork, branch, loop, check, give_back, Block, done, first, append, PlainStatement, PlainFunction, PlainProgram}
use Rattle.cap_prog.specs.Parts.{block_statements, all_statements}
use Rattle.cap_goal_spec.specs.Roots.{LoopPoint, loops_of, loops_in, at_loop, home_of, from_given, loop_roots}
use Rattle.cap_goal_spec.specs.States.{to_turn}
use Rattle.cap_outline_spec.specs.Standing.{first_number}
use Rattle.cap_account_resources.proofs.Lists.{Among, some-same, none-some, there-is, map-at, within}
use Rattle.cap_account_steps.proofs.Points.{Point, loop_point, point-loop}
use Rattle.cap_owners_spec.specs.Steps.{same_statement, loop_number}

-- ---- numbers that ascend within bounds

abbrev Within : ℕ → ℕ → List ℕ → Type 0
Within low high [] = low ≤ high
Within low high (n ∷ ns) = (low ≤ n) × Within (n + 1) high ns

within-least : (low high : ℕ) (ns : List ℕ) → Within low high ns → low ≤ high
within-least low high [] h = h
within-least low high (n ∷ ns) h =
    let l = h.0 in
    let m = within-least (n + 1) high ns h.1 in
    omega (arith, l, m)

within-range : (low n : ℕ) → Within low (low + n) (range_with_len low n)
within-range low zero = omega arith
within-range low (suc n) =
    let e : low + 1 + n ≡ low + suc n = omega arith in (
      omega arith,
      subst (λ k. Within (low + 1) k (range_with_len (low + 1) n)) e
          (within-range (low + 1) n),
    )

-- those of one list, and then those of another
record Parted (low high : ℕ) (ns ms : List ℕ) : Type 0 where
  mid : ℕ
  front : Within low mid ns
  behind : Within mid high ms

part : (low high : ℕ) (ns ms : List ℕ) → Within low high (ns ++ ms) → Parted low high ns ms
part low high [] ms h = record { mid = low; front = omega arith; behind = h }
part low high (n ∷ ns) ms h =
    let r = part (n + 1) high ns ms h.1 in
    record { mid = r.mid; front = (h.0, r.front); behind = r.behind }

later-within : (low low' high : ℕ) (ns : List ℕ) → low ≤ low' → Within low' high ns → Within low
    high ns
later-within low low' high [] l h = omega (arith, l, h)
later-within low low' high (n ∷ ns) l h = (let k = h.0 in omega (arith, l, k), h.1)

join :
    (low mid high : ℕ) (ns ms : List ℕ) → Within low mid ns → Within mid high ms →
    Within low high (ns ++ ms)
join low mid high [] ms h k = later-within low mid high ms h k
join low mid high (n ∷ ns) ms h k = (h.0, join (n + 1) mid high ns ms h.1 k)

-- a number stands at one place alone
within-low :
    (low high : ℕ) (ns : List ℕ) (i n : ℕ) → Within low high ns → slice_get ns i ≡ Some n → low ≤ n
within-low low high [] i n h e = absurd (none-some e)
within-low low high (m ∷ ns) zero n h e = subst (λ k. low ≤ k) (some-same m n e) h.0
within-low low high (m ∷ ns) (suc i) n h e =
    let l = h.0 in
    let k = within-low (m + 1) high ns i n h.1 e in
    omega (arith, l, k)

one-place :
    (low high : ℕ) (ns : List ℕ) (i j n : ℕ) → Within low high ns → slice_get ns i ≡ Some n →
    slice_get ns j ≡ Some n → i ≡ j
one-place low high [] i j n h e f = absurd (none-some e)
one-place low high (m ∷ ns) zero zero n h e f = refl
one-place low high (m ∷ ns) zero (suc j) n h e f =
    let l = within-low (m + 1) high ns j n h.1 f in
    let q = some-same m n e in
    absurd (omega (arith, l, q))
one-place low high (m ∷ ns) (suc i) zero n h e f =
    let l = within-low (m + 1) high ns i n h.1 e in
    let q = some-same m n f in
    absurd (omega (arith, l, q))
one-place low high (m ∷ ns) (suc i) (suc j) n h e f =
    ap suc (one-place (m + 1) high ns i j n h.1 e f)

-- ---- the loops of a body

abbrev numbers : List PlainStatement → List ℕ
numbers ss = map (λ s. s.label.number) ss

-- the number of a loop's statement
abbrev number_of_block : Block → ℕ
number_of_block done = 0
number_of_block (first l a rest) = l.number

abbrev loop_numbers : List LoopPoint → List ℕ
loop_numbers ws = map (λ w. number_of_block w.block) ws

map-join :
    {A B : Type 0} (f : A → B) (xs ys : List A) → map f (xs ++ ys) ≡ map f xs ++ map f ys
map-join f [] ys = refl
map-join f (x ∷ xs) ys = ap (λ zs. f x ∷ zs) (map-join f xs ys)

split :
    (low high : ℕ) (ss ts : List PlainStatement) → Within low high (numbers (ss ++ ts)) →
    Parted low high (numbers ss) (numbers ts)
split low high ss ts h =
    part low high (numbers ss) (numbers ts)
    (subst (Within low high) (map-join (λ (s : PlainStatement). s.label.number) ss ts) h)

both-loops :
    (low mid high : ℕ) (vs ws : List LoopPoint) → Within low mid (loop_numbers vs) →
    Within mid high (loop_numbers ws) → Within low high (loop_numbers (vs ++ ws))
both-loops low mid high vs ws h k =
    subst (Within low high) (sym (map-join (λ (w : LoopPoint). number_of_block w.block) vs ws))
    (join low mid high (loop_numbers vs) (loop_numbers ws) h k)

-- a statement without blocks has no loop
few :
    (low high : ℕ) (l : Label) (ns : List ℕ) → low ≤ l.number → Within (l.number + 1) high ns →
    low ≤ high
few low high l ns e h =
    let m = within-least (l.number + 1) high ns h in
    omega (arith, e, m)

mutual
  -- the statement's own number comes first
  act-loops :
      (low high : ℕ) (s : PlainAct) (l : Label) (after : Block) → low ≤ l.number →
      Within (l.number + 1) high (numbers (block_statements s)) →
      Within low high (loop_numbers (loops_of s l after))
  act-loops low high (set x t) l after e h = few low high l [] e h
  act-loops low high (read x t) l after e h = few low high l [] e h
  act-loops low high (write t u) l after e h = few low high l [] e h
  act-loops low high (cas x t u w) l after e h = few low high l [] e h
  act-loops low high (faa x t u) l after e h = few low high l [] e h
  act-loops low high (dispose t) l after e h = few low high l [] e h
  act-loops low high (alloc x n) l after e h = few low high l [] e h
  act-loops low high (call x n ts) l after e h = few low high l [] e h
  act-loops low high (fork n ts) l after e h = few low high l [] e h
  act-loops low high (check c) l after e h = few low high l [] e h
  act-loops low high (give_back t) l after e h = few low high l [] e h
  act-loops low high (branch c a b) l after e h =
      let r = split (l.number + 1) high (all_statements a) (all_statements b) h in
      later-within low (l.number + 1) high (loop_numbers (loops_in a after ++ loops_in b after))
      (omega (arith, e))
      (both-loops (l.number + 1) r.mid high (loops_in a after) (loops_in b after)
      (block-loops (l.number + 1) r.mid a after r.front) (block-loops r.mid high b after r.behind))
  act-loops low high (loop c i a) l after e h =
      (e, block-loops (l.number + 1) high a (first l (loop c i a) after) h)

  block-loops :
      (low high : ℕ) (b after : Block) → Within low high (numbers (all_statements b)) →
      Within low high (loop_numbers (loops_in b after))
  block-loops low high done after h = h
  block-loops low high (first l s rest) after h =
      let r = split (l.number + 1) high (block_statements s) (all_statements rest) h.1 in
      both-loops low r.mid high (loops_of s l (append rest after)) (loops_in rest after)
      (act-loops low r.mid s l (append rest after) h.0 r.front)
      (block-loops r.mid high rest after r.behind)

-- ---- the place of a loop

found-passes :
    {A : Type 0} (p : A → Bool) (xs : List A) (x : A) → find p xs ≡ Some x → p x ≡ true
found-passes p [] x e = absurd (none-some e)
found-passes p (y ∷ ys) x e = by (p y) refl (λ k. found-passes p ys x k) e
  where
    by :
        (b : Bool) → p y ≡ b → (find p ys ≡ Some x → p x ≡ true) →
        cond b (Some y) (find p ys) ≡ Some x → p x ≡ true
    by true h go k = subst (λ z. p z ≡ true) (some-same y x k) h
    by false h go k = go k

position-passes :
    {A : Type 0} (p : A → Bool) (xs : List A) (i : ℕ) → position p xs ≡ Some i →
    (x : A) × (slice_get xs i ≡ Some x) × (p x ≡ true)
position-passes p xs i e = by (nat_lt (position_or_len p xs) (length xs)) refl e
  where
    by :
        (b : Bool) → nat_lt (position_or_len p xs) (length xs) ≡ b →
        cond b (Some (position_or_len p xs)) None ≡ Some i →
        (x : _) × (slice_get xs i ≡ Some x) × (p x ≡ true)
    by true h k =
        let at : position_or_len p xs ≡ i = some-same (position_or_len p xs) i k in
        let l = ltb-true (position_or_len p xs) (length xs) h in
        let x = there-is xs i (omega (arith, l, at)) in
        (x.0, x.1, found-passes p xs x.0 (find_at p xs ∙ ap (slice_get xs) at ∙ x.1))
    by false h k = absurd (none-some k)

among-at :
    {A : Type 0} (xs : List A) (x : A) → Among x xs → (i : ℕ) × (slice_get xs i ≡ Some x)
among-at [] x h = absurd h
among-at (y ∷ xs) x (inl e) = (0, ap Some e)
among-at (y ∷ xs) x (inr h) = let r = among-at xs x h in (suc r.0, r.1)

same-number :
    (b c : Block) (l : Label) (a : PlainAct) (rest : Block) → c ≡ first l a rest →
    same_statement (first_number b) (first_number c) ≡ true → number_of_block b ≡ l.number
same-number done c l a rest e h = absurd (true≢false (sym h))
same-number (first m x y) c l a rest e h =
    eqb-true m.number l.number (sym (ap (λ z. same_statement (Some m.number) (first_number z)) e) ∙
    h)

-- the loop that has the number of this statement is the one that begins with it
pub loop-at :
    (p : PlainProgram) (fn : PlainFunction) (l : Label) (c : Comp) (inv : PlainAssertion)
    (body b : Block) → Point p fn (first l (loop c inv body) b) →
    map (λ s. s.label.number) (all_statements fn.body)
    ≡ range_with_len 1 (length (all_statements fn.body)) →
    (i : ℕ) → loop_number fn (first l (loop c inv body) b) ≡ Some i →
    slice_get (loops_in fn.body done) i ≡ Some (loop_point l c inv body b)
loop-at p fn l c inv body b point numbered i e =
    let ws = loops_in fn.body done in
    let here = first l (loop c inv body) b in
    let w = position-passes (λ (w : LoopPoint). same_statement (first_number w.block)
    (first_number here)) ws i e in
    let n : number_of_block w.0.block ≡ l.number =
    same-number w.0.block here l (loop c inv body) b refl w.2 in
    let j = among-at ws (loop_point l c inv body b) (point-loop p fn l c inv body b point) in
    let f = λ (w : LoopPoint). number_of_block w.block in
    let size = length (all_statements fn.body) in
    let ascend = block-loops 1 (1 + size) fn.body done
    (subst (Within 1 (1 + size)) (sym numbered) (within-range 1 size)) in
    let same : i ≡ j.0 = one-place 1 (1 + size) (loop_numbers ws) i j.0 l.number ascend
    (map-at f ws i w.0 w.1 ∙ ap Some n) (map-at f ws j.0 (loop_point l c inv body b) j.1) in
    ap (slice_get ws) same ∙ j.1

-- and the number is found
same-itself : (n : ℕ) → (n == n) ≡ true
same-itself n = grind (arith, nat_tests)

found-there :
    {A : Type 0} (p : A → Bool) (xs : List A) (x : A) → Among x xs → p x ≡ true →
    (y : A) × (find p xs ≡ Some y)
found-there p [] x h e = absurd h
found-there p (y ∷ ys) x h e = by (p y) refl h (λ k. found-there p ys x k e)
  where
    by :
        (b : Bool) → p y ≡ b → Among x (y ∷ ys) →
        (Among x ys → (z : _) × (find p ys ≡ Some z)) →
        (z : _) × (cond b (Some y) (find p ys) ≡ Some z)
    by true q h go = (y, refl)
    by false q (inl k) go = absurd (true≢false (sym e ∙ ap p (sym k) ∙ q))
    by false q (inr k) go = go k

position-there :
    {A : Type 0} (p : A → Bool) (xs : List A) (x : A) → Among x xs → p x ≡ true →
    (i : ℕ) × (position p xs ≡ Some i)
position-there p xs x h e =
    let y = found-there p xs x h e in
    let l = within xs (position_or_len p xs) y.0 (sym (find_at p xs) ∙ y.1) in (
      position_or_len p xs,
      ap (λ b. cond b (Some (position_or_len p xs)) None)
          (lt-ltb (position_or_len p xs) (length xs) l),
    )

pub loop-there :
    (p : PlainProgram) (fn : PlainFunction) (l : Label) (c : Comp) (inv : PlainAssertion)
    (body b : Block) → Point p fn (first l (loop c inv body) b) →
    (i : ℕ) × (loop_number fn (first l (loop c inv body) b) ≡ Some i)
loop-there p fn l c inv body b point =
    position-there (λ (w : LoopPoint). same_statement (first_number w.block)
    (first_number (first l (loop c inv body) b))) (loops_in fn.body done)
    (loop_point l c inv body b) (point-loop p fn l c inv body b point) (same-itself l.number)

-- ---- its roots

pub pair-at :
    (f : PlainFunction) (n : ℕ) (ws : List LoopPoint) (i : ℕ) (w : LoopPoint) →
    slice_get ws i ≡ Some w →
    slice_get (flat_map (loop_roots f n) ws) (suc (2 * i))
    ≡ Some (from_given at_loop f n (length w.invariant.names) w.invariant.items
    (to_turn (home_of at_loop f n) w.block))
pair-at f n [] i w e = absurd (none-some e)
pair-at f n (v ∷ ws) zero w e =
    let z : suc (2 * 0) ≡ 1 = omega arith in
    ap (slice_get (flat_map (loop_roots f n) (v ∷ ws))) z
    ∙ ap (λ (u : LoopPoint). Some (from_given at_loop f n (length u.invariant.names)
    u.invariant.items (to_turn (home_of at_loop f n) u.block))) (some-same v w e)
pair-at f n (v ∷ ws) (suc i) w e =
    let z : suc (2 * suc i) ≡ suc (suc (suc (2 * i))) = omega arith in
    ap (slice_get (flat_map (loop_roots f n) (v ∷ ws))) z ∙ pair-at f n ws i w e
