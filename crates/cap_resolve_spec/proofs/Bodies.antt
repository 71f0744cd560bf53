-- The body of a function in which nothing is found fits a program.
use Rattle.std.proofs.Common.{◌≡◌, ℕ, zero, suc, ◌+◌, ◌-◌, ◌<◌, ◌≤◌, Bool, true, false, true≢false, not, ◌||◌, cond, bytes_eq, List, [], ◌∷◌, ◌++◌, map, length, slice_get, Option, Some, None, refl, sym, ap, subst, ◌∙◌, arith, append_assoc, length-append, zero-add}
use Rattle.std.specs.List.{AllByRecursion, list_any, position_or_len, range_with_len}
use Rattle.std.proofs.lemmas.List.{length-map, map-append, replicate-append-replicate}
use Rattle.cap_lin.specs.declared.row.Sort.{Sort}
use Rattle.cap_lin.specs.declared.row.Sort.TheVariants.{Int}
use Rattle.cap_syntax.specs.declared.place.Place.{Place}
use Rattle.cap_prog.specs.Program.{Block, done, first, append, PlainStatement, PlainProgram}
use Rattle.cap_prog.specs.Parts.{all_statements, block_statements}
use Rattle.cap_prog.specs.Scopes.{Scope, HasSort, TermFits, CompFits, body_scope, fixed_start}
use Rattle.cap_prog.specs.Scopes as sorted
use Rattle.cap_prog.specs.WellFormed.{EndsInReturn}
use Rattle.cap_parse_tree.specs.declared.word.Word.{Word}
use Rattle.cap_parse_tree.specs.Tree.{value, load, alloc, cas, faa, result_of, StatementTree, assign, store, call, fork, branch, loop, check, give_back, dispose, ElseTree, no_else, else_block, StatementTrees, no_statement, then_statement, BlockTree, block, RegionTree, FunctionTree}
use Rattle.cap_resolve_spec.specs.Parts.{statement_parts, else_parts, statements_parts, block_parts}
use Rattle.cap_resolve_spec.specs.Names.{KnownName, NameScope, knows, has_name, known_sort, sorts_of, variable_of, whole_numbers, is_among}
use Rattle.cap_resolve_spec.specs.Functions.{Context}
use Rattle.cap_resolve_spec.specs.Program.{act_program, else_program, statements_program, block_program, closing_return, block_end, body_program, function_program}
use Rattle.cap_resolve_spec.proofs.Known.{sorts-whole}

-- a program that has the functions of these trees
abbrev pub HasFunctions : PlainProgram → List RegionTree → List FunctionTree → Type 0
HasFunctions p rs fs = p.functions ≡ map (function_program rs fs) fs

-- ---- variables of the body

position-skips : {A : Type 0} (p : A → Bool) (xs ys : List A) → list_any p xs ≡ false → position_or_len p (xs ++ ys) ≡ length xs + position_or_len p ys
position-skips p [] ys e = sym (zero-add (position_or_len p ys))
position-skips p (x ∷ xs) ys e = by (p x) e (λ d. position-skips p xs ys d)
  where
    by : (b : Bool) → (b || list_any p xs) ≡ false → (list_any p xs ≡ false → position_or_len p (xs ++ ys) ≡ length xs + position_or_len p ys) → cond (not b) (1 + position_or_len p (xs ++ ys)) 0 ≡ suc (length xs) + position_or_len p ys
    by true d rest = absurd (true≢false d)
    by false d rest = let h = rest d in omega arith

position-within : {A : Type 0} (p : A → Bool) (xs ys : List A) → list_any p xs ≡ true → position_or_len p (xs ++ ys) < length xs
position-within p [] ys e = absurd (true≢false (sym e))
position-within p (x ∷ xs) ys e = by (p x) e (λ d. position-within p xs ys d)
  where
    by : (b : Bool) → (b || list_any p xs) ≡ true → (list_any p xs ≡ true → position_or_len p (xs ++ ys) < length xs) → cond (not b) (1 + position_or_len p (xs ++ ys)) 0 < suc (length xs)
    by true d rest = omega arith
    by false d rest = let h = rest d in omega arith

knows-words : (ws : List Word) (x : List ℕ) → knows (whole_numbers ws) x ≡ is_among ws x
knows-words [] x = refl
knows-words (w ∷ ws) x = ap (λ b. bytes_eq x w.text || b) (knows-words ws x)

whole-count : (ws : List Word) → length (whole_numbers ws) ≡ length ws
whole-count [] = refl
whole-count (w ∷ ws) = ap suc (whole-count ws)

-- the variable of a local
pub local-variable : (ps ls : List Word) (more : NameScope) (x : List ℕ) → is_among ps x ≡ false → is_among ls x ≡ true → (length ps ≤ variable_of (whole_numbers ps ++ (whole_numbers ls ++ more)) x) × (variable_of (whole_numbers ps ++ (whole_numbers ls ++ more)) x < length ps + length ls)
local-variable ps ls more x e h =
    let a : variable_of (whole_numbers ps ++ (whole_numbers ls ++ more)) x ≡ length (whole_numbers ps) + variable_of (whole_numbers ls ++ more) x = position-skips (has_name x) (whole_numbers ps) (whole_numbers ls ++ more) (knows-words ps x ∙ e) in
    let b : variable_of (whole_numbers ls ++ more) x < length (whole_numbers ls) = position-within (has_name x) (whole_numbers ls) more (knows-words ls x ∙ h) in
    let c : length (whole_numbers ps) ≡ length ps = whole-count ps in
    let d : length (whole_numbers ls) ≡ length ls = whole-count ls in
    (omega arith, omega arith)

-- names that are hidden add nothing
abbrev pub IsHidden : Option KnownName → Type 0
IsHidden k = k ≡ None

hidden-behind : (xs : Scope) (ks : NameScope) (x : ℕ) (s : Sort) → AllByRecursion IsHidden ks → slice_get (xs ++ sorts_of ks) x ≡ Some (Some s) → slice_get xs x ≡ Some (Some s)
hidden-behind [] [] x s a e = e
hidden-behind [] (k ∷ ks) zero s a e = absurd (none-not (sym (ap (λ j. Some (known_sort j)) a.0) ∙ e))
  where
    none-not : {t : Sort} → Some None ≡ Some (Some t) → ⊥
    none-not d = cc
hidden-behind [] (k ∷ ks) (suc x) s a e = hidden-behind [] ks x s a.1 e
hidden-behind (y ∷ ys) ks zero s a e = e
hidden-behind (y ∷ ys) ks (suc x) s a e = hidden-behind ys ks x s a e

body-sorts : (ps ls : List Word) (ks : NameScope) → sorts_of (whole_numbers ps ++ (whole_numbers ls ++ ks)) ≡ sorted.whole_numbers (length ps + length ls) ++ sorts_of ks
body-sorts ps ls ks =
    sorts-whole ps (whole_numbers ls ++ ks)
    ∙ (ap (λ ss. sorted.whole_numbers (length ps) ++ ss) (sorts-whole ls ks)
    ∙ (sym (append_assoc (sorted.whole_numbers (length ps)) (sorted.whole_numbers (length ls)) (sorts_of ks))
    ∙ ap (λ ss. ss ++ sorts_of ks) (replicate-append-replicate (length ps) (length ls) (Some Int))))

pub body-variable : (ps ls : List Word) (ks : NameScope) → AllByRecursion IsHidden ks → (s : Sort) (x : ℕ) → HasSort (sorts_of (whole_numbers ps ++ (whole_numbers ls ++ ks))) s x → HasSort (sorted.whole_numbers (length ps + length ls)) s x
body-variable ps ls ks a s x e = hidden-behind (sorted.whole_numbers (length ps + length ls)) ks x s a (sym (ap (λ ss. slice_get ss x) (body-sorts ps ls ks)) ∙ e)

-- ---- the statements of a body

range-append : (n a b : ℕ) → range_with_len n (a + b) ≡ range_with_len n a ++ range_with_len (n + a) b
range-append n zero b = rw (zero-add b) (ap (λ k. range_with_len k b) (omega arith))
range-append n (suc a) b =
    let s : suc a + b ≡ suc (a + b) = omega arith in
    let h : n + suc a ≡ n + 1 + a = omega arith in
    ap (range_with_len n) s ∙ ap (λ ks. n ∷ ks) (range-append (n + 1) a b ∙ ap (λ k. range_with_len (n + 1) a ++ range_with_len k b) (sym h))

abbrev numbers : List PlainStatement → List ℕ
numbers ss = map (λ (s : PlainStatement). s.label.number) ss

abbrev Numbered : ℕ → ℕ → List PlainStatement → Type 0
Numbered n len ss = numbers ss ≡ range_with_len n len

numbered-append : (n a b : ℕ) (ss ts : List PlainStatement) → Numbered n a ss → Numbered (n + a) b ts → Numbered n (a + b) (ss ++ ts)
numbered-append n a b ss ts e h = map-append (λ (s : PlainStatement). s.label.number) ss ts ∙ (ap (λ ks. ks ++ numbers ts) e ∙ (ap (λ ks. range_with_len n a ++ ks) h ∙ sym (range-append n a b)))

some-parts : (s : StatementTree) → 1 ≤ length (statement_parts s)
some-parts (assign w q v e) = omega arith
some-parts (store p a q r t e) = omega arith
some-parts (call w l e) = omega arith
some-parts (fork p w l e) = omega arith
some-parts (branch p q c r b e) = omega arith
some-parts (loop p q c r i b) = omega arith
some-parts (check p c e) = omega arith
some-parts (give_back p t e) = omega arith
some-parts (dispose p q t r e) = omega arith

length-range : (n m : ℕ) → length (range_with_len n m) ≡ m
length-range n zero = refl
length-range n (suc m) = ap suc (length-range (n + 1) m)

mutual
  act-numbered : (g : Context) (n : ℕ) (s : StatementTree) → Numbered (n + 1) (length (statement_parts s) - 1) (block_statements (act_program g n s))
  act-numbered g n (assign w q (value t) e) = refl
  act-numbered g n (assign w q (load p t r) e) = refl
  act-numbered g n (assign w q (alloc p c m r) e) = refl
  act-numbered g n (assign w q (cas p c a d x f y r) e) = refl
  act-numbered g n (assign w q (faa p c a d x r) e) = refl
  act-numbered g n (assign w q (result_of v l) e) = refl
  act-numbered g n (store p a q r t e) = refl
  act-numbered g n (call w l e) = refl
  act-numbered g n (fork p w l e) = refl
  act-numbered g n (branch p q c r b e) =
      let h : length (block_parts b) + length (else_parts e) ≡ length (statement_parts (branch p q c r b e)) - 1 = omega (arith, length-append (block_parts b) (else_parts e)) in
      subst (λ k. Numbered (n + 1) k (all_statements (block_program g (n + 1) b) ++ all_statements (else_program g (n + 1 + length (block_parts b)) e))) h
      (numbered-append (n + 1) (length (block_parts b)) (length (else_parts e)) (all_statements (block_program g (n + 1) b)) (all_statements (else_program g (n + 1 + length (block_parts b)) e)) (block-numbered g (n + 1) b) (else-numbered g (n + 1 + length (block_parts b)) e))
  act-numbered g n (loop p q c r i b) =
      let h : length (block_parts b) ≡ length (statement_parts (loop p q c r i b)) - 1 = omega arith in
      subst (λ k. Numbered (n + 1) k (all_statements (block_program g (n + 1) b))) h (block-numbered g (n + 1) b)
  act-numbered g n (check p c e) = refl
  act-numbered g n (give_back p t e) = refl
  act-numbered g n (dispose p q t r e) = refl

  else-numbered : (g : Context) (n : ℕ) (e : ElseTree) → Numbered n (length (else_parts e)) (all_statements (else_program g n e))
  else-numbered g n no_else = refl
  else-numbered g n (else_block p b) = block-numbered g n b

  statements-numbered : (g : Context) (n : ℕ) (ss : StatementTrees) → Numbered n (length (statements_parts ss)) (all_statements (statements_program g n ss))
  statements-numbered g n no_statement = refl
  statements-numbered g n (then_statement s ss) =
      let h : suc (length (statement_parts s) - 1 + length (statements_parts ss)) ≡ length (statement_parts s ++ statements_parts ss) = omega (arith, some-parts s, length-append (statement_parts s) (statements_parts ss)) in
      let d : n + length (statement_parts s) ≡ n + 1 + (length (statement_parts s) - 1) = omega (arith, some-parts s) in
      subst (λ k. Numbered n k (all_statements (statements_program g n (then_statement s ss)))) h
      (ap (λ ks. n ∷ ks) (numbered-append (n + 1) (length (statement_parts s) - 1) (length (statements_parts ss)) (block_statements (act_program g n s)) (all_statements (statements_program g (n + length (statement_parts s)) ss)) (act-numbered g n s)
      (subst (λ k. Numbered k (length (statements_parts ss)) (all_statements (statements_program g (n + length (statement_parts s)) ss))) d (statements-numbered g (n + length (statement_parts s)) ss))))

  pub block-numbered : (g : Context) (n : ℕ) (b : BlockTree) → Numbered n (length (block_parts b)) (all_statements (block_program g n b))
  block-numbered g n (block p ss q) = statements-numbered g n ss

pub all_statements-append : (a b : Block) → all_statements (append a b) ≡ all_statements a ++ all_statements b
all_statements-append done b = refl
all_statements-append (first l s a) b = ap (λ ss. record { label = l; act = s } ∷ ss) (ap (λ ss. block_statements s ++ ss) (all_statements-append a b) ∙ sym (append_assoc (block_statements s) (all_statements a) (all_statements b)))

pub body-numbered : (g : Context) (b : BlockTree) → Numbered 1 (length (all_statements (body_program g b))) (all_statements (body_program g b))
body-numbered g b =
    let whole : all_statements (body_program g b) ≡ all_statements (block_program g 1 b) ++ (all_statements (closing_return (1 + length (block_parts b)) (block_end b))) = all_statements-append (block_program g 1 b) (closing_return (1 + length (block_parts b)) (block_end b)) in
    let n : Numbered 1 (length (block_parts b) + 1) (all_statements (block_program g 1 b) ++ all_statements (closing_return (1 + length (block_parts b)) (block_end b))) = numbered-append 1 (length (block_parts b)) 1 (all_statements (block_program g 1 b)) (all_statements (closing_return (1 + length (block_parts b)) (block_end b))) (block-numbered g 1 b) refl in
    let m : numbers (all_statements (body_program g b)) ≡ range_with_len 1 (length (block_parts b) + 1) = ap numbers whole ∙ n in
    let c : length (all_statements (body_program g b)) ≡ length (block_parts b) + 1 = sym (length-map (all_statements (body_program g b)) (λ (s : PlainStatement). s.label.number)) ∙ (ap length m ∙ length-range 1 (length (block_parts b) + 1)) in
    m ∙ ap (range_with_len 1) (sym c)

-- the closing return
pub closing : (n : ℕ) (p : Place) (b : Block) → EndsInReturn (append b (closing_return n p))
closing n p done = refl
closing n p (first l s done) = refl
closing n p (first l s (first m t b)) = closing n p (first m t b)
