-- The places of roots and of statements.
use Rattle.std.proofs.Common.{rules, ◌≡◌, ℕ, zero, suc, ◌+◌, ◌<◌, ◌==◌, cond, false, List, ◌∷◌, ◌++◌, length, drop, get_or, Option, Some, None, option_map, refl, ap, sym, ◌∙◌, arith, drop-cons}
use Rattle.std.proofs.lemmas.Bool.Decides.{nat_tests}
use Rattle.std.specs.Prelude.{find, unwrap_or}
use Rattle.std.specs.Option.{option_or}
use Rattle.std.specs.List.{flat_map}
use Rattle.std.proofs.lemmas.List.Folds.{find-append}
use Rattle.std.proofs.lemmas.Grind.{flat_map-append}
use Rattle.cap_syntax.specs.declared.place.Place.{Place}
use Rattle.cap_prog.specs.Program.{PlainAct, set, read, write, cas, faa, dispose, alloc, call, fork, branch, loop, check, give_back, Block, done, first, append, Label, PlainStatement, PlainFunction, PlainProgram}
use Rattle.cap_prog.specs.declared.function.Statement.{Statement}
use Rattle.cap_prog.specs.Views.{act_view, statement_view, block_view}
use Rattle.cap_prog.specs.declared.function.Act.TheFolds.{the_lemmas}
use Rattle.cap_prog.specs.Parts.{all_statements, block_statements}
use Rattle.cap_goal_spec.specs.Roots.{PlainUnit, loops_of, loops_in}
use Rattle.cap_search_spec.specs.Leaves.{loop_places, first_place, nowhere, statements_of, statement_place}
use Rattle.cap_search_trees.specs.Places.{act_places, block_places, numbered}

-- ---- loops, whatever runs behind them

two : (f : PlainFunction) (xs ys : List _) → flat_map (loop_places f) (xs ++ ys) ≡ flat_map (loop_places f) xs ++ flat_map (loop_places f) ys
two f xs ys = flat_map-append (loop_places f) xs ys

mutual
  pub act-loops : (f : PlainFunction) (a : PlainAct) (l : Label) (after : Block) → flat_map (loop_places f) (loops_of a l after) ≡ act_places f a
  act-loops f (set x t) l after = refl
  act-loops f (read x a) l after = refl
  act-loops f (write a t) l after = refl
  act-loops f (cas x a old new) l after = refl
  act-loops f (faa x a t) l after = refl
  act-loops f (dispose a) l after = refl
  act-loops f (alloc x n) l after = refl
  act-loops f (call x g args) l after = refl
  act-loops f (fork g args) l after = refl
  act-loops f (branch c a b) l after =
      two f (loops_in a after) (loops_in b after)
      ∙ (ap (λ xs. xs ++ flat_map (loop_places f) (loops_in b after)) (block-loops f a after)
      ∙ ap (λ xs. block_places f a ++ xs) (block-loops f b after))
  act-loops f (loop c i a) l after =
      ap (λ xs. first_place f i.items ∷ first_place f i.items ∷ xs)
      (block-loops f a (first l (loop c i a) after))
  act-loops f (check c) l after = refl
  act-loops f (give_back t) l after = refl

  pub block-loops : (f : PlainFunction) (b : Block) (after : Block) → flat_map (loop_places f) (loops_in b after) ≡ block_places f b
  block-loops f done after = refl
  block-loops f (first l a rest) after =
      two f (loops_of a l (append rest after)) (loops_in rest after)
      ∙ (ap (λ xs. xs ++ flat_map (loop_places f) (loops_in rest after)) (act-loops f a l (append rest after))
      ∙ ap (λ xs. act_places f a ++ xs) (block-loops f rest after))

-- ---- statements by their numbers

mapped-or : (o q : Option PlainStatement) → option_map (λ (s : PlainStatement). s.label.place) (option_or o q) ≡ option_or (option_map (λ (s : PlainStatement). s.label.place) o) (option_map (λ (s : PlainStatement). s.label.place) q)
mapped-or None q = refl
mapped-or (Some s) q = refl

pub numbered-append : (n : ℕ) (xs ys : List PlainStatement) → numbered n (xs ++ ys) ≡ option_or (numbered n xs) (numbered n ys)
numbered-append n xs ys =
    ap (option_map (λ (s : PlainStatement). s.label.place)) (find-append (λ (s : PlainStatement). s.label.number == n) xs ys)
    ∙ mapped-or (find (λ (s : PlainStatement). s.label.number == n) xs) (find (λ (s : PlainStatement). s.label.number == n) ys)

pub numbered-first : (n : ℕ) (xs ys : List PlainStatement) (q : Place) → numbered n xs ≡ Some q → numbered n (xs ++ ys) ≡ Some q
numbered-first n xs ys q e = numbered-append n xs ys ∙ ap (λ o. option_or o (numbered n ys)) e

pub numbered-later : (n : ℕ) (xs ys : List PlainStatement) → numbered n xs ≡ None → numbered n (xs ++ ys) ≡ numbered n ys
numbered-later n xs ys e = numbered-append n xs ys ∙ ap (λ o. option_or o (numbered n ys)) e

-- the place of a statement that has a number
pub place-of-number : (p : PlainProgram) (u : PlainUnit) (root n : ℕ) → 0 < n → statement_place p u root n ≡ unwrap_or (numbered n (statements_of p u)) nowhere
place-of-number p u root zero h = absurd (omega (arith, h))
place-of-number p u root (suc n) h = refl

-- ---- lists of statements in code

numbered-skips : (n : ℕ) (x : PlainStatement) (rest : Block) → (x.label.number == n) ≡ false → numbered n (block_statements x.act) ≡ None → numbered n (all_statements (first x.label x.act rest)) ≡ numbered n (all_statements rest)
numbered-skips n x rest e h =
    ap (λ b. option_map (λ (s : PlainStatement). s.label.place) (cond b (Some x) (find (λ (s : PlainStatement). s.label.number == n) (block_statements x.act ++ all_statements rest)))) e
    ∙ numbered-later n (block_statements x.act) (all_statements rest) h

numbered-inside : (n : ℕ) (x : PlainStatement) (rest : Block) (q : Place) → (x.label.number == n) ≡ false → numbered n (block_statements x.act) ≡ Some q → numbered n (all_statements (first x.label x.act rest)) ≡ Some q
numbered-inside n x rest q e h =
    ap (λ b. option_map (λ (s : PlainStatement). s.label.place) (cond b (Some x) (find (λ (s : PlainStatement). s.label.number == n) (block_statements x.act ++ all_statements rest)))) e
    ∙ numbered-first n (block_statements x.act) (all_statements rest) q h

differs : (a n : ℕ) → (a ≡ n → ⊥) → (a == n) ≡ false
differs a n h = grind (arith, nat_tests)

next-statement : (list : List Statement) (i : ℕ) (s : Statement) → i < length list → s ≡ get_or list i s → drop i list ≡ s ∷ drop (i + 1) list
next-statement list i s h e =
    let q : suc i ≡ i + 1 = omega arith in
    drop-cons list i s h ∙ (ap (λ x. x ∷ drop (suc i) list) (sym e) ∙ ap (λ j. s ∷ drop j list) q)

abbrev parts_of : Statement → PlainStatement
parts_of s = record { label = record { number = s.number; place = s.place }; act = act_view s.act }

seen-by-parts : (s : Statement) → statement_view s ≡ parts_of s
seen-by-parts s = search (rules, the_lemmas)

pub statement-skipped : (n : ℕ) (list : List Statement) (i : ℕ) (s : Statement) → i < length list → s ≡ get_or list i s → (s.number ≡ n → ⊥) → numbered n (block_statements (act_view s.act)) ≡ None → numbered n (all_statements (block_view (drop i list))) ≡ numbered n (all_statements (block_view (drop (i + 1) list)))
statement-skipped n list i s h e f k =
    let rest = block_view (drop (i + 1) list) in
    ap (λ ss. numbered n (all_statements (block_view ss))) (next-statement list i s h e)
    ∙ (ap (λ (x : PlainStatement). numbered n (all_statements (first x.label x.act rest))) (seen-by-parts s)
    ∙ numbered-skips n (parts_of s) rest (differs s.number n f) k)

pub statement-holds : (n : ℕ) (list : List Statement) (i : ℕ) (s : Statement) (q : Place) → i < length list → s ≡ get_or list i s → (s.number ≡ n → ⊥) → numbered n (block_statements (act_view s.act)) ≡ Some q → numbered n (all_statements (block_view (drop i list))) ≡ Some q
statement-holds n list i s q h e f k =
    let rest = block_view (drop (i + 1) list) in
    ap (λ ss. numbered n (all_statements (block_view ss))) (next-statement list i s h e)
    ∙ (ap (λ (x : PlainStatement). numbered n (all_statements (first x.label x.act rest))) (seen-by-parts s)
    ∙ numbered-inside n (parts_of s) rest q (differs s.number n f) k)
