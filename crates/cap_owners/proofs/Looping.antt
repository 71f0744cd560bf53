-- The loops of a function, by the numbers of their statements.
use Rattle.std.proofs.Common.{◌≡◌, ◌∙◌, ap, sym, refl, ℕ, false, List, ◌∷◌, ◌++◌, map, Option, Some, None, append_assoc}
use Rattle.std.specs.Prelude.{position, ◌==◌}
use Rattle.std.proofs.lemmas.List.{map-append}
use Rattle.std.proofs.lemmas.Grind.{flat_map-append}
use Rattle.cap_prog.specs.Program.{Label, PlainAct, set, read, write, cas, faa, dispose, alloc, call, fork, branch, loop, check, give_back, Block, done, first, append, PlainStatement, PlainFunction}
use Rattle.cap_prog.specs.Parts.{block_statements, all_statements}
use Rattle.cap_goal_spec.specs.Roots.{LoopPoint, loops_of, loops_in}
use Rattle.cap_outline_spec.specs.Standing.{first_number}
use Rattle.cap_owners_spec.specs.Steps.{same_statement}
use Rattle.cap_owners.specs.Loops.{number_if_loop, loop_numbers, loop_at}
use Rattle.cap_owners.proofs.Lists.{position-map, position-none}

-- the number of the statement at which each loop stands
abbrev heads : List LoopPoint → List (Option ℕ)
heads ls = map (λ l. first_number l.block) ls

numbers-append : (ss ts : List PlainStatement) → loop_numbers (ss ++ ts) ≡ loop_numbers ss ++ loop_numbers ts
numbers-append ss ts = flat_map-append (λ s. number_if_loop s.label.number s.act) ss ts

heads-append : (ls ms : List LoopPoint) → heads (ls ++ ms) ≡ heads ls ++ heads ms
heads-append ls ms = map-append (λ l. first_number l.block) ls ms

mutual
  act-heads : (s : PlainAct) (l : Label) (after : Block) → heads (loops_of s l after) ≡ map Some (number_if_loop l.number s ++ loop_numbers (block_statements s))
  act-heads (set x t) l after = refl
  act-heads (read x a) l after = refl
  act-heads (write a t) l after = refl
  act-heads (cas x a old new) l after = refl
  act-heads (faa x a t) l after = refl
  act-heads (dispose a) l after = refl
  act-heads (alloc x n) l after = refl
  act-heads (call x f args) l after = refl
  act-heads (fork f args) l after = refl
  act-heads (branch c a b) l after =
      heads-append (loops_in a after) (loops_in b after)
      ∙ (ap (λ z. z ++ heads (loops_in b after)) (block-heads a after)
      ∙ (ap (λ z. map Some (loop_numbers (all_statements a)) ++ z) (block-heads b after)
      ∙ (sym (map-append Some (loop_numbers (all_statements a)) (loop_numbers (all_statements b)))
      ∙ ap (map Some) (sym (numbers-append (all_statements a) (all_statements b))))))
  act-heads (loop c i a) l after = ap (λ z. Some l.number ∷ z) (block-heads a (first l (loop c i a) after))
  act-heads (check c) l after = refl
  act-heads (give_back t) l after = refl

  block-heads : (b after : Block) → heads (loops_in b after) ≡ map Some (loop_numbers (all_statements b))
  block-heads done after = refl
  block-heads (first l s a) after =
      let own = number_if_loop l.number s in
      let within = loop_numbers (block_statements s) in
      let behind = loop_numbers (all_statements a) in
      heads-append (loops_of s l (append a after)) (loops_in a after)
      ∙ (ap (λ z. z ++ heads (loops_in a after)) (act-heads s l (append a after))
      ∙ (ap (λ z. map Some (own ++ within) ++ z) (block-heads a after)
      ∙ (sym (map-append Some (own ++ within) behind)
      ∙ ap (map Some) (append_assoc own within behind ∙ ap (λ z. own ++ z) (sym (numbers-append (block_statements s) (all_statements a)))))))

pub loop-found : (f : PlainFunction) (n : ℕ) → position (λ k. k == n) (loop_numbers (all_statements f.body)) ≡ loop_at f (Some n)
loop-found f n =
    sym (position-map Some (λ o. same_statement o (Some n)) (loop_numbers (all_statements f.body)))
    ∙ (ap (position (λ o. same_statement o (Some n))) (sym (block-heads f.body done))
    ∙ position-map (λ (l : LoopPoint). first_number l.block) (λ o. same_statement o (Some n)) (loops_in f.body done))

pub no-loop : (f : PlainFunction) → loop_at f None ≡ None
no-loop f = position-none (λ (l : LoopPoint). same_statement (first_number l.block) None) (loops_in f.body done) (λ l. none (first_number l.block))
  where
    none : (o : Option ℕ) → same_statement o None ≡ false
    none None = refl
    none (Some n) = refl
