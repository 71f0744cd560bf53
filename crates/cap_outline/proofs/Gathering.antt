-- Lines that are gathered node by node, and the text with them.
use Rattle.std.proofs.Common.{◌≡◌, ℕ, zero, suc, ◌+◌, List, [], ◌∷◌, ◌++◌, map, get_or, append_assoc, refl, sym, ap, ◌∙◌, subst, arith, Bool, true, false, Option, Some, None}
use Rattle.std.specs.Prelude.{codes, flat_map, ◌==◌, IfOk, Result, Ok, Err}
use Rattle.std.specs.List.{AllByRecursion}
use Rattle.std.specs.declared.alloc.AllocError.{AllocError}
use Rattle.std.proofs.lemmas.Bool.Decides.{nat_tests}
use Rattle.std.proofs.lemmas.Grind.{flat_map-append}
use Rattle.std.proofs.lemmas.List.{append-nil}
use Rattle.cap_prog.specs.Program.{Name, PlainStatement, PlainFunction, PlainProgram}
use Rattle.cap_prog.specs.Parts.{all_statements}
use Rattle.cap_goal_spec.specs.States.{PlainGoal}
use Rattle.cap_goal_spec.specs.Choices.{PlainTree}
use Rattle.cap_rules_nodes.specs.Nodes.{GoalNode, program_nodes}
use Rattle.cap_kernel_nodes.specs.Laws.{NodeIsProven}
use Rattle.cap_outline_spec.specs.Standing.{Point, point_of, Standing, standing_if, standing_of, standing_among}
use Rattle.cap_outline_spec.specs.Texts.{state_line}
use Rattle.cap_outline_spec.specs.Outline.{state_lines, place_line, statement_text, function_text, functions_text, outline_text}
use Rattle.cap_outline.specs.Gathered.{gathered_at, line_if_both, names_of, goal_lines, nodes_lines, gathered_text, gathered_texts, gathered_functions}

-- ---- a goal

-- a line that is put at the goal's statement is the goal's at each
own-line : (p : PlainProgram) (g : PlainGoal) (q : Point) (line : List ℕ) (f k : ℕ) → point_of g ≡ Some q → line ≡ state_line p (names_of p q.home.function) g.state → line_if_both q.home.function q.number f k line ≡ goal_lines p f k g
own-line p g q line f k e l =
    by (q.home.function == f) (q.number == k) refl refl ∙ ap (λ o. state_lines p (names_of p f) (standing_if f k g.state o)) (sym e)
  where
    by :
        (a b : Bool) → (q.home.function == f) ≡ a → (q.number == k) ≡ b → line_if_both q.home.function q.number f k line ≡ state_lines p (names_of p f) (standing_if f k g.state (Some q))
    by true true s t =
        let m : q.home.function ≡ f = grind (arith, nat_tests, s) in
        rw (s, t) (subst (λ n. line ≡ state_line p (names_of p n) g.state) m l ∙ sym (append-nil (state_line p (names_of p f) g.state)))
    by true false s t = rw (s, t) refl
    by false b s t = rw s refl

pub goal-put :
    (p : PlainProgram) (g : PlainGoal) (q : Point) (line : List ℕ) (before new : List (List (List ℕ))) (r : Result (Unit {0}) AllocError) → point_of g ≡ Some q → line ≡ state_line p (names_of p q.home.function) g.state → IfOk r (λ _. (f k : ℕ) → gathered_at new f k ≡ gathered_at before f k ++ line_if_both q.home.function q.number f k line) → IfOk r (λ _. (f k : ℕ) → gathered_at new f k ≡ gathered_at before f k ++ goal_lines p f k g)
goal-put p g q line before new (Err x) e l h = tt
goal-put p g q line before new (Ok x) e l h = λ f k.
    h f k ∙ ap (λ w. gathered_at before f k ++ w) (own-line p g q line f k e l)

-- a goal that stands nowhere has none
pub goal-passed :
    (p : PlainProgram) (g : PlainGoal) (before new : List (List (List ℕ))) → point_of g ≡ None → new ≡ before → (f k : ℕ) → gathered_at new f k ≡ gathered_at before f k ++ goal_lines p f k g
goal-passed p g before new e s f k =
    ap (λ gs. gathered_at gs f k) s
    ∙ (sym (append-nil (gathered_at before f k))
    ∙ ap (λ o. gathered_at before f k ++ state_lines p (names_of p f) (standing_if f k g.state o)) (sym e))

-- ---- nodes

-- what is gathered, and the lines of the nodes ahead, which are proven, make it the whole
pub record Gathers (p : PlainProgram) (all ahead : List GoalNode) (gs : List (List (List ℕ))) : Type 0 where
  pub proven : AllByRecursion (NodeIsProven p) ahead
  pub whole : (f k : ℕ) → gathered_at gs f k ++ nodes_lines p f k ahead ≡ nodes_lines p f k all

pub begins : (p : PlainProgram) (all : List GoalNode) (gs : List (List (List ℕ))) → AllByRecursion (NodeIsProven p) all → gs ≡ [] → Gathers p all all gs
begins p all gs h e =
    subst (Gathers p all all) (sym e) (record { proven = h; whole = λ f k. refl })

-- the node that comes next is proven
pub next-node-proven : (p : PlainProgram) (ahead after : List GoalNode) (n : GoalNode) → AllByRecursion (NodeIsProven p) ahead → ahead ≡ n ∷ after → NodeIsProven p n
next-node-proven p ahead after n h e = (subst (AllByRecursion (NodeIsProven p)) e h).0

pub gathers-node :
    (p : PlainProgram) (all ahead after : List GoalNode) (n : GoalNode) (gs new : List (List (List ℕ))) → Gathers p all ahead gs → ahead ≡ n ∷ after → ((f k : ℕ) → gathered_at new f k ≡ gathered_at gs f k ++ goal_lines p f k n.goal) → Gathers p all after new
gathers-node p all ahead after n gs new g e h =
    record {
      proven = (subst (AllByRecursion (NodeIsProven p)) e g.proven).1;
      whole = λ f k.
          ap (λ w. w ++ nodes_lines p f k after) (h f k)
          ∙ (append_assoc (gathered_at gs f k) (goal_lines p f k n.goal) (nodes_lines p f k after)
          ∙ (ap (λ w. gathered_at gs f k ++ w) (sym (flat_map-append (λ (s : Standing). state_line p (names_of p f) s.state) (standing_of f k n) (standing_among f k after)))
          ∙ (ap (λ ns. gathered_at gs f k ++ nodes_lines p f k ns) (sym e) ∙ g.whole f k)));
    }

pub all-gathered : (p : PlainProgram) (all ahead : List GoalNode) (gs : List (List (List ℕ))) → Gathers p all ahead gs → ahead ≡ [] → (f k : ℕ) → gathered_at gs f k ≡ nodes_lines p f k all
all-gathered p all ahead gs g e f k =
    sym (append-nil (gathered_at gs f k)) ∙ (ap (λ ns. gathered_at gs f k ++ nodes_lines p f k ns) (sym e) ∙ g.whole f k)

-- ---- the text

each-same : {X : Type 0} (f g : X → List ℕ) (xs : List X) → ((x : X) → f x ≡ g x) → flat_map f xs ≡ flat_map g xs
each-same f g [] h = refl
each-same f g (x ∷ xs) h = ap (λ w. w ++ flat_map f xs) (h x) ∙ ap (λ w. g x ++ w) (each-same f g xs h)

module _ (p : PlainProgram) (trees : List (Option PlainTree)) (gs : List (List (List ℕ))) (h : (f k : ℕ) → gathered_at gs f k ≡ nodes_lines p f k (program_nodes p trees)) where
  statements-same : (n : ℕ) (names : List Name) (ss : List PlainStatement) → names ≡ names_of p n → gathered_texts gs n ss ≡ flat_map (statement_text p trees n names) ss
  statements-same n names ss e =
      each-same (gathered_text gs n) (statement_text p trees n names) ss (λ s.
      ap (λ w. place_line s.label ++ w) (h n s.label.number ∙ ap (λ ns. state_lines p ns (standing_among n s.label.number (program_nodes p trees))) (sym e)))

  functions-same : (n : ℕ) (fs : List PlainFunction) → ((i : ℕ) → get_or (map (λ f. f.variables) fs) i [] ≡ names_of p (n + i)) → gathered_functions gs n fs ≡ functions_text p trees n fs
  functions-same n [] at = refl
  functions-same n (f ∷ fs) at =
      let z : n + 0 ≡ n = omega arith in
      let names : f.variables ≡ names_of p n = at 0 ∙ ap (names_of p) z in
      ap (λ w. (codes "function " ++ (f.name ++ (codes "\n" ++ w))) ++ gathered_functions gs (suc n) fs) (statements-same n f.variables (all_statements f.body) names)
      ∙ ap (λ w. function_text p trees n f ++ w) (functions-same (suc n) fs (λ i.
      let s : n + suc i ≡ suc n + i = omega arith in at (suc i) ∙ ap (names_of p) s))

  pub outline-same : gathered_functions gs 0 p.functions ≡ outline_text p trees
  unfolding outline_text
  outline-same =
      functions-same 0 p.functions (λ i. let z : i ≡ 0 + i = omega arith in ap (names_of p) z)
