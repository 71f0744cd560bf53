-- The examples' derivations, by computation.
use Rattle.std.proofs.Common.{◌≡◌, ◌⊎◌, inl, inr, ℕ, ◌≤◌, ◌<◌, ℤ, pos, List, [], ◌∷◌, Option, Some, None, refl, sym, ap, subst, ◌∙◌, arith}
use Rattle.cap_goal_spec.specs.cap_lin.Linear.{merged, plus, times, sums, multiples, coefficient, same_term}
use Rattle.cap_goal_spec.specs.cap_lin.Steps.{first_wide, sums_steps, plus_steps, multiples_steps, times_steps, minus_steps}
use Rattle.cap_goal_spec.specs.cap_lin.Rows.{above_zero_steps, less_steps}
use Rattle.cap_goal_spec.specs.cap_lin.declared.row.Row.{Row}
use Rattle.cap_goal_spec.specs.cap_lin.declared.row.Kind.TheVariants.{Le, Lt}
use Rattle.cap_goal_spec.specs.cap_lin.declared.row.Sort.TheVariants.{Int, Perm}
use Rattle.cap_goal_spec.specs.cap_farkas.Farkas.{Names, column_sum, column_steps, HasStrict, RefutesLeaf}
use Rattle.cap_goal_spec.specs.cap_gsolve.Merge.{merge_rows, merge_steps}
use Rattle.std.specs.Prelude.{slice_get, unwrap_or, ◌<ℤ◌}
use Rattle.cap_goal_spec.specs.cap_farkas.declared.cert.Cert.TheVariants.{Leaf}
use Rattle.cap_goal_spec.specs.States.{PlainGoal, goal}
use Rattle.cap_goal_spec.specs.Choices.{by_set, by_assert, by_return, node, no_trees}
use Rattle.cap_goal_spec.specs.Roots.{empty_state, roots, function_unit}
use Rattle.cap_rules.specs.Rules.{rule}
use Rattle.cap_rules.proofs.Answering.{answers-succeed}
use Rattle.cap_rules.specs.Answers.{Subgoals, too_wide, Answer, applies, inapplicable, Ending, passed, refused, stopped, answer_at}
use Rattle.cap_rules.specs.Valid.{AllDerive, RootDerives, Valid}
use Rattle.cap_rules.specs.Expected.{ValidExamples, NeverTaken, BrokenExamples}
use Rattle.cap_rules.specs.Example.{empty_program, assert_program, trees_of, leaf, above, once, assert_tree, dispose_program, dispose_tree, counter_program, make_tree, tickets_program, tickets_goal, taken_by}

empty-valid : Valid empty_program (trees_of leaf)
unfolding first_wide
empty-valid = record { narrow = refl; derivations = (tt, (tt, ((omega arith, _, (passed [], refl, refl), tt), tt))) }

assert-valid : Valid assert_program (trees_of (assert_tree (once 0 ∷ [])))
unfolding first_wide merged plus times sums multiples sums_steps plus_steps multiples_steps times_steps minus_steps above_zero_steps coefficient Names column_sum column_steps
assert-valid = record {
  narrow = refl;
  derivations = (tt, (tt, ((omega arith, _, (passed [], inl (refutes, refl), refl), ((omega arith, _, (passed [], refl, refl), tt), tt)), tt)));
}
  where
    refutes : RefutesLeaf (record { term = record { constant = pos 2; parts = [] }; kind = Le; sort = Int } ∷ []) ((0, pos 1) ∷ [])
    refutes = record {
      names = (omega arith, omega arith, omega arith, tt);
      constant = refl;
      cancels = λ x. record { narrow = refl; zero_sum = refl };
      contradicts = inl (omega arith);
    }

-- ---- broken trees

clash : {A : Type 0} {x : A} → applies x ≡ inapplicable → ⊥
clash e = cc

-- where the events are none, and the rule doesn't apply
never-applies : {A : Type 0} (x : A) (end : Ending) → end ≡ passed [] → applies x ≡ answer_at None end → ⊥
never-applies x end e a = clash (a ∙ ap (answer_at None) e)

abbrev answered : {A : Type 0} → Answer A → Option A
answered (applies x) = Some x
answered inapplicable = None
answered (too_wide a b) = None

-- where they are none, and it does
goals-of-none : {A : Type 0} (x y : A) (end : Ending) → end ≡ passed [] → applies x ≡ answer_at (Some y) end → x ≡ y
goals-of-none x y end e a = ap (λ o. unwrap_or (answered o) x) (a ∙ ap (answer_at (Some y)) e)

no-tree : ¬ Valid empty_program (None ∷ None ∷ None ∷ [])
no-tree v = v.derivations.1.1.0

too-few : ¬ Valid empty_program (None ∷ None ∷ [])
too-few v = v.derivations.1.1

another-rule : ¬ Valid empty_program (trees_of (node by_set no_trees))
another-rule v = let d = v.derivations.1.1.0 in never-applies d.1 d.2.0 d.2.1 d.2.2

left-over : ¬ Valid empty_program (trees_of (node by_return (above leaf)))
left-over v = let d = v.derivations.1.1.0 in subst (AllDerive (Subgoals empty_program) 2 (above leaf)) (goals-of-none d.1 [] d.2.0 d.2.1 d.2.2) d.3

-- the body's root
abbrev assert_goal : PlainGoal
assert_goal = unwrap_or (unwrap_or (slice_get (roots assert_program (function_unit 0)) 2) None) (goal empty_state [])

no-certificate : ¬ Valid assert_program (trees_of (assert_tree []))
unfolding first_wide merged plus times sums multiples sums_steps plus_steps multiples_steps times_steps minus_steps above_zero_steps less_steps coefficient same_term merge_rows merge_steps
no-certificate v =
    let d = v.derivations.1.1.0 in
    (answers-succeed (rule assert_program (assert_goal) (by_assert []) []) [] d.1 d.2).refuted

empty-certificate : ¬ Valid assert_program (trees_of (assert_tree (Leaf [] ∷ [])))
unfolding first_wide merged plus times sums multiples sums_steps plus_steps multiples_steps times_steps minus_steps above_zero_steps less_steps coefficient same_term merge_rows merge_steps column_sum HasStrict
empty-certificate v =
    let d = v.derivations.1.1.0 in
    let r = (answers-succeed (rule assert_program (assert_goal) (by_assert (Leaf [] ∷ [])) []) (Leaf [] ∷ []) d.1 d.2).refuted in
    contradicted r.0.contradicts
  where
    contradicted : (pos 0 <ℤ pos 0) ⊎ ((pos 0 ≡ pos 0) × ⊥) → ⊥
    contradicted (inl h) = omega arith
    contradicted (inr h) = h.1

-- an attempt without a value never applies
no-value : (gs : List PlainGoal) (end : Ending) → applies gs ≡ answer_at None end → ⊥
no-value gs (passed []) e = clash e
no-value gs (passed (c ∷ cs)) e = clash e
no-value gs refused e = clash e
no-value gs (stopped a b) e = wide e
  where
    wide : applies gs ≡ too_wide a b → ⊥
    wide e = cc

no-span : NeverTaken []
no-span gs a = no-value gs a.0 a.2

span-that-is-not-there : NeverTaken (1 ∷ [])
span-that-is-not-there gs a = no-value gs a.0 a.2

span-left-over : NeverTaken (0 ∷ 0 ∷ [])
unfolding same_term
span-left-over gs a = no-value gs a.0 a.2

pub broken-examples : BrokenExamples
broken-examples = record {
  no_tree = no-tree;
  too_few_trees = too-few;
  another_rule = another-rule;
  node_left_over = left-over;
  no_certificate = no-certificate;
  empty_certificate = empty-certificate;
  no_span = no-span;
  span_that_is_not_there = span-that-is-not-there;
  span_left_over = span-left-over;
}

-- ---- the counter

abbrev one_at_most_zero : Row
one_at_most_zero = record { term = record { constant = pos 1; parts = [] }; kind = Le; sort = Int }

abbrev zero_below_zero : Row
zero_below_zero = record { term = record { constant = pos 0; parts = [] }; kind = Lt; sort = Perm }

-- a constant row contradicts itself, alone, behind another, and behind three others
alone : RefutesLeaf (one_at_most_zero ∷ []) ((0, pos 1) ∷ [])
unfolding first_wide coefficient Names column_sum column_steps
alone = record {
  names = (omega arith, omega arith, omega arith, tt);
  constant = refl;
  cancels = λ x. record { narrow = refl; zero_sum = refl };
  contradicts = inl (omega arith);
}

behind-one : (a : Row) → RefutesLeaf (a ∷ one_at_most_zero ∷ []) ((1, pos 1) ∷ [])
unfolding first_wide coefficient Names column_sum column_steps
behind-one a = record {
  names = (omega arith, omega arith, omega arith, tt);
  constant = refl;
  cancels = λ x. record { narrow = refl; zero_sum = refl };
  contradicts = inl (omega arith);
}

at-most-zero : (a b c : Row) → RefutesLeaf (a ∷ b ∷ c ∷ one_at_most_zero ∷ []) ((3, pos 1) ∷ [])
unfolding first_wide coefficient Names column_sum column_steps
at-most-zero a b c = record {
  names = (omega arith, omega arith, omega arith, tt);
  constant = refl;
  cancels = λ x. record { narrow = refl; zero_sum = refl };
  contradicts = inl (omega arith);
}

below-zero : (a b c : Row) → RefutesLeaf (a ∷ b ∷ c ∷ zero_below_zero ∷ []) ((3, pos 1) ∷ [])
unfolding first_wide coefficient Names column_sum column_steps HasStrict
below-zero a b c = record {
  names = (omega arith, omega arith, omega arith, tt);
  constant = refl;
  cancels = λ x. record { narrow = refl; zero_sum = refl };
  contradicts = inr (refl, inl refl);
}

make-derives : RootDerives counter_program (Some make_tree) (unwrap_or (slice_get (roots counter_program (function_unit 0)) 2) None)
unfolding first_wide merged plus times sums multiples sums_steps plus_steps multiples_steps times_steps minus_steps above_zero_steps less_steps coefficient same_term merge_rows merge_steps
make-derives =
    (omega arith, _, (passed [], refl, refl), ((omega arith, _, (passed [], refl, refl), ((omega arith, _, (passed [], refl, refl), ((omega arith, _, (passed [], inl (at-most-zero _ _ _, inl (at-most-zero _ _ _, refl)), refl), ((omega arith, _, (passed [], refl, refl), ((omega arith, _, (passed [], inl (at-most-zero _ _ _, inl (at-most-zero _ _ _, inl (at-most-zero _ _ _, inl (at-most-zero _ _ _, refl)))), refl), ((omega arith, _, (passed [], inl (at-most-zero _ _ _, inl (at-most-zero _ _ _, inl (below-zero _ _ _, inl (below-zero _ _ _, refl)))), refl), tt), tt)), tt)), tt)), tt)), tt)), tt))

dispose-valid : Valid dispose_program (trees_of dispose_tree)
unfolding first_wide merged plus times sums multiples sums_steps plus_steps multiples_steps times_steps minus_steps above_zero_steps less_steps coefficient same_term merge_rows merge_steps
dispose-valid = record {
  narrow = refl;
  derivations = (tt, (tt, ((omega arith, _, (passed [], refl, refl), ((omega arith, _, (passed [], inl (behind-one _, inl (behind-one _, refl)), refl), ((omega arith, _, (passed [], inl (behind-one _, inl (behind-one _, refl)), refl), ((omega arith, _, (passed [], refl, refl), tt), tt)), tt)), tt)), tt)));
}

-- ---- a ticket

ticket-taken : Subgoals tickets_program tickets_goal (taken_by (0 ∷ [])) []
unfolding first_wide merged plus times sums multiples sums_steps plus_steps multiples_steps times_steps minus_steps above_zero_steps less_steps coefficient same_term merge_rows merge_steps
ticket-taken = (passed [], inl (alone, inl (alone, inl (alone, refl))), refl)

pub valid-examples : ValidExamples
valid-examples = record {
  empty = empty-valid;
  assertion = assert-valid;
  disposal = dispose-valid;
  make = make-derives;
  ticket = ticket-taken;
}
