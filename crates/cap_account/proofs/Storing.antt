-- The example that is safe, by its derivations.
use Rattle.std.proofs.Common.{ℕ, pos, List, [], ◌∷◌, Option, None, refl, arith, inl}
use Rattle.std.specs.Prelude.{slice_get, get_or, unwrap_or}
use Rattle.cap_lin.specs.Linear.{merged, plus, times, sums, multiples, coefficient, same_term}
use Rattle.cap_lin.specs.Steps.{first_wide, sums_steps, plus_steps, multiples_steps, times_steps, minus_steps}
use Rattle.cap_lin.specs.Rows.{above_zero_steps, less_steps}
use Rattle.cap_lin.specs.declared.row.Row.{Row}
use Rattle.cap_lin.specs.declared.row.Kind.TheVariants.{Le}
use Rattle.cap_lin.specs.declared.row.Sort.TheVariants.{Int}
use Rattle.cap_farkas.specs.Farkas.{Names, column_sum, column_steps, RefutesLeaf}
use Rattle.cap_prog.specs.WellFormed.{IsWellFormed}
use Rattle.cap_goal_spec.specs.States.{PlainGoal, goal}
use Rattle.cap_goal_spec.specs.Choices.{PlainChoice, by_alloc, by_call, by_cell, by_give, by_act, by_assert, by_return, PlainTree, node, no_trees}
use Rattle.cap_goal_spec.specs.Roots.{empty_state, roots, function_unit}
use Rattle.cap_rules.specs.Rules.{rule}
use Rattle.cap_rules.specs.Answers.{marks_of, passed}
use Rattle.cap_rules.specs.Valid.{Derives, Valid}
use Rattle.cap_account.specs.Law.{DerivationsAreSound}
use Rattle.cap_account.specs.Example.{storing_program, storing_trees, above, equal_behind, both_equal_behind, requires_tree, ensures_tree, store_tree, storing_tree}
use Rattle.cap_account.specs.Expected.{SafeExample}

well-formed : IsWellFormed storing_program
well-formed = record {
  main = omega arith;
  region_count = omega arith;
  function_count = omega arith;
  regions = tt;
  functions = (
    record {
      params = omega arith;
      named = refl;
      requires = record {
        items = ((((refl, tt), tt), tt));
        length = omega arith;
        sides = (tt, tt);
      };
      ensures = record {
        variables = omega arith;
        items = record {
          items = ((((refl, tt), tt), tt));
          length = omega arith;
          sides = (tt, tt);
        };
      };
      body = record {
        statements = (((refl, tt), tt), (tt, tt));
        numbered = refl;
        closing = refl;
        length = omega arith;
        blocks = (tt, (tt, tt));
      };
    },
    (
      record {
        params = omega arith;
        named = refl;
        requires = record { items = tt; length = omega arith; sides = tt };
        ensures = record {
          variables = omega arith;
          items = record { items = tt; length = omega arith; sides = tt };
        };
        body = record {
          statements = (
            (record { low = omega arith; high = omega arith }, omega arith, omega arith),
            (
              (tt, record { arity = refl; values = ((refl, tt), tt) }),
              (
                (record { low = omega arith; high = omega arith }, (refl, tt)),
                (((refl, tt), tt), (tt, tt)),
              ),
            ),
          );
          numbered = refl;
          closing = refl;
          length = omega arith;
          blocks = (tt, (tt, (tt, (tt, (tt, tt)))));
        };
      },
      tt,
    ),
  );
}

-- ---- its derivations

abbrev one_at_most_zero : Row
one_at_most_zero = record { term = record { constant = pos 1; parts = [] }; kind = Le; sort = Int }

-- a constant row behind others contradicts itself
behind-one : (a : Row) → RefutesLeaf (a ∷ one_at_most_zero ∷ []) ((1, pos 1) ∷ [])
unfolding first_wide coefficient Names column_sum column_steps
behind-one a = record {
  names = (omega arith, omega arith, omega arith, tt);
  constant = refl;
  cancels = λ x. record { narrow = refl; zero_sum = refl };
  contradicts = inl (omega arith);
}

behind-two : (a b : Row) → RefutesLeaf (a ∷ b ∷ one_at_most_zero ∷ []) ((2, pos 1) ∷ [])
unfolding first_wide coefficient Names column_sum column_steps
behind-two a b = record {
  names = (omega arith, omega arith, omega arith, tt);
  constant = refl;
  cancels = λ x. record { narrow = refl; zero_sum = refl };
  contradicts = inl (omega arith);
}

-- ---- the goals below a root

abbrev next_goals : PlainGoal → PlainChoice → List PlainGoal
next_goals g c = unwrap_or (rule storing_program g c (marks_of c)).value []

abbrev next_goal : PlainGoal → PlainChoice → PlainGoal
next_goal g c = get_or (next_goals g c) 0 (goal empty_state [])

abbrev root_of : ℕ → ℕ → Option PlainGoal
root_of f n = unwrap_or (slice_get (roots storing_program (function_unit f)) n) None

abbrev goal_0 : PlainGoal
goal_0 = unwrap_or (root_of 1 2) (goal empty_state [])

abbrev goal_1 : PlainGoal
goal_1 = next_goal goal_0 by_alloc

abbrev goal_2 : PlainGoal
goal_2 = next_goal goal_1 by_call

abbrev goal_3 : PlainGoal
goal_3 = next_goal goal_2 (by_cell 0 (equal_behind 1))

abbrev goal_4 : PlainGoal
goal_4 = next_goal goal_3 by_give

abbrev goal_5 : PlainGoal
goal_5 = next_goal goal_4 (by_act 0 (equal_behind 2) [])

abbrev goal_6 : PlainGoal
goal_6 = next_goal goal_5 (by_assert (equal_behind 2))

-- the trees below those of the bodies
abbrev reading_tree : PlainTree
reading_tree =
    node (by_act 0 (equal_behind 2) []) (above
    (node (by_assert (equal_behind 2)) (above
    (node by_return no_trees))))

abbrev taking_tree : PlainTree
taking_tree = node (by_cell 0 (equal_behind 1)) (above (node by_give (above reading_tree)))

abbrev ending_tree : PlainTree
ending_tree =
    node by_return (above (node (by_cell 0 (both_equal_behind 1)) no_trees))

returns : Derives storing_program 7 (node by_return no_trees) goal_6
unfolding first_wide merged plus times sums multiples sums_steps plus_steps multiples_steps times_steps minus_steps above_zero_steps less_steps coefficient same_term
returns = (omega arith, [], (passed [], refl, refl), tt)

asserts :
    Derives storing_program 6
    (node (by_assert (equal_behind 2)) (above (node by_return no_trees))) goal_5
unfolding first_wide merged plus times sums multiples sums_steps plus_steps multiples_steps times_steps minus_steps above_zero_steps less_steps coefficient same_term
asserts = (
  omega arith,
  next_goals goal_5 (by_assert (equal_behind 2)),
  (passed [], inl (behind-two _ _, inl (behind-two _ _, refl)), refl),
  (returns, tt),
)

reads : Derives storing_program 5 reading_tree goal_4
unfolding first_wide merged plus times sums multiples sums_steps plus_steps multiples_steps times_steps minus_steps above_zero_steps less_steps coefficient same_term
reads = (
  omega arith,
  next_goals goal_4 (by_act 0 (equal_behind 2) []),
  (passed [], inl (behind-two _ _, inl (behind-two _ _, refl)), refl),
  (asserts, tt),
)

gives : Derives storing_program 4 (node by_give (above reading_tree)) goal_3
unfolding first_wide merged plus times sums multiples sums_steps plus_steps multiples_steps times_steps minus_steps above_zero_steps less_steps coefficient same_term
gives = (omega arith, next_goals goal_3 by_give, (passed [], refl, refl), (reads, tt))

takes : Derives storing_program 3 taking_tree goal_2
unfolding first_wide merged plus times sums multiples sums_steps plus_steps multiples_steps times_steps minus_steps above_zero_steps less_steps coefficient same_term
takes = (
  omega arith,
  next_goals goal_2 (by_cell 0 (equal_behind 1)),
  (passed [], inl (behind-one _, inl (behind-one _, refl)), refl),
  (gives, tt),
)

calls : Derives storing_program 2 (node by_call (above taking_tree)) goal_1
unfolding first_wide merged plus times sums multiples sums_steps plus_steps multiples_steps times_steps minus_steps above_zero_steps less_steps coefficient same_term
calls = (omega arith, next_goals goal_1 by_call, (passed [], refl, refl), (takes, tt))

main-derives : Derives storing_program 1 storing_tree goal_0
unfolding first_wide merged plus times sums multiples sums_steps plus_steps multiples_steps times_steps minus_steps above_zero_steps less_steps coefficient same_term
main-derives = (omega arith, next_goals goal_0 by_alloc, (passed [], refl, refl), (calls, tt))

-- ---- the trees of the other function

abbrev given_goal : ℕ → PlainGoal
given_goal n = unwrap_or (root_of 0 n) (goal empty_state [])

requires-again : Derives storing_program 1 requires_tree (given_goal 0)
unfolding first_wide merged plus times sums multiples sums_steps plus_steps multiples_steps times_steps minus_steps above_zero_steps less_steps coefficient same_term
requires-again = (
  omega arith,
  next_goals (given_goal 0) by_give,
  (passed [], refl, refl),
  ((omega arith, [], (passed [], inl (behind-one _, inl (behind-one _, refl)), refl), tt), tt),
)

ensures-again : Derives storing_program 1 ensures_tree (given_goal 1)
unfolding first_wide merged plus times sums multiples sums_steps plus_steps multiples_steps times_steps minus_steps above_zero_steps less_steps coefficient same_term
ensures-again = (
  omega arith,
  next_goals (given_goal 1) by_give,
  (passed [], refl, refl),
  (
    (
      omega arith,
      [],
      (
        passed [],
        inl (behind-one _, inl (behind-one _, inl (behind-one _, inl (behind-one _, refl)))),
        refl,
      ),
      tt,
    ),
    tt,
  ),
)

abbrev goal_given : PlainGoal
goal_given = next_goal (given_goal 2) by_give

abbrev goal_written : PlainGoal
goal_written = next_goal goal_given (by_act 0 (equal_behind 1) [])

ends : Derives storing_program 3 ending_tree goal_written
unfolding first_wide merged plus times sums multiples sums_steps plus_steps multiples_steps times_steps minus_steps above_zero_steps less_steps coefficient same_term
ends = (
  omega arith,
  next_goals goal_written by_return,
  (passed [], refl, refl),
  (
    (
      omega arith,
      [],
      (
        passed [],
        inl (behind-one _, inl (behind-one _, inl (behind-one _, inl (behind-one _, refl)))),
        refl,
      ),
      tt,
    ),
    tt,
  ),
)

writes :
    Derives storing_program 2
    (node (by_act 0 (equal_behind 1) []) (above ending_tree)) goal_given
unfolding first_wide merged plus times sums multiples sums_steps plus_steps multiples_steps times_steps minus_steps above_zero_steps less_steps coefficient same_term
writes = (
  omega arith,
  next_goals goal_given (by_act 0 (equal_behind 1) []),
  (passed [], inl (behind-one _, inl (behind-one _, refl)), refl),
  (ends, tt),
)

store-derives : Derives storing_program 1 store_tree (given_goal 2)
unfolding first_wide merged plus times sums multiples sums_steps plus_steps multiples_steps times_steps minus_steps above_zero_steps less_steps coefficient same_term
store-derives =
    (omega arith, next_goals (given_goal 2) by_give, (passed [], refl, refl), (writes, tt))

valid : Valid storing_program storing_trees
unfolding first_wide
valid = record {
  narrow = refl;
  derivations =
      (requires-again, (ensures-again, (store-derives, (tt, (tt, (main-derives, tt))))));
}

pub safe-example : DerivationsAreSound → SafeExample
safe-example sound = record {
  well_formed = well-formed;
  derived = valid;
  safe = sound storing_program storing_trees well-formed valid;
}
