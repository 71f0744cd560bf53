-- Small programs and their derivations, and broken ones.
use Rattle.std.specs.Prelude.{ℕ, pos, false, List, [], ◌∷◌, Option, Some, None}
use Rattle.cap_goal_spec.specs.cap_lin.Linear.{Linear, number, variable}
use Rattle.cap_goal_spec.specs.cap_lin.declared.row.Sort.TheVariants.{Int}
use Rattle.cap_goal_spec.specs.cap_lin.declared.row.Op.TheVariants.{Le as AtMost}
use Rattle.cap_goal_spec.specs.cap_farkas.declared.cert.Cert.{Cert}
use Rattle.cap_goal_spec.specs.cap_farkas.declared.cert.Cert.TheVariants.{Leaf}
use Rattle.cap_goal_spec.specs.cap_galg.Algebras.{divisible, indexed}
use Rattle.cap_goal_spec.specs.cap_gsolve.declared.piece.Form.TheVariants.{Span}
use Rattle.cap_goal_spec.specs.cap_gsolve.Pieces.{piece}
use Rattle.cap_goal_spec.specs.cap_syntax.declared.place.Place.{Place}
use Rattle.cap_goal_spec.specs.cap_prog.declared.assertion.Comp.{Comp}
use Rattle.cap_goal_spec.specs.cap_prog.declared.assertion.Slot.TheVariants.{Any, Is}
use Rattle.cap_goal_spec.specs.cap_prog.declared.assertion.Asked.TheVariants.{Share, At}
use Rattle.cap_goal_spec.specs.cap_prog.Program.{fact, atom, cell, none, item, PlainAssertion, PlainCase, PlainAction, PlainRegionType, Label, set, faa, dispose, alloc, check, give_back, Block, done, first, PlainFunction, PlainProgram}
use Rattle.cap_goal_spec.specs.States.{PlainFact, PlainState, to_shift, PlainGoal, goal}
use Rattle.cap_goal_spec.specs.Roots.{empty_state}
use Rattle.cap_goal_spec.specs.Choices.{PlainChoice, by_set, by_alloc, by_assert, by_return, by_act, by_shift, by_cell, by_region, by_guard, by_create, by_made, PlainTree, node, PlainTrees, no_trees, tree}

abbrev pub nowhere : Place
nowhere = record { line = 1; column = 1 }

abbrev pub label : ℕ → Label
label n = record { number = n; place = nowhere }

abbrev pub nothing_new : PlainAssertion
nothing_new = record { names = []; items = none }

abbrev pub main_with : Block → PlainFunction
main_with body = record {
  name = [];
  params = 0;
  locals = 0;
  fixed = [];
  variables = [];
  requires = none;
  ensures = nothing_new;
  body = body;
  place = nowhere;
}

abbrev pub program_of : Block → PlainProgram
program_of body = record { regions = []; functions = main_with body ∷ []; main = 0 }

-- the closing return, as statement n
abbrev pub closing_return : ℕ → Block
closing_return n = first (label n) (give_back (number (pos 0))) done

-- function main() { }
abbrev pub empty_program : PlainProgram
empty_program = program_of (closing_return 1)

-- function main() { assert 0 <= 1; }
abbrev pub zero_at_most_one : Comp
zero_at_most_one = record {
  left = number (pos 0);
  op = AtMost;
  right = number (pos 1);
  sort = Int;
  place = nowhere;
}

abbrev pub assert_program : PlainProgram
assert_program = program_of (first (label 1) (check zero_at_most_one) (closing_return 2))

-- both stability roots have nothing to do; this is the body's tree
abbrev pub trees_of : PlainTree → List (Option PlainTree)
trees_of t = None ∷ None ∷ Some t ∷ []

abbrev pub leaf : PlainTree
leaf = node by_return no_trees

abbrev pub above : PlainTree → PlainTrees
above t = tree t no_trees

-- the row of this number, once
abbrev pub once : ℕ → Cert
once n = Leaf ((n, pos 1) ∷ [])

abbrev pub assert_tree : List Cert → PlainTree
assert_tree certs = node (by_assert certs) (above leaf)

-- ---- a cell that is added to and goes

-- function main() { x := alloc(1); v := FAA(x, 1); dispose(x); }
abbrev pub dispose_body : Block
dispose_body =
    first (label 1) (alloc 0 1)
    (first (label 2) (faa 1 (variable 0) (number (pos 1)))
    (first (label 3) (dispose (variable 0)) (closing_return 4)))

abbrev pub dispose_program : PlainProgram
dispose_program = record {
  regions = [];
  functions =
      record (main_with dispose_body) { locals = 2; variables = [] ∷ [] ∷ [] }
      ∷ [];
  main = 0;
}

-- an equality whose two negations contradict themselves behind one row
abbrev pub equal_certs : List Cert
equal_certs = once 1 ∷ once 1 ∷ []

abbrev pub dispose_tree : PlainTree
dispose_tree =
    node by_alloc (above
    (node (by_act 0 equal_certs []) (above (node (by_act 0 equal_certs []) (above leaf)))))

-- ---- a counter's region type, and the function that makes one

-- region Counter(r, x) { guards %INC; interpretation { n : x |-> n; } actions { INC[_] : n ~> n +
-- 1; } }
abbrev pub counter_case : PlainCase
counter_case = record {
  names = Int ∷ [];
  state = variable 2;
  when = [];
  items = item (cell nowhere (variable 1) (Is (variable 2))) none;
  place = nowhere;
}

abbrev pub increment : PlainAction
increment = record {
  names = Int ∷ [];
  guards = (0, Share Any) ∷ [];
  source = variable 2;
  target = record { constant = pos 1; parts = (2, pos 1) ∷ [] };
  when = [];
  place = nowhere;
}

abbrev pub counter_type : PlainRegionType
counter_type = record {
  name = [];
  params = 2;
  algebra = divisible;
  atoms = [] ∷ [];
  cases = counter_case ∷ [];
  actions = increment ∷ [];
  place = nowhere;
}

-- function make() ensures Counter(r, ret; 0) &*& r@INC[1p]; { x := alloc(1); return x; }
abbrev pub make_body : Block
make_body =
    first (label 1) (alloc 0 1) (first (label 2) (give_back (variable 0)) (closing_return 3))

abbrev pub make_function : PlainFunction
make_function = record {
  name = [];
  params = 0;
  locals = 1;
  fixed = [];
  variables = [] ∷ [];
  requires = none;
  ensures = record {
    names = Int ∷ [];
    items =
        item (fact nowhere 2 0 (Is (variable 1) ∷ []) (Is (number (pos 0))))
        (item (atom nowhere 2 0 0 (Share (Is (number (pos 1))))) none);
  };
  body = make_body;
  place = nowhere;
}

abbrev pub counter_program : PlainProgram
counter_program = record { regions = counter_type ∷ []; functions = make_function ∷ []; main = 0 }

-- two equalities, each of which contradicts its negation behind three rows
abbrev pub two_certs : List Cert
two_certs = once 3 ∷ once 3 ∷ []

abbrev pub four_certs : List Cert
four_certs = once 3 ∷ once 3 ∷ once 3 ∷ once 3 ∷ []

-- the cell and the guards become a region's; its fact and its guards meet `ensures`
abbrev pub make_tree : PlainTree
make_tree =
    node by_alloc (above
    (node by_return (above
    (node (by_create 0) (above
    (node (by_cell 0 two_certs) (above
    (node (by_made []) (above
    (node (by_region 0 four_certs) (above
    (node (by_guard 0 0 four_certs) no_trees))))))))))))

-- ---- a region type of tickets, and a move that takes one

-- region Tickets(r, x) { guards [T]; interpretation { n : x |-> n; } actions { at T[n] : n ~> n +
-- 1; } }
abbrev pub take_ticket : PlainAction
take_ticket = record increment { guards = (0, At (Is (variable 2))) ∷ [] }

abbrev pub tickets_type : PlainRegionType
tickets_type = record counter_type { algebra = indexed; actions = take_ticket ∷ [] }

abbrev pub tickets_program : PlainProgram
tickets_program = record { regions = tickets_type ∷ []; functions = []; main = 0 }

abbrev pub next_ticket : Linear
next_ticket = record { constant = pos 1; parts = (2, pos 1) ∷ [] }

abbrev pub tickets : PlainFact
tickets = record {
  region = variable 0;
  kind = 0;
  args = variable 1 ∷ [];
  state = variable 2;
  loose = false;
}

-- the region is opened in a state, all tickets from it on are held, and its cell has gone up by 1
abbrev pub tickets_state : PlainState
tickets_state = record empty_state {
  sorts = Int ∷ Int ∷ Int ∷ [];
  before = piece (variable 0) 0 0 (Span (variable 2) None) ∷ [];
  opened = tickets ∷ [];
  envs = (Some (variable 0) ∷ Some (variable 1) ∷ Some next_ticket ∷ []) ∷ [];
}

-- the case is the first, and the move is the one action
abbrev pub tickets_goal : PlainGoal
tickets_goal = goal tickets_state (to_shift 0 0 1 0 1 ∷ [])

-- of the two negations of the target, and of the index's least place
abbrev pub taken_by : List ℕ → PlainChoice
taken_by spans = by_shift (once 0 ∷ once 0 ∷ once 0 ∷ []) spans
