-- What is offered at a head.
use Rattle.std.specs.Prelude.{ℕ, ◌&&◌, is_some, List, [], ◌∷◌, ◌++◌, option_map, option_to_list, slice_get, Option, Some, None}
use Rattle.cap_prog.specs.Program.{PlainAct, set, alloc, call, fork, branch, loop, check, give_back, Items, none, item, Block, done as no_statement, first, PlainProgram}
use Rattle.cap_goal_spec.specs.States.{PlainTask, PlainGoal}
use Rattle.cap_goal_spec.specs.Choices.{PlainChoice, by_absurd, by_set, by_alloc, by_assert, by_if, by_loop, by_call, by_fork, by_return}
use Rattle.cap_rules.specs.Making.{is_empty}
use Rattle.cap_offer_spec.specs.Deciding.{Noted, done, ◌>>=◌, decided}
use Rattle.cap_offer_spec.specs.Listing.{known_regions, new_regions}
use Rattle.cap_offer_spec.specs.Scanning.{tried_all, or_else}
use Rattle.cap_offer_spec.specs.Offering.{openings_unless, at_heap, at_statement, at_item, at_task}

-- at a fact of this type that is to be given up
abbrev pub at_region : PlainProgram → PlainGoal → ℕ → Noted (List PlainChoice)
at_region p g k = tried_all p g (known_regions g.state ++ new_regions (slice_get p.regions k))

-- at a statement, if there is one
abbrev pub at_block : PlainProgram → PlainGoal → Block → Noted (List PlainChoice)
at_block p g no_statement = done []
at_block p g (first l a rest) = at_statement p g a

-- at an item, if there is one
abbrev pub at_items : PlainProgram → PlainGoal → ℕ → Items → Noted (List PlainChoice)
at_items p g e none = done []
at_items p g e (item i more) = at_item p g e i

-- at a task, unless the rows contradict each other
abbrev pub at_head : PlainProgram → PlainGoal → PlainTask → Noted (List PlainChoice)
at_head p g t = do
  cert ← decided g.state.rows
  or_else (option_map by_absurd cert) (at_task p g t)

-- the one rule of a statement that isn't a heap statement
abbrev pub rule_of : PlainAct → Option PlainChoice
rule_of (set x t) = Some by_set
rule_of (alloc x n) = Some by_alloc
rule_of (call x f args) = Some by_call
rule_of (fork f args) = Some by_fork
rule_of (branch c a b) = Some by_if
rule_of (loop c i a) = Some by_loop
rule_of (check c) = Some (by_assert [])
rule_of (give_back t) = Some by_return
rule_of _ = None

abbrev pub by_rule :
    PlainProgram → PlainGoal → PlainAct → Option PlainChoice → Noted (List PlainChoice)
by_rule p g a (Some c) = tried_all p g (c ∷ [])
by_rule p g a None = at_heap p g a

-- to act on a cell by this choice, if there is one, and then to open a region
abbrev pub after_act : PlainProgram → PlainGoal → Option PlainChoice → Noted (List PlainChoice)
after_act p g act = do
  others ← openings_unless (is_some act && is_empty g.state.opened) p g
  done (option_to_list act ++ others)
