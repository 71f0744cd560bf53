-- The choices that are offered at a goal, in order, and what is noted while they are decided.
use Rattle.std.specs.Prelude.{ℕ, Bool, true, false, is_some, ◌&&◌, List, [], ◌∷◌, ◌++◌, slice_get, option_map, option_to_list, Option, Some, None}
use Rattle.cap_lin.specs.Linear.{Linear}
use Rattle.cap_rules.specs.cap_prog.Program.{PlainItem, compare, choose, fact, atom, cell, item, PlainAct, read, write, cas, faa, dispose, first, PlainRegionType, PlainProgram}
use Rattle.cap_rules.specs.cap_goal_spec.States.{PlainFact, PlainState, PlainTask, to_run, to_turn, to_give, to_take, to_make, to_close, to_shift, to_rest, PlainGoal}
use Rattle.cap_rules.specs.cap_goal_spec.Choices.{PlainChoice, by_absurd, by_turn, by_settle, by_keep, by_give, by_fact, by_cases, by_made}
use Rattle.cap_rules.specs.Making.{is_empty}
use Rattle.cap_offer_spec.specs.Deciding.{clean, Outcome, Noted, done, ◌>>=◌, decided}
use Rattle.cap_offer_spec.specs.Claims.{has_address, has_item_address}
use Rattle.cap_offer_spec.specs.Closures.{PlainClosure, keeps, settles, closure}
use Rattle.cap_offer_spec.specs.Listing.{own_rule, clashes, openings, known_regions, new_regions, cuts, conversions, closings}
use Rattle.cap_offer_spec.specs.Scanning.{tried_all, first_tried, or_else, first_cell, first_act}
use Rattle.cap_offer_spec.specs.Shifting.{spans_for, shift_with}

-- ---- at a heap statement

-- a region is opened where the cell isn't found, or where one is open already
abbrev pub openings_unless : Bool → PlainProgram → PlainGoal → Noted (List PlainChoice)
openings_unless true p g = done []
openings_unless false p g = tried_all p g (openings g.state)

abbrev pub by_cells : PlainProgram → PlainGoal → PlainAct → Noted (List PlainChoice)
by_cells p g a = do
  act ← first_act p g (has_address g.state a) 0 g.state.cells
  others ← openings_unless (is_some act && is_empty g.state.opened) p g
  done (option_to_list act ++ others)

abbrev pub at_heap : PlainProgram → PlainGoal → PlainAct → Noted (List PlainChoice)
at_heap p g a = do
  clash ← first_tried p g (clashes g.state)
  or_else clash (by_cells p g a)

abbrev pub at_statement : PlainProgram → PlainGoal → PlainAct → Noted (List PlainChoice)
at_statement p g (read x a) = at_heap p g (read x a)
at_statement p g (write a t) = at_heap p g (write a t)
at_statement p g (cas x a old new) = at_heap p g (cas x a old new)
at_statement p g (faa x a t) = at_heap p g (faa x a t)
at_statement p g (dispose a) = at_heap p g (dispose a)
at_statement p g a = tried_all p g (own_rule a)

-- ---- at an item that is to be given up

abbrev pub at_cell : PlainProgram → PlainGoal → ℕ → Linear → Noted (List PlainChoice)
at_cell p g e a = do
  c ← first_cell p g (has_item_address g.state e a) 0 g.state.cells
  done (option_to_list c)

-- the first way to take it out of a piece, or else all ways to convert another guard to it
abbrev pub at_atom : PlainProgram → PlainGoal → ℕ → ℕ → Noted (List PlainChoice)
at_atom p g k i = do
  c ← first_tried p g (cuts g.state)
  or_else c (tried_all p g (conversions (slice_get p.regions k) i))

-- in environment e
abbrev pub at_item : PlainProgram → PlainGoal → ℕ → PlainItem → Noted (List PlainChoice)
at_item p g e (compare c) = tried_all p g (by_fact [] ∷ [])
at_item p g e (choose c a b) = tried_all p g (by_cases ∷ [])
at_item p g e (fact place n k args x) =
    tried_all p g (known_regions g.state ++ new_regions (slice_get p.regions k))
at_item p g e (atom place n k i asked) = at_atom p g k i
at_item p g e (cell place a x) = at_cell p g e a

-- ---- at a fact that is to be settled

abbrev pub of_closure : PlainClosure → List PlainChoice
of_closure (keeps cs) = by_keep cs ∷ []
of_closure (settles list None) = []
of_closure (settles list (Some cs)) = by_settle list cs ∷ []

abbrev pub at_fact_of :
    PlainState → ℕ → PlainFact → Option PlainRegionType → Noted (List PlainChoice)
at_fact_of s j f None = done []
at_fact_of s j f (Some k) = do
  c ← closure k s j f
  done (of_closure c)

abbrev pub at_fact : PlainProgram → PlainState → ℕ → Option PlainFact → Noted (List PlainChoice)
at_fact p s j None = done []
at_fact p s j (Some f) = at_fact_of s j f (slice_get p.regions f.kind)

-- ---- at a move

-- the indexed atoms name the spans that are found for them
abbrev pub at_shift : PlainProgram → PlainGoal → ℕ → ℕ → ℕ → ℕ → Noted (List PlainChoice)
at_shift p g o c m e = do
  js ← spans_for p g.state o c m e (slice_get g.state.opened o)
  tried_all p g (shift_with js)

-- ---- by the head of the tasks

abbrev pub at_task : PlainProgram → PlainGoal → PlainTask → Noted (List PlainChoice)
at_task p g (to_run h (first l a rest)) = at_statement p g a
at_task p g (to_turn h b) = tried_all p g (by_turn ∷ [])
at_task p g (to_give items e n) = tried_all p g (by_give ∷ [])
at_task p g (to_take (item i more) e left n) = at_item p g e i
at_task p g (to_make k c e t n) = tried_all p g (by_made [] ∷ [])
at_task p g (to_close any n) = tried_all p g (closings p g.state)
at_task p g (to_shift o c m e n) = at_shift p g o c m e
at_task p g (to_rest j n) = at_fact p g.state j (slice_get g.state.facts j)
at_task p g t = done []

-- a contradiction among the rows is decided first; where there is one, nothing else is looked at
abbrev pub at_tasks : PlainProgram → PlainGoal → List PlainTask → Noted (List PlainChoice)
at_tasks p g [] = done []
at_tasks p g (t ∷ ts) = do
  cert ← decided g.state.rows
  or_else (option_map by_absurd cert) (at_task p g t)

unfoldable pub offering : PlainProgram → PlainGoal → Noted (List PlainChoice)
offering p g = at_tasks p g g.tasks

-- the choices, and the first note of each kind
unfoldable pub offered : PlainProgram → PlainGoal → Outcome (List PlainChoice)
offered p g = offering p g clean
