-- Walks through trees of a derivation, along what a run brings: which child each node leads to, and
-- the values of the variables that are new there.
use Rattle.std.specs.Prelude.{ℕ, zero, suc, ◌-◌, ℤ, pos, ◌+ℤ◌, int_lt, Bool, true, false, ◌&&◌, if◌then◌else◌, is_none, List, [], ◌∷◌, ◌++◌, map, take, drop, length, slice_get, slice_set, unwrap_or, Option, Some, None}
use Rattle.std.specs.List.{zip}
use Rattle.std.specs.FinMap.{insert}
use Rattle.cap_rules.specs.cap_goal_spec.cap_lin.Linear.{Linear, variable, same_number}
use Rattle.cap_rules.specs.cap_goal_spec.cap_farkas.declared.cert.Cert.{Cert}
use Rattle.cap_rules.specs.cap_goal_spec.cap_prog.declared.assertion.Slot.{Slot}
use Rattle.cap_rules.specs.cap_goal_spec.cap_prog.declared.assertion.Slot.TheVariants.{Is}
use Rattle.cap_rules.specs.cap_goal_spec.cap_prog.declared.assertion.Asked.{Asked}
use Rattle.cap_rules.specs.cap_goal_spec.cap_prog.declared.assertion.Asked.TheVariants.{One, Share, Tok}
use Rattle.cap_rules.specs.cap_goal_spec.cap_prog.Program.{PlainItem, compare, choose, fact, atom, cell, Items, none, item, append_items, PlainAct, set, alloc, call, fork, branch, loop, check, give_back, first, PlainProgram}
use Rattle.cap_rules.specs.cap_goal_spec.Terms.{lone_variable}
use Rattle.cap_rules.specs.cap_goal_spec.States.{PlainFact, PlainEnv, PlainState, PlainTask, to_run, to_turn, to_give, to_take, to_make, to_close, to_shift, to_rest, PlainGoal, goals_of}
use Rattle.cap_rules.specs.cap_goal_spec.Choices.{PlainChoice, by_set, by_alloc, by_assert, by_if, by_loop, by_turn, by_call, by_fork, by_return, by_enter, by_act, by_pick, by_shift, by_settle, by_keep, by_give, by_fact, by_cases, by_cell, by_region, by_guard, by_convert, by_create, by_made, PlainTree, node, PlainTrees, tree}
use Rattle.cap_rules.specs.cap_goal_spec.Environments.{zero_value, Reading, settled, open_to, reading, asked_slot}
use Rattle.cap_rules.specs.Making.{is_empty, in_store, env_at}
use Rattle.cap_rules.specs.Closing.{Rival, rivals}
use Rattle.cap_rules_nodes.specs.Nodes.{goals_left}
use Rattle.cap_machine.specs.declared.event.Event.{Event}
use Rattle.cap_machine.specs.declared.event.Event.TheVariants.{Cas, Alloc, Branch}
use Rattle.cap_machine_accounts.specs.Parts.{atom_guard, Part, no_part}
use Rattle.cap_machine_accounts.specs.Assertions.{NameValue, a_number}
use Rattle.cap_owners_spec.specs.Traced.{Traced, traced, past_width, untold, ◌>>=◌, found, number_of, number_in, holds_by}
use Rattle.cap_owners_spec.specs.Track.{Fill, Place, TrackedRegion, tracked_at}
use Rattle.cap_owners_spec.specs.Filling.{with_more, names_in, met, all_met, atom_met, asked_element, Giving, Parting, parting, give_all}

-- ---- where a walk is

-- what is taken under way: by what its items are met so far, and what they own
pub record Taking : Type 0 where
  pub fill : Fill
  pub part : Part

-- The values of the variables; the regions by now, and the number of the next one; what is taken,
-- the innermost first; by what the next items that are given are met; the frame's own steps that
-- are still to come; and the variable of the result of the last call.
pub record Walk : Type 0 where
  pub values : List NameValue
  pub regions : List TrackedRegion
  pub next : ℤ
  pub taken : List Taking
  pub fill : Option Fill
  pub events : List Event
  pub awaited : ℕ

-- the child that is gone to, by its number, if the choice leaves one, and the walk there
pub data Descent : Type 0 where
  descends : Option ℕ → Walk → Descent

abbrev pub on : ℕ → Walk → Traced Descent
on i w = traced (descends (Some i) w)

-- with values of new variables
abbrev pub bringing : Walk → List NameValue → Walk
bringing w vs = record w { values = w.values ++ vs }

abbrev pub no_fill : Fill
no_fill = record { names = []; wildcards = []; facts = [] }

abbrev pub nothing_taken : Taking
nothing_taken = record { fill = no_fill; part = no_part }

-- an assertion more is to be taken
abbrev pub taking : Walk → Walk
taking w = record w { taken = nothing_taken ∷ w.taken }

-- the state of the region with this number
abbrev pub state_at : Walk → ℤ → Traced ℤ
state_at w n = do
  r ← found (tracked_at w.regions n)
  traced r.owned.region.state

-- ---- at the head of what is taken

abbrev pub with_top : Walk → Taking → Walk
with_top w t = record w { taken = t ∷ drop 1 w.taken }

-- what is taken, its names as they are before the next item
abbrev pub taken_at : PlainState → ℕ → Walk → Traced Taking
taken_at s e w = do
  t ← found (slice_get w.taken 0)
  names ← names_in w.values (env_at s e)
  traced (record t { fill = record t.fill { names = names } })

-- the item goes, met by this
abbrev pub goes_met : Walk → Taking → Fill → Traced Descent
goes_met w t f = on 0 (with_top w (record t { fill = f }))

abbrev pub pass_cell : PlainState → PlainEnv → ℕ → Slot → Taking → Walk → Traced Descent
pass_cell s env j x t w = do
  c ← found (slice_get s.cells j)
  a ← number_in w.values c.0
  z ← number_in w.values c.1
  on 0 (with_top w (record {
    fill = met (reading env x) (a_number z) t.fill;
    part = record t.part { cells = insert t.part.cells a z };
  }))

abbrev pub pass_region :
    PlainState → PlainEnv → ℕ → ℕ → List Slot → Slot → Taking → Walk → Traced Descent
pass_region s env j r args x t w = do
  f ← found (slice_get s.facts j)
  n ← number_in w.values f.region
  z ← number_in w.values f.state
  f' ← all_met w.values (map (reading env) (Is (variable r) ∷ (args ++ x ∷ [])))
      (f.region ∷ (f.args ++ f.state ∷ [])) t.fill
  goes_met w t (record f' { facts = f'.facts ++ (n, z) ∷ [] })

-- a unique guard has no slot that is open
abbrev pub asked_reading : PlainEnv → Asked → Reading
asked_reading env One = settled zero_value
asked_reading env asked = reading env (asked_slot asked)

-- half of a share is a new variable
abbrev pub new_share : Asked → Reading → NameValue → List NameValue
new_share (Share x) (open_to o) v = v ∷ []
new_share asked r v = []

abbrev pub pass_piece :
    PlainProgram → PlainState → PlainEnv → ℕ → ℕ → ℕ → Asked → Taking → Walk → Traced Descent
pass_piece p s env j k i asked t w = do
  q ← found (slice_get s.guards j)
  n ← number_in w.values q.region
  v ← atom_met w.values t.fill.names q.form (asked_reading env asked)
  y ← asked_element asked v
  part ← with_more t.part n (atom_guard p k i y)
  on 0 (with_top (bringing w (new_share asked (asked_reading env asked) v))
      (record { fill = met (asked_reading env asked) v t.fill; part = part }))

-- way 2 takes no token
abbrev pub pass_guard :
    PlainProgram → PlainState → PlainEnv → ℕ → ℕ → ℕ → ℕ → Asked → Taking → Walk → Traced Descent
pass_guard p s env j (suc (suc zero)) k i (Tok x) t w = goes_met w t t.fill
pass_guard p s env j way k i asked t w = pass_piece p s env j k i asked t w

-- of the children of a conditional one may be missing, where its side leaves nothing to do
abbrev pub side_child : Bool → List PlainGoal → Option ℕ
side_child true [] = None
side_child true (g ∷ gs) = Some 0
side_child false gs = Some (length gs)

-- the next region gets its number, and its case is taken
abbrev pub pass_create : Walk → Traced Descent
pass_create w =
    on 0 (taking (record (bringing w (a_number w.next ∷ [])) { next = w.next +ℤ pos 1 }))

-- an item, which other ones follow
abbrev pub pass_item :
    PlainProgram → PlainState → PlainChoice → PlainItem → Items → ℕ → ℕ → ℕ → List PlainTask →
    Taking → Walk → Traced Descent
pass_item p s (by_fact cs) (compare c) more e left n ts t w = goes_met w t t.fill
pass_item p s by_cases (choose c a b) more e left n ts t w = do
  b ← holds_by t.fill.names c
  traced (descends (side_child b (goals_of s (to_take (append_items a more) e left n ∷ ts)))
      (with_top w t))
pass_item p s (by_cell j cs) (cell place a x) more e left n ts t w =
    pass_cell s (env_at s e) j x t w
pass_item p s (by_region j cs) (fact place r k args x) more e left n ts t w =
    pass_region s (env_at s e) j r args x t w
pass_item p s (by_guard j way cs) (atom place r k i asked) more e left n ts t w =
    pass_guard p s (env_at s e) j way k i asked t w
pass_item p s (by_convert m side cs) (atom place r k i asked) more e left n ts t w =
    goes_met w t t.fill
pass_item p s (by_create c) (fact place r k args x) more e left n ts t w = pass_create w
pass_item p s c i more e left n ts t w = untold

-- ---- regions

-- a region is put in its place by its number
abbrev pub with_region : TrackedRegion → List TrackedRegion → List TrackedRegion
with_region r [] = r ∷ []
with_region r (s ∷ ss) =
    if same_number s.owned.region.number r.owned.region.number then r ∷ ss
    else (if int_lt r.owned.region.number s.owned.region.number then r ∷ (s ∷ ss)
    else s ∷ with_region r ss)

-- the facts of this region whose state was open until it is closed
abbrev pub firmed : List PlainFact → ℤ → ℤ → List NameValue → Traced (List NameValue)
firmed [] n z vs = traced vs
firmed (f ∷ fs) n z vs = do
  m ← number_in vs f.region
  firmed fs n z
      (if f.loose && same_number m n
      then slice_set vs (unwrap_or (lone_variable f.state) (length vs)) (a_number z) else vs)

-- region o is closed: it has what was taken, in the case's state by the case's names
abbrev pub pass_shift :
    PlainProgram → PlainState → ℕ → ℕ → ℕ → Taking → Walk → Traced Descent
pass_shift p s o c e t w = do
  f ← found (slice_get s.opened o)
  k ← found (slice_get p.regions f.kind)
  x ← found (slice_get k.cases c)
  n ← number_in w.values f.region
  r ← found (tracked_at w.regions n)
  names ← names_in w.values (env_at s e)
  z ← number_in names x.state
  vs ← firmed s.facts n z w.values
  on 0 (record w {
    values = vs;
    taken = drop 1 w.taken;
    regions = with_region (record {
      owned = record { region = record r.owned.region { state = z }; part = t.part };
      case = c;
      fill = record t.fill { names = names };
    }) w.regions;
  })

-- a region is made
abbrev pub pass_made :
    PlainProgram → PlainState → ℕ → ℕ → ℕ → Linear → Taking → Walk → Traced Descent
pass_made p s k c e u t w = do
  y ← found (slice_get p.regions k)
  x ← found (slice_get y.cases c)
  n ← number_in w.values u
  names ← names_in w.values (env_at s e)
  z ← number_in names x.state
  on 0 (record w {
    taken = drop 1 w.taken;
    regions = with_region (record {
      owned = record {
        region = record {
          number = n;
          kind = k;
          args = map number_of (take (y.params - 1) (drop 1 names));
          state = z;
        };
        part = t.part;
      };
      case = c;
      fill = record t.fill { names = names };
    }) w.regions;
  })

-- the state in which the region is by now
abbrev pub pass_settle : PlainState → ℕ → Walk → Traced Descent
pass_settle s j w = do
  f ← found (slice_get s.facts j)
  n ← number_in w.values f.region
  z ← state_at w n
  on 0 (bringing w (a_number z ∷ []))

-- in which case a region is by now, and by what
pub record Interpreted : Type 0 where
  pub case : ℕ
  pub fill : Fill

abbrev pub Interpreting : Type 0
Interpreting = List TrackedRegion → TrackedRegion → Traced Interpreted

abbrev pub pass_enter : Interpreting → PlainProgram → PlainState → ℕ → Walk → Traced Descent
pass_enter enter p s i w = do
  f ← found (slice_get s.facts i)
  k ← found (slice_get p.regions f.kind)
  n ← number_in w.values f.region
  r ← found (tracked_at w.regions n)
  x ← enter w.regions r
  on x.case (record (bringing w (drop k.params x.fill.names)) { fill = Some x.fill })

-- ---- statements

-- a fact without a certificate gets a variable, for now with the state in which the region is
abbrev pub mark_value : Walk → Rival × Option Cert → Traced (List NameValue)
mark_value w (x, Some c) = traced []
mark_value w (x, None) = do
  n ← number_in w.values x.fact.region
  z ← state_at w n
  traced (a_number z ∷ [])

abbrev pub mark_values : Walk → List (Rival × Option Cert) → Traced (List NameValue)
mark_values w [] = traced []
mark_values w (m ∷ ms) = do
  vs ← mark_value w m
  more ← mark_values w ms
  traced (vs ++ more)

-- the child of a comparison's side
abbrev pub taken_side : Bool → ℕ
taken_side true = 0
taken_side false = 1

abbrev pub act_child : Event → ℕ
act_child (Cas a swapped) = taken_side swapped
act_child e = 0

-- the result of a call, for now the destination's old value
abbrev pub result_for : PlainState → Option ℕ → Walk → Traced NameValue
result_for s None w = traced (a_number (pos 0))
result_for s (Some x) w = do
  z ← number_in w.values (in_store s x)
  traced (a_number z)

-- what a callee requires is to be taken
abbrev pub pass_callee : PlainState → Option ℕ → Walk → Traced Descent
pass_callee s x w = do
  v ← result_for s x w
  on 0 (taking (record (bringing w (v ∷ [])) {
    fill = None;
    taken = [];
    awaited = length w.values;
  }))

-- a statement, by the event of its step
abbrev pub pass_statement :
    PlainState → PlainChoice → PlainAct → Event → Walk → Traced Descent
pass_statement s by_set (set x t) event w = on 0 w
pass_statement s by_alloc (alloc x n) (Alloc base) w = on 0 (bringing w (a_number base ∷ []))
pass_statement s (by_assert cs) (check c) event w = on 0 w
pass_statement s by_if (branch c a b) (Branch taken) w = on (taken_side taken) w
pass_statement s by_loop (loop c i a) event w =
    on 0 (taking (record w { taken = [] }))
pass_statement s by_call (call x n args) event w = pass_callee s x w
pass_statement s by_fork (fork n args) event w = pass_callee s None w
pass_statement s by_return (give_back t) event w = on 0 (taking (record w { taken = [] }))
pass_statement s (by_act j cs ms) a event w = do
  vs ← mark_values w (zip (rivals s) ms)
  on (act_child event) (bringing w vs)
pass_statement s c a event w = untold

-- the step is not to come again
abbrev pub pass_event :
    PlainState → PlainChoice → PlainAct → List Event → Walk → Traced Descent
pass_event s c a [] w = untold
pass_event s c a (event ∷ more) w = pass_statement s c a event (record w { events = more })

abbrev pub pass_turn : List Event → Walk → Traced Descent
pass_turn (Branch taken ∷ more) w = on (taken_side taken) (record w { events = more })
pass_turn es w = untold

-- ---- an assertion is given

abbrev pub no_items : Items → Bool
no_items none = true
no_items (item i more) = false

-- so much is left to be given
abbrev pub left_fill : Items → Fill → Giving → Option Fill
left_fill items f g =
    if no_items items then None else Some (record f { wildcards = g.wildcards })

abbrev pub pass_parting :
    PlainState → ℕ → ℕ → List PlainTask → Fill → Giving → Walk → Option Parting → Traced Descent
pass_parting s e n ts f g w None = on 0 (record (bringing w g.new) { fill = None })
pass_parting s e n ts f g w (Some x) = do
  b ← holds_by f.names x.condition
  traced (descends (side_child b (goals_of s (to_give x.holding e n ∷ ts)))
      (record (bringing w g.new) {
        fill = left_fill (if b then x.holding else x.failing) f g;
      }))

abbrev pub pass_give : PlainState → Items → ℕ → ℕ → List PlainTask → Walk → Traced Descent
pass_give s items e n ts w = do
  f ← found w.fill
  let g = give_all f.names items
      (record { env = env_at s e; new = []; wildcards = f.wildcards }) in
      pass_parting s e n ts f g w (parting items)

-- ---- a node

abbrev pub pass_task :
    Interpreting → PlainProgram → PlainState → PlainChoice → PlainTask → List PlainTask → Walk →
    Traced Descent
pass_task enter p s (by_enter i cs) (to_run h b) ts w = pass_enter enter p s i w
pass_task enter p s c (to_run h (first l a rest)) ts w = pass_event s c a w.events w
pass_task enter p s by_turn (to_turn h b) ts w = pass_turn w.events w
pass_task enter p s by_give (to_give items e n) ts w = pass_give s items e n ts w
pass_task enter p s c (to_take (item i more) e left n) ts w = do
  t ← taken_at s e w
  pass_item p s c i more e left n ts t w
pass_task enter p s (by_pick o c m) (to_close any n) ts w = on 0 (taking w)
pass_task enter p s (by_shift cs spans) (to_shift o c m e n) ts w = do
  t ← found (slice_get w.taken 0)
  pass_shift p s o c e t w
pass_task enter p s (by_made cs) (to_make k c e u n) ts w = do
  t ← found (slice_get w.taken 0)
  pass_made p s k c e u t w
pass_task enter p s (by_settle list cs) (to_rest j n) ts w = pass_settle s j w
pass_task enter p s (by_keep cs) (to_rest j n) ts w = on 0 w
pass_task enter p s c t ts w = untold

abbrev pub pass_tasks :
    Interpreting → PlainProgram → PlainState → PlainChoice → List PlainTask → Walk → Traced Descent
pass_tasks enter p s c [] w = untold
pass_tasks enter p s c (t ∷ ts) w = pass_task enter p s c t ts w

-- ---- to the end of a walk

-- a walk stops where a statement is next and no step is to come, or where something is to be given
-- and isn't there yet; a walk to a seat stops before facts are settled
abbrev pub stops_at : Bool → PlainTask → Walk → Bool
stops_at seating (to_run h b) w = is_empty w.events
stops_at seating (to_turn h b) w = is_empty w.events
stops_at seating (to_give items e n) w = is_none w.fill
stops_at seating (to_rest j n) w = seating && is_empty w.events
stops_at seating t w = false

abbrev pub stops : Bool → List PlainTask → Walk → Bool
stops seating [] w = false
stops seating (t ∷ ts) w = stops_at seating t w

-- it stops at a place, or goes to the end of the tree
pub data Halt : Type 0 where
  stands : Place → Walk → Halt
  leaves : Walk → Halt

abbrev pub stop_or : Bool → Place → Walk → Traced Halt → Traced Halt
stop_or true q w more = traced (stands q w)
stop_or false q w more = more

abbrev mutual
  pub walk :
      Interpreting → PlainProgram → Bool → PlainTree → PlainGoal → Walk → Traced Halt
  walk enter p seating (node c ts) g w =
      stop_or (stops seating g.tasks w) (record { goal = g; tree = node c ts }) w
      (walk_below enter p seating ts (goals_left p g c) (pass_tasks enter p g.state c g.tasks w))

  -- to the child of this number; where there is none, the tree ends
  pub walk_below :
      Interpreting → PlainProgram → Bool → PlainTrees → List PlainGoal → Traced Descent →
      Traced Halt
  walk_below enter p seating (tree t ts) (g ∷ gs) (traced (descends (Some zero) w)) =
      walk enter p seating t g w
  walk_below enter p seating (tree t ts) (g ∷ gs) (traced (descends (Some (suc i)) w)) =
      walk_below enter p seating ts gs (traced (descends (Some i) w))
  walk_below enter p seating ts gs (traced (descends i w)) = traced (leaves w)
  walk_below enter p seating ts gs past_width = past_width
  walk_below enter p seating ts gs untold = untold

abbrev pub walk_from : Interpreting → PlainProgram → Bool → Place → Walk → Traced Halt
walk_from enter p seating q w = walk enter p seating q.tree q.goal w
