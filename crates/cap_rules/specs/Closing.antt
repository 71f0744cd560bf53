-- Regions are opened, a statement acts on a cell, and the regions are closed by moves.
use Rattle.std.specs.Prelude.{ℕ, zero, suc, ◌==◌, ◌&&◌, ◌||◌, nat_le, Bool, true, false, not, if◌then◌else◌, List, [], ◌∷◌, ◌++◌, map, flat_map, filter, length, find, remove, slice_get, slice_set, Option, Some, None}
use Rattle.std.specs.List.{range_with_len}
use Rattle.cap_goal_spec.specs.cap_lin.Linear.{Linear}
use Rattle.cap_goal_spec.specs.cap_lin.declared.row.Sort.TheVariants.{Int, Perm}
use Rattle.cap_goal_spec.specs.cap_lin.declared.row.Op.TheVariants.{Eq as Equal, Ne as Unequal, Le as AtMost, Gt as Greater, Ge as AtLeast}
use Rattle.cap_goal_spec.specs.cap_gsolve.declared.piece.Form.{Form}
use Rattle.cap_goal_spec.specs.cap_gsolve.declared.piece.Form.TheVariants as form
use Rattle.cap_goal_spec.specs.cap_gsolve.Pieces.{of_atom}
use Rattle.cap_goal_spec.specs.cap_prog.declared.assertion.Slot.{Slot}
use Rattle.cap_goal_spec.specs.cap_prog.declared.assertion.Slot.TheVariants.{Is}
use Rattle.cap_goal_spec.specs.cap_prog.declared.assertion.Asked.{Asked}
use Rattle.cap_goal_spec.specs.cap_prog.declared.assertion.Asked.TheVariants.{One, Share, Src, Tok, At, From}
use Rattle.cap_goal_spec.specs.cap_prog.Program.{PlainAct, read, write, cas, faa, dispose, PlainCase, PlainAction, PlainRegionType}
use Rattle.cap_goal_spec.specs.Terms.{lone_variable, variables_from}
use Rattle.cap_goal_spec.specs.States.{PlainFact, PlainEnv, PlainState, PlainTask, to_give, to_close, to_rest, PlainGoal, goals_of, with_state}
use Rattle.cap_goal_spec.specs.Environments.{zero_value, one_value, Reading, settled, open_to, stuck, reading, bind_open, asked_slot, bound, unbound, region_env}
use Rattle.cap_rules.specs.Attempts.{Attempt, unit, ◌>>=◌, found, need, not_applicable, prove_that, comparison_row}
use Rattle.cap_rules.specs.Making.{is_empty, sum, value_here, value_by, determined, determined_slot, rows_by, prove_comparisons, prove_equal, prove_differ, match_reading, fresh, with_sort, with_sorts, with_rows, with_comparison, with_local, with_env, with_fact}

-- the address of a heap statement
abbrev pub address_of : PlainAct → Option Linear
address_of (read x a) = Some a
address_of (write a t) = Some a
address_of (cas x a old new) = Some a
address_of (faa x a t) = Some a
address_of (dispose a) = Some a
address_of _ = None

-- ---- opening

abbrev pub of_type : ℕ → List PlainFact → List PlainFact
of_type k fs = filter (λ f. f.kind == k) fs

-- the region is another than each of these
abbrev pub prove_other : PlainState → PlainFact → List PlainFact → Attempt (Unit {0})
prove_other s f [] = unit tt
prove_other s f (o ∷ os) = do
  _ ← prove_differ s f.region o.region
  prove_other s f os

-- fact f, number i, is opened
abbrev pub with_opened : PlainState → ℕ → PlainFact → PlainState
with_opened s i f = record s {
  before = if is_empty s.opened then s.guards else s.before;
  facts = remove s.facts i;
  opened = s.opened ++ f ∷ [];
}

-- the region and its arguments, and fresh variables for the names of a case
abbrev pub case_names : PlainState → PlainFact → PlainCase → PlainEnv
case_names s f c = region_env f (bound (variables_from (length s.sorts) (length c.names)))

-- the opened region is in this case
abbrev pub in_case : PlainState → PlainFact → PlainCase → Attempt PlainState
in_case s f c = do
  s' ← with_sorts s c.names
  t ← determined (case_names s f c) c.state
  s'' ← with_comparison s' f.state Equal t Int
  rows ← rows_by (case_names s f c) c.when
  s''' ← with_rows s'' rows
  with_env s''' (case_names s f c)

abbrev pub case_goals :
    PlainState → PlainFact → ℕ → List PlainTask → List PlainCase → Attempt (List PlainGoal)
case_goals s f n ts [] = unit []
case_goals s f n ts (c ∷ cs) = do
  s' ← in_case s f c
  more ← case_goals s f n ts cs
  unit (goals_of s' (to_give c.items (length s.envs) n ∷ ts) ++ more)

-- ---- acting

-- a pair of an opened region and a fact of its type, by the fact's number
pub record Rival : Type 0 where
  pub opened : PlainFact
  pub number : ℕ
  pub fact : PlainFact

abbrev pub rivals_from : PlainFact → ℕ → List PlainFact → List Rival
rivals_from o i [] = []
rivals_from o i (f ∷ fs) =
    if f.kind == o.kind
    then record { opened = o; number = i; fact = f } ∷ rivals_from o (suc i) fs
    else rivals_from o (suc i) fs

-- each opened region with each fact of its type, in order
abbrev pub rivals : PlainState → List Rival
rivals s = flat_map (λ o. rivals_from o 0 s.facts) s.opened

-- the fact's state may be another from now on
abbrev pub loosened : PlainFact → Linear → PlainFact
loosened f t = record f { state = t; loose = true }

-- a mark says that the two regions differ; without it the fact is loose
abbrev pub with_mark : PlainState → Rival → Bool → Attempt PlainState
with_mark s x true = do
  _ ← prove_differ s x.opened.region x.fact.region
  unit s
with_mark s x false = do
  _ ← comparison_row x.opened.region Unequal x.fact.region Int
  s' ← with_sort s Int
  unit (record s' { facts = slice_set s.facts x.number (loosened x.fact (fresh s)) })

-- as many marks as there are pairs
abbrev pub with_marks : PlainState → List Rival → List Bool → Attempt PlainState
with_marks s [] [] = unit s
with_marks s [] (m ∷ ms) = not_applicable
with_marks s (x ∷ xs) [] = not_applicable
with_marks s (x ∷ xs) (m ∷ ms) = do
  s' ← with_mark s x m
  with_marks s' xs ms

abbrev pub with_content : PlainState → ℕ → Linear × Linear → Linear → PlainState
with_content s j c t = record s { cells = slice_set s.cells j (c.0, t) }

-- the states after a heap statement on cell c, number j
abbrev pub acted : PlainState → ℕ → Linear × Linear → PlainAct → Attempt (List PlainState)
acted s j c (read x a) = unit (with_local s x c.1 ∷ [])
acted s j c (write a t) = do
  u ← value_here s t
  unit (with_content s j c u ∷ [])
acted s j c (cas x a old new) = do
  e ← value_here s old
  s' ← with_comparison s c.1 Equal e Int
  u ← value_here s new
  s'' ← with_comparison s c.1 Unequal e Int
  unit (with_local (with_content s' j c u) x one_value ∷ with_local s'' x zero_value ∷ [])
acted s j c (faa x a t) = do
  u ← value_here s t
  v ← sum c.1 u
  unit (with_local (with_content s j c v) x c.1 ∷ [])
acted s j c (dispose a) = unit (record s { cells = remove s.cells j } ∷ [])
acted s j c _ = not_applicable

-- each opened region is closed, and then all facts are settled
abbrev pub closing : List PlainFact → ℕ → List PlainTask → List PlainTask
closing opened n ts = map (λ f. to_close true n) opened ++ to_rest 0 n ∷ ts

-- ---- moves

-- in a region's own tree a region is closed as it was, and else by any action of its type
abbrev pub may_move : Bool → ℕ → PlainRegionType → Bool
may_move any m k = nat_le m (length k.actions) && (any || (m == 0))

-- the action's name that is its whole source has the old state
abbrev pub source_name : PlainFact → Option ℕ → ℕ → Option Linear
source_name f None x = None
source_name f (Some y) x = if y == x then Some f.state else None

abbrev pub source_env : PlainRegionType → PlainFact → PlainAction → PlainEnv
source_env k f a =
    region_env f
    (map (source_name f (lone_variable a.source)) (range_with_len k.params (length a.names)))

-- the state to which the move leads, as far as the old state says it
abbrev pub move_target : PlainRegionType → PlainFact → ℕ → Attempt Linear
move_target k f zero = unit f.state
move_target k f (suc i) = do
  a ← found (slice_get k.actions i)
  determined (source_env k f a) a.target

-- what a move matches: guards with what was held, the source with the old state, the target with
-- the new one
pub data MovePart : Type 0 where
  guard : ℕ → Asked → MovePart
  source : MovePart
  target : MovePart

abbrev pub part_slot : PlainAction → MovePart → Slot
part_slot a (guard i asked) = asked_slot asked
part_slot a source = Is a.source
part_slot a target = Is a.target

abbrev pub is_stuck : Reading → Bool
is_stuck stuck = true
is_stuck r = false

-- the part holds an unbound name and isn't that name alone
abbrev pub waits : PlainEnv → PlainAction → MovePart → Bool
waits env a x = is_stuck (reading env (part_slot a x))

-- an amount of what was held: of a share some, of a source with m tokens out one that has at least
-- these out, of tokens some
abbrev pub match_share : PlainState → PlainEnv → Linear → Reading → Attempt PlainEnv
match_share s env a (settled t) = do
  e ← value_by env t
  _ ← prove_that s.rows e Greater zero_value Perm
  _ ← prove_that s.rows e AtMost a Perm
  unit env
match_share s env a (open_to x) = unit (bind_open env x a)
match_share s env a stuck = not_applicable

abbrev pub match_source : PlainState → PlainEnv → Linear → Reading → Attempt PlainEnv
match_source s env m (settled t) = do
  e ← value_by env t
  _ ← prove_that s.rows m AtMost e Int
  unit env
match_source s env m (open_to x) = unit (bind_open env x m)
match_source s env m stuck = not_applicable

abbrev pub match_tokens : PlainState → PlainEnv → Linear → Reading → Attempt PlainEnv
match_tokens s env m (settled t) = do
  e ← value_by env t
  _ ← prove_that s.rows e AtLeast zero_value Int
  _ ← prove_that s.rows e AtMost m Int
  unit env
match_tokens s env m (open_to x) = unit (bind_open env x m)
match_tokens s env m stuck = not_applicable

-- a source has any number of tokens
abbrev pub match_new_tokens : PlainState → PlainEnv → Reading → Attempt PlainEnv
match_new_tokens s env (settled t) = do
  e ← value_by env t
  _ ← prove_that s.rows e AtLeast zero_value Int
  unit env
match_new_tokens s env r = not_applicable

abbrev pub match_form : PlainState → PlainEnv → Asked → Form → Attempt PlainEnv
match_form s env One form.One = unit env
match_form s env (Share x) (form.Share a) = match_share s env a (reading env x)
match_form s env (Src x) (form.Src m) = match_source s env m (reading env x)
match_form s env (Tok x) (form.Tok m) = match_tokens s env m (reading env x)
match_form s env (Tok x) (form.Src m) = match_new_tokens s env (reading env x)
match_form s env asked f = not_applicable

-- one part of the move of region f from its state to `new`
abbrev pub match_part :
    PlainState → PlainFact → Linear → PlainAction → PlainEnv → MovePart → Attempt PlainEnv
match_part s f new a env (guard i asked) = do
  q ← found (find (of_atom f.region f.kind i) s.before)
  match_form s env asked q.form
match_part s f new a env source = match_reading s.rows env f.state (reading env (Is a.source))
match_part s f new a env target = match_reading s.rows env new (reading env (Is a.target))

-- the parts that need no other one, and those that wait
pub record Matched : Type 0 where
  pub env : PlainEnv
  pub waiting : List MovePart

abbrev pub match_ready :
    PlainState → PlainFact → Linear → PlainAction → PlainEnv → List MovePart → List MovePart →
    Attempt Matched
match_ready s f new a env waiting [] = unit (record { env = env; waiting = waiting })
match_ready s f new a env waiting (x ∷ xs) =
    if waits env a x
    then match_ready s f new a env (waiting ++ x ∷ []) xs
    else (match_part s f new a env x >>= λ env'. match_ready s f new a env' waiting xs)

abbrev pub match_all :
    PlainState → PlainFact → Linear → PlainAction → PlainEnv → List MovePart → Attempt PlainEnv
match_all s f new a env [] = unit env
match_all s f new a env (x ∷ xs) = do
  env' ← match_part s f new a env x
  match_all s f new a env' xs

-- the parts that may bind names: the atoms that aren't indexed, the source and the target
abbrev pub asks_indices : Asked → Bool
asks_indices (At x) = true
asks_indices (From x) = true
asks_indices asked = false

abbrev pub is_indexed : ℕ × Asked → Bool
is_indexed g = asks_indices g.1

abbrev pub parts_of : PlainAction → List MovePart
parts_of a =
    map (λ g. guard g.0 g.1) (filter (λ g. not (is_indexed g)) a.guards) ++ source ∷ target ∷ []

abbrev pub indexed_of : PlainAction → List (ℕ × Asked)
indexed_of a = filter is_indexed a.guards

-- an index is below the end of a span, if that has one
abbrev pub prove_below : PlainState → Option Linear → Linear → Attempt (Unit {0})
prove_below s None i = unit tt
prove_below s (Some e) i = do
  next ← sum i one_value
  prove_that s.rows next AtMost e Int

-- one index, or all from one on, out of a span that was held
abbrev pub prove_within : PlainState → Asked → Form → Linear → Attempt (Unit {0})
prove_within s (At x) (form.Span a e) i = do
  _ ← prove_that s.rows a AtMost i Int
  prove_below s e i
prove_within s (From x) (form.Span a None) i = prove_that s.rows a AtMost i Int
prove_within s asked f i = not_applicable

-- each indexed atom is taken out of the piece of its number among those that were held
abbrev pub match_spans :
    PlainState → PlainFact → PlainEnv → List (ℕ × Asked) → List ℕ → Attempt (Unit {0})
match_spans s f env [] [] = unit tt
match_spans s f env [] (j ∷ js) = not_applicable
match_spans s f env (g ∷ gs) [] = do
  i ← determined_slot env (asked_slot g.1)
  not_applicable
match_spans s f env (g ∷ gs) (j ∷ js) = do
  i ← determined_slot env (asked_slot g.1)
  q ← found (slice_get s.before j)
  _ ← need (of_atom f.region f.kind g.0 q)
  _ ← prove_within s g.1 q.form i
  match_spans s f env gs js

-- the parts that don't wait, then those that did, then the indexed atoms, and the action's
-- comparisons
abbrev pub prove_action :
    PlainState → PlainFact → Linear → PlainAction → List ℕ → Attempt (Unit {0})
prove_action s f new a spans = do
  m ← match_ready s f new a (region_env f (unbound (length a.names))) [] (parts_of a)
  env ← match_all s f new a m.env m.waiting
  _ ← match_spans s f env (indexed_of a) spans
  prove_comparisons s.rows env a.when

-- move 0 keeps the state
abbrev pub prove_move :
    PlainRegionType → PlainState → PlainFact → Linear → ℕ → List ℕ → Attempt (Unit {0})
prove_move k s f new zero spans = do
  _ ← need (is_empty spans)
  prove_equal s new f.state
prove_move k s f new (suc i) spans = do
  a ← found (slice_get k.actions i)
  prove_action s f new a spans

-- opened region o is closed in a new state
abbrev pub with_closed : PlainState → ℕ → PlainFact → Linear → Attempt PlainState
with_closed s o f new = do
  s' ← with_fact (record s { opened = remove s.opened o }) (with_state f new)
  unit (record s' { before = if is_empty s'.opened then [] else s'.before })
