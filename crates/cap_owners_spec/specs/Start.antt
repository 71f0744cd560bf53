-- Where a run begins: the first track, where the arguments and the heap meet what main requires.
use Rattle.std.specs.Prelude.{ℕ, ◌+◌, ℤ, pos, int_lt, Bool, if◌then◌else◌, List, [], ◌∷◌, ◌++◌, map, length, replicate, slice_get, slice_set, Option, Some, None}
use Rattle.std.specs.FinMap.{get, remove}
use Rattle.cap_rules.specs.cap_goal_spec.cap_lin.Linear.{Linear, same_number}
use Rattle.cap_rules.specs.cap_goal_spec.cap_lin.declared.row.Sort.{Sort}
use Rattle.cap_rules.specs.cap_goal_spec.cap_lin.declared.row.Sort.TheVariants.{Int, Perm}
use Rattle.cap_rules.specs.cap_goal_spec.cap_prog.declared.assertion.Comp.{Comp}
use Rattle.cap_rules.specs.cap_goal_spec.cap_prog.Program.{PlainItem, compare, choose, fact, atom, cell, Items, none, item, PlainFunction}
use Rattle.cap_rules.specs.cap_goal_spec.States.{PlainEnv}
use Rattle.cap_rules.specs.cap_goal_spec.Environments.{zero_value, is_determined, with_name, Reading, settled, open_to, stuck, reading, unbound}
use Rattle.cap_machine.specs.Machine.{Heap, compared}
use Rattle.cap_machine_accounts.specs.Assertions.{NameValue, a_number}
use Rattle.cap_machine_accounts.specs.Safety.{whole_part}
use Rattle.cap_owners_spec.specs.Traced.{Traced, traced, untold, ◌>>=◌, found, a_share, number_in}
use Rattle.cap_owners_spec.specs.Track.{Fill, TrackedFrame, Track}
use Rattle.cap_owners_spec.specs.Walks.{no_fill}
use Rattle.cap_owners_spec.specs.Steps.{Proved, begins_at, fixed_values, requires_root, body_root}

-- which names have values by now, by what the items are met so far, and the cells that are left
pub record Meeting : Type 0 where
  pub env : PlainEnv
  pub fill : Fill
  pub heap : Heap

-- a term whose names have values by now, as in a text they have: a name first stands alone
abbrev pub known_number : Meeting → Linear → Traced ℤ
known_number m t = if is_determined m.env t then number_in m.fill.names t else untold

-- main of a text knows no shares but the whole one
abbrev pub compared_shares : Comp → List (ℕ × ℤ) → List (ℕ × ℤ) → Traced Bool
compared_shares c [] [] = traced (compared c.op c.left.constant c.right.constant)
compared_shares c ls rs = untold

abbrev pub compared_by : Sort → Meeting → Comp → Traced Bool
compared_by Int m c = do
  l ← known_number m c.left
  r ← known_number m c.right
  traced (compared c.op l r)
compared_by Perm m c = compared_shares c c.left.parts c.right.parts

abbrev pub known_holds : Meeting → Comp → Traced Bool
known_holds m c = compared_by c.sort m c

-- a name that has no value yet, and is one of a whole number, gets that of the cell
abbrev pub names_cell : Option NameValue → ℕ → ℤ → Meeting → Traced (Option Meeting)
names_cell (Some (a_number y)) x z m = traced (Some (record m {
  env = with_name m.env x zero_value;
  fill = record m.fill { names = slice_set m.fill.names x (a_number z) };
}))
names_cell o x z m = untold

abbrev pub meets_slot : Reading → ℤ → Meeting → Traced (Option Meeting)
meets_slot (settled t) z m = do
  y ← number_in m.fill.names t
  traced (if same_number y z then Some m else None)
meets_slot (open_to None) z m = traced (Some (record m {
  fill = record m.fill { wildcards = m.fill.wildcards ++ a_number z ∷ [] };
}))
meets_slot (open_to (Some x)) z m = names_cell (slice_get m.fill.names x) x z m
meets_slot stuck z m = untold

abbrev pub meets_cell : ℤ → Option ℤ → (ℤ → Traced (Option Meeting)) → Traced (Option Meeting)
meets_cell a None f = traced None
meets_cell a (Some z) f = if int_lt (pos 0) a then f z else traced None

abbrev pub meets_if : Option Meeting → (Meeting → Traced (Option Meeting)) → Traced (Option Meeting)
meets_if None f = traced None
meets_if (Some m) f = f m

-- there are no regions yet, and main of a text asks for no guards
abbrev mutual
  pub meets_item : PlainItem → Meeting → Traced (Option Meeting)
  meets_item (compare c) m = do
    b ← known_holds m c
    traced (if b then Some m else None)
  meets_item (choose c a b) m = do
    h ← known_holds m c
    if h then meets_all a m else meets_all b m
  meets_item (fact place r k args x) m = traced None
  meets_item (atom place r k i asked) m = untold
  meets_item (cell place a x) m = do
    n ← known_number m a
    meets_cell n (get m.heap n)
        (λ z. meets_slot (reading m.env x) z (record m { heap = remove m.heap n }))

  pub meets_all : Items → Meeting → Traced (Option Meeting)
  meets_all none m = traced (Some m)
  meets_all (item i more) m = do
    o ← meets_item i m
    meets_if o (meets_all more)

-- until it has a value
abbrev pub unset : Sort → NameValue
unset Int = a_number (pos 0)
unset Perm = a_share (pos 0)

abbrev pub first_meeting : PlainFunction → List ℤ → Heap → Meeting
first_meeting f args heap = record {
  env = map (λ z. Some zero_value) args ++ unbound (f.locals + length f.fixed);
  fill = record no_fill {
    names = map a_number args
        ++ (replicate f.locals (a_number (pos 0)) ++ map unset f.fixed);
  };
  heap = heap;
}

-- main's frame has the whole heap
abbrev pub main_track : Heap → TrackedFrame → Track
main_track heap f = record {
  regions = [];
  threads = (record f { held = record f.held { part = whole_part heap } } ∷ []) ∷ [];
}

abbrev pub track_by :
    Proved → PlainFunction → List ℤ → Heap → Option Meeting → Traced (Option Track)
track_by d f args heap None = traced None
track_by d f args heap (Some m) = do
  begun ← begins_at d d.program.main requires_root body_root
      (map a_number args ++ fixed_values f m.fill) (fixed_values f m.fill) m.fill []
  traced (Some (main_track heap begun))

-- none where main's `requires` isn't met
abbrev pub first_track : Proved → List ℤ → Heap → Traced (Option Track)
first_track d args heap = do
  f ← found (slice_get d.program.functions d.program.main)
  o ← meets_all f.requires (first_meeting f args heap)
  track_by d f args heap o
