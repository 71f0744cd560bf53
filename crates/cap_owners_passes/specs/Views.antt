-- What contracts see of nodes that a walk passes.
use Rattle.std.specs.Prelude.{ℕ, ℤ, Bool, true, false, List, [], ◌∷◌, ◌++◌, map, Option, Some, None, Result}
use Rattle.std.specs.Borrow.{Bor}
use Rattle.cap_farkas.specs.declared.cert.Cert.{Cert}
use Rattle.cap_prog.specs.declared.assertion.Asked.{Asked}
use Rattle.cap_prog.specs.declared.assertion.Asked.TheVariants.{Tok}
use Rattle.cap_prog.specs.declared.assertion.Item.{Item}
use Rattle.cap_prog.specs.declared.function.Statement.{Statement}
use Rattle.cap_prog.specs.Program.{PlainItem, Items, none, item, PlainAct, Block, done, first}
use Rattle.cap_prog.specs.Views.{item_view, statement_view}
use Rattle.cap_goal.specs.Views.{has_no_items}
use Rattle.cap_goal_spec.specs.States.{PlainFact, PlainTask, to_run}
use Rattle.cap_goal_spec.specs.Choices.{PlainChoice, by_enter, by_create}
use Rattle.cap_machine.specs.declared.event.Event.{Event}
use Rattle.cap_machine.specs.declared.event.Event.TheVariants.{Branch}
use Rattle.cap_machine_accounts.specs.Assertions.{NameValue}
use Rattle.cap_owners_spec.specs.Traced.{Traced, traced, untold, ◌>>=◌}
use Rattle.cap_owners_spec.specs.Track.{TrackedRegion}
use Rattle.cap_owners_spec.specs.Walks.{Taking, Walk, Descent, descends, bringing, with_top, firmed, mark_value, taken_side}
use Rattle.cap_owners_passes.specs.declared.items.Taken.{Taken}
use Rattle.cap_owners_values.specs.declared.error.TraceError.{TraceError}
use Rattle.cap_owners_values.specs.declared.value.Value.{Value}
use Rattle.cap_owners_values.specs.Views.{Traces, value_view}

-- ---- which nodes enter a region

abbrev pub enters_for : PlainChoice → PlainTask → Bool
enters_for (by_enter i cs) (to_run h b) = true
enters_for c t = false

abbrev pub enters_at : PlainChoice → List PlainTask → Bool
enters_at c [] = false
enters_at c (t ∷ ts) = enters_for c t

-- ---- what a call answers

-- a node is passed: the number of the child, and the walk there
abbrev pub Passes : Result (Option ℕ) TraceError → Walk → Traced Descent → Type 0
Passes r w t = Traces r (λ i. descends i w) t

-- ---- what comes first

-- the first item, and whether none follows it
abbrev pub first_item : Items → Option (PlainItem × Bool)
first_item none = None
first_item (item i more) = Some (i, has_no_items more)

abbrev pub item_seen : Option (Bor Item × Bool) → Option (PlainItem × Bool)
item_seen None = None
item_seen (Some x) = Some (item_view x.0.now, x.1)

-- what the first statement does
abbrev pub first_act : Block → Option PlainAct
first_act done = None
first_act (first l a rest) = Some a

abbrev pub statement_seen : Option (Bor Statement) → Option PlainAct
statement_seen None = None
statement_seen (Some s) = Some (statement_view s.now).act

-- ---- children

-- the child of the side that a step took
abbrev pub branch_child : Event → Traced ℕ
branch_child (Branch taken) = traced (taken_side taken)
branch_child event = untold

-- the child of a conditional's side, where one that holds may leave nothing to do
abbrev pub child_of : Bool → Bool → Option ℕ
child_of true true = None
child_of true false = Some 0
child_of false true = Some 0
child_of false false = Some 1

-- ---- walks

abbrev pub with_values : Walk → List NameValue → Walk
with_values w vs = record w { values = vs }

-- with the value of a new variable, if there is one
abbrev pub with_new : Walk → Option Value → Walk
with_new w None = w
with_new w (Some v) = bringing w (value_view v ∷ [])

-- what was taken last is under way again
abbrev pub with_taken : Walk → Taking → Walk
with_taken w t = record w { taken = t ∷ w.taken }

-- ---- items

-- an item is taken: the number of the child, and the walk there, by what is taken then
abbrev pub item_goes : Walk → Taking → Taken → Descent
item_goes w t x = descends x.child (with_top (with_new w x.new) t)

abbrev pub Takes : Result Taken TraceError → Walk → Taking → Traced Descent → Type 0
Takes r w t d = Traces r (item_goes w t) d

-- a region is created
abbrev pub creates_by : PlainChoice → Bool
creates_by (by_create c) = true
creates_by c = false

abbrev pub asks_tokens : Asked → Bool
asks_tokens (Tok x) = true
asks_tokens asked = false

-- ---- regions

-- a region of this number, type, arguments and state, which owns what was taken, by a case and its
-- names
abbrev pub owned_by :
    ℤ → ℕ → List ℤ → ℤ → ℕ → Taking → List NameValue → TrackedRegion
owned_by n k zs z c t vs = record {
  owned = record {
    region = record { number = n; kind = k; args = zs; state = z };
    part = t.part;
  };
  case = c;
  fill = record t.fill { names = vs };
}

-- ---- facts

abbrev pub facts_lent : List (Bor PlainFact) → List PlainFact
facts_lent fs = map (λ f. f.now) fs

-- the values after one fact more of those whose state was open
abbrev pub firmed_fact : PlainFact → ℤ → ℤ → List NameValue → Traced (List NameValue)
firmed_fact f n z vs = firmed (f ∷ []) n z vs

-- the values of new variables with those that a fact brings, by its mark
abbrev pub marks_with :
    Walk → PlainFact → Option Cert → List NameValue → Traced (List NameValue)
marks_with w f m vs = do
  more ← mark_value w (record { opened = f; number = 0; fact = f }, m)
  traced (vs ++ more)
