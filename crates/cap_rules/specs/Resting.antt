-- A fact is settled: what is then known of its state stays true whatever the others do.
use Rattle.std.specs.Prelude.{ℕ, ◌+◌, ◌-◌, ℤ, nat_le, List, [], ◌∷◌, ◌++◌, length, get_or, slice_get, slice_set, Option, Some, None}
use Rattle.cap_goal_spec.specs.cap_lin.Linear.{Linear, variable, replaced}
use Rattle.cap_goal_spec.specs.cap_lin.Steps.{replaced_steps}
use Rattle.cap_goal_spec.specs.cap_lin.declared.row.Row.{Row}
use Rattle.cap_goal_spec.specs.cap_lin.declared.row.Sort.TheVariants.{Int}
use Rattle.cap_goal_spec.specs.cap_lin.declared.row.Op.TheVariants.{Eq as Equal}
use Rattle.cap_goal_spec.specs.cap_gsolve.declared.piece.Form.{Form}
use Rattle.cap_goal_spec.specs.cap_gsolve.declared.piece.Form.TheVariants as form
use Rattle.cap_goal_spec.specs.cap_gsolve.Compat.{compat, compat_steps}
use Rattle.cap_goal_spec.specs.cap_prog.declared.assertion.Comp.{Comp}
use Rattle.cap_goal_spec.specs.cap_prog.declared.assertion.Slot.{Slot}
use Rattle.cap_goal_spec.specs.cap_prog.declared.assertion.Slot.TheVariants.{Any, Is}
use Rattle.cap_goal_spec.specs.cap_prog.declared.assertion.Asked.{Asked}
use Rattle.cap_goal_spec.specs.cap_prog.declared.assertion.Asked.TheVariants.{One, Share, Src, Tok, At, From}
use Rattle.cap_goal_spec.specs.cap_prog.Program.{PlainAction, PlainRegionType}
use Rattle.cap_goal_spec.specs.Terms.{term_over, term_over_steps, variables_from}
use Rattle.cap_goal_spec.specs.States.{PlainFact, PlainState, with_state}
use Rattle.cap_goal_spec.specs.Environments.{zero_value, one_value}
use Rattle.cap_goal_spec.specs.Candidates.{MadeRow, candidates, later_state}
use Rattle.cap_rules.specs.Attempts.{Attempt, unit, ◌>>=◌, computed, found, need, comparison_row, prove, prove_that}
use Rattle.cap_rules.specs.Making.{sum, with_sort, with_rows}

-- ---- an action of the others, at unknown names

-- terms for the region, its arguments and the names that came up so far, and the next variable that
-- is still free
pub record Names : Type 0 where
  pub terms : List Linear
  pub next : ℕ

-- variables for the names below this number
abbrev pub names_below : Names → ℕ → Names
names_below w n = record {
  terms = w.terms ++ variables_from w.next (n - length w.terms);
  next = w.next + (n - length w.terms);
}

-- one more than the last name of a term
abbrev pub end_of : List (ℕ × ℤ) → ℕ
end_of [] = 0
end_of (p ∷ []) = p.0 + 1
end_of (p ∷ ps) = end_of ps

-- in the order of the text each name and each `_` gets a variable
abbrev pub ask_slot : Names → Slot → Names
ask_slot w Any = record w { next = w.next + 1 }
ask_slot w (Is t) = names_below w (end_of t.parts)

abbrev pub ask : Names → Asked → Names
ask w One = w
ask w (Share x) = ask_slot w x
ask w (Src x) = ask_slot w x
ask w (Tok x) = ask_slot w x
ask w (At x) = ask_slot w x
ask w (From x) = ask_slot w x

abbrev pub ask_all : Names → List (ℕ × Asked) → Names
ask_all w [] = w
ask_all w (g ∷ gs) = ask_all (ask w g.1) gs

-- the variable after the state's own is the fact's later state, and further ones are the action's
-- names
abbrev pub first_names : PlainState → PlainFact → Names
first_names s f = record { terms = f.region ∷ f.args; next = length s.sorts + 1 }

abbrev pub action_names : PlainRegionType → PlainState → PlainFact → PlainAction → List Linear
action_names k s f a =
    (names_below (ask_all (first_names s f) a.guards) (k.params + length a.names)).terms

-- a term of the action
abbrev pub value_over : List Linear → Linear → Attempt Linear
value_over names t =
    computed (term_over (λ x. get_or names x zero_value) t)
    (term_over_steps (λ x. get_or names x zero_value) t)

abbrev pub rows_over : List Linear → List Comp → Attempt (List Row)
rows_over names [] = unit []
rows_over names (c ∷ cs) = do
  l ← value_over names c.left
  r ← value_over names c.right
  q ← comparison_row l c.op r c.sort
  more ← rows_over names cs
  unit (q ∷ more)

-- the guards that the action wants; this variable stands for `_`
abbrev pub want_slot : List Linear → ℕ → Slot → Attempt Linear
want_slot names x Any = unit (variable x)
want_slot names x (Is t) = value_over names t

abbrev pub want_form : List Linear → ℕ → Asked → Attempt Form
want_form names x One = unit form.One
want_form names x (Share t) = do
  a ← want_slot names x t
  unit (form.Share a)
want_form names x (Src t) = do
  n ← want_slot names x t
  unit (form.Src n)
want_form names x (Tok t) = do
  k ← want_slot names x t
  unit (form.Tok k)
want_form names x (At t) = do
  i ← want_slot names x t
  next ← sum i one_value
  unit (form.Span i (Some next))
want_form names x (From t) = do
  i ← want_slot names x t
  unit (form.Span i None)

abbrev pub want_all : List Linear → Names → List (ℕ × Asked) → Attempt (List (ℕ × Form))
want_all names w [] = unit []
want_all names w (g ∷ gs) = do
  f ← want_form names w.next g.1
  more ← want_all names (ask w g.1) gs
  unit ((g.0, f) ∷ more)

abbrev pub joined_rows : List Row → Option (List Row) → Option (List Row)
joined_rows rows None = None
joined_rows rows (Some more) = Some (rows ++ more)

-- what holds where others take the action at the later state, of which these rows hold; none where
-- nobody else can hold its guards
abbrev pub system :
    PlainRegionType → PlainState → PlainFact → List Row → PlainAction → List Linear →
    Attempt (Option (List Row))
system k s f known a names = do
  source ← value_over names a.source
  q ← comparison_row source Equal (later_state s) Int
  conditions ← rows_over names a.when
  wanted ← want_all names (first_names s f) a.guards
  compatible ← computed (compat k.algebra s.guards f.region f.kind wanted)
      (compat_steps k.algebra s.guards f.region f.kind wanted)
  unit (joined_rows (s.rows ++ (known ++ q ∷ conditions)) compatible)

-- ---- settling by candidates

-- the candidates of these numbers, which ascend from `low`
abbrev pub named_candidates : ℕ → List MadeRow → List ℕ → Attempt (List Row)
named_candidates low all [] = unit []
named_candidates low all (i ∷ is) = do
  _ ← need (nat_le low i)
  m ← found (slice_get all i)
  r ← computed m.row m.steps
  rs ← named_candidates (i + 1) all is
  unit (r ∷ rs)

-- the rows prove each candidate, with this term for the later state
abbrev pub prove_at : PlainState → List Row → Linear → List Row → Attempt (Unit {0})
prove_at s rows t [] = unit tt
prove_at s rows t (r ∷ rs) = do
  u ← computed (replaced (length s.sorts) t r.term) (replaced_steps (length s.sorts) t r.term)
  _ ← prove rows (record r { term = u })
  prove_at s rows t rs

-- the target is computed only where there is a candidate
abbrev pub prove_closed :
    PlainState → List Row → PlainAction → List Linear → Option (List Row) → Attempt (Unit {0})
prove_closed s [] a names rows = unit tt
prove_closed s named a names None = unit tt
prove_closed s named a names (Some rows) = do
  t ← value_over names a.target
  prove_at s rows t named

abbrev pub prove_stable :
    PlainRegionType → PlainState → PlainFact → List Row → List PlainAction → Attempt (Unit {0})
prove_stable k s f named [] = unit tt
prove_stable k s f named (a ∷ more) = do
  rows ← system k s f named a (action_names k s f a)
  _ ← prove_closed s named a (action_names k s f a) rows
  prove_stable k s f named more

-- the fact's state is a new one, of which the candidates hold
abbrev pub with_settled : PlainState → ℕ → PlainFact → List Row → Attempt PlainState
with_settled s j f named = do
  s' ← with_sort s Int
  with_rows (record s' { facts = slice_set s.facts j (with_state f (later_state s)) }) named

abbrev pub settle : PlainRegionType → PlainState → ℕ → PlainFact → List ℕ → Attempt PlainState
settle k s j f list = do
  named ← named_candidates 1 (candidates k s f) list
  _ ← prove_at s s.rows f.state named
  _ ← prove_stable k s f named k.actions
  with_settled s j f named

-- ---- keeping the state

abbrev pub prove_same :
    PlainFact → PlainAction → List Linear → Option (List Row) → Attempt (Unit {0})
prove_same f a names None = unit tt
prove_same f a names (Some rows) = do
  t ← value_over names a.target
  prove_that rows t Equal f.state Int

abbrev pub prove_kept :
    PlainRegionType → PlainState → PlainFact → Row → List PlainAction → Attempt (Unit {0})
prove_kept k s f same [] = unit tt
prove_kept k s f same (a ∷ more) = do
  rows ← system k s f (same ∷ []) a (action_names k s f a)
  _ ← prove_same f a (action_names k s f a) rows
  prove_kept k s f same more

abbrev pub keep : PlainRegionType → PlainState → ℕ → PlainFact → Attempt PlainState
keep k s j f = do
  same ← comparison_row (later_state s) Equal f.state Int
  _ ← prove_kept k s f same k.actions
  unit (record s { facts = slice_set s.facts j (with_state f f.state) })
