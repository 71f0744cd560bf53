-- What a statement does to a cell.
use Rattle.std.specs.Prelude.{ℕ, List, [], ◌∷◌, Option, Some, None}
use Rattle.cap_lin.specs.Linear.{Linear}
use Rattle.cap_prog.specs.Program.{PlainAct, read, write, cas, faa, dispose}
use Rattle.cap_rules_steps.specs.cap_goal_spec.States.{PlainState}
use Rattle.cap_rules_steps.specs.cap_rules.Attempts.{Attempt, unit, ◌>>=◌, not_applicable}
use Rattle.cap_rules_steps.specs.cap_rules.Making.{with_local}
use Rattle.cap_open_acts.specs.declared.acting.HeapAct.{HeapAct}
use Rattle.cap_open_acts.specs.declared.acting.HeapAct.TheVariants.{Read, Write, Cas, Faa, Dispose}
use Rattle.cap_open_acts.specs.Steps.{written, swapped, added, disposed}

-- it reads it into a local, writes a term's value, swaps a new value in for an old one, reads it into
-- a local and adds a value, or disposes of it
pub data CellAct : Type 0 where
  reads : ℕ → CellAct
  writes : Linear → CellAct
  swaps : ℕ → Linear → Linear → CellAct
  adds : ℕ → Linear → CellAct
  disposes : CellAct

abbrev pub heap_act_view : HeapAct → CellAct
heap_act_view (Read x) = reads x
heap_act_view (Write t) = writes t.now
heap_act_view (Cas x old new) = swaps x old.now new.now
heap_act_view (Faa x t) = adds x t.now
heap_act_view Dispose = disposes

abbrev pub heap_act_of : PlainAct → Option CellAct
heap_act_of (read x a) = Some (reads x)
heap_act_of (write a t) = Some (writes t)
heap_act_of (cas x a old new) = Some (swaps x old new)
heap_act_of (faa x a t) = Some (adds x t)
heap_act_of (dispose a) = Some disposes
heap_act_of a = None

-- the states after it, on cell c, number j
abbrev pub heap_acted : PlainState → ℕ → Linear × Linear → CellAct → Attempt (List PlainState)
heap_acted s j c (reads x) = unit (with_local s x c.1 ∷ [])
heap_acted s j c (writes t) = written s j c t >>= λ s'. unit (s' ∷ [])
heap_acted s j c (swaps x old new) = swapped s j c x old new
heap_acted s j c (adds x t) = added s j c x t >>= λ s'. unit (s' ∷ [])
heap_acted s j c disposes = unit (disposed s j ∷ [])

abbrev pub heap_acted_if :
    PlainState → ℕ → Linear × Linear → Option CellAct → Attempt (List PlainState)
heap_acted_if s j c None = not_applicable
heap_acted_if s j c (Some a) = heap_acted s j c a
