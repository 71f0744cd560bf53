-- Parts of the changes of a state's facts and guards, and the names of a case.
use Rattle.std.specs.Prelude.{ℕ, List, [], ◌∷◌, map, length, remove, if◌then◌else◌, Option, Some, None}
use Rattle.std.specs.List.{range_with_len}
use Rattle.cap_lin.specs.Linear.{Linear}
use Rattle.cap_gsolve.specs.declared.piece.Piece.{Piece}
use Rattle.cap_gsolve.specs.Merge.{place}
use Rattle.cap_prog.specs.Program.{PlainCase, PlainRegionType}
use Rattle.cap_rules_steps.specs.cap_goal_spec.States.{PlainFact, PlainEnv, PlainState}
use Rattle.cap_rules_steps.specs.cap_goal_spec.Environments.{is_bound_by}
use Rattle.cap_rules_steps.specs.cap_rules.Attempts.{Attempt, unit, ◌>>=◌, appended}
use Rattle.cap_rules_steps.specs.cap_rules.Making.{guards_with}

-- a fact more, as the last
abbrev pub with_last_fact : PlainState → PlainFact → Attempt PlainState
with_last_fact s f = do
  facts ← appended s.facts f
  unit (record s { facts = facts })

-- a piece more, as the last
abbrev pub with_last_piece : PlainState → Piece → Attempt PlainState
with_last_piece s q = do
  guards ← appended s.guards q
  unit (record s { guards = guards })

-- without the member of a place, if there is one
abbrev pub without_place : {A : Type 0} → Option ℕ → List A → List A
without_place None xs = xs
without_place (Some i) xs = remove xs i

-- a piece is composed with that of its part, or is the last
abbrev pub with_merged : PlainState → Piece → Attempt PlainState
with_merged s q = do
  guards ← guards_with s.guards q (place s.guards q)
  unit (record s { guards = guards })

-- names of the case with a binding position are unbound, and the others have this term, if there
-- is one
abbrev pub names_given : PlainRegionType → PlainCase → Option Linear → PlainEnv
names_given k c other =
    map (λ x. if is_bound_by x c.items then None else other)
    (range_with_len k.params (length c.names))
