-- Parts of what is taken out of a piece.
use Rattle.std.specs.Prelude.{ℕ, ◌+◌, ◌==◌, ◌&&◌, Bool, nat_lt, List, [], ◌++◌, length, map, take, drop}
use Rattle.cap_lin.specs.Linear.{Linear}
use Rattle.cap_lin.specs.declared.row.Sort.{Sort}
use Rattle.cap_lin.specs.declared.row.Op.TheVariants.{Eq as Equal}
use Rattle.cap_gsolve.specs.declared.piece.Form.{Form}
use Rattle.cap_gsolve.specs.declared.piece.Piece.{Piece}
use Rattle.cap_goal_spec.specs.States.{PlainEnv, PlainState, longest_list}
use Rattle.cap_rules.specs.Attempts.{Attempt, unit, ◌>>=◌, need, prove_that}
use Rattle.cap_rules.specs.Making.{value_by}
use Rattle.cap_rules.specs.Taking.{Cut, cut, with_form}

-- all of an amount, which is what a term stands for
abbrev pub all_cut : PlainState → PlainEnv → Linear → Sort → Linear → Attempt Cut
all_cut s env a o t = do
  e ← value_by env t
  _ ← prove_that s.rows a Equal e o
  unit (cut env s [])

-- these forms stand in the place of piece q, number j
abbrev pub with_left : PlainState → ℕ → Piece → List Form → PlainState
with_left s j q left =
    record s { guards = take j s.guards ++ (map (with_form q) left ++ drop (j + 1) s.guards) }

-- the piece is of this atom of guards of this type
abbrev pub is_of_part : Piece → ℕ → ℕ → Bool
is_of_part q k i = (q.kind == k) && (q.atom == i)

-- one piece more has room
abbrev pub has_room : PlainState → Attempt (Unit {0})
has_room s = need (nat_lt (length s.guards) longest_list)
