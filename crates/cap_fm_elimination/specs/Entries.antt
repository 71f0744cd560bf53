-- A row that is present in an elimination, together with its term.
use Rattle.std.specs.Prelude.{ℕ}
use Rattle.cap_lin.specs.Linear.{Linear}
use Rattle.cap_lin.specs.declared.row.Kind.{Kind}

-- its place in the history, and its number among the rows that arose
pub record Entry : Type 0 where
  pub term : Linear
  pub kind : Kind
  pub origin : ℕ
  pub number : ℕ
