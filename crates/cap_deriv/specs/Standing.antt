-- Where a cursor stands.
use Rattle.std.specs.Prelude.{ℕ, List, Option}
use Rattle.cap_deriv.specs.declared.cursor.Ended.{Ended}

-- the number of trees, how many nodes were told, how it ended, and the bytes that are left
pub record Standing : Type 0 where
  pub trees : ℕ
  pub nodes : ℕ
  pub ended : Option Ended
  pub rest : List ℕ
