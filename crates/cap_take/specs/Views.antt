-- What contracts see of a cell.
use Rattle.std.specs.Borrow.{Bor}
use Rattle.cap_lin.specs.Linear.{Linear}

-- a cell that is lent
abbrev pub cell_view : Bor (Linear × Linear) → Linear × Linear
cell_view c = c.now
