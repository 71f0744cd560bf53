-- Statements in lists.
use Rattle.std.proofs.Common.{◌≡◌, List, [], ◌∷◌, ◌++◌, refl, ap}
use Rattle.std.specs.Borrow.{Bor}
use Rattle.cap_prog.specs.declared.function.Statement.{Statement}
use Rattle.cap_prog.specs.Program.{Block, done, first, append}
use Rattle.cap_prog.specs.Views.{block_view}
use Rattle.cap_goal.specs.Views.{block_in}

-- the statements of the last list run first
pub block_in_more : (ls : List (Bor (List Statement))) (l : Bor (List Statement)) (after : Block) → block_in (ls ++ (l ∷ [])) after ≡ append (block_view l.now) (block_in ls after)
block_in_more [] l after = refl
block_in_more (k ∷ ls) l after = block_in_more ls l (append (block_view k.now) after)

pub append_done : (b : Block) → append b done ≡ b
append_done done = refl
append_done (first l s b) = ap (first l s) (append_done b)
