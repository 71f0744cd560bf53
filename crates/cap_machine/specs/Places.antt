-- A place in a function's body, and what remains from there. A place is the levels of the blocks that were entered, the outermost first, and
-- the index of the next statement of the innermost block.
use Rattle.std.specs.Prelude.{ℕ, zero, suc, Bool, true, false, if◌then◌else◌, List, [], ◌∷◌, Option, Some, None}
use Rattle.cap_prog.specs.Program.{Label, PlainAct, set, read, write, cas, faa, dispose, alloc, call, fork, branch, loop, check, give_back, Block, done, first, append, PlainStatement}
use Rattle.cap_machine.specs.declared.position.Level.{Level}

abbrev pub skip : ℕ → Block → Block
skip zero b = b
skip (suc i) done = done
skip (suc i) (first l a b) = skip i b

-- the block that a statement leads into: the first one of a conditional where the test is true
abbrev pub side_of : Bool → PlainAct → Block
side_of true (branch c a b) = a
side_of false (branch c a b) = b
side_of side (loop c i a) = a
side_of side (set x t) = done
side_of side (read x a) = done
side_of side (write a t) = done
side_of side (cas x a old new) = done
side_of side (faa x a t) = done
side_of side (dispose a) = done
side_of side (alloc x n) = done
side_of side (call x f args) = done
side_of side (fork f args) = done
side_of side (check c) = done
side_of side (give_back t) = done

-- the block that the first statement leads into
abbrev pub inside : Bool → Block → Block
inside side done = done
inside side (first l a b) = side_of side a

-- what follows that block: a loop stands there once more
abbrev pub behind_act : Label → PlainAct → Block → Block
behind_act l (loop c i a) b = first l (loop c i a) b
behind_act l (set x t) b = b
behind_act l (read x a) b = b
behind_act l (write a t) b = b
behind_act l (cas x a old new) b = b
behind_act l (faa x a t) b = b
behind_act l (dispose a) b = b
behind_act l (alloc x n) b = b
behind_act l (call x f args) b = b
behind_act l (fork f args) b = b
behind_act l (branch c a d) b = b
behind_act l (check c) b = b
behind_act l (give_back t) b = b

abbrev pub behind : Block → Block
behind done = done
behind (first l a b) = behind_act l a b

abbrev pub is_loop : PlainAct → Bool
is_loop (loop c i a) = true
is_loop _ = false

-- the index of that, where the first statement has this index
abbrev pub after : Block → ℕ → ℕ
after done n = n
after (first l a b) n = if is_loop a then n else suc n

-- the index of the next statement, if there is one
abbrev pub past : Block → ℕ → ℕ
past done n = n
past (first l a b) n = suc n

-- the innermost block
abbrev pub block_at : Block → List Level → Block
block_at body [] = body
block_at body (l ∷ ls) = block_at (inside l.side (skip l.index body)) ls

-- what remains: of the innermost block, and then of those around it
abbrev pub rest_at : Block → List Level → ℕ → Block
rest_at body [] next = skip next body
rest_at body (l ∷ ls) next = append (rest_at (inside l.side (skip l.index body)) ls next) (behind (skip l.index body))

-- a statement, where there is one, in front of others
abbrev pub here : Option PlainStatement → Block → Block
here None b = done
here (Some s) b = first s.label s.act b

abbrev pub IsFirst : Block → Type 0
IsFirst done = ⊥
IsFirst (first l a b) = Unit {0}

-- a block at whose end the place stands is the outermost one
abbrev pub IsSettled : Block → List Level → ℕ → Type 0
IsSettled body [] next = Unit {0}
IsSettled body (l ∷ ls) next = IsFirst (skip next (block_at body (l ∷ ls)))
