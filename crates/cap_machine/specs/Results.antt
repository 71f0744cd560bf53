-- The results on the way of a step, in their order: products and sums of the terms that its statement evaluates, and then the sum that it
-- stores or the last address of what it allocates.
use Rattle.std.specs.Prelude.{ℕ, ◌-◌, ℤ, pos, Bool, is_none, List, [], ◌∷◌, ◌++◌, Option, Some, None, slice_get}
use Rattle.std.specs.FinMap.{get}
use Rattle.cap_lin.specs.Linear.{Linear}
use Rattle.cap_lin.specs.Values.{number_at}
use Rattle.cap_lin.specs.Steps.{Step, sum_of, first_wide, value_steps}
use Rattle.cap_prog.specs.declared.assertion.Comp.{Comp}
use Rattle.cap_prog.specs.Program.{PlainAct, set, read, write, cas, faa, dispose, alloc, call, fork, branch, loop, check, give_back, Block, done, first}
use Rattle.cap_machine.specs.declared.event.Entry.{Entry}
use Rattle.cap_machine.specs.Machine.{Heap, Frame, Configuration, value_in, top_frame}

abbrev pub term_steps : List ℤ → Linear → List Step
term_steps store t = value_steps (number_at store) t.constant t.parts

abbrev pub terms_steps : List ℤ → List Linear → List Step
terms_steps store [] = []
terms_steps store (t ∷ ts) = term_steps store t ++ terms_steps store ts

abbrev pub comparison_steps : List ℤ → Comp → List Step
comparison_steps store c = term_steps store c.left ++ term_steps store c.right

abbrev pub allocation_steps : ℕ → Option ℤ → List Step
allocation_steps n None = []
allocation_steps n (Some base) = sum_of base (pos (n - 1)) ∷ []

-- the sum of what a cell holds and what is added; where the cell is absent there is none
abbrev pub addition_steps : Option ℤ → ℤ → List Step
addition_steps None added = []
addition_steps (Some v) added = sum_of v added ∷ []

abbrev pub act_steps : Heap → List ℤ → PlainAct → Option ℤ → List Step
act_steps heap store (set x t) base = term_steps store t
act_steps heap store (read x a) base = term_steps store a
act_steps heap store (write a t) base = term_steps store a ++ term_steps store t
act_steps heap store (cas x a old new) base = term_steps store a ++ (term_steps store old ++ term_steps store new)
act_steps heap store (faa x a t) base =
    term_steps store a ++ (term_steps store t ++ addition_steps (get heap (value_in store a)) (value_in store t))
act_steps heap store (dispose a) base = term_steps store a
act_steps heap store (alloc x n) base = allocation_steps n base
act_steps heap store (call x n args) base = terms_steps store args
act_steps heap store (fork n args) base = terms_steps store args
act_steps heap store (branch c a b) base = comparison_steps store c
act_steps heap store (loop c i a) base = comparison_steps store c
act_steps heap store (check c) base = comparison_steps store c
act_steps heap store (give_back t) base = term_steps store t

abbrev pub block_steps : Heap → List ℤ → Option ℤ → Block → List Step
block_steps heap store base done = []
block_steps heap store base (first l a rest) = act_steps heap store a base

abbrev pub frame_steps : Heap → Option ℤ → Option Frame → List Step
frame_steps heap base None = []
frame_steps heap base (Some f) = block_steps heap f.store base f.rest

-- of the thread's next statement
abbrev pub entry_steps : Configuration → Entry → List Step
entry_steps c e = frame_steps c.heap e.base (top_frame (slice_get c.threads e.thread))

-- each result is within 128 bits
abbrev pub are_narrow : List Step → Bool
are_narrow steps = is_none (first_wide steps)
