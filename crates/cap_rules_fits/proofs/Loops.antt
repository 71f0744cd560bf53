-- The loops of a body that fits.
use Rattle.std.proofs.Common.{List, []}
use Rattle.std.specs.List.{AllByRecursion}
use Rattle.cap_fm_spec.proofs.Lists.{each-left, each-right, each-join}
use Rattle.cap_prog.specs.Program.{Label, PlainAct, set, read, write, cas, faa, dispose, alloc, call, fork, branch, loop, check, give_back, Block, done, first, append, PlainFunction, PlainProgram, PlainStatement}
use Rattle.cap_prog.specs.Parts.{block_statements, all_statements}
use Rattle.cap_prog.specs.Scopes.{invariant_scope}
use Rattle.cap_prog.specs.WellFormed.{ActFits, AssertionFits, IsClosingReturn, EndsInReturn}
use Rattle.cap_goal_spec.specs.Roots.{LoopPoint, loops_of, loops_in}
use Rattle.cap_goal_spec.specs.Fits.{StartsWithLoop}

abbrev pub Fit : PlainProgram → PlainFunction → List PlainStatement → Type 0
Fit p f ss = AllByRecursion (λ s. ActFits p f s.act) ss

pub record LoopFits (p : PlainProgram) (f : PlainFunction) (w : LoopPoint) : Type 0 where
  pub invariant : AssertionFits p f (invariant_scope f w.invariant.names) w.invariant
  pub statements : Fit p f (all_statements w.block)
  pub closing : EndsInReturn w.block
  pub starts : StartsWithLoop w.block

-- ---- the closing return

pub ends-more : (l : Label) (s : PlainAct) (b : Block) → EndsInReturn b → EndsInReturn (first l s b)
ends-more l s done h = absurd h
ends-more l s (first k t b) h = h

pub ends-before : (a b : Block) → EndsInReturn b → EndsInReturn (append a b)
ends-before done b h = h
ends-before (first l s a) b h = ends-more l s (append a b) (ends-before a b h)

pub ends-behind : (l : Label) (s : PlainAct) (b : Block) → (IsClosingReturn s → ⊥) → EndsInReturn (first l s b) → EndsInReturn b
ends-behind l s done n h = absurd (n h)
ends-behind l s (first k t b) n h = h

-- ---- statements that run one block after another

pub fit-append : (p : PlainProgram) (f : PlainFunction) (a b : Block) → Fit p f (all_statements a) → Fit p f (all_statements b) → Fit p f (all_statements (append a b))
fit-append p f done b h k = k
fit-append p f (first l s a) b h k =
    (h.0, each-join _ (block_statements s) (all_statements (append a b)) (each-left _ (block_statements s) (all_statements a) h.1) (fit-append p f a b (each-right _ (block_statements s) (all_statements a) h.1) k))

mutual
  pub act-loops : (p : PlainProgram) (f : PlainFunction) (s : PlainAct) (l : Label) (b : Block) → ActFits p f s → Fit p f (block_statements s) → Fit p f (all_statements b) → EndsInReturn (first l s b) → AllByRecursion (LoopFits p f) (loops_of s l b)
  act-loops p f (set x t) l b g h k e = tt
  act-loops p f (read x a) l b g h k e = tt
  act-loops p f (write a t) l b g h k e = tt
  act-loops p f (cas x a old new) l b g h k e = tt
  act-loops p f (faa x a t) l b g h k e = tt
  act-loops p f (dispose a) l b g h k e = tt
  act-loops p f (alloc x n) l b g h k e = tt
  act-loops p f (call x n args) l b g h k e = tt
  act-loops p f (fork n args) l b g h k e = tt
  act-loops p f (branch c here_block there_block) l b g h k e =
      let ends : EndsInReturn b = ends-behind l (branch c here_block there_block) b (λ z. z) e in
      each-join _ (loops_in here_block b) (loops_in there_block b) (block-loops p f here_block b (each-left _ (all_statements here_block) (all_statements there_block) h) k (ends-before here_block b ends)) (block-loops p f there_block b (each-right _ (all_statements here_block) (all_statements there_block) h) k (ends-before there_block b ends))
  act-loops p f (loop c i a) l b g h k e =
      let here : Fit p f (all_statements (first l (loop c i a) b)) = (g, each-join _ (all_statements a) (all_statements b) h k) in
      (record { invariant = g.1; statements = here; closing = e; starts = tt }, block-loops p f a (first l (loop c i a) b) h here (ends-before a (first l (loop c i a) b) e))
  act-loops p f (check c) l b g h k e = tt
  act-loops p f (give_back t) l b g h k e = tt

  pub block-loops : (p : PlainProgram) (f : PlainFunction) (a b : Block) → Fit p f (all_statements a) → Fit p f (all_statements b) → EndsInReturn (append a b) → AllByRecursion (LoopFits p f) (loops_in a b)
  block-loops p f done b h k e = tt
  block-loops p f (first l s done) b h k e =
      each-join _ (loops_of s l b) [] (act-loops p f s l b h.0 (each-left _ (block_statements s) [] h.1) k e) tt
  block-loops p f (first l s (first m t a)) b h k e =
      let rest : Fit p f (all_statements (first m t a)) = each-right _ (block_statements s) (all_statements (first m t a)) h.1 in
      each-join _ (loops_of s l (append (first m t a) b)) (loops_in (first m t a) b) (act-loops p f s l (append (first m t a) b) h.0 (each-left _ (block_statements s) (all_statements (first m t a)) h.1) (fit-append p f (first m t a) b rest k) e) (block-loops p f (first m t a) b rest k e)
