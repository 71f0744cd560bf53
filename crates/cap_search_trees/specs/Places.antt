-- The places of the roots of loops, and of statements by their numbers.
use Rattle.std.specs.Prelude.{ℕ, ◌==◌, List, [], ◌∷◌, ◌++◌, find, option_map, Option}
use Rattle.cap_syntax.specs.declared.place.Place.{Place}
use Rattle.cap_prog.specs.Program.{PlainAct, set, read, write, cas, faa, dispose, alloc, call, fork, branch, loop, check, give_back, Block, done, first, PlainStatement, PlainFunction}
use Rattle.cap_prog.specs.Parts.{block_statements}
use Rattle.cap_search_spec.specs.Leaves.{first_place}

-- of each loop two, in the order of the text
abbrev mutual
  pub act_places : PlainFunction → PlainAct → List Place
  act_places f (set x t) = []
  act_places f (read x a) = []
  act_places f (write a t) = []
  act_places f (cas x a old new) = []
  act_places f (faa x a t) = []
  act_places f (dispose a) = []
  act_places f (alloc x n) = []
  act_places f (call x g args) = []
  act_places f (fork g args) = []
  act_places f (branch c a b) = block_places f a ++ block_places f b
  act_places f (loop c i a) =
      first_place f i.items ∷ first_place f i.items ∷ block_places f a
  act_places f (check c) = []
  act_places f (give_back t) = []

  pub block_places : PlainFunction → Block → List Place
  block_places f done = []
  block_places f (first l a rest) = act_places f a ++ block_places f rest

-- the place of the first statement of a number
abbrev pub numbered : ℕ → List PlainStatement → Option Place
numbered n ss =
    option_map (λ (s : PlainStatement). s.label.place)
    (find (λ (s : PlainStatement). s.label.number == n) ss)

abbrev pub numbered_within : ℕ → PlainAct → Option Place
numbered_within n a = numbered n (block_statements a)
