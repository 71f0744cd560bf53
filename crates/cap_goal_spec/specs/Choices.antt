-- Which rule is taken at a goal, and trees of choices.
use Rattle.std.specs.Prelude.{ℕ, List, [], ◌∷◌, ◌++◌, Option, Some, None}
use Rattle.cap_fm_spec.specs.cap_farkas.declared.cert.Cert.{Cert}

-- numbers are of cells, facts, pieces, opened regions, cases, sums and candidates from 0, and of
-- moves: 0 for none, else an action from 1; a shift names a piece for each indexed atom of its
-- action
pub data PlainChoice : Type 0 where
  by_absurd : Cert → PlainChoice
  by_clash : ℕ → ℕ → List Cert → PlainChoice
  by_set : PlainChoice
  by_alloc : PlainChoice
  by_assert : List Cert → PlainChoice
  by_if : PlainChoice
  by_loop : PlainChoice
  by_turn : PlainChoice
  by_call : PlainChoice
  by_fork : PlainChoice
  by_return : PlainChoice
  by_enter : ℕ → List Cert → PlainChoice
  by_act : ℕ → List Cert → List (Option Cert) → PlainChoice
  by_pick : ℕ → ℕ → ℕ → PlainChoice
  by_shift : List Cert → List ℕ → PlainChoice
  by_settle : List ℕ → List Cert → PlainChoice
  by_keep : List Cert → PlainChoice
  by_give : PlainChoice
  by_fact : List Cert → PlainChoice
  by_cases : PlainChoice
  by_cell : ℕ → List Cert → PlainChoice
  by_region : ℕ → List Cert → PlainChoice
  by_guard : ℕ → ℕ → List Cert → PlainChoice
  by_convert : ℕ → ℕ → List Cert → PlainChoice
  by_create : ℕ → PlainChoice
  by_made : List Cert → PlainChoice

-- the marks that are certificates
abbrev pub given_marks : List (Option Cert) → List Cert
given_marks [] = []
given_marks (None ∷ ms) = given_marks ms
given_marks (Some c ∷ ms) = c ∷ given_marks ms

-- the certificates, and after them the marks that are certificates
abbrev pub certs_of : PlainChoice → List Cert
certs_of (by_absurd c) = c ∷ []
certs_of (by_clash i j cs) = cs
certs_of (by_assert cs) = cs
certs_of (by_enter i cs) = cs
certs_of (by_act j cs ms) = cs ++ given_marks ms
certs_of (by_shift cs spans) = cs
certs_of (by_settle list cs) = cs
certs_of (by_keep cs) = cs
certs_of (by_fact cs) = cs
certs_of (by_cell j cs) = cs
certs_of (by_region j cs) = cs
certs_of (by_guard j way cs) = cs
certs_of (by_convert n side cs) = cs
certs_of (by_made cs) = cs
certs_of _ = []

-- with these certificates in place of its own; an absurdity and an act stay as they are
abbrev pub with_certs : PlainChoice → List Cert → PlainChoice
with_certs (by_clash i j old) cs = by_clash i j cs
with_certs (by_assert old) cs = by_assert cs
with_certs (by_enter i old) cs = by_enter i cs
with_certs (by_shift old spans) cs = by_shift cs spans
with_certs (by_settle list old) cs = by_settle list cs
with_certs (by_keep old) cs = by_keep cs
with_certs (by_fact old) cs = by_fact cs
with_certs (by_cell j old) cs = by_cell j cs
with_certs (by_region j old) cs = by_region j cs
with_certs (by_guard j way old) cs = by_guard j way cs
with_certs (by_convert n side old) cs = by_convert n side cs
with_certs (by_made old) cs = by_made cs
with_certs c cs = c

-- a choice, and a tree for each of its subgoals
mutual
  pub data PlainTree : Type 0 where
    node : PlainChoice → PlainTrees → PlainTree

  pub data PlainTrees : Type 0 where
    no_trees : PlainTrees
    tree : PlainTree → PlainTrees → PlainTrees
