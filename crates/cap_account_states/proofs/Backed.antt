-- States with facts and pieces: what is known of them, and that what they have is held.
use Rattle.std.specs.Prelude.{◌≡◌, ◌≢◌, ℕ, ◌<◌, ◌≤◌, ℤ, List, length, slice_get, false, Some}
use Rattle.std.specs.List.{AllByRecursion}
use Rattle.cap_lin.specs.Values.{Valuation, value}
use Rattle.cap_lin.specs.declared.row.Sort.{Sort}
use Rattle.cap_lin.specs.declared.row.Sort.TheVariants.{Int}
use Rattle.cap_prog.specs.Program.{PlainProgram}
use Rattle.cap_goal_spec.specs.States.{PlainFact, PlainState}
use Rattle.cap_rules.specs.Making.{env_at}
use Rattle.cap_account_resources.specs.Parts.{Known, Table}
use Rattle.cap_account_resources.proofs.Covering.{Covered}
use Rattle.cap_account_resources.proofs.Stocks.{Stock}
use Rattle.cap_account_states.proofs.Terms.{Over}
use Rattle.cap_account_states.proofs.Meets.{Usable, Meets, need}
use Rattle.cap_account_states.proofs.Adding.{PieceOver}
use Rattle.cap_account_states.proofs.Pieces.{AllFit}
use Rattle.cap_account_states.proofs.Facts.{Facts}

-- ---- one state

abbrev pub IsFirm : PlainFact → Type 0
IsFirm f = f.loose ≡ false

-- an opened region is over usable variables, and in the table
abbrev pub IsOpened : (ℕ → Type 0) → Valuation → Table → PlainFact → Type 0
IsOpened P v T f = Over P f.region × (e : Known) × (T (value v.whole f.region) ≡ Some e)

-- cells and pieces that the state has are held
pub record Backed (p : PlainProgram) (v : Valuation) (s : PlainState) (q : Stock) : Type 0 where
  pub cells : (a z : ℤ) → need v s.cells a z ≤ q.cells a z
  pub guards : (n : ℤ) → Covered p v s.guards n (q.guards n)

-- what is known of a state without a table
pub record Grounded (p : PlainProgram) (ks : List ℕ) (v : Valuation) (s : PlainState) : Type 0 where
  pub meets : Meets ks v s
  pub pieces_over : AllByRecursion (PieceOver (Usable ks s.sorts)) s.guards
  pub pieces_fit : AllFit p s.guards

-- what is known beside `Meets`: of facts, pieces and opened regions, by a table; and what it has is
-- held
pub record Knows (p : PlainProgram) (ks : List ℕ) (v : Valuation) (T : Table) (s : PlainState)
    (q : Stock) : Type 0 where
  pub facts : Facts ks v T s
  pub pieces_over : AllByRecursion (PieceOver (Usable ks s.sorts)) s.guards
  pub pieces_fit : AllFit p s.guards
  pub opened : AllByRecursion (IsOpened (Usable ks s.sorts Int) v T) s.opened
  pub backed : Backed p v s q

-- ---- a later state

-- the second state goes on from the first, in the same frame, perhaps with more environments
pub record GoesOn (s t : PlainState) : Type 0 where
  pub sorts : (x : ℕ) (o : Sort) → slice_get s.sorts x ≡ Some o → slice_get t.sorts x ≡ Some o
  pub count : length s.sorts ≤ length t.sorts
  pub store : t.store ≡ s.store
  pub opened : t.opened ≡ s.opened
  pub before : t.before ≡ s.before
  pub envs : length s.envs ≤ length t.envs

-- all environments that were there but one stay as they are
abbrev pub OtherEnvs : ℕ → PlainState → PlainState → Type 0
OtherEnvs e s t = (x : ℕ) → x < length s.envs → x ≢ e → env_at t x ≡ env_at s x
