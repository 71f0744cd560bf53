-- What giving, taking and stability lead to, by tables and stocks.
use Rattle.std.specs.Prelude.{◌≡◌, ◌≢◌, ℕ, ◌<◌, ℤ, List, [], ◌∷◌, length, map, true, Some, None}
use Rattle.std.specs.List.{AllByRecursion}
use Rattle.cap_lin.specs.Values.{Valuation}
use Rattle.cap_lin.specs.declared.row.Sort.TheVariants.{Int}
use Rattle.cap_prog.specs.Program.{Items, PlainProgram}
use Rattle.cap_prog.specs.Scopes.{Scope}
use Rattle.cap_machine_accounts.specs.Accounts.{EachTwo}
use Rattle.cap_goal_spec.specs.States.{PlainEnv, PlainState, PlainTask, to_give, to_take, to_rest}
use Rattle.cap_goal_spec.specs.Choices.{PlainTrees}
use Rattle.cap_rules.specs.Making.{env_at}
use Rattle.cap_account_resources.specs.Parts.{known_as, Table}
use Rattle.cap_account_resources.proofs.Lists.{Among}
use Rattle.cap_account_resources.proofs.Interference.{Relies}
use Rattle.cap_account_resources.proofs.Stocks.{Stock, both, Inside, Composes}
use Rattle.cap_account_resources.proofs.Tables.{TableFits, NoneOpen, AreListed, FitsRoom, new_guards}
use Rattle.cap_account_resources.proofs.Owners.{Owner, owned, numbers_of}
use Rattle.cap_account_states.specs.Nodes.{Open}
use Rattle.cap_account_states.proofs.Terms.{Agree}
use Rattle.cap_account_states.proofs.Alike.{Alike}
use Rattle.cap_account_states.proofs.Brought.{Bring, Brought, HasHalves}
use Rattle.cap_account_states.proofs.Meets.{Usable, Old}
use Rattle.cap_account_states.proofs.Facts.{Facts}
use Rattle.cap_account_states.proofs.Items.{AreFit}
use Rattle.cap_account_states.proofs.Checked.{Checked}
use Rattle.cap_account_states.proofs.Filled.{Filled, filled_at}
use Rattle.cap_account_states.proofs.Naming.{Placed, Means, Stays, values_in}
use Rattle.cap_account_states.proofs.Matching.{Outside}
use Rattle.cap_account_states.proofs.Backed.{IsFirm, IsOpened, Backed, Grounded, GoesOn, OtherEnvs}
use Rattle.cap_account_assertions.proofs.Named.{rest_values, rest_counts, rest_children}
use Rattle.cap_account_assertions.proofs.Asserted.{DrawsAll, OwnsRegion, OwnsCase}
use Rattle.cap_account_assertions.proofs.Filling.{fill_items}
use Rattle.cap_account_assertions.proofs.GivenTrees.{given_trees}

-- ---- states and tables

-- a state that holds by a table, with an environment in which the assertion's names have a place
pub record StateAt (p : PlainProgram) (ks : List ℕ) (T : Table) (sc : Scope) (e : ℕ) (v : Valuation)
    (s : PlainState) : Type 0 where
  pub grounded : Grounded p ks v s
  pub facts : Facts ks v T s
  pub opened : AllByRecursion (IsOpened (Usable ks s.sorts Int) v T) s.opened
  pub there : e < length s.envs
  pub placed : Placed ks sc s.sorts (env_at s e)

-- the table tells so of the region, and its part has what its type says
pub record IsOwner (p : PlainProgram) (U : Table) (r : Owner) : Type 0 where
  pub known : U r.number ≡ Some (known_as r.kind r.args (Some r.state))
  pub owns : OwnsRegion p U r.number r.kind r.args r.state r.stock

-- the second table is the first with these regions
pub record Made (p : PlainProgram) (T U : Table) (new : List Owner) : Type 0 where
  pub absent : AllByRecursion (λ r. T r.number ≡ None) new
  pub differ : EachTwo (λ r s. r.number ≢ s.number) new
  pub others : (n : ℤ) → (Among n (numbers_of new) → ⊥) → U n ≡ T n
  pub owners : AllByRecursion (IsOwner p U) new

-- one region that is created: the number of the case whose items it was given, and the environment
-- of the case's names
pub record Creation : Type 0 where
  pub owner : Owner
  pub number : ℕ
  pub env : PlainEnv

-- it has its case at what the environment says at all values alike to these
abbrev pub KeepsCreated :
    PlainProgram → Table → (ℕ → Type 0) → Valuation → Creation → Type 0
KeepsCreated p U P w c =
    (x : Valuation) → Alike P w x → OwnsCase p U c.owner c.number (values_in x c.env)

-- ---- giving

-- the values are those before, and new variables' as the items are drawn
pub record Given (p : Checked) (T : Table) (e : ℕ) (v : Valuation) (total : Stock) (s : PlainState)
    (ts : List PlainTask) (goal : Filled) : Type 0 where
  pub w : Valuation
  pub after : PlainState
  pub children : PlainTrees
  pub goes : Open p.N children after ts
  pub grounded : Grounded p.program [] w after
  pub facts : Facts [] w T after
  pub firm : AllByRecursion IsFirm after.facts
  pub backed : Backed p.program w after total
  pub agree : Agree (Old s) v w
  pub filled : filled_at e w after ≡ goal
  pub goes_on : GoesOn s after
  pub others : OtherEnvs e s after

-- items that are drawn out of a part are given to a state, which then has that part beside its own
abbrev pub GivenLaw : Checked → Type 0
GivenLaw p =
    (T : Table) (sc : Scope) (e n : ℕ) (a : Valuation) (held h r : Stock) (items : Items)
    (ts : List PlainTask) (trees : PlainTrees) (v : Valuation) (s : PlainState) →
    Open p.N trees s (to_give items e n ∷ ts) → StateAt p.program [] T sc e v s →
    AllByRecursion IsFirm s.facts → Means sc v (env_at s e) a → AreFit p.program sc items →
    (d : DrawsAll p.program T a items h r) → Backed p.program v s held →
    Composes (both p.program held h) →
    Given p T e v (both p.program held h) s ts
    (fill_items p.program T a items h r d (filled_at e v s))

-- and these are the trees to which the sides that are drawn lead
pub record GivenAlong (p : Checked) (T : Table) (e : ℕ) (v : Valuation) (total : Stock)
    (s : PlainState) (ts : List PlainTask) (goal : Filled) (kids : PlainTrees) : Type 0 where
  pub given : Given p T e v total s ts goal
  pub along : given.children ≡ kids

abbrev pub GivenAlongLaw : Checked → Type 0
GivenAlongLaw p =
    (T : Table) (sc : Scope) (e n : ℕ) (a : Valuation) (held h r : Stock) (items : Items)
    (ts : List PlainTask) (trees : PlainTrees) (v : Valuation) (s : PlainState) →
    Open p.N trees s (to_give items e n ∷ ts) → StateAt p.program [] T sc e v s →
    AllByRecursion IsFirm s.facts → Means sc v (env_at s e) a → AreFit p.program sc items →
    (d : DrawsAll p.program T a items h r) → Backed p.program v s held →
    Composes (both p.program held h) →
    GivenAlong p T e v (both p.program held h) s ts
    (fill_items p.program T a items h r d (filled_at e v s))
    (given_trees p.program T a items h r d trees)

-- ---- taking

-- new variables have the values that are brought; so many regions may be created (`most`). What is
-- given has the items, and each region that is created has its case, at all values alike to the
-- present ones
pub record Taken (p : Checked) (ks : List ℕ) (T : Table) (sc : Scope) (e most : ℕ) (v : Valuation)
    (held : Stock) (s : PlainState) (items : Items) (ts : List PlainTask) : Type 0 where
  pub w : Valuation
  pub alike : Alike (Old s) v w
  pub after : PlainState
  pub brings : List Bring
  pub brought : Brought s after w brings
  pub children : PlainTrees
  pub goes : Open p.N children after ts
  pub U : Table
  pub new : List Owner
  pub made : Made p.program T U new
  pub none_made : most ≡ 0 → new ≡ []
  pub created : List Creation
  pub are_created : new ≡ map (λ c. c.owner) created
  pub keeps : AllByRecursion (KeepsCreated p.program U (Old after) w) created
  pub ready : StateAt p.program ks U sc e w after
  pub loose : AllByRecursion (λ f. f.loose ≡ true → Among f s.facts) after.facts
  pub goes_on : GoesOn s after
  pub stays : Stays sc (env_at s e) (env_at after e)
  pub outside : Outside sc (env_at s e) (env_at after e)
  pub size : length (env_at after e) ≡ length (env_at s e)
  pub others : OtherEnvs e s after
  pub given : Stock
  pub left : Stock
  pub backed : Backed p.program w after left
  pub budget :
      Inside p.program (both p.program (both p.program left given) (owned p.program new))
      (both p.program held (new_guards p.program T U))
  pub draws :
      (x : Valuation) → Alike (Old after) w x → (a : Valuation) →
      Means sc x (env_at after e) a → (r : Stock) →
      DrawsAll p.program U a items (both p.program given r) r

-- what is held is within the table's room, so that a number that is not in the table is free
abbrev pub TakenLaw : Checked → Type 0
TakenLaw p =
    (ks : List ℕ) (T : Table) (sc : Scope) (e most n : ℕ) (items : Items) (ts : List PlainTask)
    (trees : PlainTrees) (v : Valuation) (s : PlainState) (held : Stock) (bound : List ℤ) →
    Open p.N trees s (to_take items e most n ∷ ts) → StateAt p.program ks T sc e v s →
    AllByRecursion (λ k. k < length s.sorts) ks → AreFit p.program sc items →
    Backed p.program v s held → FitsRoom p.program T held → AreListed bound T →
    Taken p ks T sc e most v held s items ts

-- where each share that is halved has a half over the denominator that there is, the values are over
-- this one
pub record TakenOnce (p : Checked) (ks : List ℕ) (T : Table) (sc : Scope) (e most : ℕ)
    (v : Valuation) (held : Stock) (s : PlainState) (items : Items) (ts : List PlainTask) : Type 0
  where
    pub taken : Taken p ks T sc e most v held s items ts
    pub once : HasHalves v (length s.sorts) taken.brings → Agree (Old s) v taken.w

-- taking, over one denominator as long as there are halves
abbrev pub TakenOnceLaw : Checked → Type 0
TakenOnceLaw p =
    (ks : List ℕ) (T : Table) (sc : Scope) (e most n : ℕ) (items : Items) (ts : List PlainTask)
    (trees : PlainTrees) (v : Valuation) (s : PlainState) (held : Stock) (bound : List ℤ) →
    Open p.N trees s (to_take items e most n ∷ ts) → StateAt p.program ks T sc e v s →
    AllByRecursion (λ k. k < length s.sorts) ks → AreFit p.program sc items →
    Backed p.program v s held → FitsRoom p.program T held → AreListed bound T →
    TakenOnce p ks T sc e most v held s items ts

-- ---- what stays true

-- a full table whose room has the part, and another one that others can lead to
pub record Reached (p : PlainProgram) (T U : Table) (q : Stock) : Type 0 where
  pub fits : TableFits p T
  pub full : NoneOpen T
  pub room : FitsRoom p T q
  pub relies : Relies p q.guards T U

-- what a Rest leads to: facts hold by the table that others led to
pub record Rested (p : Checked) (U : Table) (v : Valuation) (part : Stock) (s : PlainState)
    (ts : List PlainTask) (trees : PlainTrees) : Type 0 where
  pub w : Valuation
  pub named : w ≡ rest_values U s.facts trees (length s.sorts) v
  pub after : PlainState
  pub count : length after.sorts ≡ rest_counts s.facts trees (length s.sorts)
  pub children : PlainTrees
  pub leads : children ≡ rest_children s.facts trees
  pub goes : Open p.N children after ts
  pub grounded : Grounded p.program [] w after
  pub facts : Facts [] w U after
  pub firm : AllByRecursion IsFirm after.facts
  pub backed : Backed p.program w after part
  pub agree : Agree (Old s) v w
  pub goes_on : GoesOn s after
  pub envs : after.envs ≡ s.envs

abbrev pub RestsLaw : Checked → Type 0
RestsLaw p =
    (part : Stock) (T U : Table) (n : ℕ) (ts : List PlainTask) (trees : PlainTrees) (v : Valuation)
    (s : PlainState) → Reached p.program T U part → Open p.N trees s (to_rest 0 n ∷ ts) →
    Grounded p.program [] v s → Facts [] v T s → AllByRecursion IsFirm s.facts →
    Backed p.program v s part → Rested p U v part s ts trees
