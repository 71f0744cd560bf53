-- A walk over a Take: items are taken one after the other, and regions are created. It comes to the
-- goals to which taking leads, at the values at which the state holds there. On top of what is
-- taken is then by what the items are met, and what they own.
use Rattle.std.proofs.Common.{◌≡◌, ◌⊎◌, inl, inr, ℕ, ◌+◌, ◌-◌, ◌<◌, ◌≤◌, ℤ, ◌<ℤ◌, pos, ◌+ℤ◌, Bool, true, List, ◌∷◌, ◌++◌, length, Option, Some, None, refl, sym, ap, ◌∙◌, arith}
use Rattle.std.specs.Prelude.{slice_get, IsSomeAnd}
use Rattle.std.specs.List.{AllByRecursion, AllZip}
use Rattle.cap_lin.specs.Linear.{Linear}
use Rattle.cap_lin.specs.Values.{Valuation}
use Rattle.cap_lin.specs.declared.row.Sort.{Sort}
use Rattle.cap_lin.specs.declared.row.Sort.TheVariants.{Int}
use Rattle.cap_prog.specs.Program.{PlainProgram}
use Rattle.cap_prog.specs.Scopes.{Scope, region_scope}
use Rattle.cap_goal_spec.specs.Terms.{lone_variable}
use Rattle.cap_goal_spec.specs.States.{PlainEnv, PlainState, goals_of}
use Rattle.cap_goal_spec.specs.Environments.{term_of}
use Rattle.cap_goal_spec.specs.Choices.{PlainTrees}
use Rattle.cap_rules.specs.Making.{env_at}
use Rattle.cap_machine.specs.Machine.{Heap}
use Rattle.cap_machine_accounts.specs.Parts.{Part}
use Rattle.cap_machine_accounts.specs.Assertions.{NameValue}
use Rattle.cap_account_resources.specs.Parts.{cells_of, Table}
use Rattle.cap_account_resources.proofs.Interference.{Holding, ArePartOf}
use Rattle.cap_account_resources.proofs.Stocks.{Stock, both}
use Rattle.cap_account_resources.proofs.Owners.{Owner}
use Rattle.cap_account_states.specs.Nodes.{Open}
use Rattle.cap_account_states.proofs.Alike.{Alike}
use Rattle.cap_account_states.proofs.Checked.{Checked}
use Rattle.cap_account_states.proofs.Meets.{Old}
use Rattle.cap_account_states.proofs.Naming.{Means, values_in}
use Rattle.cap_account_states.proofs.Terms.{Over, vars-more}
use Rattle.cap_account_assertions.proofs.Asserted.{OwnsCase}
use Rattle.cap_account_assertions.proofs.Laws.{Creation}
use Rattle.cap_account_assertions.proofs.TreeSizes.{trees_size}
use Rattle.cap_account_assertions.proofs.TakeSteps.{Job, tasks_of, TakeStart, Took}
use Rattle.cap_account.proofs.Stocked.{part_stock}
use Rattle.cap_owners_spec.specs.Traced.{Traced, past_width, over, valuation}
use Rattle.cap_owners_spec.specs.Track.{TrackedRegion}
use Rattle.cap_owners_spec.specs.Walks.{Taking, Walk, no_items, Interpreting, Halt}
use Rattle.cap_owners_walks_laws.proofs.Fills.Drawn.{items_met, items_told, IsMetBy}
use Rattle.cap_owners_walks_laws.proofs.Fills.Giving.{NamesFit}
use Rattle.cap_owners_walks_laws.proofs.Passes.Names.{SharesBound, NamesShare}
use Rattle.cap_owners_walks_laws.proofs.Passes.Bindings.{Binds}
use Rattle.cap_owners_walks_laws.proofs.Passes.Rests.{walks_into}
use Rattle.cap_owners_walks_laws.proofs.Values.More.{FitsSort}

-- ---- names

-- a name stands for a variable alone, or for a whole number
abbrev pub IsNameTerm : List Sort → Linear → Type 0
IsNameTerm sorts t =
    IsSomeAnd (lone_variable t) (λ x. x < length sorts)
    ⊎ Over (λ x. slice_get sorts x ≡ Some Int) t

abbrev pub AreNameTerms : List Sort → PlainEnv → Type 0
AreNameTerms sorts env =
    (x : ℕ) (t : Linear) → term_of env x ≡ Some t → IsNameTerm sorts t

-- a name's term is one with more variables
pub more-term :
    (os us : List Sort) →
    ((x : ℕ) (o : Sort) → slice_get os x ≡ Some o → slice_get us x ≡ Some o) →
    length os ≤ length us → (t : Linear) → IsNameTerm os t → IsNameTerm us t
more-term os us more le t (inr h) =
    inr (vars-more (λ x. slice_get os x ≡ Some Int) (λ x. slice_get us x ≡ Some Int)
    (λ x e. more x Int e) t.parts h)
more-term os us more le t (inl h) = inl (by (lone_variable t) h)
  where
    by :
        (m : Option ℕ) → IsSomeAnd m (λ x. x < length os) → IsSomeAnd m (λ x. x < length us)
    by None h = h
    by (Some x) h = omega (arith, h, le)

-- ---- regions that are created

abbrev pub owner_of : TrackedRegion → Owner
owner_of r = record {
  number = r.owned.region.number;
  kind = r.owned.region.kind;
  args = r.owned.region.args;
  state = r.owned.region.state;
  stock = part_stock r.owned.part;
}

-- a region that was created has its case by what the track says
pub record IsTracked (p : PlainProgram) (U : Table) (c : Creation) (r : TrackedRegion) : Type 0
  where
    pub owner : c.owner ≡ owner_of r
    pub number : c.number ≡ r.case
    pub own : OwnsCase p U (owner_of r) r.case (valuation r.fill.names)
    pub met :
        IsMetBy p U own.0.values own.0.case.items (part_stock r.owned.part) own.0.met.0 own.0.met.1
        r.fill
    pub fits : NamesFit (region_scope own.0.type own.0.case.names) r.fill.names
    pub size : length r.fill.names ≡ own.0.type.params + length own.0.case.names

-- there is a value for each name, and a share for each that is bound and is one
abbrev pub HasShares : Scope → PlainEnv → List NameValue → Type 0
HasShares sc env ns = (length ns ≡ length env) × NamesShare sc env ns

-- all numbers are below this one
abbrev pub AreBelow : ℤ → List TrackedRegion → Type 0
AreBelow next rs = AllByRecursion (λ r. r.owned.region.number <ℤ next) rs

-- where regions may be created they are numbered from here on
abbrev pub IsNumbered : ℕ → ℤ → Walk → Type 0
IsNumbered most next w = 0 < most → (w.next ≡ next) × AreBelow next w.regions

-- ---- what is taken

module _ (p : Checked) (ks : List ℕ) where
  -- what it starts from, beside soundness's start, at these values and with so much taken already
  pub record TakesFrom (T : Table) (next : ℤ) (lim : Holding) (j : Job) (vs : List NameValue)
      (v : Valuation) (s : PlainState) (c : Stock) (q : Part) : Type 0 where
    pub start : TakeStart p.program ks T next lim j v s c
    pub valued : v ≡ valuation vs
    pub sorted : AllZip FitsSort s.sorts vs
    pub terms : AreNameTerms s.sorts (env_at s j.env)
    pub heap : Heap
    pub cells : (a z : ℤ) → cells_of q.cells a z + c.cells a z ≤ cells_of heap a z
    pub guards : ArePartOf p.program (both p.program (part_stock q) c).guards lim

  -- a walk that is to take these items, with what is taken on top
  abbrev pub taking_from : ℤ → List NameValue → Taking → List Taking → Walk → Walk
  taking_from next vs top rest w = record w { values = vs; next = next; taken = top ∷ rest }

  abbrev pub Taking_into :
      Bool → Interpreting → Job → PlainTrees → PlainState → Walk → Traced Halt
  Taking_into seating enter j trees s w =
      walks_into seating enter p.program trees (goals_of s (tasks_of j)) w

  -- a number on the way is too wide
  abbrev pub IsTooWide :
      ℤ → Job → PlainTrees → List NameValue → PlainState → Taking → Type 0
  IsTooWide next j trees vs s top =
      (seating : Bool) (enter : Interpreting) (w : Walk) (rest : List Taking) → AreBelow next w.regions →
      Taking_into seating enter j trees s (taking_from next vs top rest w) ≡ past_width

  -- a walk that is to take these items, whichever number a region of its would get
  abbrev pub taking_on : List NameValue → Taking → List Taking → Walk → Walk
  taking_on vs top rest w = record w { values = vs; taken = top ∷ rest }

  abbrev pub IsWide :
      ℤ → Job → PlainTrees → List NameValue → PlainState → Taking → Type 0
  IsWide next j trees vs s top =
      (seating : Bool) (enter : Interpreting) (w : Walk) (rest : List Taking) → IsNumbered j.most next w →
      Taking_into seating enter j trees s (taking_on vs top rest w) ≡ past_width

  -- one is where the other is, if regions may be created
  pub wide-on :
      (next : ℤ) (j : Job) (trees : PlainTrees) (vs : List NameValue) (s : PlainState)
      (top : Taking) → IsWide next j trees vs s top → IsTooWide next j trees vs s top
  wide-on next j trees vs s top wide seating enter w rest below =
      wide seating enter (record w { next = next }) rest (λ l. (refl, below))

  pub either-on :
      (next : ℤ) (j : Job) (trees : PlainTrees) (vs : List NameValue) (s : PlainState)
      (top : Taking) {A : Type 0} → IsWide next j trees vs s top ⊎ A →
      IsTooWide next j trees vs s top ⊎ A
  either-on next j trees vs s top (inl wide) = inl (wide-on next j trees vs s top wide)
  either-on next j trees vs s top (inr x) = inr x

  pub wide-at :
      (next : ℤ) (j : Job) (trees : PlainTrees) (vs : List NameValue) (s : PlainState)
      (top : Taking) → 0 < j.most → IsTooWide next j trees vs s top → IsWide next j trees vs s top
  wide-at next j trees vs s top some wide seating enter w rest numbered =
      let n = numbered some in
      (λ i. Taking_into seating enter j trees s
      (record w { values = vs; next = n.0 i; taken = top ∷ rest }))
      ∙ wide seating enter w rest n.1

  pub either-at :
      (next : ℤ) (j : Job) (trees : PlainTrees) (vs : List NameValue) (s : PlainState)
      (top : Taking) {A : Type 0} → 0 < j.most → IsTooWide next j trees vs s top ⊎ A →
      IsWide next j trees vs s top ⊎ A
  either-at next j trees vs s top some (inl wide) =
      inl (wide-at next j trees vs s top some wide)
  either-at next j trees vs s top some (inr x) = inr x

  -- it comes to these trees and this state, at these values and with this on top, whichever number a
  -- region of its would get
  abbrev pub AlongTo :
      ℤ → Job → PlainTrees → List NameValue → PlainState → Taking → PlainTrees → PlainState →
      List NameValue → Taking → List TrackedRegion → Type 0
  AlongTo next j trees vs s top children after values taken made =
      (seating : Bool) (enter : Interpreting) (w : Walk) (rest : List Taking) → IsNumbered j.most next w →
      Taking_into seating enter j trees s (taking_on vs top rest w)
      ≡ walks_into seating enter p.program children (goals_of after j.tasks) (record w {
        values = values;
        next = w.next +ℤ pos (length made);
        taken = taken ∷ rest;
        regions = w.regions ++ made;
      })

  -- and so where the next region has this number
  abbrev pub WalksTo :
      ℤ → Job → PlainTrees → List NameValue → PlainState → Taking → PlainTrees → PlainState →
      List NameValue → ℤ → Taking → List TrackedRegion → Type 0
  WalksTo next j trees vs s top children after values later taken made =
      (seating : Bool) (enter : Interpreting) (w : Walk) (rest : List Taking) → AreBelow next w.regions →
      Taking_into seating enter j trees s (taking_from next vs top rest w)
      ≡ walks_into seating enter p.program children (goals_of after j.tasks) (record w {
        values = values;
        next = later;
        taken = taken ∷ rest;
        regions = w.regions ++ made;
      })

  -- one is the other, if regions may be created
  pub along-at :
      (next later : ℤ) (j : Job) (trees : PlainTrees) (vs : List NameValue) (s : PlainState)
      (top : Taking) (children : PlainTrees) (after : PlainState) (values : List NameValue)
      (taken : Taking) (made : List TrackedRegion) → 0 < j.most →
      later ≡ next +ℤ pos (length made) →
      WalksTo next j trees vs s top children after values later taken made →
      AlongTo next j trees vs s top children after values taken made
  along-at next later j trees vs s top children after values taken made some counted walks
      seating enter w rest numbered =
      let n = numbered some in
      let same : later ≡ w.next +ℤ pos (length made) =
      counted ∙ ap (λ m. m +ℤ pos (length made)) (sym n.0) in
      (λ i. Taking_into seating enter j trees s
      (record w { values = vs; next = n.0 i; taken = top ∷ rest }))
      ∙ walks seating enter w rest n.1
      ∙ (λ i. walks_into seating enter p.program children (goals_of after j.tasks) (record w {
        values = values;
        next = same i;
        taken = taken ∷ rest;
        regions = w.regions ++ made;
      }))

  -- The items are taken so, by soundness's law, at these values. By what they are met at all values
  -- alike to these is on top then, with what they own, and its names' values are of their sorts; where
  -- there are none its names stay as they are. Each region that was created stands behind the walk's, as it is tracked.
  pub record TakesTo (T : Table) (next : ℤ) (j : Job) (trees : PlainTrees) (vs : List NameValue)
      (v : Valuation) (s : PlainState) (c : Stock) (top : Taking) (most_trees : ℕ) : Type 0 where
    pub took : Took p ks T next j v s c most_trees
    pub values : List NameValue
    pub valued : took.w ≡ valuation values
    pub sorted : AllZip FitsSort took.after.sorts values
    pub terms : AreNameTerms took.after.sorts (env_at took.after j.env)
    pub taken : Taking
    pub names :
        (no_items j.items ≡ true → values_in v (env_at s j.env) ≡ valuation top.fill.names) →
        values_in took.w (env_at took.after j.env) ≡ valuation taken.fill.names
    pub have :
        (no_items j.items ≡ true → NamesFit j.scope top.fill.names) →
        NamesFit j.scope taken.fill.names
    pub grows : (ws : List NameValue) × (values ≡ vs ++ ws)
    pub binds : Binds j.scope j.items (env_at took.after j.env)
    pub shaped :
        SharesBound j.scope vs (env_at s j.env) →
        SharesBound j.scope values (env_at took.after j.env)
        × ((no_items j.items ≡ true → HasShares j.scope (env_at s j.env) top.fill.names) →
        HasShares j.scope (env_at took.after j.env) taken.fill.names)
    pub wildcards : List NameValue
    pub facts : List (ℤ × ℤ)
    pub more_wildcards : taken.fill.wildcards ≡ top.fill.wildcards ++ wildcards
    pub more_facts : taken.fill.facts ≡ top.fill.facts ++ facts
    pub met :
        (x : Valuation) (l : Alike (Old took.after) took.w x) (a : Valuation)
        (m : Means j.scope x (env_at took.after j.env) a) (r : Stock) →
        a.fraction.under ≡ over - 1 →
        (items_met p.program took.U a j.items (both p.program took.given r) r
        (took.draws x l a m r) ≡ wildcards)
        × (items_told p.program took.U a j.items (both p.program took.given r) r
        (took.draws x l a m r) ≡ facts)
    pub part : part_stock taken.part ≡ both p.program (part_stock top.part) took.given
    pub made : List TrackedRegion
    pub are_made : AllZip (IsTracked p.program took.U) took.created made
    pub counted : took.later ≡ next +ℤ pos (length made)
    pub along : AlongTo next j trees vs s top took.children took.after values taken made
    pub walks :
        WalksTo next j trees vs s top took.children took.after values took.later taken made

  -- so it is, or a walk is too wide
  abbrev pub AlongLaw : ℕ → Type 0
  AlongLaw most_trees =
      (T : Table) (next : ℤ) (lim : Holding) (j : Job) (trees : PlainTrees) (vs : List NameValue)
      (v : Valuation) (s : PlainState) (c : Stock) (top : Taking) → trees_size trees ≤ most_trees →
      Open p.N trees s (tasks_of j) → TakesFrom T next lim j vs v s c top.part →
      IsWide next j trees vs s top ⊎ TakesTo T next j trees vs v s c top most_trees

  -- of walks that have this number for the next region
  abbrev pub TakesLaw : ℕ → Type 0
  TakesLaw most_trees =
      (T : Table) (next : ℤ) (lim : Holding) (j : Job) (trees : PlainTrees) (vs : List NameValue)
      (v : Valuation) (s : PlainState) (c : Stock) (top : Taking) → trees_size trees ≤ most_trees →
      Open p.N trees s (tasks_of j) → TakesFrom T next lim j vs v s c top.part →
      IsTooWide next j trees vs s top ⊎ TakesTo T next j trees vs v s c top most_trees
