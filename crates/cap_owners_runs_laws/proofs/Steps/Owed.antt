-- What a frame owes, as a walk takes it with nothing kept: what is drawn is given up, met by the
-- fill on top, and regions that are created are made; the walk ends there.
use Rattle.std.proofs.Common.{◌≡◌, false, ◌⊎◌, ℕ, ◌+◌, ◌≤◌, ℤ, pos, List, [], ◌∷◌, ◌++◌, length, Option, refl, sym, ap, ◌∙◌, subst, arith}
use Rattle.std.specs.List.{AllByRecursion, AllZip}
use Rattle.cap_lin.specs.Values.{Valuation}
use Rattle.cap_lin.specs.declared.row.Sort.TheVariants.{Int}
use Rattle.cap_prog.specs.Program.{Items, PlainFunction, PlainProgram}
use Rattle.cap_prog.specs.Scopes.{Scope}
use Rattle.cap_prog.specs.WellFormed.{IsWellFormed}
use Rattle.cap_goal_spec.specs.States.{PlainEnv, PlainState, Home, PlainTask, to_take, goals_of}
use Rattle.cap_goal_spec.specs.Choices.{PlainTree, PlainTrees, no_trees, tree}
use Rattle.cap_rules.specs.Making.{env_at}
use Rattle.cap_machine.specs.Machine.{Heap, Frame}
use Rattle.cap_machine_accounts.specs.Assertions.{NameValue}
use Rattle.cap_account_resources.specs.Parts.{cells_of, Table}
use Rattle.cap_account_resources.proofs.Interference.{ArePartOf}
use Rattle.cap_account_resources.proofs.Monoid.{none, atom}
use Rattle.cap_account_resources.proofs.Monoid as monoid
use Rattle.cap_account_resources.proofs.Owners.{owned}
use Rattle.cap_account_resources.proofs.Room.{room}
use Rattle.cap_account_resources.proofs.Stocks.{Stock, no_stock, both, Inside, stock-laws, none-right, some-inside, inside-is, inside-trans, inside-both, inside-same}
use Rattle.cap_account_resources.proofs.Tables.{new_guards}
use Rattle.cap_account_states.specs.Nodes.{Open}
use Rattle.cap_account_states.proofs.Alike.{alike-same}
use Rattle.cap_account_states.proofs.Attempts.{env_added}
use Rattle.cap_account_states.proofs.Backed.{IsOpened}
use Rattle.cap_account_states.proofs.Checked.{Checked}
use Rattle.cap_account_states.proofs.Items.{AreFit}
use Rattle.cap_account_states.proofs.Meets.{Usable, Old, meets-env}
use Rattle.cap_account_states.proofs.Naming.{Placed, values_in, values-mean}
use Rattle.cap_account_assertions.proofs.Asserted.{DrawsAll}
use Rattle.cap_account_assertions.proofs.Laws.{StateAt, Taken}
use Rattle.cap_account_assertions.proofs.TakeSteps.{Job}
use Rattle.cap_account_assertions.proofs.TakenLaws.{job_of, start-in-room, taken-of}
use Rattle.cap_account_assertions.proofs.TreeSizes.{trees_size}
use Rattle.cap_account_steps.proofs.Frames.{Node, Roomy, HandsOver}
use Rattle.cap_account_steps.proofs.OwnNames.{at-new, there-new}
use Rattle.cap_owners_spec.specs.Traced.{traced, past_width, valuation}
use Rattle.cap_owners_spec.specs.Track.{TrackedRegion}
use Rattle.cap_owners_spec.specs.Walks.{Walk, nothing_taken, Interpreting, leaves}
use Rattle.cap_owners_walks_laws.proofs.Values.More.{FitsSort, number-fits}
use Rattle.cap_owners_walks_laws.proofs.Fills.Amounts.{items_drawn, drawn-inside, items_just, just-same}
use Rattle.cap_owners_walks_laws.proofs.Fills.Drawn.{IsMetOr, Tells}
use Rattle.cap_owners_walks_laws.proofs.Fills.Giving.{NamesFit}
use Rattle.cap_owners_walks_laws.proofs.Passes.Rests.{into}
use Rattle.cap_owners_walks_laws.proofs.Passes.Parted.{none-held}
use Rattle.cap_owners_walks_laws.proofs.Passes.Takes.{AreNameTerms, AreBelow, TakesFrom, IsTooWide, TakesTo}
use Rattle.cap_owners_walks_laws.proofs.Passes.Takings.{takes-law, free-from}
use Rattle.cap_owners_runs_laws.proofs.Steps.Making.{MadeSo}
use Rattle.cap_owners_runs_laws.proofs.Steps.Created.{created-so}

-- where no goal is left, a walk leaves its tree
leaves-there :
    (enter : Interpreting) (p : PlainProgram) (ks : PlainTrees) (w : Walk) →
    into enter p ks [] w ≡ traced (leaves w)
leaves-there enter p no_trees w = refl
leaves-there enter p (tree t ts) w = refl

-- A node at which a frame owes some items, in an environment of their names: a walk by these
-- regions is to take them at the values at which the node holds of it.
pub record Owes (p : Checked) (part : Stock) (T : Table) (rs : List TrackedRegion) : Type 0 where
  pub tells : Tells rs T
  pub low : AreBelow (pos (1 + length rs)) rs
  pub heap : Heap
  pub within : (a z : ℤ) → part.cells a z ≤ cells_of heap a z
  pub fn : PlainFunction
  pub fixed : List NameValue
  pub frame : Frame
  pub tasks : Home → List PlainTask
  pub tree : PlainTree
  pub n : Node p part T fn fixed frame tasks tree
  pub values : List NameValue
  pub valued : n.v ≡ valuation values
  pub sorted : AllZip FitsSort n.state.sorts values
  pub scope : Scope
  pub env : PlainEnv
  pub items : Items
  pub number : ℕ
  pub kids : PlainTrees
  pub placed : Placed [] scope n.state.sorts env
  pub terms : AreNameTerms n.state.sorts env
  pub fits : AreFit p.program scope items
  pub goes :
      Open p.N kids (env_added n.state env) (to_take items (length n.state.envs) 3 number ∷ [])

module _ (p : Checked) (wf : IsWellFormed p.program) (part : Stock) (T : Table)
    (roomy : Roomy p.program T part) (rs : List TrackedRegion) (o : Owes p part T rs) where
  abbrev pub e : ℕ
  e = length o.n.state.envs

  abbrev pub next : ℤ
  next = pos (1 + length rs)

  abbrev pub there : PlainState
  there = env_added o.n.state o.env

  abbrev pub job : Job
  job = job_of o.scope (length o.n.state.envs) 3 o.number o.items []

  -- its state, with an environment of the names
  state-there : StateAt p.program [] T o.scope (length o.n.state.envs) o.n.v there
  state-there = record {
    grounded = record {
      meets = meets-env [] o.n.v o.n.state there.envs o.n.grounded.meets;
      pieces_over = o.n.grounded.pieces_over;
      pieces_fit = o.n.grounded.pieces_fit;
    };
    facts = record {
      holds = o.n.facts.holds;
      over = o.n.facts.over;
      loose = o.n.facts.loose;
      differ = o.n.facts.differ;
    };
    opened =
        subst (AllByRecursion (IsOpened (Usable [] o.n.state.sorts Int) o.n.v T))
        (sym o.n.none_open) tt;
    there = there-new o.n.state o.env;
    placed = subst (Placed [] o.scope o.n.state.sorts) (sym (at-new o.n.state o.env)) o.placed;
  }

  from-there :
      TakesFrom p [] T next (room p.program T)
      job o.values o.n.v there part
      nothing_taken.part
  from-there = record {
    start =
        start-in-room p.program [] T next job o.n.v there part state-there tt o.fits
        (record { cells = o.n.backed.cells; guards = o.n.backed.guards }) roomy.room
        (free-from rs T next o.tells o.low);
    valued = o.valued;
    sorted = o.sorted;
    terms = subst (AreNameTerms o.n.state.sorts) (sym (at-new o.n.state o.env)) o.terms;
    heap = o.heap;
    cells = λ a z.
        let e = ap (λ (q : Stock). q.cells a z) none-held in
        let l = o.within a z in omega (arith, e, l);
    guards =
        subst (λ q. ArePartOf p.program q.guards (room p.program T))
        (sym (ap (λ q. both p.program q part) none-held ∙ (stock-laws p.program).zero_left part))
        roomy.room;
  }

  abbrev pub OwedTaken : Type 0
  OwedTaken =
      TakesTo p [] T next job o.kids o.values o.n.v there part nothing_taken (trees_size o.kids)

  -- it is taken so, or a walk is too wide
  pub owed-takes :
      IsTooWide p [] next job o.kids o.values there nothing_taken ⊎ OwedTaken
  owed-takes =
      takes-law p wf.regions [] (trees_size o.kids) T next (room p.program T) job o.kids o.values
      o.n.v there part nothing_taken (omega arith) o.goes from-there

  -- so a walk that begins to take it is
  pub owed-wide :
      IsTooWide p [] next job o.kids o.values
      there nothing_taken → (enter : Interpreting) (w : Walk) → w.values ≡ o.values →
      w.regions ≡ rs → w.next ≡ pos (1 + length rs) → w.taken ≡ nothing_taken ∷ [] →
      into enter p.program o.kids
      (goals_of there (to_take o.items e 3 o.number ∷ [])) w
      ≡ past_width
  owed-wide wide enter w a b c g =
      (λ i. into enter p.program o.kids (goals_of there (to_take o.items e 3 o.number ∷ []))
      (record w { values = a i; next = c i; taken = g i }))
      ∙ wide false enter w [] (subst (AreBelow next) (sym b) o.low)

  -- ---- what is taken

  module _ (t : OwedTaken) where
    abbrev pub as_taken :
        Taken p [] T o.scope e 3 o.n.v part there o.items []
    as_taken =
        (taken-of p [] T o.scope e 3 o.number o.items [] o.n.v there part next (trees_size o.kids)
        (free-from rs T next o.tells o.low) t.took).taken

    -- the values of the names
    abbrev pub named : Valuation
    named = values_in t.took.w (env_at t.took.after (length o.n.state.envs))

    abbrev pub all_drawn :
        DrawsAll p.program t.took.U
        named o.items
        (both p.program t.took.given no_stock) no_stock
    all_drawn =
        t.took.draws t.took.w (alike-same (Old t.took.after) t.took.w)
        named
        (values-mean o.scope t.took.w (env_at t.took.after (length o.n.state.envs))) no_stock

    -- what is given up
    abbrev pub given_up : Stock
    given_up =
        items_drawn p.program t.took.U
        named o.items
        (both p.program t.took.given no_stock) no_stock all_drawn

    abbrev pub just_drawn :
        DrawsAll p.program t.took.U
        named o.items given_up no_stock
    just_drawn =
        items_just p.program t.took.U named o.items (both p.program t.took.given no_stock) no_stock
        all_drawn given_up no_stock
        (inside-is p.program (both p.program given_up no_stock) given_up
        (none-right p.program given_up))

    -- it is met by the fill on top, and all of it is drawn
    pub owed-met :
        IsMetOr p.program t.took.U
        named o.items given_up no_stock
        just_drawn t.taken.fill
    owed-met =
        let w = t.took.w in
        let met = t.met w (alike-same (Old t.took.after) w) named
        (values-mean o.scope w (env_at t.took.after e)) no_stock
        (ap (λ (u : Valuation). u.fraction.under) t.valued) in
        let same = just-same p.program t.took.U named o.items (both p.program t.took.given no_stock)
        no_stock all_drawn given_up no_stock
        (inside-is p.program (both p.program given_up no_stock) given_up
        (none-right p.program given_up)) in
        record {
          names = λ some. t.names (λ e. absurd (let k = sym e ∙ some in cc));
          wildcards = same.met ∙ met.0 ∙ sym t.more_wildcards;
          facts = same.told ∙ met.1 ∙ sym t.more_facts;
        }

    pub owed-drawn :
        items_drawn p.program t.took.U
        named o.items given_up no_stock
        just_drawn
        ≡ given_up
    owed-drawn =
        (just-same p.program t.took.U named o.items (both p.program t.took.given no_stock) no_stock
        all_drawn given_up no_stock
        (inside-is p.program (both p.program given_up no_stock) given_up
        (none-right p.program given_up))).drawn

    pub owed-fits : NamesFit o.scope t.taken.fill.names
    owed-fits = t.have (λ e o x h. number-fits o (pos 0))

    owed-inside : Inside p.program given_up t.took.given
    owed-inside =
        let P = p.program in
        let given = t.took.given in
        let one = both P given_up no_stock in
        inside-trans P given_up one given
        (inside-is P given_up one (sym (none-right P given_up)))
        (inside-trans P one (both P given no_stock) given
        (drawn-inside P t.took.U named o.items (both P given no_stock) no_stock all_drawn)
        (inside-is P (both P given no_stock) given (none-right P given)))

    pub owed-budget :
        Inside p.program
        (both p.program (both p.program no_stock given_up) (owned p.program t.took.new))
        (both p.program part (new_guards p.program T t.took.U))
    owed-budget =
        let P = p.program in
        let rest = owned P t.took.new in
        let mine = both P (both P no_stock given_up) rest in
        let more = both P (both P no_stock t.took.given) rest in
        let all = both P (both P t.took.left t.took.given) rest in
        inside-trans P mine more (both P part (new_guards P T t.took.U))
        (inside-both P (both P no_stock given_up) (both P no_stock t.took.given) rest rest
        (inside-both P no_stock no_stock given_up t.took.given (inside-same P no_stock)
        owed-inside) (inside-same P rest))
        (inside-trans P more all (both P part (new_guards P T t.took.U))
        (some-inside P (t.took.left ∷ t.took.given ∷ rest ∷ [])
        (monoid.both (monoid.both none (atom 1)) (atom 2))
        (monoid.both (monoid.both (atom 0) (atom 1)) (atom 2)) (0 ∷ []) refl)
        as_taken.budget)

    -- all of the part is given up for it
    abbrev pub hands_over : HandsOver p.program T part no_stock given_up
    hands_over = record {
      U = t.took.U;
      new = t.took.new;
      made = as_taken.made;
      budget = owed-budget;
    }

    -- the regions that it makes
    pub owed-made :
        (trees : List (Option PlainTree)) → MadeSo p trees t.took.U t.took.new rs t.made
    owed-made trees =
        created-so p trees T t.took.U part (both p.program no_stock given_up) roomy t.took.new
        as_taken.made owed-budget t.took.created t.took.are_created rs t.made t.are_made
        t.took.later t.took.made.numbered

    -- a walk that takes it leaves its tree
    abbrev pub left_walk : Walk → Walk
    left_walk w = record w {
      values = t.values;
      next = t.took.later;
      taken = t.taken ∷ [];
      regions = w.regions ++ t.made;
    }

    pub owed-leaves :
        (enter : Interpreting) (w : Walk) → w.values ≡ o.values → w.regions ≡ rs →
        w.next ≡ pos (1 + length rs) → w.taken ≡ nothing_taken ∷ [] →
        into enter p.program o.kids
        (goals_of there (to_take o.items e 3 o.number ∷ [])) w
        ≡ traced (leaves (left_walk w))
    owed-leaves enter w a b c g =
        (λ i. into enter p.program o.kids (goals_of there (to_take o.items e 3 o.number ∷ []))
        (record w { values = a i; next = c i; taken = g i }))
        ∙ t.walks false enter w [] (subst (AreBelow next) (sym b) o.low)
        ∙ leaves-there enter p.program t.took.children (left_walk w)
