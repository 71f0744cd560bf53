-- What a callee requires, as a walk takes it: what is drawn is the callee's part, met by the fill
-- on top, and what the caller keeps is just what its state has then.
use Rattle.std.proofs.Common.{◌≡◌, ◌⊎◌, inr, ℕ, zero, suc, ◌+◌, ◌≤◌, ℤ, pos, ◌+ℤ◌, ◌*ℤ◌, true, List, [], ◌∷◌, ◌++◌, map, length, Option, Some, None, sym, ap, ◌∙◌, subst, arith}
use Rattle.std.specs.Prelude.{slice_get}
use Rattle.std.specs.List.{AllByRecursion}
use Rattle.std.proofs.lemmas.Int.{ints}
use Rattle.std.proofs.lemmas.Slice.Zip.{AllZip-long}
use Rattle.cap_lin.specs.Linear.{Linear}
use Rattle.cap_lin.specs.Values.{Valuation, denominator}
use Rattle.cap_lin.specs.declared.row.Sort.TheVariants.{Int}
use Rattle.cap_prog.specs.Program.{Block, PlainFunction, PlainProgram}
use Rattle.cap_prog.specs.Scopes.{requires_scope}
use Rattle.cap_prog.specs.WellFormed.{IsWellFormed}
use Rattle.cap_goal_spec.specs.States.{PlainState, Home, PlainTask, to_rest, goals_of}
use Rattle.cap_goal_spec.specs.Choices.{PlainTree}
use Rattle.cap_goal_spec.specs.Environments.{term_of, bound, unbound}
use Rattle.cap_rules.specs.Making.{env_at, fresh}
use Rattle.cap_machine.specs.Machine.{Heap, Frame}
use Rattle.cap_machine_accounts.specs.Assertions.{NameValue, a_number}
use Rattle.cap_account_resources.specs.Parts.{cells_of, Table}
use Rattle.cap_account_resources.proofs.Interference.{ArePartOf}
use Rattle.cap_account_resources.proofs.Lists.{some-same, none-some, get-first, get-last, push-length}
use Rattle.cap_account_resources.proofs.Owners.{owned}
use Rattle.cap_account_resources.proofs.Room.{room}
use Rattle.cap_account_resources.proofs.Stocks.{Stock, no_stock, both, Inside, none-right, stock-laws, inside-is, inside-trans, inside-first, inside-second, inside-beside, inside-both, inside-same}
use Rattle.cap_account_resources.proofs.Tables.{new_guards}
use Rattle.cap_account_states.proofs.Alike.{alike-same}
use Rattle.cap_account_states.proofs.Checked.{Checked}
use Rattle.cap_account_states.proofs.Meets.{Usable, Old, with_value}
use Rattle.cap_account_states.proofs.Naming.{values_in, values-mean}
use Rattle.cap_account_states.proofs.Roots.{function-fits}
use Rattle.cap_account_states.proofs.Terms.{Over, vars-more}
use Rattle.cap_account_assertions.proofs.Asserted.{DrawsAll, OwnsRequires}
use Rattle.cap_account_assertions.proofs.TakeSteps.{Job}
use Rattle.cap_account_assertions.proofs.TakenLaws.{job_of, start-in-room, taken-of}
use Rattle.cap_account_assertions.proofs.TreeSizes.{trees_size}
use Rattle.cap_account_steps.proofs.CallSite.{Caller, TakenHere, v1, args_are, new-env, backed1, at-call, callee_fixed, met-requires}
use Rattle.cap_account_steps.proofs.Callees.{at_call}
use Rattle.cap_account_steps.proofs.Frames.{HandsOver, Roomy}
use Rattle.cap_account_steps.proofs.Stores.{here, here-over}
use Rattle.cap_owners_spec.specs.Traced.{Traced, valuation}
use Rattle.cap_owners_spec.specs.Track.{TrackedRegion}
use Rattle.cap_owners_spec.specs.Walks.{nothing_taken, Halt, Walk}
use Rattle.cap_owners_spec.specs.Steps.{interpreted}
use Rattle.cap_owners_laws.specs.Owned.{AreNumbered}
use Rattle.cap_owners_walks_laws.proofs.Values.More.{FitsSort, number-fits, sorted-more}
use Rattle.cap_owners_walks_laws.proofs.Values.Numbers.{valuation-number}
use Rattle.cap_owners_walks_laws.proofs.Fills.Amounts.{items_drawn, items_just, just-same, drawn-inside}
use Rattle.cap_owners_walks_laws.proofs.Fills.Drawn.{IsMetOr, Tells}
use Rattle.cap_owners_walks_laws.proofs.Fills.Giving.{NamesFit}
use Rattle.cap_owners_walks_laws.proofs.Parts.Held.{Own, own-of}
use Rattle.cap_owners_walks_laws.proofs.Passes.Rests.{walks_into}
use Rattle.cap_owners_walks_laws.proofs.Passes.Parted.{none-held}
use Rattle.cap_owners_walks_laws.proofs.Passes.Takes.{AreNameTerms, AreBelow, TakesFrom, IsTooWide, TakesTo}
use Rattle.cap_owners_walks_laws.proofs.Passes.Takings.{takes-law, free-from, taken-met-or, tells-made}
use Rattle.cap_owners_runs_laws.proofs.Tracks.Tied.{derivation}
use Rattle.cap_owners_runs_laws.proofs.Handing.CallSites.{calling_walk, CallingHere}

-- ---- numbers

-- regions that are numbered from 1 on are below the next number
pub numbered-below :
    (n : ℤ) (rs : List TrackedRegion) →
    AreNumbered n (map (λ r. r.region) (map (λ r. r.owned) rs)) →
    AreBelow (n +ℤ pos (length rs)) rs
numbered-below n [] h = tt
numbered-below n (r ∷ rs) h =
    let e = h.0 in
    let same : (n +ℤ pos 1) +ℤ pos (length rs) ≡ n +ℤ pos (suc (length rs)) = omega (arith, ints) in (
      omega (arith, ints, e),
      subst (λ m. AreBelow m rs) same (numbered-below (n +ℤ pos 1) rs h.1),
    )

-- ---- names of a callee

-- each term is a parameter's or the result's
env-terms :
    (P : Linear → Type 0) (ps : List Linear) (m k : ℕ) (u : Linear) → AllByRecursion P ps → P u →
    (x : ℕ) (t : Linear) → term_of (bound ps ++ (unbound m ++ Some u ∷ unbound k)) x ≡ Some t → P t
env-terms P (q ∷ ps) m k u h hu zero t e = subst P (some-same q t e) h.0
env-terms P (q ∷ ps) m k u h hu (suc x) t e = env-terms P ps m k u h.1 hu x t e
env-terms P [] (suc m) k u h hu zero t e = absurd (none-some e)
env-terms P [] (suc m) k u h hu (suc x) t e = env-terms P [] m k u tt hu x t e
env-terms P [] zero k u h hu zero t e = subst P (some-same u t e) hu
env-terms P [] zero (suc k) u h hu (suc zero) t e = absurd (none-some e)
env-terms P [] zero (suc k) u h hu (suc (suc x)) t e =
    env-terms P [] zero k u h hu (suc x) t e
env-terms P [] zero zero u h hu (suc x) t e = absurd (none-some e)

module _ (p : Checked) (trees : List (Option PlainTree)) (wf : IsWellFormed p.program)
    (part : Stock) (T : Table) (roomy : Roomy p.program T part) (fn : PlainFunction)
    (fixed : List NameValue) (f : Frame) (r0 : Block) (number n : ℕ) (args : List Linear)
    (x : Option ℕ) (due : PlainFunction → ℕ → Home → List PlainTask) (rs : List TrackedRegion)
    (tells : Tells rs T)
    (numbered : AreNumbered (pos 1) (map (λ r. r.region) (map (λ r. r.owned) rs))) (heap : Heap)
    (within : (a z : ℤ) → part.cells a z ≤ cells_of heap a z) (o : Traced Halt)
    (h : CallingHere p trees part T fn fixed f r0 number n args x due rs o) where
  -- ---- the caller

  abbrev pub caller : Caller p part T f.store
  caller = record {
    s = h.state;
    v = valuation h.vs;
    grounded = h.grounded;
    facts = h.facts;
    firm = h.firm;
    backed = h.backed;
    none_open = h.none_open;
    is_store = h.store.store;
    g = h.g;
    args = args;
    size = h.size;
    x = x;
    z = h.z;
  }

  abbrev pub behind : List PlainTask
  behind = to_rest 0 number ∷ due h.g (length h.state.envs) h.home

  abbrev ks : List ℕ
  ks = length h.state.sorts ∷ []

  abbrev next : ℤ
  next = pos (1 + length rs)

  abbrev vs1 : List NameValue
  vs1 = h.vs ++ a_number h.z ∷ []

  abbrev pub job : Job
  job = job_of (requires_scope h.g) (length h.state.envs) 3 number h.g.requires behind

  abbrev u1 : Valuation
  u1 = v1 p part T f.store caller

  abbrev there : PlainState
  there = at_call h.state h.g args x

  pub same-count : length h.state.sorts ≡ length h.vs
  same-count = sym (AllZip-long FitsSort h.state.sorts h.vs h.sorted)

  named1 : v1 p part T f.store caller ≡ valuation (h.vs ++ a_number h.z ∷ [])
  named1 =
      (λ i. with_value (valuation h.vs) (same-count i) h.z
      (h.z *ℤ denominator (valuation h.vs).fraction))
      ∙ sym (valuation-number h.vs h.z)

  -- the result's variable is a whole number, and so is each argument
  terms1 : AreNameTerms there.sorts (env_at there (length h.state.envs))
  terms1 y t e =
      let P = Over (λ y. slice_get there.sorts y ≡ Some Int) in
      let in_env = ap (λ env. term_of env y) (sym (new-env p part T f.store caller)) ∙ e in
      inr (env-terms P (map (here h.state) args) (h.g.locals + length h.g.fixed)
      (length h.g.ensures.names) (fresh h.state) (all-here args)
      ((get-last h.state.sorts Int), tt) y t in_env)
    where
      all-here :
          (ts : List Linear) →
          AllByRecursion (Over (λ y. slice_get (h.state.sorts ++ Int ∷ []) y ≡ Some Int))
          (map (here h.state) ts)
      all-here [] = tt
      all-here (t ∷ ts) = (
        vars-more (Usable [] h.state.sorts Int)
            (λ y. slice_get (h.state.sorts ++ Int ∷ []) y ≡ Some Int)
            (λ y k. get-first h.state.sorts (Int ∷ []) y Int k.0) (here h.state t).parts
            (here-over [] (valuation h.vs) h.state t h.grounded.meets),
        all-here ts,
      )

  abbrev pub Taken_here : Type 0
  Taken_here =
      TakesTo p (length h.state.sorts ∷ []) T (pos (1 + length rs)) job h.ks
      (h.vs ++ a_number h.z ∷ []) (v1 p part T f.store caller)
      (at_call h.state h.g args x) part nothing_taken (trees_size h.ks)

  pub low : AreBelow (pos (1 + length rs)) rs
  low =
      let same : pos 1 +ℤ pos (length rs) ≡ pos (1 + length rs) = omega (arith, ints) in
      subst (λ m. AreBelow m rs) same (numbered-below (pos 1) rs numbered)

  from_here :
      TakesFrom p (length h.state.sorts ∷ []) T (pos (1 + length rs)) (room p.program T) job
      (h.vs ++ a_number h.z ∷ []) (v1 p part T f.store caller) (at_call h.state h.g args x) part
      nothing_taken.part
  from_here = record {
    start =
        start-in-room p.program ks T next job u1 there part (at-call p part T f.store caller)
        ((let q = push-length h.state.sorts Int in omega (arith, q)), tt)
        (function-fits p.program wf n h.g h.is_g).requires.items (backed1 p part T f.store caller)
        roomy.room (free-from rs T next tells low);
    valued = named1;
    sorted = sorted-more h.state.sorts h.vs Int (a_number h.z) h.sorted tt;
    terms = terms1;
    heap = heap;
    cells = λ a z.
        let e = ap (λ (q : Stock). q.cells a z) none-held in
        let l = within a z in omega (arith, e, l);
    guards =
        subst (λ q. ArePartOf p.program q.guards (room p.program T))
        (sym (ap (λ q. both p.program q part) none-held ∙ (stock-laws p.program).zero_left part))
        roomy.room;
  }

  -- it is taken so, or the walk is too wide
  pub callee-takes :
      IsTooWide p (length h.state.sorts ∷ []) (pos (1 + length rs)) job h.ks
      (h.vs ++ a_number h.z ∷ []) (at_call h.state h.g args x) nothing_taken
      ⊎ Taken_here
  callee-takes =
      takes-law p wf.regions ks (trees_size h.ks) T next (room p.program T) job h.ks vs1 u1 there
      part nothing_taken (omega arith) h.goes from_here

  -- ---- what is taken

  module _ (t : Taken_here) where
    abbrev P : PlainProgram
    P = p.program

    abbrev e : ℕ
    e = length h.state.envs

    -- what the state has then
    pub own : Own p.program t.took.w t.took.after t.took.left
    own =
        own-of p.program t.took.w t.took.after t.took.left t.took.ready.grounded.pieces_fit
        t.took.backed

    -- soundness's record, where no more is kept
    abbrev pub tk : TakenHere p part T f.store caller behind
    tk =
        let k = (taken-of p ks T (requires_scope h.g) e 3 number h.g.requires behind u1 there part
        next (trees_size h.ks) (free-from rs T next tells low) t.took).taken in
        record {
          w = k.w;
          alike = k.alike;
          after = k.after;
          brings = k.brings;
          brought = k.brought;
          children = k.children;
          goes = k.goes;
          U = k.U;
          new = k.new;
          made = k.made;
          none_made = k.none_made;
          created = k.created;
          are_created = k.are_created;
          keeps = k.keeps;
          ready = k.ready;
          loose = k.loose;
          goes_on = k.goes_on;
          stays = k.stays;
          outside = k.outside;
          size = k.size;
          others = k.others;
          given = k.given;
          left = own.own;
          backed = own.backed;
          budget =
              inside-trans P (both P (both P own.own k.given) (owned P k.new))
              (both P (both P k.left k.given) (owned P k.new)) (both P part (new_guards P T k.U))
              (inside-beside P (both P own.own k.given) (both P k.left k.given) (owned P k.new)
              (inside-beside P own.own k.left k.given own.inside)) k.budget;
          draws = k.draws;
        }

    -- ---- the callee's part

    abbrev named : Valuation
    named = values_in t.took.w (env_at t.took.after (length h.state.envs))

    abbrev all_drawn :
        DrawsAll p.program t.took.U (values_in t.took.w (env_at t.took.after (length h.state.envs)))
        h.g.requires (both p.program t.took.given no_stock) no_stock
    all_drawn =
        t.took.draws t.took.w (alike-same (Old t.took.after) t.took.w)
        (values_in t.took.w (env_at t.took.after (length h.state.envs)))
        (values-mean (requires_scope h.g) t.took.w
        (env_at t.took.after (length h.state.envs))) no_stock

    -- just what is drawn
    abbrev pub given : Stock
    given =
        items_drawn p.program t.took.U
        (values_in t.took.w (env_at t.took.after (length h.state.envs))) h.g.requires
        (both p.program t.took.given no_stock) no_stock
        (t.took.draws t.took.w (alike-same (Old t.took.after) t.took.w)
        (values_in t.took.w (env_at t.took.after (length h.state.envs)))
        (values-mean (requires_scope h.g) t.took.w
        (env_at t.took.after (length h.state.envs))) no_stock)

    pub alone : (q : Stock) → Inside p.program (both p.program q no_stock) q
    alone q = inside-is P (both P q no_stock) q (none-right P q)

    pub given-inside : Inside p.program given t.took.given
    given-inside =
        inside-trans P given (both P given no_stock) t.took.given
        (inside-is P given (both P given no_stock) (sym (none-right P given)))
        (inside-trans P (both P given no_stock) (both P t.took.given no_stock) t.took.given
        (drawn-inside P t.took.U named h.g.requires (both P t.took.given no_stock) no_stock
        all_drawn)
        (alone t.took.given))

    abbrev pub given_drawn :
        DrawsAll p.program t.took.U (values_in t.took.w (env_at t.took.after (length h.state.envs)))
        h.g.requires given no_stock
    given_drawn =
        items_just p.program t.took.U
        (values_in t.took.w (env_at t.took.after (length h.state.envs))) h.g.requires
        (both p.program t.took.given no_stock) no_stock
        (t.took.draws t.took.w (alike-same (Old t.took.after) t.took.w)
        (values_in t.took.w (env_at t.took.after (length h.state.envs)))
        (values-mean (requires_scope h.g) t.took.w
        (env_at t.took.after (length h.state.envs))) no_stock) given no_stock (alone given)

    abbrev pub callee_names : List NameValue
    callee_names = callee_fixed p part T f.store caller behind tk

    -- which is what it requires
    abbrev pub meets :
        OwnsRequires p.program t.took.U given h.g (args_are p part T f.store caller) callee_names
    meets =
        let m = met-requires p part T f.store caller behind tk in
        record {
          values = values_in t.took.w (env_at t.took.after (length h.state.envs));
          args_are = m.args_are;
          fixed_are = m.fixed_are;
          met = (no_stock, given_drawn);
        }

    -- met by the fill on top, and all of it is drawn
    pub fill-met :
        IsMetOr p.program t.took.U
        (values_in t.took.w (env_at t.took.after (length h.state.envs))) h.g.requires given
        no_stock given_drawn t.taken.fill
    fill-met =
        let m = taken-met-or p ks T next job vs1 there part h.ks u1 (trees_size h.ks) t no_stock in
        let s = just-same P t.took.U named h.g.requires (both P t.took.given no_stock) no_stock
        all_drawn given no_stock (alone given) in
        record { names = m.names; wildcards = s.met ∙ m.wildcards; facts = s.told ∙ m.facts }

    pub all-given :
        items_drawn p.program t.took.U
        (values_in t.took.w (env_at t.took.after (length h.state.envs))) h.g.requires given
        no_stock given_drawn
        ≡ given
    all-given =
        (just-same P t.took.U named h.g.requires (both P t.took.given no_stock) no_stock all_drawn
        given no_stock (alone given)).drawn

    pub fill-fits : NamesFit (requires_scope h.g) t.taken.fill.names
    fill-fits = t.have (λ e. none-fit)
      where
        none-fit : NamesFit (requires_scope h.g) []
        none-fit o y has = number-fits o (pos 0)

    -- what is kept and given comes out of the caller's part
    abbrev pub over : HandsOver p.program T part own.own given
    over = record {
      U = t.took.U;
      new = t.took.new;
      made = tk.made;
      budget =
          inside-trans P (both P (both P own.own given) (owned P t.took.new))
          (both P (both P own.own t.took.given) (owned P t.took.new))
          (both P part (new_guards P T t.took.U))
          (inside-beside P (both P own.own given) (both P own.own t.took.given)
          (owned P t.took.new)
          (inside-both P own.own own.own given t.took.given (inside-same P own.own)
          given-inside))
          tk.budget;
    }

    inside-both-there :
        Inside p.program (both p.program own.own given)
        (both p.program part (new_guards p.program T t.took.U))
    inside-both-there =
        let all = both P own.own given in
        inside-trans P all (both P all (owned P t.took.new)) (both P part (new_guards P T t.took.U))
        (inside-first P all (owned P t.took.new)) over.budget

    -- all of it does
    pub inside-left :
        Inside p.program own.own
        (both p.program part (new_guards p.program T t.took.U))
    inside-left =
        let all = both P own.own given in
        inside-trans P own.own all (both P part (new_guards P T t.took.U))
        (inside-first P own.own given) inside-both-there

    pub inside-given :
        Inside p.program given
        (both p.program part (new_guards p.program T t.took.U))
    inside-given =
        let all = both P own.own given in
        inside-trans P given all (both P part (new_guards P T t.took.U))
        (inside-second P own.own given) inside-both-there

    -- ---- where the walk is then

    abbrev pub taken_walk : Walk
    taken_walk = record {
      values = t.values;
      regions = rs ++ t.made;
      next = t.took.later;
      taken = t.taken ∷ [];
      fill = None;
      events = [];
      awaited = length h.vs;
    }

    pub taken-walks :
        o
        ≡ walks_into true (interpreted (derivation p trees)) p.program t.took.children
        (goals_of t.took.after behind) taken_walk
    taken-walks =
        h.walks
        ∙ t.walks true (interpreted (derivation p trees)) (calling_walk p trees part T fn fixed f r0
        number n args x due rs h.vs h.z) [] low

    -- it tells the table that there is then
    pub tells-then : Tells (rs ++ t.made) t.took.U
    tells-then =
        tells-made P T t.took.U next t.took.later t.took.new t.took.made t.took.created
        t.took.are_created rs t.made t.are_made tells
