-- What comes of taking along a walk, for those who take: by what the items are met, and which table
-- the regions tell then.
use Rattle.std.proofs.Common.{◌≡◌, ◌⊎◌, inl, inr, ℕ, ◌<◌, ◌≤◌, ℤ, Bool, true, false, List, [], ◌∷◌, ◌++◌, length, map, Option, Some, None, refl, sym, ap, ◌∙◌, subst, arith}
use Rattle.std.specs.Prelude.{option_map, if◌then◌else◌}
use Rattle.std.specs.List.{AllByRecursion, AllZip}
use Rattle.std.proofs.lemmas.Int.{ints}
use Rattle.cap_lin.specs.Linear.{same_number}
use Rattle.cap_lin.specs.Values.{Valuation}
use Rattle.cap_prog.specs.WellFormed.{RegionFits}
use Rattle.cap_prog.specs.Program.{Items, PlainProgram}
use Rattle.cap_goal_spec.specs.States.{PlainState, PlainTask}
use Rattle.cap_goal_spec.specs.Choices.{PlainTrees}
use Rattle.cap_rules.specs.Making.{env_at}
use Rattle.cap_machine.specs.Machine.{Heap}
use Rattle.cap_machine_accounts.specs.Parts.{no_part}
use Rattle.cap_machine_accounts.specs.Assertions.{NameValue}
use Rattle.cap_account_resources.specs.Parts.{cells_of, Known, known_as, Table}
use Rattle.cap_account_resources.proofs.Interference.{ArePartOf}
use Rattle.cap_account_resources.proofs.Lists.{Among}
use Rattle.cap_account_resources.proofs.Order.{same-int, same-refl}
use Rattle.cap_account_resources.proofs.Owners.{Owner, numbers_of}
use Rattle.cap_account_resources.proofs.Room.{room}
use Rattle.cap_account_resources.proofs.Stocks.{Stock, no_stock, both, stock-laws, inside-same}
use Rattle.cap_account_resources.proofs.Tables.{FitsRoom}
use Rattle.cap_account_states.proofs.Alike.{alike-same}
use Rattle.cap_account_states.proofs.Backed.{Backed}
use Rattle.cap_account_states.proofs.Checked.{Checked}
use Rattle.cap_account_states.proofs.Items.{AreFit}
use Rattle.cap_account_states.proofs.Meets.{Old}
use Rattle.cap_account_states.proofs.Naming.{values_in, values-mean}
use Rattle.cap_account_assertions.proofs.Laws.{StateAt, IsOwner, Creation}
use Rattle.cap_account_assertions.proofs.TakeSteps.{Job, MadeFrom}
use Rattle.cap_account_assertions.proofs.TakenLaws.{FreeFrom, job_of, start-in-room}
use Rattle.cap_account_assertions.proofs.TakenStill.{still-of, start-as-it-is}
use Rattle.cap_owners_walks_laws.proofs.Passes.Meets.{items-met-kept, items-told-kept, items-met-out, items-told-out}
use Rattle.cap_prog.specs.Scopes.{Scope}
use Rattle.cap_owners_spec.specs.Traced.{valuation}
use Rattle.cap_owners_spec.specs.Track.{TrackedRegion, tracked_at}
use Rattle.cap_owners_spec.specs.Walks.{nothing_taken, no_items}
use Rattle.cap_owners_walks_laws.proofs.Fills.Drawn.{IsMetBy, IsMetOr, Tells}
use Rattle.cap_account.proofs.Stocked.{part_stock}
use Rattle.cap_owners_walks_laws.proofs.Passes.Parted.{none-held}
use Rattle.cap_owners_walks_laws.proofs.Passes.Takes.{IsTracked, AreNameTerms, AreBelow, TakesFrom, either-on, TakesTo, AlongLaw, TakesLaw}
use Rattle.cap_owners_walks_laws.proofs.Passes.TakesAll.{takes}
use Rattle.cap_owners_walks_laws.proofs.Passes.Guards.{guard-steps}
use Rattle.cap_owners_walks_laws.proofs.Passes.Creates.{create-takes}
use Rattle.cap_owners_walks_laws.proofs.Values.More.{FitsSort}

-- ---- the law

pub takes-along :
    (p : Checked) → AllByRecursion (RegionFits p.program) p.program.regions → (ks : List ℕ)
    (size : ℕ) → AlongLaw p ks size
takes-along p regions ks = takes p ks (guard-steps p ks) (create-takes p regions ks)

-- of walks that have this number for the next region
pub takes-law :
    (p : Checked) → AllByRecursion (RegionFits p.program) p.program.regions → (ks : List ℕ)
    (size : ℕ) → TakesLaw p ks size
takes-law p regions ks size T next lim j trees vs v s c top le goes f =
    either-on p ks next j trees vs s top
    (takes-along p regions ks size T next lim j trees vs v s c top le goes f)

module _ (p : Checked) (ks : List ℕ) (T : Table) (next : ℤ) (j : Job) (vs : List NameValue)
    (s : PlainState) (c : Stock) where
  -- from a table whose room has what is held
  pub from-room :
      StateAt p.program ks T j.scope j.env (valuation vs) s →
      AllByRecursion (λ k. k < length s.sorts) ks → AreFit p.program j.scope j.items →
      Backed p.program (valuation vs) s c → FitsRoom p.program T c → FreeFrom T next →
      AllZip FitsSort s.sorts vs → AreNameTerms s.sorts (env_at s j.env) → (h : Heap) →
      ((a z : ℤ) → c.cells a z ≤ cells_of h a z) →
      TakesFrom p ks T next (room p.program T) j vs (valuation vs) s c no_part
  from-room at low fits backed inside free sorted terms h cells = record {
    start = start-in-room p.program ks T next j (valuation vs) s c at low fits backed inside free;
    valued = refl;
    sorted = sorted;
    terms = terms;
    heap = h;
    cells = λ a z.
        let e = ap (λ (q : Stock). q.cells a z) none-held in
        let l = cells a z in omega (arith, e, l);
    guards =
        subst (λ q. ArePartOf p.program q.guards (room p.program T))
        (sym (ap (λ q. both p.program q c) none-held ∙ (stock-laws p.program).zero_left c)) inside;
  }

  -- from what is within the room, where none may be created
  pub from-still :
      j.most ≡ 0 → StateAt p.program ks T j.scope j.env (valuation vs) s →
      AllByRecursion (λ k. k < length s.sorts) ks → AreFit p.program j.scope j.items →
      Backed p.program (valuation vs) s c → FitsRoom p.program T c → AllZip FitsSort s.sorts vs →
      AreNameTerms s.sorts (env_at s j.env) → (h : Heap) →
      ((a z : ℤ) → c.cells a z ≤ cells_of h a z) →
      TakesFrom p ks T next (room p.program T) j vs (valuation vs) s c no_part
  from-still none at low fits backed inside sorted terms h cells = record {
    start = start-as-it-is p.program ks T next j none (valuation vs) s c at low fits backed inside;
    valued = refl;
    sorted = sorted;
    terms = terms;
    heap = h;
    cells = λ a z.
        let e = ap (λ (q : Stock). q.cells a z) none-held in
        let l = cells a z in omega (arith, e, l);
    guards =
        subst (λ q. ArePartOf p.program q.guards (room p.program T))
        (sym (ap (λ q. both p.program q c) none-held ∙ (stock-laws p.program).zero_left c)) inside;
  }

  module _ (trees : PlainTrees) (v : Valuation) (size : ℕ)
      (t : TakesTo p ks T next j trees vs v s c nothing_taken size) where
    -- what there is to be taken is met by what is on top
    pub taken-met-or :
        (r : Stock) →
        IsMetOr p.program t.took.U (values_in t.took.w (env_at t.took.after j.env)) j.items
        (both p.program t.took.given r) r
        (t.took.draws t.took.w (alike-same (Old t.took.after) t.took.w)
        (values_in t.took.w (env_at t.took.after j.env))
        (values-mean j.scope t.took.w (env_at t.took.after j.env)) r) t.taken.fill
    taken-met-or r =
        let w = t.took.w in
        let env = env_at t.took.after j.env in
        let met = t.met w (alike-same (Old t.took.after) w) (values_in w env)
        (values-mean j.scope w env) r (ap (λ (u : Valuation). u.fraction.under) t.valued) in
        record {
          names = λ some. t.names (λ e. absurd (true-false (sym e ∙ some)));
          wildcards = met.0 ∙ sym t.more_wildcards;
          facts = met.1 ∙ sym t.more_facts;
        }
      where
        true-false : true ≡ false → ⊥
        true-false e = cc

    pub taken-met :
        no_items j.items ≡ false → (r : Stock) →
        IsMetBy p.program t.took.U (values_in t.took.w (env_at t.took.after j.env)) j.items
        (both p.program t.took.given r) r
        (t.took.draws t.took.w (alike-same (Old t.took.after) t.took.w)
        (values_in t.took.w (env_at t.took.after j.env))
        (values-mean j.scope t.took.w (env_at t.took.after j.env)) r) t.taken.fill
    taken-met some r =
        let m = taken-met-or r in
        record { names = m.names some; wildcards = m.wildcards; facts = m.facts }

    -- and the part has what is given
    pub taken-part : part_stock t.taken.part ≡ t.took.given
    taken-part =
        t.part
        ∙ ap (λ q. both p.program q t.took.given) none-held
        ∙ (stock-laws p.program).zero_left t.took.given

-- where none may be created, what is held has the items, met by what is on top
pub still-met-or :
    (p : Checked) (ks : List ℕ) (T : Table) (sc : Scope) (e n : ℕ) (items : Items)
    (ts : List PlainTask) (trees : PlainTrees) (vs : List NameValue) (v : Valuation)
    (s : PlainState) (held : Stock) (next : ℤ) (size : ℕ)
    (t : TakesTo p ks T next (job_of sc e 0 n items ts) trees vs v s held nothing_taken size) →
    IsMetOr p.program T (values_in t.took.w (env_at t.took.after e)) items held
    ((still-of p ks T sc e n items ts v s held next size t.took).met t.took.w
    (alike-same (Old t.took.after) t.took.w) (values_in t.took.w (env_at t.took.after e))
    (values-mean sc t.took.w (env_at t.took.after e))).0
    ((still-of p ks T sc e n items ts v s held next size t.took).met t.took.w
    (alike-same (Old t.took.after) t.took.w) (values_in t.took.w (env_at t.took.after e))
    (values-mean sc t.took.w (env_at t.took.after e))).1 t.taken.fill
still-met-or p ks T sc e n items ts trees vs v s held next size t =
    let pp = p.program in
    let X = values_in t.took.w (env_at t.took.after e) in
    let d = t.took.draws t.took.w (alike-same (Old t.took.after) t.took.w) X
    (values-mean sc t.took.w (env_at t.took.after e)) no_stock in
    let m = taken-met-or p ks T next (job_of sc e 0 n items ts) vs s held trees v size t no_stock
    in
    record {
      names = m.names;
      wildcards =
          items-met-out pp T X items (both pp t.took.given no_stock) held no_stock no_stock _
          (inside-same pp no_stock) _
          ∙ items-met-kept pp t.took.U T _ X items (both pp t.took.given no_stock) no_stock d
          ∙ m.wildcards;
      facts =
          items-told-out pp T X items (both pp t.took.given no_stock) held no_stock no_stock _
          (inside-same pp no_stock) _
          ∙ items-told-kept pp t.took.U T _ X items (both pp t.took.given no_stock) no_stock d
          ∙ m.facts;
    }

pub still-met :
    (p : Checked) (ks : List ℕ) (T : Table) (sc : Scope) (e n : ℕ) (items : Items)
    (ts : List PlainTask) (trees : PlainTrees) (vs : List NameValue) (v : Valuation)
    (s : PlainState) (held : Stock) (next : ℤ) (size : ℕ)
    (t : TakesTo p ks T next (job_of sc e 0 n items ts) trees vs v s held nothing_taken size) →
    no_items items ≡ false →
    IsMetBy p.program T (values_in t.took.w (env_at t.took.after e)) items held
    ((still-of p ks T sc e n items ts v s held next size t.took).met t.took.w
    (alike-same (Old t.took.after) t.took.w) (values_in t.took.w (env_at t.took.after e))
    (values-mean sc t.took.w (env_at t.took.after e))).0
    ((still-of p ks T sc e n items ts v s held next size t.took).met t.took.w
    (alike-same (Old t.took.after) t.took.w) (values_in t.took.w (env_at t.took.after e))
    (values-mean sc t.took.w (env_at t.took.after e))).1 t.taken.fill
still-met p ks T sc e n items ts trees vs v s held next size t some =
    let m = still-met-or p ks T sc e n items ts trees vs v s held next size t in
    record { names = m.names some; wildcards = m.wildcards; facts = m.facts }

-- ---- tables

-- what a track tells at a number
abbrev pub told_at : List TrackedRegion → ℤ → Option Known
told_at rs n =
    option_map
    (λ (r : TrackedRegion). known_as r.owned.region.kind r.owned.region.args
    (Some r.owned.region.state)) (tracked_at rs n)

not-same : (a b : ℤ) → same_number a b ≡ false → a ≡ b → ⊥
not-same a b e q =
    apart (sym (same-refl b) ∙ ap (λ x. same_number x b) (sym q) ∙ e)
  where
    apart : true ≡ false → ⊥
    apart e = cc

-- regions that were created are told of as they are in the table, and no others
pub made-told :
    (p : PlainProgram) (U : Table) (cs : List Creation) (rs : List TrackedRegion) →
    AllZip (IsTracked p U) cs rs → AllByRecursion (IsOwner p U) (map (λ c. c.owner) cs) → (n : ℤ) →
    (told_at rs n ≡ U n)
    ⊎ ((tracked_at rs n ≡ None) × (Among n (numbers_of (map (λ c. c.owner) cs)) → ⊥))
made-told p U [] [] h o n = inr (refl, λ m. m)
made-told p U [] (r ∷ rs) h o n = absurd h
made-told p U (c ∷ cs) [] h o n = absurd h
made-told p U (c ∷ cs) (r ∷ rs) h o n =
    by (same_number r.owned.region.number n) refl (made-told p U cs rs h.1 o.1 n)
  where
    known :
        U r.owned.region.number
        ≡ Some (known_as r.owned.region.kind r.owned.region.args (Some r.owned.region.state))
    known =
        subst (λ (w : Owner). U w.number ≡ Some (known_as w.kind w.args (Some w.state)))
        h.0.owner o.0.known

    by :
        (b : Bool) → same_number r.owned.region.number n ≡ b →
        ((told_at rs n ≡ U n)
        ⊎ ((tracked_at rs n ≡ None) × (Among n (numbers_of (map (λ c. c.owner) cs)) → ⊥))) →
        (told_at (r ∷ rs) n ≡ U n)
        ⊎ ((tracked_at (r ∷ rs) n ≡ None)
        × (Among n (numbers_of (map (λ c. c.owner) (c ∷ cs))) → ⊥))
    by true e rest =
        inl (ap (λ b. option_map
        (λ (r : TrackedRegion). known_as r.owned.region.kind r.owned.region.args
        (Some r.owned.region.state)) (if b then Some r else tracked_at rs n)) e
        ∙ sym known ∙ ap U (same-int r.owned.region.number n e))
    by false e rest =
        let skip = ap (λ b. if b then Some r else tracked_at rs n) e in
        elim rest [
          | inl q ↦ inl (ap (option_map
              (λ (r : TrackedRegion). known_as r.owned.region.kind r.owned.region.args
              (Some r.owned.region.state))) skip ∙ q)
          | inr q ↦ inr (
            skip ∙ q.0,
            λ m. elim m [
              | inl here ↦
                  let same = ap (λ (w : Owner). w.number) h.0.owner in
                  not-same r.owned.region.number n e (omega (arith, ints, here, same))
              | inr later ↦ q.1 later
            ],
          )
        ]

-- behind those of a track
pub behind :
    (rs ss : List TrackedRegion) (n : ℤ) →
    ((r : TrackedRegion) × (tracked_at rs n ≡ Some r) × (tracked_at (rs ++ ss) n ≡ Some r))
    ⊎ ((tracked_at rs n ≡ None) × (tracked_at (rs ++ ss) n ≡ tracked_at ss n))
behind [] ss n = inr (refl, refl)
behind (r ∷ rs) ss n = by (same_number r.owned.region.number n) refl (behind rs ss n)
  where
    by :
        (b : Bool) → same_number r.owned.region.number n ≡ b →
        (((q : TrackedRegion) × (tracked_at rs n ≡ Some q) × (tracked_at (rs ++ ss) n ≡ Some q))
        ⊎ ((tracked_at rs n ≡ None) × (tracked_at (rs ++ ss) n ≡ tracked_at ss n))) →
        ((q : TrackedRegion) × (tracked_at (r ∷ rs) n ≡ Some q)
        × (tracked_at (r ∷ (rs ++ ss)) n ≡ Some q))
        ⊎ ((tracked_at (r ∷ rs) n ≡ None) × (tracked_at (r ∷ (rs ++ ss)) n ≡ tracked_at ss n))
    by true e rest =
        inl (
          r,
          ap (λ b. if b then Some r else tracked_at rs n) e,
          ap (λ b. if b then Some r else tracked_at (rs ++ ss) n) e,
        )
    by false e rest =
        let skip = ap (λ b. if b then Some r else tracked_at rs n) e in
        let skips = ap (λ b. if b then Some r else tracked_at (rs ++ ss) n) e in
        elim rest [
          | inl q ↦ inl (q.0, skip ∙ q.1, skips ∙ q.2)
          | inr q ↦ inr (skip ∙ q.0, skips ∙ q.1)
        ]

-- with those that were created a track tells the table that there is then
pub tells-made :
    (p : PlainProgram) (T U : Table) (next later : ℤ) (new : List Owner) →
    MadeFrom p T next U new later → (cs : List Creation) → new ≡ map (λ c. c.owner) cs →
    (rs ss : List TrackedRegion) → AllZip (IsTracked p U) cs ss → Tells rs T → Tells (rs ++ ss) U
tells-made p T U next later new m cs are rs ss h tells n =
    elim (behind rs ss n) [
      | inl q ↦
          let r = q.0 in
          let known = known_as r.owned.region.kind r.owned.region.args
          (Some r.owned.region.state) in
          let tell = option_map (λ (r : TrackedRegion). known_as r.owned.region.kind
          r.owned.region.args (Some r.owned.region.state)) in
          ap tell q.2 ∙ sym (m.extends n known (sym (tells n) ∙ ap tell q.1))
      | inr q ↦
          let tell = option_map (λ (r : TrackedRegion). known_as r.owned.region.kind
          r.owned.region.args (Some r.owned.region.state)) in
          elim (made-told p U cs ss h
          (subst (AllByRecursion (IsOwner p U)) are m.owners) n) [
            | inl told ↦ ap tell q.1 ∙ told
            | inr absent ↦ ap tell (q.1 ∙ absent.0)
                ∙ sym (m.others n
                (subst (λ os. Among n (numbers_of os) → ⊥) (sym are) absent.1)
                ∙ sym (tells n) ∙ ap tell q.0)
          ]
    ]

-- ---- numbers

-- a table that a track tells has no region from a number on, where all are below it
pub free-from :
    (rs : List TrackedRegion) (T : Table) (next : ℤ) → Tells rs T → AreBelow next rs →
    FreeFrom T next
free-from rs T next tells low n l =
    sym (tells n)
    ∙ ap (option_map
    (λ (r : TrackedRegion). known_as r.owned.region.kind r.owned.region.args
    (Some r.owned.region.state))) (none-at rs low)
  where
    none-at : (rs : List TrackedRegion) → AreBelow next rs → tracked_at rs n ≡ None
    none-at [] low = refl
    none-at (r ∷ rs) low = by (same_number r.owned.region.number n) refl (none-at rs low.1)
      where
        by :
            (b : Bool) → same_number r.owned.region.number n ≡ b → tracked_at rs n ≡ None →
            tracked_at (r ∷ rs) n ≡ None
        by true e rest =
            let q = same-int r.owned.region.number n e in
            let m = low.0 in absurd (omega (arith, ints, q, m, l))
        by false e rest = ap (λ b. if b then Some r else tracked_at rs n) e ∙ rest
