-- One turn of a chain of Rests: the fact whose turn it is goes over from one table to another that
-- others can reach, by keeping its state or by a new one of which candidates hold.
use Rattle.std.proofs.Common.{◌≡◌, ◌≢◌, ℕ, suc, ◌+◌, ◌<◌, ◌≤◌, ℤ, List, [], ◌∷◌, ◌++◌, length, map, Some, refl, sym, ap, ◌∙◌, subst, arith}
use Rattle.std.specs.Prelude.{slice_get, slice_set}
use Rattle.std.specs.List.{AllByRecursion}
use Rattle.cap_lin.specs.Values.{Valuation, value}
use Rattle.cap_lin.specs.declared.row.Row.{Row}
use Rattle.cap_lin.specs.declared.row.Sort.{Sort}
use Rattle.cap_lin.specs.declared.row.Sort.TheVariants.{Int}
use Rattle.cap_prog.specs.Program.{PlainRegionType, PlainProgram}
use Rattle.cap_prog.specs.WellFormed.{ActionFits, RegionFits}
use Rattle.cap_goal_spec.specs.States.{PlainFact, PlainState, with_state}
use Rattle.cap_goal_spec.specs.Candidates.{later_state}
use Rattle.cap_rules.specs.Resting.{prove_kept, prove_stable}
use Rattle.cap_account_states.proofs.KnowsLater.{backed-at}
use Rattle.cap_account_states.specs.Nodes.{Comes}
use Rattle.cap_account_resources.specs.Parts.{known_as, Table}
use Rattle.cap_account_resources.proofs.Lists.{some-same, map-length, set-length, all-at}
use Rattle.cap_account_resources.proofs.Marks.{free}
use Rattle.cap_account_resources.proofs.Covering.{IsPartOf, free-right, Covered}
use Rattle.cap_account_resources.proofs.Interference.{Relies, Reach}
use Rattle.cap_account_resources.proofs.Stocks.{Stock}
use Rattle.cap_account_resources.proofs.Tables.{TableFits, FitsRoom}
use Rattle.cap_account_states.proofs.Terms.{Agree, agree-same, agree-trans, agree-less}
use Rattle.cap_account_states.proofs.Alike.{agree-alike}
use Rattle.cap_account_states.proofs.Meets.{Usable, usable-on, usable-old, Old, need}
use Rattle.cap_account_states.proofs.Backed.{IsFirm, Backed, Grounded, GoesOn}
use Rattle.cap_account_assertions.proofs.Named.{known_state, told_state}
use Rattle.cap_account_steps.proofs.Others.{Resting}
use Rattle.cap_account_steps.proofs.Keeping.{same_row, kept-rests}
use Rattle.cap_account_steps.proofs.Settling.{IsCandidate, HoldsAt, settled-rests}
use Rattle.cap_account_steps.proofs.Worlds.{Exact, AllOver}
use Rattle.cap_account_steps.proofs.Exact.{exact-alike, over-more, Each, each-set, HeldOf, held-of}

-- ---- what stays as it was

-- later values and a later state, which have changed in facts only, and in what is new
pub record AsBefore (v w : Valuation) (s t : PlainState) : Type 0 where
  pub agree : Agree (Old s) v w
  pub goes_on : GoesOn s t
  pub facts : length t.facts ≡ length s.facts
  pub cells : t.cells ≡ s.cells
  pub guards : t.guards ≡ s.guards
  pub envs : t.envs ≡ s.envs

pub before-same : (v : Valuation) (s : PlainState) → AsBefore v v s s
before-same v s = record {
  agree = agree-same (Old s) v;
  goes_on = record {
    sorts = λ x o e. e;
    count = omega arith;
    store = refl;
    opened = refl;
    before = refl;
    envs = omega arith;
  };
  facts = refl;
  cells = refl;
  guards = refl;
  envs = refl;
}

pub before-trans :
    (u v w : Valuation) (r s t : PlainState) → AsBefore u v r s → AsBefore v w s t →
    AsBefore u w r t
before-trans u v w r s t a b =
    let i = a.goes_on in
    let j = b.goes_on in
    let m = i.count in
    let m2 = j.count in
    let l = i.envs in
    let l2 = j.envs in
    record {
      agree =
          agree-trans (Old r) u v w a.agree
          (agree-less (Old r) (Old s) v w (λ x h. omega (arith, h, m)) b.agree);
      goes_on = record {
        sorts = λ x o e. j.sorts x o (i.sorts x o e);
        count = omega (arith, m, m2);
        store = j.store ∙ i.store;
        opened = j.opened ∙ i.opened;
        before = j.before ∙ i.before;
        envs = omega (arith, l, l2);
      };
      facts = b.facts ∙ a.facts;
      cells = b.cells ∙ a.cells;
      guards = b.guards ∙ a.guards;
      envs = b.envs ∙ a.envs;
    }

-- what was held backs the later state
pub backed-before :
    (p : PlainProgram) (ks : List ℕ) (v w : Valuation) (s t : PlainState) → AsBefore v w s t →
    Grounded p ks v s → (q : Stock) → Backed p v s q → Backed p w t q
backed-before p ks v w s t c g q b =
    let d = backed-at p s ks (Old s) v w q (usable-old ks s.sorts)
    (agree-alike (Old s) v w c.agree) g b in
    record {
      cells = λ a z. subst (λ cs. need w cs a z ≤ q.cells a z) (sym c.cells) (d.cells a z);
      guards = λ n. subst (λ ps. Covered p w ps n (q.guards n)) (sym c.guards) (d.guards n);
    }

-- ---- midway

-- a fact before number j has changed over to the second table and is firm, another one says what
-- the first table does
abbrev pub IsDue :
    List ℕ → List Sort → Valuation → Table → Table → ℕ → ℕ → PlainFact → Type 0
IsDue ks sorts v T U j i f =
    AllOver (Usable ks sorts Int) f
    × (i < j → Exact v U f × IsFirm f)
    × (j ≤ i → Exact v T f)

pub record Midway (p : PlainProgram) (ks : List ℕ) (part : Stock) (T U : Table) (j : ℕ)
    (v : Valuation) (s : PlainState) : Type 0 where
  pub old : AllByRecursion (λ k. k < length s.sorts) ks
  pub grounded : Grounded p ks v s
  pub due : Each (IsDue ks s.sorts v T U j) s.facts
  pub covered : (n : ℤ) → Covered p v s.guards n (part.guards n)

-- the next fact has changed over
pub record Turned (p : PlainProgram) (ks : List ℕ) (part : Stock) (T U : Table) (j : ℕ)
    (v w : Valuation) (s t : PlainState) : Type 0 where
  pub before : AsBefore v w s t
  pub midway : Midway p ks part T U (suc j) w t

abbrev pub kept_state : PlainState → ℕ → PlainFact → PlainState
kept_state s j f = record s { facts = slice_set s.facts j (with_state f f.state) }

abbrev pub settled_state : PlainState → ℕ → PlainFact → List Row → PlainState
settled_state s j f named = record s {
  sorts = s.sorts ++ Int ∷ [];
  rows = s.rows ++ named;
  facts = slice_set s.facts j (with_state f (later_state s));
}

-- others lead from the one table to the other, whatever the part excludes
pub record Reaching (p : PlainProgram) (part : Stock) (T U : Table) : Type 0 where
  pub regions : AllByRecursion (RegionFits p) p.regions
  pub fits : TableFits p T
  pub room : FitsRoom p T part
  pub relies : Relies p part.guards T U

-- the turn of fact f
pub record Turn (p : PlainProgram) (ks : List ℕ) (part : Stock) (T U : Table) (j : ℕ)
    (v : Valuation) (s : PlainState) : Type 0 where
  pub reaching : Reaching p part T U
  pub midway : Midway p ks part T U j v s
  pub f : PlainFact
  pub is_fact : slice_get s.facts j ≡ Some f
  pub k : PlainRegionType
  pub is_type : slice_get p.regions f.kind ≡ Some k

module _ (p : PlainProgram) (ks : List ℕ) (part : Stock) (T U : Table) (j : ℕ) (v : Valuation)
    (s : PlainState) (turn : Turn p ks part T U j v s) where
  abbrev f : PlainFact
  f = turn.f

  abbrev k : PlainRegionType
  k = turn.k

  abbrev mid : Midway p ks part T U j v s
  mid = turn.midway

  abbrev pub n : ℤ
  n = value v.whole f.region

  abbrev pub args : List ℤ
  args = map (value v.whole) f.args

  abbrev pub b : ℤ
  b = value v.whole f.state

  pub own : AllOver (Usable ks s.sorts Int) f
  own = (mid.due j f turn.is_fact).0

  exact : Exact v T f
  exact = (mid.due j f turn.is_fact).2 (omega arith)

  actions : AllByRecursion (ActionFits k) k.actions
  actions = (all-at (RegionFits p) p.regions f.kind k turn.reaching.regions turn.is_type).actions

  resting : Resting ks v s k f
  resting = record {
    sorted = mid.grounded.meets.sorted;
    rows = mid.grounded.meets.rows;
    rows_over = mid.grounded.meets.rows_over;
    region_over = own.0;
    args_over = own.1;
    each_arg = params (turn.reaching.fits n (known_as f.kind args (Some b)) exact);
    guards_over = mid.grounded.pieces_over;
  }
    where
      params :
          (y : PlainRegionType) × (slice_get p.regions f.kind ≡ Some y)
          × (y.params ≡ suc (length args)) →
          length f.args + 1 ≡ k.params
      params y =
          let same = ap
          (λ (z : PlainRegionType). z.params) (some-same y.0 k (sym y.1 ∙ turn.is_type)) in
          let size = map-length (value v.whole) f.args in
          let count = y.2 in
          omega (arith, same, size, count)

  held : HeldOf p f.kind (part.guards n)
  held = held-of p T n (known_as f.kind args (Some b)) (part.guards n) exact (turn.reaching.room n)

  covered-here : Covered p v s.guards n (Some held.mark)
  covered-here = subst (Covered p v s.guards n) held.is (mid.covered n)

  all-held : IsPartOf p (Some held.mark) (part.guards n)
  all-held =
      subst (IsPartOf p (Some held.mark)) (sym held.is) (Some free, free-right p (Some held.mark))

  -- the state to which others led the region
  abbrev pub told : ℤ
  told = told_state U v turn.f

  pub later :
      (i : ℕ) × (U n ≡ Some (known_as f.kind args (Some told)))
      × Reach p (part.guards n) f.kind n args i b told
  later =
      let r = turn.reaching.relies n f.kind args b exact in
      let is : r.0 ≡ told = sym (ap known_state r.2) in (
        r.1,
        r.2 ∙ ap (λ c. Some (known_as f.kind args (Some c))) is,
        subst (Reach p (part.guards n) f.kind n args r.1 b) is r.3,
      )

  -- the facts, where this one changes over, at values that agree and with more variables
  pub due-set :
      (sorts : List Sort) (w : Valuation) (g : PlainFact) →
      ((x : ℕ) (o : Sort) → slice_get s.sorts x ≡ Some o → slice_get sorts x ≡ Some o) →
      Agree (Old s) v w → AllOver (Usable ks sorts Int) g → Exact w U g → IsFirm g →
      Each (IsDue ks sorts w T U (suc j)) (slice_set s.facts j g)
  due-set sorts w g grow a o e firm =
      each-set (IsDue ks s.sorts v T U j) (IsDue ks sorts w T U (suc j)) s.facts j g
      other (o, (λ l. (e, firm)), (λ l. absurd (omega (arith, l)))) mid.due
    where
      lower : (i : ℕ) → i < suc j → i ≢ j → i < j
      lower i l ne = omega (arith, l, ne)

      other :
          (i : ℕ) (h : PlainFact) → i ≢ j → IsDue ks s.sorts v T U j i h →
          IsDue ks sorts w T U (suc j) i h
      other i h ne d =
          let usable = Usable ks s.sorts Int in
          let low = over-more usable (Old s) (usable-old ks s.sorts Int) h d.0 in
          let still = λ (W : Table).
          exact-alike (Old s) v w W (agree-alike (Old s) v w a) h low in (
            over-more usable (Usable ks sorts Int) (usable-on ks s.sorts sorts grow Int) h d.0,
            (λ l. let q = d.1 (lower i l ne) in (still U q.0, q.1)),
            (λ l. still T (d.2 (omega (arith, l)))),
          )

  -- candidates that stay true hold of that state too
  pub candidates-stay :
      (named : List Row) → AllByRecursion (IsCandidate s) named →
      Comes (prove_stable k s f named k.actions) (λ x. Unit {0}) →
      AllByRecursion (HoldsAt v s b) named → AllByRecursion (HoldsAt v s told) named
  candidates-stay named is c h =
      settled-rests p ks v s k f turn.is_type actions resting held.mark held.of_kind covered-here
      named is (λ x. Unit {0}) c (part.guards n) all-held later.0 b told later.2 h

  -- ---- the same state

  pub kept :
      Comes (prove_kept k s f (same_row s f) k.actions) (λ x. Unit {0}) →
      Turned p ks part T U j v v s (kept_state s j f)
  kept c =
      let same : told ≡ b =
      kept-rests p ks v s k f turn.is_type actions resting held.mark held.of_kind covered-here
      (λ x. Unit {0}) own.2 c (part.guards n) all-held later.0 told later.2 in
      let m = mid.grounded.meets in
      record {
        before = record {
          agree = agree-same (Old s) v;
          goes_on = record {
            sorts = λ x o e. e;
            count = omega arith;
            store = refl;
            opened = refl;
            before = refl;
            envs = omega arith;
          };
          facts = set-length s.facts j (with_state f f.state);
          cells = refl;
          guards = refl;
          envs = refl;
        };
        midway = record {
          old = mid.old;
          grounded = record {
            meets = record {
              sorted = m.sorted;
              rows = m.rows;
              rows_over = m.rows_over;
              cells_over = m.cells_over;
              positive = m.positive;
              store_over = m.store_over;
            };
            pieces_over = mid.grounded.pieces_over;
            pieces_fit = mid.grounded.pieces_fit;
          };
          due =
              due-set s.sorts v (with_state f f.state) (λ x o e. e) (agree-same (Old s) v) own
              (later.1 ∙ ap (λ z. Some (known_as f.kind args (Some z))) same) refl;
          covered = mid.covered;
        };
      }
