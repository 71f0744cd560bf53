-- What a move says: the region keeps its state, or an action leads to the new one whose guards are
-- part of what the frame held.
use Rattle.std.proofs.Common.{◌≡◌, ◌⊎◌, inl, inr, ℕ, zero, suc, ◌+◌, ℤ, Option, List, length, map, Some}
use Rattle.std.specs.Prelude.{slice_get}
use Rattle.cap_lin.specs.Linear.{Linear}
use Rattle.cap_lin.specs.Values.{Valuation, value}
use Rattle.cap_lin.specs.declared.row.Sort.TheVariants.{Int}
use Rattle.cap_lin.specs.declared.row.Op.TheVariants.{Eq as Equal}
use Rattle.cap_prog.specs.Program.{PlainAction, PlainRegionType, PlainProgram}
use Rattle.cap_prog.specs.WellFormed.{ActionFits, RegionFits}
use Rattle.cap_goal_spec.specs.States.{PlainFact, PlainState}
use Rattle.cap_rules.specs.Making.{is_empty, prove_equal}
use Rattle.cap_rules.specs.Closing.{prove_action, prove_move}
use Rattle.cap_account_states.specs.Nodes.{Comes}
use Rattle.cap_account_resources.proofs.Marks.{Mark}
use Rattle.cap_account_resources.proofs.Interference.{Can}
use Rattle.cap_account_resources.proofs.Lists.{all-more, all-at}
use Rattle.cap_account_resources.proofs.Stocks.{Stock}
use Rattle.cap_account_states.proofs.Terms.{Over, vars-more}
use Rattle.cap_account_states.proofs.Attempts.{after-found, after-need, comes-proved}
use Rattle.cap_account_states.proofs.Meets.{Usable, Meets}
use Rattle.cap_account_states.proofs.Guarding.{proved-relates}
use Rattle.cap_account_steps.proofs.Worlds.{AllOver, Earlier}
use Rattle.cap_account_steps.proofs.Atoms.{guards-within}
use Rattle.cap_account_steps.proofs.Actions.{matches}

-- ---- definitions

-- a region keeps its state, or takes an action that what is held allows
abbrev pub Moves : PlainProgram → Option Mark → ℕ → ℤ → List ℤ → ℤ → ℤ → Type 0
Moves p held k n args old new = (new ≡ old) ⊎ Can p held k n args old new

-- the fact's region does, from its state to this one, where a part is held
abbrev pub MovesTo : PlainProgram → Stock → Valuation → PlainFact → Linear → Type 0
MovesTo p part v f new =
    let at = value v.whole in
    Moves p (part.guards (at f.region)) f.kind (at f.region) (map at f.args) (at f.state) (at new)

-- a region's fact, over usable variables, and its type
pub record Movable (p : PlainProgram) (ks : List ℕ) (s : PlainState) (f : PlainFact)
    (k : PlainRegionType) : Type 0 where
  pub over : AllOver (Usable ks s.sorts Int) f
  pub is_type : slice_get p.regions f.kind ≡ Some k
  pub fits : RegionFits p k
  pub arity : length f.args + 1 ≡ k.params

-- and in a later state, in which what was usable still is
pub movable-on :
    (p : PlainProgram) (ks js : List ℕ) (s t : PlainState) (f : PlainFact) (k : PlainRegionType) →
    ((x : ℕ) → Usable ks s.sorts Int x → Usable js t.sorts Int x) → Movable p ks s f k →
    Movable p js t f k
movable-on p ks js s t f k g m =
    let R = Usable ks s.sorts Int in
    let S = Usable js t.sorts Int in
    record {
      over = (
        vars-more R S g f.region.parts m.over.0,
        all-more (Over R) (Over S) (λ a h. vars-more R S g a.parts h) f.args m.over.1,
        vars-more R S g f.state.parts m.over.2,
      );
      is_type = m.is_type;
      fits = m.fits;
      arity = m.arity;
    }

-- ---- what a move says

module _ (p : PlainProgram) (ks : List ℕ) (v : Valuation) (s : PlainState) (me : Meets ks v s)
    (f : PlainFact) (k : PlainRegionType) (is : Movable p ks s f k) (new : Linear)
    (later : Over (Usable ks s.sorts Int) new) (P : Unit {0} → Type 0) where
  -- move 0 keeps the state
  pub kept-says :
      (spans : List ℕ) → Comes (prove_move k s f new 0 spans) P →
      (value v.whole new ≡ value v.whole f.state) × P tt
  kept-says spans c =
      let q = after-need (is_empty spans) (λ u. prove_equal s new f.state) P c in
      let w = comes-proved s.rows new Equal f.state Int P q.1 in
      (proved-relates ks v s new Equal f.state Int me w.0 later is.over.2, w.1)

  -- its guards are cut out of what covers the pieces that were there before
  action-says :
      (part : Stock) → Earlier p ks v s part → (i : ℕ) (a : PlainAction) →
      slice_get k.actions i ≡ Some a → (spans : List ℕ) →
      Comes (prove_action s f new a spans) P → MovesTo p part v f new × P tt
  action-says part before i a e spans c =
      let fits = all-at (ActionFits k) k.actions i a is.fits.actions e in
      let n = value v.whole f.region in
      let m = matches p ks v s me f is.over k new later a fits before.over before.fit spans
      is.arity P c in
      let w = guards-within p v m.0.values f.region f.kind a.guards s.before (part.guards n)
      before.fit (before.covered n) fits.distinct m.0.guards in (
        inr (
          w.0,
          record {
            type = k;
            is_type = is.is_type;
            number = i;
            action = a;
            is_action = e;
            values = m.0.values;
            args_are = m.0.args;
            source_is = m.0.source_is;
            target_is = m.0.target_is;
            conditions = m.0.conditions;
            guards = w.1;
          },
          w.2,
        ),
        m.1,
      )

  pub move-says :
      (part : Stock) → Earlier p ks v s part → (m : ℕ) (spans : List ℕ) →
      Comes (prove_move k s f new m spans) P → MovesTo p part v f new × P tt
  move-says part before zero spans c = let w = kept-says spans c in (inl w.0, w.1)
  move-says part before (suc i) spans c =
      let w = after-found (slice_get k.actions i) (λ a. prove_action s f new a spans) P c in
      action-says part before i w.0 w.1 spans w.2
