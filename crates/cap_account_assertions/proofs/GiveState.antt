-- What giving keeps of a state: its names have the values that are given, and all that it has is
-- held, within what is held in all.
use Rattle.std.proofs.Common.{◌≡◌, ℕ, false, [], refl, sym, ap, ◌∙◌, subst, arith}
use Rattle.std.specs.List.{AllByRecursion}
use Rattle.cap_lin.specs.Values.{Valuation}
use Rattle.cap_prog.specs.Program.{PlainItem, Items, item, PlainProgram}
use Rattle.cap_prog.specs.Scopes.{Scope}
use Rattle.cap_goal_spec.specs.States.{PlainState}
use Rattle.cap_goal_spec.specs.Choices.{PlainTrees}
use Rattle.cap_account_resources.specs.Parts.{Table}
use Rattle.cap_account_resources.proofs.Stocks.{Stock, both, stock-laws, Inside, inside-trans, inside-both, inside-same}
use Rattle.cap_account_states.proofs.Terms.{Agree, agree-same, agree-trans, agree-less}
use Rattle.cap_account_states.proofs.Alike.{agree-alike}
use Rattle.cap_account_states.proofs.Meets.{Meets, Old}
use Rattle.cap_account_states.proofs.Filled.{Filled, filled_at}
use Rattle.cap_account_states.proofs.Naming.{Ready, Step}
use Rattle.cap_account_states.proofs.Items.{AreFit, fits-more}
use Rattle.cap_account_states.proofs.Backed.{IsFirm, Knows, GoesOn, OtherEnvs}
use Rattle.cap_account_states.proofs.KnowsLater.{IsKept, old-steady, knows-on}
use Rattle.cap_account_assertions.proofs.Asserted.{DrawsAll}
use Rattle.cap_account_assertions.proofs.Filling.{fill_item, fill_items}
use Rattle.cap_account_assertions.proofs.GivenTrees.{has_items, item_trees, items_trees}

-- ---- states that go on

-- the second state goes on from the first, at values that agree; this environment may have changed
pub record Onward (e : ℕ) (v w : Valuation) (s t : PlainState) : Type 0 where
  pub agree : Agree (Old s) v w
  pub goes_on : GoesOn s t
  pub others : OtherEnvs e s t

pub onward-trans :
    (e : ℕ) (u v w : Valuation) (r s t : PlainState) → Onward e u v r s → Onward e v w s t →
    Onward e u w r t
onward-trans e u v w r s t h k =
    let c = h.goes_on.count in
    let d = k.goes_on.count in
    let n = h.goes_on.envs in
    let m = k.goes_on.envs in
    record {
      agree =
          agree-trans (Old r) u v w h.agree
          (agree-less (Old r) (Old s) v w (λ x l. omega (arith, c, l)) k.agree);
      goes_on = record {
        sorts = λ x o q. k.goes_on.sorts x o (h.goes_on.sorts x o q);
        count = omega (arith, c, d);
        store = k.goes_on.store ∙ h.goes_on.store;
        opened = k.goes_on.opened ∙ h.goes_on.opened;
        before = k.goes_on.before ∙ h.goes_on.before;
        envs = omega (arith, n, m);
      };
      others = λ x l ne. k.others x (omega (arith, l, n)) ne ∙ h.others x l ne;
    }

pub onward-none : (e : ℕ) (v : Valuation) (s : PlainState) → Onward e v v s s
onward-none e v s = record {
  agree = agree-same (Old s) v;
  goes_on = record {
    sorts = λ x o q. q;
    count = omega arith;
    store = refl;
    opened = refl;
    before = refl;
    envs = omega arith;
  };
  others = λ x l ne. refl;
}

-- names that get variables change no lists but those of variables and rows
pub step-kept :
    (sc : Scope) (e : ℕ) (a v : Valuation) (s t : PlainState) → (m : Step sc e a v s t) →
    IsKept [] v m.w s t
step-kept sc e a v s t m = record {
  alike = old-steady [] v m.w s (agree-alike (Old s) v m.w m.agree);
  sorts = m.same.sorts;
  facts = m.same.facts;
  guards = m.guards;
  opened = m.same.opened;
}

-- the first state with the rows, cells, pieces and facts of the second
abbrev pub with_lists : PlainState → PlainState → PlainState
with_lists s u =
    record s { rows = u.rows; cells = u.cells; guards = u.guards; facts = u.facts }

pub onward-lists :
    (sc : Scope) (e : ℕ) (a v : Valuation) (s t u : PlainState) → (m : Step sc e a v s t) →
    Onward e v m.w s (with_lists t u)
onward-lists sc e a v s t u m =
    let n = m.same.envs in
    record {
      agree = m.agree;
      goes_on = record {
        sorts = m.same.sorts;
        count = m.same.count;
        store = m.same.store;
        opened = m.same.opened;
        before = m.same.before;
        envs = omega (arith, n);
      };
      others = λ x l ne. m.others x ne;
    }

pub onward-step :
    (sc : Scope) (e : ℕ) (a v : Valuation) (s t : PlainState) → (m : Step sc e a v s t) →
    Onward e v m.w s t
onward-step sc e a v s t m = onward-lists sc e a v s t t m

-- ---- what giving keeps

module _ (p : PlainProgram) (T : Table) (sc : Scope) (e : ℕ) (a : Valuation) where
  -- the names have the values of `a`; what the state has is held
  pub record Underway (v : Valuation) (s : PlainState) (held : Stock) : Type 0 where
    pub ready : Ready sc e a v s
    pub knows : Knows p [] v T s held
    pub firm : AllByRecursion IsFirm s.facts

  pub underway-step :
      (v : Valuation) (s t : PlainState) (q : Stock) → Underway v s q →
      (m : Step sc e a v s t) → Underway m.w t q
  underway-step v s t q u m = record {
    ready = m.ready;
    knows =
        knows-on p [] v m.w s t (step-kept sc e a v s t m) T q u.ready.meets m.cells u.knows;
    firm = subst (AllByRecursion IsFirm) (sym m.same.facts) u.firm;
  }

  module _ (total : Stock) (goal : Filled) (way : PlainTrees → PlainTrees) where
    -- these items are still to be given, out of what is left beside what is held; then the
    -- environment, the number of variables and the values are these, and it leads to these trees
    pub record Due (items : Items) (v : Valuation) (s : PlainState) : Type 0 where
      pub held : Stock
      pub left : Stock
      pub rest : Stock
      pub underway : Underway v s held
      pub fit : AreFit p sc items
      pub draws : DrawsAll p T a items left rest
      pub fills : fill_items p T a items left rest draws (filled_at e v s) ≡ goal
      pub leads : (ks : PlainTrees) → items_trees p T a items false left rest draws ks ≡ way ks
      pub room : Inside p (both p held left) total

    -- what is still to be drawn
    abbrev pub StillDrawn : Items → Type 0
    StillDrawn items = (left : Stock) × (rest : Stock) × DrawsAll p T a items left rest

    abbrev pub still_drawn :
        (items : Items) (v : Valuation) (s : PlainState) → Due items v s → StillDrawn items
    still_drawn items v s d = (d.left, d.rest, d.draws)

    module _ (one : PlainItem) (more : Items) (v : Valuation) (s : PlainState)
        (P : PlainState → Type 0) (d : Due (item one more) v s) where
      -- the state once the item is given, with the rest still to be drawn as before
      pub record ItemGiven : Type 0 where
        pub after : PlainState
        pub w : Valuation
        pub due : Due more w after
        pub drawn : still_drawn more w after due ≡ (d.draws.0, d.rest, d.draws.2)
        pub filled :
            filled_at e w after ≡ fill_item p T a one d.left d.draws.0 d.draws.1 (filled_at e v s)
        pub onward : Onward e v w s after
        pub comes : P after

      -- what the item draws is beside what is held
      pub drawn-beside : (x : Stock) → Inside p x d.left → Inside p (both p d.held x) total
      drawn-beside x le =
          inside-trans p (both p d.held x) (both p d.held d.left) total
          (inside-both p d.held d.held x d.left (inside-same p d.held) le) d.room

      pub drawn-held :
          (q : Stock) → Inside p (both p q d.draws.0) d.left →
          Inside p (both p (both p d.held q) d.draws.0) total
      drawn-held q le =
          subst (λ x. Inside p x total) (sym ((stock-laws p).assoc d.held q d.draws.0))
          (drawn-beside (both p q d.draws.0) le)

      -- its names have got variables, and then rows, cells, pieces and facts have changed to these
      pub goes :
          (t u : PlainState) (m : Step sc e a v s t) (q : Stock) →
          filled_at e m.w t ≡ fill_item p T a one d.left d.draws.0 d.draws.1 (filled_at e v s) →
          Meets [] m.w (with_lists t u) → Knows p [] m.w T (with_lists t u) q →
          ((ks : PlainTrees) →
          item_trees p T a one (has_items more) d.left d.draws.0 d.draws.1 ks ≡ ks) →
          AllByRecursion IsFirm u.facts → Inside p (both p q d.draws.0) total →
          P (with_lists t u) → ItemGiven
      goes t u m q filled meets knows still firm room c = record {
        filled = filled;
        drawn = refl;
        after = with_lists t u;
        w = m.w;
        due = record {
          held = q;
          left = d.draws.0;
          rest = d.rest;
          underway = record {
            ready = record {
              meets = meets;
              there = m.ready.there;
              placed = m.ready.placed;
              means = m.ready.means;
            };
            knows = knows;
            firm = firm;
          };
          fit = fits-more p sc one more d.fit;
          draws = d.draws.2;
          fills = ap (fill_items p T a more d.draws.0 d.rest d.draws.2) filled ∙ d.fills;
          leads = λ ks.
              ap (items_trees p T a more false d.draws.0 d.rest d.draws.2) (sym (still ks))
              ∙ d.leads ks;
          room = room;
        };
        onward = onward-lists sc e a v s t u m;
        comes = c;
      }
