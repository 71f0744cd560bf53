-- A state to which an item is given has just what the item draws more.
use Rattle.std.proofs.Common.{◌≡◌, ℕ, ◌<◌, List, [], length, Option, Some, None, refl, sym, ap, ◌∙◌, subst}
use Rattle.std.specs.Prelude.{slice_get, IsSomeAnd}
use Rattle.std.specs.List.{AllByRecursion}
use Rattle.cap_lin.specs.Linear.{Linear, variable}
use Rattle.cap_lin.specs.Rows.{row_of}
use Rattle.cap_lin.specs.Values.{Valuation, value}
use Rattle.cap_lin.specs.declared.row.Sort.TheVariants.{Int}
use Rattle.cap_lin.specs.declared.row.Op.TheVariants.{Ge as AtLeast}
use Rattle.cap_galg.specs.Algebras.{atoms, atom_algebra}
use Rattle.cap_gsolve.specs.Pieces.{piece}
use Rattle.cap_gsolve.specs.Meaning.{Fits}
use Rattle.cap_syntax.specs.declared.place.Place.{Place}
use Rattle.cap_prog.specs.declared.assertion.Comp.{Comp}
use Rattle.cap_prog.specs.declared.assertion.Slot.{Slot}
use Rattle.cap_prog.specs.declared.assertion.Asked.{Asked}
use Rattle.cap_prog.specs.Program.{PlainItem, compare, choose, fact, atom, cell, Items, item, PlainRegionType, PlainProgram}
use Rattle.cap_prog.specs.Scopes.{Scope, SlotFits}
use Rattle.cap_prog.specs.WellFormed.{AskedFits, AtomFits, FactFits}
use Rattle.cap_machine_accounts.specs.Parts.{algebra_of, kind_algebra}
use Rattle.cap_goal_spec.specs.States.{PlainState}
use Rattle.cap_goal_spec.specs.Choices.{PlainTrees}
use Rattle.cap_goal_spec.specs.Environments.{one_value}
use Rattle.cap_rules.specs.Making.{env_at, fact_of}
use Rattle.cap_rules.specs.Giving.{give_term, give_slot, give_slots, give_form, give_sides, give_item}
use Rattle.cap_account_resources.specs.Parts.{Table}
use Rattle.cap_account_resources.proofs.Stocks.{Stock, cell_stock, guard_stock, both, Inside, Composes, none-right, inside-trans, inside-first, inside-same, inside-both, composes-inside}
use Rattle.cap_account_states.specs.Nodes.{Comes}
use Rattle.cap_account_states.proofs.Adding.{comes-piece, piece_added}
use Rattle.cap_account_states.proofs.Alike.{agree-alike}
use Rattle.cap_account_states.proofs.Attempts.{comes-bind, comes-comparison, after-cell, cell_added, row_added}
use Rattle.cap_account_states.proofs.Backed.{Grounded}
use Rattle.cap_account_states.proofs.Filled.{Filled, filled_at, fill_slot, fill_slots}
use Rattle.cap_account_states.proofs.Meets.{Old, usable-old, variable-value}
use Rattle.cap_account_states.proofs.Naming.{Step, step-trans}
use Rattle.cap_account_states.proofs.PiecesHeld.{piece_stock, piece-known}
use Rattle.cap_account_assertions.proofs.Filling.{fill_form, fill_item}
use Rattle.cap_account_assertions.proofs.GiveItems.{IsPlain}
use Rattle.cap_account_assertions.proofs.GiveSlots.{slots-given, shaped-takes, form-given}
use Rattle.cap_account_assertions.proofs.GiveState.{Underway, underway-step, Due, drawn-held}
use Rattle.cap_account_assertions.proofs.GiveTerms.{term-given, slot-given, sides-given, sides-row, over-later, number-later}
use Rattle.cap_owners_walks_laws.proofs.Parts.Held.{IsOf, own-inside}
use Rattle.cap_owners_walks_laws.proofs.Parts.Added.{of-at, of-same, with-cell, with-piece}
use Rattle.cap_owners_walks_laws.proofs.Fills.Amounts.{item_drawn}
use Rattle.cap_owners_walks_laws.proofs.Passes.Sorting.{keeps-fact}

-- ---- what fits

fact-slots :
    (sc : Scope) (o : Option PlainRegionType) (args : List Slot) (x : Slot) →
    IsSomeAnd o (λ type. FactFits sc type args x) →
    AllByRecursion (SlotFits sc Int) args × SlotFits sc Int x
fact-slots sc None args x h = absurd h
fact-slots sc (Some type) args x h = (h.slots, h.value)

atom-form :
    (sc : Scope) (o : Option PlainRegionType) (i : ℕ) (asked : Asked) →
    IsSomeAnd o (λ type. AtomFits sc type i asked) →
    (i < atoms (kind_algebra o)) × AskedFits sc (atom_algebra (kind_algebra o) i) asked
atom-form sc None i asked h = absurd h
atom-form sc (Some type) i asked h = (h.exists, h.form)

-- ---- names get variables

-- of a state that only gets variables it is what it was
pub of-step :
    (p : PlainProgram) (T : Table) (sc : Scope) (e : ℕ) (a v : Valuation) (s t : PlainState)
    (held q : Stock) → Underway p T sc e a v s held → (m : Step sc e a v s t) → IsOf p v s q →
    IsOf p m.w t q
of-step p T sc e a v s t held q u m h =
    let g : Grounded p [] v s =
    record {
      meets = u.ready.meets;
      pieces_over = u.knows.pieces_over;
      pieces_fit = u.knows.pieces_fit;
    } in
    of-same p s t m.w q m.cells m.guards
    (of-at p s [] (Old s) v m.w q (usable-old [] s.sorts) (agree-alike (Old s) v m.w m.agree) g h)

-- ---- an item

module _ (p : PlainProgram) (T : Table) (sc : Scope) (e : ℕ) (a : Valuation) (total : Stock)
    (goal : Filled) (way : PlainTrees → PlainTrees) where
  abbrev IsDue : PlainItem → Items → Valuation → PlainState → Type 0
  IsDue one more v s = Due p T sc e a total goal way (item one more) v s

  -- the state once it is given, and that it has just that more
  pub record ItemJust (i : PlainItem) (more : Items) (v : Valuation) (s : PlainState)
      (P : PlainState → Type 0) (d : IsDue i more v s) : Type 0 where
    pub after : PlainState
    pub w : Valuation
    pub filled :
        filled_at e w after ≡ fill_item p T a i d.left d.draws.0 d.draws.1 (filled_at e v s)
    pub just :
        (q : Stock) → IsOf p v s q →
        IsOf p w after (both p q (item_drawn p T a i d.left d.draws.0 d.draws.1))
    pub comes : P after

  compare-just :
      (c : Comp) (more : Items) (v : Valuation) (s : PlainState) (P : PlainState → Type 0)
      (d : IsDue (compare c) more v s) → Comes (give_item p s e (compare c)) P →
      ItemJust (compare c) more v s P d
  compare-just c more v s P d h =
      let g = sides-given sc e a v s c _ d.underway.ready d.fit.0
      (comes-bind (give_sides s e c) _ P h) in
      let m = sides-row sc e a v s c c.op _ g d.draws.1.0 in
      let t = row_added g.after (row_of g.left c.op g.right c.sort) in
      record {
        after = t;
        w = m.w;
        filled = g.filled;
        just = λ q o.
            subst (IsOf p m.w t) (sym (none-right p q))
            (of-step p T sc e a v s t d.held q d.underway m o);
        comes = comes-comparison g.after g.left c.op g.right c.sort P g.comes;
      }

  cell-just :
      (place : Place) (x : Linear) (y : Slot) (more : Items) (v : Valuation) (s : PlainState)
      (P : PlainState → Type 0) (d : IsDue (cell place x y) more v s) →
      Comes (give_item p s e (cell place x y)) P → ItemJust (cell place x y) more v s P d
  cell-just place x y more v s P d h =
      let took = d.draws.1 in
      let g = term-given sc e a v s Int x _ d.underway.ready d.fit.0.0
      (comes-bind (give_term s e Int x) _ P h) in
      let k = slot-given sc e a g.step.w g.after y took.0 _ g.step.ready d.fit.0.1 took.2
      (comes-bind (give_slot g.after e Int y) _ P g.comes) in
      let m = step-trans sc e a v s g.after k.after g.step k.step in
      let w = m.w in
      let at : value w.whole g.term ≡ value a.whole x =
      number-later g.after g.step.w w Int g.term k.step.agree g.over ∙ g.number_is in
      let same : cell_stock (value w.whole g.term) (value w.whole k.term)
      ≡ cell_stock (value a.whole x) took.0 =
      λ j. cell_stock (at j) (k.number_is j) in
      let t = row_added (cell_added k.after g.term k.term) (row_of g.term AtLeast one_value Int) in
      record {
        after = t;
        w = w;
        filled = k.filled ∙ ap (fill_slot a y took.0) g.filled;
        just = λ q o.
            subst (λ r. IsOf p w t (both p q r)) same
            (of-same p (cell_added k.after g.term k.term) t w
            (both p q (cell_stock (value w.whole g.term) (value w.whole k.term))) refl refl
            (with-cell p w k.after g.term k.term q
            (of-step p T sc e a v s k.after d.held q d.underway m o)));
        comes =
            comes-comparison (cell_added k.after g.term k.term) g.term AtLeast one_value Int P
            (after-cell k.after g.term k.term _ P k.comes);
      }

  fact-just :
      (place : Place) (n k : ℕ) (args : List Slot) (x : Slot) (more : Items) (v : Valuation)
      (s : PlainState) (P : PlainState → Type 0) (d : IsDue (fact place n k args x) more v s) →
      Comes (give_item p s e (fact place n k args x)) P →
      ItemJust (fact place n k args x) more v s P d
  fact-just place n k args x more v s P d h =
      let tells = d.draws.1.0 in
      let f = fact-slots sc (slice_get p.regions k) args x d.fit.0.1 in
      let g = term-given sc e a v s Int (variable n) _ d.underway.ready (d.fit.0.0, tt)
      (comes-bind (give_term s e Int (variable n)) _ P h) in
      let b = slots-given sc e a args tells.0 g.step.w g.after _ g.step.ready f.0 tells.3
      (comes-bind (give_slots g.after e args) _ P g.comes) in
      let c = slot-given sc e a b.step.w b.after x tells.1 _ b.step.ready f.1 tells.4
      (comes-bind (give_slot b.after e Int x) _ P b.comes) in
      let m = step-trans sc e a v s g.after c.after g.step
      (step-trans sc e a g.step.w g.after b.after c.after b.step c.step) in
      let t = keeps-fact c.after (fact_of g.term k b.made c.term) P c.comes in
      record {
        after = t.0;
        w = m.w;
        filled =
            (λ j. record {
              env = env_at (record t.0 { envs = t.2 j }) e;
              next = length (t.1 j);
              values = m.w;
            })
            ∙ c.filled
            ∙ ap (fill_slot a x tells.1) (b.filled ∙ ap (fill_slots a args tells.0) g.filled);
        just = λ q o.
            subst (IsOf p m.w t.0) (sym (none-right p q))
            (of-same p c.after t.0 m.w q t.4 t.5
            (of-step p T sc e a v s c.after d.held q d.underway m o));
        comes = t.3;
      }

  atom-just :
      (ne : Composes total) (place : Place) (n k l : ℕ) (asked : Asked) (more : Items)
      (v : Valuation) (s : PlainState) (P : PlainState → Type 0)
      (d : IsDue (atom place n k l asked) more v s) →
      Comes (give_item p s e (atom place n k l asked)) P →
      ItemJust (atom place n k l asked) more v s P d
  atom-just ne place n k l asked more v s P d h =
      let b = atom_algebra (algebra_of p k) l in
      let wants = d.draws.1.1 in
      let y = wants.element in
      let fit = atom-form sc (slice_get p.regions k) l asked d.fit.0.1 in
      let g = term-given sc e a v s Int (variable n) _ d.underway.ready (d.fit.0.0, tt)
      (comes-bind (give_term s e Int (variable n)) _ P h) in
      let f = form-given sc e a g.step.w g.after y _ g.step.ready asked b fit.1 wants.wanted
      (comes-bind (give_form g.after e asked) _ P g.comes) in
      let m = step-trans sc e a v s g.after f.after g.step f.step in
      let w = m.w in
      let now = underway-step p T sc e a v s f.after d.held d.underway m in
      let r = piece g.term k l f.made in
      let at : a.whole n ≡ value w.whole g.term =
      sym (number-later g.after g.step.w w Int g.term f.step.agree g.over
      ∙ g.number_is
      ∙ variable-value a n) in
      let c = piece_stock p w r y in
      let same : guard_stock (a.whole n) d.draws.1.0 ≡ c =
      λ j. guard_stock (at j) (wants.is_mark j) in
      let room = drawn-held p T sc e a total goal way (atom place n k l asked) more v s P d c
      (subst (λ z. Inside p (both p z d.draws.0) d.left) same d.draws.1.2) in
      let held = both p d.held c in
      let inside = inside-trans p held (both p held d.draws.0) total
      (inside-first p held d.draws.0) room in
      let composes = composes-inside p held total inside ne in
      let fits : Fits (algebra_of p k) r = (fit.0, shaped-takes sc b asked f.made fit.1 f.is.1) in
      let known = piece-known p [] w T f.after r y d.held now.ready.meets now.knows fits
      (over-later g.after f.after Int g.term f.step.same g.over, f.is.2) f.is.0 composes in
      record {
        after = piece_added p f.after r;
        w = w;
        filled = f.filled ∙ ap (fill_form a asked y wants.wanted) g.filled;
        just = λ q o.
            let mine = of-step p T sc e a v s f.after d.held q d.underway m o in
            subst (λ z. IsOf p w (piece_added p f.after r) (both p q z)) (sym same)
            (with-piece p w f.after r y d.held held q now.knows.pieces_fit fits f.is.0
            now.knows.backed known.knows.backed mine
            (composes-inside p (both p q c) held
            (inside-both p q d.held c c
            (own-inside p w f.after d.held q now.knows.pieces_fit now.knows.backed mine)
            (inside-same p c)) composes));
        comes = (comes-piece p f.after r P f.comes).2;
      }

  -- an item that isn't conditional
  pub item-just :
      (ne : Composes total) (i : PlainItem) → IsPlain i → (more : Items) (v : Valuation)
      (s : PlainState) (P : PlainState → Type 0) (d : IsDue i more v s) →
      Comes (give_item p s e i) P → ItemJust i more v s P d
  item-just ne (compare c) ok more v s P d k = compare-just c more v s P d k
  item-just ne (choose c x y) ok more v s P d k = absurd ok
  item-just ne (fact place n k args x) ok more v s P d c =
      fact-just place n k args x more v s P d c
  item-just ne (atom place n k i asked) ok more v s P d c =
      atom-just ne place n k i asked more v s P d c
  item-just ne (cell place x y) ok more v s P d c = cell-just place x y more v s P d c
