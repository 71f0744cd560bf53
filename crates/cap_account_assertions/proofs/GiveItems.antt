-- Giving one item to a state that is backed: the state stays so, with what the item draws.
use Rattle.std.proofs.Common.{◌≡◌, ℕ, ◌<◌, ℤ, pos, ◌<ℤ◌, ◌≤ℤ◌, List, [], ◌∷◌, map, Option, Some, None, refl, sym, ap, ◌∙◌, subst, arith}
use Rattle.std.proofs.lemmas.Int.{ints}
use Rattle.std.specs.Prelude.{slice_get, IsSomeAnd}
use Rattle.std.specs.List.{AllByRecursion}
use Rattle.cap_lin.specs.Linear.{Linear, variable}
use Rattle.cap_lin.specs.Rows.{row_of}
use Rattle.cap_lin.specs.Values.{Valuation, value}
use Rattle.cap_lin.specs.declared.row.Sort.TheVariants.{Int}
use Rattle.cap_lin.specs.declared.row.Op.TheVariants.{Ge as AtLeast}
use Rattle.cap_lin.proofs.Rows.{row_of-means}
use Rattle.cap_galg.specs.Algebras.{atoms, atom_algebra}
use Rattle.cap_gsolve.specs.Pieces.{piece}
use Rattle.cap_syntax.specs.declared.place.Place.{Place}
use Rattle.cap_prog.specs.declared.assertion.Comp.{Comp}
use Rattle.cap_prog.specs.declared.assertion.Slot.{Slot}
use Rattle.cap_prog.specs.declared.assertion.Asked.{Asked}
use Rattle.cap_prog.specs.Program.{PlainItem, compare, choose, fact, atom, cell, Items, item, PlainRegionType, PlainProgram}
use Rattle.cap_prog.specs.Scopes.{HasSort, Scope, SlotFits}
use Rattle.cap_prog.specs.WellFormed.{AskedFits, AtomFits, FactFits}
use Rattle.cap_machine_accounts.specs.Assertions.{SlotIs, SlotsAre}
use Rattle.cap_machine_accounts.specs.Parts.{algebra_of, kind_algebra}
use Rattle.cap_goal_spec.specs.States.{PlainFact, PlainState}
use Rattle.cap_goal_spec.specs.Choices.{PlainTrees}
use Rattle.cap_goal_spec.specs.Environments.{one_value}
use Rattle.cap_rules.specs.Making.{fact_of, with_fact}
use Rattle.cap_rules.specs.Giving.{give_term, give_slot, give_slots, give_form, give_sides, give_item}
use Rattle.cap_account_states.proofs.Alike.{values-alike, agree-alike, alike-less}
use Rattle.cap_account_resources.specs.Parts.{Table, known_as}
use Rattle.cap_account_resources.proofs.Lists.{all-more, all-both}
use Rattle.cap_account_resources.proofs.Stocks.{Stock, cell_stock, guard_stock, both, Inside, Composes, inside-trans, inside-first, composes-inside}
use Rattle.cap_account_states.specs.Nodes.{Comes}
use Rattle.cap_account_states.proofs.Terms.{Over, row-over, value-number, Agree}
use Rattle.cap_account_states.proofs.Attempts.{comes-bind, comes-comparison, after-cell, cell_added, row_added}
use Rattle.cap_account_states.proofs.Meets.{Usable, usable-old, CellOver, Meets, Old, meets-row, variable-value}
use Rattle.cap_account_states.proofs.Filled.{Filled, filled_at, fill_parts, fill_slot, fill_slots}
use Rattle.cap_account_states.proofs.Naming.{Ready, Step, step-trans}
use Rattle.cap_account_states.proofs.Adding.{comes-piece, piece_added}
use Rattle.cap_account_states.proofs.Facts.{StateHolds, facts-same, FactHolds, FactOver, fact_added, comes-fact, no-other-type}
use Rattle.cap_account_states.proofs.Backed.{IsFirm, Knows}
use Rattle.cap_account_states.proofs.KnowsLater.{knows-more}
use Rattle.cap_account_states.proofs.PiecesHeld.{fact-known, piece_stock, piece-known}
use Rattle.cap_account_assertions.proofs.Filling.{fill_form}
use Rattle.cap_account_assertions.proofs.GiveTerms.{term-given, slot-given, sides-given, sides-row, over-later, number-later, need-join}
use Rattle.cap_account_assertions.proofs.GiveSlots.{slots-given, shaped-takes, form-given}
use Rattle.cap_account_assertions.proofs.GiveState.{underway-step, Due, ItemGiven, drawn-beside, drawn-held, goes}

-- ---- what fits

-- the slots of a fact, and an atom that a type has
fact-slots :
    (sc : Scope) (o : Option PlainRegionType) (args : List Slot) (x : Slot) →
    IsSomeAnd o (λ type. FactFits sc type args x) →
    AllByRecursion (SlotFits sc Int) args × SlotFits sc Int x
fact-slots sc None args x h = absurd h
fact-slots sc (Some type) args x h = (h.slots, h.value)

atom-form :
    (sc : Scope) (o : Option PlainRegionType) (i : ℕ) (asked : Asked) →
    IsSomeAnd o (λ type. AtomFits sc type i asked) →
    (i < atoms (kind_algebra o)) × AskedFits sc (atom_algebra (kind_algebra o) i) asked
atom-form sc None i asked h = absurd h
atom-form sc (Some type) i asked h = (h.exists, h.form)

-- ---- a cell more

-- a cell, at an address that a row says is above zero
abbrev pub cell_known : PlainState → Linear → Linear → PlainState
cell_known s x y = row_added (cell_added s x y) (row_of x AtLeast one_value Int)

pub record CellKnown (p : PlainProgram) (v : Valuation) (T : Table) (s : PlainState) (x y : Linear)
    (q : Stock) : Type 0 where
  pub meets : Meets [] v (cell_known s x y)
  pub knows : Knows p [] v T (cell_known s x y) q

pub cell-known :
    (p : PlainProgram) (v : Valuation) (T : Table) (s : PlainState) (x y : Linear) (held : Stock) →
    Meets [] v s → Knows p [] v T s held → Over (Usable [] s.sorts Int) x →
    Over (Usable [] s.sorts Int) y → pos 0 <ℤ value v.whole x →
    CellKnown p v T s x y (both p held (cell_stock (value v.whole x) (value v.whole y)))
cell-known p v T s x y held m k ox oy up =
    let R = Usable [] s.sorts in
    let one = value-number v.whole (pos 1) in
    let least : value v.whole one_value ≤ℤ value v.whole x = omega (arith, ints, up, one) in
    let q = cell_stock (value v.whole x) (value v.whole y) in
    let b = knows-more p [] v T s held (both p held q) (inside-first p held q) k in
    let with_cell_is : Meets [] v (cell_added s x y) = record {
      sorted = m.sorted;
      rows = m.rows;
      rows_over = m.rows_over;
      cells_over = all-both (CellOver R) s.cells ((x, y) ∷ []) m.cells_over ((ox, oy), tt);
      positive =
          all-both (λ c. pos 0 <ℤ value v.whole c.0) s.cells ((x, y) ∷ []) m.positive (up, tt);
      store_over = m.store_over;
    } in
    record {
      meets =
          meets-row [] v (cell_added s x y) (row_of x AtLeast one_value Int) with_cell_is
          ((row_of-means v x AtLeast one_value Int).1 least)
          (row-over R x AtLeast one_value Int ox tt);
      knows = record {
        facts = facts-same [] v T s (cell_known s x y) refl refl k.facts;
        pieces_over = b.pieces_over;
        pieces_fit = b.pieces_fit;
        opened = b.opened;
        backed = record {
          cells =
              λ c z. (let i = need-join v s.cells ((x, y) ∷ []) c z in
              let l = k.backed.cells c z in omega (arith, i, l));
          guards = b.backed.guards;
        };
      };
    }

-- terms that were usable keep their values
values-later :
    (s : PlainState) (v w : Valuation) (ts : List Linear) → Agree (Old s) v w →
    AllByRecursion (Over (Usable [] s.sorts Int)) ts →
    map (value w.whole) ts ≡ map (value v.whole) ts
values-later s v w ts g o =
    values-alike (Usable [] s.sorts Int) v w
    (alike-less (Usable [] s.sorts Int) (Old s) v w (usable-old [] s.sorts Int)
    (agree-alike (Old s) v w g)) ts o

-- ---- items

-- it isn't conditional
abbrev pub IsPlain : PlainItem → Type 0
IsPlain (choose c x y) = ⊥
IsPlain i = Unit {0}

module _ (p : PlainProgram) (T : Table) (sc : Scope) (e : ℕ) (a : Valuation) (total : Stock)
    (goal : Filled) (way : PlainTrees → PlainTrees) where
  abbrev IsDue : PlainItem → Items → Valuation → PlainState → Type 0
  IsDue one more v s = Due p T sc e a total goal way (item one more) v s

  abbrev IsGiven :
      (i : PlainItem) (more : Items) (v : Valuation) (s : PlainState) → (PlainState → Type 0) →
      IsDue i more v s → Type 0
  IsGiven i more v s P d = ItemGiven p T sc e a total goal way i more v s P d

  -- ---- comparisons

  pub compare-gives :
      (c : Comp) (more : Items) (v : Valuation) (s : PlainState) (P : PlainState → Type 0)
      (d : IsDue (compare c) more v s) → Comes (give_item p s e (compare c)) P →
      IsGiven (compare c) more v s P d
  compare-gives c more v s P d h =
      let i = compare c in
      let g = sides-given sc e a v s c _ d.underway.ready d.fit.0
      (comes-bind (give_sides s e c) _ P h)
      in
      let m = sides-row sc e a v s c c.op _ g d.draws.1.0 in
      let t = row_added g.after (row_of g.left c.op g.right c.sort) in
      let now = underway-step p T sc e a v s t d.held d.underway m in
      goes p T sc e a total goal way i more v s P d t t m d.held g.filled m.ready.meets
      now.knows (λ ks. refl) now.firm
      (drawn-beside p T sc e a total goal way i more v s P d d.draws.0 d.draws.1.1)
      (comes-comparison g.after g.left c.op g.right c.sort P g.comes)

  -- ---- cells

  pub cell-gives :
      (place : Place) (x : Linear) (y : Slot) (more : Items) (v : Valuation) (s : PlainState)
      (P : PlainState → Type 0) (d : IsDue (cell place x y) more v s) →
      Comes (give_item p s e (cell place x y)) P → IsGiven (cell place x y) more v s P d
  cell-gives place x y more v s P d h =
      let i = cell place x y in
      let took = d.draws.1 in
      let g =
      term-given sc e a v s Int x _ d.underway.ready d.fit.0.0
      (comes-bind (give_term s e Int x) _ P h) in
      let k =
      slot-given sc e a g.step.w g.after y took.0 _ g.step.ready d.fit.0.1 took.2
      (comes-bind (give_slot g.after e Int y) _ P g.comes) in
      let m = step-trans sc e a v s g.after k.after g.step k.step in
      let w = m.w in
      let over = over-later g.after k.after Int g.term k.step.same g.over in
      let at : value w.whole g.term ≡ value a.whole x =
      number-later g.after g.step.w w Int g.term k.step.agree g.over ∙ g.number_is in
      let now = underway-step p T sc e a v s k.after d.held d.underway m in
      let known =
      cell-known p w T k.after g.term k.term d.held now.ready.meets now.knows over k.over
      (subst (λ z. pos 0 <ℤ z) (sym at) took.1) in
      let q = cell_stock (value w.whole g.term) (value w.whole k.term) in
      let same : cell_stock (value a.whole x) took.0 ≡ q =
      λ j. cell_stock (sym at j) (sym k.number_is j) in
      let room =
      drawn-held p T sc e a total goal way i more v s P d q
      (subst (λ r. Inside p (both p r d.draws.0) d.left) same took.3) in
      let comes =
      comes-comparison (cell_added k.after g.term k.term) g.term AtLeast one_value Int P
      (after-cell k.after g.term k.term _ P k.comes) in
      goes p T sc e a total goal way i more v s P d k.after (cell_known k.after g.term k.term) m
      (both p d.held q) (k.filled ∙ ap (fill_slot a y took.0) g.filled) known.meets known.knows
      (λ ks. refl) now.firm room comes

  -- ---- facts

  -- the region, arguments and state that the names have got
  record FactMade (v : Valuation) (s : PlainState) (n k : ℕ) (zs : List ℤ) (z : ℤ)
      (f : Filled) (P : PlainState → Type 0) : Type 0 where
    pub after : PlainState
    pub step : Step sc e a v s after
    pub filled : filled_at e step.w after ≡ f
    pub made : PlainFact
    pub tight : IsFirm made
    pub kind_is : made.kind ≡ k
    pub region_is : value step.w.whole made.region ≡ a.whole n
    pub args_are : map (value step.w.whole) made.args ≡ zs
    pub state_is : value step.w.whole made.state ≡ z
    pub over : FactOver (Usable [] after.sorts Int) made
    pub comes : Comes (with_fact after made) P

  fact-made :
      (place : Place) (n k : ℕ) (args : List Slot) (x : Slot) (zs : List ℤ) (z : ℤ)
      (v : Valuation) (s : PlainState) (P : PlainState → Type 0) → Ready sc e a v s →
      HasSort sc Int n → AllByRecursion (SlotFits sc Int) args × SlotFits sc Int x →
      SlotsAre a args zs → SlotIs a x z → Comes (give_item p s e (fact place n k args x)) P →
      FactMade v s n k zs z
      (fill_slot a x z (fill_slots a args zs (fill_parts a Int (variable n).parts (filled_at e v s))))
      P
  fact-made place n k args x zs z v s P r o f are is h =
      let g =
      term-given sc e a v s Int (variable n) _ r (o, tt)
      (comes-bind (give_term s e Int (variable n)) _ P h) in
      let b =
      slots-given sc e a args zs g.step.w g.after _ g.step.ready f.0 are
      (comes-bind (give_slots g.after e args) _ P g.comes) in
      let c =
      slot-given sc e a b.step.w b.after x z _ b.step.ready f.1 is
      (comes-bind (give_slot b.after e Int x) _ P b.comes) in
      let on = step-trans sc e a g.step.w g.after b.after c.after b.step c.step in
      record {
        after = c.after;
        step = step-trans sc e a v s g.after c.after g.step on;
        filled =
            c.filled
            ∙ ap (fill_slot a x z) (b.filled ∙ ap (fill_slots a args zs) g.filled);
        made = fact_of g.term k b.made c.term;
        tight = refl;
        kind_is = refl;
        region_is =
            number-later g.after g.step.w c.step.w Int g.term on.agree g.over
            ∙ g.number_is
            ∙ variable-value a n;
        args_are =
            values-later b.after b.step.w c.step.w b.made c.step.agree b.is.1 ∙ b.is.0;
        state_is = c.number_is;
        over = (
          over-later g.after c.after Int g.term on.same g.over,
          all-more (Over (Usable [] b.after.sorts Int)) (Over (Usable [] c.after.sorts Int))
              (λ t. over-later b.after c.after Int t c.step.same) b.made b.is.1,
          c.over,
        );
        comes = c.comes;
      }

  pub fact-gives :
      (place : Place) (n k : ℕ) (args : List Slot) (x : Slot) (more : Items) (v : Valuation)
      (s : PlainState) (P : PlainState → Type 0) (d : IsDue (fact place n k args x) more v s) →
      Comes (give_item p s e (fact place n k args x)) P →
      IsGiven (fact place n k args x) more v s P d
  fact-gives place n k args x more v s P d h =
      let i = fact place n k args x in
      let tells = d.draws.1.0 in
      let g =
      fact-made place n k args x tells.0 tells.1 v s P d.underway.ready d.fit.0.0
      (fact-slots sc (slice_get p.regions k) args x d.fit.0.1) tells.3 tells.4 h in
      let f = g.made in
      let w = g.step.w in
      let now = underway-step p T sc e a v s g.after d.held d.underway g.step in
      let holds : FactHolds w T f = (
        Some tells.1,
        ap T g.region_is
            ∙ tells.2
            ∙ (λ j. Some (known_as (sym g.kind_is j) (sym g.args_are j) (Some tells.1))),
        subst (λ b. StateHolds b (Some tells.1) (value w.whole f.state)) (sym g.tight)
            (ap Some (sym g.state_is)),
      ) in
      let known =
      fact-known p [] w T g.after f d.held now.ready.meets now.knows now.firm g.tight holds
      g.over in
      goes p T sc e a total goal way i more v s P d g.after (fact_added g.after f) g.step d.held g.filled
      known.meets
      known.knows (λ ks. refl) known.firm
      (drawn-beside p T sc e a total goal way i more v s P d d.draws.0 d.draws.1.1)
      (comes-fact g.after f P (no-other-type w T f g.after.facts holds now.knows.facts.holds)
      g.comes)

  -- ---- guards

  pub atom-gives :
      (ne : Composes total) (place : Place) (n k l : ℕ) (asked : Asked) (more : Items)
      (v : Valuation) (s : PlainState) (P : PlainState → Type 0)
      (d : IsDue (atom place n k l asked) more v s) →
      Comes (give_item p s e (atom place n k l asked)) P →
      IsGiven (atom place n k l asked) more v s P d
  atom-gives ne place n k l asked more v s P d h =
      let i = atom place n k l asked in
      let b = atom_algebra (algebra_of p k) l in
      let wants = d.draws.1.1 in
      let y = wants.element in
      let fit = atom-form sc (slice_get p.regions k) l asked d.fit.0.1 in
      let g =
      term-given sc e a v s Int (variable n) _ d.underway.ready (d.fit.0.0, tt)
      (comes-bind (give_term s e Int (variable n)) _ P h) in
      let f =
      form-given sc e a g.step.w g.after y _ g.step.ready asked b fit.1 wants.wanted
      (comes-bind (give_form g.after e asked) _ P g.comes) in
      let m = step-trans sc e a v s g.after f.after g.step f.step in
      let w = m.w in
      let now = underway-step p T sc e a v s f.after d.held d.underway m in
      let r = piece g.term k l f.made in
      let at : a.whole n ≡ value w.whole g.term =
      sym (number-later g.after g.step.w w Int g.term f.step.agree g.over
      ∙ g.number_is
      ∙ variable-value a n) in
      let q = piece_stock p w r y in
      let same : guard_stock (a.whole n) d.draws.1.0 ≡ q =
      λ j. guard_stock (at j) (wants.is_mark j) in
      let room =
      drawn-held p T sc e a total goal way i more v s P d q
      (subst (λ z. Inside p (both p z d.draws.0) d.left) same d.draws.1.2) in
      let held = both p d.held q in
      let inside =
      inside-trans p held (both p held d.draws.0) total (inside-first p held d.draws.0) room in
      let known =
      piece-known p [] w T f.after r y d.held now.ready.meets now.knows
      (fit.0, shaped-takes sc b asked f.made fit.1 f.is.1)
      (over-later g.after f.after Int g.term f.step.same g.over, f.is.2) f.is.0
      (composes-inside p held total inside ne) in
      goes p T sc e a total goal way i more v s P d f.after (piece_added p f.after r) m held
      (f.filled ∙ ap (fill_form a asked y wants.wanted) g.filled) known.meets
      known.knows (λ ks. refl) now.firm room (comes-piece p f.after r P f.comes).2

  -- ---- any item but a conditional one

  pub item-gives :
      (ne : Composes total) (i : PlainItem) → IsPlain i → (more : Items) (v : Valuation)
      (s : PlainState) (P : PlainState → Type 0) (d : IsDue i more v s) →
      Comes (give_item p s e i) P →
      IsGiven i more v s P d
  item-gives ne (compare c) ok more v s P d k = compare-gives c more v s P d k
  item-gives ne (choose c x y) ok more v s P d k = absurd ok
  item-gives ne (fact place n k args x) ok more v s P d c =
      fact-gives place n k args x more v s P d c
  item-gives ne (atom place n k i asked) ok more v s P d c =
      atom-gives ne place n k i asked more v s P d c
  item-gives ne (cell place x y) ok more v s P d c = cell-gives place x y more v s P d c
