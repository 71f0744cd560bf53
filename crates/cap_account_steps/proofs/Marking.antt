-- The marks of pairs of an opened region and a fact: either the two regions differ, or the fact is
-- loose from then on and has a new variable as its state, which is kept free.
use Rattle.std.proofs.Common.{◌≡◌, ◌≢◌, ℕ, suc, ◌<◌, pos, List, [], ◌∷◌, ◌++◌, length, Some, Bool, true, false, inl, inr, refl, sym, ap, ◌∙◌, arith}
use Rattle.std.specs.Prelude.{slice_get, slice_set}
use Rattle.std.specs.List.{AllByRecursion}
use Rattle.cap_lin.specs.Linear.{Linear}
use Rattle.cap_lin.specs.Rows.{row_of, row_of_steps}
use Rattle.cap_lin.specs.Values.{Valuation, value}
use Rattle.cap_lin.specs.declared.row.Sort.{Sort}
use Rattle.cap_lin.specs.declared.row.Sort.TheVariants.{Int}
use Rattle.cap_lin.specs.declared.row.Op.TheVariants.{Ne as Unequal}
use Rattle.cap_lin.proofs.Rows.{row_of-means}
use Rattle.cap_prog.specs.Program.{PlainProgram}
use Rattle.cap_goal_spec.specs.States.{PlainFact, PlainState}
use Rattle.cap_rules.specs.Attempts.{unit, ◌>>=◌}
use Rattle.cap_rules.specs.Making.{with_sort, fresh}
use Rattle.cap_rules.specs.Closing.{Rival, loosened, with_mark, with_marks}
use Rattle.cap_account_resources.proofs.Lists.{all-set, all-more, get-first, get-last, within, push-length, set-length}
use Rattle.cap_account_states.specs.Nodes.{Comes}
use Rattle.cap_account_resources.specs.Parts.{Table}
use Rattle.cap_account_states.proofs.Terms.{Over, vars-more, row-over, Agree, agree-less, value-agree}
use Rattle.cap_account_states.proofs.Alike.{agree-alike}
use Rattle.cap_account_states.proofs.Attempts.{sort_added, comes-bind, after-proved, after-computed, after-sort}
use Rattle.cap_account_states.proofs.Meets.{Free, Usable, usable-on, usable-old, Old, proved-holds}
use Rattle.cap_account_states.proofs.Facts.{FactHolds, FactOver, LooseState, StatesDiffer, Facts, facts-alike, fact-more}
use Rattle.cap_account_states.proofs.Backed.{Grounded}
use Rattle.cap_account_steps.proofs.Exact.{Each, set-here, each-set, each-two-set}
use Rattle.cap_account_steps.proofs.KeptFree.{set-agrees, set-here-whole, grounded-free, grounded-fresh}
use Rattle.cap_account_assertions.proofs.Named.{set_to, lone}
use Rattle.cap_account_steps.proofs.Turning.{AsBefore, before-same, before-trans}

-- ---- pairs

-- both regions are over usable variables, and the fact holds, but for its state
pub record IsPair (ks : List ℕ) (v : Valuation) (V : Table) (s : PlainState) (x : Rival) : Type 0
  where
    pub opened_over : Over (Usable ks s.sorts Int) x.opened.region
    pub over : FactOver (Usable ks s.sorts Int) (loosened x.fact x.fact.state)
    pub holds : FactHolds v V (loosened x.fact x.fact.state)

-- facts that are firm were there before
abbrev pub FirmBefore : PlainState → PlainState → Type 0
FirmBefore s t = Each (λ i f. f.loose ≡ false → slice_get s.facts i ≡ Some f) t.facts

-- the regions differ, if the fact is firm
abbrev pub IsClear : Valuation → PlainState → Rival → Type 0
IsClear v s x =
    (f : PlainFact) → slice_get s.facts x.number ≡ Some f → f.loose ≡ false →
    value v.whole x.opened.region ≢ value v.whole x.fact.region

-- a pair's mark: without it, variable n is new, and 0
abbrev pub mark_value : Valuation → ℕ → Bool → Valuation
mark_value v n true = v
mark_value v n false = set_to v n (pos 0)

abbrev pub mark_next : ℕ → Bool → ℕ
mark_next n true = n
mark_next n false = suc n

abbrev pub mark_values : Valuation → ℕ → List Bool → Valuation
mark_values v n [] = v
mark_values v n (b ∷ ms) = mark_values (mark_value v n b) (mark_next n b) ms

abbrev pub marks_next : ℕ → List Bool → ℕ
marks_next n [] = n
marks_next n (b ∷ ms) = marks_next (mark_next n b) ms

-- what marks lead to
pub record Marked (p : PlainProgram) (V : Table) (ks : List ℕ) (v : Valuation) (s : PlainState)
    (xs : List Rival) (ms : List Bool) (P : PlainState → Type 0) : Type 0 where
  pub js : List ℕ
  pub w : Valuation
  pub named : w ≡ mark_values v (length s.sorts) ms
  pub after : PlainState
  pub comes : P after
  pub as_before : AsBefore v w s after
  pub count : length after.sorts ≡ marks_next (length s.sorts) ms
  pub rows : after.rows ≡ s.rows
  pub old : AllByRecursion (λ j. j < length after.sorts) js
  pub free : (x : ℕ) → x < length s.sorts → Free ks x → Free js x
  pub kept : (x : ℕ) → Free js x → x < length after.sorts → (x < length s.sorts) × Free ks x
  pub grounded : Grounded p js w after
  pub facts : Facts js w V after
  pub firm : FirmBefore s after
  pub clear : AllByRecursion (IsClear w after) xs

module _ (p : PlainProgram) (V : Table) where
  -- they stay pairs, and clear
  module _ (ks js : List ℕ) (v w : Valuation) (s t : PlainState) (before : AsBefore v w s t)
      (free : (x : ℕ) → x < length s.sorts → Free ks x → Free js x) (x : Rival)
      (pair : IsPair ks v V s x) where
    later-usable : (y : ℕ) → Usable ks s.sorts Int y → Usable js t.sorts Int y
    later-usable y u =
        (before.goes_on.sorts y Int u.0, free y (usable-old ks s.sorts Int y u) u.1)

    pair-later : IsPair js w V t x
    pair-later =
        let R = Usable ks s.sorts Int in
        let f = loosened x.fact x.fact.state in
        record {
          opened_over =
              vars-more R (Usable js t.sorts Int) later-usable x.opened.region.parts
              pair.opened_over;
          over = fact-more R (Usable js t.sorts Int) later-usable f pair.over;
          holds = (facts-alike (Old s) v w V (agree-alike (Old s) v w before.agree) (f ∷ [])
              (fact-more R (Old s) (usable-old ks s.sorts Int) f pair.over, tt) (pair.holds, tt)).0;
        }

    clear-later : FirmBefore s t → IsClear v s x → IsClear w t x
    clear-later firm clear f e is same =
        let at = λ (r : Linear) (o : Over (Usable ks s.sorts Int) r).
        value-agree (Old s) v w before.agree r
        (vars-more (Usable ks s.sorts Int) (Old s) (usable-old ks s.sorts Int) r.parts o) in
        clear f (firm x.number f e is) is
        (sym (at x.opened.region pair.opened_over) ∙ same ∙ at x.fact.region pair.over.0)

  -- ---- one mark

  module _ (ks : List ℕ) (v : Valuation) (s : PlainState) (x : Rival)
      (old : AllByRecursion (λ k. k < length s.sorts) ks) (g : Grounded p ks v s)
      (fs : Facts ks v V s) (pair : IsPair ks v V s x) where
    abbrev n : ℕ
    n = length s.sorts

    abbrev more : List Sort
    more = s.sorts ++ Int ∷ []

    abbrev loose_one : PlainFact
    loose_one = loosened x.fact (fresh s)

    abbrev loosened_state : PlainState
    loosened_state = record (sort_added s Int) { facts = slice_set s.facts x.number loose_one }

    abbrev zero_there : Valuation
    zero_there = set_to v n (pos 0)

    agrees : Agree (Old s) v zero_there
    agrees =
        agree-less (Old s) (λ y. y ≢ n) v zero_there (λ y l e. omega (arith, l, e))
        (set-agrees v n (pos 0))

    grow : (y : ℕ) (o : Sort) → slice_get s.sorts y ≡ Some o → slice_get more y ≡ Some o
    grow y o e = get-first s.sorts (Int ∷ []) y o e

    -- old variables stay usable
    not-new : (o : Sort) (y : ℕ) → Usable ks s.sorts o y → Usable (n ∷ ks) s.sorts o y
    not-new o y u =
        (u.0, ((λ e. let l = usable-old ks s.sorts o y u in omega (arith, l, e)), u.1))

    near : (y : ℕ) → Usable ks s.sorts Int y → Usable (n ∷ ks) more Int y
    near y u = usable-on (n ∷ ks) s.sorts more grow Int y (not-new Int y u)

    one-more : AsBefore v zero_there s loosened_state
    one-more = record {
      agree = agrees;
      goes_on = record {
        sorts = grow;
        count = (let q = push-length s.sorts Int in omega (arith, q));
        store = refl;
        opened = refl;
        before = refl;
        envs = omega arith;
      };
      facts = set-length s.facts x.number loose_one;
      cells = refl;
      guards = refl;
      envs = refl;
    }

    loosened-facts : Facts (n ∷ ks) zero_there V loosened_state
    loosened-facts =
        let R = Usable ks s.sorts Int in
        let S = Usable (n ∷ ks) more Int in
        let w = zero_there in
        let to-old = fact-more R (Old s) (usable-old ks s.sorts Int) in
        let still = facts-alike (Old s) v w V (agree-alike (Old s) v w agrees) in
        let f = loosened x.fact x.fact.state in
        record {
          holds = all-set (FactHolds w V) s.facts x.number loose_one
              (still s.facts (all-more (FactOver R) (FactOver (Old s)) to-old s.facts fs.over)
              fs.holds)
              (still (f ∷ []) (to-old f pair.over, tt) (pair.holds, tt)).0;
          over = all-set (FactOver S) s.facts x.number loose_one
              (all-more (FactOver R) (FactOver S) (fact-more R S near) s.facts fs.over)
              (fact-more R S near f pair.over);
          loose = all-set (LooseState (n ∷ ks) more) s.facts x.number loose_one
              (all-more (LooseState ks s.sorts) (LooseState (n ∷ ks) more)
              (λ h l e. let q = l e in (q.0, q.1, inr q.2, grow q.0 Int q.3)) s.facts fs.loose)
              (λ e. (n, refl, inl refl, get-last s.sorts Int));
          differ = each-two-set StatesDiffer
              (λ a b d k l e. d l k (sym e)) s.facts x.number loose_one
              (all-more (LooseState ks s.sorts) (StatesDiffer loose_one)
              (λ h l a b e.
              let q = l b in
              let same : n ≡ q.0 = ap lone (e ∙ q.1) in
              let low = within s.sorts q.0 Int q.3 in
              omega (arith, same, low)) s.facts fs.loose) fs.differ;
        }

    never-firm : (f : PlainFact) → loose_one ≡ f → f.loose ≡ false → ⊥
    never-firm f e h = let l = ap (λ (y : PlainFact). y.loose) e in absurd (cc)

    one-mark :
        (b : Bool) (P : PlainState → Type 0) → Comes (with_mark s x b) P →
        Marked p V ks v s (x ∷ []) (b ∷ []) P
    one-mark true P c =
        let a = x.opened.region in
        let b = x.fact.region in
        let k = after-proved s.rows a Unequal b Int (λ y. unit s) P c in
        let holds = proved-holds ks ks v s (row_of a Unequal b Int) g.meets k.0
        (row-over (Usable ks s.sorts) a Unequal b Int pair.opened_over pair.over.0) in
        record {
          js = ks;
          w = v;
          named = refl;
          count = refl;
          after = s;
          comes = k.1.1;
          as_before = before-same v s;
          rows = refl;
          old = old;
          free = λ y l h. h;
          kept = λ y h l. (l, h);
          grounded = g;
          facts = fs;
          firm = λ i f e h. e;
          clear = ((λ f e h. (row_of-means v a Unequal b Int).0 holds), tt);
        }
    one-mark false P c =
        let last = λ (t : PlainState). unit
        (record t { facts = slice_set s.facts x.number loose_one }) in
        let k = after-computed (row_of x.opened.region Unequal x.fact.region Int)
        (row_of_steps x.opened.region Unequal x.fact.region Int) (λ r. with_sort s Int >>= last) P
        c in
        record {
          js = n ∷ ks;
          w = zero_there;
          named = refl;
          count = (let q = push-length s.sorts Int in omega (arith, q));
          after = loosened_state;
          comes = (after-sort s Int last P k).1;
          as_before = one-more;
          rows = refl;
          old = (
            (let q = push-length s.sorts Int in omega (arith, q)),
            all-more (λ k. k < n) (λ k. k < length more)
                (λ k l. let q = push-length s.sorts Int in omega (arith, l, q)) ks old,
          );
          free = λ y l h. ((λ e. omega (arith, l, e)), h);
          kept = λ y h l. (
            (let q = push-length s.sorts Int in let ne = h.0 in omega (arith, l, q, ne)),
            h.1,
          );
          grounded =
              let b = grounded-fresh p s (n ∷ ks) v zero_there agrees (set-here-whole v n (pos 0))
              (grounded-free p s ks (n ∷ ks) v not-new g) in
              let m = b.meets in
              record {
                meets = record {
                  sorted = m.sorted;
                  rows = m.rows;
                  rows_over = m.rows_over;
                  cells_over = m.cells_over;
                  positive = m.positive;
                  store_over = m.store_over;
                };
                pieces_over = b.pieces_over;
                pieces_fit = b.pieces_fit;
              };
          facts = loosened-facts;
          firm = each-set (λ i f. slice_get s.facts i ≡ Some f)
              (λ i f. f.loose ≡ false → slice_get s.facts i ≡ Some f) s.facts x.number loose_one
              (λ i f ne e h. e) (λ h. absurd (never-firm loose_one refl h)) (λ i f e. e);
          clear = (
            (λ f e h. absurd (never-firm f (set-here s.facts x.number loose_one f e) h)),
            tt,
          );
        }

  -- ---- all marks

  pub all-marks :
      (xs : List Rival) (ms : List Bool) (ks : List ℕ) (v : Valuation) (s : PlainState)
      (P : PlainState → Type 0) → AllByRecursion (λ k. k < length s.sorts) ks →
      Grounded p ks v s → Facts ks v V s → AllByRecursion (IsPair ks v V s) xs →
      Comes (with_marks s xs ms) P → Marked p V ks v s xs ms P
  all-marks [] [] ks v s P old g fs is c = record {
    js = ks;
    w = v;
    named = refl;
    count = refl;
    after = s;
    comes = c.1;
    as_before = before-same v s;
    rows = refl;
    old = old;
    free = λ y l h. h;
    kept = λ y h l. (l, h);
    grounded = g;
    facts = fs;
    firm = λ i f e h. e;
    clear = tt;
  }
  all-marks [] (b ∷ ms) ks v s P old g fs is c = absurd c.1
  all-marks (x ∷ xs) [] ks v s P old g fs is c = absurd c.1
  all-marks (x ∷ xs) (b ∷ ms) ks v s P old g fs is c =
      let rest = λ (t : PlainState). with_marks t xs ms in
      let one = one-mark ks v s x old g fs is.0 b (λ t. Comes (rest t) P)
      (comes-bind (with_mark s x b) rest P c) in
      let later = pair-later ks one.js v one.w s one.after one.as_before one.free in
      let r = all-marks xs ms one.js one.w one.after P one.old one.grounded one.facts
      (all-more (IsPair ks v V s) (IsPair one.js one.w V one.after) later xs is.1) one.comes in
      let count = one.as_before.goes_on.count in
      let n = length s.sorts in
      record {
        js = r.js;
        w = r.w;
        named =
            r.named
            ∙ ap (λ u. mark_values u (length one.after.sorts) ms) one.named
            ∙ ap (λ i. mark_values (mark_value v n b) i ms) one.count;
        count = r.count ∙ ap (λ i. marks_next i ms) one.count;
        after = r.after;
        comes = r.comes;
        as_before = before-trans v one.w r.w s one.after r.after one.as_before r.as_before;
        rows = r.rows ∙ one.rows;
        old = r.old;
        free = λ y l h. r.free y (omega (arith, l, count)) (one.free y l h);
        kept = λ y h l. let k = r.kept y h l in one.kept y k.1 k.0;
        grounded = r.grounded;
        facts = r.facts;
        firm = λ i f e h. one.firm i f (r.firm i f e h) h;
        clear = (
          clear-later one.js r.js one.w r.w one.after r.after r.as_before r.free x (later x is.0)
              r.firm one.clear.0,
          r.clear,
        );
      }
