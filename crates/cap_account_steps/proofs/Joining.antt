-- A fact is added where the fact of its region may be loose: the variable that is its state gets
-- the new fact's state, and is no longer kept free.
use Rattle.cap_account_resources.proofs.Heaps.{both-true}
use Rattle.std.proofs.Common.{◌≡◌, ◌≢◌, inr, inl, ◌⊎◌, ℕ, ◌<◌, List, [], ◌∷◌, length, map, cond, Option, Some, None, Bool, true, false, refl, sym, ap, ◌∙◌, subst}
use Rattle.std.specs.Prelude.{find, ◌==◌, if◌then◌else◌}
use Rattle.std.specs.List.{AllByRecursion}
use Rattle.cap_lin.specs.Linear.{variable, same_term}
use Rattle.cap_lin.specs.Rows.{row_of}
use Rattle.cap_lin.specs.Values.{Valuation, value}
use Rattle.cap_lin.specs.Solves.{Holds}
use Rattle.cap_lin.specs.Laws.Sameness.{same_term-decides}
use Rattle.cap_lin.specs.declared.row.Sort.{Sort}
use Rattle.cap_lin.specs.declared.row.Sort.TheVariants.{Int}
use Rattle.cap_lin.specs.declared.row.Op.TheVariants.{Eq as Equal}
use Rattle.cap_lin.proofs.Rows.{row_of-means}
use Rattle.cap_prog.specs.Program.{PlainProgram}
use Rattle.cap_machine_accounts.specs.Accounts.{EachTwo}
use Rattle.cap_goal_spec.specs.States.{PlainFact, PlainState}
use Rattle.cap_rules.specs.Making.{is_of_region, without_first}
use Rattle.cap_account_states.proofs.KnowsLater.{backed-at}
use Rattle.cap_account_resources.specs.Parts.{Table}
use Rattle.cap_account_resources.proofs.Lists.{some-same, none-some, all-more, all-both}
use Rattle.cap_account_resources.proofs.Stocks.{Stock}
use Rattle.cap_account_states.proofs.Terms.{Over, vars-more, RowOver, row-over, Agree, agree-same, agree-less, value-agree}
use Rattle.cap_account_states.proofs.Alike.{agree-alike}
use Rattle.cap_account_states.proofs.Meets.{Free, Usable}
use Rattle.cap_account_states.proofs.Facts.{FactHolds, StateOver, FactOver, LooseState, StatesDiffer, Facts, facts-alike, fact-more, equal_rows, merging_rows, fact_added, knowns-same, equal-hold, equal-over, found-all, all-without, tight-state, each-without, each-last}
use Rattle.cap_account_states.proofs.Backed.{IsFirm, Grounded, Backed}
use Rattle.cap_account_assertions.proofs.Named.{set_to, lone, joined_values}
use Rattle.cap_account_steps.proofs.Exact.{all-two}
use Rattle.cap_account_steps.proofs.KeptFree.{set-agrees, set-is, set-whole, kept-other, AllSorted, grounded-at, usable-free, grounded-free, all_but, all-but, but-free, among-but, but-or}

-- what is found stands to all others as each two of the list do
found-rest :
    {X : Type 0} (R : X → X → Type 0) (test : X → Bool) → ((x y : X) → R x y → R y x) →
    (xs : List X) (x : X) → EachTwo R xs → find test xs ≡ Some x →
    AllByRecursion (R x) (without_first test xs)
found-rest R test back [] x h e = tt
found-rest R test back (y ∷ ys) x h e = by (test y) e (λ q. found-rest R test back ys x h.1 q)
  where
    by :
        (b : Bool) → cond b (Some y) (find test ys) ≡ Some x →
        (find test ys ≡ Some x → AllByRecursion (R x) (without_first test ys)) →
        AllByRecursion (R x) (if b then ys else y ∷ without_first test ys)
    by true q f = subst (λ z. AllByRecursion (R z) ys) (some-same y x q) h.0
    by false q f = (back y x (found-all (R y) test ys x h.0 q).0, f q)

-- ---- what is freed

pub record Joined (p : PlainProgram) (ks : List ℕ) (v : Valuation) (U : Table) (s : PlainState)
    (f : PlainFact) : Type 0 where
  pub w : Valuation
  pub named : w ≡ joined_values v f (find (is_of_region f) s.facts)
  pub agree : Agree (Free ks) v w
  pub js : List ℕ
  pub less : (y : ℕ) → Free ks y → Free js y
  pub kept :
      (y : ℕ) → Free js y →
      Free ks y
      ⊎ ((h : PlainFact) × (find (is_of_region f) s.facts ≡ Some h) × (h.loose ≡ true)
      × (y ≡ lone h.state))
  pub old : AllByRecursion (λ k. k < length s.sorts) js
  pub grounded : Grounded p js w (fact_added s f)
  pub facts : Facts js w U (fact_added s f)
  pub backed : (q : Stock) → Backed p v s q → Backed p w (fact_added s f) q

module _ (p : PlainProgram) (ks : List ℕ) (v : Valuation) (U : Table) (s : PlainState)
    (f : PlainFact) (lower : AllByRecursion (λ k. k < length s.sorts) ks) (g : Grounded p ks v s)
    (fs : Facts ks v U s) (firm : IsFirm f) (holds : FactHolds v U f)
    (over : FactOver (Usable ks s.sorts Int) f) where
  abbrev test : PlainFact → Bool
  test = is_of_region f

  abbrev others : List PlainFact
  others = without_first test s.facts

  -- values and variables kept free at which the other facts stay loose as they are, and the fact of
  -- the region has the state of the new one
  record Freed : Type 0 where
    w : Valuation
    named : w ≡ joined_values v f (find test s.facts)
    agree : Agree (Free ks) v w
    sorted : AllSorted s.sorts w
    js : List ℕ
    less : (y : ℕ) → Free ks y → Free js y
    kept :
        (y : ℕ) → Free js y →
        Free ks y
        ⊎ ((h : PlainFact) × (find test s.facts ≡ Some h) × (h.loose ≡ true)
        × (y ≡ lone h.state))
    old : AllByRecursion (λ k. k < length s.sorts) js
    loose : AllByRecursion (LooseState js s.sorts) others
    same :
        (h : PlainFact) → find test s.facts ≡ Some h →
        (value w.whole h.state ≡ value w.whole f.state) × Over (Usable js s.sorts Int) h.state

  -- facts at these values
  near : (x : ℕ) → Usable ks s.sorts Int x → Free ks x
  near x h = h.1

  facts-at :
      (w : Valuation) → Agree (Free ks) v w → (hs : List PlainFact) →
      AllByRecursion (FactOver (Usable ks s.sorts Int)) hs → AllByRecursion (FactHolds v U) hs →
      AllByRecursion (FactHolds w U) hs
  facts-at w a hs o h =
      facts-alike (Free ks) v w U (agree-alike (Free ks) v w a) hs
      (all-more (FactOver (Usable ks s.sorts Int)) (FactOver (Free ks))
      (fact-more (Usable ks s.sorts Int) (Free ks) near) hs o) h

  -- a fact of the region says the same of it, but for the state
  module _ (w : Valuation) (a : Agree (Free ks) v w) (h : PlainFact)
      (is : find test s.facts ≡ Some h) where
    abbrev Same : Type 0
    Same = (map (value w.whole) h.args ≡ map (value w.whole) f.args)
        × (h.loose ≡ false → value w.whole h.state ≡ value w.whole f.state)

    says-same : Same
    says-same =
        let at = found-all (FactHolds w U) test s.facts h (facts-at w a s.facts fs.over fs.holds) is
        in
        let own = (facts-at w a (f ∷ []) (over, tt) (holds, tt)).0 in
        let t = (both-true (same_term h.region f.region) (h.kind == f.kind) at.1).0 in
        let q = knowns-same w U f h
        (ap (value w.whole) ((same_term-decides h.region f.region).0 t)) own at.0 in (
          q.1,
          λ e. some-same (value w.whole h.state) (value w.whole f.state)
              (sym (tight-state h.loose at.0.0 (value w.whole h.state) e at.0.2) ∙ q.2
              ∙ tight-state f.loose own.0 (value w.whole f.state) firm own.2),
        )

  state-over : (P : ℕ → Type 0) (h : PlainFact) → FactOver P h → h.loose ≡ false → Over P h.state
  state-over P h o e = subst (λ b. StateOver P b h.state) e o.2

  -- nothing changes, where no loose fact is found
  plainly :
      ((h : PlainFact) → find test s.facts ≡ Some h → h.loose ≡ false) → Freed
  plainly tight = record {
    w = v;
    named = same-values (find test s.facts) refl;
    agree = agree-same (Free ks) v;
    sorted = g.meets.sorted;
    js = ks;
    less = λ y h. h;
    kept = λ y h. inl h;
    old = lower;
    loose = all-without (LooseState ks s.sorts) test s.facts fs.loose;
    same = λ h e. (
      (says-same v (agree-same (Free ks) v) h e).1 (tight h e),
      state-over (Usable ks s.sorts Int) h
          (found-all (FactOver (Usable ks s.sorts Int)) test s.facts h fs.over e).0 (tight h e),
    );
  }
    where
      same-values : (o : Option PlainFact) → find test s.facts ≡ o → v ≡ joined_values v f o
      same-values None e = refl
      same-values (Some h) e =
          sym (ap (λ b. if b then set_to v (lone h.state) (value v.whole f.state) else v)
          (tight h e))

  set-state :
      (h : PlainFact) → find test s.facts ≡ Some h → h.loose ≡ true → Freed
  set-state h is e =
      let q = (found-all (LooseState ks s.sorts) test s.facts h fs.loose is).0 e in
      let x = q.0 in
      let z = value v.whole f.state in
      let w = set_to v x z in
      let js = all_but x ks in
      let a : Agree (Free ks) v w =
      agree-less (Free ks) (λ y. y ≢ x) v w (λ y i. kept-other ks x y q.2 i) (set-agrees v x z) in
      let apart = found-rest StatesDiffer test (λ a b d k l n. d l k (sym n)) s.facts h fs.differ is
      in
      record {
        w = w;
        named =
            ap (λ y. set_to v y z) (sym (ap lone q.1))
            ∙ sym (ap (joined_values v f) is
            ∙ ap (λ b. if b then set_to v (lone h.state) z else v) e);
        agree = a;
        sorted = λ y i. set-whole v x z y (g.meets.sorted y i);
        js = js;
        less = λ y i. all-but (λ k. y ≢ k) x ks i;
        kept = λ y i. elim (but-or x y ks i) [
          | inl k ↦ inl k
          | inr same ↦ inr (h, is, e, same ∙ sym (ap lone q.1))
        ];
        old = all-but (λ k. k < length s.sorts) x ks lower;
        loose =
            all-two (LooseState ks s.sorts) (StatesDiffer h) (LooseState js s.sorts)
            (λ k l d m.
            let r = l m in (
              r.0,
              r.1,
              among-but x r.0 ks
                  (λ n. d e m (q.1 ∙ ap variable (sym n) ∙ sym r.1)) r.2,
              r.3,
            ))
            others (all-without (LooseState ks s.sorts) test s.facts fs.loose) apart;
        same = λ k i.
            let n = some-same h k (sym is ∙ i) in
            subst
            (λ k. (value w.whole k.state ≡ value w.whole f.state)
            × Over (Usable js s.sorts Int) k.state) n (
              ap (value w.whole) q.1 ∙ set-is v x z
                  ∙ sym (value-agree (Free ks) v w a f.state
                  (vars-more (Usable ks s.sorts Int) (Free ks) near f.state.parts
                  (state-over (Usable ks s.sorts Int) f over firm))),
              subst (Over (Usable js s.sorts Int)) (sym q.1) ((q.3, but-free x ks), tt),
            );
      }

  freed : Freed
  freed = by (find test s.facts) refl
    where
      by-loose :
          (h : PlainFact) (b : Bool) → h.loose ≡ b → find test s.facts ≡ Some h → Freed
      by-loose h true e is = set-state h is e
      by-loose h false e is =
          plainly (λ k i. ap (λ (y : PlainFact). y.loose) (some-same k h (sym i ∙ is)) ∙ e)

      by : (o : Option PlainFact) → find test s.facts ≡ o → Freed
      by None e = plainly (λ h i. absurd (none-some (sym e ∙ i)))
      by (Some h) e = by-loose h h.loose refl e

  module _ (r : Freed) where
    abbrev S : Sort → ℕ → Type 0
    S = Usable r.js s.sorts

    stronger : (h : PlainFact) → FactOver (Usable ks s.sorts Int) h → FactOver (S Int) h
    stronger h o =
        fact-more (Usable ks s.sorts Int) (S Int) (usable-free p s ks r.js r.less Int) h o

    rows-hold :
        (o : Option PlainFact) → find test s.facts ≡ o →
        AllByRecursion (Holds r.w) (merging_rows f o)
        × AllByRecursion (RowOver S) (merging_rows f o)
    rows-hold None e = (tt, tt)
    rows-hold (Some h) e =
        let m = r.same h e in
        let theirs = stronger h
        (found-all (FactOver (Usable ks s.sorts Int)) test s.facts h fs.over e).0 in
        let own = stronger f over in
        let row = row_of h.state Equal f.state Int in (
          all-both (Holds r.w) (equal_rows h.args f.args) (row ∷ [])
              (equal-hold r.w h.args f.args (says-same r.w r.agree h e).0)
              ((row_of-means r.w h.state Equal f.state Int).1 m.0, tt),
          all-both (RowOver S) (equal_rows h.args f.args) (row ∷ [])
              (equal-over S h.args f.args theirs.1 own.1)
              (row-over S h.state Equal f.state Int m.1 (state-over (S Int) f own firm), tt),
        )

    joined-by : Joined p ks v U s f
    joined-by =
        let w = r.w in
        let js = r.js in
        let found = find test s.facts in
        let rows = rows-hold found refl in
        let b = grounded-free p s ks js w (usable-free p s ks js r.less)
        (grounded-at p s ks v w r.agree r.sorted g) in
        let m = b.meets in
        let kept = facts-at w r.agree s.facts fs.over fs.holds in
        let more = all-more (FactOver (Usable ks s.sorts Int)) (FactOver (S Int)) stronger s.facts
        fs.over in
        record {
          w = w;
          named = r.named;
          agree = r.agree;
          js = js;
          less = r.less;
          kept = r.kept;
          old = r.old;
          grounded = record {
            meets = record {
              sorted = m.sorted;
              rows = all-both (Holds w) s.rows (merging_rows f found) m.rows rows.0;
              rows_over = all-both (RowOver S) s.rows (merging_rows f found) m.rows_over rows.1;
              cells_over = m.cells_over;
              positive = m.positive;
              store_over = m.store_over;
            };
            pieces_over = b.pieces_over;
            pieces_fit = b.pieces_fit;
          };
          facts = record {
            holds = all-both (FactHolds w U) others (f ∷ [])
                (all-without (FactHolds w U) test s.facts kept)
                (facts-at w r.agree (f ∷ []) (over, tt) (holds, tt));
            over = all-both (FactOver (S Int)) others (f ∷ [])
                (all-without (FactOver (S Int)) test s.facts more) (stronger f over, tt);
            loose = all-both (LooseState js s.sorts) others (f ∷ []) r.loose
                ((λ e. absurd (not-both e)), tt);
            differ = each-last StatesDiffer others f
                (each-without StatesDiffer test s.facts fs.differ)
                (λ h a e. absurd (not-both e));
          };
          backed = λ q d.
              let e = backed-at p s ks (Free ks) v w q
              (λ o x h. h.1) (agree-alike (Free ks) v w r.agree) g d in
              record { cells = e.cells; guards = e.guards };
        }
      where
        not-both : f.loose ≡ true → ⊥
        not-both e = absurd (cc)

  pub fact-joined : Joined p ks v U s f
  fact-joined = joined-by freed
