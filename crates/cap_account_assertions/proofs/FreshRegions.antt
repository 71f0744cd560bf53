-- A fresh region with all its guards, which no fact names: the state in which its case is taken.
use Rattle.cap_account_resources.proofs.Order.{same-or}
use Rattle.std.proofs.Common.{◌≡◌, ◌≢◌, ℕ, ◌+◌, ◌<◌, ℤ, ◌*ℤ◌, List, [], ◌∷◌, ◌++◌, length, Option, Some, None, sym, ap, ◌∙◌, subst, arith, inl, inr}
use Rattle.std.specs.Prelude.{slice_get}
use Rattle.std.specs.List.{AllByRecursion}
use Rattle.cap_lin.specs.Linear.{Linear}
use Rattle.cap_lin.specs.Values.{Valuation, denominator, value}
use Rattle.cap_lin.specs.Solves.{IsWholeAt}
use Rattle.cap_lin.specs.declared.row.Row.{Row}
use Rattle.cap_lin.specs.declared.row.Sort.TheVariants.{Int}
use Rattle.cap_galg.specs.Algebras.{full}
use Rattle.cap_gsolve.specs.declared.piece.Piece.{Piece}
use Rattle.cap_gsolve.specs.Pieces.{full_pieces}
use Rattle.cap_prog.specs.Program.{PlainRegionType, PlainProgram}
use Rattle.cap_machine_accounts.specs.Parts.{kind_algebra, algebra_of}
use Rattle.cap_goal_spec.specs.States.{PlainFact, PlainState}
use Rattle.cap_rules.specs.Attempts.{Attempt, ◌>>=◌}
use Rattle.cap_rules.specs.Making.{fresh, with_differing, with_pieces}
use Rattle.cap_rules.specs.Taking.{with_new_region}
use Rattle.cap_account_states.proofs.Alike.{usable-alike, Alike, agree-alike, need-alike, meets-fresh}
use Rattle.cap_account_resources.specs.Parts.{Table}
use Rattle.cap_account_resources.proofs.Lists.{none-some, get-last, all-more, all-both}
use Rattle.cap_account_resources.proofs.Marks.{Mark, free, joins-law}
use Rattle.cap_account_resources.proofs.Covering.{join_marks, mark, free-right}
use Rattle.cap_account_resources.proofs.Room.{all_guards, alone, alone-here, alone-away}
use Rattle.cap_account_resources.proofs.Stocks.{Stock, guard_stock, both, Composes}
use Rattle.cap_account_states.specs.Nodes.{Comes}
use Rattle.cap_account_states.proofs.Terms.{Over, vars-more}
use Rattle.cap_account_states.proofs.Attempts.{comes-bind, after-sort, sort_added}
use Rattle.cap_account_states.proofs.Brought.{Brought, a_whole}
use Rattle.cap_account_states.proofs.Meets.{Free, Usable, usable-on, usable-old, Old, same-fresh, with_value, new-whole, new-share, with-agrees, variable-value}
use Rattle.cap_account_states.proofs.Compatible.{pieces-more, covered-alike}
use Rattle.cap_account_states.proofs.Facts.{FactHolds, FactOver, Facts, facts-on}
use Rattle.cap_account_states.proofs.Budgets.{full-mark}
use Rattle.cap_account_states.proofs.Sums.{all-full}
use Rattle.cap_account_states.proofs.Backed.{IsOpened, Backed, Grounded}
use Rattle.cap_account_assertions.proofs.RuleSteps.{with_rows_of, IsApart, apart-from}
use Rattle.cap_account_assertions.proofs.ManyPieces.{with_parts, pieces-held}

-- ---- what is known of a state by a table

pub record IsKnown (p : PlainProgram) (ks : List ℕ) (T : Table) (v : Valuation) (s : PlainState)
    (c : Stock) : Type 0 where
  pub grounded : Grounded p ks v s
  pub facts : Facts ks v T s
  pub opened : AllByRecursion (IsOpened (Usable ks s.sorts Int) v T) s.opened
  pub backed : Backed p v s c

-- ---- the fresh variable

-- it stands for the region's number
abbrev pub fresh_values : PlainState → Valuation → ℤ → Valuation
fresh_values s v n = with_value v (length s.sorts) n (n *ℤ denominator v.fraction)

pub fresh-number :
    (s : PlainState) (v : Valuation) (n : ℤ) → value (fresh_values s v n).whole (fresh s) ≡ n
fresh-number s v n =
    variable-value (fresh_values s v n) (length s.sorts)
    ∙ new-whole v (length s.sorts) n (n *ℤ denominator v.fraction)

pub fresh-alike : (s : PlainState) (v : Valuation) (n : ℤ) → Alike (Old s) v (fresh_values s v n)
fresh-alike s v n =
    agree-alike (Old s) v (fresh_values s v n)
    (with-agrees (Old s) v (length s.sorts) n (n *ℤ denominator v.fraction)
    (λ x l e. omega (arith, l, e)))

fresh-whole :
    (s : PlainState) (v : Valuation) (n : ℤ) → IsWholeAt (fresh_values s v n) (length s.sorts)
fresh-whole s v n =
    let x = length s.sorts in
    let d = denominator v.fraction in
    new-share v x n (n *ℤ d) ∙ ap (λ z. z *ℤ d) (sym (new-whole v x n (n *ℤ d)))

-- the number is what the rule brings
pub fresh-brought :
    (s t : PlainState) (v : Valuation) (n : ℤ) → length t.sorts ≡ length s.sorts + 1 →
    Brought s t (fresh_values s v n) (a_whole n ∷ [])
fresh-brought s t v n e = record {
  count = omega (arith, e);
  are = (
    new-whole v (length s.sorts) n (n *ℤ denominator v.fraction),
    fresh-whole s v n,
    tt,
  );
}

pub free-above :
    (n : ℕ) (ks : List ℕ) → AllByRecursion (λ k. k < n) ks → Free ks n
free-above n ks h = all-more (λ k. k < n) (λ k. n ≢ k) (λ k l e. omega (arith, l, e)) ks h

pub fresh-usable :
    (ks : List ℕ) (s : PlainState) → AllByRecursion (λ k. k < length s.sorts) ks →
    Usable ks (s.sorts ++ Int ∷ []) Int (length s.sorts)
fresh-usable ks s low = (get-last s.sorts Int, free-above (length s.sorts) ks low)

-- with it all is known that was
fresh-known :
    (p : PlainProgram) (ks : List ℕ) (T : Table) (v : Valuation) (s : PlainState) (c : Stock)
    (n : ℤ) → IsKnown p ks T v s c → IsKnown p ks T (fresh_values s v n) (sort_added s Int) c
fresh-known p ks T v s c n h =
    let x = length s.sorts in
    let w = fresh_values s v n in
    let t = sort_added s Int in
    let d = denominator v.fraction in
    let l = fresh-alike s v n in
    let R = Usable ks s.sorts in
    let S = Usable ks t.sorts in
    let on = usable-on ks s.sorts t.sorts (same-fresh s Int).sorts in
    let old = usable-old ks s.sorts in
    let m = h.grounded.meets in
    record {
      grounded = record {
        meets =
            meets-fresh ks v w s Int
            (with-agrees (Old s) v x n (n *ℤ d) (λ y a e. omega (arith, a, e)))
            (fresh-whole s v n) m;
        pieces_over = pieces-more R S on s.guards h.grounded.pieces_over;
        pieces_fit = h.grounded.pieces_fit;
      };
      facts = facts-on ks v w T s t (same-fresh s Int) l h.facts;
      opened =
          all-more (IsOpened (R Int) v T) (IsOpened (S Int) w T)
          (λ f o. (
            vars-more (R Int) (S Int) (on Int) f.region.parts o.0,
            o.1,
            ap T (usable-alike ks s v w l f.region o.0) ∙ o.2,
          )) s.opened h.opened;
      backed = record {
        cells = λ a z.
            let e = need-alike R (Old s) v w (old Int) l s.cells m.cells_over a z in
            let b = h.backed.cells a z in omega (arith, e, b);
        guards = λ i.
            covered-alike p (Old s) v w l s.guards i (c.guards i)
            (pieces-more R (λ o. Old s) old s.guards h.grounded.pieces_over) (h.backed.guards i);
      };
    }

-- a region that the table lacks is none of those that are known
apart-of :
    (p : PlainProgram) (ks : List ℕ) (T : Table) (v : Valuation) (s : PlainState) (c : Stock)
    (t : Linear) → IsKnown p ks T v s c → T (value v.whole t) ≡ None →
    AllByRecursion (IsApart (Usable ks s.sorts Int) v t) (s.facts ++ s.opened)
apart-of p ks T v s c t h none =
    let P = Usable ks s.sorts Int in
    all-both (IsApart P v t) s.facts s.opened
    (both-of s.facts h.facts.over h.facts.holds)
    (all-more (IsOpened P v T) (IsApart P v t)
    (λ f o. (o.0, λ e. none-some (sym none ∙ ap T e ∙ o.2))) s.opened h.opened)
  where
    both-of :
        (fs : List PlainFact) → AllByRecursion (FactOver (Usable ks s.sorts Int)) fs →
        AllByRecursion (FactHolds v T) fs →
        AllByRecursion (IsApart (Usable ks s.sorts Int) v t) fs
    both-of [] o k = tt
    both-of (f ∷ fs) o k =
        ((o.0.0, λ e. none-some (sym none ∙ ap T e ∙ k.0.1)), both-of fs o.1 k.1)

-- ---- the region

abbrev pub fresh_state : PlainState → List Row → List Piece → PlainState
fresh_state s rows guards = with_parts (sort_added s Int) rows guards

pub record FreshRegion (p : PlainProgram) (ks : List ℕ) (T : Table) (n : ℤ) (v : Valuation)
    (s : PlainState) (c : Stock) (k : ℕ) (P : PlainState → Type 0) : Type 0 where
  pub rows : List Row
  pub guards : List Piece
  pub known :
      IsKnown p ks T (fresh_values s v n) (fresh_state s rows guards)
      (both p c (guard_stock n (all_guards p k)))
  pub comes : P (fresh_state s rows guards)

pub fresh-region :
    (p : PlainProgram) (ks : List ℕ) (T : Table) (n : ℤ) (v : Valuation) (s : PlainState)
    (c : Stock) (y : PlainRegionType) (k : ℕ) (P : PlainState → Type 0) →
    slice_get p.regions k ≡ Some y → IsKnown p ks T v s c →
    AllByRecursion (λ x. x < length s.sorts) ks → T n ≡ None →
    Composes (both p c (guard_stock n (all_guards p k))) → Comes (with_new_region p s y k) P →
    FreshRegion p ks T n v s c k P
fresh-region p ks T n v s c y k P is h low none ok comes =
    let w = fresh_values s v n in
    let t = fresh s in
    let s1 = sort_added s Int in
    let number = fresh-number s v n in
    let last : PlainState → Attempt PlainState = λ u. with_pieces p u (full_pieces y.algebra t k) in
    let first : PlainState → Attempt PlainState =
    λ u. with_differing u t (s.facts ++ s.opened) >>= last in
    let over : Over (Usable ks s1.sorts Int) t = (fresh-usable ks s low, tt) in
    let g = fresh-known p ks T v s c n h in
    let a = apart-from ks w t (s.facts ++ s.opened) s1 (λ u. Comes (last u) P) g.grounded.meets over
    (apart-of p ks T w s1 c t g (ap T number ∙ none))
    (comes-bind (with_differing s1 t (s.facts ++ s.opened)) last P
    (after-sort s Int first P comes)) in
    let s2 = with_rows_of s1 a.0 in
    let same : algebra_of p k ≡ y.algebra = ap kind_algebra is in
    let stock : guard_stock (value w.whole t) (mark k (full (algebra_of p k)))
    ≡ guard_stock n (all_guards p k) =
    ap (λ z. guard_stock z (mark k (full (algebra_of p k)))) number
    ∙ ap (guard_stock n) (full-mark p k) in
    let held = pieces-held p ks w t k (full_pieces (algebra_of p k) t k) (full (algebra_of p k)) s2
    c P (all-full (algebra_of p k) k w t) over
    (record {
      meets = a.1;
      pieces_over = g.grounded.pieces_over;
      pieces_fit = g.grounded.pieces_fit;
    })
    (record { cells = g.backed.cells; guards = g.backed.guards })
    (subst (λ q. Composes (both p c q)) (sym stock) ok)
    (subst (λ b. Comes (with_pieces p s2 (full_pieces b t k)) P) (sym same) a.2) in
    record {
      rows = held.rows;
      guards = held.guards;
      known = record {
        grounded = held.grounded;
        facts = record {
          holds = g.facts.holds;
          over = g.facts.over;
          loose = g.facts.loose;
          differ = g.facts.differ;
        };
        opened = g.opened;
        backed =
            subst (λ q. Backed p w (with_parts s2 held.rows held.guards) (both p c q)) stock
            held.backed;
      };
      comes = held.comes;
    }

-- nobody holds guards of a number where all that must compose has none
pub fresh-composes :
    (p : PlainProgram) (n : ℤ) (lim : ℤ → Option Mark) (k : ℕ) → ((i : ℤ) → lim i ≢ None) →
    lim n ≡ Some free → (i : ℤ) → join_marks p (lim i) (alone n (all_guards p k) i) ≢ None
fresh-composes p n lim k some unheld i e = elim (same-or n i) [
  | inl q ↦
      there
      (sym ((joins-law p).zero_left (all_guards p k))
      ∙ ap (λ x. join_marks p x (all_guards p k)) (sym unheld ∙ ap lim q)
      ∙ ap (join_marks p (lim i)) (sym (alone-here n (all_guards p k) i q)) ∙ e)
  | inr q ↦
      some i (sym (free-right p (lim i))
      ∙ ap (join_marks p (lim i)) (sym (alone-away n (all_guards p k) i q)) ∙ e)
]
  where
    there : all_guards p k ≡ None → ⊥
    there q = cc
